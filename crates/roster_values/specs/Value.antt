-- Values and what is lent of them.
use Rattle.roster_values.specs.declared.value.Value.{Value}
use Rattle.roster_values.specs.declared.value.Value.TheVariants.{Text, Id, Day, Moment, Number, Year, Flag, Word, Texts}
use Rattle.roster_values.specs.declared.value.Value.TheVariants.{UserIds, Ref, Refs}
use Rattle.roster_values.specs.declared.value.ValueRef.{ValueRef}
use Rattle.roster_values.specs.declared.value.ValueRef.TheVariants as lent

-- the value that a borrowed value stands for
abbrev pub shown : ValueRef → Value
shown (lent.Text t) = Text t.now
shown (lent.Id t) = Id t.now
shown (lent.Day d) = Day d.now
shown (lent.Moment m) = Moment m.now
shown (lent.Number n) = Number n.now
shown (lent.Year y) = Year y.now
shown (lent.Flag b) = Flag b.now
shown (lent.Word t) = Word t.now
shown (lent.Texts t) = Texts t.now
shown (lent.UserIds t) = UserIds t.now
shown (lent.Ref t) = Ref t.now
shown (lent.Refs t) = Refs t.now
