-- The variants of a value.
use Rattle.std.specs.Prelude.{Bool, true, false}
use Rattle.roster_values.specs.declared.value.Value.{Value}
use Rattle.roster_values.specs.declared.value.Value.TheVariants.{Text, Id, Day, Moment, Number, Year, Flag, Word, Texts}
use Rattle.roster_values.specs.declared.value.Value.TheVariants.{UserIds, Ref, Refs}
use Rattle.roster_values.specs.Table.{Form, TextForm, IdForm, DayForm, MomentForm, NumberForm, YearForm, FlagForm}
use Rattle.roster_values.specs.Table.{WordForm, TextsForm, UserIdsForm, RefForm, RefsForm}

-- a variant of `Value`
pub data Shape : Type 0 where
  AText : Shape
  AnId : Shape
  ADay : Shape
  AMoment : Shape
  ANumber : Shape
  AYear : Shape
  AFlag : Shape
  AWord : Shape
  SomeTexts : Shape
  SomeUserIds : Shape
  ARef : Shape
  SomeRefs : Shape

-- the variant of a form's values
abbrev pub shape_of : Form → Shape
shape_of TextForm = AText
shape_of IdForm = AnId
shape_of DayForm = ADay
shape_of MomentForm = AMoment
shape_of NumberForm = ANumber
shape_of YearForm = AYear
shape_of FlagForm = AFlag
shape_of (WordForm words) = AWord
shape_of TextsForm = SomeTexts
shape_of UserIdsForm = SomeUserIds
shape_of (RefForm k) = ARef
shape_of (RefsForm k) = SomeRefs

-- whether a value is of a variant
abbrev pub has_shape : Shape → Value → Bool
has_shape AText (Text t) = true
has_shape AnId (Id t) = true
has_shape ADay (Day d) = true
has_shape AMoment (Moment m) = true
has_shape ANumber (Number n) = true
has_shape AYear (Year y) = true
has_shape AFlag (Flag b) = true
has_shape AWord (Word w) = true
has_shape SomeTexts (Texts ts) = true
has_shape SomeUserIds (UserIds us) = true
has_shape ARef (Ref t) = true
has_shape SomeRefs (Refs ts) = true
has_shape _ _ = false
