use Rattle.std.proofs.Common.{◌≡◌, ◌∙◌, is_lt, nat_cmp, sym, ap}
use Rattle.std.specs.Cmp.Lexicographic.{slice_cmp}
use Rattle.csv_sets.specs.Files.{id_in}
use Rattle.roster_base.proofs.Rising.{alone, behind_last}
use Rattle.csv_sets.proofs.file.rises.Goals as goal

pub returns-in-None : goal.returns-in-None
returns-in-None c = λ _. λ _. alone id_in c.args.rows.now c.args.row.now (sym c.in-None.ensures.value)

pub returns-in-Some : goal.returns-in-Some
returns-in-Some c = λ below. λ rise.
    let one : c.as_str.result.now ≡ c.in-Some.last.now.row.id = c.as_str.ensures.text ∙ c.id.ensures in
    let other : c.as_str-in-Some.result.now ≡ c.args.row.now.row.id = c.as_str-in-Some.ensures.text ∙ c.id-in-Some.ensures in
    let less = (λ j. is_lt (slice_cmp nat_cmp (sym one j) (sym other j))) ∙ ap is_lt (sym c.cmp.ensures) ∙ sym c.is_lt.ensures ∙ below in
    behind_last id_in c.args.rows.now c.in-Some.last.now c.args.row.now (sym c.in-Some.ensures.value) less rise
