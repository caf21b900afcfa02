use Rattle.std.proofs.Common.{◌≡◌, ◌∙◌, true, ap, is_lt, nat_cmp, sym}
use Rattle.std.specs.Cmp.Lexicographic.{slice_cmp}
use Rattle.roster_base.proofs.Rising.{alone, behind_last}
use Rattle.roster_types.specs.Records.{key_of}
use Rattle.row_json.proofs.guess.is_above_last.Goals as goal

pub returns-in-None : goal.returns-in-None
returns-in-None c = λ _ entry _. alone key_of c.args.metadata.now entry (rw c.entries.ensures.entries at (sym c.in-None.ensures.value))

pub returns-in-Some : goal.returns-in-Some
returns-in-Some c = λ below entry named.
    let last = c.in-Some.last.now in
    let one : c.as_str.result.now ≡ last.key = c.as_str.ensures.text in
    let less : is_lt (slice_cmp nat_cmp last.key entry.key) ≡ true = (λ j. is_lt (slice_cmp nat_cmp (sym one j) (named j))) ∙ ap is_lt (sym c.cmp.ensures) ∙ sym c.is_lt.ensures ∙ below in
    behind_last key_of c.args.metadata.now last entry (rw c.entries.ensures.entries at (sym c.in-Some.ensures.value)) less c.entries.ensures.order.rise
