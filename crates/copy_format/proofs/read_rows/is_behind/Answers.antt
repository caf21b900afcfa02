use Rattle.std.proofs.Common.{◌∙◌, sym, ap, None}
use Rattle.std.specs.Cmp.Lexicographic.{slice_cmp}
use Rattle.std.specs.Ordering.{is_lt, nat_cmp}
use Rattle.roster_types.specs.Keys.{is_after}
use Rattle.keeper_memory.proofs.ListLemmas.{last_get}
use Rattle.copy_format.proofs.read_rows.is_behind.Goals as goal

pub returns-in-Some : goal.returns-in-Some
returns-in-Some c =
    c.is_below.ensures ∙ (λ i. is_lt (slice_cmp nat_cmp (c.id.ensures i) (c.id-in-Some.ensures i)))
    ∙ ap (λ o. is_after o c.args.row.now.id) (sym (last_get None c.args.rows.now c.in-Some.last.now (sym c.in-Some.ensures.value)))
