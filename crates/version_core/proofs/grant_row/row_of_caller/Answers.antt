use Rattle.std.proofs.Common.{Some, sym, ap, ◌∙◌, rules}
use Rattle.std.proofs.lemmas.Fn.{always_returns_same}
use Rattle.std.specs.Cmp.Lexicographic.{slice_cmp}
use Rattle.std.specs.Ordering.{nat_cmp}
use Rattle.version_core.proofs.CallerLemmas.{caller_at, no_caller, searchable}
use Rattle.version_core.proofs.grant_row.row_of_caller.Goals as goal

-- the row at the place is the caller's
pub returns-in-Ok : goal.returns-in-Ok
returns-in-Ok c =
    let caller = c.args.caller.now in
    let grants = c.args.grants.now in
    let here = c.in-Ok.ensures.position (λ row. slice_cmp nat_cmp row.caller caller) (always_returns_same _ _ _ (λ a r f called. (search rules, search rules))) in
    let row = c.index-grants-place.result in
    sym (caller_at grants c.requires caller _ row c.in-Ok.ensures.bound (here row) ∙ ap (λ x. Some x) (sym c.index-grants-place.is))

-- no row is the caller's
pub returns-in-Err : goal.returns-in-Err
returns-in-Err c =
    let caller = c.args.caller.now in
    let grants = c.args.grants.now in
    let parted = c.in-Err.ensures.position (λ row. slice_cmp nat_cmp row.caller caller) (always_returns_same _ _ _ (λ a r f called. (search rules, search rules))) (searchable grants c.requires caller) in
    sym (no_caller grants caller _ parted.0 parted.1)
