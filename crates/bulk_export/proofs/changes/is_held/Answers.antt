use Rattle.std.proofs.Common.{sym, ap, rules}
use Rattle.std.specs.Prelude.{is_some}
use Rattle.std.proofs.lemmas.Fn.{always_returns_same}
use Rattle.roster_types.specs.Keys.{Key, key_cmp, row_key}
use Rattle.roster_types.specs.Records.{Record}
use Rattle.roster_values.specs.Kinds.{place_of_kind}
use Rattle.version_core.proofs.Places.{look_up-gap, searchable}
use Rattle.bulk_export.proofs.Ordering.{found_somewhere}
use Rattle.bulk_export.proofs.changes.is_held.Goals as goal

-- it stands at the place that was found
pub returns-in-Ok : goal.returns-in-Ok
returns-in-Ok c =
    let k : Key = (place_of_kind c.args.kind, c.args.id.now) in
    let here = c.in-Ok.ensures.position (λ (row : Record). key_cmp (row_key row) k) (always_returns_same _ _ _ (λ a r f called. (search rules, search rules))) in
    sym (found_somewhere c.args.held.now k _ c.requires c.in-Ok.ensures.bound here)

-- it stands nowhere
pub returns-in-Err : goal.returns-in-Err
returns-in-Err c =
    let k : Key = (place_of_kind c.args.kind, c.args.id.now) in
    let parted = c.in-Err.ensures.position (λ (row : Record). key_cmp (row_key row) k) (always_returns_same _ _ _ (λ a r f called. (search rules, search rules))) (searchable row_key c.args.held.now k c.requires) in
    sym (ap is_some (look_up-gap row_key c.args.held.now k _ parted.0 parted.1))
