use Rattle.std.proofs.Common.{sym, ap, rules}
use Rattle.std.specs.Prelude.{option_map}
use Rattle.std.proofs.lemmas.Fn.{always_returns_same}
use Rattle.roster_types.specs.Keys.{Key, key_cmp}
use Rattle.roster_values.specs.Kinds.{place_of_kind}
use Rattle.version_core.proofs.Places.{look_up-at, look_up-gap, searchable}
use Rattle.bulk_export.specs.Steps.{earlier_key, set_row}
use Rattle.bulk_export.specs.declared.earlier.EarlierRow.{EarlierRow}
use Rattle.bulk_export.proofs.earlier.earlier_at.Goals as goal

-- the row at the place has the key
pub returns-in-Ok : goal.returns-in-Ok
returns-in-Ok c =
    let k : Key = (place_of_kind c.args.kind, c.args.id.now) in
    let here = c.in-Ok.ensures.position (λ (earlier : EarlierRow). key_cmp (earlier_key earlier) k) (always_returns_same _ _ _ (λ a r f called. (search rules, search rules))) in
    let found = c.index-rows-place.result in
    sym (ap (option_map set_row) (look_up-at earlier_key c.args.rows.now k _ found c.requires c.in-Ok.ensures.bound (here found)))

-- no row has the key
pub returns-in-Err : goal.returns-in-Err
returns-in-Err c =
    let k : Key = (place_of_kind c.args.kind, c.args.id.now) in
    let parted = c.in-Err.ensures.position (λ (earlier : EarlierRow). key_cmp (earlier_key earlier) k) (always_returns_same _ _ _ (λ a r f called. (search rules, search rules))) (searchable earlier_key c.args.rows.now k c.requires) in
    sym (ap (option_map set_row) (look_up-gap earlier_key c.args.rows.now k _ parted.0 parted.1))
