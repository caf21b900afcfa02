use Rattle.std.proofs.Common.{sym, ap, rules}
use Rattle.std.specs.Prelude.{is_some}
use Rattle.std.proofs.lemmas.Fn.{always_returns_same}
use Rattle.roster_types.specs.Keys.{Key, key_cmp}
use Rattle.roster_types.specs.declared.set_row.SetRow.{SetRow}
use Rattle.roster_values.specs.Kinds.{place_of_kind}
use Rattle.version_changes.proofs.IndexLemmas.{found_somewhere}
use Rattle.version_changes.specs.sets.Applying.{set_key}
use Rattle.version_core.proofs.Places.{look_up-gap, searchable}
use Rattle.version_changes.proofs.sets.index.is_listed.Goals as goal

-- it stands at the place that was found
pub returns-in-Ok : goal.returns-in-Ok
returns-in-Ok c =
    let k : Key = (place_of_kind c.args.kind, c.args.id.now) in
    let here = c.in-Ok.ensures.position (λ (listed : SetRow). key_cmp (set_key listed) k) (always_returns_same _ _ _ (λ a r f called. (search rules, search rules))) in
    sym (found_somewhere c.args.rows.now k c.in-Ok.place c.requires c.in-Ok.ensures.bound here)

-- it stands nowhere
pub returns-in-Err : goal.returns-in-Err
returns-in-Err c =
    let k : Key = (place_of_kind c.args.kind, c.args.id.now) in
    let parted = c.in-Err.ensures.position (λ (listed : SetRow). key_cmp (set_key listed) k) (always_returns_same _ _ _ (λ a r f called. (search rules, search rules))) (searchable set_key c.args.rows.now k c.requires) in
    sym (ap is_some (look_up-gap set_key c.args.rows.now k _ parted.0 parted.1))
