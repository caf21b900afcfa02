use Rattle.std.proofs.Common.{◌≡◌, ◌<◌, ℕ, List, [], Some, get_or, length, map, arith, sym, ap, subst, ◌∙◌}
use Rattle.std.proofs.lemmas.List.{get_or-map, length-map}
use Rattle.std.proofs.lemmas.List.Folds.{flat_map-map}
use Rattle.roster_types.specs.Keys.{look_up, row_key}
use Rattle.roster_types.specs.Records.{Record}
use Rattle.reference_rules.proofs.ListSteps.{collects_end}
use Rattle.reference_rules.specs.Faults.{AreAmong, row_faults}
use Rattle.reference_rules.proofs.faults_among.Goals as goal

-- the row of each of the list stands under its key
stands : {X : Type 0} (row_of : X → Record) (rows : List Record) (xs : List X) (n : ℕ) (x : X) → AreAmong rows (map row_of xs) → n < length xs → x ≡ get_or xs n x → look_up row_key (row_key (row_of x)) rows ≡ Some (row_of x)
stands row_of rows xs n x all lt is =
    let within : n < length (map row_of xs) = rw length-map lt in
    subst (λ (row : Record). look_up row_key (row_key row) rows ≡ Some row) (get_or-map row_of xs n x (row_of x) lt ∙ ap row_of (sym is)) (all n (row_of x) within)

pub is_in_cycle_along-requires-clause-row : goal.is_in_cycle_along-requires-clause-row
is_in_cycle_along-requires-clause-row g c =
    let rows = g.R.Rows.rows c.args.rows.now in
    subst (λ (row : Record). look_up row_key (row_key row) rows ≡ Some row) (sym c.row.ensures) (stands g.C.HasRow.row_of rows c.args.among.now c.loop-item.item-index c.item-item.result c.requires c.loop-item-test.true c.item-item.is)

pub returns : goal.returns
returns g c =
    let rows = g.R.Rows.rows c.args.rows.now in
    collects_end (λ item. row_faults rows (g.C.HasRow.row_of item)) c.args.among.now c.loop-item.item-index [] c.loop-item.found.items (omega arith) c.loop-item.invariant.found
    ∙ sym (flat_map-map (row_faults rows) g.C.HasRow.row_of c.args.among.now)
