use Rattle.std.proofs.Common.{◌≡◌, ◌∙◌, None, Option, Some, ap, cond, option_map, sym}
use Rattle.roster_types.specs.Keys.{look_up, row_key}
use Rattle.roster_types.specs.Records.{Record}
use Rattle.roster_values.specs.Kinds.{place_of_kind}
use Rattle.version_core.specs.Changes.{change_key, rows_of}
use Rattle.version_core.specs.History.{pasts_of, rows_at}
use Rattle.version_core.specs.RefIndex.{passing}
use Rattle.version_core.specs.References.{names}
use Rattle.version_core.specs.declared.row_change.RowChange.{RowChange}
use Rattle.version_core.proofs.RowsOf.{look_up-rows_of}
use Rattle.version_core.proofs.ref_index.naming_at.Goals.{Start}
use Rattle.version_core.proofs.ref_index.naming_at.Goals as goal

-- the row that stands under the id, if it names the target
module _ (c : Start) where
  abbrev row_there : Option Record
  row_there = look_up row_key (place_of_kind c.args.kind, c.args.id.now)
      (rows_of (rows_at c.args.version (pasts_of c.args.histories.now)))

  naming_of : (found : Option RowChange) → found ≡ look_up change_key (place_of_kind c.args.kind, c.args.id.now)
      (rows_at c.args.version (pasts_of c.args.histories.now))
      → passing (names c.args.name.now c.args.target.now) row_there
      ≡ passing (names c.args.name.now c.args.target.now) (option_map (λ (r : RowChange). r.row) found)
  naming_of found is = ap (passing (names c.args.name.now c.args.target.now))
      (look_up-rows_of (place_of_kind c.args.kind, c.args.id.now)
      (rows_at c.args.version (pasts_of c.args.histories.now)) ∙ ap (option_map (λ (r : RowChange). r.row)) (sym is))

pub returns-in_default : goal.returns-in_default
returns-in_default c = sym (naming_of (goal.at.returns-in_default c).Start None c.in_default.ensures)

pub returns-then-names : goal.returns-then-names
returns-then-names c =
    let change = c.in-Some.change.now in
    let named = sym c.names.ensures ∙ c.if-names.true in
    sym (naming_of (goal.at.returns-then-names c).Start (Some change) c.in-Some.ensures
    ∙ ap (λ b. cond b (Some change.row) None) named)

pub returns-else-names : goal.returns-else-names
returns-else-names c =
    let change = c.in-Some.change.now in
    let unnamed = sym c.names.ensures ∙ c.if-names.false in
    sym (naming_of (goal.at.returns-else-names c).Start (Some change) c.in-Some.ensures
    ∙ ap (λ b. cond b (Some change.row) None) unnamed)
