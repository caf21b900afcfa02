-- The active rows of a feed are those that were cascaded.
use Rattle.std.proofs.Common.{◌≡◌, ℕ, ℤ, ◌&&◌, Bool, true, false, cond, filter, List, Option, None, Some, option_map}
use Rattle.std.proofs.Common.{refl, sym, ap, ◌∙◌}
use Rattle.std.proofs.lemmas.Slice.Eq.{bytes_eq-Decides}
use Rattle.std.specs.Prelude.{option_and_then}
use Rattle.hub_cascade.specs.Cascading.{AreCascaded, Cascades, active_rows, cascaded, current_rows, is_current, unheld}
use Rattle.roster_types.specs.Keys.{Ascends, Key, look_up, row_key}
use Rattle.roster_types.specs.Records.{Record}
use Rattle.version_changes.specs.sets.Applying.{Leads, Unchanged, is_active, is_own, marked, owned_by}
use Rattle.version_core.proofs.LookUps.{Ascends-filter, if_kept, look_up-filter}
use Rattle.version_core.proofs.OrderLemmas.{same_from_look_up}
use Rattle.version_core.proofs.RowsOf.{is_sorted-rows_of, look_up-rows_of}
use Rattle.version_core.specs.Changes.{change_key}
use Rattle.version_core.specs.declared.change.BaseVersion.{BaseVersion}
use Rattle.version_core.specs.declared.row_change.RowChange.{RowChange}

abbrev row_in : RowChange → Record
row_in change = change.row

abbrev active : Record → Bool
active row = is_active row.status

module _ (feed : List ℕ) (at : ℤ) where
  abbrev current_in : Option RowChange → Option Record
  current_in stored = option_map row_in (option_and_then (if_kept change_key (is_current feed)) stored)

  held_current : (row : Record) → current_in (Some (owned_by feed row)) ≡ if_kept row_key active row
  held_current row =
      ap (λ b. option_map row_in (cond (b && is_active row.status) (Some (owned_by feed row)) None)) ((bytes_eq-Decides feed feed).1 refl)
      ∙ elim (is_active row.status) as (λ b. option_map row_in (cond b (Some (owned_by feed row)) None) ≡ cond b (Some row) None) [ true ↦ refl | false ↦ refl ]

  marked_not : (stored : RowChange) → current_in (Some (marked at stored)) ≡ None
  marked_not stored = elim (is_own feed stored.owner) as (λ b. option_map row_in (cond (b && false) (Some (marked at stored)) None) ≡ None) [ true ↦ refl | false ↦ refl ]

  unheld_not : (stored : RowChange) → current_in (Some (unheld feed at stored)) ≡ None
  unheld_not stored =
      elim (is_current feed stored) as (λ b. is_current feed stored ≡ b → current_in (Some (cond b (marked at stored) stored)) ≡ None) [
        | true ↦ λ _. marked_not stored
        | false ↦ λ not. ap (λ b. option_map row_in (cond b (Some stored) None)) not
      ] refl

  current_there : (h : Option Record) (stored : Option RowChange) → current_in (cascaded feed at h stored) ≡ option_and_then (if_kept row_key active) h
  current_there (Some row) stored = held_current row
  current_there None None = refl
  current_there None (Some stored) = unheld_not stored

  module _ (held : List Record) (rows new : List RowChange) (up : Ascends row_key held) (are : AreCascaded feed at held rows new) where
    served_at : (k : Key) → look_up row_key k (current_rows feed new) ≡ look_up row_key k (active_rows held)
    served_at k =
        look_up-rows_of k (filter (is_current feed) new)
        ∙ ap (option_map row_in) (look_up-filter change_key (is_current feed) k new are.order)
        ∙ ap current_in (are.entries k)
        ∙ current_there (look_up row_key k held) (look_up change_key k rows)
        ∙ sym (look_up-filter row_key active k held up)

    pub served : current_rows feed new ≡ active_rows held
    served =
        same_from_look_up row_key (current_rows feed new) (active_rows held)
        (is_sorted-rows_of (filter (is_current feed) new) ∙ Ascends-filter change_key (is_current feed) new are.order)
        (Ascends-filter row_key active held up) served_at

pub served_next : (version next : BaseVersion) (feed : List ℕ) (held : List Record) (at : ℤ) → Ascends row_key held → Cascades version feed held at (Leads next) → current_rows feed next.rows ≡ active_rows held
served_next version next feed held at up is =
    ap (λ (v : BaseVersion). current_rows feed v.rows) is.2.2 ∙ served feed at held version.rows is.0 up is.1

pub served_same : (version : BaseVersion) (feed : List ℕ) (held : List Record) (at : ℤ) → Ascends row_key held → Cascades version feed held at Unchanged → current_rows feed version.rows ≡ active_rows held
served_same version feed held at up is =
    ap (current_rows feed) is.2.1 ∙ served feed at held version.rows is.0 up is.1
