-- What is gathered and put in order are the changes.
use Rattle.std.proofs.Common.{◌≡◌, ℤ, List, ap, ◌∙◌}
use Rattle.std.proofs.lemmas.List.Elements.{recursion_from_All}
use Rattle.std.specs.List.{AllByRecursion}
use Rattle.keeper_memory.specs.copy.Lists.{IsList}
use Rattle.roster_base.specs.Order.{in_order}
use Rattle.roster_types.specs.Keys.{Ascends, Key, look_up, row_key}
use Rattle.roster_types.specs.Records.{Record}
use Rattle.roster_types.specs.declared.set_row.SetRow.{SetRow}
use Rattle.roster_values.specs.declared.kind.Kind.{Kind}
use Rattle.version_changes.specs.sets.Applying.{set_key}
use Rattle.bulk_export.specs.Changes.{AreChanges, told}
use Rattle.bulk_export.specs.Steps.{earlier_at, earlier_key, set_row}
use Rattle.bulk_export.specs.declared.earlier.EarlierRow.{EarlierRow}
use Rattle.bulk_export.proofs.Ordering.{list_ascends, ordered_at, ordered_list, ordered_up}
use Rattle.bulk_export.proofs.Telling.{gathered, of_one_kind, told_under}

module _ (kind : Kind) (at : ℤ) (earlier : List SetRow) (held : List Record) (es : List EarlierRow) (is : IsList kind held) (rise : Ascends earlier_key es) (same : (k : Key) → earlier_at es k ≡ look_up set_key k earlier)
    (kinds : AllByRecursion (λ (e : EarlierRow). (set_row e).row.kind ≡ kind) es) where
  all_of_kind : AllByRecursion (λ (row : Record). row.kind ≡ kind) (gathered at held es)
  all_of_kind = of_one_kind at held es (λ (row : Record). row.kind ≡ kind) (λ row e. e) (recursion_from_All (λ (row : Record). row.kind ≡ kind) held is.kinds) kinds

  pub changed : AreChanges at earlier held (in_order (λ (row : Record). row.id) (gathered at held es))
  changed = record {
    order = ordered_up kind (gathered at held es) all_of_kind;
    entries = λ k. ordered_at kind (gathered at held es) all_of_kind k ∙ told_under at held es k (list_ascends kind held is) rise ∙ ap (λ e. told at e (look_up row_key k held)) (same k);
  }

  pub changed_list : IsList kind (in_order (λ (row : Record). row.id) (gathered at held es))
  changed_list = ordered_list kind (gathered at held es) all_of_kind
