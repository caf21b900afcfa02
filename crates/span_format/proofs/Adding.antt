-- Tables with one change more.
use Rattle.std.proofs.Common.{◌≡◌, ℕ, List, [], ◌∷◌, ◌++◌, refl, sym, ap, ◌∙◌, append_assoc, map}
use Rattle.std.specs.FinMap.{from_entries}
use Rattle.std.specs.Option.{ForSome}
use Rattle.item_maps.specs.Items.{bytes_cmp}
use Rattle.item_maps.specs.Edits.{after}
use Rattle.roster_base.specs.Order.{RiseBy}
use Rattle.version_core.specs.Changes.{AreChanges}
use Rattle.version_core.specs.Grants.{caller_of}
use Rattle.version_core.specs.declared.change.Change.{Change}
use Rattle.version_core.specs.declared.hub_tables.HubTables.{HubTables}
use Rattle.hub_format.specs.Areas.{grants_area, names_area, spans_area, versions_area}
use Rattle.hub_format.specs.Format.{grants_under, of_changes, own_grants, own_version, version_entry}
use Rattle.hub_format.proofs.Acts.{Act, Map, both, next, put_act, put_map, puts_act, puts_map}
use Rattle.hub_format.proofs.Adding.{of_changes-push, own_differ}
use Rattle.hub_format.proofs.EntryMaps.{filled_is}
use Rattle.span_format.specs.Edits.{added}
use Rattle.span_format.specs.Format.{Span, items_in, own_names, own_spans, span_entry}
use Rattle.span_format.proofs.Areas.{by_areas}
use Rattle.span_format.proofs.Labels.{names_differ, spans_differ}

module _ (change : Change) where
  -- what a change adds to the map of each area
  abbrev does : ℕ → Map → Map
  does = next (put_map versions_area (version_entry change)) (next (next (puts_map spans_area (own_spans change)) (puts_map names_area (own_names change))) (puts_map grants_area (own_grants change)))

  acts : Act (added change) does
  acts = both (put_act versions_area (version_entry change)) (both (both (puts_act spans_area (own_spans change)) (puts_act names_area (own_names change))) (puts_act grants_area (own_grants change)))

  pub added_is : (base : List Span) (t : HubTables) → AreChanges change.rows → ForSome change.grants (RiseBy caller_of)
      → after (added change) (items_in base t) ≡ items_in base (record t { changes = t.changes ++ change ∷ [] })
  added_is base t are rise = λ i area. at area i
    where
      at : (area : ℕ) → after (added change) (items_in base t) area ≡ items_in base (record t { changes = t.changes ++ change ∷ [] }) area
      at area = acts.on (items_in base t) area ∙ by_areas (λ area. does area (items_in base t area) ≡ items_in base (record t { changes = t.changes ++ change ∷ [] }) area)
          refl
          refl
          refl
          (ap (from_entries {R = bytes_cmp}) (sym (of_changes-push own_version t.changes change)))
          refl
          (filled_is (own_grants change) _ (own_differ change.version change.grants rise)
          ∙ ap (from_entries {R = bytes_cmp}) (sym (append_assoc (own_grants change) (of_changes own_grants t.changes) (grants_under t.base.number t.base.grants))
          ∙ ap (λ es. es ++ grants_under t.base.number t.base.grants) (sym (of_changes-push own_grants t.changes change))))
          refl
          (filled_is (own_spans change) _ (spans_differ change.version change.rows are)
          ∙ ap (from_entries {R = bytes_cmp}) (sym (append_assoc (own_spans change) (of_changes own_spans t.changes) (map span_entry base))
          ∙ ap (λ es. es ++ map span_entry base) (sym (of_changes-push own_spans t.changes change))))
          (filled_is (own_names change) _ (names_differ change.version change.rows are)
          ∙ ap (from_entries {R = bytes_cmp}) (sym (of_changes-push own_names t.changes change)))
          (λ a n0 n1 n2 n3 n4 n5 n6 n7 n8. rw (n0, n1, n3, n5, n6, n7, n8) refl)
          area
