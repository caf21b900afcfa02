-- Tables with one mark more.
use Rattle.std.proofs.Common.{◌≡◌, ℕ, List, [], ◌∷◌, None, refl, ap}
use Rattle.std.specs.List.{AllByRecursion}
use Rattle.item_maps.specs.Edits.{after}
use Rattle.version_core.specs.declared.hub_tables.HubTables.{HubTables}
use Rattle.version_core.specs.declared.mark.MarkRow.{MarkRow}
use Rattle.version_core.specs.Marks.{mark_at, mark_key, with_mark}
use Rattle.hub_format.specs.Areas.{marks_area}
use Rattle.hub_format.specs.Edits.{put_at}
use Rattle.hub_format.specs.Format.{FitsMark, mark_entry}
use Rattle.hub_format.proofs.Marking.{marked_is as marked_before}
use Rattle.span_format.specs.Format.{Span, items_in}
use Rattle.span_format.proofs.Areas.{by_areas}
use Rattle.item_maps.specs.Items.{Items}

pub marked_is : (mark : MarkRow) → FitsMark mark → (base : List Span) (t : HubTables) → AllByRecursion FitsMark t.marks → mark_at (mark_key mark) t.marks ≡ None
    → after (put_at marks_area (mark_entry mark) ∷ []) (items_in base t) ≡ items_in base (record t { marks = with_mark mark t.marks })
marked_is mark fits base t all free = λ i area. at area i
  where
    -- marks stand as they do in format 1
    at : (area : ℕ) → after (put_at marks_area (mark_entry mark) ∷ []) (items_in base t) area ≡ items_in base (record t { marks = with_mark mark t.marks }) area
    at = by_areas (λ area. after (put_at marks_area (mark_entry mark) ∷ []) (items_in base t) area ≡ items_in base (record t { marks = with_mark mark t.marks }) area)
        refl refl refl refl refl refl
        (ap (λ (m : Items). m marks_area) (marked_before mark fits t all free))
        refl refl
        (λ a n0 n1 n2 n3 n4 n5 n6 n7 n8. rw (n0, n1, n3, n5, n6, n7, n8) refl)
