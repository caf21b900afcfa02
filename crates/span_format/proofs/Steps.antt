-- One step more of a loop over rows, names or changes.
use Rattle.std.proofs.Common.{◌≡◌, ◌+◌, ◌<◌, ℕ, List, [], ◌∷◌, ◌++◌, append-nil, append_assoc, drop, get_or, length}
use Rattle.std.proofs.Common.{map, sym, ap, take, ◌∙◌}
use Rattle.std.proofs.lemmas.List.{take_more}
use Rattle.item_maps.specs.Edits.{entry_of}
use Rattle.item_maps.specs.declared.item.Edit.{Edit}
use Rattle.item_maps.specs.declared.item.Item.{Item}
use Rattle.version_core.proofs.RoomLemmas.{map_push}
use Rattle.version_core.specs.declared.change.Change.{Change}
use Rattle.version_core.specs.declared.row_change.RowChange.{RowChange}
use Rattle.hub_format.specs.Areas.{names_area, spans_area}
use Rattle.hub_format.specs.Edits.{put_at, puts}
use Rattle.hub_format.specs.Format.{Entry}
use Rattle.hub_format.specs.Pieces.{number_size}
use Rattle.hub_format.proofs.Steps.{more_puts}
use Rattle.span_format.specs.Edits.{brought, hidden_names, hidden_under}
use Rattle.span_format.specs.Format.{own_names, own_spans, row_span, span_entry, spans_from}
use Rattle.span_format.proofs.Labels.{spans_as_rows}

pub more_spans : (version : ℕ) (front edits : List Edit) (rows : List RowChange) (i : ℕ) (row : RowChange) (edit : Edit) → edits ≡ front ++ puts spans_area (map span_entry (spans_from version (take i rows))) → i < length rows
    → row ≡ get_or rows i row → edit ≡ put_at spans_area (row_span version row) → edits ++ edit ∷ [] ≡ front ++ puts spans_area (map span_entry (spans_from version (take (i + 1) rows)))
more_spans version front edits rows i row edit so_far within is here =
    more_puts spans_area (row_span version) front edits rows i row edit (so_far ∙ ap (λ es. front ++ puts spans_area es) (spans_as_rows version (take i rows))) within is here
    ∙ ap (λ es. front ++ puts spans_area es) (sym (spans_as_rows version (take (i + 1) rows)))

pub more_edits : {X : Type 0} (f : X → Edit) (front edits : List Edit) (xs : List X) (i : ℕ) (x : X) (edit : Edit) → edits ≡ front ++ map f (take i xs) → i < length xs
    → x ≡ get_or xs i x → edit ≡ f x → edits ++ edit ∷ [] ≡ front ++ map f (take (i + 1) xs)
more_edits f front edits xs i x edit so_far within is here =
    rw (take_more xs i x within, ← is, map_push f (take i xs) x, so_far, here) (append_assoc front (map f (take i xs)) (f x ∷ []))

pub more_names : (version : ℕ) (front edits : List Edit) (items : List Item) (i : ℕ) (item : Item) (edit : Edit) → edits ≡ front ++ hidden_names version (map entry_of (take i items)) → i < length items
    → item ≡ get_or items i item → edit ≡ hidden_under version (drop number_size (entry_of item).0) → edits ++ edit ∷ [] ≡ front ++ hidden_names version (map entry_of (take (i + 1) items))
more_names version front edits items i item edit so_far within is here =
    let taken = take i items in
    rw (take_more items i item within, ← is, map_push entry_of taken item, map_push (λ (e : Entry). hidden_under version (drop number_size e.0)) (map entry_of taken) (entry_of item), so_far, here)
    (append_assoc front (hidden_names version (map entry_of taken)) (hidden_under version (drop number_size (entry_of item).0) ∷ []))

-- what a change brings
abbrev pub parts_of : Change → List Edit
parts_of change = puts spans_area (own_spans change) ++ puts names_area (own_names change)

brought-push : (changes : List Change) (change : Change) → brought (changes ++ change ∷ []) ≡ brought changes ++ parts_of change
brought-push [] change = append-nil (parts_of change)
brought-push (first ∷ changes) change = ap (λ es. parts_of first ++ es) (brought-push changes change) ∙ sym (append_assoc (parts_of first) (brought changes) (parts_of change))

pub brought-on : (front edits more : List Edit) (changes : List Change) (change : Change) → edits ≡ front ++ brought changes → more ≡ edits ++ parts_of change → more ≡ front ++ brought (changes ++ change ∷ [])
brought-on front edits more changes change so_far here = rw (brought-push changes change, here, so_far) (append_assoc front (brought changes) (parts_of change))

pub spans-push : (version : ℕ) (front edits : List Edit) (rows : List RowChange) (row : RowChange) (edit : Edit) → edits ≡ front ++ puts spans_area (map span_entry (spans_from version rows))
    → edit ≡ put_at spans_area (row_span version row) → edits ++ edit ∷ [] ≡ front ++ puts spans_area (map span_entry (spans_from version (rows ++ row ∷ [])))
spans-push version front edits rows row edit so_far here =
    let new : map span_entry (spans_from version (rows ++ row ∷ [])) ≡ map span_entry (spans_from version rows) ++ row_span version row ∷ [] =
    spans_as_rows version (rows ++ row ∷ []) ∙ map_push (row_span version) rows row ∙ ap (λ es. es ++ row_span version row ∷ []) (sym (spans_as_rows version rows)) in
    rw (so_far, here, new, map_push (put_at spans_area) (map span_entry (spans_from version rows)) (row_span version row))
    (append_assoc front (puts spans_area (map span_entry (spans_from version rows))) (put_at spans_area (row_span version row) ∷ []))
