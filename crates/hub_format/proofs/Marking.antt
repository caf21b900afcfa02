-- Tables with one mark more.
use Rattle.std.proofs.Common.{◌≡◌, ◌<◌, ◌^◌, ℕ, zero, suc, List, [], ◌∷◌, ◌++◌, ◌==◌, Bool, true, false, cond, drop}
use Rattle.std.proofs.Common.{length, length-append, map, None, Some, refl, sym, ap, ◌∙◌, subst, arith}
use Rattle.std.specs.Prelude.{bytes_eq}
use Rattle.std.specs.List.{AllByRecursion, insert, prefix_len}
use Rattle.std.specs.Ordering.{eq_by_cmp}
use Rattle.std.proofs.lemmas.Bool.{and_from, false_from_ne_true}
use Rattle.std.proofs.lemmas.Bool.Decides.{Decides-eqb}
use Rattle.std.proofs.lemmas.Slice.Eq.{bytes_eq-Decides}
use Rattle.item_maps.specs.Items.{bytes_cmp}
use Rattle.item_maps.specs.Edits.{after}
use Rattle.version_core.specs.declared.hub_tables.HubTables.{HubTables}
use Rattle.version_core.specs.declared.mark.MarkRow.{MarkRow}
use Rattle.version_core.specs.Marks.{is_below, mark_at, mark_key, same_mark, with_mark}
use Rattle.hub_format.specs.Areas.{marks_area}
use Rattle.hub_format.specs.Edits.{put_at}
use Rattle.hub_format.specs.Format.{FitsMark, items_of, mark_entry}
use Rattle.hub_format.specs.Pieces.{mark_body, mark_label, number}
use Rattle.hub_format.proofs.Acts.{by_area}
use Rattle.hub_format.proofs.EntryMaps.{Alike, alike_map, found, missed, turned}
use Rattle.item_maps.proofs.ItemLemmas.{tied_same}
use Rattle.hub_format.proofs.Orders.{same_number}

-- equal lists whose ends are as long are equal in both parts
pub same_parts : (a b x y : List ℕ) → length x ≡ length y → a ++ x ≡ b ++ y → (a ≡ b) × (x ≡ y)
same_parts [] [] x y long same = (refl, same)
same_parts [] (c ∷ b) x y long same = absurd (let l = ap length same in let m = length-append b y in omega arith)
same_parts (c ∷ a) [] x y long same = absurd (let l = ap length same in let m = length-append a x in omega arith)
same_parts (c ∷ a) (d ∷ b) x y long same =
    let head : c ≡ d = cc in
    let tail : a ++ x ≡ b ++ y = cc in
    let rest = same_parts a b x y long tail in
    ((λ i. head i ∷ rest.0 i), rest.1)

same_key : (k l : List ℕ × ℕ) → k.1 < 2 ^ 64 → l.1 < 2 ^ 64 → mark_label k ≡ mark_label l → same_mark k l ≡ true
same_key k l fits_k fits_l same =
    let parts = same_parts k.0 l.0 (0 ∷ number k.1) (0 ∷ number l.1) refl same in
    let numbers : number k.1 ≡ number l.1 = ap (drop 1) parts.1 in
    and_from (bytes_eq k.0 l.0) (k.1 == l.1) ((bytes_eq-Decides k.0 l.0).1 parts.0) ((Decides-eqb k.1 l.1).1 (same_number k.1 l.1 fits_k fits_l numbers))

module _ (mark : MarkRow) (fits : FitsMark mark) where
  abbrev label : List ℕ
  label = mark_label (mark_key mark)

  apart : (other : MarkRow) → FitsMark other → same_mark (mark_key mark) (mark_key other) ≡ false → eq_by_cmp bytes_cmp label (mark_label (mark_key other)) ≡ false
  apart other fits_other differ = false_from_ne_true _ (λ tie. let same = same_key (mark_key mark) (mark_key other) fits.number fits_other.number (tied_same _ _ tie) in cc)

  absent : (marks : List MarkRow) → AllByRecursion FitsMark marks → mark_at (mark_key mark) marks ≡ None → found label (map mark_entry marks) ≡ None
  absent [] all free = refl
  absent (other ∷ marks) all free = go (same_mark (mark_key mark) (mark_key other)) (apart other all.0) (absent marks all.1) free
    where
      go : (b : Bool) → (b ≡ false → eq_by_cmp bytes_cmp label (mark_label (mark_key other)) ≡ false)
          → (mark_at (mark_key mark) marks ≡ None → found label (map mark_entry marks) ≡ None)
          → cond b (Some other) (mark_at (mark_key mark) marks) ≡ None → found label (map mark_entry (other ∷ marks)) ≡ None
      go true away later free = absurd cc
      go false away later free = rw (away refl) (later free)

  inserted : (marks : List MarkRow) (i : ℕ) → found label (map mark_entry marks) ≡ None → Alike (map mark_entry (insert marks i mark)) (mark_entry mark ∷ map mark_entry marks)
  inserted marks zero none q = refl
  inserted [] (suc i) none q = refl
  inserted (other ∷ marks) (suc i) none q =
      let miss = missed (eq_by_cmp bytes_cmp label (mark_label (mark_key other))) (mark_body other) (found label (map mark_entry marks)) none in
      ap (cond (eq_by_cmp bytes_cmp q (mark_label (mark_key other))) (Some (mark_body other))) (inserted marks i miss.1 q)
      ∙ turned (eq_by_cmp bytes_cmp q (mark_label (mark_key other))) (eq_by_cmp bytes_cmp q label) (Some (mark_body other)) (Some (mark_body mark)) (found q (map mark_entry marks))
      (λ at_other at_mark. let same = subst (λ k. eq_by_cmp bytes_cmp k (mark_label (mark_key other)) ≡ true) (tied_same q label at_mark) at_other in let no = miss.0 in cc)

  pub marked_is : (t : HubTables) → AllByRecursion FitsMark t.marks → mark_at (mark_key mark) t.marks ≡ None → after (put_at marks_area (mark_entry mark) ∷ []) (items_of t) ≡ items_of (record t { marks = with_mark mark t.marks })
  marked_is t all free = λ i area. at area i
    where
      at : (area : ℕ) → after (put_at marks_area (mark_entry mark) ∷ []) (items_of t) area ≡ items_of (record t { marks = with_mark mark t.marks }) area
      at = by_area (λ area. after (put_at marks_area (mark_entry mark) ∷ []) (items_of t) area ≡ items_of (record t { marks = with_mark mark t.marks }) area)
          refl refl refl refl refl refl
          (alike_map (mark_entry mark ∷ map mark_entry t.marks) (map mark_entry (with_mark mark t.marks)) (λ q. sym (inserted t.marks (prefix_len (is_below mark) t.marks) (absent t.marks all free) q)))
          (λ a n0 n1 n2 n3 n4 n5 n6. rw (n0, n1, n2, n3, n4, n5, n6) refl)

  fit_inserted : (marks : List MarkRow) (i : ℕ) → AllByRecursion FitsMark marks → AllByRecursion FitsMark (insert marks i mark)
  fit_inserted marks zero all = (fits, all)
  fit_inserted [] (suc i) all = (fits, all)
  fit_inserted (other ∷ marks) (suc i) all = (all.0, fit_inserted marks i all.1)

  pub fit_marked : (marks : List MarkRow) → AllByRecursion FitsMark marks → AllByRecursion FitsMark (with_mark mark marks)
  fit_marked marks all = fit_inserted marks (prefix_len (is_below mark) marks) all
