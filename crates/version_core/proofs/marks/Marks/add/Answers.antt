use Rattle.std.proofs.Common.{◌≡◌, ◌≤◌, ℕ, List, length, sym, ap, subst, ◌∙◌, true, false, rules}
use Rattle.std.proofs.lemmas.List.Sorted.{IsPartitionPoint-from_clause}
use Rattle.std.specs.List.{AllWithin, insert, prefix_len}
use Rattle.std.specs.List.Sorted.{IsStrictlySortedBy}
use Rattle.version_core.specs.Marks.{is_below, mark_cmp, with_mark}
use Rattle.version_core.specs.declared.mark.MarkRow.{MarkRow}
use Rattle.version_core.proofs.MarkLemmas.{parted, place_is, rise-with_mark}
use Rattle.version_core.proofs.marks.Marks.add.Goals as goal

-- the marks with one more in its place
module _ (marks slice new : List MarkRow) (mark : MarkRow) (place : ℕ) (same : slice ≡ marks) (rise : IsStrictlySortedBy mark_cmp marks) (items : new ≡ insert marks place mark) (bound : place ≤ length slice) (below : AllWithin (λ other. is_below mark other ≡ true) slice 0 place) (others : AllWithin (λ other. is_below mark other ≡ false) slice place (length slice)) where
  pub added : new ≡ with_mark mark marks
  added =
      let here : place ≡ prefix_len (is_below mark) marks = place_is mark slice place bound below others ∙ ap (prefix_len (is_below mark)) same in
      items ∙ ap (λ k. insert marks k mark) here

pub invariant_of-self : goal.invariant_of-self
invariant_of-self c =
    let marks = c.self.inside.marks.items in
    let mark = c.args.mark in
    let parts = IsPartitionPoint-from_clause (is_below mark) c.deref.result.now c.partition_point-place.result c.partition_point-place.ensures.partitioned (rw c.deref.ensures.value (parted marks c.self.invariant.rise mark)) (λ a r f called. (search rules, search rules)) in
    let new = added marks c.deref.result.now c.insert.new.self.items mark c.partition_point-place.result c.deref.ensures.value c.self.invariant.rise c.in-Ok.ensures.items c.partition_point-place.ensures.bound parts.0 parts.1 in
    record {
      rise = subst (IsStrictlySortedBy mark_cmp) (sym new) (rise-with_mark mark marks (rw (← c.self.view_is) at c.requires.free) c.self.invariant.rise);
      room = λ no. cc;
    }

pub returns : goal.returns
returns c =
    let marks = c.self.inside.marks.items in
    let mark = c.args.mark in
    let parts = IsPartitionPoint-from_clause (is_below mark) c.deref.result.now c.partition_point-place.result c.partition_point-place.ensures.partitioned (rw c.deref.ensures.value (parted marks c.self.invariant.rise mark)) (λ a r f called. (search rules, search rules)) in
    let new = added marks c.deref.result.now c.insert.new.self.items mark c.partition_point-place.result c.deref.ensures.value c.self.invariant.rise c.in-Ok.ensures.items c.partition_point-place.ensures.bound parts.0 parts.1 in
    rw (← c.self.view_is) (ap (λ (ms : List MarkRow). record { marks = ms; has_room = false }) new)
