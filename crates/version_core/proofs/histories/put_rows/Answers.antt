use Rattle.std.proofs.Common.{◌≡◌, ◌++◌, ◌∷◌, [], length, List, reverse, sym, subst, ap, append-nil, vec_len, ◌∙◌}
use Rattle.std.proofs.Common.{arith, rules}
use Rattle.std.proofs.lemmas.List.{nil_from_length}
use Rattle.std.specs.List.{AllByRecursion}
use Rattle.roster_types.specs.Keys.{Ascends, key_cmp}
use Rattle.std.specs.declared.cmp.Ordering.TheVariants.{Less}
use Rattle.version_core.specs.Changes.{change_key}
use Rattle.version_core.specs.History.{AreAbove, ArePasts, AreUpTo, HaveRoom, PutsRows, parts_of, pasts_of, rows_at}
use Rattle.version_core.specs.Order.{overlaid}
use Rattle.version_core.specs.declared.history.History.{History}
use Rattle.version_core.specs.declared.row_change.RowChange.{RowChange}
use Rattle.version_core.proofs.histories.put_rows.Goals as goal
use Rattle.version_core.proofs.MergeLemmas.{ascends_before}
use Rattle.version_core.proofs.PartsLemmas.{all_both, all_of, parts_move}
use Rattle.version_core.proofs.PutLemmas.{all_first, all_second, overlaid-append}

-- nothing has moved yet
pub loop-change-init : goal.loop-change-init
loop-change-init c =
    let histories = c.args.histories.now.items in
    let spare = c.args.spare.now.items in
    let none : parts_of histories spare ≡ pasts_of histories = ap (λ (s : List History). pasts_of histories ++ pasts_of (reverse s)) c.requires.spare ∙ append-nil (pasts_of histories) in
    let len : vec_len c.args.spare.now ≡ length spare = search rules in
    let empty : length spare ≡ 0 = ap length c.requires.spare in
    record {
      now = ap (λ ps. overlaid change_key (rows_at c.args.version ps) c.args.changes.items) none;
      earlier = λ v lt. ap (rows_at v) none;
      pasts = subst ArePasts (sym none) c.requires.pasts;
      up_to = λ to. subst (AreUpTo c.args.version) (sym none) to;
      changes = c.requires.changes;
      above = all_of (λ change. AreAbove change (reverse spare)) c.args.changes.items (λ change. subst (λ (s : List History). AreAbove change (reverse s)) (sym c.requires.spare) tt);
      grown = c.requires.grown;
      fresh = c.requires.fresh;
      some = c.requires.some;
      room = omega (arith, c.requires.room, len, empty);
      spare_room = omega (arith, c.requires.spare_room, len, empty);
    }

pub put_row-requires-clause-above : goal.put_row-requires-clause-above
put_row-requires-clause-above c =
    let P = λ (change : RowChange). AreAbove change (reverse c.loop-change.spare.items) in
    (all_second P c.pop.new.self.items (c.in-Some.change ∷ []) (subst (AllByRecursion P) c.in-Some.ensures.items c.loop-change.invariant.above)).0

pub put_row-requires-clause-grown : goal.put_row-requires-clause-grown
put_row-requires-clause-grown c =
    let P = λ (change : RowChange). HaveRoom change c.loop-change.histories.items in
    (all_second P c.pop.new.self.items (c.in-Some.change ∷ []) (subst (AllByRecursion P) c.in-Some.ensures.items c.loop-change.invariant.grown)).0

-- the greatest row that is left was put
pub loop-change-preserved : goal.loop-change-preserved
loop-change-preserved c =
    let rest = c.pop.new.self.items in
    let change = c.in-Some.change in
    let loop = c.loop-change.invariant in
    let whole = c.in-Some.ensures.items in
    let before = ascends_before rest change (subst (Ascends change_key) whole loop.changes) in
    let puts = c.put_row.ensures.put in
    let old = parts_of c.loop-change.histories.items c.loop-change.spare.items in
    let Above = λ (row : RowChange). AreAbove row (reverse c.loop-change.spare.items) in
    let Grown = λ (row : RowChange). HaveRoom row c.loop-change.histories.items in
    let Below = λ (row : RowChange). key_cmp (change_key row) (change_key change) ≡ Less in
    record {
      now =
          ap (λ rows. overlaid change_key rows rest) puts.now
          ∙ sym (overlaid-append (rows_at c.args.version old) rest change)
          ∙ ap (overlaid change_key (rows_at c.args.version old)) (sym whole)
          ∙ loop.now;
      earlier = λ v lt. puts.earlier v lt ∙ loop.earlier v lt;
      pasts = puts.pasts;
      up_to = λ to. puts.up_to (loop.up_to to);
      changes = before.0;
      above = all_both Below Above (λ (row : RowChange). AreAbove row (reverse c.put_row.new.spare.items)) rest (λ row less up. c.put_row.ensures.above row less up) before.1 (all_first Above rest (change ∷ []) (subst (AllByRecursion Above) whole loop.above));
      grown = all_both Below Grown (λ (row : RowChange). HaveRoom row c.put_row.new.histories.items) rest (λ row less room. c.put_row.ensures.grown row less room) before.1 (all_first Grown rest (change ∷ []) (subst (AllByRecursion Grown) whole loop.grown));
      fresh = c.put_row.ensures.fresh;
      some = omega (arith, c.in-Some.ensures.cases, c.put_row.ensures.fresh_len, loop.some);
      room = omega (arith, c.in-Some.ensures.cases, c.put_row.ensures.len, c.put_row.ensures.capacity, loop.room);
      spare_room = omega (arith, c.in-Some.ensures.cases, c.put_row.ensures.len, c.put_row.ensures.spare_capacity, loop.spare_room);
    }

-- all rows were put
pub loop-history-init : goal.loop-history-init
loop-history-init c =
    let loop = c.loop-change.invariant in
    let none : c.loop-change.changes.items ≡ [] = nil_from_length c.loop-change.changes.items (search rules) in
    record {
      put = record {
        now = sym (ap (overlaid change_key (rows_at c.args.version (parts_of c.loop-change.histories.items c.loop-change.spare.items))) none) ∙ loop.now;
        earlier = loop.earlier;
        pasts = loop.pasts;
        up_to = loop.up_to;
      };
      fresh = loop.fresh;
      room = omega (arith, loop.room);
    }

pub loop-history-preserved : goal.loop-history-preserved
loop-history-preserved c =
    let history = c.in-Some-pop.history in
    let same = ap (λ (hs : List History). parts_of hs c.pop-in-loop-history.new.self.items) c.push_reserved.ensures.items ∙ parts_move c.loop-history.histories.items c.pop-in-loop-history.new.self.items history ∙ ap (λ (s : List History). parts_of c.loop-history.histories.items s) (sym c.in-Some-pop.ensures.items) in
    record {
      put = subst (PutsRows c.args.version c.args.changes.items (pasts_of c.args.histories.now.items)) (sym same) c.loop-history.invariant.put;
      fresh = c.loop-history.invariant.fresh;
      room = omega (arith, c.in-Some-pop.ensures.cases, c.push_reserved.ensures.len, c.push_reserved.ensures.capacity, c.loop-history.invariant.room);
    }

pub returns-clause-put : goal.returns-clause-put
returns-clause-put c =
    let none : c.loop-history.spare.items ≡ [] = nil_from_length c.loop-history.spare.items (search rules) in
    subst (PutsRows c.args.version c.args.changes.items (pasts_of c.args.histories.now.items))
    (ap (λ (s : List History). pasts_of c.loop-history.histories.items ++ pasts_of (reverse s)) none ∙ append-nil (pasts_of c.loop-history.histories.items)) c.loop-history.invariant.put
