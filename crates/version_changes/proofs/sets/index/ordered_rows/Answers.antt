use Rattle.std.proofs.Common.{rules, ◌≡◌, ◌++◌, ◌∷◌, [], length, append_assoc, append-nil, arith, sym, ap, subst, ◌∙◌}
use Rattle.std.proofs.lemmas.List.{flat_map_more, nil_from_length}
use Rattle.std.specs.Vec.Iter.{into_iter_items}
use Rattle.roster_types.specs.Keys.{Ascends, look_up}
use Rattle.version_changes.proofs.IndexLemmas.{index_ascends, index_look_up}
use Rattle.version_changes.specs.sets.Applying.{set_key}
use Rattle.version_changes.specs.sets.Steps.{indexed, part_indexed}
use Rattle.version_changes.proofs.sets.index.ordered_rows.Goals as goal

pub loop-part-preserved : goal.loop-part-preserved
loop-part-preserved c =
    let at = c.loop-part in
    let part = c.in-Some.part in
    let steps : into_iter_items at.part-iterator ≡ part ∷ into_iter_items c.next.new.self = c.in-Some.ensures.steps.0 in
    let added : c.append.new.self.items ≡ at.all.items ++ part_indexed part = search rules in
    record {
      whole = append_assoc at.yielded (part ∷ []) (into_iter_items c.next.new.self) ∙ rw (← steps) at.invariant.whole;
      rows = added ∙ ap (λ rows. rows ++ part_indexed part) at.invariant.rows ∙ flat_map_more part_indexed [] at.yielded part;
      left =
          let was = at.invariant.left in
          let gone = c.in-Some.ensures.steps.1 in
          let short = ap length steps in
          omega arith;
    }

pub returns : goal.returns
returns c =
    let at = c.loop-part in
    let none = c.in-None.ensures.steps in
    let empty : into_iter_items at.part-iterator ≡ [] = nil_from_length (into_iter_items at.part-iterator) (sym at.invariant.left ∙ none.0) in
    let whole : at.yielded ≡ c.args.parts = sym (append-nil at.yielded) ∙ rw empty at at.invariant.whole in
    let all : at.all.items ≡ indexed c.args.parts = at.invariant.rows ∙ ap indexed whole in
    record {
      order = subst (Ascends set_key) (sym all) (index_ascends c.args.parts c.requires);
      rows = λ k. ap (look_up set_key k) all ∙ index_look_up c.args.parts c.requires k;
    }
