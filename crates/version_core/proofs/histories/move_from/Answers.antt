use Rattle.std.proofs.Common.{◌≡◌, ◌++◌, ◌∷◌, [], drop, length, refl, reverse, sym, ap, append-nil, append_assoc, take}
use Rattle.std.proofs.Common.{◌∙◌, arith, rules}
use Rattle.std.proofs.lemmas.List.{reverse-append}
use Rattle.version_core.proofs.histories.move_from.Goals as goal
use Rattle.version_core.proofs.PutLemmas.{drop_parts, take_parts}

pub loop-histories-init : goal.loop-histories-init
loop-histories-init c = record {
  parts = ([], sym (append-nil c.args.histories.now.items), refl);
  place = c.requires.place;
  len = refl;
  capacity = refl;
  room = refl;
}

pub loop-histories-preserved : goal.loop-histories-preserved
loop-histories-preserved c =
    let parts = c.loop-histories.invariant.parts in
    let last = c.take_last-last.result in
    record {
      parts = (
        last ∷ parts.0,
        parts.1 ∙ ap (λ xs. xs ++ parts.0) c.take_last-last.ensures.items ∙ append_assoc c.take_last-last.new.self.items (last ∷ []) parts.0,
        ap reverse c.push_reserved.ensures.items ∙ reverse-append c.loop-histories.spare.items (last ∷ []) ∙ ap (λ xs. last ∷ xs) parts.2,
      );
      place = omega (arith, c.loop-histories-test.true, c.len.ensures, c.take_last-last.ensures.len);
      len = omega (arith, c.take_last-last.ensures.len, c.push_reserved.ensures.len, c.loop-histories.invariant.len);
      capacity = search rules;
      room = search rules;
    }

pub returns-clause-histories : goal.returns-clause-histories
returns-clause-histories c =
    let parts = c.loop-histories.invariant.parts in
    let len : c.args.place ≡ length c.loop-histories.histories.items = omega (arith, c.loop-histories-test.false, c.len.ensures, c.loop-histories.invariant.place) in
    sym (ap (take c.args.place) parts.1 ∙ take_parts c.loop-histories.histories.items parts.0 c.args.place len)

pub returns-clause-moved : goal.returns-clause-moved
returns-clause-moved c =
    let parts = c.loop-histories.invariant.parts in
    let len : c.args.place ≡ length c.loop-histories.histories.items = omega (arith, c.loop-histories-test.false, c.len.ensures, c.loop-histories.invariant.place) in
    parts.2 ∙ ap (λ xs. xs ++ reverse c.args.spare.now.items) (sym (ap (drop c.args.place) parts.1 ∙ drop_parts c.loop-histories.histories.items parts.0 c.args.place len))
