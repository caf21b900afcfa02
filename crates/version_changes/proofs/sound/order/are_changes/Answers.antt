use Rattle.std.proofs.Common.{◌≡◌, ◌+◌, ◌-◌, true, get_or, sym, ap, ◌∙◌, arith, inl, inr}
use Rattle.std.specs.Ordering.{is_lt}
use Rattle.std.proofs.lemmas.Bool.{cases_eq}
use Rattle.std.proofs.lemmas.List.{get_or_default}
use Rattle.reference_rules.proofs.KeyOrder.{less_from_is_lt}
use Rattle.roster_types.specs.Keys.{key_cmp}
use Rattle.version_core.specs.Changes.{change_key}
use Rattle.version_changes.proofs.OrderLemmas.{changes_ascend}
use Rattle.version_changes.proofs.sound.order.are_changes.Goals as goal

pub loop-place-preserved : goal.loop-place-preserved
loop-place-preserved c = λ k d lt. elim (cases_eq (k + 1) c.loop-place.place) [
  | inl same ↦
      let rows = c.args.rows.now in
      let at : c.loop-place.place - 1 ≡ k = omega arith in
      let a = c.index-rows-place.result in
      let b = c.index-rows-place-in-loop-place.result in
      let low : a ≡ get_or rows k d = c.index-rows-place.is ∙ ap (λ i. get_or rows i a) at ∙ get_or_default rows k a d (omega (arith, c.loop-place-test.true)) in
      let high : b ≡ get_or rows (k + 1) d = c.index-rows-place-in-loop-place.is ∙ ap (λ i. get_or rows i b) (sym same) ∙ get_or_default rows (k + 1) b d (omega (arith, c.loop-place-test.true)) in
      let below : is_lt (key_cmp (change_key a) (change_key b)) ≡ true = sym c.is_below.ensures ∙ c.if-not-is_below.false in
      less_from_is_lt _ ((λ i. is_lt (key_cmp (change_key (sym low i)) (change_key (sym high i)))) ∙ below)
  | inr apart ↦ c.loop-place.invariant k d (omega arith)
]

pub returns : goal.returns
returns c = λ yes. changes_ascend c.args.rows.now (λ k d lt. c.loop-place.invariant k d (omega (arith, c.loop-place-test.false)))
