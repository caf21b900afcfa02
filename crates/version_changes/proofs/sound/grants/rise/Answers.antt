use Rattle.std.proofs.Common.{◌≡◌, ◌+◌, ◌-◌, true, get_or, sym, ap, ◌∙◌, arith, inl, inr}
use Rattle.std.specs.Ordering.{is_lt, nat_cmp}
use Rattle.std.proofs.lemmas.Bool.{cases_eq}
use Rattle.std.proofs.lemmas.List.{get_or_default}
use Rattle.reference_rules.proofs.KeyOrder.{less_from_is_lt}
use Rattle.std.specs.Cmp.Lexicographic.{slice_cmp}
use Rattle.version_changes.proofs.GrantLemmas.{callers_rise}
use Rattle.version_changes.proofs.sound.grants.rise.Goals as goal

pub loop-place-preserved : goal.loop-place-preserved
loop-place-preserved c = λ k d lt. elim (cases_eq (k + 1) c.loop-place.place) [
  | inl same ↦
      let grants = c.args.grants.now in
      let at : c.loop-place.place - 1 ≡ k = omega arith in
      let a = c.index-grants-place.result in
      let b = c.index-grants-place-in-loop-place.result in
      let low : a ≡ get_or grants k d = c.index-grants-place.is ∙ ap (λ i. get_or grants i a) at ∙ get_or_default grants k a d (omega (arith, c.loop-place-test.true)) in
      let high : b ≡ get_or grants (k + 1) d = c.index-grants-place-in-loop-place.is ∙ ap (λ i. get_or grants i b) (sym same) ∙ get_or_default grants (k + 1) b d (omega (arith, c.loop-place-test.true)) in
      let below : is_lt (slice_cmp nat_cmp a.caller b.caller) ≡ true = sym c.is_below.ensures ∙ c.if-not-is_below.false in
      less_from_is_lt _ ((λ i. is_lt (slice_cmp nat_cmp (sym low i).caller (sym high i).caller)) ∙ below)
  | inr apart ↦ c.loop-place.invariant k d (omega arith)
]

pub returns : goal.returns
returns c = λ yes. callers_rise c.args.grants.now (λ k d lt. c.loop-place.invariant k d (omega (arith, c.loop-place-test.false)))
