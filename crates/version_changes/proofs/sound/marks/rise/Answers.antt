use Rattle.std.proofs.Common.{◌≡◌, ◌+◌, ◌-◌, true, get_or, sym, ap, ◌∙◌, arith, inl, inr}
use Rattle.std.specs.Ordering.{is_lt}
use Rattle.std.proofs.lemmas.Bool.{cases_eq}
use Rattle.std.proofs.lemmas.List.{get_or_default}
use Rattle.reference_rules.proofs.KeyOrder.{less_from_is_lt}
use Rattle.version_core.specs.Marks.{mark_cmp}
use Rattle.version_changes.proofs.SoundMarks.{marks_rise}
use Rattle.version_changes.proofs.sound.marks.rise.Goals as goal

pub loop-place-preserved : goal.loop-place-preserved
loop-place-preserved c = λ k d lt. elim (cases_eq (k + 1) c.loop-place.place) [
  | inl same ↦
      let marks = c.args.marks.now in
      let at : c.loop-place.place - 1 ≡ k = omega arith in
      let a = c.index-marks-place.result in
      let b = c.index-marks-place-in-loop-place.result in
      let low : a ≡ get_or marks k d = c.index-marks-place.is ∙ ap (λ i. get_or marks i a) at ∙ get_or_default marks k a d (omega (arith, c.loop-place-test.true)) in
      let high : b ≡ get_or marks (k + 1) d = c.index-marks-place-in-loop-place.is ∙ ap (λ i. get_or marks i b) (sym same) ∙ get_or_default marks (k + 1) b d (omega (arith, c.loop-place-test.true)) in
      let below : is_lt (mark_cmp a b) ≡ true = sym c.is_below.ensures ∙ c.if-not-is_below.false in
      less_from_is_lt _ ((λ i. is_lt (mark_cmp (sym low i) (sym high i))) ∙ below)
  | inr apart ↦ c.loop-place.invariant k d (omega arith)
]

pub returns : goal.returns
returns c = λ yes. marks_rise c.args.marks.now (λ k d lt. c.loop-place.invariant k d (omega (arith, c.loop-place-test.false)))
