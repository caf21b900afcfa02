use Rattle.std.proofs.Common.{◌≡◌, ◌∙◌, [], true, get_or, ap, arith, inl, inr, subst}
use Rattle.std.proofs.lemmas.Bool.{cases_lt}
use Rattle.std.proofs.lemmas.List.{get_or_default}
use Rattle.std.specs.List.{list_any}
use Rattle.roster_values.specs.Kinds.{place_of_kind}
use Rattle.version_core.specs.RefIndex.{is_entry_of}
use Rattle.version_core.proofs.SayingLemmas.{each_of}
use Rattle.version_core.proofs.ref_index.all_have_entries.Goals as goal

pub loop-target-preserved : goal.loop-target-preserved
loop-target-preserved c = λ k lt. elim (cases_lt k c.loop-target.target-index) [
  | inl before ↦ c.loop-target.invariant k before
  | inr from ↦
      let targets = c.args.targets.now in
      let i = c.loop-target.target-index in
      let same : i ≡ k = omega arith in
      let here = c.target-item.is ∙ get_or_default targets i c.target-item.result [] c.loop-target-test.true ∙ ap (λ n. get_or targets n []) same in
      subst (λ t. list_any (list_any (is_entry_of (place_of_kind c.args.kind, c.args.place, t) c.args.id.now)) c.args.runs.now ≡ true) here (c.one_has_entry.ensures c.if-not-one_has_entry.false)
]

pub returns : goal.returns
returns c = λ _. each_of (λ t. list_any (list_any (is_entry_of (place_of_kind c.args.kind, c.args.place, t) c.args.id.now)) c.args.runs.now ≡ true) c.args.targets.now (λ k lt. c.loop-target.invariant k (omega (arith, c.loop-target-test.false)))
