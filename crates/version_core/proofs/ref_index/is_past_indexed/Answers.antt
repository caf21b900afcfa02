use Rattle.std.proofs.Common.{◌≡◌, ◌∙◌, ◌<◌, ℕ, List, ap, get_or, length, arith, inl, inr, subst}
use Rattle.std.proofs.lemmas.Bool.{cases_lt}
use Rattle.std.proofs.lemmas.List.{get_or_default}
use Rattle.version_core.specs.RefIndex.{IsIndexed}
use Rattle.version_core.specs.declared.ref_index.RefEntry.{RefEntry}
use Rattle.version_core.specs.declared.row_change.RowChange.{RowChange}
use Rattle.version_core.specs.declared.since.Since.{Since}
use Rattle.version_core.proofs.ref_index.is_past_indexed.Goals as goal

said_at : (runs : List (List RefEntry)) (rows : List (Since RowChange)) (i k : ℕ) (e d : Since RowChange) → i < length rows → i ≡ k → e ≡ get_or rows i e → IsIndexed runs e.value.row → IsIndexed runs (get_or rows k d).value.row
said_at runs rows i k e d lt same is said = subst (λ (x : Since RowChange). IsIndexed runs x.value.row) (is ∙ get_or_default rows i e d lt ∙ ap (λ n. get_or rows n d) same) said

pub loop-since-preserved : goal.loop-since-preserved
loop-since-preserved c = λ k d low lt. elim (cases_lt k c.loop-since.since-index) [
  | inl before ↦ c.loop-since.invariant k d low before
  | inr from ↦
      let same : c.loop-since.since-index ≡ k = omega arith in
      said_at c.args.runs.now c.args.rows.now c.loop-since.since-index k c.since-item.result d c.loop-since-test.true same c.since-item.is (c.is_row_indexed.ensures c.if-not-is_row_indexed.false)
]
