use Rattle.std.proofs.Common.{◌≡◌, ◌∙◌, ◌<◌, ℕ, List, ap, get_or, length, map, arith, inl, inr, subst}
use Rattle.std.proofs.lemmas.Bool.{cases_lt}
use Rattle.std.proofs.lemmas.List.{get_or_default}
use Rattle.roster_types.specs.Records.{Record}
use Rattle.version_core.specs.declared.ref_index.RefEntry.{RefEntry}
use Rattle.roster_values.specs.Table.{info_of, table}
use Rattle.roster_values.specs.declared.fields.FieldInfo.{FieldInfo}
use Rattle.version_core.specs.RefIndex.{IsNameIndexed}
use Rattle.version_core.proofs.SayingLemmas.{indexed_from}
use Rattle.version_core.proofs.ref_index.is_row_indexed.Goals as goal

said_here : (runs : List (List RefEntry)) (row : Record) (infos : List FieldInfo) (i k : ℕ) (e d : FieldInfo) → i < length infos → i ≡ k → IsNameIndexed runs row (get_or infos i e).name.now → IsNameIndexed runs row (get_or infos k d).name.now
said_here runs row infos i k e d lt same said = subst (λ (info : FieldInfo). IsNameIndexed runs row info.name.now) (get_or_default infos i e d lt ∙ ap (λ n. get_or infos n d) same) said

pub loop-info-preserved : goal.loop-info-preserved
loop-info-preserved c = λ k d lt. elim (cases_lt k c.loop-info.info-index) [
  | inl before ↦ c.loop-info.invariant k d before
  | inr from ↦
      let same : c.loop-info.info-index ≡ k = omega arith in
      let infos = c.fields-infos.result.now in
      said_here c.args.runs.now c.args.row.now infos c.loop-info.info-index k _ d c.loop-info-test.true same (c.is_name_indexed.ensures c.if-not-is_name_indexed.false)
]

pub returns : goal.returns
returns c = λ _.
    let infos = c.fields-infos.result.now in
    let are : map info_of infos ≡ table c.args.row.now.kind = c.fields-infos.ensures ∙ ap table c.kind.ensures.kind in
    indexed_from c.args.runs.now c.args.row.now infos are (λ k d lt. c.loop-info.invariant k d (omega (arith, c.loop-info-test.false)))
