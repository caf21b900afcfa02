use Rattle.std.proofs.Common.{◌≡◌, List, length, map, inr, refl, sym, ap, subst, ◌∙◌}
use Rattle.std.proofs.lemmas.List.{length-map}
use Rattle.exchange_link.specs.Places.{next_kind}
use Rattle.keeper_memory.specs.copy.Lists.{IsList}
use Rattle.roster_types.specs.Records.{Record}
use Rattle.roster_values.specs.declared.kind.Kind.{Kind}
use Rattle.row_deltas.specs.Deltas.{merged}
use Rattle.consumer_deltas.proofs.DeltaListLemmas.{merged_list}
use Rattle.consumer_deltas.proofs.DeltaMergeLemmas.{ends_staged, merged_many, merges_staged}
use Rattle.consumer_deltas.specs.DeltaJudging.{MayCome}
use Rattle.consumer_deltas.specs.DeltaMerging.Merges.{Fails}
use Rattle.consumer_deltas.specs.DeltaMerging.Unmerged.{Wants}
use Rattle.consumer_deltas.proofs.merged.stage_delta.Goals as goal

pub merged_rows-requires : goal.merged_rows-requires
merged_rows-requires g c = subst (λ (k : Kind). MayCome k c.args.entries.now) (sym c.kind-kind.ensures) c.requires.entries.come

pub stage_list-requires : goal.stage_list-requires
stage_list-requires g c =
    let kind = next_kind c.args.stage.now in
    let come = c.requires.entries.come in
    let is : map (λ row. row.now) c.as_slice.result.now ≡ merged c.args.entries.now.held c.args.entries.now.puts c.args.entries.now.gone =
    ap (map (λ row. row.now)) c.as_slice.ensures.value ∙ c.in-Ok.ensures in
    record {
      holds = c.requires.holds;
      last = c.requires.last;
      room = c.requires.room;
      rows = subst (λ (rows : List Record). IsList kind rows) (sym is) (merged_list kind c.args.entries.now.held c.args.entries.now.puts c.args.entries.now.gone come.held come.puts);
    }

-- ---- there was no memory

pub returns-in-Err-clause-told : goal.returns-in-Err-clause-told
returns-in-Err-clause-told g c after stands = (after, stands, Fails (inr refl) refl)

pub returns-in-Err-clause-ends : goal.returns-in-Err-clause-ends
returns-in-Err-clause-ends g c = Wants refl

-- ---- the list is staged

pub returns-in-Ok-clause-told : goal.returns-in-Ok-clause-told
returns-in-Ok-clause-told g c after stands =
    let kind = next_kind c.args.stage.now in
    let rows : List Record = map (λ row. row.now) c.as_slice.result.now in
    let is : rows ≡ merged c.args.entries.now.held c.args.entries.now.puts c.args.entries.now.gone = ap (map (λ row. row.now)) c.as_slice.ensures.value ∙ c.in-Ok.ensures in
    let x = c.stage_list.ensures.told after stands in
    (x.0, x.1, merges_staged kind c.args.entries.now c.args.entries.now.held rows is c.args.stage.now c.args.pin c.args.token.now c.stage_list.result x.0 after (c.requires.held x.0 x.1) x.2)

pub returns-in-Ok-clause-ends : goal.returns-in-Ok-clause-ends
returns-in-Ok-clause-ends g c =
    let kind = next_kind c.args.stage.now in
    let rows : List Record = map (λ row. row.now) c.as_slice.result.now in
    let is : rows ≡ merged c.args.entries.now.held c.args.entries.now.puts c.args.entries.now.gone = ap (map (λ row. row.now)) c.as_slice.ensures.value ∙ c.in-Ok.ensures in
    let many : length rows ≡ length c.as_slice.result.now = length-map c.as_slice.result.now (λ row. row.now) in
    ends_staged _ _ kind c.args.entries.now (length c.as_slice.result.now) c.stage_list.result c.stage_list.ensures.cause
    (λ d stands.
    let x = c.stage_list.ensures.told d stands in
    sym many ∙ merged_many kind c.args.entries.now c.args.entries.now.held rows is c.args.stage.now c.args.pin c.args.token.now c.stage_list.result x.0 d (c.requires.held x.0 x.1) x.2)
    c.stage_list.ensures.ends
