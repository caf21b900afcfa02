use Rattle.std.proofs.Common.{◌≡◌, ◌≤◌, ⊎_elim, inl, inr, ℕ, None, true, arith, length, map, sym, ap, subst, ◌∙◌}
use Rattle.std.proofs.lemmas.List.{length-map}
use Rattle.consumer_sync.proofs.KindLemmas.{place_at}
use Rattle.consumer_sync.specs.Staging.{IsBroken}
use Rattle.exchange_link.specs.Places.{kinds_of}
use Rattle.keeper_memory.specs.copy.Lists.{IsList}
use Rattle.roster_values.specs.Kinds.{place_of_kind}
use Rattle.roster_values.specs.declared.kind.Kind.{Kind}
use Rattle.version_core.specs.Version.{row_limit}
use Rattle.consumer_deltas.specs.DeltaMerging.StagesList.{Staged}
use Rattle.consumer_deltas.specs.DeltaStaging.{Stages, following}
use Rattle.consumer_deltas.proofs.merged.stage_list.Goals as goal

pub stage_rows-requires-clause-kind : goal.stage_rows-requires-clause-kind
stage_rows-requires-clause-kind g c = ap place_of_kind c.kind-kind.ensures ∙ place_at (kinds_of c.args.stage.now) c.requires.room

pub stage_rows-requires-clause-rows : goal.stage_rows-requires-clause-rows
stage_rows-requires-clause-rows g c = subst (λ (k : Kind). IsList k (map (λ row. row.now) c.args.rows.now)) (sym c.kind-kind.ensures) c.requires.rows

pub returns-clause-told : goal.returns-clause-told
returns-clause-told g c after stands =
    let many : length (map (λ row. row.now) c.args.rows.now) ≡ length c.args.rows.now = length-map c.args.rows.now (λ row. row.now) in
    let few : length (map (λ row. row.now) c.args.rows.now) ≤ row_limit = omega (arith, many) in
    let x = c.stage_rows.ensures.told after stands in (
      x.0,
      x.1,
      Staged few (subst (λ (n : ℕ). Stages (record { pin = c.args.pin; rows = following c.args.stage.now (map (λ row. row.now) c.args.rows.now); total = n; done = true }) c.args.token.now c.stage_rows.result x.0 after) (sym many) x.2),
    )

pub returns-clause-ends : goal.returns-clause-ends
returns-clause-ends g c = ⊎_elim (λ (none : c.stage_rows.result ≡ None). inl none) (λ (b : IsBroken c.stage_rows.result). inr (inl b)) c.stage_rows.ensures.broken
