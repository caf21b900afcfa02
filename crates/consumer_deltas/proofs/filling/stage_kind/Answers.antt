use Rattle.std.proofs.Common.{◌∙◌, ap, sym, subst, true, [], List, Some}
use Rattle.std.specs.Prelude.{IfSome}
use Rattle.exchange_link.specs.Places.{kinds_of, next_kind}
use Rattle.keeper_memory.specs.copy.Copies.{held_list}
use Rattle.roster_base.specs.Faults.{Rose}
use Rattle.roster_types.specs.Records.{Record}
use Rattle.roster_values.specs.Kinds.{place_of_kind}
use Rattle.consumer_sync.proofs.KindLemmas.{place_at}
use Rattle.consumer_sync.specs.Judging.{kind_done}
use Rattle.consumer_sync.specs.Staging.{Adds}
use Rattle.consumer_deltas.proofs.DeltaFillLemmas.{closed_ends}
use Rattle.consumer_deltas.specs.DeltaFilling.{CanStage, StagesKind, StandsOn, Unstaged, pin_in}
use Rattle.consumer_deltas.proofs.filling.stage_kind.Goals as goal

pub take_page-requires-clause-last : goal.take_page-requires-clause-last
take_page-requires-clause-last g c = subst (λ d. CanStage (next_kind c.args.stage.now) d) c.in-Closed.is c.requires.gathered

pub take_page-requires-clause-kind : goal.take_page-requires-clause-kind
take_page-requires-clause-kind g c = ap place_of_kind c.kind-kind.ensures ∙ place_at (kinds_of c.args.stage.now) c.requires.room

pub returns-in-Closed-clause-on : goal.returns-in-Closed-clause-on
returns-in-Closed-clause-on g c none = c.take_page.ensures.on none ∙ ap (λ d. Some (kind_done c.args.stage.now (pin_in d) c.args.token.now)) (sym c.in-Closed.is)

pub returns-in-Closed-clause-told : goal.returns-in-Closed-clause-told
returns-in-Closed-clause-told g c after stands =
    let x = c.take_page.ensures.told after stands in (
      x.0,
      x.1,
      subst (λ d. StagesKind d (next_kind c.args.stage.now) c.args.stage.now c.args.token.now c.take_page.result x.0 after) (sym c.in-Closed.is)
          (subst (λ (rows : List Record). Adds (record { pin = c.in-Closed.pin; rows = rows; total = 0; done = true }) c.args.token.now c.take_page.result x.0 after) c.new.ensures x.2),
    )

pub returns-in-Closed-clause-ends : goal.returns-in-Closed-clause-ends
returns-in-Closed-clause-ends g c =
    subst (λ d. IfSome c.take_page.result (Unstaged (Rose (g.C.CopyKeeper.fault_count c.args.copy.now) (g.C.CopyKeeper.fault_count c.take_page.new.copy)) (g.C.CopyKeeper.stands_for c.take_page.new.copy) (next_kind c.args.stage.now) d)) (sym c.in-Closed.is)
    (closed_ends (Rose (g.C.CopyKeeper.fault_count c.args.copy.now) (g.C.CopyKeeper.fault_count c.take_page.new.copy)) (g.C.CopyKeeper.stands_for c.take_page.new.copy) (next_kind c.args.stage.now) c.in-Closed.pin c.take_page.result c.take_page.ensures.broken c.take_page.ensures.cause)

pub stage_delta-requires-clause-last : goal.stage_delta-requires-clause-last
stage_delta-requires-clause-last g c = (subst (λ d. CanStage (next_kind c.args.stage.now) d) c.in-Whole.is c.requires.gathered).0

pub stage_delta-requires-clause-entries : goal.stage_delta-requires-clause-entries
stage_delta-requires-clause-entries g c = (subst (λ d. CanStage (next_kind c.args.stage.now) d) c.in-Whole.is c.requires.gathered).1

pub stage_delta-requires-clause-held : goal.stage_delta-requires-clause-held
stage_delta-requires-clause-held g c d stands = subst (λ e. StandsOn (held_list d (next_kind c.args.stage.now)) e) c.in-Whole.is (c.requires.held d stands)

pub returns-in-Whole-clause-on : goal.returns-in-Whole-clause-on
returns-in-Whole-clause-on g c none = c.stage_delta.ensures.on none ∙ ap (λ d. Some (kind_done c.args.stage.now (pin_in d) c.args.token.now)) (sym c.in-Whole.is)

pub returns-in-Whole-clause-told : goal.returns-in-Whole-clause-told
returns-in-Whole-clause-told g c after stands =
    let x = c.stage_delta.ensures.told after stands in
    (x.0, x.1, subst (λ d. StagesKind d (next_kind c.args.stage.now) c.args.stage.now c.args.token.now c.stage_delta.result x.0 after) (sym c.in-Whole.is) x.2)

pub returns-in-Whole-clause-ends : goal.returns-in-Whole-clause-ends
returns-in-Whole-clause-ends g c = subst (λ d. IfSome c.stage_delta.result (Unstaged (Rose (g.C.CopyKeeper.fault_count c.args.copy.now) (g.C.CopyKeeper.fault_count c.stage_delta.new.copy)) (g.C.CopyKeeper.stands_for c.stage_delta.new.copy) (next_kind c.args.stage.now) d)) (sym c.in-Whole.is) c.stage_delta.ensures.ends
