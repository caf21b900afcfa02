use Rattle.std.proofs.Common.{◌≡◌, ◌+◌, ◌≤◌, ⊎_elim, ◌++◌, [], ℕ, List, true, None, Option, Some, arith, drop, length}
use Rattle.std.proofs.Common.{map}
use Rattle.std.proofs.Common.{take, refl, sym, ap, subst, ◌∙◌}
use Rattle.std.specs.List.{All}
use Rattle.std.proofs.Math.Seq.{take-add}
use Rattle.std.proofs.lemmas.List.{length-drop, length-map, take_all, take-append-drop}
use Rattle.std.proofs.lemmas.List.Elements.{All-drop, All-take}
use Rattle.consumer_sync.specs.Judging.{kind_done}
use Rattle.consumer_sync.specs.Staging.{IsBroken, Taking}
use Rattle.exchange_link.specs.Agreement.{IsFrontOf}
use Rattle.exchange_link.specs.Places.{kinds_of, last_of, staged_of}
use Rattle.keeper_memory.specs.copy.Lists.{ascends, last_from}
use Rattle.keeper_memory.specs.declared.copy.state.StageState.{StageState}
use Rattle.roster_types.specs.Records.{Record}
use Rattle.roster_values.specs.declared.kind.Kind.{Kind}
use Rattle.consumer_deltas.proofs.DeltaStageLemmas.{Sofar, behind_up, ended_same, following_kinds, following_up}
use Rattle.consumer_deltas.proofs.DeltaStageLemmas.{front_of, page_up, paged_kinds, paged_last, paged_staged, sofar_on}
use Rattle.consumer_deltas.proofs.DeltaStageLemmas.{stages_part, stages_whole}
use Rattle.consumer_deltas.proofs.DeltaStageLemmas.Sofar.{Nothing}
use Rattle.consumer_deltas.specs.DeltaStaging.{Stages, following}
use Rattle.consumer_deltas.proofs.staged.stage_rows.Given.{Over}
use Rattle.consumer_deltas.proofs.staged.stage_rows.Goals.{After-rows_following-behind}
use Rattle.consumer_deltas.proofs.staged.stage_rows.Goals as goal

-- the rows that follow those which are staged
abbrev all_rows : (g : Over) → After-rows_following-behind g → List Record
all_rows g c = map (λ row. row.now) c.rows_following-behind.result.now

-- all rows that follow, with which the kind ends
abbrev ending : ℕ → ℕ → List Record → Taking
ending pin total rows = record { pin = pin; rows = rows; total = total; done = true }

-- a page of the rows that follow those which are staged
module _ (kind : Kind) (stage now : Option StageState) (rows all page : List Record) (from : ℕ)
    (all_is : all ≡ following stage rows) (page_is : page ≡ take 1000 (drop from all)) where
  abbrev AreOfKind : List Record → Type 0
  AreOfKind rows = All (λ (row : Record). row.kind ≡ kind) rows

  page_kinds : AreOfKind rows → AreOfKind page
  page_kinds kinds =
      let all_kinds = subst AreOfKind (sym all_is) (following_kinds kind stage rows kinds) in
      subst AreOfKind (sym page_is)
      (All-take (λ (row : Record). row.kind ≡ kind) 1000 (drop from all)
      (All-drop (λ (row : Record). row.kind ≡ kind) from all all_kinds))

  page_ascends : ascends (last_of now) (drop from all) ≡ true → ascends (last_of now) page ≡ true
  page_ascends up =
      subst (λ (rows : List Record). ascends (last_of now) rows ≡ true) (sym page_is)
      (page_up (last_of now) from 1000 all up)

pub pages-init : goal.pages-init
pages-init g c =
    let is = c.rows_following-behind.ensures.rows in
    record {
      within = omega arith;
      holds = c.requires.holds;
      ended = refl;
      kinds = refl;
      up = subst (λ (rows : List Record). ascends (last_of c.args.stage.now) rows ≡ true) (sym is)
          (following_up c.args.stage.now _ c.requires.rows.ascend);
      few = omega (arith, c.rows_following-behind.ensures.few);
      copy = λ after stands. (after, stands, Nothing refl refl);
      later = omega arith;
      copy_leads = g.met.C.CopyKeeper.stays _;
    }

pub pages-preserved : goal.pages-preserved
pages-preserved g c =
    let i = c.pages.invariant in
    let from = c.pages.from in
    let stage = c.pages.stage in
    let pin = c.args.list.pin in
    let token = c.args.list.token.now in
    let total = c.args.list.total in
    let all = all_rows g (goal.at.pages-preserved g c).After-rows_following-behind in
    let rows : List Record = map (λ row. row.now) c.page_from-page.result.now in
    let left = drop (from + 1000) all in
    let page_is : rows ≡ take 1000 (drop from all) = c.page_from-page.ensures.rows in
    let on = c.stage_page.ensures.on c.in-None.is in
    let many = length-map c.page_from-page.result.now (λ row. row.now) in
    let long : length rows ≡ 1000 = omega (arith, many, c.page_from-page.ensures.count, c.pages-test.true) in
    let staged : staged_of c.stage_page.new.stage ≡ staged_of stage + length rows =
    ap staged_of on ∙ paged_staged stage pin token rows total in
    record {
      within = omega (arith, i.within, c.pages-test.true);
      holds = c.stage_page.ensures.holds c.in-None.is;
      ended = ap (λ (o : Option StageState). kind_done o pin token) on ∙ ended_same stage pin token rows
          total
          ∙ i.ended;
      kinds = ap kinds_of on ∙ paged_kinds stage pin token rows total ∙ i.kinds;
      up = ap (λ (o : Option StageState). ascends (last_of o) left) on
          ∙ ap (λ last. ascends last left) (paged_last stage pin token rows total)
          ∙ ap (λ (page : List Record). ascends (last_from (last_of stage) page) left) page_is
          ∙ behind_up (last_of stage) from 1000 all i.up;
      few = omega (arith, staged, long, i.few, c.pages-test.true);
      copy = λ after stands.
          let page = c.stage_page.ensures.told after stands in
          let sofar = i.copy page.0 page.1 in (
            sofar.0,
            sofar.1,
            subst (λ (p : List Record). Sofar (ending pin total all) token p sofar.0 after)
                (ap (λ (p : List Record). take from all ++ p) page_is ∙ sym (take-add from 1000 all))
                (sofar_on (ending pin total all) token (take from all) rows c.stage_page.result sofar.0 page.0 after
                c.in-None.is
                sofar.2 page.2),
          );
      later = omega (arith, i.later, c.stage_page.ensures.later);
      copy_leads = g.met.C.CopyKeeper.leads_on _ _ _ i.copy_leads c.stage_page.ensures.copy_leads;
    }

-- the page that comes next may be staged
pub stage_page-requires : goal.stage_page-requires
stage_page-requires g c =
    let i = c.pages.invariant in
    let list = c.args.list in
    let all_is = c.rows_following-behind.ensures.rows in
    let page_is = c.page_from-page.ensures.rows in
    record {
      holds = i.holds;
      last = c.requires.last;
      room = omega (arith, i.kinds, c.requires.room);
      kind = c.requires.kind ∙ sym i.kinds;
      kinds = page_kinds list.kind c.args.stage.now c.pages.stage _ _ _ c.pages.from all_is page_is
          c.requires.rows.kinds;
      ascend = page_ascends list.kind c.args.stage.now c.pages.stage _ _ _ c.pages.from all_is page_is i.up;
      fits = omega (arith, i.few, c.page_from-page.ensures.count);
    }

-- ---- a page in between isn't staged

pub returns-in_default-clause-on : goal.returns-in_default-clause-on
returns-in_default-clause-on g c e = absurd (c.in_default.not-None e)

pub returns-in_default-clause-holds : goal.returns-in_default-clause-holds
returns-in_default-clause-holds g c e = absurd (c.in_default.not-None e)

pub returns-in_default-clause-told : goal.returns-in_default-clause-told
returns-in_default-clause-told g c after stands =
    let from = c.pages.from in
    let pin = c.args.list.pin in
    let token = c.args.list.token.now in
    let total = c.args.list.total in
    let result = c.stage_page.result in
    let all = all_rows g (goal.at.returns-in_default-clause-told g c).After-rows_following-behind in
    let rows : List Record = map (λ row. row.now) c.page_from-page.result.now in
    let next : take (from + 1000) all ≡ take from all ++ rows =
    take-add from 1000 all ∙ ap (λ (p : List Record). take from all ++ p) (sym c.page_from-page.ensures.rows) in
    let page = c.stage_page.ensures.told after stands in
    let sofar = c.pages.invariant.copy page.0 page.1 in
    let broken : IsBroken result = ⊎_elim (λ (none : result ≡ None). absurd (c.in_default.not-None none))
    (λ (broken : IsBroken result). broken) c.stage_page.ensures.broken in
    let front : IsFrontOf (take from all ++ rows) all = subst (λ (p : List Record). IsFrontOf p all) next
    (front_of (from + 1000) all) in (
      sofar.0,
      sofar.1,
      subst (λ (p : List Record). Stages (ending pin total p) token result sofar.0 after)
          c.rows_following-behind.ensures.rows
          (stages_part (ending pin total all) token (take from all) rows result sofar.0 page.0 after (front_of from all)
          front broken
          sofar.2 page.2),
    )

pub returns-in_default-clause-copy_leads : goal.returns-in_default-clause-copy_leads
returns-in_default-clause-copy_leads g c = g.met.C.CopyKeeper.leads_on _ _ _ c.pages.invariant.copy_leads
    c.stage_page.ensures.copy_leads

-- ---- the last page

pub stage_page-requires-2 : goal.stage_page-requires-2
stage_page-requires-2 g c =
    let i = c.pages.invariant in
    let list = c.args.list in
    let all_is = c.rows_following-behind.ensures.rows in
    let page_is = c.page_from-page-2.ensures.rows in
    record {
      holds = i.holds;
      last = c.requires.last;
      room = omega (arith, i.kinds, c.requires.room);
      kind = c.requires.kind ∙ sym i.kinds;
      kinds = page_kinds list.kind c.args.stage.now c.pages.stage _ _ _ c.pages.from all_is page_is
          c.requires.rows.kinds;
      ascend = page_ascends list.kind c.args.stage.now c.pages.stage _ _ _ c.pages.from all_is page_is i.up;
      fits = omega (arith, i.few, c.page_from-page-2.ensures.count);
    }

pub returns-clause-on : goal.returns-clause-on
returns-clause-on g c e = c.stage_page-2.ensures.on e ∙ ap (λ (s : StageState). Some s) c.pages.invariant.ended

pub returns-clause-told : goal.returns-clause-told
returns-clause-told g c after stands =
    let from = c.pages.from in
    let pin = c.args.list.pin in
    let token = c.args.list.token.now in
    let total = c.args.list.total in
    let result = c.stage_page-2.result in
    let all = all_rows g (goal.at.returns-clause-told g c).After-rows_following-behind in
    let rows : List Record = map (λ row. row.now) c.page_from-page-2.result.now in
    let many = length-map c.rows_following-behind.result.now (λ row. row.now) in
    let left : length (drop from all) ≤ 1000 = omega (arith, many, length-drop from all, c.pages-test.false) in
    let whole : take from all ++ rows ≡ all =
    ap (λ (p : List Record). take from all ++ p) (c.page_from-page-2.ensures.rows ∙ take_all 1000 (drop from all) left)
    ∙ take-append-drop from all in
    let page = c.stage_page-2.ensures.told after stands in
    let sofar = c.pages.invariant.copy page.0 page.1 in (
      sofar.0,
      sofar.1,
      subst (λ (p : List Record). Stages (ending pin total p) token result sofar.0 after)
          c.rows_following-behind.ensures.rows
          (stages_whole (ending pin total all) token (take from all) rows result sofar.0 page.0 after whole refl sofar.2
          page.2),
    )

pub returns-clause-copy_leads : goal.returns-clause-copy_leads
returns-clause-copy_leads g c = g.met.C.CopyKeeper.leads_on _ _ _ c.pages.invariant.copy_leads
    c.stage_page-2.ensures.copy_leads
