use Rattle.std.proofs.Common.{◌≡◌, ◌++◌, ◌∷◌, [], ◌∙◌, ℕ, List, ap, sym, subst, arith, filter, map}
use Rattle.std.proofs.lemmas.List.{take_all}
use Rattle.roster_types.specs.Keys.{Ascends}
use Rattle.version_core.proofs.RoomLemmas.{map_push}
use Rattle.version_core.proofs.SpanLemmas.{changed_up, more_changed, none_changed, pasts_of_kind, same_beside}
use Rattle.version_core.specs.History.{Past, pasts_of, rows_at}
use Rattle.version_core.specs.Spans.{AreSameBeside, Spanned, changed_ids, has_change, key_in, past_id}
use Rattle.version_core.specs.declared.history.History.{History}
use Rattle.version_core.specs.declared.row_change.RowChange.{RowChange}
use Rattle.version_core.proofs.span.Span.changed_ids.Goals as goal

pub loop-history-preserved-then-not-has_change : goal.loop-history-preserved-then-not-has_change
loop-history-preserved-then-not-has_change c =
    none_changed c.self.inside.from c.self.inside.to c.histories_of_kind-histories.result.now c.loop-history.history-index c.history-item.result c.loop-history-test.true (sym c.history-item.is)
    (sym c.has_change.ensures ∙ c.if-not-has_change.true) (map (λ id. id.now) c.loop-history.ids.items) c.loop-history.invariant

pub loop-history-preserved : goal.loop-history-preserved
loop-history-preserved c =
    ap (map (λ id. id.now)) c.in_ok-push.ensures.items
    ∙ map_push (λ id. id.now) c.loop-history.ids.items c.id.result
    ∙ ap (λ id. map (λ id. id.now) c.loop-history.ids.items ++ id ∷ []) c.id.ensures
    ∙ more_changed c.self.inside.from c.self.inside.to c.histories_of_kind-histories.result.now c.loop-history.history-index c.history-item.result c.loop-history-test.true (sym c.history-item.is)
    (sym c.has_change.ensures ∙ c.if-not-has_change.false) (map (λ id. id.now) c.loop-history.ids.items) c.loop-history.invariant

-- all that is found are the ids that changed
pub returns-clause-order : goal.returns-clause-order
returns-clause-order c =
    let span = c.self.inside in
    let all : map (λ id. id.now) c.loop-history.ids.items ≡ changed_ids c.args.kind span.from span.to (pasts_of span.histories.now) =
    c.loop-history.invariant
    ∙ ap (λ (hs : List History). map past_id (filter (has_change span.from span.to) (pasts_of hs))) (take_all c.loop-history.history-index c.histories_of_kind-histories.result.now (omega arith) ∙ c.histories_of_kind-histories.ensures)
    ∙ ap (λ (ps : List Past). map past_id (filter (has_change span.from span.to) ps)) (pasts_of_kind c.args.kind span.histories.now) in
    subst (Ascends (key_in c.args.kind)) (sym all) (changed_up c.args.kind span.from span.to (pasts_of span.histories.now) c.self.invariant.pasts)

pub returns-clause-beside : goal.returns-clause-beside
returns-clause-beside c =
    let span = c.self.inside in
    let kind = c.args.kind in
    let pasts = pasts_of span.histories.now in
    let ids = changed_ids kind span.from span.to pasts in
    let all : map (λ id. id.now) c.loop-history.ids.items ≡ ids =
    c.loop-history.invariant
    ∙ ap (λ (hs : List History). map past_id (filter (has_change span.from span.to) (pasts_of hs))) (take_all c.loop-history.history-index c.histories_of_kind-histories.result.now (omega arith) ∙ c.histories_of_kind-histories.ensures)
    ∙ ap (λ (ps : List Past). map past_id (filter (has_change span.from span.to) ps)) (pasts_of_kind kind span.histories.now) in
    let first : rows_at span.from pasts ≡ c.args.self.now.before.rows = sym c.self.invariant.first ∙ ap (λ (s : Spanned). s.before.rows) c.self.view_is in
    let last : rows_at span.to pasts ≡ c.args.self.now.after.rows = sym c.self.invariant.last ∙ ap (λ (s : Spanned). s.after.rows) c.self.view_is in
    let same = same_beside kind span.from span.to pasts c.self.invariant.pasts c.self.invariant.order in
    subst (λ (ids : List (List ℕ)). AreSameBeside kind ids c.args.self.now.before.rows c.args.self.now.after.rows) (sym all)
    (subst (λ (rows : List RowChange). AreSameBeside kind ids c.args.self.now.before.rows rows) last
    (subst (λ (rows : List RowChange). AreSameBeside kind ids rows (rows_at span.to pasts)) first same))
