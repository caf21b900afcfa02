use Rattle.std.proofs.Common.{◌≡◌, ◌<◌, ◌∙◌, ◌++◌, None, ap, drop, length, rules, subst, sym}
use Rattle.hub_history.specs.Histories.{IsLegal, waiting_list}
use Rattle.hub_history.proofs.Publishing.{next_begins, next_whole, values_err, values_ok}
use Rattle.hub_history.proofs.Steps.{goes_on}
use Rattle.hub_history.proofs.publisher.Publisher.publish.Goals as goal
use Rattle.hub_history.proofs.publisher.Publisher.publish.Goals.{else-done, then-done}

pub publish_as-writer-requires : goal.publish_as-writer-requires
publish_as-writer-requires g c next is =
    let writer = c.hand_over-waits.new.writer in
    let shown = ap (λ desk. desk.shown.value) c.hand_over-waits.ensures.desk ∙ c.self.invariant.0 in
    goes_on _ _ writer.desk.shown.value next (next_begins writer.desk.shown.value next c.self.inside.published c.hand_over-waits.new.front (drop writer.behind writer.log.items) c.hand_over-waits.result.0 c.hand_over-waits.result.1 shown c.hand_over-waits.ensures.stage is)

pub invariant_of-next : goal.invariant_of-next
invariant_of-next g c =
    let writer = c.hand_over-waits.new.writer in
    let now = c.publish_as-writer.result.0 in
    let shown = ap (λ desk. desk.shown.value) c.hand_over-waits.ensures.desk ∙ c.self.invariant.0 in
    let legal = subst (λ w. IsLegal g.N.Naming.opening (c.self.inside.published ++ waiting_list w)) (sym c.hand_over-waits.ensures.same) c.self.invariant.2 in
    elim c.if-done.branch [
      | then-done w ↦
          let done = values_ok c.publish_as-writer.result.1 writer.desk.shown.value now.desk.shown.value (drop writer.behind writer.log.items) (drop now.behind now.log.items) (sym c.is_ok-done.ensures.value ∙ w.if-done.true) c.publish_as-writer.ensures.values in
          let beside : c.hand_over-waits.result.0 ≡ None = search rules in
          let some : 0 < length (drop writer.behind writer.log.items) = search rules in
          let whole = next_whole g.N.Naming.opening writer.desk.shown.value now.desk.shown.value c.self.inside.published c.hand_over-waits.new.front c.if-done.published2 (drop writer.behind writer.log.items) (drop now.behind now.log.items)
          c.hand_over-waits.result.0 c.hand_over-waits.result.1 shown c.hand_over-waits.ensures.stage some done.0 done.1 beside (w.published2-is ∙ w.again-published.ensures) legal in
          (whole.0, whole.1, whole.2, c.self.invariant.3)
      | else-done w ↦
          let same = values_err c.publish_as-writer.result.1 writer.desk.shown.value now.desk.shown.value (drop writer.behind writer.log.items) (drop now.behind now.log.items) (sym c.is_ok-done.ensures.value ∙ w.if-done.false) c.publish_as-writer.ensures.values in
          rw (same.0, same.1, w.published2-is) (shown, c.hand_over-waits.ensures.stage, legal, c.self.invariant.3)
    ]
