use Rattle.std.proofs.Common.{◌≡◌, filter, map, take}
use Rattle.version_core.specs.History.{pasts_of}
use Rattle.version_core.specs.Spans.{has_change, past_id}
use Rattle.version_core.proofs.span.Span.changed_ids.Given as goal

abbrev pub invariant-loop-history : goal.invariant-loop-history
invariant-loop-history l = map (λ id. id.now) l.ids.items ≡ map past_id (filter (has_change l.from l.to) (pasts_of (take l.history-index l.histories)))
