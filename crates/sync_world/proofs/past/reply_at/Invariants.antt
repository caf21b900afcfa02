use Rattle.std.proofs.Common.{◌≡◌, drop}
use Rattle.std.specs.List.{AllByRecursion}
use Rattle.std.specs.Prelude.{List}
use Rattle.status_info.specs.declared.request.Request.{Request}
use Rattle.sync_world.specs.Given.{IsGiven}
use Rattle.sync_world.specs.Planned.{past_at}
use Rattle.sync_world.proofs.past.reply_at.Given as goal

abbrev pub invariant-loop-made : goal.invariant-loop-made
invariant-loop-made l = record {
  rest : past_at l.exchange l.past ≡ past_at l.exchange (drop l.made-index l.past);
  given : (sent : List Request) → AllByRecursion (IsGiven sent) l.past → AllByRecursion (IsGiven sent) (drop l.made-index l.past);
}
