use Rattle.std.proofs.Common.{arith, Some, true}
use Rattle.std.proofs.lemmas.Grind.{text_groups}
use Rattle.std.proofs.lemmas.Map.Text.{hash_map_updates_str}
use Rattle.reference_rules.proofs.cycles.note_lap.Goals as goal

pub loop-id-preserved : goal.loop-id-preserved
loop-id-preserved c = λ q.
    let put = hash_map_updates_str c.as_str.result.now c.loop-id.notes c.insert.new.self (Some true) c.in_ok-insert.ensures.updates in
    grind (arith, text_groups, c.loop-id.invariant q, put q)
