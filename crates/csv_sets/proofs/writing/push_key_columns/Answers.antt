use Rattle.std.proofs.Common.{◌≡◌, ◌<◌, ◌++◌, codes, length, arith, take, true}
use Rattle.std.proofs.lemmas.List.Elements.{All-push}
use Rattle.std.proofs.lemmas.List.{take_more}
use Rattle.roster_texts.specs.Texts.{is_id}
use Rattle.csv_sets.specs.declared.keys.MetadataKey.{MetadataKey}
use Rattle.csv_sets.proofs.LineSteps.{more_cells}
use Rattle.csv_sets.proofs.writing.push_key_columns.Goals as goal

pub loop-key-preserved : goal.loop-key-preserved
loop-key-preserved c =
    let within : c.loop-key.key-index < length c.args.keys.now = omega arith in
    let more = take_more c.args.keys.now c.loop-key.key-index c.key-item.result within in
    record {
      cells = rw c.in_ok-push.ensures.items (more_cells (λ (k : MetadataKey). codes "metadata." ++ k.key) _ _ c.args.keys.now c.loop-key.key-index c.key-item.result _ c.loop-key.invariant.cells within c.key-item.is c.in_ok-key_column.ensures.name);
      good = rw (more, ← c.key-item.is) (All-push (λ (k : MetadataKey). is_id k.key ≡ true) (take c.loop-key.key-index c.args.keys.now) c.key-item.result c.loop-key.invariant.good c.in_ok-key_column.ensures.good);
    }
