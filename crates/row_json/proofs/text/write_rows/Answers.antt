use Rattle.std.proofs.Common.{rules, ◌<◌, arith, length}
use Rattle.std.proofs.lemmas.Grind.{common_steps}
use Rattle.std.proofs.lemmas.List.Elements.{All-more}
use Rattle.row_json.specs.Reading.{IsHeld}
use Rattle.row_json.proofs.text.write_rows.Goals as goal

pub loop-row-preserved : goal.loop-row-preserved
loop-row-preserved c =
    let within : c.loop-row.row-index < length c.args.rows.now = omega arith in
    record {
      before = search rules;
      tokens = grind (arith, common_steps);
      held = All-more IsHeld c.args.rows.now c.loop-row.row-index c.row-item.result within c.loop-row.invariant.held (rw (← c.row-item.is) (record { row = c.kind.ensures.row; keys = search rules }));
    }
