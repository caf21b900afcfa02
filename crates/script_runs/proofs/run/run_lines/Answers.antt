use Rattle.std.proofs.Common.{◌<◌, IsErr, arith, length, refl, rules, string_bytes, subst, ◌∙◌}
use Rattle.script_runs.proofs.Walking.{gone_all, gone_none, gone_on, gone_stops, part_of, part_on, whole_of}
use Rattle.script_runs.specs.Plays.{LineStep}
use Rattle.script_runs.proofs.run.run_lines.Goals as goal

pub loop-line-init : goal.loop-line-init
loop-line-init g c = record { gone = gone_none _ _ _ _ c.requires.opens c.requires.sound; files = refl; folder = refl; sink = refl }

pub returns-in-Err-clause-written : goal.returns-in-Err-clause-written
returns-in-Err-clause-written g c =
    let within : c.loop-line.line-index < length c.args.lines.now = omega arith in
    rw c.end_of.ensures (gone_stops _ _ c.loop-line.line-index c.loop-line.play _ _ c.in-Err.stop within c.loop-line.invariant.gone)

pub returns-then-is_err-clause-written : goal.returns-then-is_err-clause-written
returns-then-is_err-clause-written g c =
    let within : c.loop-line.line-index < length c.args.lines.now = omega arith in
    let err : IsErr c.print.result = search rules in
    part_on _ (string_bytes c.in-Ok.text) c.loop-line.invariant.gone within c.line-item.is c.in-Ok.ensures.sound
    (subst (λ fs. LineStep fs c.line-item.result c.loop-line.play c.run_line.new.self (string_bytes c.in-Ok.text)) c.loop-line.invariant.files c.in-Ok.ensures.step)
    (g.O.Sink.written c.print.new.out) (part_of _ _ _ c.print.result err (rw c.as_str.ensures.value at c.print.ensures.bytes))

pub loop-line-preserved : goal.loop-line-preserved
loop-line-preserved g c =
    let within : c.loop-line.line-index < length c.args.lines.now = omega arith in
    record {
      gone =
          let ok : ¬ (IsErr c.print.result) = search rules in
          gone_on _ (string_bytes c.in-Ok.text) c.loop-line.invariant.gone within c.line-item.is c.in-Ok.ensures.sound
          (subst (λ fs. LineStep fs c.line-item.result c.loop-line.play c.run_line.new.self (string_bytes c.in-Ok.text)) c.loop-line.invariant.files c.in-Ok.ensures.step)
          (g.O.Sink.written c.print.new.out) (whole_of _ _ _ c.print.result ok (rw c.as_str.ensures.value at c.print.ensures.bytes));
      files = c.in-Ok.ensures.files ∙ c.loop-line.invariant.files;
      folder = c.in-Ok.ensures.stood ∙ c.loop-line.invariant.folder;
      sink = search rules;
    }

pub returns-clause-written : goal.returns-clause-written
returns-clause-written g c = gone_all _ _ c.loop-line.line-index c.loop-line.play _ _ (omega arith) c.loop-line.invariant.gone
