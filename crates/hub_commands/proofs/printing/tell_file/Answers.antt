use Rattle.std.proofs.Common.{ℕ, List, Ok, append-nil, inl, refl, subst, sym}
use Rattle.std.specs.Io.KnownBytes.{Appends}
use Rattle.outside_ports.specs.Written.{AppendsPart}
use Rattle.hub_commands.specs.Answers.{IsPrinted}
use Rattle.hub_commands.specs.ExportAnswers.{file_answer}
use Rattle.hub_commands.proofs.Telling.{writes}
use Rattle.hub_commands.proofs.printing.tell_file.Goals as goal

pub returns-in-Ok : goal.returns-in-Ok
returns-in-Ok g c = rw c.in-Ok.is (writes _ _ (IsPrinted (file_answer (Ok c.in-Ok.bytes))) (file_answer (Ok c.in-Ok.bytes)) (inl refl)
    (λ other. let d = c.print_bytes-status.ensures.done other in
    (d.0, subst (λ (t : List ℕ). Appends (g.O.Sink.written c.args.out.now) (g.O.Sink.written c.print_bytes-status.new.out) t) (sym (append-nil c.in-Ok.bytes)) (rw c.as_slice.ensures at d.1), d.2))
    (λ one. let p = c.print_bytes-status.ensures.fault one in
    (p.0, subst (λ (t : List ℕ). AppendsPart (g.O.Sink.written c.args.out.now) (g.O.Sink.written c.print_bytes-status.new.out) t) (sym (append-nil c.in-Ok.bytes)) (rw c.as_slice.ensures at p.1))))

pub returns-in-Err : goal.returns-in-Err
returns-in-Err g c = rw c.in-Err.is (rw c.nothing_done.ensures at c.tell.ensures)
