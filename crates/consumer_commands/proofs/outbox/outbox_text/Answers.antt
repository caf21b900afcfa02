use Rattle.std.proofs.Common.{◌∷◌, ◌++◌, List, [], ℕ, ap, arith, refl, subst, sym, ◌∙◌}
use Rattle.std.specs.Prelude.{IfSome, Option}
use Rattle.keeper_memory.specs.copy.States.{CanBeEntry}
use Rattle.keeper_memory.specs.declared.copy.entry.OutEntry.{OutEntry}
use Rattle.consumer_commands.specs.SendLines.{entry_text}
use Rattle.consumer_commands.proofs.OutboxLemmas.{all_up_to, lines_on, next_up_to, none_of, none_up_to, rise_of}
use Rattle.consumer_commands.proofs.OutboxLemmas.{rise_on}
use Rattle.consumer_commands.proofs.outbox.outbox_text.Goals as goal

pub entries-init : goal.entries-init
entries-init g c = record {
  last = omega arith;
  done = ([], omega arith, c.new-text.ensures.bytes, λ d stands. sym (none_up_to 0 0 d.entries (omega arith) (g.met.C.CopyKeeper.is_copy c.args.copy.now d stands).entries.rise));
  same = λ d stands. stands;
  leads = g.met.C.CopyKeeper.stays c.args.copy.now;
  faults = refl;
}

pub returns-in_default-clause-text : goal.returns-in_default-clause-text
returns-in_default-clause-text g c =
    let done = c.entries.invariant.done in
    record {
      entries = done.0;
      rise = rise_of 0 c.entries.after done.0 done.1;
      held = λ d stands.
          done.3 d (c.in_ok-entry.ensures.same d stands)
          ∙ all_up_to c.entries.after d.entries (sym (c.in_ok-entry.ensures.shown d stands) ∙ none_of c.in_ok-entry.field-0 c.in_default.not-Some);
      is = done.2;
    }

pub entries-preserved : goal.entries-preserved
entries-preserved g c =
    let done = c.entries.invariant.done in
    let entry : OutEntry = c.in-Some.entry in
    let can = subst (λ (o : Option OutEntry). IfSome o (CanBeEntry c.entries.after)) c.in-Some.is c.in_ok-entry.ensures.any in
    record {
      last = can.last;
      done = (
        done.0 ++ entry ∷ [],
        rise_on 0 c.entries.after done.0 entry done.1 can.above,
        c.in_ok-text.ensures ∙ ap (λ (t : List ℕ). t ++ entry_text entry) done.2 ∙ sym (lines_on done.0 entry),
        λ d stands.
            let stood = c.in_ok-entry.ensures.same d stands in
            let rise = (g.met.C.CopyKeeper.is_copy c.entries.copy d stood).entries.rise in
            ap (λ (es : List OutEntry). es ++ entry ∷ []) (done.3 d stood)
            ∙ sym (next_up_to c.entries.after 0 d.entries entry rise (sym (c.in_ok-entry.ensures.shown d stands) ∙ c.in-Some.is)),
      );
      same = λ d stands. c.entries.invariant.same d (c.in_ok-entry.ensures.same d stands);
      leads = g.met.C.CopyKeeper.leads_on _ _ _ c.entries.invariant.leads c.in_ok-entry.ensures.leads;
      faults = c.in_ok-entry.ensures.cause ∙ c.entries.invariant.faults;
    }
