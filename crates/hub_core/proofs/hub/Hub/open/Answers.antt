use Rattle.keeper_memory.proofs.KeptLemmas.{tables_are_kept}
use Rattle.hub_core.proofs.hub.Hub.open.Goals as goal

pub invariant_of-result : goal.invariant_of-result
invariant_of-result g c = record {
  kept = rw (c.in_ok-table.ensures, c.in_ok-from_tables.ensures) (tables_are_kept c.in_ok-tables.tables c.in_ok-tables.ensures.tables);
  left_open = λ left. cc;
  sound = c.is_known_sound-is_sound.ensures;
}

pub returns-clause-kept : goal.returns-clause-kept
returns-clause-kept g c = rw (c.in_ok-table.ensures, c.in_ok-from_tables.ensures) (tables_are_kept c.in_ok-tables.tables c.in_ok-tables.ensures.tables)
