use Rattle.std.proofs.Common.{◌∙◌, sym, ap, Some, None}
use Rattle.keeper_memory.proofs.ListLemmas.{last_get}
use Rattle.keeper_memory.proofs.copy.mem_stage.last_id.Goals as goal

pub returns-in_ok-copy-in-Some : goal.returns-in_ok-copy-in-Some
returns-in_ok-copy-in-Some c =
    ap Some (c.in_ok-copy-in-Some.ensures ∙ c.id.ensures) ∙ sym (last_get None c.args.rows.now c.in-Some.row.now (sym c.in-Some.ensures.value))
