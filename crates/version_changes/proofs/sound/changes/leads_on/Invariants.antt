use Rattle.std.proofs.Common.{drop}
use Rattle.version_core.specs.Table.{LeadOn}
use Rattle.version_changes.proofs.sound.changes.leads_on.Given as goal

-- all lead on where those that are left do
abbrev pub invariant-loop-change : goal.invariant-loop-change
invariant-loop-change l = LeadOn l.last (drop l.change-index l.changes) → LeadOn l.number l.changes
