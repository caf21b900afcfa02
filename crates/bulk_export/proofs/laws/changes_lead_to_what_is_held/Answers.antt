use Rattle.bulk_export.proofs.LeadLemmas.{leads}
use Rattle.bulk_export.proofs.laws.changes_lead_to_what_is_held.Goals as goal

pub returns : goal.returns
returns c at earlier held changes are k = leads at earlier held changes are k
