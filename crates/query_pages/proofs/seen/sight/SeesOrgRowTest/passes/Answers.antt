use Rattle.std.proofs.Common.{◌≡◌, ◌∙◌, ap}
use Rattle.std.specs.List.{list_any}
use Rattle.hub_spec.specs.views.Seen.{leads_up, sees_org}
use Rattle.query_pages.specs.Ancestors.{has_id}
use Rattle.query_pages.proofs.seen.sight.SeesOrgRowTest.passes.Goals as goal

-- the orgs that the schools lead up to were looked up
pub returns-in-Some : goal.returns-in-Some
unfolding sees_org
returns-in-Some g c =
    let known = c.args.self.now.known.now in
    let schools = c.args.self.now.schools.now in
    let org = c.args.org.now.id in
    let same : c.as_str.result.now ≡ org = c.as_str.ensures.text ∙ c.id-id.ensures in
    c.contains.ensures ∙ ap (has_id c.in-Some.ancestors) same
    ∙ known.above c.in-Some.ancestors schools c.in-Some.is c.args.self.now.listed org
    ∙ ap (λ n. list_any (leads_up (g.R.Rows.rows known.rows.now) org n) schools) known.counted
