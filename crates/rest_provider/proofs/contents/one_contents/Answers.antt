use Rattle.std.proofs.Common.{ap, sym, ◌∙◌, option_copied}
use Rattle.hub_spec.specs.views.Lists.{kind_of_path}
use Rattle.rest_provider.proofs.ReadLemmas.{object_found}
use Rattle.rest_provider.proofs.contents.one_contents.Goals as goal

pub returns-in_ok-object_contents-in-Some : goal.returns-in_ok-object_contents-in-Some
returns-in_ok-object_contents-in-Some g c version =
    let path = c.args.path.now in
    object_found (g.R.Rows.rows c.args.rows.now) version path c.args.query.now c.in-Some.row.now c.in_ok-object_contents-in-Some.field-0
    c.requires
    (ap option_copied (sym c.in-Some.is) ∙ c.one.ensures)
    (c.in_ok-object_contents-in-Some.ensures (kind_of_path path))
