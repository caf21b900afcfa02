use Rattle.std.proofs.Common.{◌≡◌, IfOk, option_map, subst}
use Rattle.hub_spec.specs.rules.Reads.{contents_of}
use Rattle.rest_provider.specs.Shown.{contents_shown}
use Rattle.rest_provider.proofs.reading.Reading.object.Goals as goal

pub returns : goal.returns
returns c =
    subst (λ rows. IfOk c.one_contents.result (λ shown. option_map contents_shown shown ≡ contents_of rows c.args.self.version c.args.self.path.now c.args.query.now))
    c.new-seen.ensures (c.one_contents.ensures c.args.self.version)
