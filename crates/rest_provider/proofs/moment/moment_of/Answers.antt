use Rattle.std.proofs.Common.{rules, ◌≡◌, ◌∙◌, ap, w64, to_z, of_z, to_z-of_z, sym}
use Rattle.std.proofs.lemmas.Int.{ints}
use Rattle.roster_texts.specs.Moments.{moment_at}
use Rattle.rest_provider.proofs.Dating.{moment_at-in_range}
use Rattle.rest_provider.proofs.moment.moment_of.Goals as goal

pub unreachable-requires : goal.unreachable-requires
unreachable-requires g c =
    let kept : to_z w64 (of_z w64 c.now.result) ≡ c.now.result = to_z-of_z {w = w64} {z = c.now.result} (search (rules, ints)) in
    cc (sym c.in-None.is ∙ c.at.ensures ∙ ap moment_at kept ∙ moment_at-in_range c.now.result c.now.ensures.range)

pub returns : goal.returns
returns g c =
    let kept : to_z w64 (of_z w64 c.now.result) ≡ c.now.result = to_z-of_z {w = w64} {z = c.now.result} (search (rules, ints)) in
    let same : c.in-Some.moment ≡ c.now.result = cc (sym c.in-Some.is ∙ c.at.ensures ∙ ap moment_at kept ∙ moment_at-in_range c.now.result c.now.ensures.range) in
    (rw same c.now.ensures.told, rw same c.now.ensures.range)
