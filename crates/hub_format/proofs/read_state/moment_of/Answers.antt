use Rattle.std.proofs.Common.{rules, ◌<◌, ◌^◌, ap, ◌∙◌}
use Rattle.std.specs.Int.{w64}
use Rattle.std.specs.Int.RustNames.{FitsSigned}
use Rattle.std.proofs.lemmas.Int.{to_z-of_z}
use Rattle.roster_texts.specs.Moments.{moment_at}
use Rattle.hub_format.proofs.Stating.{moment_bits, moment_found}
use Rattle.hub_format.proofs.read_state.moment_of.Goals as goal

pub returns-clause-found : goal.returns-clause-found
returns-clause-found c at fits bits =
    let small : FitsSigned w64 c.cast_signed.result = search rules in
    moment_found c.args.n at c.cast_signed.result c.at.result fits bits c.cast_signed.ensures (c.at.ensures ∙ ap moment_at (to_z-of_z w64 c.cast_signed.result small))

pub returns-clause-bits : goal.returns-clause-bits
returns-clause-bits c =
    let small : FitsSigned w64 c.cast_signed.result = search rules in
    let fits : c.args.n < 2 ^ 64 = search rules in
    moment_bits c.args.n c.cast_signed.result c.at.result fits c.cast_signed.ensures (c.at.ensures ∙ ap moment_at (to_z-of_z w64 c.cast_signed.result small))
