use Rattle.std.proofs.Common.{◌≡◌, ap, ◌∙◌, arith, w64, to_z, of_z, to_z-of_z}
use mir.Syntax.{w16}
use Rattle.jiff_core.proofs.SignedLemmas.{signed_arith, fits_between}
use Rattle.roster_texts.specs.Moments.{milliseconds_at, moment_at}
use Rattle.roster_texts.proofs.MomentLemmas.{instant_read}
use Rattle.roster_texts.proofs.moment.read_instant.Goals as goal

pub returns-clause-value : goal.returns-clause-value
returns-clause-value c =
    let low = c.instant.ensures.low in
    let high = c.instant.ensures.high in
    let bound = c.in_ok-offset.ensures.bound in
    let kept : to_z w64 (of_z w64 c.instant.result) ≡ c.instant.result =
    to_z-of_z (fits_between w64 c.instant.result (omega (arith, signed_arith, low, high), omega (arith, signed_arith, low, high))) in
    let kept_offset : to_z w16 (of_z w16 c.in_ok-offset.offset) ≡ c.in_ok-offset.offset =
    to_z-of_z (fits_between w16 c.in_ok-offset.offset (omega (arith, signed_arith, bound.0, bound.1), omega (arith, signed_arith, bound.0, bound.1))) in
    c.at.ensures ∙ ap moment_at kept
    ∙ instant_read c.args.text.now c.zone_length-zone.result c.in_ok-day.day c.in_ok-seconds.seconds c.in_ok-milliseconds.milliseconds c.in_ok-offset.offset c.instant.result
    c.zone_length-zone.ensures c.if-text-zone.false c.in_ok-day.ensures c.in_ok-seconds.ensures.value c.in_ok-milliseconds.ensures c.in_ok-offset.ensures.value
    (c.instant.ensures.value ∙ ap (milliseconds_at c.in_ok-day.day c.in_ok-seconds.seconds c.in_ok-milliseconds.milliseconds) kept_offset)
