use Rattle.std.proofs.Common.{◌≡◌, true, arith, get_or, length, map, refl}
use Rattle.std.proofs.lemmas.List.{length-map}
use Rattle.std.proofs.lemmas.Result.{IfOk-at_ok}
use Rattle.roster_values.proofs.FitLaws.{value_fits}
use Rattle.roster_values.specs.Fit.{fits}
use Rattle.roster_values.specs.Table.{info_of}
use Rattle.row_json.proofs.Guesses.{fit-end, fit-on, next_info}
use Rattle.row_json.proofs.guess.values_of.Goals as goal

pub loop-place-preserved : goal.loop-place-preserved
loop-place-preserved c =
    let info = get_or c.args.infos.now c.loop-place.place _ in
    rw c.in_ok-push-in-Ok.ensures.items
    (fit-on (info_of info) c.in-Ok.value c.loop-place.invariant
    (next_info c.args.infos.now c.loop-place.place _ _ (omega arith) refl)
    (IfOk-at_ok (λ o. fits (info_of info) o ≡ true) c.in-Ok.ensures (value_fits (info_of info) c.cell_text.result.now)))

pub returns : goal.returns
returns c =
    let whole : length (map info_of c.args.infos.now) ≡ length c.args.infos.now = length-map c.args.infos.now info_of in
    fit-end c.loop-place.invariant (omega arith)
