use Rattle.std.proofs.Common.{◌<◌, ◌≤◌, ◌∙◌, ap, arith, length, option_and_then, refl, sym}
use Rattle.std.proofs.lemmas.Option.{slice_get_past, slice_get_read}
use Rattle.version_core.proofs.KindCounts.{place_of_each, row_in}
use Rattle.version_core.proofs.view.row_of_each.Goals as goal

pub returns-then-place-histories : goal.returns-then-place-histories
returns-then-place-histories c =
    let histories = c.args.histories.now in
    let past : length histories ≤ c.args.place = omega (arith, c.if-place-histories.true) in
    sym (place_of_each c.args.version histories c.requires.pasts c.requires.newest c.args.place ∙ ap (option_and_then (row_in c.args.version)) (slice_get_past histories c.args.place past))

pub returns : goal.returns
returns c =
    let histories = c.args.histories.now in
    let within : c.args.place < length histories = omega (arith, c.if-place-histories.false) in
    c.standing_row.ensures
    ∙ sym (place_of_each c.args.version histories c.requires.pasts c.requires.newest c.args.place ∙ ap (option_and_then (row_in c.args.version)) (slice_get_read histories (length histories) c.args.place c.index-histories-place.result refl within c.index-histories-place.is))
