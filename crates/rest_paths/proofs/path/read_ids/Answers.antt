use Rattle.std.proofs.Common.{ap, sym, ◌∙◌}
use Rattle.rest_paths.proofs.IdLemmas.{id_read, id_refused, ids_read}
use Rattle.rest_paths.specs.Paths.{id_in, ids_at}
use Rattle.rest_paths.proofs.path.read_ids.Goals as goal

pub returns-in_default : goal.returns-in_default
returns-in_default c =
    id_refused (ids_at c.args.places.now c.args.text.now) c.args.text.now c.args.places.now c.loop-place.place-index c.loop-place.ids c.loop-place.invariant c.loop-place-test.true
    (sym c.in_default.is ∙ c.in_ok-id.ensures ∙ ap id_in c.segment.ensures)

pub loop-place-preserved : goal.loop-place-preserved
loop-place-preserved c =
    id_read (ids_at c.args.places.now c.args.text.now) c.args.text.now c.args.places.now c.loop-place.place-index c.loop-place.ids c.push.new.self c.in-Some.id c.loop-place.invariant c.loop-place-test.true
    (sym c.in-Some.is ∙ c.in_ok-id.ensures ∙ ap id_in c.segment.ensures) c.in_ok-push.ensures.ok

pub returns : goal.returns
returns c =
    ids_read (ids_at c.args.places.now c.args.text.now) c.args.text.now c.args.places.now c.loop-place.place-index c.loop-place.ids c.loop-place.invariant c.loop-place-test.false
