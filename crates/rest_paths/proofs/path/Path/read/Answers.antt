use Rattle.std.proofs.Common.{◌≡◌, Some, ap, sym, ◌∙◌}
use Rattle.rest_paths.proofs.IdLemmas.{all_ids, length-ids_at, length-object_places}
use Rattle.rest_paths.specs.Paths.{ids_at}
use Rattle.rest_paths.specs.Routes.{segments_of}
use Rattle.rest_paths.specs.Segments.{places_of}
use Rattle.rest_paths.proofs.path.Path.read.Goals as goal

pub invariant_of-result : goal.invariant_of-result
invariant_of-result c =
    let read : Some c.in-Some-2.ids ≡ ids_at (places_of c.in-Some.route) c.args.text.now =
    sym c.in-Some-2.is ∙ c.in_ok-ids.ensures ∙ ap (λ p. ids_at p c.args.text.now) c.places.ensures in
    record {
      objects = length-ids_at (places_of c.in-Some.route) c.args.text.now c.in-Some-2.ids read ∙ length-object_places 4 (segments_of c.in-Some.route);
      ids = all_ids (places_of c.in-Some.route) c.args.text.now c.in-Some-2.ids read;
    }
