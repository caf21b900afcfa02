-- Paths: a route, and the ids of the objects that it names.
use Rattle.std.specs.Prelude.{◌≡◌, ℕ, ◌&&◌, true, List, [], ◌∷◌, Option, Some, None, if◌then◌else◌, length}
use Rattle.std.specs.List.{list_all}
use Rattle.filter_grammar.specs.Escapes.{is_url_text}
use Rattle.rest_paths.specs.Routed.{route_of}
use Rattle.rest_paths.specs.Routes.{objects_in}
use Rattle.rest_paths.specs.Segments.{places_of, segment_at}
use Rattle.rest_paths.specs.declared.route.Route.{Route}
use Rattle.percent_encoding.specs.Percent.{percent_decode}
use Rattle.roster_texts.specs.Digits.{◌>>=◌}
use Rattle.roster_texts.specs.Texts.{is_id}

pub record PathParts : Type 0 where
  pub route : Route
  pub ids : List (List ℕ)

-- a path has one id for each object that its route names
pub record IsPath (path : PathParts) : Type 0 where
  pub objects : length path.ids ≡ length (objects_in path.route)
  pub ids : list_all is_id path.ids ≡ true

-- the id that a segment stands for
unfoldable pub id_in : List ℕ → Option (List ℕ)
id_in segment =
    if is_url_text segment && is_id (percent_decode segment) then Some (percent_decode segment) else None

-- the ids at these places of a path
unfoldable pub ids_at : List ℕ → List ℕ → Option (List (List ℕ))
ids_at [] path = Some []
ids_at (place ∷ places) path = do
  id ← id_in (segment_at place path)
  ids ← ids_at places path
  Some (id ∷ ids)

-- the path that a text writes, if it writes one
unfoldable pub path_of : List ℕ → Option PathParts
path_of text = do
  route ← route_of text
  ids ← ids_at (places_of route) text
  Some (record { route = route; ids = ids })
