-- The segments of a path.
use Rattle.std.specs.Prelude.{ℕ, zero, suc, ◌+◌, ◌==◌, Bool, List, [], ◌∷◌}
use Rattle.std.specs.List.{after_first, before_first}
use Rattle.rest_paths.specs.Routes.{Object, Segment, Word, segments_of}
use Rattle.rest_paths.specs.declared.route.Route.{Route}
use Rattle.roster_texts.specs.Signs.{slash}

abbrev pub is_slash : ℕ → Bool
is_slash b = b == slash

-- the piece at a place between slashes
abbrev pub segment_at : ℕ → List ℕ → List ℕ
segment_at zero path = before_first is_slash path
segment_at (suc n) path = segment_at n (after_first is_slash path)

-- the places of the objects among segments that begin at a place
abbrev pub object_places : ℕ → List Segment → List ℕ
object_places n [] = []
object_places n (Word word ∷ segments) = object_places (n + 1) segments
object_places n (Object collection ∷ segments) = n ∷ object_places (n + 1) segments

-- the places of the ids in a route's paths: an empty piece, `ims`, `oneroster` and `v1p1` stand before its segments
abbrev pub places_of : Route → List ℕ
places_of route = object_places 4 (segments_of route)
