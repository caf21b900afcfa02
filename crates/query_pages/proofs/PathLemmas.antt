-- A path, written object by object.
use Rattle.std.proofs.Common.{◌≡◌, ℕ, List, [], ◌∷◌, ◌++◌, codes, length, refl, ap, sym, ◌∙◌, append_assoc, append-nil}
use Rattle.std.proofs.Common.{arith}
use Rattle.std.specs.List.{flat_map}
use Rattle.rest_paths.specs.Paths.{IsPath, PathParts}
use Rattle.rest_paths.specs.Routes.{Object, Segment, Word, line_of, objects_in, segments_of, word_of}
use Rattle.rest_paths.specs.declared.route.Collection.{Collection}
use Rattle.rest_paths.specs.declared.route.Route.{Route}
use Rattle.rest_paths.specs.declared.route.Route.TheVariants as route
use Rattle.hub_spec.specs.views.Links.{path_text, segments_text}
use Rattle.query_pages.specs.Targets.{listed_text, objects_text}
use Rattle.roster_types.specs.Hrefs.{encoded_byte}

-- a word and an id for each object
abbrev object_segments : List Collection → List Segment
object_segments [] = []
object_segments (c ∷ cs) = Word (word_of c) ∷ Object c ∷ object_segments cs

-- what is behind the objects
abbrev last_segments : Route → List Segment
last_segments (route.One c) = []
last_segments r = Word (word_of (line_of r).lists) ∷ []

regroup : (a s f o l : List ℕ) → a ++ ((s ++ f) ++ (o ++ l)) ≡ (((a ++ s) ++ f) ++ o) ++ l
regroup a s f o l =
    sym (append_assoc ((a ++ s) ++ f) o l
    ∙ append_assoc (a ++ s) f (o ++ l)
    ∙ append_assoc a s (f ++ (o ++ l))
    ∙ ap (λ xs. a ++ xs) (sym (append_assoc s f (o ++ l))))

objects_written : (cs : List Collection) (last : List Segment) (ids : List (List ℕ)) → length ids ≡ length cs
    → segments_text (object_segments cs ++ last) ids ≡ objects_text cs ids ++ segments_text last []
objects_written [] last [] e = refl
objects_written [] last (id ∷ ids) e = absurd (omega arith)
objects_written (c ∷ cs) last [] e = absurd (omega arith)
objects_written (c ∷ cs) last (id ∷ ids) e =
    ap (λ rest. (codes "/" ++ word_of c) ++ ((codes "/" ++ flat_map encoded_byte id) ++ rest)) (objects_written cs last ids (omega arith))
    ∙ regroup (codes "/" ++ word_of c) (codes "/") (flat_map encoded_byte id) (objects_text cs ids) (segments_text last [])

-- the path of a route is that of its objects, and of what it lists
record IsWritten (r : Route) : Type 0 where
  path : segments_of r ≡ object_segments (objects_in r) ++ last_segments r
  last : segments_text (last_segments r) [] ≡ listed_text r

written : (r : Route) → IsWritten r
written (route.One c) = record { path = refl; last = refl }
written _ = record { path = refl; last = append-nil _ }

-- a path is its prefix, its objects and what it lists
pub path_written : (path : PathParts) → IsPath path
    → path_text path ≡ codes "/ims/oneroster/v1p1" ++ (objects_text (objects_in path.route) path.ids ++ listed_text path.route)
unfolding path_text
path_written path is =
    ap (λ segments. codes "/ims/oneroster/v1p1" ++ segments_text segments path.ids) (written path.route).path
    ∙ ap (λ text. codes "/ims/oneroster/v1p1" ++ text)
    (objects_written (objects_in path.route) (last_segments path.route) path.ids is.objects
    ∙ ap (λ text. objects_text (objects_in path.route) path.ids ++ text) (written path.route).last)
