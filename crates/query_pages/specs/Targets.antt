-- The parts of a link's target, as they are written one after another.
use Rattle.std.specs.Prelude.{ℕ, List, [], ◌∷◌, ◌++◌, Option, Some, None, codes, option_map}
use Rattle.std.specs.Fmt.{decimal}
use Rattle.std.specs.List.{flat_map}
use Rattle.filter_grammar.specs.declared.query.Query.{Query}
use Rattle.form_urlencoded.specs.Form.{byte_serialize}
use Rattle.rest_paths.specs.Routes.{line_of, word_of}
use Rattle.rest_paths.specs.declared.route.Collection.{Collection}
use Rattle.rest_paths.specs.declared.route.Route.{Route}
use Rattle.rest_paths.specs.declared.route.Route.TheVariants as route
use Rattle.hub_spec.specs.views.Links.{link, order_word}
use Rattle.roster_types.specs.Hrefs.{encoded_byte}
use Rattle.status_info.specs.declared.reply.LinkItem.{LinkItem}
use Rattle.status_info.specs.declared.reply.Rel.{Rel}

-- objects that a path names
abbrev pub objects_text : List Collection → List (List ℕ) → List ℕ
objects_text [] ids = []
objects_text (c ∷ cs) [] = []
objects_text (c ∷ cs) (id ∷ ids) = (codes "/" ++ word_of c ++ codes "/" ++ flat_map encoded_byte id) ++ objects_text cs ids

-- what a path lists
abbrev pub listed_text : Route → List ℕ
listed_text (route.One c) = []
listed_text r = codes "/" ++ word_of (line_of r).lists

-- a parameter where it is given: its name with the signs around it, and its value
abbrev pub given_text : List ℕ → Option (List ℕ) → List ℕ
given_text name None = []
given_text name (Some value) = name ++ byte_serialize value

-- the order of a list, its filter and the members that it shows
abbrev pub manner_text : Query → List ℕ
manner_text query =
    given_text (codes "&sort=") query.sort
    ++ given_text (codes "&orderBy=") (option_map order_word query.order_by)
    ++ given_text (codes "&filter=") query.filter
    ++ given_text (codes "&fields=") query.fields

-- the base, where there is one
abbrev pub base_text : Option ℕ → List ℕ
base_text None = []
base_text (Some base) = codes "&hubSince=" ++ decimal base

-- which page of a list
abbrev pub paging_text : ℕ → ℕ → List ℕ
paging_text limit offset = codes "?limit=" ++ decimal limit ++ (codes "&offset=" ++ decimal offset)

-- a link to an offset, if there is one
abbrev pub link_if : (ℕ → List ℕ) → Rel → Option ℕ → List LinkItem
link_if target_at rel None = []
link_if target_at rel (Some offset) = link target_at rel offset ∷ []
