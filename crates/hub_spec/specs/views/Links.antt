-- The links of a page.
use Rattle.std.specs.Prelude.{ℕ, ◌+◌, ◌-◌, ◌*◌, ◌/◌, List, [], ◌∷◌, ◌++◌, Option, Some, None, codes, if◌then◌else◌}
use Rattle.std.specs.Prelude.{nat_lt, option_map}
use Rattle.std.specs.Fmt.{decimal}
use Rattle.std.specs.List.{flat_map}
use Rattle.form_urlencoded.specs.Form.{byte_serialize}
use Rattle.rest_paths.specs.Paths.{PathParts}
use Rattle.rest_paths.specs.Routes.{Object, Segment, Word, segments_of}
use Rattle.rest_paths.specs.declared.route.Collection.TheVariants.{Of}
use Rattle.rest_paths.specs.declared.route.Route.{Route}
use Rattle.rest_paths.specs.declared.route.Route.TheVariants as route
use Rattle.filter_grammar.specs.declared.query.Order.{Order}
use Rattle.filter_grammar.specs.declared.query.Order.TheVariants.{Asc, Desc}
use Rattle.filter_grammar.specs.declared.query.Query.{Query}
use Rattle.roster_types.specs.Hrefs.{encoded_byte}
use Rattle.status_info.specs.declared.reply.LinkItem.{LinkItem}
use Rattle.status_info.specs.declared.reply.Rel.{Rel}
use Rattle.status_info.specs.declared.reply.Rel.TheVariants.{Next, Prev, First, Last}
use Rattle.roster_values.specs.Kinds.{binding_root}

-- a path as it is asked for, with its ids encoded
abbrev pub segments_text : List Segment → List (List ℕ) → List ℕ
segments_text [] ids = []
segments_text (Word word ∷ segments) ids = codes "/" ++ word ++ segments_text segments ids
segments_text (Object c ∷ segments) [] = codes "/" ++ segments_text segments []
segments_text (Object c ∷ segments) (id ∷ ids) = codes "/" ++ flat_map encoded_byte id ++ segments_text segments ids

-- the path as a link writes it, from the root on
unfoldable pub path_text : PathParts → List ℕ
path_text path = binding_root ++ segments_text (segments_of path.route) path.ids

-- the word for a direction
abbrev pub order_word : Order → List ℕ
order_word Asc = codes "asc"
order_word Desc = codes "desc"

-- a parameter whose value is a number
abbrev pub number_parameter : List ℕ → ℕ → List ℕ
number_parameter name n = name ++ codes "=" ++ decimal n

-- a parameter where it is given
abbrev pub given_parameter : List ℕ → Option (List ℕ) → List ℕ
given_parameter name None = []
given_parameter name (Some value) = codes "&" ++ name ++ codes "=" ++ byte_serialize value

-- the version from which on a read is told what differs: a kind's collection takes one, and any other path passes it
-- over
abbrev pub base_for : Route → Option ℕ → Option ℕ
base_for (route.All (Of kind)) since = since
base_for _ since = None

-- the parameter for the base, where there is one
abbrev pub base_parameter : Option ℕ → List ℕ
base_parameter None = []
base_parameter (Some base) = codes "&" ++ number_parameter (codes "hubSince") base

-- the page at an offset of the same list, in one version
unfoldable pub target : PathParts → Query → ℕ → ℕ → List ℕ
target path query version offset =
    path_text path
    ++ codes "?" ++ number_parameter (codes "limit") query.limit
    ++ codes "&" ++ number_parameter (codes "offset") offset
    ++ given_parameter (codes "sort") query.sort
    ++ given_parameter (codes "orderBy") (option_map order_word query.order_by)
    ++ given_parameter (codes "filter") query.filter
    ++ given_parameter (codes "fields") query.fields
    ++ base_parameter (base_for path.route query.since)
    ++ codes "&" ++ number_parameter (codes "hubVersion") version

-- the link to the page at an offset
abbrev pub link : (ℕ → List ℕ) → Rel → ℕ → LinkItem
link target_at rel offset = record { rel = rel; target = target_at offset }

-- the page behind this one, the one in front of it, the first and the last, where there are any
abbrev pub links_among : (ℕ → List ℕ) → ℕ → ℕ → ℕ → List LinkItem
links_among target_at limit offset total =
    (if nat_lt (offset + limit) total then link target_at Next (offset + limit) ∷ [] else [])
    ++ (if nat_lt 0 offset then link target_at Prev (offset - limit) ∷ [] else [])
    ++ link target_at First 0 ∷ link target_at Last ((total - 1) / limit * limit) ∷ []

-- the links of a page of a path and a query, in one version, where the list has so many rows
abbrev pub links_of : PathParts → Query → ℕ → ℕ → List LinkItem
links_of path query version total = links_among (target path query version) query.limit query.offset total
