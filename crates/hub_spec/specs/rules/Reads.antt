-- What a read is answered with.
use Rattle.std.specs.Prelude.{ℕ, List, [], Option, Some, None, Result, Ok, if◌then◌else◌, option_map}
use Rattle.hub_spec.specs.rules.Wanted.{Wanted, access_of, is_good_mark}
use Rattle.rest_paths.specs.Paths.{PathParts as Path}
use Rattle.hub_spec.specs.views.Lists.{is_single, kind_of_path, object_of}
use Rattle.hub_spec.specs.views.Deltas.{kind_delta, page_of_delta}
use Rattle.hub_spec.specs.views.Links.{base_for}
use Rattle.hub_spec.specs.views.Pages.{page_of}
use Rattle.hub_spec.specs.declared.views.page.DeltaPage.{DeltaPage}
use Rattle.hub_spec.specs.declared.views.page.Page.{Page}
use Rattle.grant_scopes.specs.Opens.{opens}
use Rattle.hub_spec.specs.views.Seen.{seen}
use Rattle.filter_grammar.specs.declared.query.Query.{Query}
use Rattle.roster_base.specs.Reading.{◌>>=◌}
use Rattle.roster_texts.specs.Results.{found_or}
use Rattle.roster_types.specs.Records.{Record}
use Rattle.roster_values.specs.declared.kind.Kind.{Kind}
use Rattle.row_json.specs.Deltas.{delta_text}
use Rattle.row_json.specs.Json.{collection_text, single_text}
use Rattle.status_info.specs.declared.cause.Cause.TheVariants as cause
use Rattle.status_info.specs.declared.reply.LinkItem.{LinkItem}
use Rattle.status_info.specs.declared.reply.Reply.{Reply}
use Rattle.version_core.specs.Changes.{rows_of}
use Rattle.version_core.specs.HubStates.{HubState}
use Rattle.version_core.specs.declared.grant_row.GrantRow.{GrantRow}
use Rattle.hub_spec.specs.rules.Checks.{Entry, base_checked, check, query_or, refused_at, version_at, version_read}

-- what the reply to a read that succeeds has, beside what every reply has
pub record Contents : Type 0 where
  pub body : List ℕ
  pub total : Option ℕ
  pub links : List LinkItem

-- one object, with the members that the query chooses
abbrev pub object_shown : Kind → Query → Record → Contents
object_shown kind query row = record { body = single_text query.only row; total = None; links = [] }

-- a page of a list, with the members that the query chooses
abbrev pub page_shown : Kind → Query → Page → Contents
page_shown kind query page = record { body = collection_text query.only kind page.rows; total = Some page.total; links = page.links }

-- a page of what differs
abbrev pub delta_shown : Kind → DeltaPage → Contents
delta_shown kind page = record { body = delta_text kind page.rows page.gone; total = Some page.total; links = page.links }

-- what a path shows of the seen rows of a version: one object, or a page
abbrev pub contents_of : List Record → ℕ → Path → Query → Option Contents
contents_of rows version path query =
    if is_single path.route
    then option_map (object_shown (kind_of_path path) query) (object_of rows path)
    else option_map (page_shown (kind_of_path path) query) (page_of rows version path query)

-- the rows of a version that a grant sees
abbrev pub rows_seen_by : HubState → GrantRow → ℕ → List Record
rows_seen_by state by version = seen by.grant.schools (rows_of (version_at state version).rows)

-- what is shown of the rows that a grant sees of the versions: of one alone, or what differs from the base on
abbrev pub contents_at : HubState → Entry → ℕ → Query → Option ℕ → Option Contents
contents_at state entry version query None = contents_of (rows_seen_by state entry.by version) version entry.path query
contents_at state entry version query (Some base) =
    Some (delta_shown (kind_of_path entry.path) (page_of_delta entry.path query version (kind_delta (kind_of_path entry.path)
    (rows_seen_by state entry.by base) (rows_seen_by state entry.by version))))

-- the reply with what a read shows
abbrev pub shown : Wanted → ℕ → Query → Contents → Reply
shown wanted version query contents = record (refused_at wanted version cause.Done) {
  body = contents.body;
  total = contents.total;
  links = contents.links;
  warnings = query.warnings;
}

-- the checks of a read in a version: scope, query, base, mark, object
unfoldable pub read_at : HubState → Wanted → Entry → ℕ → Result Reply Reply
read_at state wanted entry version = do
  opened ← check (opens entry.by.grant.scopes (kind_of_path entry.path) (access_of wanted.verb)) (refused_at wanted version cause.ScopeMissing)
  query ← query_or wanted version wanted.query
  based ← base_checked state entry.by wanted version (base_for entry.path.route query.since)
  marked ← check (is_good_mark wanted.mark) (refused_at wanted version cause.BadMark)
  contents ← found_or (refused_at wanted version cause.NoSuchObject) (contents_at state entry version query (base_for entry.path.route query.since))
  Ok (shown wanted version query contents)

-- all checks of a read, the pin first
abbrev pub read_result : HubState → Wanted → Entry → Result Reply Reply
read_result state wanted entry = version_read state entry.by wanted wanted.pin >>= read_at state wanted entry
