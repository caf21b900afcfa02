-- What differs between two versions of what a token sees.
use Rattle.std.specs.Prelude.{ℕ, List, filter, length}
use Rattle.filter_grammar.specs.declared.query.Query.{Query}
use Rattle.rest_paths.specs.Paths.{PathParts}
use Rattle.hub_spec.specs.views.Cuts.{list_in}
use Rattle.hub_spec.specs.views.Links.{links_of}
use Rattle.hub_spec.specs.views.Pages.{slice}
use Rattle.hub_spec.specs.declared.views.page.DeltaPage.{DeltaPage}
use Rattle.roster_types.specs.Keys.{is_of_kind}
use Rattle.roster_types.specs.Records.{Record}
use Rattle.roster_values.specs.declared.kind.Kind.{Kind}
use Rattle.row_deltas.specs.Deltas.{delta_of, ids_gone, rows_put}
use Rattle.row_deltas.specs.declared.entry.DeltaEntry.{DeltaEntry}
use Rattle.version_core.specs.declared.change.BaseVersion.{BaseVersion}

-- what differs of the rows of a kind in the cuts of two versions to a token: no other version is looked at
abbrev pub delta : BaseVersion → BaseVersion → List ℕ → Kind → List DeltaEntry
delta before after token kind = delta_of kind (list_in before token kind) (list_in after token kind)

-- what differs of the rows of a kind among all that are seen before and after
abbrev pub kind_delta : Kind → List Record → List Record → List DeltaEntry
kind_delta kind before after = delta_of kind (filter (is_of_kind kind) before) (filter (is_of_kind kind) after)

-- the page that a query asks for of what differs, in the version behind
abbrev pub page_of_delta : PathParts → Query → ℕ → List DeltaEntry → DeltaPage
page_of_delta path query version entries = record {
  rows = rows_put (slice query.limit query.offset entries);
  gone = ids_gone (slice query.limit query.offset entries);
  total = length entries;
  links = links_of path query version (length entries);
}
