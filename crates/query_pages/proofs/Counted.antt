-- Two versions have not too many rows of a kind together.
use Rattle.std.proofs.Common.{◌≡◌, ◌+◌, ◌<◌, ◌^◌, List, ap, sym, ◌∙◌, arith}
use Rattle.grant_scopes.specs.declared.schools.Schools.{Schools}
use Rattle.grant_scopes.specs.declared.schools.Schools.TheVariants as school
use Rattle.hub_spec.specs.views.Deltas.{kind_delta}
use Rattle.hub_spec.specs.views.Seen.{seen, sees_row}
use Rattle.query_pages.proofs.Kept.{count_kept}
use Rattle.query_pages.proofs.Wholes.{seen_all}
use Rattle.roster_types.specs.Keys.{count_of, is_of_kind}
use Rattle.roster_types.specs.Records.{Record}
use Rattle.roster_values.specs.declared.kind.Kind.{Kind}
use Rattle.version_core.specs.Changes.{rows_of}
use Rattle.version_core.specs.Version.{IsVersion}
use Rattle.version_core.specs.declared.change.BaseVersion.{BaseVersion}

pub few_seen : (kind : Kind) (schools : Schools) (before after : BaseVersion) → IsVersion before → IsVersion after → count_of kind (seen schools (rows_of before.rows)) + count_of kind (seen schools (rows_of after.rows)) + 1 < 2 ^ 64
few_seen kind schools before after is is' =
    omega (arith, is.few kind, is'.few kind, count_kept (sees_row schools (rows_of before.rows)) (is_of_kind kind) (rows_of before.rows), count_kept (sees_row schools (rows_of after.rows)) (is_of_kind kind) (rows_of after.rows))

-- nothing is hidden from a grant at all schools
same_seen : (schools : Schools) → schools ≡ school.All → (rows : List Record) → seen schools rows ≡ rows
same_seen schools all rows = ap (λ s. seen s rows) all ∙ seen_all rows rows

pub same_delta : (kind : Kind) (schools : Schools) → schools ≡ school.All → (old new : List Record) → kind_delta kind old new ≡ kind_delta kind (seen schools old) (seen schools new)
same_delta kind schools all old new = λ i. kind_delta kind (sym (same_seen schools all old) i) (sym (same_seen schools all new) i)
