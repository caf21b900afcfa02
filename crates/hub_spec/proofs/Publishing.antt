-- What a set leads to is a version that may stand behind the newest.
use Rattle.std.proofs.Common.{◌≡◌, ℤ, ◌+◌, ◌≤◌, Option, None, Some, refl, sym, subst, arith}
use Rattle.std.specs.Option.{option_or}
use Rattle.version_changes.proofs.Following.{same_grants}
use Rattle.version_changes.proofs.Outcomes.{few_among}
use Rattle.version_changes.specs.grants.Next.{IsNext}
use Rattle.roster_types.specs.Keys.{count_of}
use Rattle.roster_types.specs.Sets.{SetRecord}
use Rattle.roster_values.proofs.KindLaws.{each_kind}
use Rattle.roster_values.specs.Kinds.{all_kinds}
use Rattle.version_changes.specs.sets.Applying.{Applies, Leads, owned_by_other, rows_in, too_many}
use Rattle.version_core.proofs.GrantLemmas.{AreGrants-later}
use Rattle.version_core.specs.Changes.{rows_of}
use Rattle.version_core.specs.Version.{IsVersion, row_limit}
use Rattle.version_core.specs.declared.change.BaseVersion.{BaseVersion}

pub none_of_both : {X : Type 0} (a b : Option X) → option_or a b ≡ None → (a ≡ None) × (b ≡ None)
none_of_both None b e = (refl, e)
none_of_both (Some x) b e = cc

pub set_next : (version : BaseVersion) (set : SetRecord) (at : ℤ) (next : BaseVersion) → IsVersion version → Applies version set at (Leads next) → IsNext version next
set_next version set at next is applies =
    let new = applies.0 in
    let due = applies.2.0 in
    let few = (none_of_both (too_many (rows_of new) all_kinds) _ (none_of_both (owned_by_other set.feed version.rows (rows_in set)) _ due.passes).1).0 in
    let small = applies.2.1 in
    subst (IsNext version) (sym applies.2.2) (record {
      number = refl;
      version = record {
        number = omega arith;
        rows = applies.1.order;
        few = each_kind (λ kind. count_of kind (rows_of new) ≤ row_limit) (few_among (rows_of new) all_kinds few);
        grants = AreGrants-later version.number (version.number + 1) version.grants (omega arith) is.grants;
      };
      grants = same_grants version is (version.number + 1);
    })
