-- The versions that changes lead to.
use Rattle.std.specs.List.{remove}
use Rattle.std.proofs.Common.{◌≡◌, ℕ, suc, ◌+◌, ◌-◌, ◌<◌, ◌≤◌, List, [], ◌∷◌, ◌++◌, length, get_or, slice_get, drop}
use Rattle.std.proofs.Common.{length-append, None, Some, refl, sym, ap, ◌∙◌, arith}
use Rattle.std.specs.List.{AllByRecursion}
use Rattle.version_core.specs.declared.change.Change.{Change}
use Rattle.version_core.specs.declared.change.BaseVersion.{BaseVersion}
use Rattle.version_core.specs.Version.{Versions, IsVersion, after, versions_from, last_or, first_or, with_version}
use Rattle.version_core.specs.Table.{LeadOn}

-- the newest version is so many versions after the base
pub newest_number : (d base : BaseVersion) (changes : List Change) → LeadOn base.number changes → (last_or d (versions_from base changes)).number ≡ base.number + length changes
newest_number d base [] lead = omega arith
newest_number d base (change ∷ changes) lead = omega (arith, lead.0, newest_number base (after base change) changes lead.1)

-- and meets what is asked of each
pub newest_is : (d base : BaseVersion) (changes : List Change) → AllByRecursion IsVersion (versions_from base changes) → IsVersion (last_or d (versions_from base changes))
newest_is d base [] are = are.0
newest_is d base (change ∷ changes) are = newest_is base (after base change) changes are.1

pub oldest-versions_from : (d base : BaseVersion) (changes : List Change) → first_or d (versions_from base changes) ≡ base
oldest-versions_from d base [] = refl
oldest-versions_from d base (change ∷ changes) = refl

pub length-versions_from : (base : BaseVersion) (changes : List Change) → length (versions_from base changes) ≡ length changes + 1
length-versions_from base [] = refl
length-versions_from base (change ∷ changes) = omega (arith, length-versions_from (after base change) changes)

-- the newest version stands at the place after the changes
pub last_at : (d base : BaseVersion) (changes : List Change) → slice_get (versions_from base changes) (length changes) ≡ Some (last_or d (versions_from base changes))
last_at d base [] = refl
last_at d base (change ∷ changes) = last_at base (after base change) changes

-- one change more leads from the newest version to one version more
pub versions_from-push : (d base : BaseVersion) (changes : List Change) (change : Change) → versions_from base (changes ++ change ∷ []) ≡ versions_from base changes ++ after (last_or d (versions_from base changes)) change ∷ []
versions_from-push d base [] change = refl
versions_from-push d base (x ∷ changes) change = ap (λ ys. base ∷ ys) (versions_from-push base (after base x) changes change)

pub AllByRecursion-push : {X : Type 0} (P : X → Type 0) (xs : List X) (y : X) → AllByRecursion P xs → P y → AllByRecursion P (xs ++ y ∷ [])
AllByRecursion-push P [] y all last = (last, tt)
AllByRecursion-push P (x ∷ xs) y all last = (all.0, AllByRecursion-push P xs y all.1 last)

pub LeadOn-push : (number : ℕ) (changes : List Change) (change : Change) → LeadOn number changes → change.version ≡ (number + length changes) + 1 → LeadOn number (changes ++ change ∷ [])
LeadOn-push number [] change lead next = (omega (arith, next), tt)
LeadOn-push number (x ∷ changes) change lead next = (lead.0, LeadOn-push x.version changes change lead.1 (omega (arith, lead.0, next)))

-- what is kept of a list of versions
kept_of : ℕ → List BaseVersion → Versions
kept_of keep versions = record { keep = keep; versions = drop (length versions - suc keep) versions; room = None }

kept_all : (keep : ℕ) (versions : List BaseVersion) → length versions ≤ suc keep → kept_of keep versions ≡ record { keep = keep; versions = versions; room = None }
unfolding kept_of
kept_all keep versions few =
    let none : length versions - suc keep ≡ 0 = omega arith in
    ap (λ n. record { keep = keep; versions = drop n versions; room = None }) none

kept_rest : (keep : ℕ) (oldest : BaseVersion) (versions : List BaseVersion) → length versions ≡ suc keep → kept_of keep (oldest ∷ versions) ≡ record { keep = keep; versions = versions; room = None }
unfolding kept_of
kept_rest keep oldest versions full =
    let one : suc (length versions) - suc keep ≡ 1 = omega arith in
    ap (λ n. record { keep = keep; versions = drop n (oldest ∷ versions); room = None }) one

-- where all versions are kept, one stands more
pub with_version-kept : (table : Versions) (version : BaseVersion) → length table.versions ≤ table.keep → with_version table version ≡ record { keep = table.keep; versions = table.versions ++ version ∷ []; room = None }
unfolding kept_of
with_version-kept table version few = kept_all table.keep (table.versions ++ version ∷ []) (omega (arith, length-append table.versions (version ∷ [])))

-- where one version is too many, the oldest goes
pub with_version-rest : (table : Versions) (version oldest : BaseVersion) (rest : List BaseVersion) → table.versions ++ version ∷ [] ≡ oldest ∷ rest → length table.versions ≡ suc table.keep → with_version table version ≡ record { keep = table.keep; versions = rest; room = None }
unfolding kept_of
with_version-rest table version oldest rest split full =
    ap (kept_of table.keep) split ∙ kept_rest table.keep oldest rest (omega (arith, ap length split, length-append table.versions (version ∷ [])))

pub split_first : {X : Type 0} (all rest : List X) (oldest : X) → 0 < length all → oldest ≡ get_or all 0 oldest → rest ≡ remove all 0 → all ≡ oldest ∷ rest
split_first [] rest oldest some first others = absurd (omega arith)
split_first (x ∷ xs) rest oldest some first others = λ i. sym first i ∷ sym others i
