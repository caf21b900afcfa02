-- Versions of one number after another.
use Rattle.std.proofs.Common.{◌≡◌, ℕ, zero, suc, ◌+◌, ◌-◌, ◌<◌, ◌≤◌, List, [], ◌∷◌, ◌++◌, length, drop, take, get_or}
use Rattle.std.proofs.Common.{length-append, None, refl, sym, ap, subst, ◌∙◌, arith}
use Rattle.std.specs.List.{AllByRecursion}
use Rattle.version_core.specs.declared.change.Change.{Change}
use Rattle.version_core.specs.declared.change.BaseVersion.{BaseVersion}
use Rattle.version_core.specs.HubStates.{AreVersionsFrom}
use Rattle.version_core.specs.Table.{AreKept, LeadOn}
use Rattle.version_core.specs.Version.{IsVersion, Versions, after, empty_version, first_or, last_or, versions_from}
use Rattle.version_core.specs.Version.{with_version}
use Rattle.version_core.proofs.VersionLemmas.{length-versions_from, newest_number, oldest-versions_from}

-- each version of a run is one
pub versions_are : (n : ℕ) (versions : List BaseVersion) → AreVersionsFrom n versions → AllByRecursion IsVersion versions
versions_are n [] run = tt
versions_are n (version ∷ versions) run = (run.1, versions_are (n + 1) versions run.2)

-- what each of a list meets its last meets
pub last_meets : (P : BaseVersion → Type 0) (first : BaseVersion) (rest : List BaseVersion) → AllByRecursion P (first ∷ rest) → P (last_or first rest)
last_meets P first [] all = all.0
last_meets P first (next ∷ rest) all = last_meets P next rest all.1

pub first_number : (d : BaseVersion) (n : ℕ) (versions : List BaseVersion) → AreVersionsFrom n versions → 1 ≤ length versions → (first_or d versions).number ≡ n
first_number d n [] run some = absurd (omega arith)
first_number d n (v ∷ versions) run some = run.0

pub last_number : (d : BaseVersion) (n : ℕ) (versions : List BaseVersion) → AreVersionsFrom n versions → 1 ≤ length versions → (last_or d versions).number + 1 ≡ n + length versions
last_number d n [] run some = absurd (omega arith)
last_number d n (v ∷ []) run some = omega (arith, run.0)
last_number d n (v ∷ w ∷ versions) run some = let rest = last_number v (n + 1) (w ∷ versions) run.2 (omega arith) in omega (arith, rest)

pub AreVersionsFrom-push : (n : ℕ) (versions : List BaseVersion) (v : BaseVersion) → AreVersionsFrom n versions → v.number ≡ n + length versions → IsVersion v → AreVersionsFrom n (versions ++ v ∷ [])
AreVersionsFrom-push n [] v run next is = (omega (arith, next), is, tt)
AreVersionsFrom-push n (w ∷ versions) v run next is = (run.0, run.1, AreVersionsFrom-push (n + 1) versions v run.2 (omega (arith, next)) is)

pub first-push : (d v : BaseVersion) (versions : List BaseVersion) → 1 ≤ length versions → first_or d (versions ++ v ∷ []) ≡ first_or d versions
first-push d v [] some = absurd (omega arith)
first-push d v (w ∷ versions) some = refl

pub last-push : (d v : BaseVersion) (versions : List BaseVersion) → last_or d (versions ++ v ∷ []) ≡ v
last-push d v [] = refl
last-push d v (w ∷ versions) = last-push w v versions

-- one version more, where not all that may be kept are there
pub kept_more : (keep : ℕ) (versions : List BaseVersion) (v : BaseVersion) → AreKept keep versions → v.number ≡ (last_or empty_version versions).number + 1 → IsVersion v → length versions ≤ keep → AreKept keep (versions ++ v ∷ [])
kept_more keep versions v are next is few =
    let n = (first_or empty_version versions).number in
    let last = last_number empty_version n versions are.run are.some in
    let long = length-append versions (v ∷ []) in
    let run = AreVersionsFrom-push n versions v are.run (omega (arith, next, last)) is in
    let first = ap (λ (w : BaseVersion). w.number) (first-push empty_version v versions are.some) in
    let newest = ap (λ (w : BaseVersion). w.number) (last-push empty_version v versions) in
    record {
      run = subst (λ k. AreVersionsFrom k (versions ++ v ∷ [])) (sym first) run;
      some = omega (arith, long);
      few = omega (arith, long, few);
      oldest = omega (arith, first, newest, next, last, are.oldest, few);
    }

-- and where they are, with the oldest let go
pub kept_rest : (keep : ℕ) (versions : List BaseVersion) (v : BaseVersion) → AreKept keep versions → v.number ≡ (last_or empty_version versions).number + 1 → IsVersion v → length versions ≡ suc keep → AreKept keep (drop 1 (versions ++ v ∷ []))
kept_rest keep [] v are next is full = absurd (omega arith)
kept_rest keep (w ∷ versions) v are next is full =
    let last = last_number empty_version w.number (w ∷ versions) are.run (omega arith) in
    let long = length-append versions (v ∷ []) in
    let run = AreVersionsFrom-push (w.number + 1) versions v are.run.2 (omega (arith, next, last)) is in
    let some : 1 ≤ length (versions ++ v ∷ []) = omega (arith, long) in
    let first = first_number empty_version (w.number + 1) (versions ++ v ∷ []) run some in
    let newest = ap (λ (w : BaseVersion). w.number) (last-push empty_version v versions) in
    record {
      run = subst (λ k. AreVersionsFrom k (versions ++ v ∷ [])) (sym first) run;
      some = some;
      few = omega (arith, long, full);
      oldest = omega (arith, first, newest, next, last, full);
    }

-- where one version is too many, the oldest goes
pub with_version-drop : (table : Versions) (version : BaseVersion) → length table.versions ≡ suc table.keep → with_version table version ≡ record { keep = table.keep; versions = drop 1 (table.versions ++ version ∷ []); room = None }
with_version-drop table version full =
    let all = table.versions ++ version ∷ [] in
    let one : length all - suc table.keep ≡ 1 = omega (arith, length-append table.versions (version ∷ []), full) in
    ap (λ n. record { keep = table.keep; versions = drop n all; room = None }) one

-- the versions that changes lead to
pub AreVersionsFrom-versions_from : (base : BaseVersion) (changes : List Change) → AllByRecursion IsVersion (versions_from base changes) → LeadOn base.number changes → AreVersionsFrom base.number (versions_from base changes)
AreVersionsFrom-versions_from base [] are lead = (refl, are.0, tt)
AreVersionsFrom-versions_from base (change ∷ changes) are lead = (refl, are.0, subst (λ n. AreVersionsFrom n (versions_from (after base change) changes)) lead.0 (AreVersionsFrom-versions_from (after base change) changes are.1 lead.1))

pub kept_from : (keep : ℕ) (base : BaseVersion) (changes : List Change) → AllByRecursion IsVersion (versions_from base changes) → LeadOn base.number changes → base.number ≡ (base.number + length changes) - keep → AreKept keep (versions_from base changes)
kept_from keep base changes are lead oldest =
    let long = length-versions_from base changes in
    let first = ap (λ (w : BaseVersion). w.number) (oldest-versions_from empty_version base changes) in
    let last = newest_number empty_version base changes lead in
    record {
      run = subst (λ n. AreVersionsFrom n (versions_from base changes)) (sym first) (AreVersionsFrom-versions_from base changes are lead);
      some = omega (arith, long);
      few = omega (arith, long, oldest);
      oldest = omega (arith, first, last, oldest);
    }

-- what each version meets the first meets
pub base_meets : (P : BaseVersion → Type 0) (base : BaseVersion) (changes : List Change) → AllByRecursion P (versions_from base changes) → P base
base_meets P base [] all = all.0
base_meets P base (change ∷ changes) all = all.0

-- the version that the next change leads to is one of them
pub next_meets : (P : BaseVersion → Type 0) (d base : BaseVersion) (changes : List Change) (n : ℕ) (change : Change) → n < length changes → change ≡ get_or changes n change → AllByRecursion P (versions_from base changes) → P (after (last_or d (versions_from base (take n changes))) change)
next_meets P d base [] n change lt here all = absurd (omega arith)
next_meets P d base (x ∷ changes) zero change lt here all = subst (λ y. P (after base y)) (sym here) (base_meets P (after base x) changes all.1)
next_meets P d base (x ∷ changes) (suc n) change lt here all = next_meets P base (after base x) changes n change (omega arith) here all.1

-- and has the next number
pub next_leads : (d base : BaseVersion) (changes : List Change) (n : ℕ) (change : Change) → n < length changes → change ≡ get_or changes n change → LeadOn base.number changes → change.version ≡ (last_or d (versions_from base (take n changes))).number + 1
next_leads d base [] n change lt here lead = absurd (omega arith)
next_leads d base (x ∷ changes) zero change lt here lead = ap (λ y. y.version) here ∙ lead.0
next_leads d base (x ∷ changes) (suc n) change lt here lead = next_leads base (after base x) changes n change (omega arith) here lead.1

pub all_get : {X : Type 0} (P : X → Type 0) (xs : List X) (n : ℕ) (x : X) → n < length xs → x ≡ get_or xs n x → AllByRecursion P xs → P x
all_get P [] n x lt here all = absurd (omega arith)
all_get P (y ∷ xs) zero x lt here all = subst P (sym here) all.0
all_get P (y ∷ xs) (suc n) x lt here all = all_get P xs n x (omega arith) here all.1
