-- What a list of grants leads to is a version that may stand behind the newest.
use Rattle.std.proofs.Common.{◌≡◌, ℕ, ℤ, ◌+◌, ◌≤◌, ◌⊎◌, inl, inr, true, false, ◌&&◌, ◌==◌, cond, List, [], ◌∷◌, map}
use Rattle.std.proofs.Common.{None, Some, bytes_eq, refl, sym, ap, subst, ◌∙◌, arith}
use Rattle.std.proofs.lemmas.Bool.{and_from}
use Rattle.std.proofs.lemmas.Bool.Decides.{nat_tests}
use Rattle.std.proofs.lemmas.List.Sorted.{IsPermutation-map}
use Rattle.std.proofs.lemmas.Map.Keys.{IsDistinct-IsPermutation}
use Rattle.std.proofs.lemmas.Slice.Eq.{bytes_eq-Decides}
use Rattle.std.specs.Bool.{Decides}
use Rattle.std.specs.Cmp.Lexicographic.{pointwise, slice_cmp}
use Rattle.std.specs.List.{AllByRecursion, IsDistinct}
use Rattle.std.specs.Ordering.{match_ordering, nat_cmp}
use Rattle.std.specs.declared.cmp.Ordering.TheVariants.{Equal, Greater, Less}
use Rattle.version_changes.proofs.Finding.{all_each, bytes_flip, found_meets, found_passes, same_text}
use Rattle.version_changes.specs.grants.Granting.{GrantsMake, asks_for, granted, grants_from, same_schools, since_of}
use Rattle.version_changes.specs.grants.Next.{IsNext}
use Rattle.grant_scopes.specs.Entries.{AreEntries, entry_caller}
use Rattle.grant_scopes.specs.declared.entry.GrantEntry.{GrantEntry}
use Rattle.grant_scopes.specs.declared.schools.Schools.{Schools}
use Rattle.grant_scopes.specs.declared.schools.Schools.TheVariants.{All, Listed}
use Rattle.reference_rules.proofs.KeyOrder.{and_first, and_second}
use Rattle.roster_base.proofs.Sorting.{moved-in_order, rise-in_order}
use Rattle.roster_base.specs.Order.{in_order, placed}
use Rattle.version_changes.specs.sets.Applying.{Leads, LeadsOn, Outcome, Refuses, Unchanged}
use Rattle.version_core.specs.Grants.{AreGrants, HasGrant, caller_of, grant_row_of, token_of}
use Rattle.version_core.specs.Version.{IsVersion, last_version}
use Rattle.version_core.specs.declared.change.BaseVersion.{BaseVersion}
use Rattle.version_core.specs.declared.grant_row.GrantRow.{GrantRow}
use Rattle.version_core.specs.declared.row_change.RowChange.{RowChange}

-- what all of these are, they are in order
all_in_order : {X : Type 0} (P : X → Type 0) (key : X → List ℕ) (xs : List X) → AllByRecursion P xs → AllByRecursion P (in_order key xs)
unfolding placed
all_in_order {X} P key [] all = tt
all_in_order {X} P key (x ∷ xs) all = all_placed x (in_order key xs) all.0 (all_in_order P key xs all.1)
  where
    all_placed : (x : X) (ys : List X) → P x → AllByRecursion P ys → AllByRecursion P (placed key x ys)
    all_placed x [] here all = (here, tt)
    all_placed x (y ∷ ys) here all =
        elim (slice_cmp nat_cmp (key x) (key y)) as (λ o. AllByRecursion P (match_ordering o (x ∷ y ∷ ys) (x ∷ ys) (y ∷ placed key x ys))) [
          | Less ↦ (here, all)
          | Equal ↦ (here, all.1)
          | Greater ↦ (all.0, all_placed x ys here all.1)
        ]

-- what is made of items is in order where the items are
in_order-map : {X Y : Type 0} (key : Y → List ℕ) (f : X → Y) (xs : List X) → in_order key (map f xs) ≡ map f (in_order (λ x. key (f x)) xs)
unfolding placed
in_order-map key f [] = refl
in_order-map {X} {Y} key f (x ∷ xs) = ap (placed key (f x)) (in_order-map key f xs) ∙ placed-map x (in_order (λ x. key (f x)) xs)
  where
    placed-map : (x : X) (ys : List X) → placed key (f x) (map f ys) ≡ map f (placed (λ x. key (f x)) x ys)
    placed-map x [] = refl
    placed-map x (y ∷ ys) =
        elim (slice_cmp nat_cmp (key (f x)) (key (f y))) as (λ o. match_ordering o (f x ∷ f y ∷ map f ys) (f x ∷ map f ys) (f y ∷ placed key (f x) (map f ys)) ≡ map f (match_ordering o (x ∷ y ∷ ys) (x ∷ ys) (y ∷ placed (λ x. key (f x)) x ys))) [
          | Less ↦ refl
          | Equal ↦ refl
          | Greater ↦ ap (λ (zs : List Y). f y ∷ zs) (placed-map x ys)
        ]

map_map : {X Y Z : Type 0} (f : Y → Z) (g : X → Y) (xs : List X) → map f (map g xs) ≡ map (λ x. f (g x)) xs
map_map f g [] = refl
map_map f g (x ∷ xs) = ap (λ zs. f (g x) ∷ zs) (map_map f g xs)

-- two lists of ids agree exactly where they are one
same_lists : (xs ys : List (List ℕ)) → pointwise bytes_eq xs ys ≡ true → xs ≡ ys
same_lists [] [] e = refl
same_lists [] (y ∷ ys) e = cc
same_lists (x ∷ xs) [] e = cc
same_lists (x ∷ xs) (y ∷ ys) e =
    let one = same_text x y (and_first (bytes_eq x y) _ e) in
    let rest = same_lists xs ys (and_second (bytes_eq x y) _ e) in
    λ i. one i ∷ rest i

list_itself : (xs : List (List ℕ)) → pointwise bytes_eq xs xs ≡ true
list_itself [] = refl
list_itself (x ∷ xs) = and_from (bytes_eq x x) (pointwise bytes_eq xs xs) ((bytes_eq-Decides x x).1 refl) (list_itself xs)

schools_are : (a b : Schools) → same_schools a b ≡ true → a ≡ b
schools_are All All e = refl
schools_are All (Listed ys) e = cc
schools_are (Listed xs) All e = cc
schools_are (Listed xs) (Listed ys) e = ap (λ l. Listed l) (same_lists xs ys e)

schools_itself : (a : Schools) → same_schools a a ≡ true
schools_itself All = refl
schools_itself (Listed xs) = list_itself xs

pub Decides-same_schools : (a b : Schools) → Decides (same_schools a b) (a ≡ b)
Decides-same_schools a b = (schools_are a b, λ e. subst (λ (s : Schools). same_schools a s ≡ true) e (schools_itself a))

-- the grants in the order of the callers are those of the entries in that order
pub grants_from-in_order : (version : BaseVersion) (entries : List GrantEntry) → grants_from version entries ≡ map (granted version) (in_order entry_caller entries)
grants_from-in_order version entries = in_order-map caller_of (granted version) entries

abbrev row_since : GrantEntry → ℕ → GrantRow
row_since entry since = record { caller = entry.caller; grant = record { token = entry.token; scopes = entry.scopes; schools = entry.schools; since = since } }

module _ (version : BaseVersion) (is : IsVersion version) where
  abbrev IsGood : GrantRow → Type 0
  IsGood row = (row.grant.since ≤ version.number + 1) × ((row.grant.since ≡ version.number + 1) ⊎ HasGrant version.grants row)

  -- what a caller is granted is new, or what it has
  good_granted : (entry : GrantEntry) → IsGood (granted version entry)
  good_granted entry =
      elim (grant_row_of entry.caller version.grants) as (λ o. grant_row_of entry.caller version.grants ≡ o → (since_of (version.number + 1) entry o ≤ version.number + 1) × ((since_of (version.number + 1) entry o ≡ version.number + 1) ⊎ HasGrant version.grants (row_since entry (since_of (version.number + 1) entry o)))) [
        | None ↦ λ _. (omega arith, inl refl)
        | Some row ↦ λ found. held row found
      ] refl
    where
      same_row : (row : GrantRow) → row.caller ≡ entry.caller → asks_for entry row.grant ≡ true → row_since entry row.grant.since ≡ row
      same_row row named asked =
          let tests = and_first (bytes_eq entry.token row.grant.token && (entry.scopes == row.grant.scopes)) _ asked in
          let token = same_text entry.token row.grant.token (and_first (bytes_eq entry.token row.grant.token) _ tests) in
          let scopes : entry.scopes ≡ row.grant.scopes = let t = and_second (bytes_eq entry.token row.grant.token) _ tests in grind (arith, nat_tests) in
          let schools = schools_are entry.schools row.grant.schools (and_second (bytes_eq entry.token row.grant.token && (entry.scopes == row.grant.scopes)) _ asked) in
          λ i. record { caller = sym named i; grant = record { token = token i; scopes = scopes i; schools = schools i; since = row.grant.since } }

      held : (row : GrantRow) → grant_row_of entry.caller version.grants ≡ Some row → (since_of (version.number + 1) entry (Some row) ≤ version.number + 1) × ((since_of (version.number + 1) entry (Some row) ≡ version.number + 1) ⊎ HasGrant version.grants (row_since entry (since_of (version.number + 1) entry (Some row))))
      held row found =
          let named = same_text row.caller entry.caller (found_passes (λ r. bytes_eq r.caller entry.caller) version.grants row found) in
          let small = found_meets (λ r. r.grant.since ≤ version.number) (λ r. bytes_eq r.caller entry.caller) version.grants row is.grants.since found in
          let has : HasGrant version.grants row = subst (λ c. grant_row_of c version.grants ≡ Some row) (sym named) found in
          elim (asks_for entry row.grant) as (λ b. asks_for entry row.grant ≡ b → (cond b row.grant.since (version.number + 1) ≤ version.number + 1) × ((cond b row.grant.since (version.number + 1) ≡ version.number + 1) ⊎ HasGrant version.grants (row_since entry (cond b row.grant.since (version.number + 1))))) [
            | true ↦ λ asked. (omega arith, inr (subst (HasGrant version.grants) (sym (same_row row named asked)) has))
            | false ↦ λ _. (omega arith, inl refl)
          ] refl

  all_good : (entries : List GrantEntry) → AllByRecursion IsGood (grants_from version entries)
  all_good entries = all_in_order IsGood caller_of (map (granted version) entries) (all_granted entries)
    where
      all_granted : (entries : List GrantEntry) → AllByRecursion IsGood (map (granted version) entries)
      all_granted [] = tt
      all_granted (entry ∷ entries) = (good_granted entry, all_granted entries)

  -- entries lead to the grants of a version
  pub AreGrants-grants_from : (entries : List GrantEntry) → AreEntries entries → AreGrants (version.number + 1) (grants_from version entries)
  AreGrants-grants_from entries are =
      let rows = map (granted version) entries in
      let callers : IsDistinct bytes_eq (map caller_of rows) = subst (IsDistinct bytes_eq) (sym (map_map caller_of (granted version) entries)) are.callers in
      let tokens : IsDistinct bytes_eq (map token_of rows) = subst (IsDistinct bytes_eq) (sym (map_map token_of (granted version) entries)) are.tokens in
      record {
        rise = rise-in_order caller_of rows;
        tokens = IsDistinct-IsPermutation bytes_eq bytes_flip _ _ (IsPermutation-map token_of rows (grants_from version entries) (moved-in_order caller_of rows callers)) tokens;
        since = all_each IsGood (λ row. row.grant.since ≤ version.number + 1) (grants_from version entries) (λ row g. g.0) (all_good entries);
      }

  -- what a list leads to may stand behind, where it is a version
  pub grants_go_on : (entries : List GrantEntry) (at : ℤ) (next : BaseVersion) → IsVersion next → GrantsMake version entries at (Leads next) → IsNext version next
  grants_go_on entries at next is_next makes = subst (IsNext version) (sym makes.2) (record {
    number = refl;
    version = subst IsVersion makes.2 is_next;
    grants = all_each IsGood (λ row. (row.grant.since ≡ version.number + 1) ⊎ HasGrant version.grants row) (grants_from version entries) (λ row g. g.1) (all_good entries);
  })

  -- as it is, where the list may be asked for
  pub grants_next : (entries : List GrantEntry) (at : ℤ) (next : BaseVersion) → AreEntries entries → GrantsMake version entries at (Leads next) → IsNext version next
  grants_next entries at next are makes =
      let small = makes.1 in
      grants_go_on entries at next (subst IsVersion (sym makes.2) (record { number = omega arith; rows = is.rows; few = is.few; grants = AreGrants-grants_from entries are })) makes

  -- a change of all grants may be added to a table
  pub leads_on : (n : ℕ) (at : ℤ) (rows : List RowChange) (grants : List GrantRow) → n ≡ version.number + 1 → rows ≡ [] → (version.number ≡ last_version → ⊥) → AreGrants n grants → LeadsOn version (record { version = n; moment = at; rows = rows; grants = Some grants })
  leads_on n at rows grants next none more are =
      subst (λ (rows : List RowChange). LeadsOn version (record { version = n; moment = at; rows = rows; grants = Some grants })) (sym none) (record {
        next = next;
        version = record { number = (let le = is.number in omega arith); rows = is.rows; few = is.few; grants = are };
        changes = refl;
      })

-- one outcome is made
pub one_outcome : (version : BaseVersion) (entries : List GrantEntry) (at : ℤ) (one other : Outcome) → GrantsMake version entries at one → GrantsMake version entries at other → one ≡ other
one_outcome version entries at (Refuses f) (Refuses g) is is' = ap Refuses (is.2 ∙ sym is'.2)
one_outcome version entries at (Refuses f) Unchanged is is' = absurd (is.0 is')
one_outcome version entries at (Refuses f) (Leads next) is is' = let e = is.1 in let lt = is'.1 in absurd (omega arith)
one_outcome version entries at Unchanged (Refuses f) is is' = absurd (is'.0 is)
one_outcome version entries at Unchanged Unchanged is is' = refl
one_outcome version entries at Unchanged (Leads next) is is' = absurd (is'.0 is)
one_outcome version entries at (Leads next) (Refuses f) is is' = let e = is'.1 in let lt = is.1 in absurd (omega arith)
one_outcome version entries at (Leads next) Unchanged is is' = absurd (is.0 is')
one_outcome version entries at (Leads next) (Leads other) is is' = ap Leads (is.2 ∙ sym is'.2)
