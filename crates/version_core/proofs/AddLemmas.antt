-- One version more.
use Rattle.std.proofs.Common.{◌≡◌, ℕ, ℤ, suc, ◌+◌, ◌<◌, ◌≤◌, List, [], ◌∷◌, ◌++◌, length, map, refl, sym, ap, ◌∙◌}
use Rattle.std.proofs.Common.{arith, unwrap_or}
use Rattle.std.specs.List.{AllByRecursion}
use Rattle.version_core.specs.Changes.{change_key}
use Rattle.version_core.specs.History.{AreUpTo, Past, PutsRows, StandsFrom, rows_at}
use Rattle.version_core.specs.Order.{overlaid}
use Rattle.version_core.specs.Since.{standing, trimmed}
use Rattle.version_core.specs.VersionLog.{version_at, versions_at}
use Rattle.version_core.specs.Version.{after, empty_version, last_or}
use Rattle.version_core.specs.declared.change.Change.{Change}
use Rattle.version_core.specs.declared.grant_row.GrantRow.{GrantRow}
use Rattle.version_core.specs.declared.since.Since.{Since}
use Rattle.version_core.proofs.SinceLemmas.{standing-trimmed}
use Rattle.version_core.proofs.ViewLemmas.{last_version_at, rows_later, standing_later, versions_at-push}
use Rattle.version_core.proofs.ViewLemmas.{versions_at-same}

pub length_map : {X Y : Type 0} (f : X → Y) (xs : List X) → length (map f xs) ≡ length xs
length_map f [] = refl
length_map f (x ∷ xs) = ap suc (length_map f xs)

module _ (n newest : ℕ) (moment : ℤ) (moments : List ℤ) (pasts pasts' : List Past) (grants grants' : List (Since (List GrantRow))) (change : Change) (last : newest ≡ n + length moments) (next : change.version ≡ newest + 1) (up : AreUpTo newest pasts) (to : AllByRecursion (λ entry. entry.version ≤ newest) grants) (put : PutsRows change.version change.rows pasts pasts') (now : unwrap_or (standing change.version grants') [] ≡ unwrap_or change.grants (unwrap_or (standing change.version grants) [])) (earlier : (v : ℕ) → v < change.version → standing v grants' ≡ standing v grants) where
  rows_now : rows_at change.version pasts' ≡ overlaid change_key (rows_at newest pasts) change.rows
  rows_now = put.now ∙ ap (λ rows. overlaid change_key rows change.rows) (rows_later newest change.version newest pasts up (omega (arith, next)) (omega arith))

  grants_now : unwrap_or (standing change.version grants') [] ≡ unwrap_or change.grants (unwrap_or (standing newest grants) [])
  grants_now = now ∙ ap (λ o. unwrap_or change.grants (unwrap_or o [])) (standing_later newest change.version newest grants to (omega (arith, next)) (omega arith))

  -- the version that stands then is the one that the change leads to
  added : version_at change.version change.moment pasts' grants' ≡ after (last_or empty_version (versions_at n (moment ∷ moments) pasts grants)) change
  added =
      let newest_is : last_or empty_version (versions_at n (moment ∷ moments) pasts grants) ≡ version_at newest (last_or moment moments) pasts grants = last_version_at pasts grants empty_version n moment moments ∙ ap (λ k. version_at k (last_or moment moments) pasts grants) (sym last) in
      (λ i. record { number = change.version; moment = change.moment; rows = rows_now i; grants = grants_now i }) ∙ ap (λ v. after v change) (sym newest_is)

  -- and the others stay
  pub versions_grown : versions_at n (moment ∷ (moments ++ change.moment ∷ [])) pasts' grants' ≡ versions_at n (moment ∷ moments) pasts grants ++ after (last_or empty_version (versions_at n (moment ∷ moments) pasts grants)) change ∷ []
  versions_grown =
      let number : n + suc (length moments) ≡ change.version = omega (arith, last, next) in
      versions_at-push pasts' grants' n (moment ∷ moments) change.moment
      ∙ ap (λ vs. vs ++ version_at (n + suc (length moments)) change.moment pasts' grants' ∷ []) (versions_at-same pasts pasts' grants grants' n (moment ∷ moments) (λ v le lt. put.earlier v (omega (arith, lt, last, next))) (λ v le lt. earlier v (omega (arith, lt, last, next))))
      ∙ ap (λ k. versions_at n (moment ∷ moments) pasts grants ++ version_at k change.moment pasts' grants' ∷ []) number
      ∙ ap (λ v. versions_at n (moment ∷ moments) pasts grants ++ v ∷ []) added

-- what is let go was in no version from this one on
pub versions_trimmed : (n : ℕ) (moments : List ℤ) (pasts pasts' : List Past) (grants : List (Since (List GrantRow))) → StandsFrom n pasts pasts' → versions_at n moments pasts' (trimmed n grants) ≡ versions_at n moments pasts grants
versions_trimmed n moments pasts pasts' grants stands = versions_at-same pasts pasts' grants (trimmed n grants) n moments (λ v le lt. stands.rows v le) (λ v le lt. standing-trimmed v n grants le)
