-- The rows that a grant is shown of an older version are that version's own cut to the token.
use Rattle.std.proofs.Common.{◌≡◌, ℕ, ◌≤◌, true, false, cond, List, [], ◌∷◌, get_or, map, Some, bytes_eq, refl, sym, ap}
use Rattle.std.proofs.Common.{subst, ◌∙◌, arith}
use Rattle.std.proofs.lemmas.Slice.Eq.{bytes_eq-Decides}
use Rattle.std.specs.List.{AllByRecursion, IsDistinct}
use Rattle.std.specs.Option.{option_map_or}
use Rattle.version_changes.proofs.Finding.{found_meets, found_passes, same_text}
use Rattle.hub_spec.proofs.Versions.{all_at, newest_has, newest_is, number_at, some_version, version_is}
use Rattle.hub_spec.specs.rules.Checks.{version_at}
use Rattle.hub_spec.specs.rules.States.{IsHub}
use Rattle.hub_spec.specs.rules.Verdicts.{newest_in}
use Rattle.hub_spec.specs.views.Cuts.{cut_of, kind_cut, list_in, no_rows}
use Rattle.roster_types.specs.Records.{Record}
use Rattle.roster_values.specs.declared.kind.Kind.{Kind}
use Rattle.roster_values.specs.declared.kind.Kind.TheVariants.{Orgs}
use Rattle.roster_values.specs.Kinds.{place_of_kind}
use Rattle.grant_scopes.specs.declared.grant.Grant.{Grant}
use Rattle.version_core.specs.Changes.{rows_of}
use Rattle.version_core.specs.Grants.{HasGrant, grant_of, grant_row_of, token_of}
use Rattle.version_core.specs.HubStates.{HasFromSince, HubState, newest_number}
use Rattle.version_core.specs.declared.grant_row.GrantRow.{GrantRow}

mapped_meets : {X Y : Type 0} (f : X → Y) (P : Y → Type 0) (xs : List X) → AllByRecursion P (map f xs) → AllByRecursion (λ x. P (f x)) xs
mapped_meets f P [] all = tt
mapped_meets f P (x ∷ xs) all = (all.0, mapped_meets f P xs all.1)

-- a caller that has a grant is found by the grant's token, as no other has that token
pub by_token : (grants : List GrantRow) (row : GrantRow) → IsDistinct bytes_eq (map token_of grants) → HasGrant grants row → grant_of row.grant.token grants ≡ Some row
unfolding IsDistinct
by_token [] row differ has = cc
by_token (other ∷ grants) row differ has =
    elim (bytes_eq other.caller row.caller) as (λ b. cond b (Some other) (grant_row_of row.caller grants) ≡ Some row → grant_of row.grant.token (other ∷ grants) ≡ Some row) [
      | true ↦ λ is.
          let same : other ≡ row = cc in
          ap (λ b. cond b (Some other) (grant_of row.grant.token grants)) (subst (λ (r : GrantRow). bytes_eq r.grant.token row.grant.token ≡ true) (sym same) ((bytes_eq-Decides row.grant.token row.grant.token).1 refl)) ∙ is
      | false ↦ λ later.
          let apart : bytes_eq other.grant.token row.grant.token ≡ false = found_meets (λ r. bytes_eq other.grant.token r.grant.token ≡ false) (λ r. bytes_eq r.caller row.caller) grants row (mapped_meets token_of (λ t. bytes_eq other.grant.token t ≡ false) grants differ.0) later in
          ap (λ b. cond b (Some other) (grant_of row.grant.token grants)) apart ∙ by_token grants row differ.1 later
    ] has

-- the list of a kind in a cut
pub kind_in_cut : (grant : Grant) (rows : List Record) (kind : Kind) → get_or (cut_of grant rows) (place_of_kind kind) [] ≡ kind_cut grant rows kind
kind_in_cut grant rows Orgs = refl
kind_in_cut grant rows _ = refl

module _ (state : HubState) (hub : IsHub state) (token : List ℕ) (by : GrantRow) (known : grant_of token (newest_in state).grants ≡ Some by) where
  token_is : by.grant.token ≡ token
  token_is = same_text by.grant.token token (found_passes (λ r. bytes_eq r.grant.token token) (newest_in state).grants by known)

  -- the caller has the grant in each version from its `since` on
  pub known_at : (version : ℕ) → by.grant.since ≤ version → version ≤ newest_number state → grant_of token (version_at state version).grants ≡ Some by
  known_at version since within =
      let from : HasFromSince state.published by = found_meets (HasFromSince state.published) (λ r. bytes_eq r.grant.token token) (newest_in state).grants by hub.grants known in
      let has : HasGrant (version_at state version).grants by = all_at (λ v. by.grant.since ≤ v.number → HasGrant v.grants by) version state.published from (omega (arith, some_version state hub.state)) (omega (arith, number_at state hub.state version within)) in
      subst (λ t. grant_of t (version_at state version).grants ≡ Some by) token_is (by_token (version_at state version).grants by (version_is state hub.state version within).grants.tokens has)

  -- so what is shown of that version is its cut to the token
  pub rows_are_cut : (kind : Kind) (version : ℕ) → by.grant.since ≤ version → version ≤ newest_number state → list_in (version_at state version) token kind ≡ kind_cut by.grant (rows_of (version_at state version).rows) kind
  rows_are_cut kind version since within =
      ap (λ o. get_or (option_map_or (λ (r : GrantRow). cut_of r.grant (rows_of (version_at state version).rows)) o no_rows) (place_of_kind kind) []) (known_at version since within)
      ∙ kind_in_cut by.grant (rows_of (version_at state version).rows) kind

  -- a grant of the newest version isn't younger than it
  pub since_newest : by.grant.since ≤ newest_number state
  since_newest =
      let le = found_meets (λ r. r.grant.since ≤ (newest_in state).number) (λ r. bytes_eq r.grant.token token) (newest_in state).grants by (newest_is state hub.state).grants.since known in
      omega (arith, le, newest_has state hub.state)
