-- A grant whose entry is another's is that grant.
use Rattle.std.proofs.Common.{◌≡◌, ◌<◌, ◌^◌, ℕ, List, [], ◌∷◌, ◌++◌, append_assoc, length, sym, ap, subst, ◌∙◌}
use Rattle.grant_scopes.specs.declared.schools.Schools.TheVariants as schools
use Rattle.version_core.specs.declared.grant_row.GrantRow.{GrantRow}
use Rattle.hub_format.specs.Format.{FitsGrant}
use Rattle.hub_format.specs.Pieces.{AreSized, HasNoZero, IsSized, all_sized, caller_label, grant_body, number}
use Rattle.hub_format.specs.Pieces.{schools_bytes, sized}
use Rattle.hub_format.proofs.Labels.{same_caller}
use Rattle.hub_format.proofs.Unique.{same_grant}
use Rattle.hub_format.proofs.Steps.{all_sized-push}

-- one id more
pub more_ids : (bytes rest later : List ℕ) (ids new : List (List ℕ)) (id : List ℕ) → bytes ≡ all_sized ids ++ rest → rest ≡ sized id ++ later → new ≡ ids ++ id ∷ [] → bytes ≡ all_sized new ++ later
more_ids bytes rest later ids new id so_far next is =
    so_far ∙ ap (λ xs. all_sized ids ++ xs) next ∙ sym (append_assoc (all_sized ids) (sized id) later) ∙ ap (λ xs. xs ++ later) (sym (all_sized-push ids id) ∙ ap all_sized (sym is))

-- behind the byte of a list stand the count and the ids
pub listed_parts : (bytes rest later : List ℕ) (count : ℕ) (ids list : List (List ℕ)) → bytes ≡ number count ++ rest → rest ≡ all_sized ids ++ later → length ids ≡ count → list ≡ ids
    → 1 ∷ bytes ≡ schools_bytes (schools.Listed list) ++ later
listed_parts bytes rest later count ids list is parts long same =
    ap (λ xs. 1 ∷ xs) (is ∙ ap (λ n. number n ++ rest) (sym long) ∙ ap (λ xs. number (length ids) ++ xs) parts ∙ sym (append_assoc (number (length ids)) (all_sized ids) later))
    ∙ ap (λ xs. schools_bytes (schools.Listed xs) ++ later) (sym same)

pub grant_read : (version : ℕ) (found row : GrantRow) → FitsGrant row → caller_label found.caller ≡ caller_label row.caller → grant_body found.grant ≡ grant_body row.grant
    → IsSized found.grant.token → AreSized found.grant.schools → found.grant.since < 2 ^ 64 → found ≡ row
grant_read version found row fits labels bodies token schools since =
    let callers = same_caller found.caller row.caller labels in
    same_grant version found row (record { caller = subst HasNoZero (sym callers) fits.caller; token = token; schools = schools; since = since }) fits (λ i. (number version ++ labels i, bodies i))
