-- Metadata in order, and its length.
use Rattle.std.proofs.Common.{◌≡◌, ◌+◌, ◌-◌, ◌==◌, ◌&&◌, ◌++◌, ℕ, Bool, true, false, List, [], ◌∷◌, Result, Ok, Err}
use Rattle.std.proofs.Common.{OnOk, OnErr, codes, length, map, sum_by, refl, ap, sym, subst, ◌∙◌}
use Rattle.std.proofs.lemmas.Bool.{and_from}
use Rattle.std.proofs.lemmas.List.Folds.{list_all-append}
use Rattle.std.proofs.lemmas.List.Sums.{sum_by-cons}
use Rattle.std.specs.List.{list_all}
use Rattle.std.specs.List.Sorted.{IsStrictlySortedBy}
use Rattle.roster_base.specs.Order.{RiseBy}
use Rattle.roster_types.specs.declared.metadata.Entry.{Entry}
use Rattle.roster_types.specs.Lengths.{entry_length, member_length, metadata_length}
use Rattle.roster_types.specs.Records.{IsMetadata, has_id_key, has_plain_text, key_of}

pub IsMetadata-nil : IsMetadata []
unfolding IsStrictlySortedBy
IsMetadata-nil = record { rise = tt; plain = refl; keys = refl }

all-push : (p : Entry → Bool) (es : List Entry) (e : Entry) → list_all p es ≡ true → p e ≡ true → list_all p (es ++ e ∷ []) ≡ true
all-push p es e all here = list_all-append p es (e ∷ []) ∙ and_from (list_all p es) (p e && true) all (and_from (p e) true here refl)

-- an entry at the end whose key is above all others leaves it metadata, whether there was memory for it or not
pub IsMetadata-push : {T E : Type 0} (es new : List Entry) (e : Entry) (r : Result T E) → IsMetadata es → RiseBy key_of (es ++ e ∷ []) → has_plain_text e ≡ true → has_id_key e ≡ true
    → OnOk r (new ≡ es ++ e ∷ []) → OnErr r (new ≡ es) → IsMetadata new
IsMetadata-push es new e (Ok x) m rise plain key ok err =
    subst IsMetadata (sym ok) (record { rise = rise; plain = all-push has_plain_text es e m.plain plain; keys = all-push has_id_key es e m.keys key })
IsMetadata-push es new e (Err x) m rise plain key ok err = subst IsMetadata (sym err) m

sum_by-map : {A : Type 0} (f : A → ℕ) (xs : List A) → sum_by (λ n. n + 1) (map f xs) ≡ sum_by (λ x. f x + 1) xs
sum_by-map f [] = refl
sum_by-map f (x ∷ xs) = sum_by-cons (λ n. n + 1) (f x) (map f xs) ∙ ap (λ n. f x + 1 + n) (sum_by-map f xs) ∙ sym (sum_by-cons (λ y. f y + 1) x xs)

pub metadata_length-some : (es : List Entry) → (length es == 0) ≡ false → metadata_length es ≡ member_length (codes "metadata") (2 + (sum_by (λ e. entry_length e + 1) es - 1)) + 1
unfolding metadata_length
metadata_length-some [] h = cc
metadata_length-some (e ∷ es) h = ap (λ n. member_length (codes "metadata") (2 + (n - 1)) + 1) (sum_by-map entry_length (e ∷ es))
