-- Entries that say what a row names.
use Rattle.std.proofs.Common.{◌≡◌, ℕ, zero, suc, ◌<◌, Bool, true, false, ◌||◌, List, [], ◌∷◌, Some, bytes_eq, get_or}
use Rattle.std.proofs.Common.{length, map, refl, sym, ap, subst, ◌∙◌, arith}
use Rattle.std.specs.Prelude.{position}
use Rattle.std.proofs.lemmas.List.Quantifiers.{position-Some}
use Rattle.roster_types.proofs.Places.{position-map}
use Rattle.roster_types.proofs.Sums.{infos-length}
use Rattle.roster_types.specs.Records.{Record, place_in}
use Rattle.roster_values.specs.Table.{TextForm, info_of, optional, table}
use Rattle.roster_values.specs.declared.fields.FieldInfo.{FieldInfo}
use Rattle.version_core.specs.References.{is_one_of, names}
use Rattle.std.proofs.lemmas.Bool.{and_from, or_left, or_right}
use Rattle.std.proofs.lemmas.Map.Lookups.{exact_bytes}
use Rattle.std.proofs.lemmas.Slice.Eq.{bytes_eq-Decides}
use Rattle.std.specs.Cmp.Lexicographic.{slice_cmp}
use Rattle.std.specs.List.{list_any}
use Rattle.std.specs.Ordering.{is_eq, nat_cmp, ordering_then}
use Rattle.std.specs.declared.cmp.Ordering.{Ordering}
use Rattle.std.specs.declared.cmp.Ordering.TheVariants.{Less, Equal, Greater}
use Rattle.version_core.specs.RefIndex.{IsIndexed, IsNameIndexed, Named, is_of, named_by, named_cmp, naming_cmp}
use Rattle.version_core.specs.RefIndex.{naming_of, is_entry_of}
use Rattle.version_core.specs.declared.ref_index.RefEntry.{RefEntry}

-- one that passes is among them
pub any_at : {X : Type 0} (p : X → Bool) (xs : List X) (i : ℕ) → i < length xs → ((d : X) → p (get_or xs i d) ≡ true) → list_any p xs ≡ true
any_at p [] i lt passes = absurd (omega arith)
any_at p (x ∷ xs) zero lt passes = or_left _ _ (passes x)
any_at p (x ∷ xs) (suc i) lt passes = or_right _ _ (any_at p xs i (omega arith) passes)

pub first_tied : (o s : Ordering) → ordering_then o s ≡ Equal → o ≡ Equal
first_tied Less s e = cc
first_tied Equal s e = refl
first_tied Greater s e = cc

pub second_tied : (o s : Ordering) → ordering_then o s ≡ Equal → s ≡ Equal
second_tied Less s e = cc
second_tied Equal s e = e
second_tied Greater s e = cc

pub said : (named : Named) (id : List ℕ) (entry : RefEntry) → naming_cmp (naming_of entry) (named, id) ≡ Equal → is_entry_of named id entry ≡ true
unfolding naming_cmp is_of
said named id entry tied =
    let one = first_tied (named_cmp (named_by entry) named) (slice_cmp nat_cmp entry.id id) tied in
    let other = second_tied (named_cmp (named_by entry) named) (slice_cmp nat_cmp entry.id id) tied in
    and_from _ _ (ap is_eq one) ((bytes_eq-Decides entry.id id).1 (exact_bytes entry.id id other))

-- what holds of each holds of one of them
pub each_of : (P : List ℕ → Type 0) (ids : List (List ℕ)) → ((k : ℕ) → k < length ids → P (get_or ids k [])) → (target : List ℕ) → is_one_of ids target ≡ true → P target
each_of P [] all target one = let impossible : false ≡ true = one in cc
each_of P (id ∷ ids) all target one =
    elim (bytes_eq id target) as (λ b. bytes_eq id target ≡ b → (b || is_one_of ids target) ≡ true → P target) [
      | true ↦ λ same _. subst P ((bytes_eq-Decides id target).0 same) (all 0 (omega arith))
      | false ↦ λ _ later. each_of P ids (λ k lt. all (suc k) (omega arith)) target later
    ] refl one

first_of : {X G : Type 0} (xs : List X) (i : ℕ) → i < length xs → (X → G) → G
first_of [] i lt found = absurd (omega arith)
first_of (x ∷ xs) i lt found = found x

-- a row is indexed where each of its fields is
pub indexed_from : (runs : List (List RefEntry)) (row : Record) (infos : List FieldInfo) → map info_of infos ≡ table row.kind → ((k : ℕ) (d : FieldInfo) → k < length infos → IsNameIndexed runs row (get_or infos k d).name.now) → IsIndexed runs row
indexed_from runs row infos are all = λ name target place at named.
    let here : position (λ (info : FieldInfo). bytes_eq info.name.now name) infos ≡ Some place =
    sym (position-map info_of (λ info. bytes_eq info.name name) infos) ∙ ap (position (λ info. bytes_eq info.name name)) are ∙ at in
    let within = (position-Some (λ info. bytes_eq info.name name) (table row.kind) place (optional [] [] TextForm) at).0 in
    let lt : place < length infos = omega (arith, within, infos-length infos (table row.kind) are) in
    first_of infos place lt (λ d.
    let found = position-Some (λ (info : FieldInfo). bytes_eq info.name.now name) infos place d here in
    let same = (bytes_eq-Decides (get_or infos place d).name.now name).0 found.1 in
    all place d lt target place (ap (place_in (table row.kind)) same ∙ at) (ap (λ n. names n target row) same ∙ named))
