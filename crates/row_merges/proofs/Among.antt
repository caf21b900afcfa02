-- Whether an id is among others of a kind.
use Rattle.std.proofs.Common.{◌≡◌, ℕ, List, [], ◌∷◌, ◌++◌, bytes_eq, Bool, true, false, ◌&&◌, ◌||◌, cond, Some}
use Rattle.std.proofs.Common.{append-nil, refl, sym, ap, ◌∙◌}
use Rattle.std.specs.Prelude.{is_some}
use Rattle.std.specs.List.{list_any}
use Rattle.std.specs.Ordering.{is_eq}
use Rattle.std.proofs.lemmas.Slice.Eq.{bytes_eq-Decides}
use Rattle.reference_rules.proofs.KeyOrder.{equal_from_is_eq, key_exact}
use Rattle.roster_types.specs.Keys.{Key, key_cmp, look_up}
use Rattle.roster_types.specs.Records.{Record}
use Rattle.roster_values.specs.declared.kind.Kind.{Kind}
use Rattle.version_core.proofs.PutLemmas.{key_same}
use Rattle.version_core.specs.Spans.{key_in}
use Rattle.row_merges.specs.Picks.{Pick, is_gone, kept_of}

-- ids of one kind are one where their keys are
ids_tell : (kind : Kind) (id other : List ℕ) → bytes_eq id other ≡ is_eq (key_cmp (key_in kind id) (key_in kind other))
ids_tell kind id other =
    elim (bytes_eq id other) as (λ b. bytes_eq id other ≡ b → b ≡ is_eq (key_cmp (key_in kind id) (key_in kind other))) [
      | true ↦ λ e. sym (ap is_eq (ap (λ x. key_cmp (key_in kind id) (key_in kind x)) (sym ((bytes_eq-Decides id other).0 e)) ∙ key_same (key_in kind id)))
      | false ↦ λ e. apart e (is_eq (key_cmp (key_in kind id) (key_in kind other))) refl
    ] refl
  where
    apart : bytes_eq id other ≡ false → (b : Bool) → is_eq (key_cmp (key_in kind id) (key_in kind other)) ≡ b → false ≡ b
    apart e false f = refl
    apart e true f =
        let same : key_in kind id ≡ key_in kind other = key_exact (key_in kind id) (key_in kind other) (equal_from_is_eq _ f) in
        sym e ∙ (bytes_eq-Decides id other).1 (ap (λ (k : Key). k.1) same)

pub any_is : (kind : Kind) (id : List ℕ) (ids : List (List ℕ)) → list_any (bytes_eq id) ids ≡ is_some (look_up (key_in kind) (key_in kind id) ids)
any_is kind id [] = refl
any_is kind id (other ∷ ids) =
    ap (λ b. b || list_any (bytes_eq id) ids) (ids_tell kind id other)
    ∙ elim (is_eq (key_cmp (key_in kind id) (key_in kind other))) as (λ b. (b || list_any (bytes_eq id) ids) ≡ is_some (cond b (Some other) (look_up (key_in kind) (key_in kind id) ids))) [ true ↦ refl | false ↦ any_is kind id ids ]

-- a held row that is gone isn't kept, and every other is
pub not_kept : (gone : List (List ℕ)) (pick : Pick) (rows : List Record) → pick.is_held ≡ true → is_gone gone pick.row ≡ true → rows ≡ rows ++ kept_of gone pick
not_kept gone pick rows held is = sym ((λ i. rows ++ cond (held i && is i) [] (pick.row ∷ [])) ∙ append-nil rows)
