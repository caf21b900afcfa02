-- A row's faults, field by field.
use Rattle.std.proofs.Common.{◌≡◌, ◌<◌, ◌≤◌, ◌+◌, ℕ, zero, suc, List, [], ◌∷◌, ◌++◌, append_assoc, append-nil, drop}
use Rattle.std.proofs.Common.{get_or, length, None, Option, refl, sym, ap, ◌∙◌, add-one, arith}
use Rattle.std.proofs.lemmas.List.{drop_all}
use Rattle.roster_types.specs.Records.{Record}
use Rattle.roster_values.specs.declared.value.Value.{Value}
use Rattle.roster_values.specs.Table.{Info}
use Rattle.reference_rules.specs.declared.ref_fault.RefFault.{RefFault}
use Rattle.reference_rules.specs.Faults.{faults_in, field_faults}

module _ (rows : List Record) (row : Record) where
  faults_at : (is : List Info) (vs : List (Option Value)) (n : ℕ) (d : Info) → n < length is → length is ≡ length vs
      → faults_in rows row (drop n is) (drop n vs) ≡ field_faults rows row (get_or is n d) (get_or vs n None) ++ faults_in rows row (drop (suc n) is) (drop (suc n) vs)
  faults_at [] vs n d lt same = absurd (omega arith)
  faults_at (i ∷ is) [] n d lt same = absurd (omega arith)
  faults_at (i ∷ is) (v ∷ vs) zero d lt same = refl
  faults_at (i ∷ is) (v ∷ vs) (suc n) d lt same = faults_at is vs n d (omega arith) (omega arith)

  -- what is found, with what is left, makes the whole
  abbrev pub Finds : List Info → List (Option Value) → ℕ → List RefFault → List RefFault → Type 0
  Finds is vs n old found = found ++ faults_in rows row (drop n is) (drop n vs) ≡ old ++ faults_in rows row is vs

  pub finds_on : (is : List Info) (vs : List (Option Value)) (n : ℕ) (d : Info) (old found : List RefFault) → n < length is → length is ≡ length vs
      → Finds is vs n old found → Finds is vs (n + 1) old (found ++ field_faults rows row (get_or is n d) (get_or vs n None))
  finds_on is vs n d old found lt same so =
      rw add-one (append_assoc found (field_faults rows row (get_or is n d) (get_or vs n None)) (faults_in rows row (drop (suc n) is) (drop (suc n) vs)) ∙ ap (λ ys. found ++ ys) (sym (faults_at is vs n d lt same)) ∙ so)

  pub finds_end : (is : List Info) (vs : List (Option Value)) (n : ℕ) (old found : List RefFault) → length is ≤ n → Finds is vs n old found → found ≡ old ++ faults_in rows row is vs
  finds_end is vs n old found le so =
      let none : faults_in rows row (drop n is) (drop n vs) ≡ [] = ap (λ (js : List Info). faults_in rows row js (drop n vs)) (drop_all n is le) in
      sym (append-nil found) ∙ ap (λ ys. found ++ ys) (sym none) ∙ so
