-- Chains of parents.
use Rattle.std.proofs.Common.{◌≡◌, ℕ, zero, suc, ◌+◌, ◌<◌, ◌≤◌, ◌-◌, List, true, false, Option, Some, None}
use Rattle.std.proofs.Common.{option_and_then, refl, ap, ◌∙◌, arith, add-one, zero-add, suc-add, inl, inr}
use Rattle.std.proofs.lemmas.Bool.{false_from_ne_true, or_left, or_right, or_from, or_cases}
use Rattle.std.proofs.lemmas.Slice.Eq.{bytes_eq-Decides}
use Rattle.roster_types.specs.Records.{Record}
use Rattle.roster_values.specs.declared.kind.Kind.{Kind}
use Rattle.reference_rules.specs.Parents.{is_id, nth_parent, parent_of, returns_within}

module _ (rows : List Record) (kind : Kind) (id : List ℕ) where
  -- one turn further
  pub follows_more : (n : ℕ) (current : List ℕ) → nth_parent rows kind id n ≡ Some current → nth_parent rows kind id (n + 1) ≡ parent_of rows kind current
  follows_more n current at = rw (add-one, at)

  -- what came back stays so
  came_back : (n d : ℕ) → returns_within rows kind id n ≡ true → returns_within rows kind id (d + n) ≡ true
  came_back n zero back = rw zero-add back
  came_back n (suc d) back = rw suc-add (or_left _ _ (came_back n d back))

  -- a chain that ended doesn't come back
  ended : (n d : ℕ) → nth_parent rows kind id (suc n) ≡ None → returns_within rows kind id n ≡ false → (returns_within rows kind id (d + n) ≡ false) × (nth_parent rows kind id (suc (d + n)) ≡ None)
  ended n zero end not_yet = rw zero-add (not_yet, end)
  ended n (suc d) end not_yet =
      let before = ended n d end not_yet in
      rw suc-add (or_from _ _ before.0 (ap (is_id id) before.1), ap (option_and_then (parent_of rows kind)) before.1)

  module _ (n turns : ℕ) (current : List ℕ) (at : nth_parent rows kind id n ≡ Some current) (not_yet : returns_within rows kind id n ≡ false) where
    pub returns_at_end : n ≤ turns → parent_of rows kind current ≡ None → returns_within rows kind id turns ≡ false
    returns_at_end le end =
        let e : (turns - n) + n ≡ turns = omega arith in
        rw e at (ended n (turns - n) (ap (option_and_then (parent_of rows kind)) at ∙ end) not_yet).0

    pub returns_here : n < turns → parent_of rows kind current ≡ Some id → returns_within rows kind id turns ≡ true
    returns_here lt back =
        let e : (turns - suc n) + suc n ≡ turns = omega arith in
        let here : is_id id (nth_parent rows kind id (suc n)) ≡ true = ap (is_id id) (ap (option_and_then (parent_of rows kind)) at ∙ back) ∙ (bytes_eq-Decides id id).1 refl in
        rw e at (came_back (suc n) (turns - suc n) (or_right _ _ here))

    pub not_yet_more : (parent : List ℕ) → parent_of rows kind current ≡ Some parent → (parent ≡ id → ⊥) → returns_within rows kind id (n + 1) ≡ false
    not_yet_more parent goes other = rw add-one (or_from _ _ not_yet (ap (is_id id) (ap (option_and_then (parent_of rows kind)) at ∙ goes) ∙ false_from_ne_true _ (λ e. other ((bytes_eq-Decides parent id).0 e))))

-- the test for a cycle finds exactly the cycles
pub in_cycle_from_test : (rows : List Record) (kind : Kind) (id : List ℕ) (turns : ℕ) → returns_within rows kind id turns ≡ true → (n : ℕ) × (0 < n) × (n ≤ turns) × (nth_parent rows kind id n ≡ Some id)
in_cycle_from_test rows kind id zero e = cc
in_cycle_from_test rows kind id (suc turns) e = elim (or_cases _ _ e) [
  | inl before ↦
      let found = in_cycle_from_test rows kind id turns before in
      (found.0, found.1, omega arith, found.3)
  | inr here ↦ (suc turns, omega arith, omega arith, named _ here)
]
  where
    named : (o : Option (List ℕ)) → is_id id o ≡ true → o ≡ Some id
    named None e = cc
    named (Some other) e = ap (λ x. Some x) ((bytes_eq-Decides other id).0 e)

pub test_from_in_cycle : (rows : List Record) (kind : Kind) (id : List ℕ) (turns n : ℕ) → 0 < n → n ≤ turns → nth_parent rows kind id n ≡ Some id → returns_within rows kind id turns ≡ true
test_from_in_cycle rows kind id turns zero some le e = absurd (omega arith)
test_from_in_cycle rows kind id turns (suc n) some le e =
    let sum : (turns - suc n) + suc n ≡ turns = omega arith in
    rw sum at (came_back rows kind id (suc n) (turns - suc n) (or_right _ _ (ap (is_id id) e ∙ (bytes_eq-Decides id id).1 refl)))
