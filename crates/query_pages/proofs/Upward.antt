-- Chains of orgs upwards.
use Rattle.std.proofs.Common.{◌≡◌, ℕ, zero, suc, ◌+◌, ◌<◌, ◌≤◌, ◌-◌, List, true, false, Some, None, bytes_eq}
use Rattle.std.proofs.Common.{option_and_then, ap, ◌∙◌, arith, add-one, zero-add, suc-add}
use Rattle.std.proofs.lemmas.Bool.{or_left, or_right, or_from}
use Rattle.hub_spec.specs.views.Seen.{leads_up}
use Rattle.reference_rules.specs.Parents.{is_id, nth_parent, parent_of}
use Rattle.roster_types.specs.Records.{Record}
use Rattle.roster_values.specs.declared.kind.Kind.TheVariants.{Orgs}

module _ (rows : List Record) (id school : List ℕ) where
  -- one turn further
  pub follows_more : (n : ℕ) (current : List ℕ) → nth_parent rows Orgs school n ≡ Some current → nth_parent rows Orgs school (n + 1) ≡ parent_of rows Orgs current
  follows_more n current at = rw (add-one, at)

  -- what was reached stays so
  pub reached : (n d : ℕ) → leads_up rows id n school ≡ true → leads_up rows id (d + n) school ≡ true
  reached n zero up = rw zero-add up
  reached n (suc d) up = rw suc-add (or_left _ _ (reached n d up))

  -- a chain that ended reaches no more
  ended : (n d : ℕ) → nth_parent rows Orgs school (suc n) ≡ None → leads_up rows id n school ≡ false → (leads_up rows id (d + n) school ≡ false) × (nth_parent rows Orgs school (suc (d + n)) ≡ None)
  ended n zero end not_yet = rw zero-add (not_yet, end)
  ended n (suc d) end not_yet =
      let before = ended n d end not_yet in
      rw suc-add (or_from _ _ before.0 (ap (is_id id) before.1), ap (option_and_then (parent_of rows Orgs)) before.1)

  pub up_at_once : (turns : ℕ) → bytes_eq school id ≡ true → leads_up rows id turns school ≡ true
  up_at_once turns same =
      let e : turns + 0 ≡ turns = omega arith in
      rw e at (reached 0 turns same)

  module _ (n turns : ℕ) (current : List ℕ) (at : nth_parent rows Orgs school n ≡ Some current) (not_yet : leads_up rows id n school ≡ false) where
    pub up_at_end : n ≤ turns → parent_of rows Orgs current ≡ None → leads_up rows id turns school ≡ false
    up_at_end le end =
        let e : (turns - n) + n ≡ turns = omega arith in
        rw e at (ended n (turns - n) (ap (option_and_then (parent_of rows Orgs)) at ∙ end) not_yet).0

    pub up_here : (parent : List ℕ) → n < turns → parent_of rows Orgs current ≡ Some parent → bytes_eq parent id ≡ true → leads_up rows id turns school ≡ true
    up_here parent lt goes same =
        let e : (turns - suc n) + suc n ≡ turns = omega arith in
        let here : is_id id (nth_parent rows Orgs school (suc n)) ≡ true = ap (is_id id) (ap (option_and_then (parent_of rows Orgs)) at ∙ goes) ∙ same in
        rw e at (reached (suc n) (turns - suc n) (or_right _ _ here))

    pub not_yet_more : (parent : List ℕ) → parent_of rows Orgs current ≡ Some parent → bytes_eq parent id ≡ false → leads_up rows id (n + 1) school ≡ false
    not_yet_more parent goes other = rw add-one (or_from _ _ not_yet (ap (is_id id) (ap (option_and_then (parent_of rows Orgs)) at ∙ goes) ∙ other))
