-- The ids to which a chain of orgs leads up are added to a set of ids.
use Rattle.std.proofs.Common.{◌≡◌, ℕ, zero, suc, ◌+◌, ◌-◌, ◌<◌, ◌≤◌, ◌⊎◌, Bool, true, false, not, cond, ◌||◌, List}
use Rattle.std.proofs.Common.{Option, Some, None, HashSet, bytes_eq, nat_eq, option_and_then, refl, sym, ap, subst, ◌∙◌}
use Rattle.std.proofs.Common.{arith, add-one, inl, inr}
use Rattle.std.proofs.lemmas.Bool.{cases_lt, not-false, not-true, or_cases, or_left, or_right}
use Rattle.std.proofs.lemmas.Slice.Eq.{bytes_eq-Decides}
use Rattle.std.specs.Cmp.Lexicographic.{pointwise}
use Rattle.std.specs.HashSet as bag
use Rattle.hub_spec.specs.views.Seen.{leads_up}
use Rattle.reference_rules.proofs.Pigeonhole.{few_apart}
use Rattle.reference_rules.specs.Parents.{is_id, nth_parent, parent_of}
use Rattle.roster_types.specs.Keys.{count_of}
use Rattle.roster_types.specs.Records.{Record}
use Rattle.roster_values.specs.declared.kind.Kind.TheVariants.{Orgs}
use Rattle.query_pages.proofs.Upward.{reached}
use Rattle.query_pages.specs.Ancestors.{IsClosed, has_id}
use denote.Ref.{Bor}

both_ways : (a b : Bool) → (a ≡ true → b ≡ true) → (b ≡ true → a ≡ true) → a ≡ b
both_ways true b to from = sym (to refl)
both_ways false true to from = from refl
both_ways false false to from = refl

either_true : (b : Bool) → cond b true true ≡ true
either_true true = refl
either_true false = refl

or_weaker : (a b c : Bool) → (b ≡ true → c ≡ true) → (a || b) ≡ true → (a || c) ≡ true
or_weaker true b c so e = refl
or_weaker false b c so e = so e

-- how a set changes by an insertion
pub put_of : {S : Type 0} (ids new : HashSet (Bor (List ℕ)) S) (key : Bor (List ℕ)) (current : List ℕ) → key.now ≡ current → bag.Updates (λ x y. pointwise nat_eq x.now y.now) ids new key true → (q : List ℕ) → has_id new q ≡ cond (bytes_eq current q) true (has_id ids q)
put_of ids new key current same updates q = updates.0 (record { ref_ptr = (0, 0); now = q }) ∙ ap (λ (t : List ℕ). cond (bytes_eq t q) true (has_id ids q)) same

-- an id that wasn't added was in before, and one that was added wasn't
pub was_in : {S : Type 0} (ids : HashSet (Bor (List ℕ)) S) (key current : List ℕ) (added : Bool) → key ≡ current → added ≡ not (has_id ids key) → added ≡ false → has_id ids current ≡ true
was_in ids key current added same told old = ap (has_id ids) (sym same) ∙ not-false _ (sym told ∙ old)

pub was_out : {S : Type 0} (ids : HashSet (Bor (List ℕ)) S) (key current : List ℕ) (added : Bool) → key ≡ current → added ≡ not (has_id ids key) → added ≡ true → has_id ids current ≡ false
was_out ids key current added same told new = ap (has_id ids) (sym same) ∙ not-true _ (sym told ∙ new)

-- the n-th parent is led up to within n turns
led_up : (rows : List Record) (school id : List ℕ) (n : ℕ) → nth_parent rows Orgs school n ≡ Some id → leads_up rows id n school ≡ true
led_up rows school id zero at = let same : school ≡ id = cc in (bytes_eq-Decides school id).1 same
led_up rows school id (suc n) at = or_right _ _ (ap (is_id id) at ∙ (bytes_eq-Decides id id).1 refl)

-- what a closed set has, has above it what the set has
module _ {S : Type 0} (rows : List Record) (school : List ℕ) (ids : HashSet (Bor (List ℕ)) S) (closed : IsClosed rows ids) (first : has_id ids school ≡ true) where
  above : (n : ℕ) (id : List ℕ) → nth_parent rows Orgs school n ≡ Some id → has_id ids id ≡ true
  above zero id at = let same : school ≡ id = cc in subst (λ (x : List ℕ). has_id ids x ≡ true) same first
  above (suc n) id at =
      elim (nth_parent rows Orgs school n) as (λ o. nth_parent rows Orgs school n ≡ o → option_and_then (parent_of rows Orgs) o ≡ Some id → has_id ids id ≡ true) [
        | None ↦ λ _ no. cc
        | Some below ↦ λ here next. closed below id (above n below here) next
      ] refl at

  named : (id : List ℕ) (o : Option (List ℕ)) → is_id id o ≡ true → o ≡ Some id
  named id None e = cc
  named id (Some other) e = ap (λ (x : List ℕ). Some x) ((bytes_eq-Decides other id).0 e)

  all_above : (n : ℕ) (id : List ℕ) → leads_up rows id n school ≡ true → has_id ids id ≡ true
  all_above zero id e = above zero id (ap (λ (x : List ℕ). Some x) ((bytes_eq-Decides school id).0 e))
  all_above (suc n) id e = elim (or_cases _ _ e) [
    | inl before ↦ all_above n id before
    | inr here ↦ above (suc n) id (named id (nth_parent rows Orgs school (suc n)) here)
  ]

-- the chain of a school has come so far, no id twice, and its ids before this one are added
pub record Adding {S : Type 0} (rows : List Record) (school : List ℕ) (old ids : HashSet (Bor (List ℕ)) S) (turn : ℕ) (current : List ℕ) : Type 0 where
  pub follows : nth_parent rows Orgs school turn ≡ Some current
  pub stays : (id : List ℕ) → has_id old id ≡ true → has_id ids id ≡ true
  pub within : (id : List ℕ) → has_id ids id ≡ true → (has_id old id || leads_up rows id turn school) ≡ true
  pub closed : (id parent : List ℕ) → has_id ids id ≡ true → parent_of rows Orgs id ≡ Some parent → (has_id ids parent ≡ true) ⊎ (parent ≡ current)
  pub passed : (n : ℕ) (id : List ℕ) → n < turn → nth_parent rows Orgs school n ≡ Some id → has_id ids id ≡ true
  pub apart : (i j : ℕ) (id : List ℕ) → i < j → j < turn → nth_parent rows Orgs school i ≡ Some id → nth_parent rows Orgs school j ≡ Some id → ⊥

pub adding_start : {S : Type 0} (rows : List Record) (school : List ℕ) (old : HashSet (Bor (List ℕ)) S) → IsClosed rows old → Adding rows school old old 0 school
adding_start rows school old closed = record {
  follows = refl;
  stays = λ id e. e;
  within = λ id e. or_left _ _ e;
  closed = λ id parent e goes. inl (closed id parent e goes);
  passed = λ n id lt at. absurd (omega (arith, lt));
  apart = λ i j id lt lt' at at'. absurd (omega (arith, lt'));
}

-- one id more is put in where the chain has come
pub record Putting {S : Type 0} (rows : List Record) (school : List ℕ) (old ids new : HashSet (Bor (List ℕ)) S) (turn : ℕ) (current : List ℕ) : Type 0 where
  pub put : (q : List ℕ) → has_id new q ≡ cond (bytes_eq current q) true (has_id ids q)
  pub adding : Adding rows school old ids turn current

module _ {S : Type 0} {rows : List Record} {school : List ℕ} {old ids new : HashSet (Bor (List ℕ)) S} {turn : ℕ} {current : List ℕ}
    (here : Putting rows school old ids new turn current) where
  put_here : has_id new current ≡ true
  put_here = here.put current ∙ ap (λ b. cond b true (has_id ids current)) ((bytes_eq-Decides current current).1 refl)

  put_stays : (q : List ℕ) → has_id ids q ≡ true → has_id new q ≡ true
  put_stays q e = here.put q ∙ ap (cond (bytes_eq current q) true) e ∙ either_true (bytes_eq current q)

  put_from : (q : List ℕ) → has_id new q ≡ true → (has_id ids q ≡ true) ⊎ (current ≡ q)
  put_from q e =
      elim (bytes_eq current q) as (λ b. bytes_eq current q ≡ b → cond b true (has_id ids q) ≡ true → (has_id ids q ≡ true) ⊎ (current ≡ q)) [
        | true ↦ λ same _. inr ((bytes_eq-Decides current q).0 same)
        | false ↦ λ _ there. inl there
      ] refl (sym (here.put q) ∙ e)

  led_here : (id : List ℕ) → current ≡ id → leads_up rows id turn school ≡ true
  led_here id same = led_up rows school id turn (here.adding.follows ∙ ap (λ (x : List ℕ). Some x) same)

  put_within : (id : List ℕ) → has_id new id ≡ true → (has_id old id || leads_up rows id turn school) ≡ true
  put_within id e = elim (put_from id e) [
    | inl there ↦ here.adding.within id there
    | inr same ↦ or_right _ _ (led_here id same)
  ]

  -- the parent of an id that was in before
  known_parent : (id parent : List ℕ) → has_id ids id ≡ true → parent_of rows Orgs id ≡ Some parent → has_id new parent ≡ true
  known_parent id parent e goes = elim (here.adding.closed id parent e goes) [
    | inl there ↦ put_stays parent there
    | inr here ↦ subst (λ (x : List ℕ). has_id new x ≡ true) (sym here) put_here
  ]

  closed_by : ((parent : List ℕ) → parent_of rows Orgs current ≡ Some parent → has_id new parent ≡ true) → IsClosed rows new
  closed_by last id parent e goes = elim (put_from id e) [
    | inl there ↦ known_parent id parent there goes
    | inr same ↦ last parent (ap (parent_of rows Orgs) same ∙ goes)
  ]

  -- the id was in before
  pub closed_known : has_id ids current ≡ true → IsClosed rows new
  closed_known known = closed_by (λ parent goes. known_parent current parent known goes)

  -- it has no parent
  pub closed_end : None ≡ parent_of rows Orgs current → IsClosed rows new
  closed_end none = closed_by (λ parent goes. cc)

  here_at : (n : ℕ) (id : List ℕ) → turn ≤ n → n < turn + 1 → nth_parent rows Orgs school n ≡ Some id → current ≡ id
  here_at n id le lt at =
      let e : turn ≡ n = omega (arith, le, lt) in
      let same : Some current ≡ Some id = sym here.adding.follows ∙ ap (nth_parent rows Orgs school) e ∙ at in
      cc

  apart_more : has_id ids current ≡ false → (i j : ℕ) (id : List ℕ) → i < j → j < turn + 1 → nth_parent rows Orgs school i ≡ Some id → nth_parent rows Orgs school j ≡ Some id → ⊥
  apart_more fresh i j id lt lt' at at' = elim (cases_lt j turn) [
    | inl before ↦ here.adding.apart i j id lt before at at'
    | inr le ↦
        let same = here_at j id le lt' at' in
        let known = here.adding.passed i id (omega (arith, lt, lt')) at in
        let again : has_id ids current ≡ true = subst (λ (x : List ℕ). has_id ids x ≡ true) (sym same) known in
        cc
  ]

  -- the chain has taken as many turns as there are orgs
  pub closed_turns : turn ≡ count_of Orgs rows → IsClosed rows new
  closed_turns all = closed_by (λ parent goes. elim (has_id ids current) as (λ b. has_id ids current ≡ b → has_id new parent ≡ true) [
    | true ↦ λ known. known_parent current parent known goes
    | false ↦ λ fresh.
        let next : nth_parent rows Orgs school (suc turn) ≡ Some parent = ap (option_and_then (parent_of rows Orgs)) here.adding.follows ∙ goes in
        let few = few_apart rows Orgs school (suc turn) parent next (λ i j id lt lt' at at'. apart_more fresh i j id lt (omega (arith, lt')) at at') in
        absurd (omega (arith, few, all))
  ] refl)

  first_in : has_id new school ≡ true
  first_in = elim (cases_lt 0 turn) [
    | inl some ↦ put_stays school (here.adding.passed 0 school some refl)
    | inr le ↦
        let same = here_at 0 school (omega (arith, le)) (omega arith) refl in
        subst (λ (x : List ℕ). has_id new x ≡ true) same put_here
  ]

  -- what is in then
  pub added_all : (turns : ℕ) → turn ≤ turns → IsClosed rows new → (id : List ℕ) → has_id new id ≡ (has_id old id || leads_up rows id turns school)
  added_all turns le closed id =
      let sum : (turns - turn) + turn ≡ turns = omega (arith, le) in
      both_ways _ _ (λ e. or_weaker (has_id old id) (leads_up rows id turn school) (leads_up rows id turns school) (λ up. rw sum at (reached rows id school turn (turns - turn) up)) (put_within id e)) (λ e. elim (or_cases _ _ e) [
        | inl was ↦ put_stays id (here.adding.stays id was)
        | inr up ↦ all_above rows school new closed first_in turns id up
      ])

  -- one turn more
  pub adding_more : has_id ids current ≡ false → (next : List ℕ) → Some next ≡ parent_of rows Orgs current → Adding rows school old new (turn + 1) next
  adding_more fresh next goes = record {
    follows = rw add-one (ap (option_and_then (parent_of rows Orgs)) here.adding.follows ∙ sym goes);
    stays = λ id e. put_stays id (here.adding.stays id e);
    within = λ id e. rw add-one (or_weaker (has_id old id) (leads_up rows id turn school) (leads_up rows id (suc turn) school) (λ up. or_left _ _ up) (put_within id e));
    closed = λ id parent e leads. elim (put_from id e) [
      | inl there ↦ inl (known_parent id parent there leads)
      | inr same ↦ (let again : parent_of rows Orgs current ≡ Some parent = ap (parent_of rows Orgs) same ∙ leads in inr (let one : parent ≡ next = cc in one))
    ];
    passed = λ n id lt at. elim (cases_lt n turn) [
      | inl before ↦ put_stays id (here.adding.passed n id before at)
      | inr le ↦ subst (λ (x : List ℕ). has_id new x ≡ true) (here_at n id le lt at) put_here
    ];
    apart = apart_more fresh;
  }
