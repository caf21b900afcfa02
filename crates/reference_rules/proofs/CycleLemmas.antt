-- Cycles of parents, and what is known of them.
use Rattle.std.proofs.Common.{◌≡◌, ℕ, zero, suc, ◌+◌, ◌-◌, ◌<◌, ◌≤◌, ◌⊎◌, Bool, true, false, cond, List, [], ◌∷◌}
use Rattle.std.proofs.Common.{length, Option, Some, None, bytes_eq, option_and_then, refl, sym, ap, subst, ◌∙◌, arith}
use Rattle.std.proofs.Common.{add_comm, zero-add, suc-add, inl, inr}
use Rattle.std.specs.Prelude.{IsSome}
use Rattle.std.specs.HashMap.{HashMap, hash_map_len}
use Rattle.std.specs.Map.{lookup}
use Rattle.std.proofs.lemmas.Bool.{cases_lt, false_from_ne_true}
use Rattle.std.proofs.lemmas.Slice.Eq.{bytes_eq-Decides}
use Rattle.roster_types.specs.Keys.{count_of}
use Rattle.roster_types.specs.Records.{Record}
use Rattle.roster_values.specs.declared.kind.Kind.{Kind}
use Rattle.reference_rules.specs.Notes.{AreNotes, EndsWell, note_of}
use Rattle.reference_rules.specs.Parents.{is_in_cycle, nth_parent, parent_of}
use Rattle.reference_rules.proofs.ParentChains.{in_cycle_from_test, test_from_in_cycle}
use denote.Ref.{Bor}

-- so many laps of a cycle
laps : ℕ → ℕ → ℕ
laps q zero = 0
laps q (suc m) = laps q m + q

le_laps : (q m : ℕ) → 0 < q → m ≤ laps q m
unfolding laps
le_laps q zero some = omega arith
le_laps q (suc m) some = let before = le_laps q m some in omega (arith, before)

module _ (rows : List Record) (kind : Kind) where
  -- the n-th parent of an m-th parent
  pub nth-add : (id : List ℕ) (m n : ℕ) → nth_parent rows kind id (n + m) ≡ option_and_then (λ y. nth_parent rows kind y n) (nth_parent rows kind id m)
  nth-add id m zero = rw zero-add (sym (same (nth_parent rows kind id m)))
    where
      same : (o : Option (List ℕ)) → option_and_then (λ y. nth_parent rows kind y 0) o ≡ o
      same None = refl
      same (Some y) = refl
  nth-add id m (suc n) = rw suc-add (ap (option_and_then (parent_of rows kind)) (nth-add id m n) ∙ turned (nth_parent rows kind id m))
    where
      turned : (o : Option (List ℕ)) → option_and_then (parent_of rows kind) (option_and_then (λ y. nth_parent rows kind y n) o) ≡ option_and_then (λ y. nth_parent rows kind y (suc n)) o
      turned None = refl
      turned (Some y) = refl

  pub nth_from : (id y : List ℕ) (m n : ℕ) → nth_parent rows kind id m ≡ Some y → nth_parent rows kind id (n + m) ≡ nth_parent rows kind y n
  nth_from id y m n at = nth-add id m n ∙ ap (option_and_then (λ y. nth_parent rows kind y n)) at

  laps_back : (id : List ℕ) (q m : ℕ) → nth_parent rows kind id q ≡ Some id → nth_parent rows kind id (laps q m) ≡ Some id
  unfolding laps
  laps_back id q zero back = refl
  laps_back id q (suc m) back = nth_from id id q (laps q m) back ∙ laps_back id q m back

  -- from an id that the chain of an id in a cycle comes to the chain leads back
  leads_back : (id y : List ℕ) (q m : ℕ) → 0 < q → nth_parent rows kind id q ≡ Some id → nth_parent rows kind id m ≡ Some y → nth_parent rows kind y (laps q m - m) ≡ Some id
  leads_back id y q m some back at =
      let le = le_laps q m some in
      let sum : (laps q m - m) + m ≡ laps q m = omega (arith, le) in
      sym (nth_from id y m (laps q m - m) at) ∙ ap (nth_parent rows kind id) sum ∙ laps_back id q m back

  -- and it is in the cycle too
  pub in_cycle_on : (id y : List ℕ) (m : ℕ) → nth_parent rows kind id m ≡ Some y → is_in_cycle rows kind id ≡ true → is_in_cycle rows kind y ≡ true
  in_cycle_on id y m at is =
      let lap = in_cycle_from_test rows kind id (count_of kind rows) is in
      test_from_in_cycle rows kind y (count_of kind rows) lap.0 lap.1 lap.2 (sym (nth_from id y m lap.0 at) ∙ ap (nth_parent rows kind id) (add_comm lap.0 m) ∙ nth_from id id lap.0 m lap.3 ∙ at)

  -- what has no parent is in no cycle
  pub not_without_parent : (id : List ℕ) → parent_of rows kind id ≡ None → is_in_cycle rows kind id ≡ false
  not_without_parent id none = false_from_ne_true _ (λ is.
      let lap = in_cycle_from_test rows kind id (count_of kind rows) is in
      ended lap.0 lap.1 lap.3)
    where
      never : (n : ℕ) → nth_parent rows kind id (suc n) ≡ None
      never zero = none
      never (suc n) = ap (option_and_then (parent_of rows kind)) (never n)

      ended : (q : ℕ) → 0 < q → nth_parent rows kind id q ≡ Some id → ⊥
      ended zero some back = absurd (omega arith)
      ended (suc q) some back = let no = never q in cc

  module _ {S : Type 0} (notes : HashMap (Bor (List ℕ)) Bool S) (are : AreNotes rows kind notes) where
    -- the ids of a chain from one that is known to be in a cycle are known to be
    all_known : (y z : List ℕ) (n : ℕ) → note_of notes y ≡ Some true → nth_parent rows kind y n ≡ Some z → note_of notes z ≡ Some true
    all_known y z zero known at = let same : y ≡ z = cc in subst (λ x. note_of notes x ≡ Some true) same known
    all_known y z (suc n) known at =
        elim (nth_parent rows kind y n) as (λ o. nth_parent rows kind y n ≡ o → option_and_then (parent_of rows kind) o ≡ Some z → note_of notes z ≡ Some true) [
          | None ↦ λ _ no. cc
          | Some w ↦ λ here next. are.closed w z (all_known y w n known here) next
        ] refl at

    -- an id that isn't known, whose chain ends or comes to one that is known, is in no cycle
    pub not_in_cycle : (id : List ℕ) (m : ℕ) (o : Option (List ℕ)) → note_of notes id ≡ None → nth_parent rows kind id m ≡ o → EndsWell notes o → is_in_cycle rows kind id ≡ false
    not_in_cycle id m None unknown at well = false_from_ne_true _ (λ is.
        let lap = in_cycle_from_test rows kind id (count_of kind rows) is in
        let far = le_laps lap.0 m lap.1 in
        let sum : (laps lap.0 m - m) + m ≡ laps lap.0 m = omega (arith, far) in
        let gone : nth_parent rows kind id (laps lap.0 m) ≡ None = ap (nth_parent rows kind id) (sym sum) ∙ nth-add id m (laps lap.0 m - m) ∙ ap (option_and_then (λ y. nth_parent rows kind y (laps lap.0 m - m))) at in
        let here = laps_back id lap.0 m lap.3 in
        cc)
    not_in_cycle id m (Some y) unknown at well = false_from_ne_true _ (λ is.
        let lap = in_cycle_from_test rows kind id (count_of kind rows) is in
        let known = all_known y id (laps lap.0 m - m) (marked (note_of notes y) refl well (in_cycle_on id y m at is)) (leads_back id y lap.0 m lap.1 lap.3 at) in
        cc)
      where
        marked : (o : Option Bool) → note_of notes y ≡ o → IsSome o → is_in_cycle rows kind y ≡ true → note_of notes y ≡ Some true
        marked None e some is = let never : false ≡ true = some in cc
        marked (Some known) e some is = e ∙ ap (λ b. Some b) (are.right y known e ∙ is)

    -- an id that isn't known, whose parent is, is in no cycle
    pub not_below : (id parent : List ℕ) → parent_of rows kind id ≡ Some parent → IsSome (note_of notes parent) → note_of notes id ≡ None → is_in_cycle rows kind id ≡ false
    not_below id parent goes some unknown = not_in_cycle id 1 (Some parent) unknown goes some

-- one id more is noted
module _ {S : Type 0} (rows : List Record) (kind : Kind) (notes notes' : HashMap (Bor (List ℕ)) Bool S) (id : List ℕ) (known : Bool) (put : (q : List ℕ) → note_of notes' q ≡ cond (bytes_eq id q) (Some known) (note_of notes q)) where
  pub put_here : note_of notes' id ≡ Some known
  put_here = put id ∙ ap (λ b. cond b (Some known) (note_of notes id)) ((bytes_eq-Decides id id).1 refl)

  pub put_right : is_in_cycle rows kind id ≡ known → ((q : List ℕ) (k : Bool) → note_of notes q ≡ Some k → k ≡ is_in_cycle rows kind q) → (q : List ℕ) (k : Bool) → note_of notes' q ≡ Some k → k ≡ is_in_cycle rows kind q
  put_right is right q k at =
      elim (bytes_eq id q) as (λ b. bytes_eq id q ≡ b → cond b (Some known) (note_of notes q) ≡ Some k → k ≡ is_in_cycle rows kind q) [
        | true ↦ λ tested here.
            let same : id ≡ q = (bytes_eq-Decides id q).0 tested in
            let value : known ≡ k = cc in
            sym value ∙ sym is ∙ ap (is_in_cycle rows kind) same
        | false ↦ λ _ there. right q k there
      ] refl (sym (put q) ∙ at)

-- the ids of a cycle are noted up to this one
pub record AreNotesTo {S : Type 0} (rows : List Record) (kind : Kind) (notes : HashMap (Bor (List ℕ)) Bool S) (current : List ℕ) : Type 0 where
  pub right : (id : List ℕ) (known : Bool) → note_of notes id ≡ Some known → known ≡ is_in_cycle rows kind id
  pub closed : (id parent : List ℕ) → note_of notes id ≡ Some true → parent_of rows kind id ≡ Some parent → (note_of notes parent ≡ Some true) ⊎ (parent ≡ current)

-- one id of a cycle more
module _ {S : Type 0} (rows : List Record) (kind : Kind) (notes notes' : HashMap (Bor (List ℕ)) Bool S) (current : List ℕ) (put : (q : List ℕ) → note_of notes' q ≡ cond (bytes_eq current q) (Some true) (note_of notes q)) (is : is_in_cycle rows kind current ≡ true) (are : AreNotesTo rows kind notes current) where
  pub put_stays : (q : List ℕ) → note_of notes q ≡ Some true → note_of notes' q ≡ Some true
  put_stays q at = put q ∙ ap (cond (bytes_eq current q) (Some true)) at ∙ either (bytes_eq current q)
    where
      either : (b : Bool) → cond b (Some true) (Some true) ≡ Some true
      either true = refl
      either false = refl

  -- the parent of an id that is noted is noted, or it is the parent of this one
  parents : (q parent : List ℕ) → note_of notes' q ≡ Some true → parent_of rows kind q ≡ Some parent → (note_of notes' parent ≡ Some true) ⊎ (parent_of rows kind current ≡ Some parent)
  parents q parent at goes =
      elim (bytes_eq current q) as (λ b. bytes_eq current q ≡ b → cond b (Some true) (note_of notes q) ≡ Some true → (note_of notes' parent ≡ Some true) ⊎ (parent_of rows kind current ≡ Some parent)) [
        | true ↦ λ tested _. let same : current ≡ q = (bytes_eq-Decides current q).0 tested in inr (ap (parent_of rows kind) same ∙ goes)
        | false ↦ λ _ there. elim (are.closed q parent there goes) [
          | inl known ↦ inl (put_stays parent known)
          | inr here ↦ inl (subst (λ x. note_of notes' x ≡ Some true) (sym here) (put_here rows kind notes notes' current true put))
        ]
      ] refl (sym (put q) ∙ at)

  -- what is noted is right
  right : (q : List ℕ) (k : Bool) → note_of notes' q ≡ Some k → k ≡ is_in_cycle rows kind q
  right = put_right rows kind notes notes' current true put is are.right

  pub put_next : (next : List ℕ) → parent_of rows kind current ≡ Some next → AreNotesTo rows kind notes' next
  put_next next goes = record {
    right = right;
    closed = λ q parent at leads. elim (parents q parent at leads) [
      | inl known ↦ inl known
      | inr here ↦ inr (let same : parent ≡ next = cc in same)
    ];
  }

  pub put_end : parent_of rows kind current ≡ None → AreNotes rows kind notes'
  put_end none = record {
    right = right;
    closed = λ q parent at leads. elim (parents q parent at leads) [
      | inl known ↦ known
      | inr here ↦ cc
    ];
  }

  pub put_back : (first : List ℕ) → parent_of rows kind current ≡ Some first → note_of notes' first ≡ Some true → AreNotes rows kind notes'
  put_back first goes noted = record {
    right = right;
    closed = λ q parent at leads. elim (parents q parent at leads) [
      | inl known ↦ known
      | inr here ↦ (let same : first ≡ parent = cc in subst (λ x. note_of notes' x ≡ Some true) same noted)
    ];
  }

pub to_start : {S : Type 0} (rows : List Record) (kind : Kind) (notes : HashMap (Bor (List ℕ)) Bool S) (id : List ℕ) → AreNotes rows kind notes → AreNotesTo rows kind notes id
to_start rows kind notes id are = record { right = are.right; closed = λ q parent at goes. inl (are.closed q parent at goes) }

module _ {S : Type 0} (rows : List Record) (kind : Kind) (notes notes' : HashMap (Bor (List ℕ)) Bool S) (id current key : List ℕ) (same : key ≡ current) where
  module _ (turn : ℕ) (follows : nth_parent rows kind id turn ≡ Some current) (put : (q : List ℕ) → note_of notes' q ≡ cond (bytes_eq key q) (Some true) (note_of notes q)) where
    pub cycle_put : (q : List ℕ) → note_of notes' q ≡ cond (bytes_eq current q) (Some true) (note_of notes q)
    cycle_put = subst (λ (x : List ℕ). (q : List ℕ) → note_of notes' q ≡ cond (bytes_eq x q) (Some true) (note_of notes q)) same put

    -- the first id of the cycle is noted
    pub cycle_first : (is_in_cycle rows kind current ≡ true) → AreNotesTo rows kind notes current → (0 < turn → note_of notes id ≡ Some true) → note_of notes' id ≡ Some true
    cycle_first is are before = elim (cases_lt 0 turn) [
      | inl some ↦ put_stays rows kind notes notes' current cycle_put is are id (before some)
      | inr le ↦
          let start : 0 ≡ turn = omega (arith, le) in
          let first : Some id ≡ Some current = ap (nth_parent rows kind id) start ∙ follows in
          let here : id ≡ current = cc in
          subst (λ (x : List ℕ). note_of notes' x ≡ Some true) (sym here) (put_here rows kind notes notes' current true cycle_put)
    ]

none_in : (test : Bor (List ℕ) → Bool) (es : List (Bor (List ℕ) × Bool)) → length es ≡ 0 → lookup test es ≡ None
none_in test [] none = refl
none_in test (e ∷ es) none = absurd (omega arith)

-- nothing is known at first
pub no_notes : {S : Type 0} (rows : List Record) (kind : Kind) (notes : HashMap (Bor (List ℕ)) Bool S) → hash_map_len notes ≡ 0 → AreNotes rows kind notes
no_notes rows kind notes none = record {
  right = λ id known at. let e = nothing id in cc;
  closed = λ id parent at goes. let e = nothing id in cc;
}
  where
    nothing : (id : List ℕ) → note_of notes id ≡ None
    nothing id = none_in (λ k. bytes_eq id k.now) notes.entries none
