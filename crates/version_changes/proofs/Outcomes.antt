-- What becomes of each row, what a set makes of a version, and that both are one thing.
use Rattle.std.proofs.Common.{◌≡◌, ℕ, ℤ, ◌+◌, ◌≤◌, List, [], ◌∷◌, inl, inr, Bool, true, false, cond, Option, Some, None}
use Rattle.std.proofs.Common.{refl, sym, ap, subst, ◌∙◌, arith}
use Rattle.std.specs.Prelude.{nat_lt}
use Rattle.std.specs.List.{AllByRecursion}
use Rattle.std.specs.Option.{option_and_then, option_or}
use Rattle.std.specs.Ordering.{is_eq}
use Rattle.std.proofs.lemmas.Bool.Decides.{nat_tests}
use Rattle.reference_rules.proofs.KeyOrder.{and_second, key_total}
use Rattle.roster_types.specs.Keys.{Key, count_of, look_up}
use Rattle.roster_types.specs.Records.{Record, SameButDate}
use Rattle.roster_types.specs.Sets.{SetRecord}
use Rattle.roster_types.specs.declared.set_row.SetRow.{SetRow}
use Rattle.roster_types.specs.declared.status.Status.TheVariants.{ToBeDeleted}
use Rattle.roster_values.proofs.KindLaws.{each_kind}
use Rattle.roster_values.specs.Kinds.{all_kinds}
use Rattle.roster_values.specs.declared.kind.Kind.{Kind}
use Rattle.version_changes.specs.sets.Applying.{AreNewRows, Applies, Becomes, IsDue, Leads, LeadsOn, Listed, Makes}
use Rattle.version_changes.specs.sets.Applying.{Outcome, Refuses, Unchanged, Undated, dated, is_active, is_left_out}
use Rattle.version_changes.specs.sets.Applying.{is_own, is_whole, marked, owned_by, refusal_of, rows_in, set_key}
use Rattle.version_changes.specs.sets.Applying.{too_many}
use Rattle.version_changes.specs.sets.Steps.{ChangesAt, Leaves, ListedChangeAt, mark_of, stored_as}
use Rattle.version_changes.specs.declared.sets.publish_fault.PublishFault.{PublishFault}
use Rattle.version_changes.specs.declared.sets.publish_fault.PublishFault.TheVariants.{LastVersion, TooManyRows}
use Rattle.std.proofs.lemmas.Cmp.{tied_itself}
use Rattle.version_core.proofs.GrantLemmas.{AreGrants-later}
use Rattle.version_core.proofs.OrderLemmas.{Ascends-overlaid, look_up-overlaid, same_from_look_up}
use Rattle.version_core.specs.Changes.{AreChanges, change_key, rows_of}
use Rattle.version_core.specs.Order.{overlaid}
use Rattle.version_core.specs.Version.{IsVersion, after, last_version, row_limit}
use Rattle.version_core.specs.declared.change.BaseVersion.{BaseVersion}
use Rattle.version_core.specs.declared.row_change.RowChange.{RowChange}

-- what a set changes of rows
abbrev pub ChangesOf : SetRecord → ℤ → List RowChange → List RowChange → Type 0
ChangesOf set at rows changes = (k : Key) → ChangesAt set at (look_up set_key k (rows_in set)) (look_up change_key k rows) (look_up change_key k changes)

-- a listed row that leaves what stands
left_as_listed : (feed : List ℕ) (at : ℤ) (b : Bool) (row : Record) (stored : RowChange) → Leaves feed b row stored → Listed feed at b row (Some stored) stored
left_as_listed feed at true row stored same = sym same
left_as_listed feed at false row stored same = inl (same, refl)

-- one that doesn't
new_as_listed : (feed : List ℕ) (at : ℤ) (b : Bool) (row : Record) (stored new : RowChange) → (Leaves feed b row stored → ⊥) → new ≡ owned_by feed (cond b row (dated at row)) → Listed feed at b row (Some stored) new × (Some stored ≡ Some new → ⊥)
new_as_listed feed at true row stored new differs is = (is, λ same. let e : stored ≡ new = cc in differs (sym is ∙ sym e))
new_as_listed feed at false row stored new differs is = (inr (differs, is), λ same. let e : stored ≡ new = cc in differs (redated (ap (λ (c : RowChange). c.row) (e ∙ is))))
  where
    redated : stored.row ≡ dated at row → SameButDate row stored.row
    redated e = subst (λ (s : Record). record row { modified = s.modified } ≡ s) (sym e) refl

first_as_listed : (feed : List ℕ) (at : ℤ) (b : Bool) (row : Record) (new : RowChange) → new ≡ owned_by feed (cond b row (dated at row)) → Listed feed at b row None new
first_as_listed feed at true row new is = is
first_as_listed feed at false row new is = is

module _ (at : ℤ) (version : BaseVersion) (refusal : Option PublishFault) (new : List RowChange) where
  refused : (fault : PublishFault) → refusal ≡ None → refusal ≡ Some fault → ⊥
  refused fault none some = cc

  -- what is made of a version is one thing
  pub one_made : (one other : Outcome) → Makes version at refusal new one → Makes version at refusal new other → one ≡ other
  one_made (Refuses f) (Refuses g) (inl is) (inl is') = let same : f ≡ g = cc in ap Refuses same
  one_made (Refuses f) (Refuses g) (inl is) (inr is') = absurd (refused f is'.0.passes is)
  one_made (Refuses f) (Refuses g) (inr is) (inl is') = absurd (refused g is.0.passes is')
  one_made (Refuses f) (Refuses g) (inr is) (inr is') = ap Refuses (is.2 ∙ sym is'.2)
  one_made (Refuses f) Unchanged (inl is) is' = absurd (refused f is'.0 is)
  one_made (Refuses f) Unchanged (inr is) is' = absurd (is.0.differ is'.1)
  one_made (Refuses f) (Leads next) (inl is) is' = absurd (refused f is'.0.passes is)
  one_made (Refuses f) (Leads next) (inr is) is' = let e = is.1 in let lt = is'.1 in absurd (omega arith)
  one_made Unchanged (Refuses f) is (inl is') = absurd (refused f is.0 is')
  one_made Unchanged (Refuses f) is (inr is') = absurd (is'.0.differ is.1)
  one_made Unchanged Unchanged is is' = refl
  one_made Unchanged (Leads next) is is' = absurd (is'.0.differ is.1)
  one_made (Leads next) (Refuses f) is (inl is') = absurd (refused f is.0.passes is')
  one_made (Leads next) (Refuses f) is (inr is') = let e = is'.1 in let lt = is.1 in absurd (omega arith)
  one_made (Leads next) Unchanged is is' = absurd (is.0.differ is'.1)
  one_made (Leads next) (Leads other) is is' = ap Leads (is.2 ∙ sym is'.2)

module _ (set : SetRecord) (at : ℤ) where
  active_differs : (stored : RowChange) → is_left_out set stored ≡ true → stored ≡ marked at stored → ⊥
  active_differs stored left same =
      let active : is_active stored.row.status ≡ true = and_second (is_own set.feed stored.owner) _ (and_second (is_whole set.parts stored.row.kind) _ left) in
      let gone : stored.row.status ≡ ToBeDeleted = ap (λ (c : RowChange). c.row.status) same in
      let never : is_active ToBeDeleted ≡ true = subst (λ s. is_active s ≡ true) gone active in
      cc

  unlisted_step : (stored : RowChange) → ChangesAt set at None (Some stored) (mark_of set at None stored)
  unlisted_step stored =
      elim (is_left_out set stored) as (λ b. is_left_out set stored ≡ b → ChangesAt set at None (Some stored) (cond b (Some (marked at stored)) None)) [
        | true ↦ λ left. (ap (λ b. Some (cond b (marked at stored) stored)) (sym left), λ same. active_differs stored left (let e : stored ≡ marked at stored = cc in e))
        | false ↦ λ stays. ap (λ b. Some (cond b (marked at stored) stored)) (sym stays)
      ] refl

  -- the changes of listed rows over the marks are the changes of a set
  pub step : (listed : Option SetRow) (stored change : Option RowChange) → ListedChangeAt set.feed at listed stored change → ChangesAt set at listed stored (option_or change (option_and_then (mark_of set at listed) stored))
  step None None None is = refl
  step None (Some stored) None is = unlisted_step stored
  step None stored (Some change) is = cc
  step (Some listed) None None is = cc
  step (Some listed) None (Some change) is = (first_as_listed set.feed at listed.dated listed.row change (let e : change ≡ stored_as set.feed at listed = cc in e), λ same. cc)
  step (Some listed) (Some stored) None is = left_as_listed set.feed at listed.dated listed.row stored is
  step (Some listed) (Some stored) (Some change) is = new_as_listed set.feed at listed.dated listed.row stored change is.0 is.1

  becomes_step : (listed : Option SetRow) (stored change : Option RowChange) → ChangesAt set at listed stored change → Becomes set at listed stored (option_or change stored)
  becomes_step listed stored None is = is
  becomes_step listed stored (Some change) is = is.0

  module _ (rows changes : List RowChange) (up : AreChanges rows) (each : ChangesOf set at rows changes) where
    pub are_new : AreNewRows set at rows (overlaid change_key rows changes)
    are_new = record {
      order = Ascends-overlaid change_key rows changes up;
      entries = λ k. subst (Becomes set at (look_up set_key k (rows_in set)) (look_up change_key k rows)) (sym (look_up-overlaid change_key k rows changes)) (becomes_step (look_up set_key k (rows_in set)) (look_up change_key k rows) (look_up change_key k changes) (each k));
    }

  differs_step : (listed : Option SetRow) (stored : Option RowChange) (change : RowChange) → ChangesAt set at listed stored (Some change) → stored ≡ Some change → ⊥
  differs_step listed stored change is = is.1

  -- rows that change differ
  pub differ : (rows changes : List RowChange) → ChangesOf set at rows changes → (changes ≡ [] → ⊥) → rows ≡ overlaid change_key rows changes → ⊥
  differ rows [] each some same = some refl
  differ rows (change ∷ changes) each some same =
      let k = change_key change in
      let here : look_up change_key k (change ∷ changes) ≡ Some change = ap (λ o. cond (is_eq o) (Some change) (look_up change_key k changes)) (tied_itself key_total k) in
      let stored : look_up change_key k rows ≡ Some change = ap (look_up change_key k) same ∙ look_up-overlaid change_key k rows (change ∷ changes) ∙ ap (λ (o : Option RowChange). option_or o (look_up change_key k rows)) here in
      differs_step (look_up set_key k (rows_in set)) (look_up change_key k rows) change (subst (ChangesAt set at (look_up set_key k (rows_in set)) (look_up change_key k rows)) here (each k)) stored

  -- what becomes of a row is one thing
  one_undated : (row : Record) (stored : Option RowChange) (new other : RowChange) → Undated set.feed at row stored new → Undated set.feed at row stored other → new ≡ other
  one_undated row None new other is is' = is ∙ sym is'
  one_undated row (Some stored) new other (inl is) (inl is') = is.1 ∙ sym is'.1
  one_undated row (Some stored) new other (inl is) (inr is') = absurd (is'.0 is.0)
  one_undated row (Some stored) new other (inr is) (inl is') = absurd (is.0 is'.0)
  one_undated row (Some stored) new other (inr is) (inr is') = is.1 ∙ sym is'.1

  one_listed : (b : Bool) (row : Record) (stored : Option RowChange) (new other : RowChange) → Listed set.feed at b row stored new → Listed set.feed at b row stored other → new ≡ other
  one_listed true row stored new other is is' = is ∙ sym is'
  one_listed false row stored new other is is' = one_undated row stored new other is is'

  one_becomes : (listed : Option SetRow) (stored new other : Option RowChange) → Becomes set at listed stored new → Becomes set at listed stored other → new ≡ other
  one_becomes None stored new other is is' = is ∙ sym is'
  one_becomes (Some listed) stored (Some new) (Some other) is is' = ap (λ x. Some x) (one_listed listed.dated listed.row stored new other is is')
  one_becomes (Some listed) stored None other is is' = absurd is
  one_becomes (Some listed) stored (Some new) None is is' = absurd is'

  one_rows : (rows new other : List RowChange) → AreNewRows set at rows new → AreNewRows set at rows other → new ≡ other
  one_rows rows new other are are' =
      same_from_look_up change_key new other are.order are'.order (λ k. one_becomes (look_up set_key k (rows_in set)) (look_up change_key k rows) (look_up change_key k new) (look_up change_key k other) (are.entries k) (are'.entries k))

  pub one_outcome : (version : BaseVersion) (one other : Outcome) → Applies version set at one → Applies version set at other → one ≡ other
  one_outcome version one other is is' =
      let same : is.0 ≡ is'.0 = one_rows version.rows is.0 is'.0 is.1 is'.1 in
      one_made at version (refusal_of set version.rows is'.0) is'.0 one other (subst (λ new. Makes version at (refusal_of set version.rows new) new one) same is.2) is'.2

-- no kind has too many rows where none is told
pub few_among : (rows : List Record) (kinds : List Kind) → too_many rows kinds ≡ None → AllByRecursion (λ kind. count_of kind rows ≤ row_limit) kinds
few_among rows [] none = tt
few_among rows (kind ∷ kinds) none =
    elim (nat_lt row_limit (count_of kind rows)) as (λ b. nat_lt row_limit (count_of kind rows) ≡ b → cond b (Some (TooManyRows kind (count_of kind rows))) (too_many rows kinds) ≡ None → AllByRecursion (λ kind. count_of kind rows ≤ row_limit) (kind ∷ kinds)) [
      | true ↦ λ _ some. cc
      | false ↦ λ few rest. (grind (arith, nat_tests), few_among rows kinds rest)
    ] refl none

pub few : (rows : List Record) → too_many rows all_kinds ≡ None → (kind : Kind) → count_of kind rows ≤ row_limit
few rows none kind = each_kind (λ kind. count_of kind rows ≤ row_limit) (few_among rows all_kinds none) kind

-- ---- what is made of a version, where a set changes these rows

module _ (set : SetRecord) (at : ℤ) (version : BaseVersion) (is : IsVersion version) (changes : List RowChange) (each : ChangesOf set at version.rows changes) where
  abbrev new : List RowChange
  new = overlaid change_key version.rows changes

  module _ (refusal : Option PublishFault) (passes : refusal ≡ None) where
    pub makes_nothing : changes ≡ [] → Makes version at refusal new Unchanged
    makes_nothing none = (passes, ap (overlaid change_key version.rows) (sym none))

    module _ (some : changes ≡ [] → ⊥) where
      due : IsDue version refusal new
      due = record { passes = passes; differ = differ set at version.rows changes each some }

      pub makes_no_more : version.number ≡ last_version → Makes version at refusal new (Refuses LastVersion)
      makes_no_more last = inr (due, last, refl)

      pub makes_next : (version.number ≡ last_version → ⊥) → (n : ℕ) → n ≡ version.number + 1 → Makes version at refusal new (Leads (after version (record { version = n; moment = at; rows = changes; grants = None })))
      makes_next more n next = (due, (let le = is.number in omega arith), λ i. record version { number = next i; moment = at; rows = new })

  pub makes_on : too_many (rows_of new) all_kinds ≡ None → (version.number ≡ last_version → ⊥) → (n : ℕ) → n ≡ version.number + 1 → AreChanges changes → LeadsOn version (record { version = n; moment = at; rows = changes; grants = None })
  makes_on none more n next up = record {
    next = next;
    version = record {
      number = (let le = is.number in omega arith);
      rows = Ascends-overlaid change_key version.rows changes is.rows;
      grants = AreGrants-later version.number n version.grants (omega (arith, next)) is.grants;
      few = few (rows_of new) none;
    };
    changes = up;
  }
