-- What an open may find of a store, before a call and behind it.
use Rattle.std.proofs.Common.{◌≡◌, ◌⊎◌, Bool, true, false, List, Result, Ok, Err, IsErr, OnErr, OnOk, inl, inr, IsTrue}
use Rattle.std.proofs.Common.{refl, sym, subst, ◌∙◌, arith}
use Rattle.std.proofs.lemmas.Bool.{cases_Bool}
use Rattle.sqlite.specs.State.{State, HasCleanDisk}
use Rattle.roster_base.specs.declared.keeper.KeeperError.{KeeperError}
use Rattle.roster_base.specs.declared.keeper.KeeperError.TheVariants.{Failed, NoMemory}
use Rattle.item_maps.specs.Edits.{after}
use Rattle.item_maps.specs.Items.{Items}
use Rattle.item_maps.specs.declared.item.Edit.{Edit}
use Rattle.item_store.specs.Left.{Lasts, MayFind}
use Rattle.item_store.specs.Stands.{StandsFor}
use Rattle.item_store.proofs.OneMap.{found_alone, not_open, stands_once}
use Rattle.keeper_sqlite.specs.hub.Keeping.{Became, CameOf, Keeps}
use Rattle.keeper_sqlite.specs.hub.Telling.{KeepSome, Tells}
use Rattle.keeper_sqlite.specs.Trust.{Clean, Down, IsLost, IsQuiet, IsTrusted, KnownBehind, MayHold, Sign, shown_by}

pub held_alone : (s : State) (lost : Bool) (m n : Items) → IsTrusted s → StandsFor s m → MayHold s lost n → n ≡ m
held_alone s lost m n = found_alone s (lost ≡ false) n m

module _ (old new : State) (honest : HasCleanDisk new → HasCleanDisk old) where
  pub signs_by : Lasts old new → (sign : Sign) → shown_by new sign → shown_by old sign
  signs_by lasts Clean shown = honest shown
  signs_by lasts (Down times) shown = lasts times shown

  module _ (trust : IsTrusted new → IsTrusted old) where
    -- a read changes nothing of it
    pub read_held : ((m : Items) → StandsFor old m → StandsFor new m) → ((m n : Items) → StandsFor old m → IsTrue old.is_open → MayFind new n → n ≡ m) → ((n : Items) → MayFind new n → old.is_open ≡ false → MayFind old n)
        → (lost : Bool) (n : Items) → MayHold new lost n → MayHold old lost n
    read_held same found shut lost n (inr (sure, once)) = inr (trust sure, λ m stands. once m (same m stands))
    read_held same found shut lost n (inl (find, told)) = elim (cases_Bool old.is_open) [
      | inl live ↦ inr ((honest find.clean, live), λ m stands. found m n stands live find)
      | inr down ↦ inl (shut n find down, told)
    ]

-- what a commit makes of it
module _ (old new : State) (honest : HasCleanDisk new → HasCleanDisk old) (trust : IsTrusted new → IsTrusted old) (edits : List Edit) (shut : (n : Items) → MayFind new n → old.is_open ≡ false → MayFind old n) where
  pub commit_made : (r : Result (Unit {0}) KeeperError) (before now : Bool) → IsLost r before now → (HasCleanDisk new → OnOk r (IsTrue new.is_open)) → ((m : Items) → StandsFor old m → OnOk r (StandsFor new (after edits m)))
      → ((m : Items) → StandsFor old m → OnErr r (StandsFor new m)) → ((m n : Items) → StandsFor old m → IsTrue old.is_open → MayFind new n → (n ≡ m) ⊎ (n ≡ after edits m)) → (n : Items) → MayHold new now n
      → (IsErr r × MayHold old before n) ⊎ (IsTrusted old × ((m : Items) → StandsFor old m → CameOf r edits m n))
  commit_made (Ok done) before now lost live ok err found n (inl (find, told)) = absurd (not_open new n find (live find.clean))
  commit_made (Ok done) before now lost live ok err found n (inr (sure, once)) = inr (trust sure, λ m stands. once (after edits m) (ok m stands))
  commit_made (Err Failed) before now lost live ok err found n (inl (find, told)) = elim (cases_Bool old.is_open) [
    | inl open_before ↦ inr ((honest find.clean, open_before), λ m stands. found m n stands open_before find)
    | inr down ↦ inl (refl, inl (shut n find down, sym lost ∙ told))
  ]
  commit_made (Err Failed) before now lost live ok err found n (inr (sure, once)) = inr (trust sure, λ m stands. inl (once m (err m stands)))
  commit_made (Err NoMemory) before now lost live ok err found n (inl (find, told)) = absurd (let both : true ≡ false = sym lost ∙ told in cc)
  commit_made (Err NoMemory) before now lost live ok err found n (inr (sure, once)) = inr (trust sure, λ m stands. once m (err m stands))

pub known_behind : (r : Result (Unit {0}) KeeperError) (before now : Bool) → IsLost r before now → KnownBehind r (before ≡ false) (now ≡ false)
known_behind (Ok done) before now lost = lost
known_behind (Err Failed) before now lost = λ known. lost ∙ known
known_behind (Err NoMemory) before now lost = tt

-- a connection that was trusted still is, where the disk gave no cause against it
pub trusted_still : (old new : State) → IsTrusted old → IsQuiet old new → ((sign : Sign) → shown_by new sign → shown_by old sign) → IsTrusted new
trusted_still old new sure quiet signs = elim (cases_Bool new.is_open) [
  | inl live ↦ (quiet.clean, live)
  | inr shut ↦
      let down = signs (Down old.faults) (record {
        clean = quiet.clean;
        counted = let stood = quiet.stood in let counted = quiet.counted in omega arith;
        which = inl (shut, let stood = quiet.stood in omega arith);
      }) in
      absurd (elim down.which [ inl before ↦ (let live = sure.1 in let was = before.0 in cc) | inr less ↦ omega arith ])
]

-- while it is trusted it tells what its items keep
pub stored_tells : {X : Type 0} (keep : Items → X → Type 0) (at_first : Items → Type 0) (s : State) (lost : Bool) → KeepSome keep at_first → IsTrusted s → KeepSome keep (StandsFor s) → (state : X) × Tells keep at_first (MayHold s lost) state
stored_tells keep at_first s lost first sure now = (
  now.state,
  record {
    first = first;
    items = now.this.items;
    found = inr (sure, λ n other. stands_once s now.this.items n sure.0 sure.1 now.this.stands other);
    kept = now.this.kept;
  },
)

-- and what it tells it stands for
pub stored_stands : {X : Type 0} (keep : Items → X → Type 0) (at_first : Items → Type 0) (s : State) (lost : Bool) (state : X) → IsTrusted s → KeepSome keep (StandsFor s) → Tells keep at_first (MayHold s lost) state → Keeps keep (StandsFor s) state
stored_stands keep at_first s lost state sure now tells = record {
  items = now.this.items;
  stands = now.this.stands;
  kept = subst (λ m. keep m state) (held_alone s lost now.this.items tells.items sure now.this.stands tells.found) tells.kept;
}

-- items that keep a state are told behind an open of them
pub opened_tells : {X : Type 0} (keep : Items → X → Type 0) (s : State) (lost : Bool) (state : X) → IsTrusted s → Keeps keep (StandsFor s) state → Tells keep (StandsFor s) (MayHold s lost) state
opened_tells keep s lost state sure this = record {
  first = record { state = state; this = this };
  items = this.items;
  found = inr (sure, λ n other. stands_once s this.items n sure.0 sure.1 this.stands other);
  kept = this.kept;
}

-- ---- what became of items, and of what they keep

module _ {X : Type 0} (keep : Items → X → Type 0) (next : X → X) where
  pub became : (r : Result (Unit {0}) KeeperError) (edits : List Edit) (items now : Items) (state : X) → keep items state → keep (after edits items) (next state) → CameOf r edits items now → Became keep next r state now
  became (Ok done) edits items now state before later is = subst (λ m. keep m (next state)) (sym is) later
  became (Err Failed) edits items now state before later is = elim is [
    | inl same ↦ inl (subst (λ m. keep m state) (sym same) before)
    | inr done ↦ inr (subst (λ m. keep m (next state)) (sym done) later)
  ]
  became (Err NoMemory) edits items now state before later is = subst (λ m. keep m state) (sym is) before

  -- before a call that failed nothing became of them
  pub nothing_became : (r : Result (Unit {0}) KeeperError) (state : X) (now : Items) → IsErr r → keep now state → Became keep next r state now
  nothing_became (Ok done) state now err kept = absurd (cc)
  nothing_became (Err Failed) state now err kept = inl kept
  nothing_became (Err NoMemory) state now err kept = kept

  pub became_more : (more : Items → X → Type 0) → ((m : Items) (state : X) → keep m state → more m state) → (r : Result (Unit {0}) KeeperError) (state : X) (now : Items) → Became keep next r state now → Became more next r state now
  became_more more grows (Ok done) state now made = grows now (next state) made
  became_more more grows (Err Failed) state now made = elim made [ inl same ↦ inl (grows now state same) | inr done ↦ inr (grows now (next state) done) ]
  became_more more grows (Err NoMemory) state now made = grows now state made

-- edits that make another form of the same state keep it, however their commit ends
pub made_either : {X : Type 0} (keep : Items → X → Type 0) (r : Result (Unit {0}) KeeperError) (edits : List Edit) (items now : Items) (state : X) → keep items state → keep (after edits items) state → CameOf r edits items now → keep now state
made_either keep (Ok done) edits items now state before later is = subst (λ m. keep m state) (sym is) later
made_either keep (Err Failed) edits items now state before later is = elim is [
  | inl same ↦ subst (λ m. keep m state) (sym same) before
  | inr done ↦ subst (λ m. keep m state) (sym done) later
]
made_either keep (Err NoMemory) edits items now state before later is = subst (λ m. keep m state) (sym is) before
