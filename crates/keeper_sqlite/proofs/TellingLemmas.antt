-- A commit to items that are trusted, or not.
use Rattle.std.proofs.Common.{◌≡◌, ◌⊎◌, Result, Ok, Err, IsErr, OnErr, OnOk, inl, inr, refl}
use Rattle.item_maps.specs.Items.{Items}
use Rattle.roster_base.specs.declared.keeper.KeeperError.{KeeperError}
use Rattle.roster_base.specs.declared.keeper.KeeperError.TheVariants.{Failed, NoMemory}
use Rattle.keeper_memory.specs.Commits.{Commits, with_commit}
use Rattle.keeper_memory.specs.Kept.{KeptState}
use Rattle.keeper_memory.specs.declared.hub_commit.HubCommit.{HubCommit}
use Rattle.keeper_sqlite.specs.hub.Keeping.{Became, ComeOf, Keeps}
use Rattle.keeper_sqlite.specs.hub.Telling.{KeepSome, StillKeep, Tells}

-- what became of a commit that makes this of a state
abbrev pub Came : {X : Type 0} → (X → X) → Result (Unit {0}) KeeperError → X → X → Type 0
Came next (Ok done) before now = now ≡ next before
Came next (Err Failed) before now = (now ≡ before) ⊎ (now ≡ next before)
Came next (Err NoMemory) before now = now ≡ before

module _ {X : Type 0} (keep : Items → X → Type 0) (at_first old new there : Items → Type 0) (trusted : Type 0) (may : X → Type 0) (next : X → X) (still : StillKeep keep at_first old trusted)
    (holds : (m : Items) → trusted → old m → there m) (can : (state : X) → Tells keep at_first there state → may state) (result : Result (Unit {0}) KeeperError) where
  module _ (first : KeepSome keep at_first) (sure : trusted) where
    before : KeepSome keep old
    before = still first sure

    before_tells : Tells keep at_first there before.state
    before_tells = record { first = first; items = before.this.items; found = holds before.this.items sure before.this.stands; kept = before.this.kept }

  keeps_from : (r : Result (Unit {0}) KeeperError) (state : X) → OnOk r (Keeps keep new (next state)) → OnErr r (Keeps keep new state) → KeepSome keep new
  keeps_from (Ok done) state is other = record { state = next state; this = is }
  keeps_from (Err e) state other is = record { state = state; this = is }

  pub still_keep : (trusted' : Type 0) → (trusted' → trusted) → ((state : X) → Keeps keep old state → may state → trusted' → OnOk result (Keeps keep new (next state)))
      → ((state : X) → Keeps keep old state → trusted' → OnErr result (Keeps keep new state)) → StillKeep keep at_first new trusted'
  still_keep trusted' honest ok err first sure =
      let was = before first (honest sure) in
      keeps_from result was.state (ok was.state was.this (can was.state (before_tells first (honest sure))) sure) (err was.state was.this sure)

  module _ (unique : (m : Items) (state other : X) → keep m state → keep m other → state ≡ other) where
    came : (r : Result (Unit {0}) KeeperError) (state now : X) (n : Items) → keep n now → Became keep next r state n → Came next r state now
    came (Ok done) state now n kept made = unique n now (next state) kept made
    came (Err Failed) state now n kept made = elim made [ inl same ↦ inl (unique n now state kept same) | inr done ↦ inr (unique n now (next state) kept done) ]
    came (Err NoMemory) state now n kept same = unique n now state kept same

    nothing_came : (r : Result (Unit {0}) KeeperError) (state : X) → IsErr r → Came next r state state
    nothing_came (Ok done) state err = cc
    nothing_came (Err Failed) state err = inl refl
    nothing_came (Err NoMemory) state err = refl

    -- what is told after the commit came of what was told before it
    pub told_back : (found : Items → Type 0) → ((n : Items) → found n → ComeOf (λ m. IsErr result × there m) trusted old keep (λ state now. may state → Became keep next result state now) n)
        → (now : X) → Tells keep at_first found now → (state : X) × Tells keep at_first there state × Came next result state now
    told_back found made now tells = elim (made tells.items tells.found) [
      | inl was ↦ (now, record { first = tells.first; items = tells.items; found = was.1; kept = tells.kept }, nothing_came result now was.0)
      | inr came_of ↦
          let was = before tells.first came_of.0 in
          let told = before_tells tells.first came_of.0 in
          (was.state, told, came result was.state now tells.items tells.kept (came_of.1 was.state was.this (can was.state told)))
    ]

-- a commit of a hub
pub hub_came : (commit : HubCommit) (r : Result (Unit {0}) KeeperError) (before now : KeptState) → Came (λ state. with_commit state commit) r before now → Commits commit r before now
hub_came commit (Ok done) before now is = is
hub_came commit (Err Failed) before now is = is
hub_came commit (Err NoMemory) before now is = is
