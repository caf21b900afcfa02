-- A read of items that are trusted, or not.
use Rattle.std.proofs.Common.{◌≡◌, Result, Ok, Err, IfOk, OnOk, inl, inr, sym, subst}
use Rattle.roster_base.specs.declared.keeper.KeeperError.{KeeperError}
use Rattle.item_maps.specs.Items.{Items}
use Rattle.keeper_sqlite.specs.hub.Keeping.{ComeOf, Keeps}
use Rattle.keeper_sqlite.specs.hub.Telling.{StillKeep, Tells}

module _ {X : Type 0} {keep : Items → X → Type 0} {at_first old : Items → Type 0} {trusted : Type 0} (still : StillKeep keep at_first old trusted) where
  module _ {new : Items → Type 0} {trusted' : Type 0} (honest : trusted' → trusted) (kept : (state : X) → Keeps keep old state → trusted' → Keeps keep new state) where
    pub still_kept : StillKeep keep at_first new trusted'
    still_kept first sure = let before = still first (honest sure) in record { state = before.state; this = kept before.state before.this sure }

    -- what is read shows what is told behind it
    pub each_shown : {T : Type 0} (found : Items → Type 0) (unique : (m : Items) (state other : X) → keep m state → keep m other → state ≡ other) (alone : (m n : Items) → trusted' → new m → found n → n ≡ m)
        (shows : X → T → Type 0) (result : Result T KeeperError) → ((n : Items) → found n → OnOk result trusted') → ((state : X) → Keeps keep old state → trusted' → IfOk result (shows state))
        → IfOk result (λ read. (now : X) → Tells keep at_first found now → shows now read)
    each_shown found unique alone shows (Ok read) live shown = λ now tells.
        let sure = live tells.items tells.found in
        let before = still tells.first (honest sure) in
        let there = kept before.state before.this sure in
        let here = subst (λ m. keep m now) (alone there.items tells.items sure there.stands tells.found) tells.kept in
        subst (λ state. shows state read) (unique there.items before.state now there.kept here) (shown before.state before.this sure)
    each_shown found unique alone shows (Err e) live shown = tt

  -- what is told after a read was told before it
  pub told_before : (there found : Items → Type 0) (unique : (m : Items) (state other : X) → keep m state → keep m other → state ≡ other) (holds : (m : Items) → trusted → old m → there m)
      (made : (n : Items) → found n → ComeOf there trusted old keep (λ state now. keep now state) n) (now : X) → Tells keep at_first found now → Tells keep at_first there now
  told_before there found unique holds made now tells = elim (made tells.items tells.found) [
    | inl was ↦ record { first = tells.first; items = tells.items; found = was; kept = tells.kept }
    | inr came ↦
        let before = still tells.first came.0 in
        let same : now ≡ before.state = unique tells.items now before.state tells.kept (came.1 before.state before.this) in
        record {
          first = tells.first;
          items = before.this.items;
          found = holds before.this.items came.0 before.this.stands;
          kept = subst (keep before.this.items) (sym same) before.this.kept;
        }
  ]
