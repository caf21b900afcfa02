-- What an incremental synchronisation and a whole one behind it leave together.
use Rattle.std.proofs.Common.{◌≡◌, ◌⊎◌, ⊎_elim, inl, inr, ◌+◌, ◌≤◌, ◌++◌, ℕ, Bool, true, false, List, [], ◌∷◌, length}
use Rattle.std.proofs.Common.{Option, Some, None, refl, sym, subst, ap, ◌∙◌, arith, append_assoc}
use Rattle.std.specs.Prelude.{IfSome, bytes_eq, if◌then◌else◌}
use Rattle.std.proofs.lemmas.Slice.Eq.{bytes_eq-Decides}
use Rattle.consumer_deltas.specs.DeltaAnswers.{DeltaLeaves}
use Rattle.consumer_deltas.specs.DeltaCalls.{AsksDeltas, DeltaHeld, DeltaSynchronised}
use Rattle.consumer_deltas.specs.DeltaRequests.{IsDeltaUnder}
use Rattle.consumer_deltas.specs.declared.answer.DeltaAnswer.{DeltaAnswer}
use Rattle.consumer_deltas.specs.declared.answer.DeltaAnswer.TheVariants as delta
use Rattle.exchange_link.proofs.StageLemmas.{on_token}
use Rattle.exchange_link.specs.Asked.{AreNumbered}
use Rattle.exchange_link.specs.Between.{Call, CopyRun, LinkRun}
use Rattle.exchange_link.specs.Exchanges.{LinkState}
use Rattle.exchange_link.specs.Synchronised.{CompleteAt, HeldLaw, HeldTold, IsPinOf, Leaves, StageLaw, StageOn}
use Rattle.exchange_link.specs.Synchronised.{Synchronised, own_stage}
use Rattle.exchange_link.specs.declared.answer.SyncAnswer.{SyncAnswer}
use Rattle.exchange_link.specs.declared.answer.SyncAnswer.TheVariants as answer
use Rattle.hub_follow.proofs.Ending.{false_true, sync_delta, true_false}
use Rattle.hub_follow.specs.Catching.{AsksFromHeld, BeginsFromHeld, CatchesUp, CatchesUpTold, FirstIs}
use Rattle.hub_follow.specs.Ends.{end_of_delta, lacks_base, sync_of}
use Rattle.hub_spec.specs.rules.Growth.{Grew}
use Rattle.keeper_memory.specs.copy.Copies.{Copy, Stage}
use Rattle.status_info.specs.declared.request.Echo.{Echo}
use Rattle.status_info.specs.declared.request.Request.{Request}
use Rattle.version_core.specs.HubStates.{HubState, newest_number}

-- ---- over any link

leaves_sync : (token : List ℕ) (a : SyncAnswer) (b c : Copy) → Leaves token a b c → CatchesUp a b c
leaves_sync token a b c x = record {
  run = ⊎_elim (λ (same : c.run ≡ b.run). inl same) (λ (one : c.run ≡ b.run + 1). inr (inl one)) x.run;
  entries = x.entries;
  last_number = x.last_number;
  held = x.held;
}

-- one call alone
pub leaves_delta : (token : List ℕ) (d : DeltaAnswer) (b c : Copy) → lacks_base d ≡ false → DeltaLeaves token d b c → CatchesUp (sync_of (end_of_delta d)) b c
leaves_delta token (delta.Ended a) b c e x = subst (λ s. CatchesUp s b c) (sym (sync_delta a)) (leaves_sync token a b c x)
leaves_delta token delta.NoBase b c e x = true_false e
leaves_delta token (delta.BaseGone held oldest) b c e x = true_false e

two_runs : (b m c : ℕ) → (m ≡ b) ⊎ (m ≡ b + 1) → (c ≡ m) ⊎ (c ≡ m + 1) → (c ≡ b) ⊎ ((c ≡ b + 1) ⊎ (c ≡ b + 2))
two_runs b m c x y = ⊎_elim (λ (p : m ≡ b). ⊎_elim (λ (q : c ≡ m). inl (q ∙ p)) (λ (q : c ≡ m + 1). inr (inl (omega (arith, p, q)))) y)
    (λ (p : m ≡ b + 1). ⊎_elim (λ (q : c ≡ m). inr (inl (q ∙ p))) (λ (q : c ≡ m + 1). inr (inr (omega (arith, p, q)))) y) x

held_behind : (a : SyncAnswer) (b m c : Copy) → m.held ≡ b.held → HeldLaw a m c → HeldLaw a b c
held_behind (answer.Complete version) b m c e x = x
held_behind answer.KeeperFault b m c e x = ⊎_elim (λ (same : c.held ≡ m.held). inl (same ∙ e)) (λ swapped. inr swapped) x
held_behind a b m c e x = x ∙ e

-- one call behind the other
pub leaves_both : (token : List ℕ) (d : DeltaAnswer) (a : SyncAnswer) (b m c : Copy) → lacks_base d ≡ true → DeltaLeaves token d b m → Leaves token a m c → CatchesUp a b c
leaves_both token (delta.Ended s) a b m c e x y = false_true e
leaves_both token delta.NoBase a b m c e x y = subst (λ n. CatchesUp a n c) x (leaves_sync token a m c y)
leaves_both token (delta.BaseGone held oldest) a b m c e x y = record {
  run = two_runs b.run m.run c.run x.1.run y.run;
  entries = y.entries ∙ x.1.entries;
  last_number = y.last_number ∙ x.1.last_number;
  held = held_behind a b m c x.1.held y.held;
}

-- ---- the pin

pub newest_grew : (h i : HubState) → Grew h i → newest_number h ≤ newest_number i
newest_grew h i g = omega (arith, g.longer)

pin_older : (o : Option Stage) (h i : HubState) (v : ℕ) → newest_number h ≤ newest_number i → IsPinOf o i v → IsPinOf o h v
pin_older None h i v le x = omega (arith, le, x)
pin_older (Some s) h i v le x = x

own_if : (b : Bool) (s : Stage) → b ≡ true → (if b then Some s else None) ≡ Some s
own_if true s e = refl
own_if false s e = false_true e

pub own_same : (token : List ℕ) (s : Stage) → s.token ≡ token → own_stage token (Some s) ≡ Some s
own_same token s e = own_if (bytes_eq s.token token) s ((bytes_eq-Decides s.token token).1 e)

none_pin : (token : List ℕ) (o : Option Stage) (h i : HubState) (v : ℕ) → newest_number h ≤ newest_number i → StageOn token o None → IsPinOf None i v → IsPinOf o h v
none_pin token None h i v le on x = pin_older None h i v le x
none_pin token (Some s) h i v le on x = absurd on

-- the pin of the stage that a call left is that of the stage before it, or else one not older than the newest version
-- then
pin_on : (token : List ℕ) (o n : Option Stage) (h i : HubState) (v : ℕ) → newest_number h ≤ newest_number i → StageOn token (own_stage token o) n → IfSome n (λ s. IsPinOf (own_stage token o) h s.pin)
    → IsPinOf (own_stage token n) i v → IsPinOf (own_stage token o) h v
pin_on token o None h i v le on pin x = none_pin token (own_stage token o) h i v le on x
pin_on token o (Some s) h i v le on pin x =
    let same : v ≡ s.pin = subst (λ n. IsPinOf n i v) (own_same token s (on_token token o s on)) x in
    subst (λ p. IsPinOf (own_stage token o) h p) (sym same) pin

-- of the answers with which a stage stays
pub stays_on : (token : List ℕ) (o n : Option Stage) → StageLaw token answer.HubFault o n → StageOn token (own_stage token o) n
stays_on token o n x = ⊎_elim (λ (on : StageOn token (own_stage token o) n). on) (λ y. ⊎_elim (λ z. absurd z.0) (λ z. absurd z.0) y) x

pin_behind : (token : List ℕ) (d : DeltaAnswer) (b : Copy) (t : LinkState) (m : Copy) (w : LinkState) (v : ℕ) → lacks_base d ≡ true → DeltaSynchronised token d b t m w → IsPinOf (own_stage token m.stage) w.hub v → IsPinOf (own_stage token b.stage) t.hub v
pin_behind token (delta.Ended s) b t m w v e x p = false_true e
pin_behind token delta.NoBase b t m w v e x p =
    pin_older (own_stage token b.stage) t.hub w.hub v (newest_grew t.hub w.hub x.moved.grew) (subst (λ (c : Copy). IsPinOf (own_stage token c.stage) w.hub v) x.leaves p)
pin_behind token (delta.BaseGone held oldest) b t m w v e x p =
    pin_on token b.stage m.stage t.hub w.hub v (newest_grew t.hub w.hub x.moved.grew) (stays_on token b.stage m.stage x.leaves.1.stage) x.pin p

-- ---- over one that tells

pub told_delta : (token : List ℕ) (d : DeltaAnswer) (b : Copy) (t : LinkState) (c : Copy) (u : LinkState) → lacks_base d ≡ false → DeltaSynchronised token d b t c u → CatchesUpTold token (sync_of (end_of_delta d)) b t c u
told_delta token (delta.Ended a) b t c u e x = subst (λ s. CatchesUpTold token s b t c u) (sym (sync_delta a)) (record { leaves = leaves_sync token a b c x.leaves; agree = x.agree; held = x.held })
told_delta token delta.NoBase b t c u e x = true_false e
told_delta token (delta.BaseGone held oldest) b t c u e x = true_false e

held_same : (token : List ℕ) (d : DeltaAnswer) (b : Copy) (t : LinkState) (m : Copy) (w : LinkState) → lacks_base d ≡ true → DeltaHeld token d b t m w → m.held ≡ b.held
held_same token (delta.Ended s) b t m w e x = false_true e
held_same token delta.NoBase b t m w e x = x
held_same token (delta.BaseGone held oldest) b t m w e x = x

module _ (token : List ℕ) (d : DeltaAnswer) (b : Copy) (t : LinkState) (m : Copy) (w : LinkState) (c : Copy) (u : LinkState) (e : lacks_base d ≡ true) (x : DeltaSynchronised token d b t m w) where
  complete_both : (v : ℕ) → CompleteAt v token m w c u → CompleteAt v token b t c u
  complete_both v y = record { held = y.held; stage = y.stage; standing = y.standing; known = y.known; pin = pin_behind token d b t m w v e x y.pin }

  told_held : (a : SyncAnswer) → HeldTold token a m w c u → HeldTold token a b t c u
  told_held (answer.Complete version) y = complete_both version y
  told_held answer.KeeperFault y = ⊎_elim (λ (same : c.held ≡ m.held). inl (same ∙ held_same token d b t m w e x.held)) (λ z. inr (z.0, complete_both z.0 z.1)) y
  told_held a y = y ∙ held_same token d b t m w e x.held

  pub told_both : (a : SyncAnswer) → Synchronised token a m w c u → CatchesUpTold token a b t c u
  told_both a y = record { leaves = leaves_both token d a b m c e x.leaves y.leaves; agree = y.agree; held = told_held a y.held }

-- ---- the causes, as told

-- ---- the first request

module _ (P : Request → Type 0) where
  first_all : (may : Echo → Request → Type 0) (run from : ℕ) (more : List Request) → (1 ≤ length more → (n : Echo) (q : Request) → may n q → P q) → AreNumbered may run from more → FirstIs P more
  first_all may run from [] f x = tt
  first_all may run from (q ∷ []) f x = f (omega arith) _ q x.0
  first_all may run from (q ∷ earlier ∷ others) f x = first_all may run from (earlier ∷ others) (λ some. f (omega arith)) x.1

  -- where some were sent, later ones don't matter
  first_behind : (more earlier : List Request) → 1 ≤ length earlier → FirstIs P earlier → FirstIs P (more ++ earlier)
  first_behind [] earlier some x = x
  first_behind (q ∷ []) [] some x = absurd (omega (arith, some))
  first_behind (q ∷ []) (e ∷ es) some x = x
  first_behind (q ∷ r ∷ more) earlier some x = first_behind (r ∷ more) earlier some x

module _ (call : Call) (copies : CopyRun) (link : LinkRun) (d : DeltaAnswer) (before after : List Request) (c : Copy) (stands : copies.stands c)
    (x : AsksDeltas call copies link d before after) where
  long : 1 ≤ length x.each.more → 1 ≤ x.count
  long some = ⊎_elim (λ (all : 0 + length x.each.more ≡ x.count). omega (arith, all, some)) (λ most. let all = most.1 in omega (arith, all)) x.each.all

  first_held : FirstIs (AsksFromHeld call.token call.limit copies.stood) x.each.more
  first_held = first_all (AsksFromHeld call.token call.limit copies.stood) (IsDeltaUnder call.token call.limit x.base) x.run 0 x.each.more (λ some n q is. (x.base, x.held (long some) c stands, (n, is))) x.each.each

  pub first_delta : BeginsFromHeld call.token call.limit copies.stood before after
  first_delta = record { more = x.each.more; sent = x.each.sent; first = first_held }

gone_wants : {held oldest : ℕ} {K : Type 0} → delta.BaseGone held oldest ≡ delta.Ended answer.NoMemory → K
gone_wants e = cc

module _ (call : Call) (copies : CopyRun) (link : LinkRun) where
  -- behind a base that is gone something was sent
  some_sent : (d : DeltaAnswer) (before mid : List Request) → lacks_base d ≡ true → (d ≡ delta.NoBase → ⊥) → (x : AsksDeltas call copies link d before mid) → 1 ≤ length x.each.more
  some_sent (delta.Ended a) before mid e based x = false_true e
  some_sent delta.NoBase before mid e based x = absurd (based refl)
  some_sent (delta.BaseGone held oldest) before mid e based x =
      let some : 1 ≤ x.count = x.some in
      ⊎_elim (λ (all : 0 + length x.each.more ≡ x.count). omega (arith, all, some)) (λ most. gone_wants most.0) x.each.all

  pub first_both : (d : DeltaAnswer) (before mid after : List Request) (c : Copy) → copies.stands c → lacks_base d ≡ true → (d ≡ delta.NoBase → ⊥) → AsksDeltas call copies link d before mid
      → (more : List Request) → after ≡ more ++ mid → BeginsFromHeld call.token call.limit copies.stood before after
  first_both d before mid after c stands e based x more sent = record {
    more = more ++ x.each.more;
    sent = sent ∙ ap (λ l. more ++ l) x.each.sent ∙ sym (append_assoc more x.each.more before);
    first = first_behind (AsksFromHeld call.token call.limit copies.stood) more x.each.more (some_sent d before mid e based x) (first_held call copies link d before mid c stands x);
  }
