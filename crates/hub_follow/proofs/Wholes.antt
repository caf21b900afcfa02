-- What the parts of following make of the whole.
use Rattle.std.proofs.Common.{◌≡◌, ℕ, true, false, List, Option, Some, Result, Ok, Err, sym, subst, ap, ◌∙◌}
use Rattle.std.specs.Prelude.{IfOk, [], get_or}
use Rattle.std.specs.List.{flat_map}
use Rattle.std.specs.Option.{option_map_or}
use Rattle.consumer_deltas.specs.DeltaAnswers.{DeltaTold}
use Rattle.consumer_deltas.specs.declared.answer.DeltaAnswer.{DeltaAnswer}
use Rattle.consumer_deltas.specs.declared.answer.DeltaAnswer.TheVariants as delta
use Rattle.exchange_link.specs.Causes.{ToldCause}
use Rattle.exchange_link.specs.Exchanges.{LinkState}
use Rattle.exchange_link.specs.Synchronised.{CompleteAt, held_at}
use Rattle.exchange_link.specs.declared.answer.SyncAnswer.{SyncAnswer}
use Rattle.exchange_link.specs.declared.answer.SyncAnswer.TheVariants as answer
use Rattle.hub_cascade.specs.Cascading.{active_rows}
use Rattle.hub_cascade.specs.Held.{held_rows}
use Rattle.hub_cascade.specs.declared.error.CascadeError.{CascadeError}
use Rattle.hub_core.specs.declared.published.Published.{Published}
use Rattle.hub_follow.proofs.Ending.{cascaded, done_cascade, done_miss, synced_cascade, synced_miss, true_false}
use Rattle.hub_follow.proofs.Ending.{uncascaded}
use Rattle.hub_follow.specs.Catching.{rows_seen}
use Rattle.hub_follow.specs.Causes.{DeltaAnswers, IsBehind, KeeperView, LinkView, MissedBy, MissedTold, SyncAnswers}
use Rattle.hub_follow.specs.Ends.{IfCascaded, IfDone, after_cascade, answer_of_miss, end_of_delta, end_of_sync}
use Rattle.hub_follow.specs.Ends.{lacks_base, synced}
use Rattle.hub_follow.specs.declared.answer.FollowAnswer.{FollowAnswer}
use Rattle.hub_follow.specs.declared.answer.Missed.{Missed}
use Rattle.hub_spec.specs.rules.Checks.{version_at}
use Rattle.keeper_memory.specs.copy.Copies.{Copy, Held}
use Rattle.roster_types.specs.Records.{Record}
use Rattle.roster_values.specs.Kinds.{all_kinds, place_of_kind}
use Rattle.version_core.specs.HubStates.{HubState}

-- ---- the call that is named

module _ {K N : Type 0} (copies : KeeperView K) (links : LinkView N) (token : List ℕ) (limit tries : ℕ) where
  pub by_delta : (old new : K) (before after : N) (d : DeltaAnswer) → lacks_base d ≡ false → DeltaAnswers copies links token limit tries old new before after d → MissedBy copies links token limit tries old new before after (end_of_delta d)
  by_delta old new before after (delta.Ended (answer.Complete version)) e x = tt
  by_delta old new before after (delta.Ended a) e x = x
  by_delta old new before after delta.NoBase e x = true_false e
  by_delta old new before after (delta.BaseGone held oldest) e x = true_false e

  pub by_sync : (old between new : K) (before mid after : N) (d : DeltaAnswer) (a : SyncAnswer) → IsBehind copies links token limit tries old between before mid d → SyncAnswers copies links token limit tries between new mid after a
      → MissedBy copies links token limit tries old new before after (end_of_sync a)
  by_sync old between new before mid after d (answer.Complete version) x y = tt
  by_sync old between new before mid after d a x y = (between, mid, d, x, y)

module _ {N : Type 0} (links : LinkView N) (token : List ℕ) where
  pub told_by_delta : (before : N) (told tells : LinkState) (d : DeltaAnswer) → lacks_base d ≡ false → links.tells before told → DeltaTold token told tells d → MissedTold links token before tells (end_of_delta d)
  told_by_delta before told tells (delta.Ended (answer.Complete version)) e t x = tt
  told_by_delta before told tells (delta.Ended a) e t x = (told, t, x)
  told_by_delta before told tells delta.NoBase e t x = true_false e
  told_by_delta before told tells (delta.BaseGone held oldest) e t x = true_false e

  pub told_by_sync : (before : N) (tells : LinkState) (a : SyncAnswer) → (told : LinkState) × links.tells before told × ToldCause token told tells a
      → (told : LinkState) × (mid : LinkState) × (first : DeltaAnswer) × links.tells before told × (lacks_base first ≡ true) × DeltaTold token told mid first → MissedTold links token before tells (end_of_sync a)
  told_by_sync before tells (answer.Complete version) x y = tt
  told_by_sync before tells a x y = (x, y)

-- ---- the whole

pub if_cascaded : (a : FollowAnswer) (version : ℕ) (made : Result Published CascadeError) (P : Result Published CascadeError → Type 0) (Q : Type 0) → a ≡ after_cascade version made → P made → IfCascaded a P Q
if_cascaded a version made P Q e p = subst (λ (a : FollowAnswer). IfCascaded a P Q) (sym e) (cascaded version made P Q p)

pub if_missed : (a : FollowAnswer) (m : Missed) (P : Result Published CascadeError → Type 0) (Q : Type 0) → a ≡ answer_of_miss m → Q → IfCascaded a P Q
if_missed a m P Q e q = subst (λ (a : FollowAnswer). IfCascaded a P Q) (sym e) (uncascaded m P Q q)

pub ok_synced : (a : FollowAnswer) (version : ℕ) (made : Result Published CascadeError) → a ≡ after_cascade version made → (let r : Result ℕ Missed = Ok version in r ≡ synced a)
ok_synced a version made e = sym (ap synced e ∙ synced_cascade version made)

pub err_synced : (a : FollowAnswer) (m : Missed) → a ≡ answer_of_miss m → (let r : Result ℕ Missed = Err m in r ≡ synced a)
err_synced a m e = sym (ap synced e ∙ synced_miss m)

pub if_done : (a : FollowAnswer) (version : ℕ) (made : Result Published CascadeError) (P : ℕ → Type 0) → a ≡ after_cascade version made → IfOk made (λ _. P version) → IfDone a P
if_done a version made P e p = subst (λ (a : FollowAnswer). IfDone a P) (sym e) (done_cascade version made P p)

pub if_undone : (a : FollowAnswer) (m : Missed) (P : ℕ → Type 0) → a ≡ answer_of_miss m → IfDone a P
if_undone a m P e = subst (λ (a : FollowAnswer). IfDone a P) (sym e) (done_miss m P)

-- ---- what is served

-- where the copy is complete, its rows are those that the token sees
rows_held : (o : Option Held) (v : ℕ) (token : List ℕ) (h : HubState) → o ≡ Some (held_at v token h)
    → flat_map (λ kind. option_map_or (λ (x : Held). get_or x.lists (place_of_kind kind) []) o []) all_kinds ≡ rows_seen (version_at h v) token
rows_held o v token h e = ap (λ (o : Option Held). flat_map (λ kind. option_map_or (λ (x : Held). get_or x.lists (place_of_kind kind) []) o []) all_kinds) e

pub rows_complete : (v : ℕ) (token : List ℕ) (before : Copy) (told : LinkState) (after : Copy) (tells : LinkState) → CompleteAt v token before told after tells → held_rows after ≡ rows_seen (version_at tells.hub v) token
rows_complete v token before told after tells x = rows_held after.held v token tells.hub x.held

pub shows_rows : (made : Result Published CascadeError) (current held seen : List Record) → held ≡ seen → IfOk made (λ _. current ≡ active_rows held) → IfOk made (λ _. current ≡ active_rows seen)
shows_rows (Ok published) current held seen e x = x ∙ ap active_rows e
shows_rows (Err error) current held seen e x = tt

pub serves : (made : Result Published CascadeError) (copies : Copy → Type 0) (current : List Record) (c : Copy) → copies c → IfOk made (λ _. (c : Copy) → copies c → current ≡ active_rows (held_rows c)) → IfOk made (λ _. current ≡ active_rows (held_rows c))
serves (Ok published) copies current c stands x = x c stands
serves (Err error) copies current c stands x = tt
