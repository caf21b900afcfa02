-- Which call made the answer, and why it answers so.
use Rattle.std.specs.Prelude.{◌≡◌, ◌≤◌, ℕ, List, Result, Ok, Err, true, ⊤}
use Rattle.consumer_deltas.specs.DeltaAnswers.{BaseLaw, DeltaTold}
use Rattle.consumer_deltas.specs.DeltaCauses.{DeltaCaused}
use Rattle.consumer_deltas.specs.declared.answer.DeltaAnswer.{DeltaAnswer}
use Rattle.exchange_link.specs.Between.{call_with, copy_between, link_between}
use Rattle.exchange_link.specs.Causes.{Caused, ToldCause}
use Rattle.exchange_link.specs.Exchanges.{LinkState}
use Rattle.exchange_link.specs.declared.answer.SyncAnswer.{SyncAnswer}
use Rattle.hub_follow.specs.Ends.{lacks_base}
use Rattle.hub_follow.specs.declared.answer.Missed.{Missed}
use Rattle.hub_follow.specs.declared.answer.Missed.TheVariants as missed
use Rattle.keeper_memory.specs.copy.Copies.{Copy}

-- ---- what is seen of a keeper of copies, and of a link

-- the copies for which a keeper stands, its count of faults, and what calls make of it
pub record KeeperView (K : Type 0) : Type 1 where
  pub stands : K → Copy → Type 0
  pub faults : K → ℕ
  pub leads : K → K → Type 0

-- the same from its parts
abbrev pub keeper_view : {K : Type 0} → (K → Copy → Type 0) → (K → ℕ) → (K → K → Type 0) → KeeperView K
keeper_view stands faults leads = record { stands = stands; faults = faults; leads = leads }

-- what a link tells, its counts, what it keeps, and what exchanges make of it
pub record LinkView (N : Type 0) : Type 1 where
  pub tells : N → LinkState → Type 0
  pub asked : N → ℕ
  pub missed : N → ℕ
  pub kept : N → List ℕ
  pub faults : N → ℕ
  pub leads : N → N → Type 0

-- the same from its parts
abbrev pub link_view : {N : Type 0} → (N → LinkState → Type 0) → (N → ℕ) → (N → ℕ) → (N → List ℕ) → (N → ℕ) → (N → N → Type 0) → LinkView N
link_view tells asked missed kept faults leads = record { tells = tells; asked = asked; missed = missed; kept = kept; faults = faults; leads = leads }

-- ---- the causes

module _ {K N : Type 0} (copies : KeeperView K) (links : LinkView N) (token : List ℕ) (limit tries : ℕ) where
  -- an incremental synchronisation answered so
  abbrev pub DeltaAnswers : K → K → N → N → DeltaAnswer → Type 0
  DeltaAnswers old new before after a =
      DeltaCaused (call_with token limit tries) (copy_between copies.stands copies.faults old new)
      (link_between links.tells links.asked links.missed links.kept links.faults before after) a

  -- a whole one answered so
  abbrev pub SyncAnswers : K → K → N → N → SyncAnswer → Type 0
  SyncAnswers old new before after a =
      Caused (call_with token limit tries) (copy_between copies.stands copies.faults old new)
      (link_between links.tells links.asked links.missed links.kept links.faults before after) a

  -- an incremental one came first, which had no base, or whose base the hub said to be gone
  pub record IsBehind (old between : K) (before mid : N) (a : DeltaAnswer) : Type 0 where
    pub lacks : lacks_base a ≡ true
    pub base : (c : Copy) → copies.stands between c → (first : Copy) × copies.stands old first × BaseLaw token a first
    pub cause : DeltaAnswers old between before mid a
    pub later : copies.faults old ≤ copies.faults between
    pub link_later : links.faults before ≤ links.faults mid
    pub copy_leads : copies.leads old between
    pub link_leads : links.leads before mid

  -- the call that is named made the answer
  abbrev pub MissedBy : K → K → N → N → Result ℕ Missed → Type 0
  MissedBy old new before after (Ok version) = ⊤
  MissedBy old new before after (Err (missed.Delta a)) = DeltaAnswers old new before after a
  MissedBy old new before after (Err (missed.Sync a)) = (between : K) × (mid : N) × (first : DeltaAnswer) × IsBehind old between before mid first × SyncAnswers between new mid after a

-- what a link that tells adds: also of the incremental one that came first
abbrev pub MissedTold : {N : Type 0} → LinkView N → List ℕ → N → LinkState → Result ℕ Missed → Type 0
MissedTold links token before tells (Ok version) = ⊤
MissedTold links token before tells (Err (missed.Delta a)) = (told : LinkState) × links.tells before told × DeltaTold token told tells a
MissedTold links token before tells (Err (missed.Sync a)) = ((told : LinkState) × links.tells before told × ToldCause token told tells a)
    × ((told : LinkState) × (mid : LinkState) × (first : DeltaAnswer) × links.tells before told × (lacks_base first ≡ true) × DeltaTold token told mid first)
