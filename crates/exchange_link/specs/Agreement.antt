-- What a copy and what a link tells agree on.
use Rattle.std.specs.Prelude.{◌≡◌, ◌<◌, ◌≤◌, ℕ, ◌++◌, true, List, [], ◌∷◌, length, take, Option, Some, None, IfSome}
use Rattle.keeper_memory.specs.copy.Copies.{Copy, Held, Stage}
use Rattle.hub_spec.specs.rules.Checks.{version_at}
use Rattle.hub_spec.specs.views.Cuts.{cut}
use Rattle.roster_types.specs.Records.{Record}
use Rattle.status_info.specs.declared.request.Echo.{Echo}
use Rattle.status_info.specs.declared.request.Request.{Request}
use Rattle.version_core.specs.HubStates.{HubState}
use Rattle.version_core.specs.declared.change.BaseVersion.{BaseVersion}
use Rattle.exchange_link.specs.Exchanges.{SentAs, LinkState}
use Rattle.exchange_link.specs.Pairs.{AtEach}
use Rattle.exchange_link.specs.Sayings.{knows, list_at}

-- the first rows are a front of the others
abbrev pub IsFrontOf : List Record → List Record → Type 0
IsFrontOf xs ys = (rest : List Record) × (xs ++ rest ≡ ys)

-- nothing, or this number
abbrev pub FitsTotal : Option ℕ → ℕ → Type 0
FitsTotal None n = Unit {0}
FitsTotal (Some total) n = total ≡ n

-- the stage is a front of what its token sees of this version
pub record FitsVersion (s : Stage) (version : BaseVersion) : Type 0 where
  pub known : knows version s.token ≡ true
  pub done : take (length s.done) (cut version s.token) ≡ s.done
  pub present : IsFrontOf s.present (list_at version s.token (length s.done))
  pub total : FitsTotal s.total (length (list_at version s.token (length s.done)))

-- the stage is a front of what its token sees of the pinned version
pub record StageFits (s : Stage) (h : HubState) : Type 0 where
  pub standing : s.pin < length h.published
  pub fits : FitsVersion s (version_at h s.pin)

-- there is no stage, or it fits
abbrev pub StageFitsIf : Option Stage → HubState → Type 0
StageFitsIf None h = Unit {0}
StageFitsIf (Some s) h = StageFits s h

-- lists are what the token sees of a version
pub record AreSeen (lists : List (List Record)) (version : BaseVersion) (token : List ℕ) : Type 0 where
  pub known : knows version token ≡ true
  pub same : lists ≡ cut version token

-- what is held is of a published version that isn't newer than the stage's; under a token it is what that token sees of
-- it
pub record HeldFits (held : Held) (stage : Option Stage) (h : HubState) : Type 0 where
  pub standing : held.version < length h.published
  pub below : IfSome stage (λ s. held.version ≤ s.pin)
  pub seen : IfSome held.token (AreSeen held.lists (version_at h held.version))

-- nothing is held, or it fits
abbrev pub HeldFitsIf : Option Held → Option Stage → HubState → Type 0
HeldFitsIf None stage h = Unit {0}
HeldFitsIf (Some held) stage h = HeldFits held stage h

-- the stage of a copy and what it holds fit a state of the hub
pub record CopyFits (c : Copy) (h : HubState) : Type 0 where
  pub stage : StageFitsIf c.stage h
  pub held : HeldFitsIf c.held c.stage h

-- no request sent has this number
abbrev pub NotSent : Echo → List Request → Type 0
NotSent n sent = SentAs n sent → ⊥

-- the numbers of the requests differ
abbrev pub Differ : List Request → Type 0
Differ [] = Unit {0}
Differ (q ∷ qs) = ((n : Echo) → q.echo ≡ Some n → NotSent n qs) × Differ qs

-- no request is of a later run
abbrev pub NoneAbove : ℕ → List Request → Type 0
NoneAbove run [] = Unit {0}
NoneAbove run (q ∷ qs) = ((n : Echo) → q.echo ≡ Some n → n.run ≤ run) × NoneAbove run qs

-- no number is used twice, and the stage and what is held are what they say
pub record StageAgrees (c : Copy) (told : LinkState) : Type 0 where
  pub differ : Differ told.sent
  pub below : NoneAbove c.run told.sent
  pub fits : CopyFits c told.hub

-- each of these copies agrees with what each of these states of a link tells
abbrev pub StagesAgree : (Copy → Type 0) → (LinkState → Type 0) → Type 0
StagesAgree copies tells = AtEach copies tells StageAgrees
