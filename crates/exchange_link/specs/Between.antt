-- What a consumer's call is told, and what it does to the copy and to the link to the hub.
use Rattle.std.specs.Prelude.{◌≡◌, ℕ, List, ⊤}
use Rattle.keeper_memory.specs.copy.Copies.{Copy}
use Rattle.exchange_link.specs.Exchanges.{LinkState}
use Rattle.exchange_link.specs.Pairs.{AtEach, AtSome, CopyFrom}

-- the token, how many rows a page has at most, and how often a request is tried
pub record Call : Type 0 where
  pub token : List ℕ
  pub limit : ℕ
  pub tries : ℕ

-- the same from its parts
abbrev pub call_with : List ℕ → ℕ → ℕ → Call
call_with token limit tries = record { token = token; limit = limit; tries = tries }

-- the copies for which the keeper stood before and for which it stands now, both counts of its faults, and that it is
-- as it was
pub record CopyRun : Type 1 where
  pub stood : Copy → Type 0
  pub stands : Copy → Type 0
  pub faults_before : ℕ
  pub faults_now : ℕ
  pub same : Type 0

-- the same from its parts
abbrev pub copy_run : (Copy → Type 0) → (Copy → Type 0) → ℕ → ℕ → Type 0 → CopyRun
copy_run stood stands faults_before faults_now same =
    record { stood = stood; stands = stands; faults_before = faults_before; faults_now = faults_now; same = same }

-- what the link told before and tells now, how many exchanges there were then and are now, how many missed in a row,
-- the answer that is kept, both counts of faults, and that it is as it was
pub record LinkRun : Type 1 where
  pub told : LinkState → Type 0
  pub tells : LinkState → Type 0
  pub asked_before : ℕ
  pub asked_now : ℕ
  pub missed : ℕ
  pub kept : List ℕ
  pub faults_before : ℕ
  pub faults_now : ℕ
  pub same : Type 0

-- a copy, and what the link tells, at one time
pub record CopyAndLink : Type 0 where
  pub copy : Copy
  pub told : LinkState

-- the same from its parts
abbrev pub copy_with : Copy → LinkState → CopyAndLink
copy_with copy told = record { copy = copy; told = told }

-- ---- what holds of both times

-- for each copy for which the keeper stands now there is one for which it stood before, and this holds of the two
abbrev pub FromBefore : CopyRun → (Copy → Copy → Type 0) → Type 0
FromBefore copies = CopyFrom copies.stood copies.stands

-- for each such copy, and for all that the link tells now, there is a copy of before, and what the link told then, and
-- this holds of the four
abbrev pub FromBoth : CopyRun → LinkRun → (Copy → LinkState → Copy → LinkState → Type 0) → Type 0
FromBoth copies link P =
    AtEach copies.stands link.tells (λ after tells. AtSome copies.stood link.told (λ before told. P before told after tells))

-- ---- between two states

-- of a keeper, by the copies for which it stands and its count of faults
abbrev pub copy_between : {K : Type 0} → (K → Copy → Type 0) → (K → ℕ) → K → K → CopyRun
copy_between stands_for fault_count old new = copy_run (stands_for old) (stands_for new) (fault_count old) (fault_count new) (new ≡ old)

-- of a link, by what it tells, its counts and what it keeps
abbrev pub link_between : {L : Type 0} → (L → LinkState → Type 0) → (L → ℕ) → (L → ℕ) → (L → List ℕ) → (L → ℕ) → L → L → LinkRun
link_between tells asked missed kept fault_count old new = record {
  told = tells old;
  tells = tells new;
  asked_before = asked old;
  asked_now = asked new;
  missed = missed new;
  kept = kept new;
  faults_before = fault_count old;
  faults_now = fault_count new;
  same = new ≡ old;
}

-- ---- from a moment between them on

-- of the copies, when the keeper's count of faults was this; what it stood for then isn't told
abbrev pub copy_since : CopyRun → ℕ → CopyRun
copy_since copies faults = copy_run (λ c. ⊤) copies.stands faults copies.faults_now ⊤

-- of the link, when so many exchanges and faults were counted; what it told then isn't told
abbrev pub link_since : LinkRun → ℕ → ℕ → LinkRun
link_since link asked faults = record {
  told = λ t. ⊤;
  tells = link.tells;
  asked_before = asked;
  asked_now = link.asked_now;
  missed = link.missed;
  kept = link.kept;
  faults_before = faults;
  faults_now = link.faults_now;
  same = ⊤;
}
