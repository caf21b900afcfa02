-- One round of the loop.
use Rattle.std.proofs.Common.{◌≡◌, ◌≢◌, ◌⊎◌, ◌-◌, ◌<◌, ◌≤◌, inl, inr, ⊎_elim, ℕ, zero, suc, Bool, true, false, List, []}
use Rattle.std.proofs.Common.{◌∷◌, ◌++◌, length, get_or, Option, Some, None, refl, sym, ◌∙◌, ap, subst, arith, min}
use Rattle.std.proofs.Common.{append_assoc, length-append, ◌+◌}
use Rattle.std.specs.Prelude.{◌==◌, IfSome, bytes_eq, if◌then◌else◌, option_map, unwrap_or}
use Rattle.std.proofs.lemmas.Bool.Decides.{nat_tests}
use Rattle.std.proofs.lemmas.List.{append-nil}
use Rattle.keeper_memory.specs.copy.Changes.{begun, stage_after}
use Rattle.keeper_memory.specs.copy.Copies.{Copy, Stage}
use Rattle.keeper_memory.specs.copy.Lists.{kind_count}
use Rattle.keeper_memory.specs.declared.copy.state.StageState.{StageState}
use Rattle.exchange_link.proofs.CutLemmas.{list_good}
use Rattle.exchange_link.specs.Agreement.{IsFrontOf, StageFitsIf}
use Rattle.hub_spec.specs.rules.Growth.{Grew}
use Rattle.exchange_link.specs.Pages.{asked_by}
use Rattle.exchange_link.specs.Places.{kinds_of, next_page}
use Rattle.exchange_link.specs.Sayings.{list_at}
use Rattle.hub_spec.specs.requests.PageRequests.{CanAsk}
use Rattle.hub_spec.proofs.Versions.{number_at, version_is}
use Rattle.hub_spec.specs.rules.Checks.{version_at}
use Rattle.hub_spec.specs.rules.States.{IsHub}
use Rattle.http_wire.specs.declared.reply_reading.WireReply.{WireReply}
use Rattle.keeper_memory.specs.copy.States.{state_of}
use Rattle.keeper_memory.specs.declared.copy.state.TheConstants.{LAST}
use Rattle.exchange_link.specs.Synchronised.{Grows, StageOn, own_state, staged_list}
use Rattle.exchange_link.specs.declared.answer.SyncAnswer.{SyncAnswer}
use Rattle.exchange_link.specs.declared.answer.SyncAnswer.TheVariants as answer
use Rattle.roster_types.specs.Records.{Record}
use Rattle.version_core.specs.HubStates.{HubState}
use Rattle.version_core.specs.Version.{row_limit}
use Rattle.consumer_sync.specs.Filling.{Ends, Fills, StageEnds, HasToken, IsSmall, PinLaw, weight}
use Rattle.consumer_sync.specs.Judging.{opened, paged}
use Rattle.consumer_sync.specs.Staging.{IsBroken, IsGone, IsNotGone, MayEnd, Performs, Taking, after_page, open_copy, taken}
use Rattle.consumer_sync.specs.Staging.Adds.{Stays, Opened, Takes}
use Rattle.consumer_sync.specs.Staging.Performs.{Kept, Grown, Cleared}
use Rattle.consumer_sync.specs.declared.judging.Act.{Act}
use Rattle.consumer_sync.proofs.JudgeLemmas.{IsListed, IsPage, IsShut}
use Rattle.consumer_sync.proofs.AgreeLemmas.{PinIs}
use Rattle.consumer_sync.proofs.StageLemmas.{pin-paged}

-- the weight falls with each page
falls : (s : StageState) (limit : ℕ) (rows : List Record) (total : ℕ) (done d : Bool) → 0 < limit → s.kinds_done < kind_count → total ≤ row_limit → length rows ≡ min limit (total - s.staged)
    → done ≡ (length rows == total - s.staged) → done ≡ d → weight (Some (paged s rows total d)) < weight (Some s)
falls s limit rows total done true pos lt few count e f = omega arith
falls s limit rows total done false pos lt few count e f =
    let less : length rows ≢ total - s.staged = grind (arith, nat_tests, sym e ∙ f) in
    omega arith

pub weight_falls : (stage : Option StageState) (limit : ℕ) (token : List ℕ) (k : Taking) → 0 < limit → kinds_of stage < kind_count → IsPage stage limit k
    → weight (Some (after_page stage k token)) < weight stage
weight_falls None limit token k pos lt p = falls (opened None k.pin token) limit k.rows k.total k.done k.done pos lt p.few p.count p.done refl
weight_falls (Some s) limit token k pos lt p = falls s limit k.rows k.total k.done k.done pos lt p.few p.count p.done refl

kinds_more : (s : StageState) (rows : List Record) (total : ℕ) (d : Bool) → s.kinds_done < kind_count → (paged s rows total d).kinds_done ≤ kind_count
kinds_more s rows total true lt = omega arith
kinds_more s rows total false lt = omega arith

pub kinds_on : (stage : Option StageState) (token : List ℕ) (k : Taking) → kinds_of stage < kind_count → kinds_of (Some (after_page stage k token)) ≤ kind_count
kinds_on None token k lt = kinds_more (opened None k.pin token) k.rows k.total k.done lt
kinds_on (Some s) token k lt = kinds_more s k.rows k.total k.done lt

-- ---- the numbers of a stage

small_paged : (s : StageState) (limit : ℕ) (rows : List Record) (total : ℕ) (d : Bool) → total ≤ row_limit → length rows ≡ min limit (total - s.staged) → (s.staged ≤ row_limit) × (s.pin ≤ LAST) → IsSmall (Some (paged s rows total d))
small_paged s limit rows total true few count small = (omega arith, small.1)
small_paged s limit rows total false few count small = (omega (arith, few, count, small.0), small.1)

pin_low : (stage : Option StageState) (w : WireReply) (k : Taking) → IsListed stage w k ⊎ IsShut stage w k → IfSome w.version (λ v. v ≤ LAST) → k.pin ≤ LAST
pin_low stage w k from low = ⊎_elim
    (λ (f : IsListed stage w k). subst (λ o. IfSome o (λ v. v ≤ LAST)) f.version low)
    (λ (f : IsShut stage w k). subst (λ o. IfSome o (λ v. v ≤ LAST)) f.version low) from

-- they stay small with each page
pub small_on : (stage : Option StageState) (limit : ℕ) (token : List ℕ) (w : WireReply) (k : Taking) → IsPage stage limit k → IsListed stage w k ⊎ IsShut stage w k → IfSome w.version (λ v. v ≤ LAST) → IsSmall stage
    → IsSmall (Some (after_page stage k token))
small_on None limit token w k p from low small = small_paged (opened None k.pin token) limit k.rows k.total k.done p.few p.count (omega arith, pin_low None w k from low)
small_on (Some s) limit token w k p from low small = small_paged s limit k.rows k.total k.done p.few p.count small

-- so the next page may be asked for
pub can_next : (stage : Option StageState) (token : List ℕ) (limit : ℕ) → 0 < limit → limit ≤ 1000 → IsSmall stage → CanAsk (asked_by (next_page token limit stage))
can_next None token limit some few small = record { some = some; limit = few; offset = omega arith; pin = tt }
can_next (Some s) token limit some few small = record { some = some; limit = few; offset = omega (arith, small.0); pin = omega (arith, small.1) }

-- those of a stage that fits a hub's state are small
pub small_fits : (h : HubState) → IsHub h → (o : Option Stage) → StageFitsIf o h → IsSmall (option_map state_of o)
small_fits h hub None fits = tt
small_fits h hub (Some s) fits =
    let good = list_good h hub s.pin s.token (length s.done) fits.standing in
    let front = fits.fits.present in
    let long : length s.present + length front.0 ≡ length (list_at (version_at h s.pin) s.token (length s.done)) = sym (length-append s.present front.0) ∙ ap length front.1 in
    let is = version_is h hub.state s.pin (omega (arith, fits.standing)) in
    let at = number_at h hub.state s.pin (omega (arith, fits.standing)) in
    (omega (arith, long, good.few), omega (arith, is.number, at))

pub small_own : (token : List ℕ) (stage : Option StageState) → IsSmall stage → IsSmall (own_state token stage)
small_own token None small = tt
small_own token (Some s) small = elim (bytes_eq s.token token) as (λ b. IsSmall (if b then Some s else None)) [ true ↦ small | false ↦ tt ]

-- the pin's law goes on
pub pin_on : (first stage : Option StageState) (a b : HubState) (token : List ℕ) (k : Taking) → PinLaw first a stage → Grew a b → PinIs stage b k.pin → PinLaw first a (Some (after_page stage k token))
pin_on None None a b token k law g p = let e = pin-paged (opened None k.pin token) k.rows k.total k.done in omega (arith, e, p, g.longer)
pin_on None (Some s) a b token k law g p = let e = pin-paged s k.rows k.total k.done in omega (arith, e, law)
pin_on (Some f) (Some s) a b token k law g p = pin-paged s k.rows k.total k.done ∙ law
pin_on (Some f) None a b token k law g p = absurd law

front_refl : (xs : List Record) → IsFrontOf xs xs
front_refl xs = ([], append-nil xs)

front_trans : (xs ys zs : List Record) → IsFrontOf xs ys → IsFrontOf ys zs → IsFrontOf xs zs
front_trans xs ys zs f g = (f.0 ++ g.0, sym (append_assoc xs f.0 g.0) ∙ ap (λ x. x ++ g.0) f.1 ∙ g.1)

front_page : (done : List (List Record)) (p rows : List Record) (kind : ℕ) → IsFrontOf (get_or (done ++ p ∷ []) kind []) (get_or (done ++ (p ++ rows) ∷ []) kind [])
front_page [] p rows zero = (rows, refl)
front_page [] p rows (suc n) = ([], refl)
front_page (d ∷ ds) p rows zero = front_refl d
front_page (d ∷ ds) p rows (suc n) = front_page ds p rows n

front_done : (done : List (List Record)) (p rows : List Record) (kind : ℕ) → IsFrontOf (get_or (done ++ p ∷ []) kind []) (get_or ((done ++ (p ++ rows) ∷ []) ++ [] ∷ []) kind [])
front_done [] p rows zero = (rows, refl)
front_done [] p rows (suc zero) = ([], refl)
front_done [] p rows (suc (suc n)) = ([], refl)
front_done (d ∷ ds) p rows zero = front_refl d
front_done (d ∷ ds) p rows (suc n) = front_done ds p rows n

grows_after : (s : Stage) (rows : List Record) (total : ℕ) (d : Bool) → Grows s (stage_after s rows total d)
grows_after s rows total true = record { pin = refl; token = refl; lists = front_done s.done s.present rows }
grows_after s rows total false = record { pin = refl; token = refl; lists = front_page s.done s.present rows }

pub grows_refl : (s : Stage) → Grows s s
grows_refl s = record { pin = refl; token = refl; lists = λ kind. front_refl (staged_list s kind) }

pub grows_trans : (a b c : Stage) → Grows a b → Grows b c → Grows a c
grows_trans a b c x y = record { pin = y.pin ∙ x.pin; token = y.token ∙ x.token; lists = λ kind. front_trans _ _ _ (x.lists kind) (y.lists kind) }

on_open : (token : List ℕ) (pin : ℕ) (o m : Option Stage) → StageOn token o m → StageOn token o (Some (unwrap_or m (begun pin token)))
on_open token pin None None x = refl
on_open token pin None (Some s) x = x
on_open token pin (Some f) (Some s) x = x
on_open token pin (Some f) None x = absurd x

on_after : (token : List ℕ) (o : Option Stage) (s : Stage) (rows : List Record) (total : ℕ) (d : Bool) → StageOn token o (Some s) → StageOn token o (Some (stage_after s rows total d))
on_after token None s rows total d x = (grows_after s rows total d).token ∙ x
on_after token (Some f) s rows total d x = grows_trans f s _ x (grows_after s rows total d)

pub fills_open : (token : List ℕ) (pin : ℕ) (before mid : Copy) → Fills token before mid → Fills token before (open_copy pin token mid)
fills_open token pin before mid f = record { run = f.run; held = f.held; entries = f.entries; last_number = f.last_number; stage = on_open token pin before.stage mid.stage f.stage }

pub fills_taken : (token : List ℕ) (k : Taking) (before mid : Copy) → Fills token before mid → Fills token before (taken k token mid)
fills_taken token k before mid f = record {
  run = f.run;
  held = f.held;
  entries = f.entries;
  last_number = f.last_number;
  stage = on_after token before.stage (unwrap_or mid.stage (begun k.pin token)) k.rows k.total k.done (on_open token k.pin before.stage mid.stage f.stage);
}

not_broken : IsBroken None → ⊥
not_broken b = ⊎_elim (λ (e : None ≡ Some answer.KeeperFault). cc) (λ (e : None ≡ Some answer.NoMemory). cc) b

-- where the call goes on, the page is staged
fills_none : (token : List ℕ) (a : Act) (before mid after : Copy) → Fills token before mid → Performs a token None mid after → Fills token before after
fills_none token a before mid after f (Kept n known h) = absurd (n refl)
fills_none token a before mid after f (Cleared g n h) = absurd n
fills_none token a before mid after f (Grown k t g) = elim g as (λ _. Fills token before after) [
  | Stays b h ↦ absurd (not_broken b)
  | Opened b h ↦ absurd (not_broken b)
  | Takes b h ↦ subst (λ d. Fills token before d) (sym h) (fills_taken token k before mid f)
]

pub fills_on : (token : List ℕ) (a : Act) (result : Option SyncAnswer) (before mid after : Copy) → result ≡ None → Fills token before mid → Performs a token result mid after → Fills token before after
fills_on token a result before mid after e f p = fills_none token a before mid after f (subst (λ r. Performs a token r mid after) e p)

stands_end : (token : List ℕ) (result : Option SyncAnswer) (old new : Option Stage) → IsNotGone result → StageOn token old new → StageEnds token result old new
stands_end token None old new n x = x
stands_end token (Some (answer.PinGone pin oldest)) old new n x = absurd n
stands_end token (Some answer.KeeperFault) old new n x = inl x
stands_end token (Some a) old new n x = x

gone_ends : (token : List ℕ) (result : Option SyncAnswer) (old : Option Stage) → MayEnd result → StageEnds token result old None
gone_ends token None old m = absurd m
gone_ends token (Some (answer.PinGone pin oldest)) old m = refl
gone_ends token (Some answer.KeeperFault) old m = inr refl
gone_ends token (Some a) old m = absurd m

broken_known : (result : Option SyncAnswer) → IsBroken result → IsNotGone result
broken_known result b = ⊎_elim
    (λ (e : result ≡ Some answer.KeeperFault). subst (λ r. IsNotGone r) (sym e) tt)
    (λ (e : result ≡ Some answer.NoMemory). subst (λ r. IsNotGone r) (sym e) tt) b

taken_known : (result : Option SyncAnswer) → (result ≡ None) ⊎ IsBroken result → IsNotGone result
taken_known result b = ⊎_elim (λ (e : result ≡ None). subst (λ r. IsNotGone r) (sym e) tt) (λ (x : IsBroken result). broken_known result x) b

pub fills_end : (token : List ℕ) (result : Option SyncAnswer) (before after : Copy) → IsNotGone result → Fills token before after → Ends token result before after
fills_end token result before after n f = record { run = f.run; held = f.held; entries = f.entries; last_number = f.last_number; stage = stands_end token result before.stage after.stage n f.stage }

-- where it ends
pub ends_on : (token : List ℕ) (a : Act) (result : Option SyncAnswer) (before mid after : Copy) → Fills token before mid → Performs a token result mid after → Ends token result before after
ends_on token a result before mid after f (Kept n known h) = subst (λ d. Ends token result before d) (sym h) (fills_end token result before mid known f)
ends_on token a result before mid after f (Cleared g n h) = subst (λ d. Ends token result before d) (sym h) (record { run = f.run; held = f.held; entries = f.entries; last_number = f.last_number; stage = gone_ends token result before.stage n })
ends_on token a result before mid after f (Grown k t g) = elim g as (λ _. Ends token result before after) [
  | Stays b h ↦ subst (λ d. Ends token result before d) (sym h) (fills_end token result before mid (broken_known result b) f)
  | Opened b h ↦ subst (λ d. Ends token result before d) (sym h) (fills_end token result before _ (broken_known result b) (fills_open token k.pin before mid f))
  | Takes b h ↦ subst (λ d. Ends token result before d) (sym h) (fills_end token result before _ (taken_known result b) (fills_taken token k before mid f))
]

token-paged : (s : StageState) (rows : List Record) (total : ℕ) (d : Bool) → (paged s rows total d).token ≡ s.token
token-paged s rows total true = refl
token-paged s rows total false = refl

-- the stage stays under its token
pub token_on : (stage : Option StageState) (token : List ℕ) (k : Taking) → HasToken token stage → HasToken token (Some (after_page stage k token))
token_on None token k e = token-paged (opened None k.pin token) k.rows k.total k.done
token_on (Some s) token k e = token-paged s k.rows k.total k.done ∙ e

-- the stage goes on, or the reply says that its pin isn't kept
pub fault_stage : (token : List ℕ) (a : Act) (result : Option SyncAnswer) (before mid after : Copy) → Fills token before mid → Performs a token result mid after → StageOn token before.stage after.stage ⊎ IsGone a
fault_stage token a result before mid after f (Kept n known h) = inl (subst (λ (d : Copy). StageOn token before.stage d.stage) (sym h) f.stage)
fault_stage token a result before mid after f (Cleared g n h) = inr g
fault_stage token a result before mid after f (Grown k t g) = elim g as (λ _. StageOn token before.stage after.stage ⊎ IsGone a) [
  | Stays b h ↦ inl (subst (λ (d : Copy). StageOn token before.stage d.stage) (sym h) f.stage)
  | Opened b h ↦ inl (subst (λ (d : Copy). StageOn token before.stage d.stage) (sym h) (fills_open token k.pin before mid f).stage)
  | Takes b h ↦ inl (subst (λ (d : Copy). StageOn token before.stage d.stage) (sym h) (fills_taken token k before mid f).stage)
]
