-- Each page takes a round.
use Rattle.std.proofs.Common.{◌≡◌, ◌≢◌, ◌+◌, ◌-◌, ◌*◌, ◌/◌, ◌<◌, ◌≤◌, ◌⊎◌, inl, inr, ⊎_elim, ℕ, Bool, true, false, List}
use Rattle.std.proofs.Common.{[], ◌∷◌, length, drop, Option, Some, None, refl, sym, ◌∙◌, ap, subst, arith, min}
use Rattle.std.specs.Prelude.{◌==◌, unwrap_or, option_map}
use Rattle.std.proofs.Math.Nat.{add-div_right, mul-le-mul_left}
use Rattle.std.proofs.lemmas.List.{drop_more}
use Rattle.std.proofs.lemmas.Bool.Decides.{nat_tests}
use Rattle.std.proofs.lemmas.Option.{same_Some}
use Rattle.keeper_memory.specs.copy.Changes.{begun, copy_after, swapped}
use Rattle.keeper_memory.specs.copy.Copies.{Copy, Stage}
use Rattle.keeper_memory.specs.copy.Lists.{kind_count}
use Rattle.keeper_memory.specs.copy.States.{stage_of, state_of}
use Rattle.keeper_memory.specs.declared.copy.change.CopyChange.TheVariants.{Swap}
use Rattle.keeper_memory.specs.declared.copy.state.StageState.{StageState}
use Rattle.exchange_link.specs.Agreement.{StageFitsIf}
use Rattle.exchange_link.specs.Bounds.{Bounded, HasPin, HoldsVersion, IsCallPin, pages, rounds, work}
use Rattle.exchange_link.specs.Causes.{IsLast}
use Rattle.exchange_link.specs.Requests.{number}
use Rattle.status_info.specs.declared.request.Request.{Request}
use Rattle.hub_spec.specs.views.Cuts.{cut}
use Rattle.exchange_link.specs.Sayings.{list_at}
use Rattle.hub_spec.specs.rules.Checks.{version_at}
use Rattle.hub_spec.specs.rules.Growth.{Grew}
use Rattle.exchange_link.specs.Places.{kinds_of, next_page, pin_of, staged_of}
use Rattle.exchange_link.specs.declared.answer.SyncAnswer.{SyncAnswer}
use Rattle.exchange_link.specs.declared.answer.SyncAnswer.TheVariants as answer
use Rattle.exchange_link.proofs.CutLemmas.{cut_whole}
use Rattle.roster_types.specs.Records.{Record}
use Rattle.version_core.specs.HubStates.{HubState}
use Rattle.version_core.specs.declared.change.BaseVersion.{BaseVersion}
use Rattle.consumer_sync.specs.Filling.{BoundSoFar, CauseIf, IsCallPinIf, LastAsked, PinLaw, request_of}
use Rattle.consumer_sync.specs.Judging.{opened, paged}
use Rattle.consumer_sync.specs.Staging.{MayEnd, Performs, Taking, after_page}
use Rattle.consumer_sync.specs.Staging.Adds.{Stays, Opened, Takes}
use Rattle.consumer_sync.specs.Staging.Performs.{Kept, Grown, Cleared}
use Rattle.consumer_sync.specs.declared.judging.Act.{Act}
use Rattle.consumer_sync.proofs.JudgeLemmas.{IsPage}
use Rattle.consumer_sync.proofs.AgreeLemmas.{FromVersion, StandsIn}
use Rattle.consumer_sync.proofs.StageLemmas.{pin-paged, pin-stage_after}
use Rattle.consumer_sync.specs.Starting.{SwapsIn}

-- a whole page less is one page less
page_less : (limit n m : ℕ) → 0 < limit → n ≡ m + limit → pages limit m + 1 ≤ pages limit n
page_less limit n m pos e =
    let a : n + (limit - 1) ≡ (m + (limit - 1)) + limit = omega (arith, e) in
    let b : pages limit n ≡ pages limit m + 1 = ap (λ x. x / limit) a ∙ add-div_right (m + (limit - 1)) pos in
    omega (arith, b)

round_less : (limit staged more : ℕ) (l : List Record) (ls : List (List Record)) → 0 < limit → length l - staged ≡ length l - (staged + more) + limit → rounds limit (staged + more) (l ∷ ls) + 1 ≤ rounds limit staged (l ∷ ls)
round_less limit staged more l ls pos e = let p = page_less limit (length l - staged) (length l - (staged + more)) pos e in omega (arith, p)

less : (s : StageState) (v : BaseVersion) (token : List ℕ) (limit total : ℕ) (rows : List Record) (done d : Bool) → 0 < limit → s.kinds_done < length (cut v token) → total ≡ length (list_at v token s.kinds_done) → length rows ≡ min limit (total - s.staged)
    → done ≡ (length rows == total - s.staged) → done ≡ d → work limit token (Some (paged s rows total d)) v + 1 ≤ work limit token (Some s) v
less s v token limit total rows done true pos lt tot count e f =
    let at = drop_more (cut v token) s.kinds_done [] lt in
    let b : work limit token (Some s) v ≡ rounds limit s.staged (list_at v token s.kinds_done ∷ drop (s.kinds_done + 1) (cut v token)) = ap (rounds limit s.staged) at in
    omega (arith, b)
less s v token limit total rows done false pos lt tot count e f =
    let at = drop_more (cut v token) s.kinds_done [] lt in
    let l : List Record = list_at v token s.kinds_done in
    let more : length rows ≢ total - s.staged = grind (arith, nat_tests, sym e ∙ f) in
    let p = round_less limit s.staged (length rows) l (drop (s.kinds_done + 1) (cut v token)) pos (omega (arith, more, count, tot)) in
    let a : work limit token (Some s) v ≡ rounds limit s.staged (l ∷ drop (s.kinds_done + 1) (cut v token)) = ap (rounds limit s.staged) at in
    let b : work limit token (Some (paged s rows total false)) v ≡ rounds limit (s.staged + length rows) (l ∷ drop (s.kinds_done + 1) (cut v token)) = ap (rounds limit (s.staged + length rows)) at in
    subst (λ x. x ≤ work limit token (Some s) v) (ap (λ n. n + 1) (sym b)) (subst (λ x. rounds limit (s.staged + length rows) (l ∷ drop (s.kinds_done + 1) (cut v token)) + 1 ≤ x) (sym a) p)

-- one round less with each page
pub work_less : (stage : Option StageState) (v : BaseVersion) (limit : ℕ) (token : List ℕ) (k : Taking) → 0 < limit → IsPage stage limit k → FromVersion v token limit (kinds_of stage) (staged_of stage) k
    → work limit token (Some (after_page stage k token)) v + 1 ≤ work limit token stage v
work_less None v limit token k pos p f = less (opened None k.pin token) v token limit k.total k.rows k.done k.done pos f.kind f.total p.count p.done refl
work_less (Some s) v limit token k pos p f = less s v token limit k.total k.rows k.done k.done pos f.kind f.total p.count p.done refl

-- while a kind is left so is a round
pub some_work : (stage : Option StageState) (v : BaseVersion) (token : List ℕ) (limit : ℕ) → kinds_of stage < length (cut v token) → 1 ≤ work limit token stage v
some_work stage v token limit lt =
    let b : work limit token stage v ≡ rounds limit (staged_of stage) (list_at v token (kinds_of stage) ∷ drop (kinds_of stage + 1) (cut v token)) = ap (rounds limit (staged_of stage)) (drop_more (cut v token) (kinds_of stage) [] lt) in
    omega (arith, b)

times_less : (t a b : ℕ) → a + 1 ≤ b → t + t * a ≤ t * b
times_less t a b le = let x : t * (a + 1) ≤ t * b = mul-le-mul_left t le in grind (arith, x)

abbrev pub StandingIf : Option StageState → HubState → Type 0
StandingIf None h = Unit {0}
StandingIf (Some s) h = s.pin < length h.published

pub standing_if : (o : Option Stage) (h : HubState) → StageFitsIf o h → StandingIf (option_map state_of o) h
standing_if None h x = tt
standing_if (Some s) h x = x.standing

-- the bound goes on with a page
pub bound_on : (n m tries limit : ℕ) (token : List ℕ) (first stage : Option StageState) (start h i : HubState) (k : Taking) → 0 < limit → BoundSoFar n tries limit token first stage h → m ≤ n + tries → Grew h i → StandingIf stage h → PinLaw first start stage
    → IsPage stage limit k → StandsIn stage h i token limit k → BoundSoFar m tries limit token first (Some (after_page stage k token)) i
bound_on n m tries limit token None None start h i k pos b le g st law p y =
    let next = after_page None k token in
    let e : next.pin ≡ k.pin = pin-paged (opened None k.pin token) k.rows k.total k.done in
    let w = times_less tries _ _ (work_less None (version_at i k.pin) limit token k pos p y.from) in
    subst (λ x. m + tries * work limit token (Some next) (version_at i x) ≤ tries * work limit token None (version_at i x)) (sym e) (omega (arith, w, le, b))
bound_on n m tries limit token (Some f) None start h i k pos b le g st law p y = absurd law
bound_on n m tries limit token first (Some s) start h i k pos b le g st law p y =
    let next = paged s k.rows k.total k.done in
    let e : next.pin ≡ s.pin = pin-paged s k.rows k.total k.done in
    let w = times_less tries _ _ (work_less (Some s) (version_at i k.pin) limit token k pos p y.from) in
    let w2 = subst (λ x. tries + tries * work limit token (Some next) (version_at i x) ≤ tries * work limit token (Some s) (version_at i x)) y.pin w in
    let b2 : n + tries * work limit token (Some s) (version_at i s.pin) ≤ tries * work limit token first (version_at i s.pin) =
    subst (λ v. n + tries * work limit token (Some s) v ≤ tries * work limit token first v) (sym (g.same s.pin st)) b in
    subst (λ x. m + tries * work limit token (Some next) (version_at i x) ≤ tries * work limit token first (version_at i x)) (sym e) (omega (arith, w2, le, b2))

pub times_some : (t a : ℕ) → 1 ≤ a → t ≤ t * a
times_some t a le = let x : t * 1 ≤ t * a = mul-le-mul_left t le in grind (arith, x)

-- and to the end, where one request more was tried
pub bound_end : (n m tries limit : ℕ) (token : List ℕ) (first stage : Option StageState) (P : ℕ → Type 0) (start h i : HubState) → BoundSoFar n tries limit token first stage h → m ≤ n + tries → Grew h i → StandingIf stage h → PinLaw first start stage
    → kinds_of stage < kind_count → ((s : StageState) → stage ≡ Some s → P s.pin) → Bounded m tries limit token first P i
bound_end n m tries limit token None None P start h i b le g st law lt pin = inl (omega (arith, b, le))
bound_end n m tries limit token (Some f) None P start h i b le g st law lt pin = absurd law
bound_end n m tries limit token None (Some s) P start h i b le g st law lt pin =
    let V = version_at h s.pin in
    let w = times_some tries _ (some_work (Some s) V token limit (omega (arith, lt, cut_whole V token))) in
    let all : m ≤ tries * work limit token None V = omega (arith, b, le, w) in
    inr (s.pin, pin s refl, subst (λ v. m ≤ tries * work limit token None v) (sym (g.same s.pin st)) all)
bound_end n m tries limit token (Some f) (Some s) P start h i b le g st law lt pin =
    let V = version_at h s.pin in
    let w = times_some tries _ (some_work (Some s) V token limit (omega (arith, lt, cut_whole V token))) in
    let all : m ≤ tries * work limit token (Some f) V = omega (arith, b, le, w) in
    let all2 : m ≤ tries * work limit token (Some f) (version_at i s.pin) = subst (λ v. m ≤ tries * work limit token (Some f) v) (sym (g.same s.pin st)) all in
    subst (λ x. m ≤ tries * work limit token (Some f) (version_at i x)) law all2

-- or where nothing is left
pub bound_done : (n tries limit : ℕ) (token : List ℕ) (first stage : Option StageState) (P : ℕ → Type 0) (start h : HubState) → BoundSoFar n tries limit token first stage h → PinLaw first start stage → ((s : StageState) → stage ≡ Some s → P s.pin) → Bounded n tries limit token first P h
bound_done n tries limit token None None P start h b law pin = inl (omega (arith, b))
bound_done n tries limit token (Some f) None P start h b law pin = absurd law
bound_done n tries limit token None (Some s) P start h b law pin = inr (s.pin, pin s refl, omega (arith, b))
bound_done n tries limit token (Some f) (Some s) P start h b law pin = subst (λ x. n ≤ tries * work limit token (Some f) (version_at h x)) law (omega (arith, b))

pub pin_same : (o : Option Stage) (stage : Option StageState) → option_map state_of o ≡ stage → (s : StageState) → stage ≡ Some s → HasPin s.pin o
pin_same None stage e s f = let no : None ≡ Some s = e ∙ f in cc
pin_same (Some x) stage e s f = ap (λ (y : StageState). y.pin) (same_Some _ _ (e ∙ f))

pin_open : (o : Option Stage) (stage : Option StageState) (pin : ℕ) (token : List ℕ) → option_map state_of o ≡ stage → (s : StageState) → stage ≡ Some s → (unwrap_or o (begun pin token)).pin ≡ s.pin
pin_open None stage pin token e s f = let no : None ≡ Some s = e ∙ f in cc
pin_open (Some x) stage pin token e s f = ap (λ (y : StageState). y.pin) (same_Some _ _ (e ∙ f))

-- what a reply leaves of the pin
abbrev pub PinLeft : Option SyncAnswer → ℕ → Option Stage → Type 0
PinLeft result pin stage = HasPin pin stage ⊎ (MayEnd result × (stage ≡ None))

pub pin_performs : (a : Act) (token : List ℕ) (result : Option SyncAnswer) (c after : Copy) (stage : Option StageState) → stage_of c ≡ stage → Performs a token result c after → (s : StageState) → stage ≡ Some s → PinLeft result s.pin after.stage
pin_performs a token result c after stage e (Kept n known h) s f = subst (λ (d : Copy). PinLeft result s.pin d.stage) (sym h) (inl (pin_same c.stage stage e s f))
pin_performs a token result c after stage e (Cleared n m h) s f = subst (λ (d : Copy). PinLeft result s.pin d.stage) (sym h) (inr (m, refl))
pin_performs a token result c after stage e (Grown k t g) s f = inl (elim g as (λ _. HasPin s.pin after.stage) [
  | Stays n h ↦ subst (λ (d : Copy). HasPin s.pin d.stage) (sym h) (pin_same c.stage stage e s f)
  | Opened n h ↦ subst (λ (d : Copy). HasPin s.pin d.stage) (sym h) (pin_open c.stage stage k.pin token e s f)
  | Takes n h ↦ subst (λ (d : Copy). HasPin s.pin d.stage) (sym h) (pin-stage_after (unwrap_or c.stage (begun k.pin token)) k.rows k.total k.done ∙ pin_open c.stage stage k.pin token e s f)
])

pub bounded_map : (n tries limit : ℕ) (token : List ℕ) (first : Option StageState) (P Q : ℕ → Type 0) (h : HubState) → ((v : ℕ) → P v → Q v) → Bounded n tries limit token first P h → Bounded n tries limit token first Q h
bounded_map n tries limit token (Some s) P Q h f b = b
bounded_map n tries limit token None P Q h f b = ⊎_elim (λ (x : n ≤ tries). inl x) (λ x. inr (x.0, f x.0 x.1, x.2)) b

pub bounded_zero : (tries limit : ℕ) (token : List ℕ) (first : Option StageState) (P : ℕ → Type 0) (h : HubState) → Bounded 0 tries limit token first P h
bounded_zero tries limit token (Some s) P h = omega arith
bounded_zero tries limit token None P h = inl (omega arith)

pub call_pin : (result : Option SyncAnswer) (c : Copy) (sent : List Request) (asked : LastAsked) (token : List ℕ) (missed broke : Type 0)
    → CauseIf asked missed broke result → IsLast (request_of asked.stage asked.own.run asked.own.count token asked.limit) sent
    → (s : StageState) → asked.stage ≡ Some s → PinLeft result s.pin c.stage → IsCallPinIf result c sent s.pin
call_pin None c sent asked token missed broke k last s e (inl h) = h
call_pin None c sent asked token missed broke k last s e (inr x) = absurd x.0
call_pin (Some (answer.Complete p)) c sent asked token missed broke k last s e h = absurd k
call_pin (Some (answer.PinGone p old)) c sent asked token missed broke k last s e h = same_Some _ _ (sym (ap pin_of e) ∙ k.4)
call_pin (Some answer.KeeperFault) c sent asked token missed broke k last s e (inl h) = inl h
call_pin (Some answer.KeeperFault) c sent asked token missed broke k last s e (inr x) =
    inr (x.1, inr (next_page token asked.limit asked.stage, number asked.own.run asked.own.count, ap pin_of e, last))
call_pin (Some a) c sent asked token missed broke k last s e (inl h) = h
call_pin (Some a) c sent asked token missed broke k last s e (inr x) = absurd x.0

-- at the last step
pub swap_pin : (e : SyncAnswer) (st : StageState) (c a : Copy) (sent : List Request) (v : ℕ) → stage_of c ≡ Some st → SwapsIn e st.pin c a → HasPin v c.stage → IsCallPin e a sent v
swap_pin (answer.Complete p) st c a sent v e x h = sym (has_pin c.stage st v e h) ∙ sym x.0
  where
    has_pin : (o : Option Stage) (st : StageState) (v : ℕ) → option_map state_of o ≡ Some st → HasPin v o → st.pin ≡ v
    has_pin None st v e h = cc
    has_pin (Some s) st v e h = sym (ap (λ (y : StageState). y.pin) (same_Some _ _ e)) ∙ h
swap_pin answer.KeeperFault st c a sent v e x h = ⊎_elim (λ (y : a ≡ c). subst (λ (d : Copy). IsCallPin answer.KeeperFault d sent v) (sym y) (inl h))
    (λ (y : a ≡ copy_after Swap c). let held = swapped_holds c c.stage v h in subst (λ (d : Copy). IsCallPin answer.KeeperFault d sent v) (sym y) (inr (held.0, inl held.1))) x
  where
    swapped_holds : (c : Copy) (o : Option Stage) (v : ℕ) → HasPin v o → ((swapped c o).stage ≡ None) × HoldsVersion v (swapped c o)
    swapped_holds c None v h = absurd h
    swapped_holds c (Some s) v h = (refl, h)
swap_pin answer.NoMemory st c a sent v e x h = subst (λ (d : Copy). HasPin v d.stage) (sym x) h
swap_pin b st c a sent v e x h = absurd x
