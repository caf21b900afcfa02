-- An own reply at a state that keeps the pin and knows the token gives a page.
use Rattle.std.proofs.Common.{◌≡◌, ◌-◌, ◌<◌, ◌≤◌, inl, inr, ⊎_elim, ℕ, Bool, true, false, List, [], ◌∷◌, ◌++◌, length}
use Rattle.std.proofs.Common.{take, drop, Option, Some, None, Ok, refl, sym, ◌∙◌, ap, subst, arith, min, not}
use Rattle.std.proofs.Common.{length-append}
use Rattle.std.proofs.lemmas.Bool.{and_from, and_parts, cond-false, cond-true, eq-eqb}
use Rattle.std.specs.Prelude.{◌==◌, nat_lt, if◌then◌else◌, option_map, Result, max, is_some}
use Rattle.std.proofs.Math.Seq.{drop-append_seam}
use Rattle.std.proofs.lemmas.List.{length-drop, length-take, take-append-drop}
use Rattle.std.proofs.lemmas.Bool.Decides.{nat_tests}
use Rattle.std.proofs.lemmas.Option.{same_Some}
use Rattle.keeper_memory.specs.copy.Copies.{Copy, Stage}
use Rattle.keeper_memory.specs.copy.Lists.{ascends, kind_count, last_from}
use Rattle.keeper_memory.specs.copy.States.{stage_of, state_of}
use Rattle.keeper_memory.specs.declared.copy.state.StageState.{StageState}
use Rattle.exchange_link.specs.Agreement.{FitsTotal, FitsVersion, IsFrontOf, StageFitsIf}
use Rattle.exchange_link.specs.Causes.{ToldCause}
use Rattle.exchange_link.specs.Completeness.{StandsAt, first_pin}
use Rattle.exchange_link.specs.Exchanges.{LinkState}
use Rattle.exchange_link.specs.Sayings.{Gone, IsRead, Listed, Shut, Unknown, list_at}
use Rattle.version_core.specs.Grants.{grant_of}
use Rattle.hub_spec.specs.rules.Verdicts.{newest_in}
use Rattle.hub_spec.specs.rules.Checks.{version_at}
use Rattle.hub_spec.specs.rules.Growth.{Grew}
use Rattle.hub_spec.specs.rules.States.{IsHub}
use Rattle.exchange_link.specs.Places.{kind_at, kinds_of, last_of, next_kind, next_page, pin_of, staged_of, total_of}
use Rattle.exchange_link.specs.declared.answer.SyncAnswer.{SyncAnswer}
use Rattle.exchange_link.specs.declared.answer.SyncAnswer.TheVariants as answer
use Rattle.exchange_link.proofs.FitLemmas.{stage_if_on}
use Rattle.exchange_link.proofs.CutLemmas.{IsGood, begun as hub_begun, list_good}
use Rattle.hub_spec.proofs.Cutting.{known_at}
use Rattle.http_wire.specs.declared.reply_reading.WireReply.{WireReply}
use Rattle.roster_base.specs.Faults.{Rose}
use Rattle.roster_types.specs.Records.{Record}
use Rattle.roster_values.specs.Kinds.{place_of_kind}
use Rattle.roster_values.specs.declared.kind.Kind.{Kind}
use Rattle.row_json.specs.Reading.{rows_of}
use Rattle.row_json.specs.declared.fault.JsonFault.{JsonFault}
use Rattle.version_core.specs.HubStates.{HubState, newest_number, oldest_number}
use Rattle.version_core.specs.Version.{row_limit}
use Rattle.version_core.specs.declared.change.BaseVersion.{BaseVersion}
use Rattle.version_core.specs.declared.grant_row.GrantRow.{GrantRow}
use Rattle.consumer_sync.specs.Filling.{HasToken, IsDoneIf, PinLaw, ToldIf}
use Rattle.consumer_sync.specs.Judging.{agrees, by_status, gone_act, judged, listed_act, page_act, read_act, shut_act}
use Rattle.exchange_link.specs.Requests.{Moved}
use Rattle.consumer_sync.specs.Staging.{IsBroken, answer_of}
use Rattle.consumer_sync.specs.declared.judging.Act.{Act}
use Rattle.consumer_sync.specs.declared.judging.Act.TheVariants as act
use Rattle.exchange_link.proofs.AskLemmas.{cause_more}
use Rattle.consumer_sync.proofs.KindLemmas.{place_at}
use Rattle.consumer_sync.proofs.AgreeLemmas.{IsSaid}
use Rattle.consumer_sync.proofs.AgreeLemmas.Given.{Wants, Broke, Answers}
use Rattle.hub_spec.proofs.Versions.{newest_at}
use Rattle.roster_types.specs.Keys.{is_after}
use Rattle.consumer_sync.specs.Starting.{StartCause}

pass : (b : Bool) (x y : Act) → b ≡ true → (if not b then x else y) ≡ y
pass true x y e = refl
pass false x y e = cc

page_take : (stage : Option StageState) (limit v t : ℕ) (body : List ℕ) (rows : List Record) → agrees (pin_of stage) v ≡ true → nat_lt row_limit t ≡ false → agrees (total_of stage) t ≡ true
    → rows_of (next_kind stage) body ≡ Ok rows → (length rows == min limit (t - staged_of stage)) ≡ true
    → ascends (last_of stage) rows ≡ true → page_act stage limit v t body ≡ act.Take v rows t (length rows == t - staged_of stage)
page_take stage limit v t body rows a b d r e f =
    pass (agrees (pin_of stage) v) _ _ a ∙ cond-false (nat_lt row_limit t) _ _ b ∙ pass (agrees (total_of stage) t) _ _ d ∙ ap (read_act stage limit v t) r
    ∙ pass (length rows == min limit (t - staged_of stage)) _ _ e ∙ pass (ascends (last_of stage) rows) _ _ f

few_test : (t : ℕ) → t ≤ row_limit → nat_lt row_limit t ≡ false
few_test t le = grind (arith, nat_tests)

-- the status picks the act
pub judged_at : (stage : Option StageState) (limit : ℕ) (w : WireReply) (n : ℕ) → w.status ≡ n → judged stage limit w ≡ by_status n stage limit w
judged_at stage limit w n e = ap (λ n. by_status n stage limit w) e

-- a first part ascends, and what follows it ascends from its last
pub ascends-append : (d : Option (List ℕ)) (xs ys : List Record) → ascends d (xs ++ ys) ≡ true → (ascends d xs ≡ true) × (ascends (last_from d xs) ys ≡ true)
ascends-append d [] ys e = (refl, e)
ascends-append d (x ∷ xs) ys e =
    let b = and_parts (is_after d x.id) (ascends (Some x.id) (xs ++ ys)) e in
    let r = ascends-append (Some x.id) xs ys b.1 in
    (and_from (is_after d x.id) (ascends (Some x.id) xs) b.0 r.0, r.1)

-- a page of a list that ascends
page_ascends : (p l rows : List Record) (limit : ℕ) → IsFrontOf p l → ascends None l ≡ true → rows ≡ take limit (drop (length p) l) → ascends (last_from None p) rows ≡ true
page_ascends p l rows limit f e h =
    let r : List Record = f.0 in
    let at : drop (length p) l ≡ r = ap (drop (length p)) (sym f.1) ∙ drop-append_seam p r in
    let rest = (ascends-append None p r (ap (ascends None) f.1 ∙ e)).1 in
    let front = (ascends-append (last_from None p) (take limit r) (drop limit r) (ap (ascends (last_from None p)) (take-append-drop limit r) ∙ rest)).0 in
    ap (ascends (last_from None p)) (h ∙ ap (take limit) at) ∙ front

page_count : (p l rows : List Record) (limit : ℕ) → rows ≡ take limit (drop (length p) l) → length rows ≡ min limit (length l - length p)
page_count p l rows limit h = ap length h ∙ length-take limit (drop (length p) l) ∙ ap (min limit) (length-drop (length p) l)

done_take : (a : Act) (v : ℕ) (rows : List Record) (t : ℕ) (d : Bool) (kind : Kind) (offset : ℕ) → a ≡ act.Take v rows t d → answer_of a kind offset ≡ None
done_take a v rows t d kind offset e = ap (λ a. answer_of a kind offset) e

done_close : (a : Act) (v : ℕ) (kind : Kind) (offset : ℕ) → a ≡ act.Close v → answer_of a kind offset ≡ None
done_close a v kind offset e = ap (λ a. answer_of a kind offset) e

total_test : (t : Option ℕ) (n : ℕ) → FitsTotal t n → agrees t n ≡ true
total_test None n e = refl
total_test (Some t) n e = eq-eqb t n e

-- what a stage shows
abbrev shown : Option Stage → Option StageState
shown o = option_map state_of o

-- a page of a list, given where the stage stands
listed_done : (o : Option Stage) (limit v : ℕ) (kind : Kind) (offset : ℕ) (w : WireReply) (l : List Record) → agrees (pin_of (shown o)) v ≡ true → IsGood l → FitsTotal (total_of (shown o)) (length l)
    → (p : List Record) → staged_of (shown o) ≡ length p → last_of (shown o) ≡ last_from None p → IsFrontOf p l → w.status ≡ 200 → w.version ≡ Some v → w.total ≡ Some (length l)
    → rows_of (next_kind (shown o)) w.body ≡ Ok (take limit (drop (length p) l)) → answer_of (judged (shown o) limit w) kind offset ≡ None
listed_done o limit v kind offset w l pin good total p es el front st ver tot rows =
    let stage = shown o in
    let part : List Record = take limit (drop (length p) l) in
    let listed : listed_act stage limit w.version w.total w.body ≡ page_act stage limit v (length l) w.body =
    ap (λ x. listed_act stage limit x w.total w.body) ver ∙ ap (λ x. listed_act stage limit (Some v) x w.body) tot in
    let count : length part ≡ min limit (length l - staged_of stage) = page_count p l part limit refl ∙ ap (λ n. min limit (length l - n)) (sym es) in
    let asc : ascends (last_of stage) part ≡ true = ap (λ d. ascends d part) el ∙ page_ascends p l part limit front good.ordered refl in
    done_take _ v part (length l) (length part == length l - staged_of stage) kind offset
    (judged_at stage limit w 200 st ∙ listed ∙ page_take stage limit v (length l) w.body part pin (few_test (length l) good.few) (total_test (total_of stage) (length l) total) rows (eq-eqb _ _ count) asc)

-- a list as the version has it, whatever stage stands
read_done : (o : Option Stage) (token : List ℕ) (limit v : ℕ) (w : WireReply) (mid : HubState) (kind : Kind) (offset : ℕ) → IsHub mid → HasToken token (shown o) → StageFitsIf o mid → kinds_of (shown o) < kind_count
    → IsRead mid (next_page token limit (shown o)) v
    → w.status ≡ 200 → w.version ≡ Some v → w.total ≡ Some (length (list_at (version_at mid v) token (place_of_kind (next_kind (shown o)))))
    → rows_of (next_kind (shown o)) w.body ≡ Ok (take limit (drop (staged_of (shown o)) (list_at (version_at mid v) token (place_of_kind (next_kind (shown o))))))
    → answer_of (judged (shown o) limit w) kind offset ≡ None
read_done None token limit v w mid kind offset is_hub et x lt read st ver tot rows =
    let l = list_at (version_at mid v) token (place_of_kind (kind_at 0)) in
    listed_done None limit v kind offset w l refl (list_good mid is_hub v token (place_of_kind (kind_at 0)) read.standing) tt [] refl refl (l, refl) st ver tot rows
read_done (Some s) token limit v w mid kind offset is_hub et x lt read st ver tot rows =
    let e : v ≡ s.pin = read.pinned in
    let fits : FitsVersion s (version_at mid v) = subst (λ p. FitsVersion s (version_at mid p)) (sym e) x.fits in
    let at : list_at (version_at mid v) token (place_of_kind (kind_at (length s.done))) ≡ list_at (version_at mid v) s.token (length s.done) =
    ap (list_at (version_at mid v) token) (place_at (length s.done) lt) ∙ ap (λ t. list_at (version_at mid v) t (length s.done)) (sym et) in
    let l = list_at (version_at mid v) s.token (length s.done) in
    listed_done (Some s) limit v kind offset w l (eq-eqb s.pin v (sym e)) (list_good mid is_hub v s.token (length s.done) read.standing) fits.total s.present refl refl fits.present st ver
    (tot ∙ ap (λ (xs : List Record). Some (length xs)) at)
    (rows ∙ ap (λ (xs : List Record). let o : Result (List Record) JsonFault = Ok (take limit (drop (length s.present) xs)) in o) at)

-- a kind that isn't opened
shut_done : (o : Option Stage) (token : List ℕ) (limit v : ℕ) (w : WireReply) (mid : HubState) (kind : Kind) (offset : ℕ) → HasToken token (shown o) → StageFitsIf o mid → kinds_of (shown o) < kind_count
    → IsRead mid (next_page token limit (shown o)) v
    → w.status ≡ 403 → w.version ≡ Some v → list_at (version_at mid v) token (place_of_kind (next_kind (shown o))) ≡ [] → answer_of (judged (shown o) limit w) kind offset ≡ None
shut_done None token limit v w mid kind offset et x lt read st ver none =
    done_close _ v kind offset (judged_at None limit w 403 st ∙ ap (shut_act None) ver)
shut_done (Some s) token limit v w mid kind offset et x lt read st ver none =
    let e : v ≡ s.pin = read.pinned in
    let fits : FitsVersion s (version_at mid v) = subst (λ p. FitsVersion s (version_at mid p)) (sym e) x.fits in
    let at : list_at (version_at mid v) token (place_of_kind (kind_at (length s.done))) ≡ list_at (version_at mid v) s.token (length s.done) =
    ap (list_at (version_at mid v) token) (place_at (length s.done) lt) ∙ ap (λ t. list_at (version_at mid v) t (length s.done)) (sym et) in
    let nought : length s.present ≡ 0 = let h = ap length (fits.present).1 in let g = length-append s.present (fits.present).0 in let i = ap length (sym at ∙ none) in omega (arith, h, g, i) in
    done_close _ v kind offset (judged_at (Some (state_of s)) limit w 403 st ∙ ap (shut_act (Some (state_of s))) ver ∙ cond-true _ _ _ (and_from (s.pin == v) (length s.present == 0) (eq-eqb s.pin v (sym e)) (eq-eqb (length s.present) 0 nought)))

-- the pin of the call lies below where the stage is pinned
pin_below : (first : Option StageState) (o : Option Stage) (start a : HubState) → Grew start a → StageFitsIf o a → PinLaw first start (shown o) → 0 < length a.published → first_pin first start < length a.published
pin_below None None start a g x law pos = omega (arith, g.longer, pos)
pin_below None (Some s) start a g x law pos = omega (arith, law, x.standing)
pin_below (Some f) None start a g x law pos = absurd law
pin_below (Some f) (Some s) start a g x law pos = omega (arith, law, x.standing)

pin_above : (first : Option StageState) (o : Option Stage) (start : HubState) (p : ℕ) → PinLaw first start (shown o) → pin_of (shown o) ≡ Some p → first_pin first start ≤ p
pin_above None None start p law e = cc
pin_above None (Some s) start p law e = let f = same_Some _ _ e in omega (arith, law, f)
pin_above (Some f) None start p law e = absurd law
pin_above (Some f) (Some s) start p law e = let h = same_Some _ _ e in omega (arith, law, h)

pin_standing : (o : Option Stage) (h : HubState) (p : ℕ) → StageFitsIf o h → pin_of (shown o) ≡ Some p → p < length h.published
pin_standing None h p x e = cc
pin_standing (Some s) h p x e = subst (λ n. n < length h.published) (same_Some _ _ e) x.standing

-- a later state's grant was the same before, since the version that it names
was_known : (token : List ℕ) (by : GrantRow) (mid b : HubState) → Grew mid b → IsHub mid → IsHub b → grant_of token (newest_in b).grants ≡ Some by → by.grant.since < length mid.published → grant_of token (newest_in mid).grants ≡ Some by
was_known token by mid b g hm hb known since =
    let q = newest_number mid in
    let lt : q < length mid.published = omega (arith, hub_begun mid hm) in
    let at : grant_of token (version_at b q).grants ≡ Some by = known_at b hb token by known q (omega (arith, since)) (omega (arith, lt, g.longer)) in
    ap (λ (v : BaseVersion). grant_of token v.grants) (newest_at mid hm.state ∙ sym (g.same q lt)) ∙ at

pub known_not : (o : Option GrantRow) (by : GrantRow) → o ≡ Some by → is_some o ≡ false → ⊥
known_not None by e f = cc
known_not (Some x) by e f = cc

-- an own reply leads on, or the hub wants memory
own_done_at : (o : Option Stage) (first : Option StageState) (a b : LinkState) (start : HubState) (token : List ℕ) (limit : ℕ) (w : WireReply) (kind : Kind) (offset : ℕ) → HasToken token (shown o) → StageFitsIf o a.hub → kinds_of (shown o) < kind_count
    → IsSaid a b (next_page token limit (shown o)) w
    → Grew start a.hub → IsHub a.hub → IsHub b.hub → PinLaw first start (shown o) → (Rose a.hub_faults b.hub_faults → ⊥) → StandsAt (first_pin first start) token b.hub → IsDoneIf (answer_of (judged (shown o) limit w) kind offset)
own_done_at o first a b start token limit w kind offset et x lt own g ha hb law quiet at =
    let below = pin_below first o start a.hub g x law (hub_begun a.hub ha) in
    let stage = shown o in
    let was : grant_of token (newest_in own.mid).grants ≡ Some at.by = was_known token at.by own.mid b.hub own.to own.is_hub hb at.known (omega (arith, at.since, below, (own.from).longer)) in
    elim own.reply as (λ _. IsDoneIf (answer_of (judged stage limit w) kind offset)) [
      | Wants st ↦ subst (λ c. IsDoneIf (answer_of c kind offset)) (sym (judged_at stage limit w 503 st)) tt
      | Broke st rose ↦ absurd (quiet rose)
      | Answers s ↦ elim s as (λ _. IsDoneIf (answer_of (judged stage limit w) kind offset)) [
        | Unknown st ne ↦ absurd (known_not (grant_of token (newest_in own.mid).grants) at.by was ne)
        | Gone p by e kn st old why ↦ absurd (
            let le = pin_above first o start p law e in
            let pl = pin_standing o a.hub p x e in
            let same : by ≡ at.by = same_Some _ _ (sym kn ∙ was) in
            let keeps : oldest_number own.mid ≤ oldest_number b.hub = let k = (own.to).keep in omega (arith, k, (own.to).longer) in
            ⊎_elim (λ (h : p < oldest_number own.mid). omega (arith, h, le, at.oldest, keeps))
            (λ h. ⊎_elim (λ (h : p < by.grant.since). let h2 : p < (at.by).grant.since = subst (λ (r : GrantRow). p < r.grant.since) same h in omega (arith, h2, le, at.since))
            (λ (h : newest_number own.mid < p). omega (arith, h, pl, (own.from).longer)) h) why)
        | Shut v read st ver none ↦ subst (λ (x : Option SyncAnswer). IsDoneIf x) (sym (shut_done o token limit v w own.mid kind offset et (stage_if_on o a.hub own.mid own.from x) lt read st ver none)) tt
        | Listed v read st ver tot rows ↦ subst (λ (x : Option SyncAnswer). IsDoneIf x) (sym (read_done o token limit v w own.mid kind offset own.is_hub et (stage_if_on o a.hub own.mid own.from x) lt read st ver tot rows)) tt
      ]
    ]

pub own_done : (c : Copy) (stage first : Option StageState) (a b : LinkState) (start : HubState) (token : List ℕ) (limit : ℕ) (w : WireReply) (kind : Kind) (offset : ℕ) → stage_of c ≡ stage → HasToken token stage → StageFitsIf c.stage a.hub → kinds_of stage < kind_count → IsSaid a b (next_page token limit stage) w
    → Grew start a.hub → IsHub a.hub → IsHub b.hub → PinLaw first start stage → (Rose a.hub_faults b.hub_faults → ⊥) → StandsAt (first_pin first start) token b.hub → IsDoneIf (answer_of (judged stage limit w) kind offset)
own_done c stage first a b start token limit w kind offset e et x lt own g ha hb law quiet at =
    subst (λ s. IsDoneIf (answer_of (judged s limit w) kind offset)) e
    (own_done_at c.stage first a b start token limit w kind offset (subst (λ s. HasToken token s) (sym e) et) x (subst (λ s. kinds_of s < kind_count) (sym e) lt)
    (subst (λ s. IsSaid a b (next_page token limit s) w) (sym e) own) g ha hb (subst (λ s. PinLaw first start s) (sym e) law) quiet at)

gone_is : (stage : Option StageState) (o : Option ℕ) (p q : ℕ) → pin_of stage ≡ Some p → o ≡ Some q → gone_act (pin_of stage) o ≡ act.PinGone p q
gone_is stage o p q e f = ap (λ x. gone_act x o) e ∙ ap (gone_act (Some p)) f

-- the told cause of the answer that an own reply gives
own_told_at : (o : Option Stage) (a b : LinkState) (token : List ℕ) (limit : ℕ) (w : WireReply) (kind : Kind) (offset : ℕ) → HasToken token (shown o) → StageFitsIf o a.hub → kinds_of (shown o) < kind_count → IsSaid a b (next_page token limit (shown o)) w
    → ToldIf token a b (answer_of (judged (shown o) limit w) kind offset)
own_told_at o a b token limit w kind offset et x lt own =
    let stage = shown o in
    elim own.reply as (λ _. ToldIf token a b (answer_of (judged stage limit w) kind offset)) [
      | Wants st ↦ subst (λ c. ToldIf token a b (answer_of c kind offset)) (sym (judged_at stage limit w 503 st)) tt
      | Broke st rose ↦ subst (λ c. ToldIf token a b (answer_of c kind offset)) (sym (judged_at stage limit w 500 st)) rose
      | Answers s ↦ elim s as (λ _. ToldIf token a b (answer_of (judged stage limit w) kind offset)) [
        | Unknown st ne ↦ subst (λ c. ToldIf token a b (answer_of c kind offset)) (sym (judged_at stage limit w 401 st)) (own.mid, own.from, own.to, ne)
        | Gone p by e kn st old why ↦ subst (λ c. ToldIf token a b (answer_of c kind offset)) (sym (judged_at stage limit w 404 st ∙ gone_is stage w.oldest p (max (oldest_number own.mid) by.grant.since) e old)) (
          own.mid,
          own.from,
          own.to,
          by,
          kn,
          (let pl = pin_standing o a.hub p x e in ⊎_elim (λ (h : p < oldest_number own.mid). inl h)
              (λ h. ⊎_elim (λ (h : p < by.grant.since). inr h) (λ (h : newest_number own.mid < p). absurd (omega (arith, h, pl, (own.from).longer))) h) why),
        )
        | Shut v read st ver none ↦ subst (λ (x : Option SyncAnswer). ToldIf token a b x) (sym (shut_done o token limit v w own.mid kind offset et (stage_if_on o a.hub own.mid own.from x) lt read st ver none)) tt
        | Listed v read st ver tot rows ↦ subst (λ (x : Option SyncAnswer). ToldIf token a b x) (sym (read_done o token limit v w own.mid kind offset own.is_hub et (stage_if_on o a.hub own.mid own.from x) lt read st ver tot rows)) tt
      ]
    ]

told_if_more : (token : List ℕ) (z a b : LinkState) (e : Option SyncAnswer) → Moved z a → ToldIf token a b e → ToldIf token z b e
told_if_more token z a b None m x = tt
told_if_more token z a b (Some e) m x = cause_more token z a b e m x

pub own_told : (c : Copy) (stage : Option StageState) (z a b : LinkState) (token : List ℕ) (limit : ℕ) (w : WireReply) (kind : Kind) (offset : ℕ) → Moved z a → stage_of c ≡ stage → HasToken token stage → StageFitsIf c.stage a.hub → kinds_of stage < kind_count
    → IsSaid a b (next_page token limit stage) w → ToldIf token z b (answer_of (judged stage limit w) kind offset)
own_told c stage z a b token limit w kind offset m e et x lt own = told_if_more token z a b _ m
    (subst (λ s. ToldIf token a b (answer_of (judged s limit w) kind offset)) e
    (own_told_at c.stage a b token limit w kind offset (subst (λ s. HasToken token s) (sym e) et) x (subst (λ s. kinds_of s < kind_count) (sym e) lt) (subst (λ s. IsSaid a b (next_page token limit s) w) (sym e) own)))

pub broken_told : (token : List ℕ) (z b : LinkState) (r : Option SyncAnswer) → IsBroken r → ToldIf token z b r
broken_told token z b r x = ⊎_elim (λ (e : r ≡ Some answer.KeeperFault). subst (λ x. ToldIf token z b x) (sym e) tt) (λ (e : r ≡ Some answer.NoMemory). subst (λ x. ToldIf token z b x) (sym e) tt) x

pub start_told : (token : List ℕ) (z b : LinkState) (K : Type 0) (e : SyncAnswer) → StartCause K e → ToldCause token z b e
start_told token z b K answer.LastRun k = tt
start_told token z b K answer.KeeperFault k = tt
start_told token z b K answer.NoMemory k = tt
start_told token z b K e k = absurd k
