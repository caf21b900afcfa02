-- The agreement is kept.
use Rattle.std.proofs.Common.{◌≡◌, ◌≢◌, ◌+◌, ◌-◌, ◌<◌, ◌≤◌, ◌⊎◌, ⊎_elim, ℕ, Bool, true, false, List, [], ◌∷◌, ◌++◌}
use Rattle.std.proofs.Common.{length, take, drop, Option, Some, None, Ok, refl, sym, ◌∙◌, ap, subst, arith}
use Rattle.std.proofs.Common.{length-append, append_assoc}
use Rattle.std.specs.Prelude.{◌==◌, unwrap_or, option_map, Result}
use Rattle.std.proofs.Math.Seq.{drop-append_seam}
use Rattle.std.proofs.lemmas.List.{append-nil, take-append-drop, take_all, take_more}
use Rattle.std.proofs.lemmas.Bool.Decides.{nat_tests}
use Rattle.std.proofs.lemmas.Option.{same_Some}
use Rattle.keeper_memory.specs.copy.Changes.{begun, stage_after}
use Rattle.keeper_memory.specs.copy.Copies.{Copy, Held, Stage}
use Rattle.keeper_memory.specs.copy.Lists.{kind_count}
use Rattle.keeper_memory.specs.copy.States.{stage_of, state_of}
use Rattle.keeper_memory.specs.declared.copy.state.StageState.{StageState}
use Rattle.exchange_link.specs.Agreement.{CopyFits, FitsVersion, HeldFitsIf, IsFrontOf, StageFits, StageFitsIf}
use Rattle.exchange_link.specs.Exchanges.{LinkState}
use Rattle.exchange_link.specs.Owning.Gives.{Wants as GivesWant, Broke as GivesFault, Answers as GivesAnswer}
use Rattle.exchange_link.specs.Sayings.{Gone, IsRead, Listed, Shut, Tells, Unknown, knows, list_at}
use Rattle.hub_spec.specs.views.Cuts.{cut}
use Rattle.hub_spec.specs.rules.Checks.{version_at}
use Rattle.hub_spec.specs.rules.Growth.{Grew}
use Rattle.hub_spec.specs.rules.States.{IsHub}
use Rattle.exchange_link.specs.Pages.{Page, asked_by}
use Rattle.exchange_link.specs.Places.{kinds_of, next_kind, next_page, pin_of, staged_of}
use Rattle.exchange_link.specs.declared.answer.SyncAnswer.{SyncAnswer}
use Rattle.exchange_link.proofs.CutLemmas.{cut_whole}
use Rattle.exchange_link.proofs.TellLemmas.{told_of}
use Rattle.hub_spec.specs.requests.PageRequests.{CanAsk}
use Rattle.http_wire.specs.declared.reply_reading.WireReply.{WireReply}
use Rattle.roster_base.specs.Faults.{Rose}
use Rattle.roster_types.specs.Records.{Record}
use Rattle.roster_values.specs.Kinds.{place_of_kind}
use Rattle.row_json.specs.declared.fault.JsonFault.{JsonFault}
use Rattle.version_core.specs.HubStates.{HubState, newest_number}
use Rattle.version_core.specs.declared.change.BaseVersion.{BaseVersion}
use Rattle.consumer_sync.specs.Filling.{HasToken, request_of}
use Rattle.consumer_sync.specs.Judging.{judged}
use Rattle.exchange_link.specs.Owning.{IsOwnRead}
use Rattle.exchange_link.specs.Requests.{number}
use Rattle.consumer_sync.specs.Staging.{Performs, Taking, taking}
use Rattle.consumer_sync.specs.Staging.Adds.{Stays, Opened, Takes}
use Rattle.consumer_sync.specs.Staging.Performs.{Kept, Grown, Cleared}
use Rattle.exchange_link.proofs.AskLemmas.{grew_on}
use Rattle.exchange_link.proofs.FitLemmas.{copy_on, held_alone}
use Rattle.consumer_sync.proofs.JudgeLemmas.{IsListed, IsPage, IsShut, taken_page}
use Rattle.consumer_sync.proofs.KindLemmas.{place_at}
use Rattle.consumer_sync.proofs.StageLemmas.{pin-stage_after}

-- ---- what the hub said

-- what came for a page: want of memory, a fault of the hub's keeper, or its answer
pub data Given (h : HubState) (p : Page) (rose : Type 0) (w : WireReply) : Type 0 where
  Wants : w.status ≡ 503 → Given h p rose w
  Broke : w.status ≡ 500 → rose → Given h p rose w
  Answers : Tells h p w → Given h p rose w

-- at some state between
pub record IsSaid (before after : LinkState) (p : Page) (w : WireReply) : Type 0 where
  pub mid : HubState
  pub is_hub : IsHub mid
  pub from : Grew before.hub mid
  pub to : Grew mid after.hub
  pub reply : Given mid p (Rose before.hub_faults after.hub_faults) w

pub said_of : (a b : LinkState) (stage : Option StageState) (run count : ℕ) (token : List ℕ) (limit : ℕ) (w : WireReply) → CanAsk (asked_by (next_page token limit stage))
    → IsOwnRead a b (request_of stage run count token limit) w → IsSaid a b (next_page token limit stage) w
said_of a b stage run count token limit w can own = record {
  mid = own.mid;
  is_hub = own.is_hub;
  from = own.from;
  to = grew_on own.step own.to;
  reply = elim own.gives as (λ _. Given own.mid (next_page token limit stage) (Rose a.hub_faults b.hub_faults) w) [
    | GivesWant s ↦ Wants (ap (λ (r : WireReply). r.status) (sym own.seen) ∙ s)
    | GivesFault s x ↦ Broke (ap (λ (r : WireReply). r.status) (sym own.seen) ∙ s) x
    | GivesAnswer at s ↦ Answers (subst (λ r. Tells own.mid (next_page token limit stage) r) own.seen
        (told_of own.mid own.is_hub (next_page token limit stage) (number run count) at own.reply own.left can own.says s))
  ];
}

-- ---- stages and versions

-- a page as the version has it
pub record FromVersion (v : BaseVersion) (token : List ℕ) (limit kinds staged : ℕ) (k : Taking) : Type 0 where
  pub known : knows v token ≡ true
  pub kind : kinds < length (cut v token)
  pub rows : k.rows ≡ take limit (drop staged (list_at v token kinds))
  pub total : k.total ≡ length (list_at v token kinds)
  pub done : k.done ≡ (length k.rows == k.total - staged)

-- a front with the next rows
front_more : (p l rows : List Record) (limit : ℕ) → IsFrontOf p l → rows ≡ take limit (drop (length p) l) → IsFrontOf (p ++ rows) l
front_more p l rows limit f e =
    let r : List Record = f.0 in
    let at : drop (length p) l ≡ r = ap (drop (length p)) (sym f.1) ∙ drop-append_seam p r in
    let e2 : rows ≡ take limit r = e ∙ ap (take limit) at in
    (drop limit r, ap (λ x. (p ++ x) ++ drop limit r) e2 ∙ append_assoc p (take limit r) (drop limit r) ∙ ap (λ x. p ++ x) (take-append-drop limit r) ∙ f.1)

-- the last rows end it
front_whole : (p l : List Record) → IsFrontOf p l → length p ≡ length l → p ≡ l
front_whole p l f e = elim f.0 as (λ (r : List Record). p ++ r ≡ l → p ≡ l) [
  | [] ↦ (λ h. sym (append-nil p) ∙ h)
  | x ∷ xs ↦ (λ h. absurd (omega (arith, ap length h, length-append p (x ∷ xs), e)))
] f.1

page_fits : (s : Stage) (v : BaseVersion) (limit : ℕ) (k : Taking) (done : Bool) → FitsVersion s v → FromVersion v s.token limit (length s.done) (length s.present) k → k.done ≡ done
    → FitsVersion (stage_after s k.rows k.total done) v
page_fits s v limit k false h p e = record {
  known = h.known;
  done = h.done;
  present = front_more s.present (list_at v s.token (length s.done)) k.rows limit h.present p.rows;
  total = p.total;
}
page_fits s v limit k true h p e =
    let l : List Record = list_at v s.token (length s.done) in
    let f : IsFrontOf (s.present ++ k.rows) l = front_more s.present l k.rows limit h.present p.rows in
    let all : length k.rows ≡ k.total - length s.present = grind (arith, nat_tests, sym p.done ∙ e) in
    let fit : length s.present ≤ length l = omega (arith, sym (length-append s.present (h.present).0) ∙ ap length (h.present).1) in
    let whole : s.present ++ k.rows ≡ l = front_whole (s.present ++ k.rows) l f (omega (arith, length-append s.present k.rows, all, p.total, fit)) in
    let more : take (length s.done + 1) (cut v s.token) ≡ s.done ++ (s.present ++ k.rows) ∷ [] =
    take_more (cut v s.token) (length s.done) [] p.kind ∙ ap (λ x. x ++ l ∷ []) h.done ∙ ap (λ (x : List Record). s.done ++ x ∷ []) (sym whole) in
    record {
      known = h.known;
      done = ap (λ n. take n (cut v s.token)) (length-append s.done ((s.present ++ k.rows) ∷ [])) ∙ more;
      present = (_, refl);
      total = tt;
    }

-- the pin is that of the stage, or else not older than the newest version
abbrev pub PinIs : Option StageState → HubState → ℕ → Type 0
PinIs None h v = newest_number h ≤ v
PinIs (Some s) h v = v ≡ s.pin

pin_is : (stage : Option StageState) (a mid : HubState) (v : ℕ) → Grew a mid → v ≡ unwrap_or (pin_of stage) (newest_number mid) → PinIs stage a v
pin_is None a mid v g e = omega (arith, e, g.longer)
pin_is (Some s) a mid v g e = e

-- a page that stands in a state
pub record StandsIn (stage : Option StageState) (before after : HubState) (token : List ℕ) (limit : ℕ) (k : Taking) : Type 0 where
  pub standing : k.pin < length after.published
  pub from : FromVersion (version_at after k.pin) token limit (kinds_of stage) (staged_of stage) k
  pub pin : PinIs stage before k.pin

pub ok_rows : {a b : List Record} → (let x : Result (List Record) JsonFault = Ok a in let y : Result (List Record) JsonFault = Ok b in x ≡ y) → a ≡ b
ok_rows e = cc

read_page : (a mid b : HubState) (stage : Option StageState) (token : List ℕ) (limit v : ℕ) (k : Taking) → Grew a mid → Grew mid b → kinds_of stage < kind_count → IsRead mid (next_page token limit stage) v → v ≡ k.pin
    → k.rows ≡ take limit (drop (staged_of stage) (list_at (version_at mid v) token (kinds_of stage))) → k.total ≡ length (list_at (version_at mid v) token (kinds_of stage)) → k.done ≡ (length k.rows == k.total - staged_of stage) → StandsIn stage a b token limit k
read_page a mid b stage token limit v k g h lt read e rows total done =
    let V = version_at mid v in
    let from : FromVersion V token limit (kinds_of stage) (staged_of stage) k = record {
      known = read.known;
      kind = omega (arith, lt, cut_whole V token);
      rows = rows;
      total = total;
      done = done;
    } in
    record {
      standing = omega (arith, e, read.standing, h.longer);
      from = subst (λ v. FromVersion (version_at b v) token limit (kinds_of stage) (staged_of stage) k) e
          (subst (λ V. FromVersion V token limit (kinds_of stage) (staged_of stage) k) (sym (h.same v read.standing)) from);
      pin = subst (λ v. PinIs stage a v) e (pin_is stage a mid v g read.pinned);
    }

not_page : (stage : Option StageState) (w : WireReply) (k : Taking) (n : ℕ) → w.status ≡ n → n ≢ 200 → n ≢ 403 → IsListed stage w k ⊎ IsShut stage w k → ⊥
not_page stage w k n e a b x = ⊎_elim (λ (f : IsListed stage w k). a (sym e ∙ f.status)) (λ (f : IsShut stage w k). b (sym e ∙ f.status)) x

says_page : (a mid b : HubState) (stage : Option StageState) (token : List ℕ) (limit : ℕ) (w : WireReply) (k : Taking) → Grew a mid → Grew mid b → kinds_of stage < kind_count
    → IsPage stage limit k → IsListed stage w k ⊎ IsShut stage w k → Tells mid (next_page token limit stage) w → StandsIn stage a b token limit k
says_page a mid b stage token limit w k g h lt page from (Unknown st x) = absurd (not_page stage w k 401 st (λ n. omega (arith, n)) (λ n. omega (arith, n)) from)
says_page a mid b stage token limit w k g h lt page from (Gone p by e kn st x y) = absurd (not_page stage w k 404 st (λ n. omega (arith, n)) (λ n. omega (arith, n)) from)
says_page a mid b stage token limit w k g h lt page from (Shut v read st ver none) = ⊎_elim
    (λ (f : IsListed stage w k). let u = f.status in absurd (omega (arith, u, st)))
    (λ (f : IsShut stage w k).
    let none2 : list_at (version_at mid v) token (kinds_of stage) ≡ [] = ap (list_at (version_at mid v) token) (sym (place_at (kinds_of stage) lt)) ∙ none in
    read_page a mid b stage token limit v k g h lt read (same_Some _ _ (sym ver ∙ f.version))
    (f.rows ∙ sym (ap (λ l. take limit (drop (staged_of stage) l)) none2 ∙ ap (λ n. take limit (drop n [])) f.none ∙ nothing limit))
    (f.total ∙ sym (ap length none2)) page.done)
    from
  where
    nothing : (limit : ℕ) → let l : List Record = [] in take limit (drop 0 l) ≡ l
    nothing limit = take_all limit [] (omega arith)
says_page a mid b stage token limit w k g h lt page from (Listed v read st ver tot rows) = ⊎_elim
    (λ (f : IsListed stage w k).
    let at : list_at (version_at mid v) token (place_of_kind (next_kind stage)) ≡ list_at (version_at mid v) token (kinds_of stage) = ap (list_at (version_at mid v) token) (place_at (kinds_of stage) lt) in
    read_page a mid b stage token limit v k g h lt read (same_Some _ _ (sym ver ∙ f.version))
    (ok_rows (sym f.rows ∙ rows) ∙ ap (λ l. take limit (drop (staged_of stage) l)) at) (same_Some _ _ (sym f.total ∙ tot) ∙ ap length at) page.done)
    (λ (f : IsShut stage w k). let u = f.status in absurd (omega (arith, u, st)))
    from

-- the page of an own reply stands in the state after it
pub own_page : (a b : LinkState) (stage : Option StageState) (token : List ℕ) (limit : ℕ) (w : WireReply) (k : Taking) → IsSaid a b (next_page token limit stage) w → kinds_of stage < kind_count
    → taking (judged stage limit w) ≡ Some k → StandsIn stage a.hub b.hub token limit k
own_page a b stage token limit w k own lt e =
    let t = taken_page stage limit w k e in
    elim own.reply as (λ _. StandsIn stage a.hub b.hub token limit k) [
      | Wants st ↦ absurd (not_page stage w k 503 st (λ n. omega (arith, n)) (λ n. omega (arith, n)) t.1)
      | Broke st x ↦ absurd (not_page stage w k 500 st (λ n. omega (arith, n)) (λ n. omega (arith, n)) t.1)
      | Answers s ↦ says_page a.hub own.mid b.hub stage token limit w k own.from own.to lt t.0 t.1 s
    ]

begun_fits : (v : BaseVersion) (pin : ℕ) (token : List ℕ) → knows v token ≡ true → FitsVersion (begun pin token) v
begun_fits v pin token e = record { known = e; done = refl; present = (list_at v token 0, refl); total = tt }

after_agrees : (s : Stage) (h : HubState) (limit : ℕ) (k : Taking) → StageFits s h → FromVersion (version_at h s.pin) s.token limit (length s.done) (length s.present) k → StageFits (stage_after s k.rows k.total k.done) h
after_agrees s h limit k x from =
    let e = pin-stage_after s k.rows k.total k.done in
    record {
      standing = subst (λ p. p < length h.published) (sym e) x.standing;
      fits = subst (λ p. FitsVersion (stage_after s k.rows k.total k.done) (version_at h p)) (sym e) (page_fits s (version_at h s.pin) limit k k.done x.fits from refl);
    }

-- a stage, opened or there already
pub opened_agrees : (o : Option Stage) (a h : HubState) (token : List ℕ) (limit : ℕ) (k : Taking) → StageFitsIf o h → StandsIn (option_map state_of o) a h token limit k → StageFits (unwrap_or o (begun k.pin token)) h
opened_agrees None a h token limit k x y = record { standing = y.standing; fits = begun_fits (version_at h k.pin) k.pin token y.from.known }
opened_agrees (Some s) a h token limit k x y = x

-- and with the page
pub taken_agrees : (o : Option Stage) (a h : HubState) (token : List ℕ) (limit : ℕ) (k : Taking) → HasToken token (option_map state_of o) → StageFitsIf o h → StandsIn (option_map state_of o) a h token limit k
    → StageFits (stage_after (unwrap_or o (begun k.pin token)) k.rows k.total k.done) h
taken_agrees None a h token limit k et x y = after_agrees (begun k.pin token) h limit k (opened_agrees None a h token limit k x y) y.from
taken_agrees (Some s) a h token limit k et x y = after_agrees s h limit k x
    (subst (λ t. FromVersion (version_at h s.pin) t limit (length s.done) (length s.present) k) (sym et)
    (subst (λ p. FromVersion (version_at h p) token limit (length s.done) (length s.present) k) y.pin y.from))

-- what is held isn't newer than a stage that is opened
held_opened : (o : Option Held) (stage : Option Stage) (a b : HubState) (pin : ℕ) (token : List ℕ) → HeldFitsIf o stage a → HeldFitsIf o stage b → PinIs (option_map state_of stage) a pin
    → HeldFitsIf o (Some (unwrap_or stage (begun pin token))) b
held_opened None stage a b pin token x z p = tt
held_opened (Some held) None a b pin token x z p = record { standing = z.standing; below = (let stands = x.standing in omega (arith, stands, p)); seen = z.seen }
held_opened (Some held) (Some s) a b pin token x z p = z

-- nor than one with a page more
pub held_taken : (o : Option Held) (s : Stage) (rows : List Record) (total : ℕ) (done : Bool) (h : HubState) → HeldFitsIf o (Some s) h → HeldFitsIf o (Some (stage_after s rows total done)) h
held_taken None s rows total done h x = tt
held_taken (Some held) s rows total true h x = record { standing = x.standing; below = x.below; seen = x.seen }
held_taken (Some held) s rows total false h x = record { standing = x.standing; below = x.below; seen = x.seen }

-- whatever a reply makes of the copy, it fits
pub performs_agrees : (c after : Copy) (a b : LinkState) (stage : Option StageState) (token : List ℕ) (limit : ℕ) (w : WireReply) (result : Option SyncAnswer) → stage_of c ≡ stage → HasToken token stage → Grew a.hub b.hub → CopyFits c a.hub
    → IsSaid a b (next_page token limit stage) w → kinds_of stage < kind_count → Performs (judged stage limit w) token result c after → CopyFits after b.hub
performs_agrees c after a b stage token limit w result e et grew x own lt (Kept n known h) = subst (λ (d : Copy). CopyFits d b.hub) (sym h) (copy_on c a.hub b.hub grew x)
performs_agrees c after a b stage token limit w result e et grew x own lt (Cleared n m h) =
    let z = copy_on c a.hub b.hub grew x in
    subst (λ (d : Copy). CopyFits d b.hub) (sym h) (record { stage = tt; held = held_alone c.held c.stage b.hub z.held })
performs_agrees c after a b stage token limit w result e et grew x own lt (Grown k t g) =
    let y = subst (λ st. StandsIn st a.hub b.hub token limit k) (sym e) (own_page a b stage token limit w k own lt t) in
    let et2 = subst (λ st. HasToken token st) (sym e) et in
    let z = copy_on c a.hub b.hub grew x in
    let opened = held_opened c.held c.stage a.hub b.hub k.pin token x.held z.held y.pin in
    elim g as (λ _. CopyFits after b.hub) [
      | Stays n h ↦ subst (λ (d : Copy). CopyFits d b.hub) (sym h) z
      | Opened n h ↦ subst (λ (d : Copy). CopyFits d b.hub) (sym h) (record { stage = opened_agrees c.stage a.hub b.hub token limit k z.stage y; held = opened })
      | Takes n h ↦ subst (λ (d : Copy). CopyFits d b.hub) (sym h)
          (record { stage = taken_agrees c.stage a.hub b.hub token limit k et2 z.stage y; held = held_taken c.held (unwrap_or c.stage (begun k.pin token)) k.rows k.total k.done b.hub opened })
    ]
