-- Kind after kind, over a link that tells.
use Rattle.std.proofs.Common.{◌≡◌, ◌⊎◌, ⊎_elim, inl, inr, ◌+◌, ◌-◌, ◌*◌, ◌<◌, ◌≤◌, ℕ, [], ◌∷◌, drop, List, length}
use Rattle.std.proofs.Common.{Option, Some, None, refl, sym, subst, ap, ◌∙◌, arith, max}
use Rattle.std.specs.Prelude.{IfSome, option_map}
use Rattle.std.proofs.Math.Nat.{mul-le-mul_left}
use Rattle.std.proofs.lemmas.List.{drop_more}
use Rattle.std.proofs.lemmas.Option.{none-some, same_Some}
use Rattle.keeper_memory.specs.copy.Copies.{Copy, Stage}
use Rattle.keeper_memory.specs.copy.Lists.{kind_count}
use Rattle.keeper_memory.specs.copy.States.{stage_of, state_of}
use Rattle.keeper_memory.specs.declared.copy.state.StageState.{StageState}
use Rattle.exchange_link.proofs.AskLemmas.{cause_more, grew_on}
use Rattle.exchange_link.specs.Agreement.{CopyFits, StageFitsIf}
use Rattle.exchange_link.specs.Bounds.{pages}
use Rattle.exchange_link.specs.Exchanges.{LinkState}
use Rattle.exchange_link.specs.Places.{kind_at, kinds_of, next_kind, pin_of}
use Rattle.exchange_link.specs.Requests.{Moved}
use Rattle.exchange_link.specs.Synchronised.{StageOn}
use Rattle.exchange_link.specs.declared.answer.SyncAnswer.{SyncAnswer}
use Rattle.exchange_link.specs.declared.answer.SyncAnswer.TheVariants as answer
use Rattle.hub_spec.specs.rules.Checks.{version_at}
use Rattle.hub_spec.specs.rules.Growth.{Grew}
use Rattle.hub_spec.specs.views.Deltas.{delta as what_differs}
use Rattle.roster_values.specs.Kinds.{all_kinds}
use Rattle.roster_values.specs.declared.kind.Kind.TheVariants.{Orgs}
use Rattle.version_core.specs.HubStates.{HubState}
use Rattle.consumer_sync.proofs.BoundLemmas.{times_some}
use Rattle.consumer_sync.specs.Filling.{PinLaw, StageEnds}
use Rattle.consumer_sync.specs.Judging.{kind_done}
use Rattle.consumer_deltas.proofs.DeltaAgreeLemmas.{IsBase, base_stands}
use Rattle.consumer_deltas.specs.DeltaAnswers.{DeltaTold, HasBase}
use Rattle.consumer_deltas.specs.DeltaCalls.{DeltaBounded, IsNewPin, delta_pages, delta_work}
use Rattle.consumer_deltas.specs.DeltaFilling.{BasedBehind, DeltaEnds, FillTold, GoneBehind, KindTold, NamesPinIf}
use Rattle.consumer_deltas.specs.DeltaFilling.{StaysBased}
use Rattle.consumer_deltas.specs.DeltaTelling.{GonePin, IsPinFrom, NamesPin}
use Rattle.consumer_deltas.specs.declared.answer.DeltaAnswer.{DeltaAnswer}
use Rattle.consumer_deltas.specs.declared.answer.DeltaAnswer.TheVariants.{BaseGone, Ended, NoBase}

-- ---- what is held, and where the pin is

abbrev StandsIf : Option StageState → HubState → Type 0
StandsIf None h = Unit {0}
StandsIf (Some s) h = s.pin < length h.published

stands_by : (o : Option Stage) (h : HubState) → StageFitsIf o h → StandsIf (option_map state_of o) h
stands_by None h x = tt
stands_by (Some s) h x = x.standing

stands_on : (stage : Option StageState) (a b : HubState) → Grew a b → StandsIf stage a → StandsIf stage b
stands_on None a b g x = tt
stands_on (Some s) a b g x = omega (arith, x, g.longer)

pin_goes_on : (first old new : Option StageState) (start mid : HubState) (v : ℕ) → PinLaw first start old → Grew start mid → IsPinFrom (pin_of old) mid v → pin_of new ≡ Some v → PinLaw first start new
pin_goes_on first old None start mid v law g from e = absurd (none-some _ e)
pin_goes_on None None (Some s) start mid v law g from e = let at : s.pin ≡ v = same_Some _ _ e in omega (arith, at, from, g.longer)
pin_goes_on None (Some o) (Some s) start mid v law g from e = let at : s.pin ≡ v = same_Some _ _ e in omega (arith, at, from, law)
pin_goes_on (Some f) None new start mid v law g from e = absurd law
pin_goes_on (Some f) (Some o) (Some s) start mid v law g from e = same_Some _ _ e ∙ from ∙ law

gone_behind : (first old : Option StageState) (start mid : HubState) (a : DeltaAnswer) → PinLaw first start old → Grew start mid → GonePin (pin_of old) mid a → GoneBehind first start a
gone_behind None None start mid (Ended (answer.PinGone pin oldest)) law g gone = omega (arith, gone, g.longer)
gone_behind None (Some o) start mid (Ended (answer.PinGone pin oldest)) law g gone = omega (arith, gone, law)
gone_behind (Some f) None start mid (Ended (answer.PinGone pin oldest)) law g gone = absurd law
gone_behind (Some f) (Some o) start mid (Ended (answer.PinGone pin oldest)) law g gone = omega (arith, gone, law)
gone_behind first old start mid a law g gone = tt

-- ---- how many exchanges

-- the bound so far: with the stage that stands now
abbrev pub SoFar : ℕ → ℕ → ℕ → List ℕ → ℕ → Option StageState → Option StageState → HubState → Type 0
SoFar n tries limit token base first None h = n ≡ 0
SoFar n tries limit token base first (Some s) h = n + tries * delta_work limit token (Some s) h base s.pin ≤ tries * delta_work limit token first h base s.pin

-- a version stands in later states as it is
work_same : (limit : ℕ) (token : List ℕ) (stage : Option StageState) (a b : HubState) (base pin : ℕ) → Grew a b → base < length a.published → pin < length a.published → delta_work limit token stage b base pin ≡ delta_work limit token stage a base pin
work_same limit token stage a b base pin g low stands = λ i. delta_pages limit token (g.same base low i) (g.same pin stands i) (drop (kinds_of stage) all_kinds)

-- the next kind, and those behind it
kinds_next : (k : ℕ) → k < kind_count → drop k all_kinds ≡ kind_at k ∷ drop (k + 1) all_kinds
unfolding kind_at
kinds_next k lt = drop_more all_kinds k Orgs lt

work_next : (limit : ℕ) (token : List ℕ) (old new : Option StageState) (h : HubState) (base pin : ℕ) → kinds_of old < kind_count → kinds_of new ≡ kinds_of old + 1
    → delta_work limit token old h base pin ≡ max 1 (pages limit (length (what_differs (version_at h base) (version_at h pin) token (next_kind old)))) + delta_work limit token new h base pin
work_next limit token old new h base pin lt next =
    ap (delta_pages limit token (version_at h base) (version_at h pin)) (kinds_next (kinds_of old) lt)
    ∙ ap (λ k. max 1 (pages limit (length (what_differs (version_at h base) (version_at h pin) token (next_kind old)))) + delta_pages limit token (version_at h base) (version_at h pin) (drop k all_kinds)) (sym next)

-- the same in numbers: the tries `t`, the exchanges `n` before and `m` of a kind, its pages `p`, the work `w` before
-- and `w'` behind, and the whole work `f`
first_num : (n m t p w w' : ℕ) → n ≡ 0 → m ≤ t * p → w ≡ p + w' → n + m + t * w' ≤ t * w
first_num n m t p w w' so few e = let x : t * w ≡ t * p + t * w' = ap (λ w. t * w) e ∙ grind arith in omega (arith, so, few, x)

next_num : (n m t p w w' f : ℕ) → n + t * w ≤ t * f → m ≤ t * p → w ≡ p + w' → n + m + t * w' ≤ t * f
next_num n m t p w w' f so few e = let x : t * w ≡ t * p + t * w' = ap (λ w. t * w) e ∙ grind arith in omega (arith, so, few, x)

moved_num : (n t w w' f f' : ℕ) → w' ≡ w → f' ≡ f → n + t * w ≤ t * f → n + t * w' ≤ t * f'
moved_num n t w w' f f' e g so = subst (λ x. n + t * w' ≤ t * x) (sym g) (subst (λ x. n + t * x ≤ t * f) (sym e) so)

some_num : (p w w' : ℕ) → w ≡ max 1 p + w' → (1 ≤ w) × (p ≤ w)
some_num p w w' e = (omega (arith, e), omega (arith, e))

last_num : (n m t p w f : ℕ) → n + t * w ≤ t * f → 1 ≤ w → p ≤ w → (m ≤ t) ⊎ (m ≤ t * p) → n + m ≤ t * f
last_num n m t p w f so some le x =
    let few : m ≤ t * w = ⊎_elim (λ (few : m ≤ t). let y = times_some t w some in omega (arith, few, y)) (λ (few : m ≤ t * p). let y = mul-le-mul_left t le in omega (arith, few, y)) x in
    omega (arith, so, few)

new_num : (n m t p w : ℕ) → n ≡ 0 → m ≤ t * p → p ≤ w → n + m ≤ t * w
new_num n m t p w so few le = let y = mul-le-mul_left t le in omega (arith, so, few, y)

done_num : (n t w f : ℕ) → n + t * w ≤ t * f → n ≤ t * f
done_num n t w f so = omega (arith, so)

module _ (tries limit : ℕ) (token : List ℕ) (base : ℕ) where
  abbrev work_left : Option StageState → HubState → ℕ → ℕ
  work_left stage h pin = delta_work limit token stage h base pin

  abbrev pages_next : Option StageState → HubState → ℕ → ℕ
  pages_next old h pin = pages limit (length (what_differs (version_at h base) (version_at h pin) token (next_kind old)))

  -- behind one kind more
  so_on : (n m v : ℕ) (first old new : Option StageState) (start a b : HubState) → SoFar n tries limit token base first old a → PinLaw first start old → Grew a b → base < length a.published → StandsIf old a
      → kinds_of old < kind_count → kinds_of new ≡ kinds_of old + 1 → pin_of new ≡ Some v → IsPinFrom (pin_of old) a v → m ≤ tries * max 1 (pages_next old b v) → SoFar (n + m) tries limit token base first new b
  so_on n m v first old None start a b so law g low stands lt next e from few = absurd (none-some _ e)
  so_on n m v (Some f) None new start a b so law g low stands lt next e from few = absurd law
  so_on n m v None None (Some s) start a b so law g low stands lt next e from few =
      let few' : m ≤ tries * max 1 (pages_next None b s.pin) = subst (λ v. m ≤ tries * max 1 (pages_next None b v)) (sym (same_Some _ _ e)) few in
      first_num n m tries (max 1 (pages_next None b s.pin)) (work_left None b s.pin) (work_left (Some s) b s.pin) so few' (work_next limit token None (Some s) b base s.pin lt next)
  so_on n m v first (Some o) (Some s) start a b so law g low stands lt next e from few =
      let ps : o.pin ≡ s.pin = sym from ∙ sym (same_Some _ _ e) in
      let few' : m ≤ tries * max 1 (pages_next (Some o) b s.pin) = subst (λ v. m ≤ tries * max 1 (pages_next (Some o) b v)) (sym (same_Some _ _ e)) few in
      let moved : n + tries * work_left (Some o) b o.pin ≤ tries * work_left first b o.pin =
      moved_num n tries (work_left (Some o) a o.pin) (work_left (Some o) b o.pin) (work_left first a o.pin) (work_left first b o.pin) (work_same limit token (Some o) a b base o.pin g low stands) (work_same limit token first a b base o.pin g low stands) so in
      let at : n + tries * work_left (Some o) b s.pin ≤ tries * work_left first b s.pin = subst (λ p. n + tries * work_left (Some o) b p ≤ tries * work_left first b p) ps moved in
      next_num n m tries (max 1 (pages_next (Some o) b s.pin)) (work_left (Some o) b s.pin) (work_left (Some s) b s.pin) (work_left first b s.pin) at few' (work_next limit token (Some o) (Some s) b base s.pin lt next)

  most_by : (n m : ℕ) (first : Option StageState) (o : StageState) (a b : HubState) → SoFar n tries limit token base first (Some o) a → Grew a b → base < length a.published → o.pin < length a.published → o.kinds_done < kind_count
      → (m ≤ tries) ⊎ (m ≤ tries * pages_next (Some o) b o.pin) → n + m ≤ tries * work_left first b o.pin
  most_by n m first o a b so g low stands lt x =
      let next : Option StageState = Some (record o { kinds_done = o.kinds_done + 1 }) in
      let some = some_num (pages_next (Some o) b o.pin) (work_left (Some o) b o.pin) (work_left next b o.pin) (work_next limit token (Some o) next b base o.pin lt refl) in
      let moved : n + tries * work_left (Some o) b o.pin ≤ tries * work_left first b o.pin =
      moved_num n tries (work_left (Some o) a o.pin) (work_left (Some o) b o.pin) (work_left first a o.pin) (work_left first b o.pin) (work_same limit token (Some o) a b base o.pin g low stands) (work_same limit token first a b base o.pin g low stands) so in
      last_num n m tries (pages_next (Some o) b o.pin) (work_left (Some o) b o.pin) (work_left first b o.pin) moved some.0 some.1 x

  abbrev IsLast : Option StageState → (ℕ → Type 0) → Copy → HubState → HubState → ℕ → Type 0
  IsLast old names c a b m = (m ≤ tries) ⊎ ((v : ℕ) × IsPinFrom (pin_of old) a v × (v < length b.published) × names v × IfSome c.stage (λ x. x.pin ≡ v) × (m ≤ tries * pages_next old b v))

  last_by : (o : StageState) (names : ℕ → Type 0) (c : Copy) (a b : HubState) (m : ℕ) → IsLast (Some o) names c a b m → (m ≤ tries) ⊎ (m ≤ tries * pages_next (Some o) b o.pin)
  last_by o names c a b m x = ⊎_elim (λ (few : m ≤ tries). inl few) (λ y. inr (subst (λ v. m ≤ tries * pages_next (Some o) b v) y.1 y.5)) x

  new_by : (n m : ℕ) (names : ℕ → Type 0) (c : Copy) (start a b : HubState) → n ≡ 0 → Grew start a → IsLast None names c a b m → DeltaBounded (n + m) tries limit token base None (IsNewPin names c start b) b
  new_by n m names c start a b so g x = ⊎_elim (λ (few : m ≤ tries). inl (omega (arith, so, few)))
      (λ y.
      let next : Option StageState = Some (record { pin = y.0; token = token; kinds_done = 1; staged = 0; total = None; last = None }) in
      let some = some_num (pages_next None b y.0) (work_left None b y.0) (work_left next b y.0) (work_next limit token None next b base y.0 (omega arith) refl) in
      inr (y.0, record { newest = omega (arith, y.1, g.longer); standing = y.2; named = y.3; stage = y.4 }, new_num n m tries (pages_next None b y.0) (work_left None b y.0) so y.5 some.1)) x

  -- at an answer, with the tries of one request more, or those of the kind's pages
  so_end : (n m : ℕ) (first old : Option StageState) (names : ℕ → Type 0) (c : Copy) (start a b : HubState) → SoFar n tries limit token base first old a → PinLaw first start old → Grew start a → Grew a b → base < length a.published → StandsIf old a
      → kinds_of old < kind_count → ((s : StageState) → old ≡ Some s → names s.pin × IfSome c.stage (λ x. x.pin ≡ s.pin)) → IsLast old names c a b m → DeltaBounded (n + m) tries limit token base first (IsNewPin names c start b) b
  so_end n m None None names c start a b so law g h low stands lt named x = new_by n m names c start a b so g x
  so_end n m None (Some o) names c start a b so law g h low stands lt named x =
      let at = named o refl in
      inr (o.pin, record { newest = law; standing = omega (arith, stands, h.longer); named = at.0; stage = at.1 }, most_by n m None o a b so h low stands lt (last_by o names c a b m x))
  so_end n m (Some f) None names c start a b so law g h low stands lt named x = absurd law
  so_end n m (Some f) (Some o) names c start a b so law g h low stands lt named x = subst (λ p. n + m ≤ tries * work_left (Some f) b p) law (most_by n m (Some f) o a b so h low stands lt (last_by o names c a b m x))

  -- or where all kinds are done
  so_done : (n : ℕ) (first last : Option StageState) (c : Copy) (start b : HubState) → SoFar n tries limit token base first last b → PinLaw first start last → StandsIf last b
      → ((s : StageState) → last ≡ Some s → IfSome c.stage (λ x. x.pin ≡ s.pin)) → DeltaBounded n tries limit token base first (IsNewPin (NamesPinIf None) c start b) b
  so_done n None None c start b so law stands left = inl (omega (arith, so))
  so_done n None (Some o) c start b so law stands left = inr (o.pin, record { newest = law; standing = stands; named = tt; stage = left o refl }, done_num n tries (work_left (Some o) b o.pin) (work_left None b o.pin) so)
  so_done n (Some f) None c start b so law stands left = absurd law
  so_done n (Some f) (Some o) c start b so law stands left = subst (λ p. n ≤ tries * work_left (Some f) b p) law (done_num n tries (work_left (Some o) b o.pin) (work_left (Some f) b o.pin) so)

-- ---- the pin of the stage that is left

on_pinned : (token : List ℕ) (o n : Option Stage) (s : StageState) → option_map state_of o ≡ Some s → StageOn token o n → IfSome n (λ x. x.pin ≡ s.pin)
on_pinned token None n s e x = absurd (none-some _ e)
on_pinned token (Some f) None s e x = tt
on_pinned token (Some f) (Some g) s e x = x.pin ∙ ap (λ (y : StageState). y.pin) (same_Some _ _ e)

end_pinned : (token : List ℕ) (e : SyncAnswer) (o n : Option Stage) (s : StageState) → option_map state_of o ≡ Some s → StageEnds token (Some e) o n → IfSome n (λ x. x.pin ≡ s.pin)
end_pinned token (answer.PinGone pin oldest) o n s is x = subst (λ (m : Option Stage). IfSome m (λ x. x.pin ≡ s.pin)) (sym x) tt
end_pinned token answer.KeeperFault o n s is x = ⊎_elim (λ (on : StageOn token o n). on_pinned token o n s is on) (λ (none : n ≡ None). subst (λ (m : Option Stage). IfSome m (λ x. x.pin ≡ s.pin)) (sym none) tt) x
end_pinned token e o n s is x = on_pinned token o n s is x

pub left_pinned : (token : List ℕ) (base : ℕ) (a : DeltaAnswer) (before c : Copy) (old : Option StageState) → stage_of before ≡ old → DeltaEnds token base (Some a) before c → (s : StageState) → old ≡ Some s → IfSome c.stage (λ x. x.pin ≡ s.pin)
left_pinned token base (Ended e) before c old is x s at = end_pinned token e before.stage c.stage s (is ∙ at) x.stage
left_pinned token base (BaseGone held oldest) before c old is x s at = on_pinned token before.stage c.stage s (is ∙ at) x.1.stage
left_pinned token base NoBase before c old is x s at = absurd x

stage_pinned : (o : Option Stage) (s : StageState) → option_map state_of o ≡ Some s → IfSome o (λ x. x.pin ≡ s.pin)
stage_pinned None s e = tt
stage_pinned (Some f) s e = ap (λ (y : StageState). y.pin) (same_Some _ _ e)

-- ---- what they tell

pub told_more : (token : List ℕ) (z a b : LinkState) (e : DeltaAnswer) → Moved z a → DeltaTold token a b e → DeltaTold token z b e
told_more token z a b (Ended s) m x = cause_more token z a b s m x
told_more token z a b NoBase m x = tt
told_more token z a b (BaseGone held oldest) m x = (x.0, grew_on m.grew x.1, x.2, x.3, x.4, x.5, x.6)

names_of : (h : HubState) (a : DeltaAnswer) (s : StageState) → GonePin (Some s.pin) h a → NamesPin a s.pin
names_of h (Ended (answer.PinGone pin oldest)) s gone = sym gone
names_of h a s gone = tt

names_as : (h : HubState) (a : DeltaAnswer) (old : Option StageState) → GonePin (pin_of old) h a → (s : StageState) → old ≡ Some s → NamesPin a s.pin
names_as h a old gone s e = names_of h a s (subst (λ o. GonePin (pin_of o) h a) e gone)

based_behind : (first old : Option StageState) (h : HubState) (c : Copy) (a : DeltaAnswer) → PinLaw first h old → StaysBased old c a → BasedBehind first h c a
based_behind first old h c (BaseGone held oldest) law e = subst (λ s. PinLaw first h s) (sym e) law
based_behind first old h c a law e = tt

stands_as : (c : Copy) (old : Option StageState) (h : HubState) → stage_of c ≡ old → CopyFits c h → StandsIf old h
stands_as c old h e fits = subst (λ s. StandsIf s h) e (stands_by c.stage h fits.stage)

-- where the kinds stand before the next one: the copy with which it begins, what the link told at first and then
pub record BeforeKind (token : List ℕ) (limit tries base n : ℕ) (first old : Option StageState) (start told : LinkState) (before : Copy) : Type 0 where
  pub stage_is : stage_of before ≡ old
  pub fits : CopyFits before told.hub
  pub has : HasBase base token before
  pub room : kinds_of old < kind_count
  pub law : PinLaw first start.hub old
  pub so_far : SoFar n tries limit token base first old told.hub
  pub moved : Moved start told

pub count_same : (n m : ℕ) → n ≤ m → (Q : ℕ → Type 0) → Q (n + (m - n)) → Q m
count_same n m le Q x = let e : n + (m - n) ≡ m = omega (arith, le) in subst Q e x

module _ {token : List ℕ} {limit tries base n : ℕ} {first old : Option StageState} {start told : LinkState} {before : Copy} (here : BeforeKind token limit tries base n first old start told before) where
  low : base < length told.hub.published
  low = base_stands before.held before.stage told.hub base token here.fits.held here.has

  stood : StandsIf old told.hub
  stood = stands_as before old told.hub here.stage_is here.fits

  -- a kind with which the call ends
  kind_end : {m : ℕ} {new : Option StageState} {tells : LinkState} {after : Copy} (a : DeltaAnswer) → KindTold token limit tries base m old new (Some a) told tells after → Grew told.hub tells.hub
      → ((s : StageState) → old ≡ Some s → IfSome after.stage (λ x. x.pin ≡ s.pin)) → FillTold token limit tries base (n + m) first new (Some a) start tells after
  kind_end {m} {new} {tells} {after} a kind grew left = record {
    fits = kind.fits;
    pin = λ none. absurd (none-some _ (sym none));
    cause = told_more token start told tells a here.moved kind.cause;
    gone = gone_behind first old start.hub told.hub a here.law here.moved.grew kind.gone;
    stays = based_behind first old start.hub after a here.law kind.stays;
    bound = so_end tries limit token base n m first old (NamesPin a) after start.hub told.hub tells.hub here.so_far here.law here.moved.grew grew low stood here.room (λ s at. (names_as told.hub a old kind.gone s at, left s at)) kind.bound;
  }

  -- the same for any result; the copy from which the kind's comes may be another with the same stage
  pub kind_end_if : (m : ℕ) {new : Option StageState} {tells : LinkState} {after : Copy} (result : Option DeltaAnswer) → (result ≡ None → ⊥) → KindTold token limit tries base (m - n) old new result told tells after
      → n ≤ m → Grew told.hub tells.hub → (other : Copy) → stage_of other ≡ old → DeltaEnds token base result other after → FillTold token limit tries base m first new result start tells after
  kind_end_if m {new} {tells} {after} None not kind le grew other is ends = absurd (not refl)
  kind_end_if m {new} {tells} {after} (Some a) not kind le grew other is ends =
      count_same n m le (λ x. FillTold token limit tries base x first new (Some a) start tells after)
      (kind_end a kind grew (left_pinned token base a other after old is ends))

  -- one behind which it goes on
  pub kind_on : {m : ℕ} {new : Option StageState} {tells : LinkState} {after : Copy} → KindTold token limit tries base m old new None told tells after → Grew told.hub tells.hub → kinds_of new ≡ kinds_of old + 1
      → PinLaw first start.hub new × SoFar (n + m) tries limit token base first new tells.hub
  kind_on {m} {new} {tells} {after} kind grew next =
      let bound = kind.bound in (
        pin_goes_on first old new start.hub told.hub bound.0 here.law here.moved.grew bound.2 bound.1,
        so_on tries limit token base n m bound.0 first old new start.hub told.hub tells.hub here.so_far here.law grew low stood here.room next bound.1 bound.2 bound.3,
      )

-- all kinds are done
pub all_told : (token : List ℕ) (limit tries base n : ℕ) (first last : Option StageState) (start t : LinkState) (c : Copy) → stage_of c ≡ last → CopyFits c t.hub → PinLaw first start.hub last → SoFar n tries limit token base first last t.hub
    → FillTold token limit tries base n first last None start t c
all_told token limit tries base n first last start t c e fits law so = record {
  fits = fits;
  pin = λ _. law;
  cause = tt;
  gone = tt;
  stays = tt;
  bound = so_done tries limit token base n first last c start.hub t.hub so law (stands_as c last t.hub e fits) (λ s at. stage_pinned c.stage s (e ∙ at));
}

-- before the first kind
pub none_told : (tries limit : ℕ) (token : List ℕ) (base : ℕ) (stage : Option StageState) (h : HubState) → SoFar 0 tries limit token base stage stage h
none_told tries limit token base None h = refl
none_told tries limit token base (Some s) h = none_num (tries * delta_work limit token (Some s) h base s.pin)
  where
    none_num : (x : ℕ) → 0 + x ≤ x
    none_num x = omega arith

pub same_pin : (stage : Option StageState) (h : HubState) → PinLaw stage h stage
same_pin None h = tt
same_pin (Some s) h = refl

-- ---- in the loop

pub kinds_paged : (stage : Option StageState) (v : ℕ) (token : List ℕ) → kinds_of (Some (kind_done stage v token)) ≡ kinds_of stage + 1
kinds_paged None v token = refl
kinds_paged (Some s) v token = refl

pub held_on : (base : ℕ) (token : List ℕ) (a b : Copy) → b.held ≡ a.held → HasBase base token a → HasBase base token b
held_on base token a b e has = subst (λ o. IsBase base token o) (sym e) has
