-- A copy in which a kind is staged fits the state of the hub.
use Rattle.std.proofs.Common.{◌≡◌, ◌≢◌, ◌-◌, ◌<◌, ◌≤◌, ◌⊎◌, inr, ℕ, true, false, List, [], ◌++◌, length, drop, Option}
use Rattle.std.proofs.Common.{Some, None, refl, sym, ◌∙◌, ap, subst, arith, length-append, append_assoc}
use Rattle.std.specs.Prelude.{◌==◌, IfSome, IsSomeAnd, get_or, option_map, unwrap_or}
use Rattle.std.specs.Option.{option_map_or}
use Rattle.std.proofs.Math.Seq.{drop-append_seam}
use Rattle.std.proofs.lemmas.Bool.Decides.{nat_tests}
use Rattle.std.proofs.lemmas.List.{length-drop, take_all}
use Rattle.keeper_memory.specs.copy.Changes.{begun, stage_after}
use Rattle.keeper_memory.specs.copy.Copies.{Copy, Held, Stage, held_list}
use Rattle.keeper_memory.specs.copy.Lists.{ascends, kind_count}
use Rattle.keeper_memory.specs.copy.States.{stage_of, state_of}
use Rattle.keeper_memory.specs.declared.copy.state.StageState.{StageState}
use Rattle.exchange_link.proofs.CutLemmas.{IsGood, cut_whole, list_good}
use Rattle.exchange_link.specs.Agreement.{AreSeen, CopyFits, HeldFitsIf, IsFrontOf, StageFits, StageFitsIf}
use Rattle.exchange_link.specs.Places.{kind_at, kinds_of, next_kind, pin_of, staged_of}
use Rattle.exchange_link.specs.Sayings.{knows, list_at}
use Rattle.exchange_link.specs.declared.answer.SyncAnswer.{SyncAnswer}
use Rattle.hub_spec.proofs.CutDeltas.{cut_to_cut}
use Rattle.hub_spec.proofs.Versions.{version_is}
use Rattle.hub_spec.specs.rules.Checks.{version_at}
use Rattle.hub_spec.specs.rules.States.{IsHub}
use Rattle.hub_spec.specs.views.Cuts.{list_in}
use Rattle.roster_types.specs.Records.{Record}
use Rattle.roster_values.specs.Kinds.{place_of_kind}
use Rattle.roster_values.specs.declared.kind.Kind.{Kind}
use Rattle.row_deltas.specs.Deltas.{merged}
use Rattle.version_core.specs.HubStates.{HubState}
use Rattle.version_core.specs.Version.{IsVersion}
use Rattle.consumer_sync.proofs.AgreeLemmas.{PinIs, StandsIn, held_taken, taken_agrees}
use Rattle.consumer_sync.proofs.KindLemmas.{place_at}
use Rattle.consumer_sync.specs.Filling.{HasToken}
use Rattle.consumer_sync.specs.Staging.{Adds, IsBroken, Taking, open_copy, taken}
use Rattle.consumer_sync.specs.Staging.Adds.{Opened, Stays, Takes}
use Rattle.consumer_deltas.proofs.DeltaFollowLemmas.{following_all, following_rest}
use Rattle.consumer_deltas.specs.DeltaAnswers.{HasBase}
use Rattle.consumer_deltas.specs.DeltaFilling.{StagesKind, first_place, no_page}
use Rattle.consumer_deltas.specs.DeltaGathering.{IsDelta, IsShutAt}
use Rattle.consumer_deltas.specs.DeltaJudging.{Sofar}
use Rattle.consumer_deltas.specs.DeltaMerging.{Merges, StagesList, merged_with, rest_of}
use Rattle.consumer_deltas.specs.DeltaMerging.Merges.{Fails, Merged}
use Rattle.consumer_deltas.specs.DeltaMerging.StagesList.{Staged, TooMany}
use Rattle.consumer_deltas.specs.DeltaStaging.{Stages, following, part_of}
use Rattle.consumer_deltas.specs.DeltaStaging.Stages.{Opens, Part, Stays as StaysAll, Whole}
use Rattle.consumer_deltas.specs.DeltaTelling.{IsPinFrom, MayAsk, Tells}
use Rattle.consumer_deltas.specs.declared.gathering.Delta.{Delta}
use Rattle.consumer_deltas.specs.declared.gathering.Delta.TheVariants as delta

-- ---- what may be asked for

abbrev pub IsBase : ℕ → List ℕ → Option Held → Type 0
IsBase base token o = IsSomeAnd o (λ held. (held.version ≡ base) × (held.token ≡ Some token))

pub base_stands : (o : Option Held) (stage : Option Stage) (h : HubState) (base : ℕ) (token : List ℕ) → HeldFitsIf o stage h → IsBase base token o → base < length h.published
base_stands None stage h base token x has = absurd has
base_stands (Some held) stage h base token x has = subst (λ n. n < length h.published) has.0 x.standing

pin_stands : (held : Option Held) (stage : Option Stage) (h : HubState) (base : ℕ) (token : List ℕ) → StageFitsIf stage h → HeldFitsIf held stage h → IsBase base token held
    → IfSome (pin_of (option_map state_of stage)) (λ pin. (pin < length h.published) × (base ≤ pin))
pin_stands held None h base token x y has = tt
pin_stands None (Some s) h base token x y has = absurd has
pin_stands (Some held) (Some s) h base token x y has = (x.standing, subst (λ n. n ≤ s.pin) has.0 y.below)

-- the next list of a stage, under its token
list_as_asked : (s : Stage) (h : HubState) (token : List ℕ) → s.token ≡ token → length s.done < kind_count
    → list_at (version_at h s.pin) token (place_of_kind (kind_at (length s.done))) ≡ list_at (version_at h s.pin) s.token (length s.done)
list_as_asked s h token et lt = ap (list_at (version_at h s.pin) token) (place_at (length s.done) lt) ∙ ap (λ t. list_at (version_at h s.pin) t (length s.done)) (sym et)

staged_some : (stage : Option Stage) (h : HubState) (token : List ℕ) → HasToken token (option_map state_of stage) → StageFitsIf stage h → kinds_of (option_map state_of stage) < kind_count
    → (staged_of (option_map state_of stage) == 0) ≡ false
    → IsSomeAnd (pin_of (option_map state_of stage)) (λ pin. list_at (version_at h pin) token (place_of_kind (next_kind (option_map state_of stage))) ≢ [])
staged_some None h token et x lt fresh = cc
staged_some (Some s) h token et x lt fresh = λ none.
    let some : length s.present ≢ 0 = grind (arith, nat_tests, fresh) in
    some (omega (arith, ap length (x.fits.present).1, length-append s.present (x.fits.present).0, ap length (sym (list_as_asked s h token et lt) ∙ none)))

-- what is held of a kind is the list of the base
held_is : (o : Option Held) (stage : Option Stage) (h : HubState) (base : ℕ) (token : List ℕ) (kind : Kind) → HeldFitsIf o stage h → IsBase base token o → option_map_or (λ (held : Held). get_or held.lists (place_of_kind kind) []) o [] ≡ list_in (version_at h base) token kind
held_is None stage h base token kind x has = absurd has
held_is (Some held) stage h base token kind x has =
    let seen : AreSeen held.lists (version_at h held.version) token = subst (λ (t : Option (List ℕ)). IfSome t (AreSeen held.lists (version_at h held.version))) has.1 x.seen in
    ap (λ (ls : List (List Record)). get_or ls (place_of_kind kind) []) seen.same ∙ ap (λ n. list_in (version_at h n) token kind) has.0

pub may_ask : (c : Copy) (stage : Option StageState) (h : HubState) (token : List ℕ) (base limit : ℕ) (held : List Record) → stage_of c ≡ stage → HasToken token stage → kinds_of stage < kind_count → CopyFits c h → HasBase base token c
    → held ≡ held_list c (next_kind stage) → MayAsk h token (first_place stage base limit) held
may_ask c stage h token base limit held e et lt x has shown = subst (λ s. MayAsk h token (first_place s base limit) held) e (record {
  based = base_stands c.held c.stage h base token x.held has;
  shown = shown ∙ ap (λ s. held_list c (next_kind s)) (sym e) ∙ held_is c.held c.stage h base token (next_kind (stage_of c)) x.held has;
  pinned = pin_stands c.held c.stage h base token x.stage x.held has;
  staged = staged_some c.stage h token (subst (λ s. HasToken token s) (sym e) et) x.stage (subst (λ s. kinds_of s < kind_count) (sym e) lt);
})

-- ---- stages

begun_fits : (h : HubState) (pin : ℕ) (token : List ℕ) → pin < length h.published → knows (version_at h pin) token ≡ true → StageFits (begun pin token) h
begun_fits h pin token lt known = record { standing = lt; fits = record { known = known; done = refl; present = (list_at (version_at h pin) token 0, refl); total = tt } }

opened_fits : (o : Option Stage) (h : HubState) (pin : ℕ) (token : List ℕ) → StageFitsIf o h → pin < length h.published → knows (version_at h pin) token ≡ true → StageFits (unwrap_or o (begun pin token)) h
opened_fits None h pin token x lt known = begun_fits h pin token lt known
opened_fits (Some s) h pin token x lt known = x

held_opens : (o : Option Held) (stage : Option Stage) (h : HubState) (pin base : ℕ) (token : List ℕ) → HeldFitsIf o stage h → IsBase base token o → base ≤ pin → HeldFitsIf o (Some (unwrap_or stage (begun pin token))) h
held_opens None stage h pin base token x has le = absurd has
held_opens (Some held) None h pin base token x has le = record { standing = x.standing; below = subst (λ n. n ≤ pin) (sym has.0) le; seen = x.seen }
held_opens (Some held) (Some s) h pin base token x has le = x

pin_held : (o : Option Stage) (a : HubState) (pin : ℕ) → IsPinFrom (pin_of (option_map state_of o)) a pin → PinIs (option_map state_of o) a pin
pin_held None a pin from = from
pin_held (Some s) a pin from = from

-- a list with which the next kind of a stage ends
module _ (a h : HubState) (token : List ℕ) (pin : ℕ) (l : List Record) (up : ascends None l ≡ true) (stands : pin < length h.published) (known : knows (version_at h pin) token ≡ true) where
  abbrev IsNext : Option Stage → Type 0
  IsNext o = l ≡ list_at (version_at h pin) token (kinds_of (option_map state_of o))

  front_of : (s : Stage) → s.token ≡ token → pin ≡ s.pin → IsNext (Some s) → StageFits s h → IsFrontOf s.present l
  front_of s et ep is x =
      let same : list_at (version_at h s.pin) s.token (length s.done) ≡ l = (λ i. list_at (version_at h (sym ep i)) (et i) (length s.done)) ∙ sym is in
      ((x.fits.present).0, (x.fits.present).1 ∙ same)

  -- what follows is what is left of the list
  rest_rows : (o : Option Stage) → HasToken token (option_map state_of o) → IsPinFrom (pin_of (option_map state_of o)) a pin → IsNext o → StageFitsIf o h → following (option_map state_of o) l ≡ drop (staged_of (option_map state_of o)) l
  rest_rows None et ep is x = following_all l
  rest_rows (Some s) et ep is x = following_rest s l up (front_of s et ep is x)

  rest_stands : (o : Option Stage) → HasToken token (option_map state_of o) → kinds_of (option_map state_of o) < kind_count → IsPinFrom (pin_of (option_map state_of o)) a pin → IsNext o → StageFitsIf o h
      → StandsIn (option_map state_of o) a h token (length l) (rest_of (option_map state_of o) pin l)
  rest_stands o et lt ep is x =
      let n = staged_of (option_map state_of o) in
      let L = list_at (version_at h pin) token (kinds_of (option_map state_of o)) in
      let rest = rest_rows o et ep is x in
      let few : length (drop n L) ≤ length l = omega (arith, length-drop n L, ap length is) in
      let done : (length (following (option_map state_of o) l) == length l - n) ≡ true = let e = ap length rest ∙ length-drop n l in grind (arith, nat_tests, e) in
      record {
        standing = stands;
        from = record {
          known = known;
          kind = omega (arith, lt, cut_whole (version_at h pin) token);
          rows = rest ∙ ap (drop n) is ∙ sym (take_all (length l) (drop n L) few);
          total = ap length is;
          done = sym done;
        };
        pin = pin_held o a pin ep;
      }

  pub rest_fits : (o : Option Stage) → HasToken token (option_map state_of o) → kinds_of (option_map state_of o) < kind_count → IsPinFrom (pin_of (option_map state_of o)) a pin → IsNext o → StageFitsIf o h
      → StageFits (stage_after (unwrap_or o (begun pin token)) (following (option_map state_of o) l) (length l) true) h
  rest_fits o et lt ep is x = taken_agrees o a h token (length l) (rest_of (option_map state_of o) pin l) et x (rest_stands o et lt ep is x)

  -- and a part of it
  part_on : (s : Stage) (rows : List Record) → s.pin ≡ pin → s.token ≡ token → StageFits s h → IsFrontOf (s.present ++ rows) l → l ≡ list_at (version_at h pin) token (length s.done) → StageFits (stage_after s rows (length l) false) h
  part_on s rows ep et x front is =
      let same : l ≡ list_at (version_at h s.pin) s.token (length s.done) = is ∙ (λ i. list_at (version_at h (sym ep i)) (sym et i) (length s.done)) in
      record {
        standing = x.standing;
        fits = record { known = x.fits.known; done = x.fits.done; present = (front.0, front.1 ∙ same); total = ap length same };
      }

  pub part_fits : (o : Option Stage) (rows : List Record) → HasToken token (option_map state_of o) → IsPinFrom (pin_of (option_map state_of o)) a pin → IsNext o → StageFitsIf o h → IsFrontOf rows (following (option_map state_of o) l)
      → StageFits (stage_after (unwrap_or o (begun pin token)) rows (length l) false) h
  part_fits None rows et ep is x front = part_on (begun pin token) rows refl refl (begun_fits h pin token stands known) (front.0, front.1 ∙ following_all l) is
  part_fits (Some s) rows et ep is x front =
      let f = front_of s et ep is x in
      let behind : drop (length s.present) l ≡ f.0 = ap (drop (length s.present)) (sym f.1) ∙ drop-append_seam s.present f.0 in
      let rest : rows ++ front.0 ≡ f.0 = front.1 ∙ following_rest s l up f ∙ behind in
      part_on s rows (sym ep) et x (front.0, append_assoc s.present rows front.0 ∙ ap (λ r. s.present ++ r) rest ∙ f.1) is

-- ---- copies

module _ (c : Copy) (h : HubState) (token : List ℕ) (base pin : ℕ) (x : CopyFits c h) (has : HasBase base token c) (low : base ≤ pin) (stands : pin < length h.published) (known : knows (version_at h pin) token ≡ true) where
  open_fits : CopyFits (open_copy pin token c) h
  open_fits = record { stage = opened_fits c.stage h pin token x.stage stands known; held = held_opens c.held c.stage h pin base token x.held has low }

  taken_fits : (k : Taking) → k.pin ≡ pin → StageFits (stage_after (unwrap_or c.stage (begun pin token)) k.rows k.total k.done) h → CopyFits (taken k token c) h
  taken_fits k ep y = subst (λ n. CopyFits (taken (record k { pin = n }) token c) h) (sym ep) (record {
    stage = y;
    held = held_taken c.held (unwrap_or c.stage (begun pin token)) k.rows k.total k.done h (held_opens c.held c.stage h pin base token x.held has low);
  })

  -- a page that ends the kind
  pub adds_fits : (k : Taking) (r : Option SyncAnswer) (after : Copy) → k.pin ≡ pin → StageFits (stage_after (unwrap_or c.stage (begun pin token)) k.rows k.total k.done) h → Adds k token r c after → CopyFits after h × ((r ≡ None) ⊎ IsBroken r)
  adds_fits k r after ep y (Stays b e) = (subst (λ d. CopyFits d h) (sym e) x, inr b)
  adds_fits k r after ep y (Opened b e) = (subst (λ d. CopyFits d h) (sym (e ∙ ap (λ n. open_copy n token c) ep)) open_fits, inr b)
  adds_fits k r after ep y (Takes b e) = (subst (λ d. CopyFits d h) (sym e) (taken_fits k ep y), b)

  -- and the pages of a list
  pub stages_fits : (k : Taking) (r : Option SyncAnswer) (after : Copy) → k.pin ≡ pin → StageFits (stage_after (unwrap_or c.stage (begun pin token)) k.rows k.total k.done) h
      → ((rows : List Record) → IsFrontOf rows k.rows → StageFits (stage_after (unwrap_or c.stage (begun pin token)) rows k.total false) h) → Stages k token r c after → CopyFits after h × ((r ≡ None) ⊎ IsBroken r)
  stages_fits k r after ep y f (Whole b e) = (subst (λ d. CopyFits d h) (sym e) (taken_fits k ep y), b)
  stages_fits k r after ep y f (Part rows front b e) = (subst (λ d. CopyFits d h) (sym e) (taken_fits (part_of k rows) ep (f rows front)), inr b)
  stages_fits k r after ep y f (Opens b e) = (subst (λ d. CopyFits d h) (sym (e ∙ ap (λ n. open_copy n token c) ep)) open_fits, inr b)
  stages_fits k r after ep y f (StaysAll b e) = (subst (λ d. CopyFits d h) (sym e) x, inr b)

-- ---- what is gathered of a kind

module _ (c after : Copy) (stage : Option StageState) (a h : HubState) (hub : IsHub h) (token : List ℕ) (base limit : ℕ) (e : stage_of c ≡ stage) (et : HasToken token stage) (lt : kinds_of stage < kind_count) (x : CopyFits c h) (has : HasBase base token c) where
  abbrev kind : Kind
  kind = next_kind stage

  et' : HasToken token (option_map state_of c.stage)
  et' = subst (λ s. HasToken token s) (sym e) et

  lt' : kinds_of (option_map state_of c.stage) < kind_count
  lt' = subst (λ s. kinds_of s < kind_count) (sym e) lt

  place_is : place_of_kind kind ≡ kinds_of (option_map state_of c.stage)
  place_is = place_at (kinds_of stage) lt ∙ ap (λ s. kinds_of s) (sym e)

  -- a kind that isn't opened
  pub closed_fits : (pin : ℕ) (r : Option SyncAnswer) → base ≤ pin → IsPinFrom (pin_of stage) a pin → IsShutAt h token (first_place stage base limit) pin → Adds (no_page pin) token r c after → CopyFits after h × ((r ≡ None) ⊎ IsBroken r)
  closed_fits pin r low from shut adds =
      let is : [] ≡ list_at (version_at h pin) token (kinds_of (option_map state_of c.stage)) = sym shut.none ∙ ap (list_at (version_at h pin) token) place_is in
      let done : (0 == 0 - staged_of (option_map state_of c.stage)) ≡ true = grind (arith, nat_tests) in
      let stands : StandsIn (option_map state_of c.stage) a h token 0 (no_page pin) = record {
        standing = shut.standing;
        from = record { known = shut.known; kind = omega (arith, lt', cut_whole (version_at h pin) token); rows = refl; total = ap length is; done = sym done };
        pin = pin_held c.stage a pin (subst (λ s. IsPinFrom (pin_of s) a pin) (sym e) from);
      } in
      adds_fits c h token base pin x has low shut.standing shut.known (no_page pin) r after refl (taken_agrees c.stage a h token 0 (no_page pin) et' x.stage stands) adds

  module _ (pin : ℕ) (entries : Sofar) (r : Option SyncAnswer) (from : IsPinFrom (pin_of stage) a pin) (is : IsDelta h token (first_place stage base limit) pin entries) where
    old : held_list c kind ≡ list_in (version_at h base) token kind
    old = held_is c.held c.stage h base token kind x.held has

    was : IsVersion (version_at h base)
    was = version_is h hub.state base (omega (arith, is.low, is.standing))

    now : IsVersion (version_at h pin)
    now = version_is h hub.state pin (omega (arith, is.standing))

    whole : merged_with kind entries c ≡ list_in (version_at h pin) token kind
    whole = (λ i. merged (old i) (is.puts i) (is.gone i)) ∙ cut_to_cut (version_at h base) (version_at h pin) was now token kind

    next : merged_with kind entries c ≡ list_at (version_at h pin) token (kinds_of (option_map state_of c.stage))
    next = whole ∙ ap (list_at (version_at h pin) token) place_is

    good : IsGood (merged_with kind entries c)
    good = subst IsGood (sym next) (list_good h hub pin token (kinds_of (option_map state_of c.stage)) is.standing)

    from' : IsPinFrom (pin_of (option_map state_of c.stage)) a pin
    from' = subst (λ s. IsPinFrom (pin_of s) a pin) (sym e) from

    list_staged : StagesList kind stage pin token (merged_with kind entries c) r c after → CopyFits after h × ((r ≡ None) ⊎ IsBroken r)
    list_staged (TooMany many is' e') = absurd (omega (arith, many, good.few))
    list_staged (Staged few s) =
        let l = merged_with kind entries c in
        stages_fits c h token base pin x has is.low is.standing is.known (rest_of (option_map state_of c.stage) pin l) r after refl
        (rest_fits a h token pin l good.ordered is.standing is.known c.stage et' lt' from' next x.stage)
        (λ rows front. part_fits a h token pin l good.ordered is.standing is.known c.stage rows et' from' next x.stage front)
        (subst (λ (st : Option StageState). Stages (rest_of st pin l) token r c after) (sym e) s)

    -- a kind whose entries are those that a hub tells
    pub merges_fits : Merges kind entries stage pin token r c after → CopyFits after h × ((r ≡ None) ⊎ IsBroken r)
    merges_fits (Merged s) = list_staged s
    merges_fits (Fails b e') = (subst (λ d. CopyFits d h) (sym e') x, inr b)

  -- the pin isn't older than the base
  pub low_pin : (pin : ℕ) → CopyFits c a → IsPinFrom (pin_of stage) a pin → base ≤ pin
  low_pin pin y from = low_by c.stage y.stage y.held (subst (λ s. IsPinFrom (pin_of s) a pin) (sym e) from)
    where
      low_by : (o : Option Stage) → StageFitsIf o a → HeldFitsIf c.held o a → IsPinFrom (pin_of (option_map state_of o)) a pin → base ≤ pin
      low_by None y z from = let stands = base_stands c.held None a base token z has in omega (arith, stands, from)
      low_by (Some s) y z from = let below = pin_stands c.held (Some s) a base token y z has in omega (arith, below.1, from)

  -- what is gathered of the next kind, staged
  pub kind_fits : (d : Delta) (r : Option SyncAnswer) → CopyFits c a → Tells a h token (first_place stage base limit) d → StagesKind d kind stage token r c after → CopyFits after h × ((r ≡ None) ⊎ IsBroken r)
  kind_fits (delta.Closed pin) r y tells s = closed_fits pin r (low_pin pin y tells.1) tells.1 tells.0 s
  kind_fits (delta.Whole pin entries) r y tells s = merges_fits pin entries r tells.1 tells.0 s
