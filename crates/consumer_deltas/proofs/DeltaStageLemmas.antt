-- The merged rows of a kind, staged page after page.
use Rattle.std.proofs.Common.{◌≡◌, ⊎_elim, ℕ, zero, suc, ◌+◌, ◌-◌, Bool, true, false, cond, List, [], ◌∷◌, ◌++◌, length}
use Rattle.std.proofs.Common.{map, min, take, drop, arith, Option, Some, None, refl, sym, ◌∙◌, ap, subst, append_assoc}
use Rattle.std.specs.Prelude.{unwrap_or}
use Rattle.std.specs.List.{All}
use Rattle.std.proofs.Math.Seq.{drop-drop}
use Rattle.std.proofs.lemmas.Bool.{and_from}
use Rattle.std.proofs.lemmas.List.{take-append-drop}
use Rattle.std.proofs.lemmas.List.Elements.{All-tail, All-take}
use Rattle.consumer_deltas.specs.DeltaStaging.{Stages, above, following, part_of}
use Rattle.consumer_deltas.specs.DeltaStaging.Stages.{Opens, Part, Whole, Stays as StaysAll}
use Rattle.consumer_sync.proofs.DoneLemmas.{ascends-append}
use Rattle.consumer_sync.specs.Judging.{kind_done, opened, paged}
use Rattle.consumer_sync.specs.Staging.{Adds, IsBroken, Taking, open_copy, taken}
use Rattle.consumer_sync.specs.Staging.Adds.{Opened, Stays, Takes}
use Rattle.exchange_link.specs.Agreement.{IsFrontOf}
use Rattle.exchange_link.specs.Places.{kinds_of, last_of, staged_of}
use Rattle.exchange_link.specs.declared.answer.SyncAnswer.{SyncAnswer}
use Rattle.exchange_link.specs.declared.answer.SyncAnswer.TheVariants as answer
use Rattle.hub_spec.proofs.Below.{and_first, and_second}
use Rattle.keeper_memory.specs.copy.Changes.{begun, stage_after}
use Rattle.keeper_memory.specs.copy.Copies.{Copy, Stage}
use Rattle.keeper_memory.specs.copy.Lists.{ascends, last_from}
use Rattle.keeper_memory.specs.declared.copy.state.StageState.{StageState}
use Rattle.roster_types.specs.Keys.{is_after}
use Rattle.roster_types.specs.Records.{Record}
use Rattle.roster_values.specs.declared.kind.Kind.{Kind}

-- ---- the rows that follow those which are staged

above_up : (last prev : Option (List ℕ)) (rows : List Record) → ascends prev rows ≡ true → ascends last (above last rows) ≡ true
above_up last prev [] up = refl
above_up last prev (row ∷ rows) up =
    elim (is_after last row.id) as (λ b. is_after last row.id ≡ b → ascends last (cond b (row ∷ rows) (above last rows)) ≡ true) [
      | true ↦ λ here. and_from _ _ here (and_second (is_after prev row.id) _ up)
      | false ↦ λ _. above_up last (Some row.id) rows (and_second (is_after prev row.id) _ up)
    ] refl

take_up : (n : ℕ) (last : Option (List ℕ)) (rows : List Record) → ascends last rows ≡ true → ascends last (take n rows) ≡ true
take_up zero last rows up = refl
take_up (suc n) last [] up = refl
take_up (suc n) last (row ∷ rows) up = and_from _ _ (and_first (is_after last row.id) _ up) (take_up n (Some row.id) rows (and_second (is_after last row.id) _ up))

above_all : (P : Record → Type 0) (last : Option (List ℕ)) (rows : List Record) → All P rows → All P (above last rows)
above_all P last [] all = all
above_all P last (row ∷ rows) all =
    elim (is_after last row.id) as (λ b. All P (cond b (row ∷ rows) (above last rows))) [ true ↦ all | false ↦ above_all P last rows (All-tail P row rows all) ]

-- they ascend from the last of these
pub following_up : (stage : Option StageState) (rows : List Record) → ascends None rows ≡ true → ascends (last_of stage) (following stage rows) ≡ true
following_up stage rows up = take_up (length rows - staged_of stage) (last_of stage) (above (last_of stage) rows) (above_up (last_of stage) None rows up)

pub following_kinds : (kind : Kind) (stage : Option StageState) (rows : List Record) → All (λ row. row.kind ≡ kind) rows → All (λ row. row.kind ≡ kind) (following stage rows)
following_kinds kind stage rows all =
    All-take (λ (row : Record). row.kind ≡ kind) (length rows - staged_of stage) (above (last_of stage) rows) (above_all (λ (row : Record). row.kind ≡ kind) (last_of stage) rows all)

-- a part that is cut by number is cut so among what it shows
pub cut_shown : {X : Type 0} (shown : X → Record) (n : ℕ) (xs : List X) → map shown (take (min (length xs) n) xs) ≡ take n (map shown xs)
cut_shown shown zero xs = let e : min (length xs) 0 ≡ 0 = omega arith in ap (λ m. map shown (take m xs)) e
cut_shown shown (suc n) [] = let e : min 0 (suc n) ≡ 0 = omega arith in ap (λ m. map shown (take m [])) e
cut_shown shown (suc n) (x ∷ xs) =
    let e : min (length (x ∷ xs)) (suc n) ≡ suc (min (length xs) n) = omega arith in
    ap (λ m. map shown (take m (x ∷ xs))) e ∙ ap (λ rows. shown x ∷ rows) (cut_shown shown n xs)

-- ---- the small part of the stage

-- a page that doesn't end the kind
pub paged_last : (stage : Option StageState) (pin : ℕ) (token : List ℕ) (rows : List Record) (total : ℕ) → last_of (Some (paged (opened stage pin token) rows total false)) ≡ last_from (last_of stage) rows
paged_last None pin token rows total = refl
paged_last (Some s) pin token rows total = refl

pub paged_kinds : (stage : Option StageState) (pin : ℕ) (token : List ℕ) (rows : List Record) (total : ℕ) → kinds_of (Some (paged (opened stage pin token) rows total false)) ≡ kinds_of stage
paged_kinds None pin token rows total = refl
paged_kinds (Some s) pin token rows total = refl

pub paged_staged : (stage : Option StageState) (pin : ℕ) (token : List ℕ) (rows : List Record) (total : ℕ) → staged_of (Some (paged (opened stage pin token) rows total false)) ≡ staged_of stage + length rows
paged_staged None pin token rows total = refl
paged_staged (Some s) pin token rows total = refl

-- the stage at the end of the kind looks at pin, token and kinds alone
pub ended_same : (stage : Option StageState) (pin : ℕ) (token : List ℕ) (rows : List Record) (total : ℕ)
    → kind_done (Some (paged (opened stage pin token) rows total false)) pin token ≡ kind_done stage pin token
ended_same None pin token rows total = refl
ended_same (Some s) pin token rows total = refl

-- ---- the copy

-- so far some rows are staged, or nothing is done yet
pub data Sofar (k : Taking) (token : List ℕ) (rows : List Record) (before after : Copy) : Type 0 where
  Nothing : rows ≡ [] → after ≡ before → Sofar k token rows before after
  Some_rows : after ≡ taken (part_of k rows) token before → Sofar k token rows before after

stage_join : (s : Stage) (xs ys : List Record) (total : ℕ) (done : Bool) → stage_after (stage_after s xs total false) ys total done ≡ stage_after s (xs ++ ys) total done
stage_join s xs ys total true = ap (λ (p : List Record). let r : Stage = record { pin = s.pin; token = s.token; done = s.done ++ p ∷ []; present = []; total = None } in r) (append_assoc s.present xs ys)
stage_join s xs ys total false = ap (λ (p : List Record). let r : Stage = record { pin = s.pin; token = s.token; done = s.done; present = p; total = Some total } in r) (append_assoc s.present xs ys)

-- a page of the same list
abbrev pub page_of : Taking → List Record → Bool → Taking
page_of k rows done = record { pin = k.pin; rows = rows; total = k.total; done = done }

taken_join : (k : Taking) (token : List ℕ) (xs ys : List Record) (done : Bool) (c : Copy) → taken (page_of k ys done) token (taken (part_of k xs) token c) ≡ taken (page_of k (xs ++ ys) done) token c
taken_join k token xs ys done c = ap (λ (s : Stage). let d : Copy = record c { stage = Some s } in d) (stage_join (unwrap_or c.stage (begun k.pin token)) xs ys k.total done)

not_broken : IsBroken None → ⊥
not_broken b = ⊎_elim (λ (e : None ≡ Some answer.KeeperFault). cc) (λ (e : None ≡ Some answer.NoMemory). cc) b

module _ (k : Taking) (token : List ℕ) (xs ys : List Record) where
  -- one page more behind those so far
  more : (done : Bool) (before mid after : Copy) → Sofar k token xs before mid → after ≡ taken (page_of k ys done) token mid → after ≡ taken (page_of k (xs ++ ys) done) token before
  more done before mid after (Nothing none is) e = e ∙ (λ i. taken (page_of k ((sym none i) ++ ys) done) token (is i))
  more done before mid after (Some_rows is) e = e ∙ ap (taken (page_of k ys done) token) is ∙ taken_join k token xs ys done before

  on : (before mid after : Copy) → Sofar k token xs before mid → Adds (page_of k ys false) token None mid after → Sofar k token (xs ++ ys) before after
  on before mid after so adds = elim adds as (λ _. Sofar k token (xs ++ ys) before after) [
    | Stays b e ↦ absurd (not_broken b)
    | Opened b e ↦ absurd (not_broken b)
    | Takes b e ↦ Some_rows (more false before mid after so e)
  ]

  -- where the call goes on, the page is staged
  pub sofar_on : (result : Option SyncAnswer) (before mid after : Copy) → result ≡ None → Sofar k token xs before mid → Adds (page_of k ys false) token result mid after → Sofar k token (xs ++ ys) before after
  sofar_on result before mid after none so adds = on before mid after so (subst (λ r. Adds (page_of k ys false) token r mid after) none adds)

  module _ (result : Option SyncAnswer) (before mid after : Copy) where
    stays : IsFrontOf xs k.rows → IsBroken result → Sofar k token xs before mid → after ≡ mid → Stages k token result before after
    stays front b (Nothing none is) e = StaysAll b (e ∙ is)
    stays front b (Some_rows is) e = Part xs front b (e ∙ is)

    opens : IsFrontOf xs k.rows → IsBroken result → Sofar k token xs before mid → after ≡ open_copy k.pin token mid → Stages k token result before after
    opens front b (Nothing none is) e = Opens b (e ∙ ap (open_copy k.pin token) is)
    opens front b (Some_rows is) e = Part xs front b (e ∙ ap (open_copy k.pin token) is)

    -- where a page in between fails
    pub stages_part : IsFrontOf xs k.rows → IsFrontOf (xs ++ ys) k.rows → IsBroken result → Sofar k token xs before mid → Adds (page_of k ys false) token result mid after → Stages k token result before after
    stages_part front front' b so adds = elim adds as (λ _. Stages k token result before after) [
      | Stays _ e ↦ stays front b so e
      | Opened _ e ↦ opens front b so e
      | Takes _ e ↦ Part (xs ++ ys) front' b (more false before mid after so e)
    ]

    -- the last page, with which all rows are staged
    pub stages_whole : xs ++ ys ≡ k.rows → k.done ≡ true → Sofar k token xs before mid → Adds (page_of k ys true) token result mid after → Stages k token result before after
    stages_whole all done so adds = elim adds as (λ _. Stages k token result before after) [
      | Stays b e ↦ stays (ys, all) b so e
      | Opened b e ↦ opens (ys, all) b so e
      | Takes b e ↦ Whole b (more true before mid after so e ∙ (λ i. taken (page_of k (all i) (sym done i)) token before))
    ]

-- ---- the rows of a page among those that follow

-- where some rows are behind, a page of them, and all that are left
module _ (last : Option (List ℕ)) (from n : ℕ) (all : List Record) (up : ascends last (drop from all) ≡ true) where
  page_split : take n (drop from all) ++ drop (from + n) all ≡ drop from all
  page_split = ap (λ rows. take n (drop from all) ++ rows) (sym (drop-drop n from all)) ∙ take-append-drop n (drop from all)

  pub page_up : ascends last (take n (drop from all)) ≡ true
  page_up = (ascends-append last (take n (drop from all)) (drop (from + n) all) (ap (ascends last) page_split ∙ up)).0

  pub behind_up : ascends (last_from last (take n (drop from all))) (drop (from + n) all) ≡ true
  behind_up = (ascends-append last (take n (drop from all)) (drop (from + n) all) (ap (ascends last) page_split ∙ up)).1

pub front_of : (n : ℕ) (all : List Record) → IsFrontOf (take n all) all
front_of n all = (drop n all, take-append-drop n all)
