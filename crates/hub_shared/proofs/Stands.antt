-- What the steps under the lock keep.
use Rattle.std.proofs.Common.{◌≡◌, ℕ, suc, ◌+◌, ◌-◌, ◌^◌, ◌≤◌, min, Bool, true, false, IsTrue, List, [], ◌∷◌, ◌++◌}
use Rattle.std.proofs.Common.{Option, Some, None, Result, Ok, Err, ◌⊎◌, refl, sym, ap, ◌∙◌, subst, inl, inr, arith}
use Rattle.std.specs.Prelude.{MatchBool, OnErr, option_map, if◌then◌else◌}
use Rattle.std.proofs.lemmas.List.{append-nil}
use Rattle.hub_core.proofs.HubLemmas.{made, not_made, settled}
use Rattle.hub_core.specs.Hub.{MayBeMade}
use Rattle.hub_core.specs.Made.{has_commit, made_last}
use Rattle.hub_core.specs.Standing.{HeldHub, IsStanding, KeeperFits}
use Rattle.hub_core.specs.Steps.{CountsFault, LeavesOpen, RefusesNothing}
use Rattle.hub_core.specs.declared.hub_error.HubError.{HubError}
use Rattle.hub_core.specs.declared.hub_error.HubError.TheVariants as error
use Rattle.hub_core.specs.Works.{Did, IsMade, IsPassedOver, IsUnmade, copy_kept}
use Rattle.keeper_memory.specs.Commits.{CanCommit, with_commit}
use Rattle.keeper_memory.specs.Kept.{KeptState}
use Rattle.keeper_memory.specs.declared.hub_commit.HubCommit.{HubCommit}
use Rattle.roster_base.specs.Faults.{Rose}
use Rattle.hub_history.proofs.Legal.{legal_more, one_more}
use Rattle.hub_history.specs.declared.entry.Entry.{Entry}
use Rattle.hub_history.specs.declared.entry.Entry.TheVariants.{Commit, Fault}
use Rattle.hub_history.specs.Histories.{IsLegal, faults_in, state_after, waiting_list}
use Rattle.hub_history.specs.Published.{Published, history, none_waits}
use Rattle.hub_shared.specs.Standings.{Owned, Pushed, Standing, entry_due, handed_out}

-- ---- histories

pub history_whole : (h : List Entry) → history (none_waits h) ≡ h
history_whole h = append-nil h

pub log_whole : (log : Published) → log.waiting ≡ None → log ≡ none_waits (history log)
log_whole log none = λ i. record { published = sym (ap (λ (w : Option Entry). log.published ++ waiting_list w) none ∙ append-nil log.published) i; waiting = none i }

published_is : (log : Published) → log.waiting ≡ None → history log ≡ log.published
published_is log none = ap (λ (w : Option Entry). log.published ++ waiting_list w) none ∙ append-nil log.published

faults_commit : (xs : List Entry) (c : HubCommit) → faults_in (xs ++ Commit c ∷ []) ≡ faults_in xs
faults_commit [] c = refl
faults_commit (Commit d ∷ xs) c = faults_commit xs c
faults_commit (Fault ∷ xs) c = ap suc (faults_commit xs c)

faults_fault : (xs : List Entry) → faults_in (xs ++ Fault ∷ []) ≡ suc (faults_in xs)
faults_fault [] = refl
faults_fault (Commit d ∷ xs) = faults_fault xs
faults_fault (Fault ∷ xs) = ap suc (faults_fault xs)

-- what was put and published, or not
pub pushed : (log put log' : Published) (e : Entry) (done : Bool) → log.waiting ≡ None → put ≡ record { published = log.published; waiting = Some e } → MatchBool done (log' ≡ none_waits (history put)) (log' ≡ put) → Pushed (Some e) log log' done
pushed log put log' e done none is m =
    let h : history put ≡ history log ++ e ∷ [] = ap history is ∙ ap (λ (l : List Entry). l ++ e ∷ []) (sym (published_is log none)) in
    by done m h
  where
    by : (b : Bool) → MatchBool b (log' ≡ none_waits (history put)) (log' ≡ put) → history put ≡ history log ++ e ∷ [] → Pushed (Some e) log log' b
    by true m h = (ap history m ∙ (history_whole (history put) ∙ h), λ published. m ∙ ap none_waits h)
    by false m h = (ap history m ∙ h, λ published. absurd (cc (published)))

-- what is pushed, said of what is due
pub pushed_as : {due same : Option Entry} (log log' : Published) (done : Bool) → due ≡ same → Pushed due log log' done → Pushed same log log' done
pushed_as log log' done is push = subst (λ (d : Option Entry). Pushed d log log' done) is push

-- ---- what a hub has made, or left open

pub due_open : (hub : HeldHub) → hub.commit_open ≡ true → entry_due hub ≡ Some Fault
due_open hub open_is = ap (λ (b : Bool). if b then Some Fault else option_map Commit (made_last hub.kept hub.last)) open_is

pub due_closed : (hub : HeldHub) → hub.commit_open ≡ false → entry_due hub ≡ option_map Commit (made_last hub.kept hub.last)
due_closed hub closed = ap (λ (b : Bool). if b then Some Fault else option_map Commit (made_last hub.kept hub.last)) closed

pub out_open : (hub : HeldHub) → hub.commit_open ≡ true → handed_out hub ≡ hub
out_open hub open_is = ap (λ (b : Bool). if b then hub else record hub { last = None }) open_is

pub out_closed : (hub : HeldHub) → hub.commit_open ≡ false → handed_out hub ≡ record hub { last = None }
out_closed hub closed = ap (λ (b : Bool). if b then hub else record hub { last = None }) closed

made_none : (kept : KeptState) (last : Option HubCommit) → last ≡ None → made_last kept last ≡ None
made_none kept last none = ap (made_last kept) none

made_some : (kept : KeptState) (last : Option HubCommit) (commit : HubCommit) → last ≡ Some commit → has_commit kept commit ≡ true → made_last kept last ≡ Some commit
made_some kept last commit is has = ap (made_last kept) is ∙ ap (λ (b : Bool). if b then Some commit else None) has

made_not : (kept : KeptState) (last : Option HubCommit) (commit : HubCommit) → last ≡ Some commit → has_commit kept commit ≡ false → made_last kept last ≡ None
made_not kept last commit is has = ap (made_last kept) is ∙ ap (λ (b : Bool). if b then Some commit else None) has

-- what became of a hub with its last commit handed out: nothing, a commit that was made, or one that was left open
pub record IsNothing (before after : HeldHub) (count count' : ℕ) : Type 0 where
  pub due : entry_due after ≡ None
  pub kept : after.kept ≡ before.kept
  pub closed : after.commit_open ≡ false
  pub keeps : after.keeps ≡ before.keeps
  pub stays : count' ≡ count

pub record IsCommit (before after : HeldHub) (count count' : ℕ) : Type 0 where
  pub commit : HubCommit
  pub can : CanCommit before.kept commit
  pub due : entry_due after ≡ Some (Commit commit)
  pub kept : after.kept ≡ with_commit before.kept commit
  pub closed : after.commit_open ≡ false
  pub keeps : after.keeps ≡ before.keeps
  pub stays : count' ≡ count

pub record IsFault (before after : HeldHub) (count count' : ℕ) : Type 0 where
  pub due : entry_due after ≡ Some Fault
  pub kept : after.kept ≡ before.kept
  pub left : after.commit_open ≡ true
  pub keeps : after.keeps ≡ before.keeps
  pub rose : count' ≡ min (count + 1) (2 ^ 64 - 1)

abbrev pub Outcome : HeldHub → HeldHub → ℕ → ℕ → Type 0
Outcome before after count count' = IsNothing before after count count' ⊎ (IsCommit before after count count' ⊎ IsFault before after count count')

unmade_due : (before after : HeldHub) → before.last ≡ None → IsUnmade before after → entry_due after ≡ None
unmade_due before after none is = due_closed after is.settled ∙ ap (option_map Commit) (from is.last)
  where
    from : (after.last ≡ before.last) ⊎ IsPassedOver before after.last → made_last after.kept after.last ≡ None
    from (inl same) = made_none after.kept after.last (same ∙ none)
    from (inr over) = made_not after.kept after.last over.commit over.is (ap (λ (k : KeptState). has_commit k over.commit) is.kept ∙ not_made before.kept over.commit over.can)

made_is : (before after : HeldHub) (count count' : ℕ) (commit : HubCommit) → CanCommit before.kept commit → after.kept ≡ with_commit before.kept commit → after.last ≡ Some commit → after.commit_open ≡ false → after.keeps ≡ before.keeps → count' ≡ count
    → IsCommit before after count count'
made_is before after count count' commit can kept last closed keeps stays = record {
  commit = commit;
  can = can;
  due = due_closed after closed ∙ ap (option_map Commit) (made_some after.kept after.last commit last (ap (λ (k : KeptState). has_commit k commit) kept ∙ made before.kept commit can));
  kept = kept;
  closed = closed;
  keeps = keeps;
  stays = stays;
}

-- what a call did of a hub that keeps its commits
module _ {A : Type 0} (asks : A → KeptState → KeptState → Type 0) (failed answer : A) (before after : HeldHub) (count count' : ℕ) (none : before.last ≡ None) (keeps : IsTrue before.keeps) where
  pub outcome : Did asks failed answer before after count count' → Outcome before after count count'
  outcome (inl done) = from done.made
    where
      from : IsUnmade before after ⊎ IsMade before after → Outcome before after count count'
      from (inl un) = inl (record { due = unmade_due before after none un; kept = un.kept; closed = un.settled; keeps = un.keeps; stays = done.stays })
      from (inr mk) =
          let last : after.last ≡ Some mk.commit = ap (λ (h : HeldHub). h.last) mk.is ∙ ap (λ (b : Bool). copy_kept b mk.commit) keeps in
          inr (inl (made_is before after count count' mk.commit mk.can (ap (λ (h : HeldHub). h.kept) mk.is) last (ap (λ (h : HeldHub). h.commit_open) mk.is) (ap (λ (h : HeldHub). h.keeps) mk.is) done.stays))
  outcome (inr fell) =
      let left : after.commit_open ≡ true = ap (λ (h : HeldHub). h.commit_open) fell.left.is in
      inr (inr (record { due = due_open after left; kept = ap (λ (h : HeldHub). h.kept) fell.left.is; left = left; keeps = ap (λ (h : HeldHub). h.keeps) fell.left.is; rose = fell.rose }))

-- what a reload found
pub reload_outcome : (before after : HeldHub) (count count' : ℕ) → MayBeMade before.kept before.last → IsStanding before after.kept → after.last ≡ before.last → after.keeps ≡ before.keeps → after.commit_open ≡ false → count' ≡ count → Outcome before after count count'
reload_outcome before after count count' may (inl same) last keeps closed stays =
    inl (record {
      due = due_closed after closed ∙ ap (option_map Commit) (made_not after.kept after.last may.commit (last ∙ may.last) (ap (λ (k : KeptState). has_commit k may.commit) same ∙ not_made before.kept may.commit may.can));
      kept = same;
      closed = closed;
      keeps = keeps;
      stays = stays;
    })
reload_outcome before after count count' may (inr with) last keeps closed stays =
    let one : with.commit ≡ may.commit = let a = with.last in let b = may.last in cc in
    let kept : after.kept ≡ with_commit before.kept may.commit = with.made ∙ ap (with_commit before.kept) one in
    inr (inl (made_is before after count count' may.commit may.can kept (last ∙ may.last) closed keeps stays))

-- a hub that stays open at a fault
pub fault_outcome : (before after : HeldHub) (count count' : ℕ) → after ≡ before → before.commit_open ≡ true → count' ≡ min (count + 1) (2 ^ 64 - 1) → Outcome before after count count'
fault_outcome before after count count' same left rose =
    let still : after.commit_open ≡ true = ap (λ (h : HeldHub). h.commit_open) same ∙ left in
    inr (inr (record { due = due_open after still; kept = ap (λ (h : HeldHub). h.kept) same; left = still; keeps = ap (λ (h : HeldHub). h.keeps) same; rose = rose }))

-- what the keeper told of a commit that was left open, where memory didn't run out
pub asked_outcome : (r : Result (Unit {0}) HubError) (before after : HeldHub) (count count' : ℕ) → (r ≡ Err error.NoMemory → ⊥) → before.commit_open ≡ true → MayBeMade before.kept before.last → IsStanding before after.kept → after.last ≡ before.last → after.keeps ≡ before.keeps
    → LeavesOpen r after.commit_open → OnErr r (after ≡ before) → CountsFault count count' r → RefusesNothing r → Outcome before after count count'
asked_outcome (Ok x) before after count count' told left may stood last keeps opens same counts refuses = reload_outcome before after count count' may stood last keeps opens counts
asked_outcome (Err error.Keeper) before after count count' told left may stood last keeps opens same counts refuses = fault_outcome before after count count' same left counts
asked_outcome (Err error.NoMemory) before after count count' told left may stood last keeps opens same counts refuses = absurd (told refl)
asked_outcome (Err (error.Refused fault)) before after count count' told left may stood last keeps opens same counts refuses = absurd refuses

-- ---- standing

fits_out : (stands : KeptState → Type 0) (hub : HeldHub) → KeeperFits stands hub → KeeperFits stands (handed_out hub)
fits_out stands hub fits = by hub.commit_open refl
  where
    by : (b : Bool) → hub.commit_open ≡ b → KeeperFits stands (handed_out hub)
    by true is = subst (KeeperFits stands) (sym (out_open hub is)) fits
    by false is = subst (KeeperFits stands) (sym (out_closed hub is)) (λ kept stood. inl (settled hub is kept (fits kept stood)))

kept_out : (hub : HeldHub) → (handed_out hub).kept ≡ hub.kept
kept_out hub = by hub.commit_open refl
  where
    by : (b : Bool) → hub.commit_open ≡ b → (handed_out hub).kept ≡ hub.kept
    by true is = ap (λ (h : HeldHub). h.kept) (out_open hub is)
    by false is = ap (λ (h : HeldHub). h.kept) (out_closed hub is)

pub left_out : (hub : HeldHub) → (handed_out hub).commit_open ≡ hub.commit_open
left_out hub = by hub.commit_open refl
  where
    by : (b : Bool) → hub.commit_open ≡ b → (handed_out hub).commit_open ≡ hub.commit_open
    by true is = ap (λ (h : HeldHub). h.commit_open) (out_open hub is)
    by false is = ap (λ (h : HeldHub). h.commit_open) (out_closed hub is)

keeps_out : (hub : HeldHub) → (handed_out hub).keeps ≡ hub.keeps
keeps_out hub = by hub.commit_open refl
  where
    by : (b : Bool) → hub.commit_open ≡ b → (handed_out hub).keeps ≡ hub.keeps
    by true is = ap (λ (h : HeldHub). h.keeps) (out_open hub is)
    by false is = ap (λ (h : HeldHub). h.keeps) (out_closed hub is)

pub last_out : (hub : HeldHub) → hub.commit_open ≡ false → (handed_out hub).last ≡ None
last_out hub closed = ap (λ (h : HeldHub). h.last) (out_closed hub closed)

module _ (o : KeptState) (base : ℕ) (first : KeptState → Type 0) (log : Published) (hub : HeldHub) (stood : KeptState → Type 0) (count : ℕ) (is : Standing o base first log hub stood count) where
  module _ (after : HeldHub) (stands : KeptState → Type 0) (count' : ℕ) (fits : KeeperFits stands after) (told : (now : KeptState) → stands now → (before : KeptState) × stood before) (log' : Published) (done : Bool) where
    still_told : (now : KeptState) → stands now → first o
    still_told now here = let before = told now here in is.told before.0 before.1

    pub added_stands : Outcome hub after count count' → Pushed (entry_due after) log log' done → Standing o base first log' (handed_out after) stands count'
    added_stands (inl nothing) push =
        let same = (pushed_as log log' done nothing.due push).0 in
        record {
          replays = kept_out after ∙ (nothing.kept ∙ (is.replays ∙ ap (λ (l : Published). state_after o (history l)) (sym same)));
          legal = subst (λ (l : Published). IsLegal o (history l)) (sym same) is.legal;
          fits = fits_out stands after fits;
          told = still_told;
          later = let a = is.later in let b = nothing.stays in omega (arith, a, b);
          rose = λ left. absurd (let still = left_out after in let closed = nothing.closed in cc);
          faults = let a = subst (λ (l : Published). min (faults_in (history l) + base) (2 ^ 64 - 1) ≤ count) (sym same) is.faults in let b = nothing.stays in omega (arith, a, b);
          keeps = keeps_out after ∙ (nothing.keeps ∙ is.keeps);
        }
    added_stands (inr (inl made)) push =
        let h = (pushed_as log log' done made.due push).0 in
        record {
          replays = kept_out after ∙ (made.kept ∙ (ap (λ (k : KeptState). with_commit k made.commit) is.replays ∙ (sym (one_more o (history log) (Commit made.commit)) ∙ ap (state_after o) (sym h))));
          legal = subst (IsLegal o) (sym h) (legal_more o (history log) (Commit made.commit) is.legal (subst (λ (k : KeptState). CanCommit k made.commit) is.replays made.can));
          fits = fits_out stands after fits;
          told = still_told;
          later = let a = is.later in let b = made.stays in omega (arith, a, b);
          rose = λ left. absurd (let still = left_out after in let closed = made.closed in cc);
          faults = let e : faults_in (history log') ≡ faults_in (history log) = ap faults_in h ∙ faults_commit (history log) made.commit in let a = is.faults in let b = made.stays in omega (arith, e, a, b);
          keeps = keeps_out after ∙ (made.keeps ∙ is.keeps);
        }
    added_stands (inr (inr fault)) push =
        let h = (pushed_as log log' done fault.due push).0 in
        record {
          replays = kept_out after ∙ (fault.kept ∙ (is.replays ∙ (sym (one_more o (history log) Fault) ∙ ap (state_after o) (sym h))));
          legal = subst (IsLegal o) (sym h) (legal_more o (history log) Fault is.legal tt);
          fits = fits_out stands after fits;
          told = still_told;
          later = let a = is.later in let b = fault.rose in omega (arith, a, b);
          rose = λ left. let a = is.later in let b = fault.rose in omega (arith, a, b);
          faults = let e : faults_in (history log') ≡ suc (faults_in (history log)) = ap faults_in h ∙ faults_fault (history log) in let a = is.faults in let b = fault.rose in omega (arith, e, a, b);
          keeps = keeps_out after ∙ (fault.keeps ∙ is.keeps);
        }

-- ---- what a call answers

module _ {A : Type 0} (asks : A → KeptState → KeptState → Type 0) (failed busy : A) (o : KeptState) (log log' : Published) (hub after : HeldHub) (count count' : ℕ) (none : log.waiting ≡ None) (replays : hub.kept ≡ state_after o (history log)) where
  abbrev h : List Entry
  h = history log

  asked_none : (answer : A) → after.kept ≡ hub.kept → asks answer hub.kept after.kept → asks answer (state_after o h) (state_after o (h ++ []))
  asked_none answer kept asked =
      subst (λ (l : List Entry). asks answer (state_after o h) (state_after o l)) (sym (append-nil h))
      (subst (λ (k : KeptState). asks answer (state_after o h) k) (kept ∙ replays) (subst (λ (k : KeptState). asks answer k after.kept) replays asked))

  asked_commit : (answer : A) (commit : HubCommit) → after.kept ≡ with_commit hub.kept commit → asks answer hub.kept after.kept → asks answer (state_after o h) (state_after o (h ++ Commit commit ∷ []))
  asked_commit answer commit kept asked =
      let whole : after.kept ≡ state_after o (h ++ Commit commit ∷ []) = kept ∙ (ap (λ (k : KeptState). with_commit k commit) replays ∙ sym (one_more o h (Commit commit))) in
      subst (λ (k : KeptState). asks answer (state_after o h) k) whole (subst (λ (k : KeptState). asks answer k after.kept) replays asked)

  rose_so : count' ≡ min (count + 1) (2 ^ 64 - 1) → Rose count count'
  rose_so is = omega (arith, is)

  -- what was published is answered
  pub owned_told : (answer : A) (done : Bool) → Did asks failed answer hub after count count' → Outcome hub after count count' → Pushed (entry_due after) log log' done → done ≡ true → Owned asks failed busy o h log' count count' answer
  owned_told answer done (inl did) (inl nothing) push all =
      let same = (pushed_as log log' done nothing.due push).0 in
      ([], inl (same ∙ (log_whole log none ∙ ap none_waits (sym (append-nil h))), inl refl, asked_none answer nothing.kept did.asked))
  owned_told answer done (inl did) (inr (inl made)) push all =
      let p = pushed_as log log' done made.due push in
      (Commit made.commit ∷ [], inl (p.1 all, inr (made.commit, refl), asked_commit answer made.commit made.kept did.asked))
  owned_told answer done (inl did) (inr (inr fault)) push all = absurd (closed did.made)
    where
      closed : IsUnmade hub after ⊎ IsMade hub after → ⊥
      closed (inl un) = let a = un.settled in let b = fault.left in cc
      closed (inr mk) = let a = ap (λ (k : HeldHub). k.commit_open) mk.is in let b = fault.left in cc
  owned_told answer done (inr fell) (inl nothing) push all = absurd (let a = ap (λ (k : HeldHub). k.commit_open) fell.left.is in let b = nothing.closed in cc)
  owned_told answer done (inr fell) (inr (inl made)) push all = absurd (let a = ap (λ (k : HeldHub). k.commit_open) fell.left.is in let b = made.closed in cc)
  owned_told answer done (inr fell) (inr (inr fault)) push all =
      let p = pushed_as log log' done fault.due push in
      (Fault ∷ [], inr (inl (p.1 all, refl, rose_so fell.rose, fell.told)))

  -- where memory ran out to publish, the history grew by no more
  pub owned_busy : (answer told : A) (done : Bool) → told ≡ busy → Did asks failed answer hub after count count' → Outcome hub after count count' → Pushed (entry_due after) log log' done → Owned asks failed busy o h log' count count' told
  owned_busy answer told done is (inl did) (inl nothing) push =
      let same = (pushed_as log log' done nothing.due push).0 in
      ([], inr (inr (ap history same ∙ sym (append-nil h), inl (inl refl, inl refl), is)))
  owned_busy answer told done is (inl did) (inr (inl made)) push =
      let p = pushed_as log log' done made.due push in
      (Commit made.commit ∷ [], inr (inr (p.0, inl (inr (made.commit, refl), inr (answer, asked_commit answer made.commit made.kept did.asked)), is)))
  owned_busy answer told done is (inl did) (inr (inr fault)) push =
      let p = pushed_as log log' done fault.due push in
      (Fault ∷ [], inr (inr (p.0, inr (refl, rose_so fault.rose), is)))
  owned_busy answer told done is (inr fell) (inl nothing) push =
      let same = (pushed_as log log' done nothing.due push).0 in
      ([], inr (inr (ap history same ∙ sym (append-nil h), inl (inl refl, inl refl), is)))
  owned_busy answer told done is (inr fell) (inr (inl made)) push = absurd (let a = ap (λ (k : HeldHub). k.commit_open) fell.left.is in let b = made.closed in cc)
  owned_busy answer told done is (inr fell) (inr (inr fault)) push =
      let p = pushed_as log log' done fault.due push in
      (Fault ∷ [], inr (inr (p.0, inr (refl, rose_so fault.rose), is)))

-- a commit that is due is the last one
made_from : (kept : KeptState) (last : Option HubCommit) (commit : HubCommit) → made_last kept last ≡ Some commit → last ≡ Some commit
made_from kept None commit is = absurd (cc (is))
made_from kept (Some other) commit is = by (has_commit kept other) refl
  where
    by : (b : Bool) → has_commit kept other ≡ b → Some other ≡ Some commit
    by true has = sym (ap (λ (b : Bool). if b then Some other else None) has) ∙ is
    by false has = absurd (let none = sym (ap (λ (b : Bool). if b then Some other else None) has) ∙ is in cc)

mapped_from : (o : Option HubCommit) (commit : HubCommit) → option_map Commit o ≡ Some (Commit commit) → o ≡ Some commit
mapped_from None commit is = absurd (cc (is))
mapped_from (Some other) commit is = let same : other ≡ commit = cc in ap Some same

pub own_last : (before after : HeldHub) → after.last ≡ before.last → after.commit_open ≡ false → (commit : HubCommit) → entry_due after ≡ Some (Commit commit) → before.last ≡ Some commit
own_last before after last closed commit due = sym last ∙ made_from after.kept after.last commit (mapped_from (made_last after.kept after.last) commit (sym (due_closed after closed) ∙ due))
