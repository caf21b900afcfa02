-- The three steps of a call put together.
use Rattle.std.proofs.Common.{◌≡◌, ◌≢◌, ℕ, Bool, true, false, List, [], ◌∷◌, ◌++◌, Some, None, Result, Ok, Err}
use Rattle.std.proofs.Common.{refl, sym, ap, ◌∙◌, subst, inl, inr, arith}
use Rattle.std.proofs.lemmas.List.{append-nil}
use Rattle.hub_core.specs.Standing.{HeldHub, KeeperFits}
use Rattle.hub_core.specs.Steps.{LeavesOpen, RefusesNothing}
use Rattle.hub_core.specs.Works.{Did}
use Rattle.keeper_memory.specs.Kept.{KeptState}
use Rattle.hub_history.specs.declared.entry.Entry.{Entry}
use Rattle.hub_history.specs.declared.entry.Entry.TheVariants.{Commit, Fault}
use Rattle.hub_history.specs.Histories.{state_after}
use Rattle.hub_history.specs.Published.{Published, history, none_waits}
use Rattle.hub_shared.specs.Reloads.{Reloads}
use Rattle.hub_shared.specs.Standings.{FaultPublished, IsFound, IsOwn, Owned, Pushed, Receipted, Standing, Unfailed}
use Rattle.hub_shared.specs.Standings.{Worked, entry_due, handed_out}
use Rattle.hub_core.specs.declared.hub_error.HubError.{HubError}
use Rattle.hub_core.specs.declared.hub_error.HubError.TheVariants as error
use Rattle.hub_shared.proofs.Stands.{IsCommit, Outcome, added_stands, history_whole, last_out, left_out, log_whole}
use Rattle.hub_shared.proofs.Stands.{outcome, own_last, owned_busy, owned_told, pushed_as}

-- ---- the second step

-- nothing was done
pub same_reloads : (log log' : Published) (hub out : HeldHub) (count count' : ℕ) → log' ≡ log → Reloads (history log) log' hub out count count' (Err error.NoMemory)
same_reloads log log' hub out count count' same = inl ([], inl refl, ap history same ∙ sym (append-nil (history log)))

-- the keeper was asked what it made of the commit that was left open
module _ (log log' : Published) {hub after : HeldHub} {count count' : ℕ} (none : log.waiting ≡ None) (left : hub.commit_open ≡ true) (kept : after.last ≡ hub.last) (done : Bool) (outcome : Outcome hub after count count') (push : Pushed (entry_due after) log log' done) where
  found_commit : (made : IsCommit hub after count count') → IsFound hub (Commit made.commit ∷ [])
  found_commit made = inr (made.commit, left, own_last hub after kept made.closed made.commit made.due, refl)

  pushed_commit : (made : IsCommit hub after count count') → Pushed (Some (Commit made.commit)) log log' done
  pushed_commit made = pushed_as log log' done made.due push

  -- there was no memory to publish what it told
  pub busy_reloads : (out : HeldHub) → Reloads (history log) log' hub out count count' (Err error.NoMemory)
  busy_reloads out = by outcome
    where
      by : Outcome hub after count count' → Reloads (history log) log' hub out count count' (Err error.NoMemory)
      by (inl nothing) =
          let same = (pushed_as log log' done nothing.due push).0 in
          inl ([], inl refl, ap history same ∙ sym (append-nil (history log)))
      by (inr (inl made)) = inl (Commit made.commit ∷ [], found_commit made, (pushed_commit made).0)
      by (inr (inr fault)) =
          let p = pushed_as log log' done fault.due push in
          inr (p.0, let r = fault.rose in omega (arith, r))

  -- it was published, or a fault
  pub asked_reloads : {out : HeldHub} (r : Result (Unit {0}) HubError) → (r ≡ Err error.NoMemory → ⊥) → LeavesOpen r after.commit_open → RefusesNothing r → done ≡ true → out ≡ handed_out after → Reloads (history log) log' hub out count count' r
  asked_reloads {out} (Ok x) told shut refuses all is = by outcome
    where
      closed : out.commit_open ≡ false
      closed = ap (λ (h : HeldHub). h.commit_open) is ∙ (left_out after ∙ shut)

      last : out.last ≡ None
      last = ap (λ (h : HeldHub). h.last) is ∙ last_out after shut

      by : Outcome hub after count count' → Reloads (history log) log' hub out count count' (Ok x)
      by (inl nothing) =
          let same = (pushed_as log log' done nothing.due push).0 in
          ([], inl refl, same ∙ (log_whole log none ∙ ap none_waits (sym (append-nil (history log)))), closed, last, nothing.stays)
      by (inr (inl made)) = (Commit made.commit ∷ [], found_commit made, (pushed_commit made).1 all, closed, last, made.stays)
      by (inr (inr fault)) = absurd (let a = fault.left in cc)
  asked_reloads {out} (Err error.Keeper) told open_is refuses all is = by outcome
    where
      by : Outcome hub after count count' → Reloads (history log) log' hub out count count' (Err error.Keeper)
      by (inl nothing) = absurd (let a = nothing.closed in cc)
      by (inr (inl made)) = absurd (let a = made.closed in cc)
      by (inr (inr fault)) =
          let p = pushed_as log log' done fault.due push in
          (p.1 all, let r = fault.rose in omega (arith, r))
  asked_reloads (Err error.NoMemory) told opens refuses all is = absurd (told refl)
  asked_reloads (Err (error.Refused fault)) told opens refuses all is = absurd refuses

-- ---- the whole call

-- where a step before it fails, the call's own work isn't done
module _ {A : Type 0} (asks : A → KeptState → KeptState → Type 0) (fails : HubError → A) (o : KeptState) (log log1 : Published) (hub hub1 : HeldHub) (count count1 : ℕ) where
  pub undone : (r : Result (Unit {0}) HubError) (fault : HubError) → r ≡ Err fault → Reloads (history log) log1 hub hub1 count count1 r → Worked asks (fails error.Keeper) (fails error.NoMemory) o log log1 hub count count1 (fails fault)
  undone r fault is reloads = by fault (subst (Reloads (history log) log1 hub hub1 count count1) is reloads)
    where
      by : (fault : HubError) → Reloads (history log) log1 hub hub1 count count1 (Err fault) → Worked asks (fails error.Keeper) (fails error.NoMemory) o log log1 hub count count1 (fails fault)
      by error.Keeper (published, rose) =
          ([], inl refl, (Fault ∷ [], inr (inl (published ∙ ap (λ (l : List Entry). none_waits (l ++ Fault ∷ [])) (sym (append-nil (history log))), refl, rose, refl))))
      by error.NoMemory (inl (found, fd, h)) =
          (found, fd, ([], inr (inr (h ∙ sym (append-nil (history log ++ found)), inl (inl refl, inl refl), refl))))
      by error.NoMemory (inr (h, rose)) =
          ([], inl refl, (Fault ∷ [], inr (inr (h ∙ ap (λ (l : List Entry). l ++ Fault ∷ []) (sym (append-nil (history log))), inr (refl, rose), refl))))
      by (error.Refused fault) none = absurd none

-- the steps of a call that was begun: a reload, the call's own work, and what was pushed of it
pub record Carried {A : Type 0} (asks : A → KeptState → KeptState → Type 0) (fails : HubError → A) (answer : A) (o : KeptState) (base : ℕ) (first : KeptState → Type 0) (log log1 log' : Published) (hub hub1 after : HeldHub) (stood : KeptState → Type 0) (count count1 count' : ℕ) (done : Bool) : Type 0 where
  pub begun : Result (Unit {0}) HubError
  pub is : begun ≡ Ok tt
  pub reloads : Reloads (history log) log1 hub hub1 count count1 begun
  pub stand : Standing o base first log1 hub1 stood count1
  pub did : Did asks (fails error.Keeper) answer hub1 after count1 count'
  pub push : Pushed (entry_due after) log1 log' done

-- its own work, and what is published of it
module _ {A : Type 0} {asks : A → KeptState → KeptState → Type 0} {fails : HubError → A} {answer : A} {o : KeptState} {base : ℕ} {first : KeptState → Type 0} {log log1 log' : Published} {hub hub1 after : HeldHub} {stood : KeptState → Type 0} {count count1 count' : ℕ} {done : Bool}
    (run : Carried asks fails answer o base first log log1 log' hub hub1 after stood count count1 count' done) where
  abbrev Works : A → Type 0
  Works told = Worked asks (fails error.Keeper) (fails error.NoMemory) o log log' hub count count' told

  ready : Reloads (history log) log1 hub hub1 count count1 (Ok tt)
  ready = subst (Reloads (history log) log1 hub hub1 count count1) run.is run.reloads

  none : log1.waiting ≡ None
  none = ap (λ (l : Published). l.waiting) ready.2

  out : Outcome hub1 after count1 count'
  out = outcome asks (fails error.Keeper) answer hub1 after count1 count' ready.4 run.stand.keeps run.did

  pub stands_on : (stands : KeptState → Type 0) → KeeperFits stands after → ((now : KeptState) → stands now → (before : KeptState) × stood before) → Standing o base first log' (handed_out after) stands count'
  stands_on stands fits told = added_stands o base first log1 hub1 stood count1 run.stand after stands count' fits told log' done out run.push

  on : (told : A) → Owned asks (fails error.Keeper) (fails error.NoMemory) o (history log1) log' count1 count' told → Works told
  on told own =
      let found = ready.0 in
      let h : history log1 ≡ history log ++ found = ap history ready.2 ∙ history_whole (history log ++ found) in (
        found,
        ready.1,
        subst (λ (n : ℕ). Owned asks (fails error.Keeper) (fails error.NoMemory) o (history log ++ found) log' n count' told) ready.5
            (subst (λ (l : List Entry). Owned asks (fails error.Keeper) (fails error.NoMemory) o l log' count1 count' told) h own),
      )

  pub worked_told : done ≡ true → Works answer
  worked_told all = on answer (owned_told asks (fails error.Keeper) (fails error.NoMemory) o log1 log' hub1 after count1 count' none run.stand.replays answer done run.did out run.push all)

  pub worked_busy : Works (fails error.NoMemory)
  worked_busy = on (fails error.NoMemory) (owned_busy asks (fails error.Keeper) (fails error.NoMemory) o log1 log' hub1 after count1 count' none run.stand.replays answer (fails error.NoMemory) done refl run.did out run.push)

-- where no answer tells that the keeper failed but where it did
module _ {A : Type 0} (asks : A → KeptState → KeptState → Type 0) (failed busy : A) (o : KeptState) (log log' : Published) (hub : HeldHub) (count count' : ℕ) (answer : A) where
  own_asked : (before own : List Entry) → IsOwn (Unfailed asks failed) failed busy o before own count count' → IsOwn asks failed busy o before own count count'
  own_asked before own (inl (due, inl none)) = inl (due, inl none)
  own_asked before own (inl (due, inr (given, asked))) = inl (due, inr (given, asked.0))
  own_asked before own (inr fault) = inr fault

  pub worked_asked : Worked (Unfailed asks failed) failed busy o log log' hub count count' answer → Worked asks failed busy o log log' hub count count' answer
  worked_asked (found, fd, (own, inl (published, due, asked))) = (found, fd, (own, inl (published, due, asked.0)))
  worked_asked (found, fd, (own, inr (inl fault))) = (found, fd, (own, inr (inl fault)))
  worked_asked (found, fd, (own, inr (inr (h, mine, told)))) = (found, fd, (own, inr (inr (h, own_asked (history log ++ found) own mine, told))))

  pub worked_failed : failed ≢ busy → answer ≡ failed → Worked (Unfailed asks failed) failed busy o log log' hub count count' answer → FaultPublished log log' hub count count'
  worked_failed apart is (found, fd, (own, inl (published, due, asked))) = absurd (asked.1 is)
  worked_failed apart is (found, fd, (own, inr (inl (published, fault, rose, told)))) =
      (found, fd, published ∙ ap (λ (l : List Entry). none_waits ((history log ++ found) ++ l)) fault, rose)
  worked_failed apart is (found, fd, (own, inr (inr (h, mine, told)))) = absurd (apart (sym is ∙ told))

-- what a receipt says
pub receipt_says : {A : Type 0} (asks : A → KeptState → KeptState → Type 0) (failed busy : A) (o : KeptState) (before : List Entry) (log' : Published) (count count' : ℕ) (answer : A) (receipt : List Entry) → Owned asks failed busy o before log' count count' answer
    → receipt ≡ log'.published → Receipted asks failed busy o answer receipt
receipt_says asks failed busy o before log' count count' answer receipt (own, inl (published, due, asked)) is =
    let r : receipt ≡ before ++ own = is ∙ ap (λ (l : Published). l.published) published in
    inr (inr (before, own, r, due, subst (λ (l : List Entry). asks answer (state_after o before) (state_after o l)) (sym r) asked))
receipt_says asks failed busy o before log' count count' answer receipt (own, inr (inl (published, fault, rose, told))) is =
    let r : receipt ≡ before ++ own = is ∙ ap (λ (l : Published). l.published) published in
    inr (inl (before, r ∙ ap (λ (l : List Entry). before ++ l) fault, told))
receipt_says asks failed busy o before log' count count' answer receipt (own, inr (inr (h, mine, told))) is = inl told

-- what is said of a call, said of what is equal to its histories, hub and count
pub worked_along : {A : Type 0} (asks : A → KeptState → KeptState → Type 0) (failed busy : A) (o : KeptState) {log log' log2 log2' : Published} {hub hub2 : HeldHub} {count count2 : ℕ} (count' : ℕ) (answer : A) → log2 ≡ log → log2' ≡ log' → hub2 ≡ hub → count2 ≡ count
    → Worked asks failed busy o log log' hub count count' answer → Worked asks failed busy o log2 log2' hub2 count2 count' answer
worked_along asks failed busy o count' answer a b c d worked = rw (a, b, c, d) worked
