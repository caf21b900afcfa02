-- Legal histories, and the tables that stand for them.
use Rattle.std.proofs.Common.{◌≡◌, ◌==◌, ◌+◌, ◌++◌, Bool, true, List, [], ◌∷◌, length, Option, sym, ap, ◌∙◌, subst}
use Rattle.std.proofs.Common.{arith, length-append}
use Rattle.std.proofs.lemmas.Bool.Decides.{nat_tests}
use Rattle.std.proofs.lemmas.List.Sums.{fold-append}
use Rattle.std.specs.Option.{ForSome}
use mathlib.Core.List.{IsPrefix}
use Rattle.keeper_memory.specs.Commits.{CanLead, versions_after}
use Rattle.keeper_memory.specs.Kept.{KeptState}
use Rattle.version_core.specs.Version.{Versions}
use Rattle.version_core.specs.declared.change.Change.{Change}
use Rattle.hub_history.specs.declared.entry.Entry.{Entry}
use Rattle.hub_history.specs.declared.entry.Entry.TheVariants.{Commit, Fault}
use Rattle.hub_history.specs.Histories.{CanEnter, EndsLegally, IsLegal, IsTableOf, change_of, entered, state_after}
use Rattle.hub_history.proofs.Fronts.{prefix_shorter, prefix_whole}

-- the state after one entry more
pub one_more : (kept : KeptState) (log : List Entry) (e : Entry) → state_after kept (log ++ e ∷ []) ≡ entered (state_after kept log) e
one_more kept log e = fold-append entered kept log (e ∷ [])

-- an entry that may stand behind a legal history makes it no less legal
pub legal_more : (kept : KeptState) (log : List Entry) (e : Entry) → IsLegal kept log → CanEnter (state_after kept log) e → IsLegal kept (log ++ e ∷ [])
legal_more kept [] e legal can = (can, tt)
legal_more kept (x ∷ log) e legal can = (legal.0, legal_more (entered kept x) log e legal.1 can)

-- and the last of a legal history may stand behind the others
pub legal_last : (kept : KeptState) (log : List Entry) (e : Entry) → IsLegal kept (log ++ e ∷ []) → CanEnter (state_after kept log) e
legal_last kept [] e legal = legal.0
legal_last kept (x ∷ log) e legal = legal_last (entered kept x) log e legal.1

-- what a history goes on to by one entry is that entry
pub is_more : (log before front : List Entry) (e : Entry) → front ≡ before ++ e ∷ [] → IsPrefix log front → length log + 1 ≡ length front → front ≡ log ++ e ∷ []
is_more log before front e is begins longer =
    let n : length front ≡ length before + 1 = ap length is ∙ length_one before in
    let same : log ≡ before = prefix_whole log before (prefix_shorter log before front begins (e ∷ [], sym is) (omega (arith, longer, n))) (omega (arith, longer, n)) in
    is ∙ ap (λ (l : List Entry). l ++ e ∷ []) (sym same)
  where
    length_one : (xs : List Entry) → length (xs ++ e ∷ []) ≡ length xs + 1
    length_one xs = omega (arith, length-append xs (e ∷ []))

pub can_lead : (kept : KeptState) (e : Entry) → CanEnter kept e → ForSome (change_of e) (CanLead kept.versions)
can_lead kept (Commit commit) can = can.change
can_lead kept Fault can = λ change some. cc

-- a table takes in what stands behind it
module _ (kept : KeptState) (log : List Entry) (table : Versions) (is : IsTableOf (state_after kept log) table) where
  pub can_take : (front : List Entry) (e : Entry) → EndsLegally kept front e → IsPrefix log front → length log + 1 ≡ length front → ForSome (change_of e) (CanLead table.versions)
  can_take front e ends begins longer =
      let more = is_more log ends.before front e ends.is begins longer in
      let can = legal_last kept log e (subst (IsLegal kept) more ends.legal) in
      subst (λ versions. ForSome (change_of e) (CanLead versions)) (sym is.versions) (can_lead (state_after kept log) e can)

  takes_entry : (e : Entry) (table' : Versions) → table'.keep ≡ table.keep → table'.versions ≡ versions_after table.keep table.versions (change_of e) → IsTableOf (entered (state_after kept log) e) table'
  takes_entry (Commit commit) table' keep versions = record {
    keep = keep ∙ is.keep;
    versions = versions ∙ (λ i. versions_after (is.keep i) (is.versions i) commit.change);
  }
  takes_entry Fault table' keep versions = record { keep = keep ∙ is.keep; versions = versions ∙ is.versions }

  pub takes : (front : List Entry) (e : Entry) → EndsLegally kept front e → IsPrefix log front → length log + 1 ≡ length front
      → (table' : Versions) → table'.keep ≡ table.keep → table'.versions ≡ versions_after table.keep table.versions (change_of e) → IsTableOf (state_after kept front) table'
  takes front e ends begins longer table' keep versions =
      let more = is_more log ends.before front e ends.is begins longer in
      subst (λ (k : KeptState). IsTableOf k table') (sym (ap (state_after kept) more ∙ one_more kept log e)) (takes_entry e table' keep versions)

-- a copy that takes in an entry, where the tests say that it stands behind its history
module _ (kept : KeptState) (log front : List Entry) (e : Entry) (table room : Versions) (change : Option Change) (is : IsTableOf (state_after kept log) table) (ends : EndsLegally kept front e)
    (goes : Bool) (goes_is : goes ≡ true) (longer : goes ≡ (length log + 1 == length front)) (begins : goes ≡ true → IsPrefix log front)
    (change_is : change ≡ change_of e) (keep : room.keep ≡ table.keep) (versions : room.versions ≡ table.versions) where
  by_one : length log + 1 ≡ length front
  by_one = let test : (length log + 1 == length front) ≡ true = sym longer ∙ goes_is in grind (arith, nat_tests)

  pub up_can : ForSome change (CanLead room.versions)
  up_can =
      subst (λ (c : Option Change). ForSome c (CanLead room.versions)) (sym change_is)
      (subst (λ vs. ForSome (change_of e) (CanLead vs)) (sym versions) (can_take kept log table is front e ends (begins goes_is) by_one))

  pub up_is : (table' : Versions) → table'.keep ≡ room.keep → table'.versions ≡ versions_after room.keep room.versions change → IsTableOf (state_after kept front) table'
  up_is table' keep' versions' =
      takes kept log table is front e ends (begins goes_is) by_one table' (keep' ∙ keep) (versions' ∙ (λ i. versions_after (keep i) (versions i) (change_is i)))
