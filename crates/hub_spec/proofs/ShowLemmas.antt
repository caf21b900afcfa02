-- What an answer to a marked write shows of each later state.
use Rattle.std.proofs.Common.{◌≡◌, ◌<◌, ◌≤◌, ℕ, zero, suc, false, List, length, Option, None, Some, refl, sym, ap}
use Rattle.std.proofs.Common.{subst, ◌∙◌, arith}
use Rattle.std.proofs.lemmas.Option.{same_Some}
use Rattle.grant_scopes.specs.Opens.{opens}
use Rattle.keeper_memory.specs.declared.copy.entry.OutEntry.{OutEntry}
use Rattle.hub_spec.proofs.Cutting.{known_at}
use Rattle.hub_spec.proofs.Versions.{newest_at, some_version}
use Rattle.hub_spec.specs.rules.Checks.{grant_in, version_at}
use Rattle.hub_spec.specs.rules.Growth.{Grew}
use Rattle.hub_spec.specs.rules.States.{IsHub}
use Rattle.hub_spec.specs.rules.Verdicts.{newest_in}
use Rattle.status_info.specs.Causes.{status_of}
use Rattle.status_info.specs.declared.reply.Reply.{Reply}
use Rattle.version_core.specs.Grants.{grant_of}
use Rattle.version_core.specs.HubStates.{HubState, newest_number}
use Rattle.version_core.specs.Marks.{mark_at}
use Rattle.version_core.specs.declared.change.BaseVersion.{BaseVersion}
use Rattle.version_core.specs.declared.grant_row.GrantRow.{GrantRow}
use Rattle.version_core.specs.declared.mark.MarkRow.{MarkRow}
use Rattle.hub_spec.specs.marks.Agreement.{GivesOnly, IsShown}
use Rattle.hub_spec.specs.marks.Answering.{CanSendWrite, IsWriteReply, Shown, ShowsMark, Shut, Stranger, Taken}
use Rattle.hub_spec.specs.marks.Answering.{access_to}
use Rattle.hub_spec.specs.marks.Answering.{kept_status}
use Rattle.hub_spec.specs.marks.Marked.{Marked, mark_of}

-- ---- the statuses of kept outcomes

pub data IsKeptStatus (status : ℕ) : Type 0 where
  Stored : status ≡ 201 → IsKeptStatus status
  Deleted : status ≡ 204 → IsKeptStatus status
  Bad : status ≡ 400 → IsKeptStatus status
  Missing : status ≡ 404 → IsKeptStatus status
  Refused : status ≡ 422 → IsKeptStatus status

-- none is 401, 403, 500 or 503
pub status_kept : (outcome : ℕ) → IsKeptStatus (kept_status outcome)
unfolding kept_status
status_kept zero = Stored refl
status_kept (suc zero) = Refused refl
status_kept (suc (suc zero)) = Bad refl
status_kept (suc (suc (suc zero))) = Missing refl
status_kept (suc (suc (suc (suc zero)))) = Refused refl
status_kept (suc (suc (suc (suc (suc zero))))) = Refused refl
status_kept (suc (suc (suc (suc (suc (suc zero)))))) = Refused refl
status_kept (suc (suc (suc (suc (suc (suc (suc zero))))))) = Refused refl
status_kept (suc (suc (suc (suc (suc (suc (suc (suc zero)))))))) = Refused refl
status_kept (suc (suc (suc (suc (suc (suc (suc (suc (suc zero))))))))) = Deleted refl
status_kept (suc (suc (suc (suc (suc (suc (suc (suc (suc (suc n)))))))))) = Stored refl

-- ---- callers

module _ (mid after : HubState) (hub : IsHub mid) (to : Grew mid after) where
  -- the newest version of a state stands in each later one
  newest_there : newest_number mid < length after.published
  newest_there = omega (arith, some_version mid hub.state, to.longer)

  same_there : version_at after (newest_number mid) ≡ newest_in mid
  same_there = to.same (newest_number mid) (omega (arith, some_version mid hub.state)) ∙ sym (newest_at mid hub.state)

  -- the caller of the token at a state is its only caller in each later one
  caller_is : (token : Option (List ℕ)) (by : GrantRow) (caller : List ℕ) → grant_in mid token ≡ Some by → GivesOnly after token caller → by.caller ≡ caller
  caller_is None by caller known only = cc
  caller_is (Some word) by caller known only = only (newest_number mid) by newest_there (ap (λ (v : BaseVersion). grant_of word v.grants) same_there ∙ known)

  -- a grant that hasn't changed since is the token's at that state
  stood : (token : Option (List ℕ)) (by : GrantRow) (since : ℕ) → IsHub after → since ≤ newest_number mid → grant_in after token ≡ Some by → by.grant.since ≤ since → grant_in mid token ≡ Some by
  stood None by since good le known unchanged = cc
  stood (Some word) by since good le known unchanged =
      ap (λ (v : BaseVersion). grant_of word v.grants) (sym same_there) ∙ known_at after good word by known (newest_number mid) (omega (arith, unchanged, le)) (omega (arith, newest_there))

module _ (mid left after : HubState) (hub : IsHub mid) (step : Grew mid left) (on : Grew left after) (to : Grew mid after) (token : Option (List ℕ)) (reply : Reply) where
  -- a reply that shows the mark shows what each later state holds under it
  pub own_shown : (entry : OutEntry) (version : ℕ) (caller : List ℕ) → GivesOnly after token caller → reply.mark ≡ Some entry.number → reply.version ≡ Some version
      → IsWriteReply mid token (mark_of entry) reply left → IsShown after caller entry (record { status = status_of reply.cause; version = version })
  own_shown entry version caller only em ev says = elim says as (λ _. IsShown after caller entry (record { status = status_of reply.cause; version = version })) [
    | Stranger unknown why none ↦ absurd (let e = em in let n = none in cc)
    | Shut by known shut why none ↦ absurd (let e = em in let n = none in cc)
    | Taken by kept known held other why none ↦ absurd (let e = em in let n = none in cc)
    | Shown by kept known held shows ↦ record {
      mark = kept;
      held = on.marks caller entry.number kept (ap (λ c. mark_at (c, entry.number) left.marks) (sym (caller_is mid after hub to token by caller known only)) ∙ held);
      write = shows.write;
      status = shows.status;
      version = same_Some _ _ (sym ev ∙ shows.version);
    }
  ]

  -- where the token can send the write, the reply shows its mark
  pub shown_where_it_can : (marked : Marked) (by : GrantRow) (since : ℕ) → IsHub after → since ≤ newest_number mid → grant_in after token ≡ Some by → by.grant.since ≤ since
      → CanSendWrite after by marked → IsWriteReply mid token marked reply left → (kept : MarkRow) × ShowsMark kept marked reply
  shown_where_it_can marked by since good le known unchanged can says =
      let stands = stood mid after hub to token by since good le known unchanged in
      elim says as (λ _. (kept : MarkRow) × ShowsMark kept marked reply) [
        | Stranger unknown why none ↦ absurd (let e = stands in let u = unknown in cc)
        | Shut other known shut why none ↦ absurd (
            let same : other ≡ by = same_Some _ _ (sym known ∙ stands) in
            let closed = subst (λ (x : GrantRow). opens x.grant.scopes marked.write.kind (access_to marked.write) ≡ false) same shut in
            let opened = can.opened in cc)
        | Taken other kept known held differs why none ↦ absurd (
            let same : other ≡ by = same_Some _ _ (sym known ∙ stands) in
            differs (can.free kept (to.marks by.caller marked.number kept (subst (λ (x : GrantRow). mark_at (x.caller, marked.number) mid.marks ≡ Some kept) same held))))
        | Shown other kept known held shows ↦ (kept, shows)
      ]
