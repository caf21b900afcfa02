-- What a hub answers to a marked write.
use Rattle.std.specs.Prelude.{◌≡◌, ◌≢◌, ℕ, false, true, List, Option, Some, None, if◌then◌else◌}
use Rattle.grant_scopes.specs.Opens.{opens}
use Rattle.grant_scopes.specs.declared.access.Access.{Access}
use Rattle.grant_scopes.specs.declared.access.Access.TheVariants as access
use Rattle.hub_spec.specs.rules.Answers.{cause_of}
use Rattle.hub_spec.specs.rules.Checks.{grant_in}
use Rattle.status_info.specs.Causes.{status_of}
use Rattle.status_info.specs.declared.cause.Cause.TheVariants as cause
use Rattle.status_info.specs.declared.reply.Reply.{Reply}
use Rattle.version_core.specs.HubStates.{HubState}
use Rattle.version_core.specs.Marks.{mark_at}
use Rattle.version_core.specs.declared.grant_row.GrantRow.{GrantRow}
use Rattle.version_core.specs.declared.mark.MarkRow.{MarkRow}
use Rattle.version_core.specs.declared.mark.Write.{Write}
use Rattle.hub_spec.specs.marks.Marked.{Marked}

-- the status of the reply that tells a kept outcome
unfoldable pub kept_status : ℕ → ℕ
kept_status outcome = status_of (cause_of outcome)

-- the access that a write needs
abbrev pub access_to : Write → Access
access_to write = if write.delete then access.Delete else access.Put

-- the reply tells what is kept under the mark, which holds this write
pub record ShowsMark (kept : MarkRow) (marked : Marked) (reply : Reply) : Type 0 where
  pub write : kept.write ≡ marked.write
  pub mark : reply.mark ≡ Some marked.number
  pub status : status_of reply.cause ≡ kept_status kept.kept.outcome
  pub version : reply.version ≡ Some kept.kept.version

-- the answer at a state, which leaves the next: no grant has the token; its grant doesn't open the access; the mark is
-- held with another write; or what is kept under the mark is shown. The mark is shown only in the last
pub data IsWriteReply (state : HubState) (token : Option (List ℕ)) (marked : Marked) (reply : Reply) (next : HubState) : Type 0 where
  Stranger : grant_in state token ≡ None → reply.cause ≡ cause.NoKnownToken → reply.mark ≡ None → IsWriteReply state token marked reply next
  Shut : (by : GrantRow) → grant_in state token ≡ Some by → opens by.grant.scopes marked.write.kind (access_to marked.write) ≡ false
      → reply.cause ≡ cause.ScopeMissing → reply.mark ≡ None → IsWriteReply state token marked reply next
  Taken : (by : GrantRow) (kept : MarkRow) → grant_in state token ≡ Some by → mark_at (by.caller, marked.number) state.marks ≡ Some kept → kept.write ≢ marked.write
      → reply.cause ≡ cause.MarkOfAnotherWrite → reply.mark ≡ None → IsWriteReply state token marked reply next
  Shown : (by : GrantRow) (kept : MarkRow) → grant_in state token ≡ Some by → mark_at (by.caller, marked.number) next.marks ≡ Some kept
      → ShowsMark kept marked reply → IsWriteReply state token marked reply next

-- the write may be sent under the grant: it opens the access, and the mark isn't held with another write
pub record CanSendWrite (state : HubState) (by : GrantRow) (marked : Marked) : Type 0 where
  pub opened : opens by.grant.scopes marked.write.kind (access_to marked.write) ≡ true
  pub free : (kept : MarkRow) → mark_at (by.caller, marked.number) state.marks ≡ Some kept → kept.write ≡ marked.write
