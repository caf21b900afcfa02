-- Writes, from a table that stands for a hub's state.
use Rattle.std.specs.Prelude.{◌≡◌, ℕ, ℤ, None, Result, Ok, if◌then◌else◌}
use Rattle.gradebook_core.specs.declared.written.Written.{Written}
use Rattle.hub_core.specs.Standing.{HeldHub}
use Rattle.hub_core.specs.Works.{Did}
use Rattle.hub_core.specs.declared.hub_error.HubError.TheVariants as error
use Rattle.rest_paths.specs.Paths.{PathParts as Path}
use Rattle.hub_spec.specs.requests.Requests.{wanted_by}
use Rattle.hub_spec.specs.rules.Answers.{sent, told, write_of, write_result}
use Rattle.hub_spec.specs.rules.Checks.{grant_in, refused}
use Rattle.hub_spec.specs.rules.Runs.{Replied, Steps, Take}
use Rattle.hub_spec.specs.rules.States.{IsGranted, IsHub}
use Rattle.hub_spec.specs.rules.Wanted.{Wanted, mark_number}
use Rattle.keeper_memory.specs.Kept.{KeptState}
use Rattle.keeper_memory.specs.Parts.{IsPartOf}
use Rattle.rest_provider.specs.Steps.{error_reply}
use Rattle.rest_provider.specs.Replies.{entry, out_of_memory, path_checked}
use Rattle.rest_provider.specs.declared.writes.Asked.{Asked}
use Rattle.roster_base.specs.Reading.{◌>>=◌}
use Rattle.roster_base.specs.declared.refusal.Refusal.{Refusal}
use Rattle.roster_base.specs.declared.refusal.Refusal.TheVariants as refusal
use Rattle.roster_texts.specs.Results.{found_or}
use Rattle.status_info.specs.declared.cause.Cause.TheVariants as cause
use Rattle.status_info.specs.declared.reply.Reply.{Reply}
use Rattle.status_info.specs.declared.request.Request.{Request}
use Rattle.version_core.specs.HubStates.{HubState}

-- who asks for which write, where it passes the checks of a path's write: token, scope, mark
abbrev pub asked_at : HubState → Wanted → Path → Result Asked Reply
asked_at state wanted path = do
  by ← found_or (refused wanted cause.NoKnownToken) (grant_in state wanted.token)
  passed ← write_result state wanted (entry path by)
  Ok (record { by = by; write = write_of wanted path })

-- and those of the path before them
abbrev pub asked_in_turn : HubState → Wanted → Result Asked Reply
asked_in_turn state wanted = path_checked wanted >>= asked_at state wanted

-- the reply to a request that a check stops, or want of memory
abbrev pub stop_reply : Wanted → Refusal Reply → Reply
stop_reply wanted (refusal.Fault reply) = sent wanted reply
stop_reply wanted refusal.NoMemory = out_of_memory wanted

-- the reply that tells what became of a write
abbrev pub reply_of : Wanted → Written → Reply
reply_of wanted written = told wanted (if written.kept then mark_number wanted.mark else None) written.version written.outcome

-- at each state of a hub of which `before` is kept, and at which this is asked, the reply is that of a step which takes
-- the request at this moment and leads to a state of a hub of which `after` is kept
abbrev pub TakesWrite : Request → ℤ → Asked → Reply → KeptState → KeptState → ℕ → Type 0
TakesWrite request at asked reply before after failed =
    (state : HubState) → IsGranted state → IsPartOf before state → asked_in_turn state (wanted_by request) ≡ Ok asked
    → (next : HubState) × IsGranted next × (IsHub state → IsHub next) × IsPartOf after next × Steps (Take (wanted_by request) at) state (Replied reply) next failed

-- what such a write did of a hub with no commit left open
abbrev pub DidWrite : Request → ℤ → Asked → Reply → HeldHub → HeldHub → ℕ → ℕ → Type 0
DidWrite request at asked = Did (λ reply before after. TakesWrite request at asked reply before after 0) (error_reply (wanted_by request) error.Keeper)
