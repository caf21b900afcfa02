-- What a seat is to a contract, and what it is answered.
use Rattle.std.specs.Prelude.{◌≡◌, ◌⊎◌, ℤ, List}
use Rattle.hub_spec.specs.requests.Requests.{AnswersRequest, wanted_by}
use Rattle.keeper_memory.specs.Kept.{KeptState}
use Rattle.keeper_memory.specs.Parts.{IsPartOf}
use Rattle.rest_provider.specs.Replies.{out_of_memory}
use Rattle.status_info.specs.declared.reply.Reply.{Reply}
use Rattle.status_info.specs.declared.request.Request.{Request}
use Rattle.version_core.specs.HubStates.{HubState, IsHubState}
use Rattle.hub_history.specs.declared.entry.Entry.{Entry}

-- what it has seen, and the longest that it was told of
pub record SeatView : Type 0 where
  pub seen : List Entry
  pub told : List Entry

-- the reply to a read is the hub's at each state of which this is kept, or says that memory ran out
abbrev pub ReadsAt : KeptState → Request → Reply → Type 0
ReadsAt kept request reply = (state : HubState) → IsHubState state → IsPartOf kept state → (reply ≡ out_of_memory (wanted_by request)) ⊎ ((at : ℤ) → AnswersRequest state request at reply state)
