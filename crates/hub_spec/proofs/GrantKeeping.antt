-- A step that takes a request leads from a state in which each caller keeps its grant to another, whatever its versions
-- hold.
use Rattle.std.proofs.Common.{◌≡◌, ℕ, ℤ, inl, inr, Bool, true, false, Result, Ok, Err, sym, subst}
use Rattle.std.specs.Option.{ForSome}
use Rattle.rest_paths.specs.Paths.{IsPath}
use Rattle.hub_spec.proofs.Keeping.{verdict_granted}
use Rattle.hub_spec.specs.rules.Answers.{Answered, Answers, Entered, Written, write_of, write_result}
use Rattle.hub_spec.specs.rules.Checks.{Entry, entry_of}
use Rattle.hub_spec.specs.rules.Runs.{ActedOrNot, Acts, Fails, Replied, Steps, Take, WantsMemory}
use Rattle.hub_spec.specs.rules.States.{IsGranted}
use Rattle.hub_spec.specs.rules.Wanted.{Wanted, is_write, mark_number}
use Rattle.status_info.specs.declared.reply.Reply.{Reply}
use Rattle.version_core.specs.HubStates.{HubState}

same_granted : (before after : HubState) → IsGranted before → after ≡ before → IsGranted after
same_granted before after is same = subst IsGranted (sym same) is

module _ (before : HubState) (is : IsGranted before) (wanted : Wanted) (at : ℤ) (reply : Reply) (after : HubState) where
  written_granted : (entry : Entry) (r : Result Bool Reply) → Written before wanted entry (write_of wanted entry.path) at r reply after → IsGranted after
  written_granted entry (Err refusal) w = same_granted before after is w.1
  written_granted entry (Ok passed) w = subst IsGranted (sym w.3) (verdict_granted before is entry.by (mark_number wanted.mark) (write_of wanted entry.path) at w.0 w.1)

  entered_granted : (b : Bool) (entry : Entry) → Entered b before wanted at entry reply after → IsGranted after
  entered_granted true entry e = written_granted entry (write_result before wanted entry) e
  entered_granted false entry e = same_granted before after is e.1

  answered_granted : (r : Result Entry Reply) → Answered before wanted at r reply after → IsGranted after
  answered_granted (Err refusal) e = same_granted before after is e.1
  answered_granted (Ok entry) e = entered_granted (is_write wanted.verb) entry e

  answer_granted : Answers before wanted at reply after → IsGranted after
  unfolding Answers
  answer_granted answers = answered_granted (entry_of before wanted) answers

acted_granted : (before : HubState) → IsGranted before → (wanted : Wanted) (at : ℤ) (after : HubState) → ActedOrNot (Take wanted at) before after → IsGranted after
acted_granted before is wanted at after (inl same) = same_granted before after is same
acted_granted before is wanted at after (inr does) = answer_granted before is wanted at does.1.0 after does.1.1

pub step_granted : (before : HubState) → IsGranted before → (wanted : Wanted) (at : ℤ) → ForSome wanted.path IsPath → (reply : Reply) (after : HubState) (failed : ℕ) → Steps (Take wanted at) before (Replied reply) after failed → IsGranted after
step_granted before is wanted at path reply after failed (Acts does none) = answer_granted before is wanted at does.0 after does.1
step_granted before is wanted at path reply after failed (Fails acted told once) = acted_granted before is wanted at after acted
step_granted before is wanted at path reply after failed (WantsMemory wants told none) = acted_granted before is wanted at after wants
