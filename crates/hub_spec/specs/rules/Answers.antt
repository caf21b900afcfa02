-- What a hub answers: the reply of the first check that a request fails, or else what it asks for.
use Rattle.std.specs.Prelude.{◌≡◌, ℕ, ℤ, Bool, true, false, List, [], ◌∷◌, Option, None, Result, Ok, Err, if◌then◌else◌}
use Rattle.std.specs.Prelude.{nat_lt, slice_index_or}
use Rattle.hub_spec.specs.rules.Verdicts.{Judges, Leads, Refused, Repeat, Same, Verdict}
use Rattle.hub_spec.specs.rules.Wanted.{Wanted, access_of, is_delete, is_good_mark, is_head, is_write, mark_number}
use Rattle.hub_spec.specs.rules.Written.{done_of, newest_after, state_after}
use Rattle.rest_paths.specs.Paths.{PathParts as Path}
use Rattle.hub_spec.specs.views.Lists.{id_at, kind_of_path}
use Rattle.grant_scopes.specs.Opens.{opens}
use Rattle.roster_base.specs.Reading.{◌>>=◌}
use Rattle.status_info.specs.declared.cause.Cause.{Cause}
use Rattle.status_info.specs.declared.cause.Cause.TheVariants as cause
use Rattle.status_info.specs.declared.reply.Reply.{Reply}
use Rattle.version_core.specs.HubStates.{HubState, newest_number}
use Rattle.version_core.specs.Outcomes.{mark_taken_outcome}
use Rattle.version_core.specs.declared.mark.Write.{Write}
use Rattle.hub_spec.specs.rules.Checks.{Entry, check, entry_of, refused_at}
use Rattle.hub_spec.specs.rules.Reads.{read_result}

-- the checks of a write that stand before its verdict: scope, mark
abbrev pub write_result : HubState → Wanted → Entry → Result Bool Reply
write_result state wanted entry = do
  opened ← check (opens entry.by.grant.scopes (kind_of_path entry.path) (access_of wanted.verb)) (refused_at wanted (newest_number state) cause.ScopeMissing)
  check (is_good_mark wanted.mark) (refused_at wanted (newest_number state) cause.BadMark)

-- the write that a request wants
abbrev pub write_of : Wanted → Path → Write
write_of wanted path = record { delete = is_delete wanted.verb; kind = kind_of_path path; id = id_at path 0; body = wanted.body }

-- the causes of the outcomes, in the order of their numbers
abbrev pub causes : List Cause
causes =
    cause.Stored ∷ cause.MarkOfAnotherWrite ∷ cause.BadBody ∷ cause.NoSuchObject ∷ cause.OwnedByAnother
    ∷ cause.ReferenceOutsideGrant ∷ cause.ReferenceOfWrongType ∷ cause.TooManyRows ∷ cause.LastVersion ∷ cause.Deleted ∷ []

-- the cause of the reply that tells an outcome
abbrev pub cause_of : ℕ → Cause
cause_of outcome = slice_index_or causes outcome cause.Stored

-- the reply that tells an outcome, under the mark where it is kept
abbrev pub told : Wanted → Option ℕ → ℕ → ℕ → Reply
told wanted mark version outcome = record (refused_at wanted version (cause_of outcome)) { mark = mark }

-- the reply that tells the verdict on a write
abbrev pub reply_to_write : HubState → Wanted → Write → Verdict → Reply
reply_to_write state wanted write (Leads version) = told wanted (mark_number wanted.mark) (newest_after state (Leads version)) (done_of write)
reply_to_write state wanted write Same = told wanted (mark_number wanted.mark) (newest_number state) (done_of write)
reply_to_write state wanted write (Repeat kept) = told wanted (mark_number wanted.mark) kept.version kept.outcome
reply_to_write state wanted write (Refused number) =
    told wanted (if nat_lt mark_taken_outcome number then mark_number wanted.mark else None) (newest_number state) number

-- a reply as it is sent: HEAD wants no body
abbrev pub sent : Wanted → Reply → Reply
sent wanted reply = record reply { headless = is_head wanted.verb }

-- the reply of checks: the one that answers, or the one that refuses
abbrev pub either : Result Reply Reply → Reply
either (Ok reply) = reply
either (Err reply) = reply

-- a read leaves the state
abbrev pub ReadAnswered : HubState → Wanted → Entry → Reply → HubState → Type 0
ReadAnswered before wanted entry reply after = (reply ≡ sent wanted (either (read_result before wanted entry))) × (after ≡ before)

-- a write is answered: refused by a check before its verdict, or by the verdict, which leads to the next state
abbrev pub Written : HubState → Wanted → Entry → Write → ℤ → Result Bool Reply → Reply → HubState → Type 0
Written before wanted entry write at (Err refusal) reply after = (reply ≡ sent wanted refusal) × (after ≡ before)
Written before wanted entry write at (Ok passed) reply after =
    (verdict : Verdict) × Judges before entry.by (mark_number wanted.mark) write at verdict
    × (reply ≡ sent wanted (reply_to_write before wanted write verdict))
    × (after ≡ state_after before entry.by.caller (mark_number wanted.mark) write verdict)

-- a request that passes the checks of path, method and token is answered as a write or as a read
abbrev pub Entered : Bool → HubState → Wanted → ℤ → Entry → Reply → HubState → Type 0
Entered true before wanted at entry reply after = Written before wanted entry (write_of wanted entry.path) at (write_result before wanted entry) reply after
Entered false before wanted at entry reply after = ReadAnswered before wanted entry reply after

-- a request is answered: refused by the checks of path, method and token, or behind them
abbrev pub Answered : HubState → Wanted → ℤ → Result Entry Reply → Reply → HubState → Type 0
Answered before wanted at (Err refusal) reply after = (reply ≡ sent wanted refusal) × (after ≡ before)
Answered before wanted at (Ok entry) reply after = Entered (is_write wanted.verb) before wanted at entry reply after

-- the hub's own answer to a request at a moment
unfoldable pub Answers : HubState → Wanted → ℤ → Reply → HubState → Type 0
Answers before wanted at reply after = Answered before wanted at (entry_of before wanted) reply after
