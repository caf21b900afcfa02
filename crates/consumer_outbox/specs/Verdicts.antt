-- What the own reply means for the entry that was sent.
use Rattle.std.specs.Prelude.{◌≡◌, ℕ, ◌==◌, Bool, true, false, if◌then◌else◌, Option, Some, None}
use Rattle.http_wire.specs.declared.reply_reading.WireReply.{WireReply}
use Rattle.consumer_outbox.specs.declared.verdict.Verdict.{Verdict}
use Rattle.consumer_outbox.specs.declared.verdict.Verdict.TheVariants as verdict

-- a reply that shows no mark
abbrev pub unmarked_verdict : ℕ → Verdict
unmarked_verdict status = if status == 403 then verdict.NoScope else if status == 422 then verdict.MarkTaken else verdict.BadReply

-- a reply that shows the entry's mark
abbrev pub marked_verdict : ℕ → Option ℕ → Verdict
marked_verdict status None = verdict.BadReply
marked_verdict status (Some version) = verdict.Settles status version

-- a reply that neither the token, the hub's keeper nor its memory stood in the way of
abbrev pub answered_verdict : ℕ → ℕ → Option ℕ → Option ℕ → Verdict
answered_verdict number status None version = unmarked_verdict status
answered_verdict number status (Some mark) version = if mark == number then marked_verdict status version else verdict.BadReply

-- the verdict by the status
abbrev pub verdict_at : ℕ → ℕ → WireReply → Verdict
verdict_at status number w =
    if status == 401 then verdict.UnknownToken
    else if status == 500 then verdict.HubFault
    else if status == 503 then verdict.HubNoMemory
    else answered_verdict number status w.mark w.version

-- the verdict of the own reply on the entry of this number
abbrev pub verdict_of : ℕ → WireReply → Verdict
verdict_of number w = verdict_at w.status number w

-- the entry is settled
abbrev pub does_settle : Verdict → Bool
does_settle (verdict.Settles status version) = true
does_settle v = false

-- the reply settled an entry
abbrev pub Settled : WireReply → Type 0
Settled w = (number : ℕ) × (does_settle (verdict_of number w) ≡ true)
