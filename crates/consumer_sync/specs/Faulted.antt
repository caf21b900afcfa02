-- What a synchronisation leaves of a stage where the keeper failed.
use Rattle.std.specs.Prelude.{◌≡◌, ◌⊎◌, ℕ, true, List, None, is_some}
use Rattle.keeper_memory.specs.copy.Copies.{Copy, Stage}
use Rattle.exchange_link.specs.Synchronised.{IsSwapped, StageOn, own_stage}
use Rattle.http_wire.specs.Answers.{IsReplyText}
use Rattle.http_wire.specs.declared.reply_reading.WireReply.{WireReply}

-- the bytes are a reply which says that a version isn't kept, and which is the oldest
abbrev pub SaysGone : List ℕ → Type 0
SaysGone kept = (w : WireReply) × IsReplyText kept w × (w.status ≡ 404) × (is_some w.oldest ≡ true)

-- where a stage stood under this token, it goes on; it ends where it was swapped in, or where the hub's reply says that
-- its pin isn't kept
abbrev pub FaultLaw : List ℕ → List ℕ → Copy → Copy → Type 0
FaultLaw token kept before after =
    (own_stage token before.stage ≡ None) ⊎ (StageOn token (own_stage token before.stage) after.stage ⊎ (((s : Stage) × IsSwapped s.pin s after) ⊎ SaysGone kept))
