-- The lines and the statuses of what the outbox answers.
use Rattle.std.specs.Prelude.{ℕ, ◌++◌, List, Option, None, Some, codes, decimal}
use Rattle.keeper_memory.specs.declared.copy.entry.OutEntry.{OutEntry}
use Rattle.keeper_memory.specs.declared.copy.entry.Settled.{Settled}
use Rattle.hub_words.specs.Statuses.{bad_reply_status, copy_failed_status, done_status, peer_failed_status}
use Rattle.hub_words.specs.Statuses.{peer_no_memory_status, interrupted_status, last_number_status}
use Rattle.hub_words.specs.Statuses.{mark_taken_status, no_memory_status, no_scope_status, unknown_token_status}
use Rattle.exchange_link.specs.declared.send_answer.EnterError.{EnterError}
use Rattle.exchange_link.specs.declared.send_answer.EnterError.TheVariants as error
use Rattle.exchange_link.specs.declared.send_answer.SendAnswer.{SendAnswer}
use Rattle.exchange_link.specs.declared.send_answer.SendAnswer.TheVariants as answer

-- a word and a number
abbrev pub number_text : List ℕ → ℕ → List ℕ
number_text word number = word ++ decimal number ++ codes "\n"

-- ---- sending

-- the status of the process after the entries were sent
abbrev pub send_status : SendAnswer → ℕ
send_status (answer.Settled count) = done_status
send_status answer.KeeperFault = copy_failed_status
send_status (answer.Interrupted number) = interrupted_status
send_status answer.UnknownToken = unknown_token_status
send_status (answer.NoScope number) = no_scope_status
send_status (answer.MarkTaken number) = mark_taken_status
send_status (answer.BadReply number) = bad_reply_status
send_status (answer.HubFault number) = peer_failed_status
send_status (answer.HubNoMemory number) = peer_no_memory_status
send_status answer.LastRun = last_number_status
send_status answer.NoMemory = no_memory_status

-- the line that tells how the sending ended
unfoldable pub send_text : SendAnswer → List ℕ
send_text (answer.Settled count) = number_text (codes "settled ") count
send_text answer.KeeperFault = codes "copy store failed\n"
send_text (answer.Interrupted number) = number_text (codes "interrupted ") number
send_text answer.UnknownToken = codes "unknown token\n"
send_text (answer.NoScope number) = number_text (codes "no scope ") number
send_text (answer.MarkTaken number) = number_text (codes "mark taken ") number
send_text (answer.BadReply number) = number_text (codes "bad reply ") number
send_text (answer.HubFault number) = codes "hub failed\n"
send_text (answer.HubNoMemory number) = codes "hub without memory\n"
send_text answer.LastRun = codes "last number\n"
send_text answer.NoMemory = codes "no memory\n"

-- ---- entering

-- the line that tells under which number a write was entered
abbrev pub entered_text : ℕ → List ℕ
entered_text number = number_text (codes "entered ") number

-- the status of the process where a write wasn't entered
abbrev pub enter_status : EnterError → ℕ
enter_status error.KeeperFault = copy_failed_status
enter_status error.LastNumber = last_number_status
enter_status error.NoMemory = no_memory_status

-- the line that tells why it wasn't
unfoldable pub enter_text : EnterError → List ℕ
enter_text error.KeeperFault = codes "copy store failed\n"
enter_text error.LastNumber = codes "last number\n"
enter_text error.NoMemory = codes "no memory\n"

-- ---- the entries

-- what stands behind the number of an entry: the status and the version that the hub kept, or `waiting`
abbrev pub settled_text : Option Settled → List ℕ
settled_text None = codes " waiting\n"
settled_text (Some settled) = codes " " ++ decimal settled.status ++ codes " " ++ decimal settled.version ++ codes "\n"

-- the line of an entry
unfoldable pub entry_text : OutEntry → List ℕ
entry_text entry = decimal entry.number ++ settled_text entry.settled
