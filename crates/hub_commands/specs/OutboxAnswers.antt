-- What `enter`, `send` and `outbox` answer.
use Rattle.std.specs.Prelude.{◌≡◌, ◌⊎◌, ℕ, ℤ, true, false, List, [], Option, Result, Ok, Err, if◌then◌else◌, ⊤}
use Rattle.std.specs.Str.{is_utf8}
use Rattle.exchange_link.specs.Between.{CopyRun, LinkRun}
use Rattle.consumer_commands.specs.Outbox.{IsOutboxText}
use Rattle.consumer_commands.specs.SendLines.{entered_text}
pub use Rattle.consumer_commands.specs.Sends.{IsEnterOf, IsSendOf}
use Rattle.hub_words.specs.Tasks.{Object}
pub use Rattle.hub_words.specs.Tasks.{Sending}
use Rattle.keeper_memory.specs.copy.Copies.{max_body}
use Rattle.exchange_link.specs.declared.send_answer.EnterError.{EnterError}
use Rattle.exchange_link.specs.declared.send_answer.SendAnswer.{SendAnswer}
use Rattle.rest_provider.specs.Moments.{IsMomentOf}
use Rattle.outside_ports.specs.declared.failed.IoError.{IoError}
use Rattle.outside_ports.specs.declared.folder.FileRead.{FileRead}
use Rattle.outside_ports.specs.declared.folder.FileRead.TheVariants.{Absent, Bytes, TooLong}
use Rattle.outside_ports.specs.Files.{ReadsFile, Stored}
use Rattle.roster_types.specs.Records.{Record}
use Rattle.row_json.specs.Puts.{put_of}
use Rattle.row_json.specs.declared.fault.JsonFault.{JsonFault}
use Rattle.version_core.specs.declared.mark.Write.{Write}
use Rattle.hub_commands.specs.ConsumerAnswers.{CopyStays, ReadEnds}
use Rattle.hub_commands.specs.declared.answer.Answer.{Answer}
use Rattle.hub_commands.specs.declared.answer.End.{End}
use Rattle.hub_commands.specs.declared.answer.End.TheVariants.{BadRow, Done, FileNotUtf8, FileTooLarge, FolderFailed}
use Rattle.hub_commands.specs.declared.answer.End.TheVariants.{MissingFile, NoMemory, NotEntered, Sent}
use Rattle.hub_words.specs.declared.words.EnterTask.{EnterTask}
use Rattle.hub_words.specs.declared.words.EnterTask.TheVariants.{Delete, Put}
use Rattle.hub_commands.specs.Outside.{HaveRisen, HaveStood, Outside}

-- ---- the write that is to be entered

abbrev pub put_write : Object → List ℕ → Write
put_write object body = record { delete = false; kind = object.kind; id = object.id; body = body }

abbrev pub delete_write : Object → Write
delete_write object = record { delete = true; kind = object.kind; id = object.id; body = [] }

-- the write of a body, if the body says a row
abbrev pub or_bad_row : List ℕ → Object → List ℕ → Result Record JsonFault → Result Write End
or_bad_row name object body (Ok row) = Ok (put_write object body)
or_bad_row name object body (Err fault) = Err (BadRow name)

-- the write by what was read of the file of its body, or how the file is refused
abbrev pub put_in : Object → ℤ → List ℕ → FileRead → Result Write End
put_in object at name Absent = Err (MissingFile name)
put_in object at name TooLong = Err (FileTooLarge name)
put_in object at name (Bytes bytes) =
    if is_utf8 bytes then or_bad_row name object bytes (put_of object.kind object.id at bytes) else Err (FileNotUtf8 name)

-- the write of a task, or how the file of its body in the root folder is refused; a body may be read at any moment of
-- the clock
abbrev pub IsWriteOf : Option (List Stored) → Option ℤ → EnterTask → Result Write End → Type 0
IsWriteOf files moment (Put object file) write =
    (read : FileRead) × (at : ℤ) × IsMomentOf moment at × ReadsFile {E = IoError} files [] file max_body (Ok read) × (put_in object at file read ≡ write)
IsWriteOf files moment (Delete object) write = write ≡ Ok (delete_write object)

-- that write or refusal, unless memory runs out
abbrev pub GivesWrite : Result Write End → Result Write End → Type 0
GivesWrite told (Err NoMemory) = ⊤
GivesWrite told write = told ≡ write

-- ---- `enter`

-- what is told of a write that was entered, or not; memory may run out for its line
abbrev pub IsEntered : Result ℕ EnterError → Answer → Type 0
IsEntered (Ok number) answer = ((answer.done ≡ entered_text number) × (answer.end ≡ Done)) ⊎ ((answer.done ≡ []) × (answer.end ≡ NoMemory))
IsEntered (Err error) answer = (answer.done ≡ []) × ((answer.end ≡ NotEntered error) ⊎ (answer.end ≡ NoMemory))

-- the write of a task, or how it comes not to be made: the folder fails, memory runs out, or the file of the body is
-- refused
abbrev pub ReadsWrite : Outside → EnterTask → Result Write End → Type 0
ReadsWrite outside task (Ok write) = IsWriteOf outside.files outside.moment task (Ok write) × HaveStood outside.folder
ReadsWrite outside task (Err FolderFailed) = HaveRisen outside.folder
ReadsWrite outside task (Err NoMemory) = ⊤
ReadsWrite outside task (Err end) = IsWriteOf outside.files outside.moment task (Err end) × HaveStood outside.folder

-- nothing is entered
abbrev pub StopsEnter : EnterTask → Outside → CopyRun → Answer → Type 0
StopsEnter task outside copy answer = (end : End) × copy.same × ReadsWrite outside task (Err end) × (answer ≡ record { done = []; end = end })

-- the write is entered, or not, and all holds that is promised of that
abbrev pub Enters : EnterTask → Outside → CopyRun → Answer → Type 0
Enters task outside copy answer =
    (write : Write) × (r : Result ℕ EnterError) × ReadsWrite outside task (Ok write) × IsEnterOf write r copy × IsEntered r answer

abbrev pub IsEnterAnswer : EnterTask → Outside → CopyRun → Answer → Type 0
IsEnterAnswer task outside copy answer = StopsEnter task outside copy answer ⊎ Enters task outside copy answer

-- ---- `send` and `outbox`

-- the answer of `send`: that of a sending between copy and link, of which all holds that is promised of one; memory may
-- run out for its line
abbrev pub IsSendAnswer : Sending → CopyRun → LinkRun → Answer → Type 0
IsSendAnswer task copy link answer = (answer.done ≡ []) × (a : SendAnswer) × IsSendOf task a copy link × ((answer.end ≡ Sent a) ⊎ (answer.end ≡ NoMemory))

-- the answer of `outbox`, which leaves the copy as it is
abbrev pub IsOutboxAnswer : CopyRun → Answer → Type 0
IsOutboxAnswer copy answer = CopyStays copy × ReadEnds (IsOutboxText copy.stands) copy answer
