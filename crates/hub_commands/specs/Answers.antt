-- What a command answers: its status and its text are functions of the answer alone.
use Rattle.std.specs.Prelude.{◌≡◌, ◌≢◌, ◌⊎◌, ℕ, ◌++◌, List, [], codes}
use Rattle.consumer_commands.specs.DeltaLines.{delta_status, delta_text}
use Rattle.consumer_commands.specs.SendLines.{enter_status, enter_text, send_status, send_text}
use Rattle.consumer_commands.specs.SyncLines.{place_text, sync_status, sync_text}
use Rattle.hub_commands.specs.declared.answer.Answer.{Answer}
use Rattle.hub_commands.specs.declared.answer.End.{End}
use Rattle.hub_commands.specs.declared.answer.End.TheVariants.{BadRow, BadWord, CopyFailed, DeltaSynced, Done}
use Rattle.hub_commands.specs.declared.answer.End.TheVariants.{ExportTooLarge, FileNotUtf8, FileTooLarge, FolderFailed}
use Rattle.hub_commands.specs.declared.answer.End.TheVariants.{GrantsRefused, HubFailed, MissingFile, NoMemory}
use Rattle.hub_commands.specs.declared.answer.End.TheVariants.{NotEntered, NothingHeld, NotPublished, Refused}
use Rattle.hub_commands.specs.declared.answer.End.TheVariants.{RequestRefused, ScriptRefused, Sent, Synced}
use Rattle.hub_commands.specs.Lines.{bad_word_text, copy_failed, fault_text, folder_failed, grants_fault_text}
use Rattle.hub_commands.specs.Lines.{hub_failed, named_file_text, no_memory, nothing_held, publish_fault_text}
use Rattle.hub_commands.specs.Lines.{request_text, script_text}
use Rattle.hub_words.specs.Statuses.{bad_words_status, copy_failed_status, done_status, folder_failed_status}
use Rattle.hub_words.specs.Statuses.{hub_failed_status, no_memory_status, nothing_held_status, refused_status}
use Rattle.hub_words.specs.Statuses.{too_large_status}

abbrev pub status_of : End → ℕ
status_of Done = done_status
status_of (BadWord place) = bad_words_status
status_of FolderFailed = folder_failed_status
status_of (Refused fault) = refused_status
status_of (MissingFile name) = refused_status
status_of (FileTooLarge name) = refused_status
status_of (FileNotUtf8 name) = refused_status
status_of (BadRow name) = refused_status
status_of (GrantsRefused fault) = refused_status
status_of (RequestRefused number fault) = refused_status
status_of (ScriptRefused line) = refused_status
status_of (NotPublished fault) = refused_status
status_of HubFailed = hub_failed_status
status_of (Synced answer) = sync_status answer
status_of (DeltaSynced answer) = delta_status answer
status_of (NotEntered error) = enter_status error
status_of (Sent answer) = send_status answer
status_of CopyFailed = copy_failed_status
status_of NothingHeld = nothing_held_status
status_of (ExportTooLarge kind bytes) = too_large_status
status_of NoMemory = no_memory_status

-- the line that an end is told by
abbrev pub end_text : End → List ℕ
end_text Done = []
end_text (BadWord place) = bad_word_text place
end_text FolderFailed = folder_failed
end_text (Refused fault) = fault_text fault
end_text (MissingFile name) = named_file_text name (codes ": missing file\n")
end_text (FileTooLarge name) = named_file_text name (codes ": too large\n")
end_text (FileNotUtf8 name) = named_file_text name (codes ": not UTF-8\n")
end_text (BadRow name) = named_file_text name (codes ": bad row\n")
end_text (GrantsRefused fault) = grants_fault_text fault
end_text (RequestRefused number fault) = request_text number fault
end_text (ScriptRefused line) = script_text line
end_text (NotPublished fault) = publish_fault_text fault
end_text HubFailed = hub_failed
end_text (Synced answer) = sync_text answer
end_text (DeltaSynced answer) = delta_text answer
end_text (NotEntered error) = enter_text error
end_text (Sent answer) = send_text answer
end_text CopyFailed = copy_failed
end_text NothingHeld = nothing_held
end_text (ExportTooLarge kind bytes) = place_text (codes "too large ") kind bytes
end_text NoMemory = no_memory

-- what was done, and how it ended
abbrev pub text_of : Answer → List ℕ
text_of answer = answer.done ++ end_text answer.end

-- what is printed of an answer: itself, or what was done and that memory ran out for the lines of another end than Done
abbrev pub IsPrinted : Answer → Answer → Type 0
IsPrinted answer printed = (printed ≡ answer) ⊎ ((answer.end ≢ Done) × (printed ≡ record answer { end = NoMemory }))
