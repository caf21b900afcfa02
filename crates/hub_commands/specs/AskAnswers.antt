-- What `ask` answers: the replies to the requests in a file, and how the stream of its bytes ends.
use Rattle.std.specs.Prelude.{◌≡◌, ◌⊎◌, ◌++◌, ◌+◌, ◌<◌, ◌==◌, ◌&&◌, ⊤, ℕ, ℤ, Bool, true, false, List, [], Option, Some}
use Rattle.std.specs.Prelude.{None, Result, Ok, Err, length}
use Rattle.csv_sets.specs.Files.{largest}
use Rattle.http_wire.specs.Reading.{AreRequests, Causes}
use Rattle.http_wire.specs.declared.fault.WireFault.{WireFault}
use Rattle.http_wire.specs.declared.fault.WireFault.TheVariants as fault
use Rattle.rest_provider.specs.Ends.{CloseLast, MayFollow, StandFirst, StayOpen, counted, fault_text}
use Rattle.rest_provider.specs.Exchanges.{AreAt, CountsFailures, Exchange, TakesAll, replies_text, requests_of}
use Rattle.rest_provider.specs.declared.stream_end.StreamEnd.{StreamEnd}
use Rattle.rest_provider.specs.declared.stream_end.StreamEnd.TheVariants as stream
use Rattle.keeper_memory.specs.Kept.{KeptState}
use Rattle.outside_ports.specs.declared.failed.IoError.{IoError}
use Rattle.outside_ports.specs.declared.folder.FileRead.{FileRead}
use Rattle.outside_ports.specs.declared.folder.FileRead.TheVariants.{Absent, Bytes, TooLong}
use Rattle.outside_ports.specs.Files.{ReadsFile, Stored}
use Rattle.hub_commands.specs.declared.answer.End.{End}
use Rattle.hub_commands.specs.declared.answer.End.TheVariants.{Done, FileTooLarge, FolderFailed, HubFailed, MissingFile}
use Rattle.hub_commands.specs.declared.answer.End.TheVariants.{NoMemory, RequestRefused}
use Rattle.rest_provider.specs.declared.request_fault.RequestFault.{RequestFault}
use Rattle.rest_provider.specs.declared.request_fault.RequestFault.TheVariants.{AfterClose, Unreadable}
use Rattle.hub_commands.specs.Outside.{Faults, HaveRisen, HaveStood, NothingFailed, Outside}

-- ---- the file

-- the bytes of a file by what was read of it, or how it is refused
abbrev pub bytes_in : List ℕ → FileRead → Result (List ℕ) End
bytes_in name Absent = Err (MissingFile name)
bytes_in name TooLong = Err (FileTooLarge name)
bytes_in name (Bytes bytes) = Ok bytes

-- the bytes of a file in the root folder, or how it is refused
abbrev pub IsBytesOf : Option (List Stored) → List ℕ → Result (List ℕ) End → Type 0
IsBytesOf files name bytes = (read : FileRead) × ReadsFile {E = IoError} files [] name largest (Ok read) × (bytes_in name read ≡ bytes)

-- how no request comes to be read: the folder fails, the keeper fails as the hub is opened, memory runs out, or else
-- the file is refused
abbrev pub StopsAsking : Outside → List ℕ → End → Type 0
StopsAsking outside file FolderFailed = HaveRisen outside.folder
StopsAsking outside file HubFailed = HaveRisen outside.keeper
StopsAsking outside file NoMemory = ⊤
StopsAsking outside file end = IsBytesOf outside.files file (Err end) × NothingFailed outside

-- ---- the stream of its bytes

-- what a line may tell of a request that can't be read
abbrev pub IsToldOf : WireFault → Type 0
IsToldOf fault.End = ⊥
IsToldOf fault.Source = ⊥
IsToldOf fault.NoMemory = ⊥
IsToldOf _ = ⊤

-- why what stands behind the answered requests is refused
abbrev pub RefusesRest : List ℕ → List Exchange → List ℕ → RequestFault → Type 0
RefusesRest bytes exchanges done AfterClose =
    (rest : List ℕ) × (0 < length rest) × AreRequests bytes (requests_of exchanges) rest × CloseLast (requests_of exchanges) × (done ≡ replies_text exchanges)
RefusesRest bytes exchanges done (Unreadable e) =
    (kept : List ℕ) × (left : List ℕ) × AreRequests bytes (requests_of exchanges) (kept ++ left) × StayOpen (requests_of exchanges) × IsToldOf e × Causes e kept (Some left)
    × (done ≡ replies_text exchanges ++ fault_text e)

-- the answered requests are the first of the bytes, and memory ran out
abbrev pub StopsShort : List ℕ → List Exchange → List ℕ → Type 0
StopsShort bytes exchanges done =
    (kept : List ℕ) × (left : List ℕ) × (more : List ℕ) × StandFirst bytes (requests_of exchanges) (kept ++ left) × MayFollow more kept (Some left) × (done ≡ replies_text exchanges ++ more)

-- how the bytes end: all of them are requests, the rest is refused under the number of the next request, or memory runs
-- out; and what is written
abbrev pub StreamEnds : List ℕ → List Exchange → List ℕ → End → Type 0
StreamEnds bytes exchanges done Done = AreRequests bytes (requests_of exchanges) [] × (done ≡ replies_text exchanges)
StreamEnds bytes exchanges done (RequestRefused number why) = (number ≡ counted (length exchanges + 1)) × RefusesRest bytes exchanges done why
StreamEnds bytes exchanges done NoMemory = StopsShort bytes exchanges done
StreamEnds bytes exchanges done _ = ⊥

-- the requests of these bytes were taken in turn, at the clock's moments, by a run of the hub, with their replies, and
-- the keeper's count rose with each failure in it
pub record AsksBytes (moment : Option ℤ) (keeper : Faults) (bytes done : List ℕ) (end : End) (before after : KeptState) : Type 0 where
  pub exchanges : List Exchange
  pub moments : AreAt moment exchanges
  pub failed : ℕ
  pub count : CountsFailures keeper.before keeper.now failed
  pub run : TakesAll exchanges failed before after
  pub ends : StreamEnds bytes exchanges done end

-- the requests of the file were taken
pub record IsAsked (outside : Outside) (file done : List ℕ) (end : End) (before after : KeptState) : Type 0 where
  pub bytes : List ℕ
  pub is_file : IsBytesOf outside.files file (Ok bytes)
  pub folder : HaveStood outside.folder
  pub asks : AsksBytes outside.moment outside.keeper bytes done end before after

-- the answer to `ask`: the replies, or why no request was taken
abbrev pub IsAskAnswer : Outside → List ℕ → List ℕ → End → KeptState → KeptState → Type 0
IsAskAnswer outside file done end before after = ((done ≡ []) × (after ≡ before) × StopsAsking outside file end) ⊎ IsAsked outside file done end before after

-- ---- what the steps give

-- the bytes of a file, or the end that it brings, and the folder's faults
abbrev pub ReadsBytes : Option (List Stored) → Faults → List ℕ → Result (List ℕ) End → Type 0
ReadsBytes files faults file (Ok bytes) = IsBytesOf files file (Ok bytes) × HaveStood faults
ReadsBytes files faults file (Err FolderFailed) = HaveRisen faults
ReadsBytes files faults file (Err NoMemory) = ⊤
ReadsBytes files faults file (Err end) = IsBytesOf files file (Err end) × HaveStood faults

-- a file that is refused as a whole, or memory runs out
abbrev pub IsRefusedFile : Bool → List ℕ → End → Type 0
IsRefusedFile is_there name NoMemory = ⊤
IsRefusedFile true name end = end ≡ FileTooLarge name
IsRefusedFile false name end = end ≡ MissingFile name

-- the end behind so many answered requests, where nothing is left of the bytes, or something is
abbrev pub closed_end : ℕ → Bool → End
closed_end requests true = Done
closed_end requests false = RequestRefused (counted (requests + 1)) AfterClose

-- the end by how the stream of all bytes ended, and how many weren't taken; none where the sink failed
abbrev pub ask_end : StreamEnd → ℕ → Option End
ask_end (stream.Closed requests kept) left = Some (closed_end requests ((kept == 0) && (left == 0)))
ask_end (stream.Wire request e) left = Some (RequestRefused request (Unreadable e))
ask_end stream.NoMemory left = Some NoMemory
ask_end stream.Sink left = None
