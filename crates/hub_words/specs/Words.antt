-- The command that words spell, or the place of the first word that no command continues.
use Rattle.std.specs.Prelude.{ℕ, ◌+◌, ◌==◌, ◌&&◌, ◌||◌, Bool, false, not, List, [], ◌∷◌, Option, None, Some, Result, Ok}
use Rattle.std.specs.Prelude.{Err, bytes_eq, codes, if◌then◌else◌, drop, is_none, is_some, length, nat_le, nat_lt, suc}
use Rattle.std.specs.Prelude.{take, true, unwrap_or, zero}
use Rattle.std.specs.List.{after_first, before_first, list_any, prefix_len}
use Rattle.hub_words.specs.Tasks.{Task, largest_count}
use Rattle.hub_words.specs.declared.task.Feed.{Feed}
use Rattle.hub_words.specs.declared.task.ServeTask.{ServeTask}
use Rattle.keeper_memory.specs.copy.Copies.{largest_limit, largest_tries}
use Rattle.rest_paths.specs.Routes.{is_gradebook}
use Rattle.roster_base.specs.Reading.{◌>>=◌}
use Rattle.roster_texts.specs.Digits.{digits_value}
use Rattle.roster_texts.specs.Signs.{digit_zero, dot}
use Rattle.roster_texts.specs.Texts.{is_id, is_name, is_token}
use Rattle.roster_values.specs.Kinds.{kind_of_word}
use Rattle.roster_values.specs.declared.kind.Kind.{Kind}
use Rattle.roster_values.specs.declared.mode.Mode.TheVariants.{Bulk, Delta}
use Rattle.hub_words.specs.declared.words.Command.{Command}
use Rattle.hub_words.specs.declared.words.Command.TheVariants.{Ask, Cascade, Enter, Export, ExportManifest, ExportSince}
use Rattle.hub_words.specs.declared.words.Command.TheVariants.{Follow, Grant, ListHeld, Make, Outbox, Publish, Rehearse}
use Rattle.hub_words.specs.declared.words.Command.TheVariants.{Send, Show, Sync, SyncDelta}
use Rattle.hub_words.specs.declared.words.EnterTask.TheVariants.{Delete, Put}
use Rattle.hub_words.specs.declared.words.OptionWord.{OptionWord}
use Rattle.hub_words.specs.declared.words.OptionWord.TheVariants.{Folder, Keep, Peer, Store}
use Rattle.hub_words.specs.declared.words.Options.{Options}
use Rattle.hub_words.specs.declared.words.Parsed.{Parsed}
use Rattle.hub_words.specs.declared.words.ServeWords.{ServeWords}

-- a command whose words end here, before the word of that place
abbrev pub ended : ℕ → Command → List (List ℕ) → Result Command ℕ
ended place command [] = Ok command
ended place command (word ∷ words) = Err place

-- a command with the kind that its last word names, if it names one
abbrev pub of_kind : ℕ → (Kind → Command) → Option Kind → List (List ℕ) → Result Command ℕ
of_kind place command None words = Err place
of_kind place command (Some kind) words = ended (place + 1) (command kind) words

-- a kind's plural word, behind `show` or `list`
abbrev pub kind_words : ℕ → (Kind → Command) → List (List ℕ) → Result Command ℕ
kind_words place command [] = Err place
kind_words place command (word ∷ words) = of_kind place command (kind_of_word word) words

abbrev pub begins_with_dot : List ℕ → Bool
begins_with_dot [] = false
begins_with_dot (b ∷ bs) = b == dot

-- a word that may name a file or a folder
abbrev pub is_file_word : List ℕ → Bool
is_file_word word = is_name word && not (begins_with_dot word)

abbrev pub is_equals_sign : ℕ → Bool
is_equals_sign b = b == 61

-- a feed with this name and folder, if they are words for them
abbrev pub feed_in : List ℕ → List ℕ → Option Feed
feed_in name dir = if is_name name && is_file_word dir then Some (record { name = name; dir = dir }) else None

-- a feed's name and the folder of its set, with an equals sign between them
unfoldable pub feed_of : List ℕ → Option Feed
feed_of word = feed_in (before_first is_equals_sign word) (after_first is_equals_sign word)

-- what a word says, or the word's place where it says nothing
abbrev pub or_bad : {A : Type 0} → ℕ → Option A → Result A ℕ
or_bad place None = Err place
or_bad place (Some x) = Ok x

-- a feed in each word
abbrev pub feed_words : ℕ → List (List ℕ) → Result (List Feed) ℕ
feed_words place [] = Ok []
feed_words place (word ∷ words) = do
  feed ← or_bad place (feed_of word)
  feeds ← feed_words (place + 1) words
  Ok (feed ∷ feeds)

-- one feed or more, behind `publish`
abbrev pub publish_words : ℕ → List (List ℕ) → Result Command ℕ
publish_words place [] = Err place
publish_words place (word ∷ words) = do
  feeds ← feed_words place (word ∷ words)
  Ok (Publish feeds)

-- a file's name, behind `grant`, `ask` or `rehearse`
abbrev pub file_words : ℕ → (List ℕ → Command) → List (List ℕ) → Result Command ℕ
file_words place command [] = Err place
file_words place command (word ∷ words) = if is_file_word word then ended (place + 1) (command word) words else Err place

-- ---- numbers

-- a number in at most 12 digits, the first of which isn't 0
unfoldable pub number_in : List ℕ → Option ℕ
number_in [] = None
number_in (b ∷ bs) = if (b == digit_zero) || nat_lt 12 (length (b ∷ bs)) then None else digits_value (b ∷ bs)

-- a number from 1 to the most
abbrev pub in_bounds : ℕ → Option ℕ → Option ℕ
in_bounds most None = None
in_bounds most (Some n) = if nat_le 1 n && nat_le n most then Some n else None

-- the number from 1 to the most that a word writes
abbrev pub number_to : ℕ → List ℕ → Option ℕ
number_to most word = in_bounds most (number_in word)

-- ---- a synchronisation

-- a token, how many rows a page has at most and how often a request is tried, and the words behind them
abbrev pub tries_words : ℕ → List ℕ → ℕ → List (List ℕ) → Result (Task × List (List ℕ)) ℕ
tries_words place token limit [] = Err place
tries_words place token limit (word ∷ words) = do
  tries ← or_bad place (number_to largest_tries word)
  Ok (record { token = token; limit = limit; tries = tries }, words)

abbrev pub limit_words : ℕ → List ℕ → List (List ℕ) → Result (Task × List (List ℕ)) ℕ
limit_words place token [] = Err place
limit_words place token (word ∷ words) = do
  limit ← or_bad place (number_to largest_limit word)
  tries_words (place + 1) token limit words

abbrev pub task_words : ℕ → List (List ℕ) → Result (Task × List (List ℕ)) ℕ
task_words place [] = Err place
task_words place (word ∷ words) = if is_token word then limit_words (place + 1) word words else Err place

-- behind `sync` and `delta`
abbrev pub sync_words : ℕ → (Task → Command) → List (List ℕ) → Result Command ℕ
sync_words place command words = do
  (task, rest) ← task_words place words
  ended (place + 3) (command task) rest

-- a feed's name, behind `cascade`, and behind what a synchronisation is asked to do
abbrev pub name_words : ℕ → (List ℕ → Command) → List (List ℕ) → Result Command ℕ
name_words place command [] = Err place
name_words place command (word ∷ words) = if is_name word then ended (place + 1) (command word) words else Err place

-- behind `follow`
abbrev pub follow_words : ℕ → List (List ℕ) → Result Command ℕ
follow_words place words = do
  (task, rest) ← task_words place words
  name_words (place + 3) (Follow task) rest

-- ---- the outbox

-- a kind, if callers write its rows
abbrev pub only_gradebook : Option Kind → Option Kind
only_gradebook None = None
only_gradebook (Some kind) = if is_gradebook kind then Some kind else None

-- the kind of the gradebook that a word names
abbrev pub gradebook_kind : List ℕ → Option Kind
gradebook_kind word = only_gradebook (kind_of_word word)

-- an id and the name of a file, behind a kind
abbrev pub put_id_words : ℕ → Kind → List (List ℕ) → Result Command ℕ
put_id_words place kind [] = Err place
put_id_words place kind (word ∷ words) =
    if is_id word then file_words (place + 1) (λ file. Enter (Put (record { kind = kind; id = word }) file)) words else Err place

abbrev pub put_of_kind : ℕ → Option Kind → List (List ℕ) → Result Command ℕ
put_of_kind place None words = Err place
put_of_kind place (Some kind) words = put_id_words (place + 1) kind words

-- a kind of the gradebook, an id and the name of a file, behind `enter put`
abbrev pub put_words : ℕ → List (List ℕ) → Result Command ℕ
put_words place [] = Err place
put_words place (word ∷ words) = put_of_kind place (gradebook_kind word) words

-- an id, behind a kind
abbrev pub delete_id_words : ℕ → Kind → List (List ℕ) → Result Command ℕ
delete_id_words place kind [] = Err place
delete_id_words place kind (word ∷ words) = if is_id word then ended (place + 1) (Enter (Delete (record { kind = kind; id = word }))) words else Err place

abbrev pub delete_of_kind : ℕ → Option Kind → List (List ℕ) → Result Command ℕ
delete_of_kind place None words = Err place
delete_of_kind place (Some kind) words = delete_id_words (place + 1) kind words

-- a kind of the gradebook and an id, behind `enter delete`
abbrev pub delete_words : ℕ → List (List ℕ) → Result Command ℕ
delete_words place [] = Err place
delete_words place (word ∷ words) = delete_of_kind place (gradebook_kind word) words

-- what is entered, behind `enter`
abbrev pub enter_words : ℕ → List (List ℕ) → Result Command ℕ
enter_words place [] = Err place
enter_words place (word ∷ words) =
    if bytes_eq word (codes "put") then put_words (place + 1) words
    else if bytes_eq word (codes "delete") then delete_words (place + 1) words
    else Err place

-- how often a request is tried, behind the token of `send`
abbrev pub send_tries_words : ℕ → List ℕ → List (List ℕ) → Result Command ℕ
send_tries_words place token [] = Err place
send_tries_words place token (word ∷ words) = do
  tries ← or_bad place (number_to largest_tries word)
  ended (place + 1) (Send (record { token = token; tries = tries })) words

-- a token, and how often a request is tried, behind `send`
abbrev pub send_words : ℕ → List (List ℕ) → Result Command ℕ
send_words place [] = Err place
send_words place (word ∷ words) = if is_token word then send_tries_words (place + 1) word words else Err place

-- ---- an export

-- the mode of a manifest, behind `manifest`
abbrev pub mode_words : ℕ → List (List ℕ) → Result Command ℕ
mode_words place [] = Err place
mode_words place (word ∷ words) =
    if bytes_eq word (codes "bulk") then ended (place + 1) (ExportManifest Bulk) words
    else if bytes_eq word (codes "delta") then ended (place + 1) (ExportManifest Delta) words
    else Err place

-- nothing, or `since` and the folder of a set, behind a kind
abbrev pub since_words : ℕ → Kind → List (List ℕ) → Result Command ℕ
since_words place kind [] = Ok (Export kind)
since_words place kind (word ∷ words) = if bytes_eq word (codes "since") then file_words (place + 1) (ExportSince kind) words else Err place

abbrev pub export_of_kind : ℕ → Option Kind → List (List ℕ) → Result Command ℕ
export_of_kind place None words = Err place
export_of_kind place (Some kind) words = since_words (place + 1) kind words

-- the manifest, or a kind, behind `export`
abbrev pub export_words : ℕ → List (List ℕ) → Result Command ℕ
export_words place [] = Err place
export_words place (word ∷ words) =
    if bytes_eq word (codes "manifest") then mode_words (place + 1) words else export_of_kind place (kind_of_word word) words

-- ---- a district

-- how many schools are made, behind `make`
abbrev pub make_words : ℕ → List (List ℕ) → Result Command ℕ
make_words place [] = Err place
make_words place (word ∷ words) = do
  count ← or_bad place (number_to largest_count word)
  ended (place + 1) (Make count) words

-- ---- the command

-- the command from a place on
abbrev pub command_words : ℕ → List (List ℕ) → Result Command ℕ
command_words place [] = Err place
command_words place (word ∷ words) =
    if bytes_eq word (codes "show") then kind_words (place + 1) Show words
    else if bytes_eq word (codes "publish") then publish_words (place + 1) words
    else if bytes_eq word (codes "grant") then file_words (place + 1) Grant words
    else if bytes_eq word (codes "ask") then file_words (place + 1) Ask words
    else if bytes_eq word (codes "sync") then sync_words (place + 1) Sync words
    else if bytes_eq word (codes "delta") then sync_words (place + 1) SyncDelta words
    else if bytes_eq word (codes "cascade") then name_words (place + 1) Cascade words
    else if bytes_eq word (codes "follow") then follow_words (place + 1) words
    else if bytes_eq word (codes "enter") then enter_words (place + 1) words
    else if bytes_eq word (codes "send") then send_words (place + 1) words
    else if bytes_eq word (codes "outbox") then ended (place + 1) Outbox words
    else if bytes_eq word (codes "list") then kind_words (place + 1) ListHeld words
    else if bytes_eq word (codes "export") then export_words (place + 1) words
    else if bytes_eq word (codes "rehearse") then file_words (place + 1) Rehearse words
    else if bytes_eq word (codes "make") then make_words (place + 1) words
    else Err place

-- ---- options

-- what is given where no option is
abbrev pub no_options : Options
no_options = record { folder = None; store = None; peer = None; keep = None }

-- the option that a word names, if it isn't given yet
unfoldable pub option_of : Options → List ℕ → Option OptionWord
option_of options word =
    if bytes_eq word (codes "--folder") && is_none options.folder then Some Folder
    else if bytes_eq word (codes "--store") && is_none options.store then Some Store
    else if bytes_eq word (codes "--peer") && is_none options.peer then Some Peer
    else if bytes_eq word (codes "--keep") && is_none options.keep then Some Keep
    else None

-- how many versions are to be kept beside the newest at most
abbrev pub largest_keep : ℕ
largest_keep = 100000

-- the options with so many versions to keep
abbrev pub with_keep : ℕ → Options → Option ℕ → Result Options ℕ
with_keep place options None = Err place
with_keep place options (Some n) = Ok (record options { keep = Some n })

-- the value of an option, if the word for it isn't empty
abbrev pub filled : ℕ → List ℕ → Result (List ℕ) ℕ
filled place [] = Err place
filled place (b ∷ bs) = Ok (b ∷ bs)

-- the options with a folder, a store or an address
abbrev pub with_folder : ℕ → Options → List ℕ → Result Options ℕ
with_folder place options value = do
  folder ← filled place value
  Ok (record options { folder = Some folder })

abbrev pub with_store : ℕ → Options → List ℕ → Result Options ℕ
with_store place options value = do
  store ← filled place value
  Ok (record options { store = Some store })

abbrev pub with_peer : ℕ → Options → List ℕ → Result Options ℕ
with_peer place options value = do
  peer ← filled place value
  Ok (record options { peer = Some peer })

-- the options with one more, whose value stands at a place
abbrev pub set_option : ℕ → Options → OptionWord → List ℕ → Result Options ℕ
set_option place options Folder value = with_folder place options value
set_option place options Store value = with_store place options value
set_option place options Peer value = with_peer place options value
set_option place options Keep value = with_keep place options (number_to largest_keep value)

abbrev pub parsed_of : Options → Command → Parsed
parsed_of options c = record { options = options; command = c }

-- what follows a word: options behind the value of one, or the command that begins with the word
abbrev pub behind : {A : Type 0} → Option (Result Options ℕ) → Result A ℕ → (Options → Result A ℕ) → Result A ℕ
behind None command more = command
behind (Some options) command more = options >>= more

-- the options with the one that a word named, if it named one
abbrev pub set_if : ℕ → Options → Option OptionWord → List ℕ → Option (Result Options ℕ)
set_if place options None value = None
set_if place options (Some option) value = Some (set_option place options option value)

-- options, each at most once and with its value behind it, and the place of the command behind them
unfoldable pub option_words : ℕ → Options → List (List ℕ) → Result (Options × ℕ) ℕ
option_words place options [] = Ok (options, place)
option_words place options (word ∷ []) = if is_some (option_of options word) then Err (place + 1) else Ok (options, place)
option_words place options (word ∷ value ∷ words) =
    behind (set_if (place + 1) options (option_of options word) value)
    (Ok (options, place))
    (λ more. option_words (place + 2) more words)

-- options first, and then a command
abbrev pub with_command : {A B : Type 0} → (Options → A → B) → (ℕ → List (List ℕ) → Result A ℕ) → List (List ℕ) → Result B ℕ
with_command make command words = do
  begun ← option_words 0 no_options words
  c ← command begun.1 (drop begun.1 words)
  Ok (make begun.0 c)

abbrev pub split : List (List ℕ) → Result Parsed ℕ
split words = with_command parsed_of command_words words

-- ---- a server

-- how many connections are served at an address at most
abbrev pub largest_connections : ℕ
largest_connections = 1000000

abbrev pub has_bytes : List ℕ → Bool
has_bytes [] = false
has_bytes (b ∷ bs) = true

-- where a server listens: a word that isn't empty and has no equals sign
unfoldable pub is_address : List ℕ → Bool
is_address word = has_bytes word && not (list_any is_equals_sign word)

-- how many addresses stand in front
abbrev pub address_count : List (List ℕ) → ℕ
address_count words = prefix_len is_address words

-- one address or more, and then a feed in each word
abbrev pub listen_words : ℕ → ℕ → ℕ → List (List ℕ) → Result ServeTask ℕ
listen_words place connections zero words = Err place
listen_words place connections (suc n) words = do
  feeds ← feed_words (place + suc n) (drop (suc n) words)
  Ok (record { connections = connections; addresses = take (suc n) words; feeds = feeds })

-- how many connections are served at each address, behind `serve`
abbrev pub serve_words : ℕ → List (List ℕ) → Result ServeTask ℕ
serve_words place [] = Err place
serve_words place (word ∷ words) = do
  connections ← or_bad place (number_to largest_connections word)
  listen_words (place + 1) connections (address_count words) words

-- the task of a server from a place on
abbrev pub serve_command : ℕ → List (List ℕ) → Result ServeTask ℕ
serve_command place [] = Err place
serve_command place (word ∷ words) = if bytes_eq word (codes "serve") then serve_words (place + 1) words else Err place

abbrev pub served_by : Options → ServeTask → ServeWords
served_by options task = record { options = options; task = task }

-- options first, and then `serve` with its task
abbrev pub split_serve : List (List ℕ) → Result ServeWords ℕ
split_serve words = with_command served_by serve_command words

-- the root folder: the one that the words name, and else the working folder
abbrev pub root_in : Result Parsed ℕ → List ℕ
root_in (Ok parsed) = unwrap_or parsed.options.folder []
root_in (Err place) = []

-- how many versions a new keeper keeps beside the newest where the words don't say
abbrev pub usual_keep : ℕ
usual_keep = 10000

-- how many versions a new keeper keeps beside the newest
abbrev pub keep_in : Result Parsed ℕ → ℕ
keep_in (Ok parsed) = unwrap_or parsed.options.keep usual_keep
keep_in (Err place) = usual_keep

-- the folder of the hub's store, where the words name one
abbrev pub store_in : Result Parsed ℕ → Option (List ℕ)
store_in (Ok parsed) = parsed.options.store
store_in (Err place) = None

-- the address of the hub that is copied, where the words name one
abbrev pub peer_in : Result Parsed ℕ → Option (List ℕ)
peer_in (Ok parsed) = parsed.options.peer
peer_in (Err place) = None

-- the command that words spell
abbrev pub command_in : Result Parsed ℕ → Option Command
command_in (Ok parsed) = Some parsed.command
command_in (Err place) = None
