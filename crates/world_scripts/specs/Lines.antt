-- The line of a script that words spell.
use Rattle.std.specs.Prelude.{ℕ, ℤ, Bool, true, false, List, [], ◌∷◌, Option, None, Some, Result, Ok, Err, bytes_eq}
use Rattle.std.specs.Prelude.{codes, if◌then◌else◌, nat_lt}
use Rattle.hub_words.specs.Words.{command_words, feed_in, is_file_word, largest_keep, number_to}
use Rattle.hub_words.specs.declared.words.Command.{Command}
use Rattle.hub_words.specs.declared.words.Command.TheVariants as command
use Rattle.hub_words.specs.declared.task.Feed.{Feed}
use Rattle.roster_texts.specs.Moments.{moment_of}
use Rattle.world_scripts.specs.Counts.{count_in}
use Rattle.world_scripts.specs.declared.script.HubLine.{HubLine}
use Rattle.world_scripts.specs.declared.script.HubLine.TheVariants as hub
use Rattle.world_scripts.specs.declared.script.Line.{Line}
use Rattle.world_scripts.specs.declared.script.Line.TheVariants as line

-- ---- how many words there are

-- the one word, where there is one alone
abbrev pub only : List (List ℕ) → Option (List ℕ)
only (a ∷ []) = Some a
only _ = None

-- the two words, where there are just two
abbrev pub both : List (List ℕ) → Option (List ℕ × List ℕ)
both (a ∷ b ∷ []) = Some (a, b)
both _ = None

-- the three words, where there are just three
abbrev pub all_three : List (List ℕ) → Option (List ℕ × List ℕ × List ℕ)
all_three (a ∷ b ∷ c ∷ []) = Some (a, b, c)
all_three _ = None

-- ---- what others do to the hub

-- the line of a feed, where there is one
abbrev pub set_of : Option Feed → Option HubLine
set_of None = None
set_of (Some feed) = Some (hub.Set feed)

-- `set FEED DIR`
abbrev pub set_line : Option (List ℕ × List ℕ) → Option HubLine
set_line None = None
set_line (Some words) = set_of (feed_in words.0 words.1)

-- the line of a word that may name a file
abbrev pub if_file : (List ℕ → HubLine) → List ℕ → Option HubLine
if_file of word = if is_file_word word then Some (of word) else None

-- `grant FILE`, `ask FILE`
abbrev pub file_line : (List ℕ → HubLine) → Option (List ℕ) → Option HubLine
file_line of None = None
file_line of (Some word) = if_file of word

-- `restart hub`
abbrev pub restart_line : Option (List ℕ) → Option HubLine
restart_line None = None
restart_line (Some word) = if bytes_eq word (codes "hub") then Some hub.Restart else None

-- the line of what others do to the hub
abbrev pub hub_line : List (List ℕ) → Option HubLine
hub_line [] = None
hub_line (word ∷ words) =
    if bytes_eq word (codes "set") then set_line (both words)
    else if bytes_eq word (codes "grant") then file_line hub.Grant (only words)
    else if bytes_eq word (codes "ask") then file_line hub.Ask (only words)
    else if bytes_eq word (codes "restart") then restart_line (only words)
    else None

-- what others do now
abbrev pub now_line : Option HubLine → Option Line
now_line None = None
now_line (Some l) = Some (line.Hub l)

-- what others do just before an exchange
abbrev pub at_exchange : Option ℕ → Option HubLine → Option Line
at_exchange None l = None
at_exchange (Some exchange) None = None
at_exchange (Some exchange) (Some l) = Some (line.At exchange l)

-- `at K LINE`
abbrev pub at_line : List (List ℕ) → Option Line
at_line [] = None
at_line (word ∷ words) = at_exchange (count_in word) (hub_line words)

-- ---- what becomes of exchanges and commits

-- the line of a number of versions, where there is one
abbrev pub keep_of : Option ℕ → Option Line
keep_of None = None
keep_of (Some keep) = Some (line.Keep keep)

-- `keep N`
abbrev pub keep_line : Option (List ℕ) → Option Line
keep_line None = None
keep_line (Some word) = keep_of (number_to largest_keep word)

-- the line of a moment, where there is one
abbrev pub clock_of : Option ℤ → Option Line
clock_of None = None
clock_of (Some at) = Some (line.Clock at)

-- `clock M`
abbrev pub clock_line : Option (List ℕ) → Option Line
clock_line None = None
clock_line (Some word) = clock_of (moment_of word)

-- by what is lost, and of which exchange
abbrev pub lose_of : List ℕ → Option ℕ → Option Line
lose_of what None = None
lose_of what (Some exchange) =
    if bytes_eq what (codes "request") then Some (line.LoseRequest exchange)
    else if bytes_eq what (codes "reply") then Some (line.LoseReply exchange)
    else None

-- `lose request K`, `lose reply K`
abbrev pub lose_line : Option (List ℕ × List ℕ) → Option Line
lose_line None = None
lose_line (Some words) = lose_of words.0 (count_in words.1)

-- the second number is above the first
abbrev pub rising : (ℕ → ℕ → Line) → Option ℕ → Option ℕ → Option Line
rising of None other = None
rising of (Some one) None = None
rising of (Some one) (Some other) = if nat_lt one other then Some (of one other) else None

-- `late K J`, `stale K J`
abbrev pub pair_line : (ℕ → ℕ → Line) → Option (List ℕ × List ℕ) → Option Line
pair_line of None = None
pair_line of (Some words) = rising of (count_in words.0) (count_in words.1)

-- by when a commit fails, and which
abbrev pub fails_of : (Bool → ℕ → Line) → List ℕ → Option ℕ → Option Line
fails_of of when None = None
fails_of of when (Some commit) =
    if bytes_eq when (codes "before") then Some (of false commit)
    else if bytes_eq when (codes "after") then Some (of true commit)
    else None

-- `hub fails before K`, `copy fails after K` and the others
abbrev pub fails_line : (Bool → ℕ → Line) → Option (List ℕ × List ℕ × List ℕ) → Option Line
fails_line of None = None
fails_line of (Some words) = if bytes_eq words.0 (codes "fails") then fails_of of words.1 (count_in words.2) else None

-- `exchanges`
abbrev pub exchanges_line : List (List ℕ) → Option Line
exchanges_line [] = Some line.Exchanges
exchanges_line (word ∷ words) = None

-- ---- commands

-- the line of a command that a script may have too
abbrev pub of_command : Command → Option Line
of_command (command.Grant file) = Some (line.Hub (hub.Grant file))
of_command (command.Ask file) = Some (line.Hub (hub.Ask file))
of_command (command.Sync task) = Some (line.Sync task)
of_command (command.Enter task) = Some (line.Enter task)
of_command (command.Send task) = Some (line.Send task)
of_command command.Outbox = Some line.Outbox
of_command (command.ListHeld kind) = Some (line.ListHeld kind)
of_command _ = None

-- the line of a command, where the words spell one
abbrev pub command_line : Result Command ℕ → Option Line
command_line (Ok c) = of_command c
command_line (Err place) = None

-- ---- the table

-- the line that words spell, if they spell one
unfoldable pub line_of : List (List ℕ) → Option Line
line_of [] = None
line_of (word ∷ words) =
    if bytes_eq word (codes "keep") then keep_line (only words)
    else if bytes_eq word (codes "clock") then clock_line (only words)
    else if bytes_eq word (codes "at") then at_line words
    else if bytes_eq word (codes "lose") then lose_line (both words)
    else if bytes_eq word (codes "late") then pair_line line.Late (both words)
    else if bytes_eq word (codes "stale") then pair_line line.Stale (both words)
    else if bytes_eq word (codes "hub") then fails_line line.HubFails (all_three words)
    else if bytes_eq word (codes "copy") then fails_line line.CopyFails (all_three words)
    else if bytes_eq word (codes "exchanges") then exchanges_line words
    else if bytes_eq word (codes "set") then now_line (hub_line (word ∷ words))
    else if bytes_eq word (codes "restart") then now_line (hub_line (word ∷ words))
    else command_line (command_words 0 (word ∷ words))
