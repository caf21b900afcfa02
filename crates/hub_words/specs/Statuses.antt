-- The statuses that the program ends with. The peer is the hub that a consumer copies.
use Rattle.std.specs.Prelude.{ℕ}

-- what was asked for is done
abbrev pub done_status : ℕ
done_status = 0

-- the output couldn't be written
abbrev pub output_failed_status : ℕ
output_failed_status = 1

-- the words are no command
abbrev pub bad_words_status : ℕ
bad_words_status = 2

-- the folder of the files failed
abbrev pub folder_failed_status : ℕ
folder_failed_status = 3

-- the input is refused
abbrev pub refused_status : ℕ
refused_status = 4

-- the hub's keeper failed
abbrev pub hub_failed_status : ℕ
hub_failed_status = 5

-- the copy's keeper failed
abbrev pub copy_failed_status : ℕ
copy_failed_status = 6

-- the link failed at every try of a request
abbrev pub interrupted_status : ℕ
interrupted_status = 7

-- the peer keeps the pinned version no longer, or the token's grant has changed since
abbrev pub pin_gone_status : ℕ
pin_gone_status = 8

-- the peer knows no such token
abbrev pub unknown_token_status : ℕ
unknown_token_status = 9

-- the token's grant doesn't open a write
abbrev pub no_scope_status : ℕ
no_scope_status = 10

-- the peer has taken another write under the mark of an entry
abbrev pub mark_taken_status : ℕ
mark_taken_status = 11

-- a reply is none that a hub gives
abbrev pub bad_reply_status : ℕ
bad_reply_status = 12

-- there are too many rows, or bytes of a file
abbrev pub too_large_status : ℕ
too_large_status = 13

-- the peer's keeper failed
abbrev pub peer_failed_status : ℕ
peer_failed_status = 14

-- the peer wanted memory
abbrev pub peer_no_memory_status : ℕ
peer_no_memory_status = 15

-- the last number of a run or of an entry is given
abbrev pub last_number_status : ℕ
last_number_status = 16

-- memory ran out
abbrev pub no_memory_status : ℕ
no_memory_status = 17

-- an acceptor of a server failed
abbrev pub acceptor_failed_status : ℕ
acceptor_failed_status = 18

-- nothing is held from which the differences could be asked for
abbrev pub no_base_status : ℕ
no_base_status = 19

-- the peer keeps the held version no longer, or the token's grant has changed since
abbrev pub base_gone_status : ℕ
base_gone_status = 20

-- the copy that was to be exported or cascaded holds nothing
abbrev pub nothing_held_status : ℕ
nothing_held_status = 21
