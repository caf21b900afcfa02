-- What a reply to a request for what differs means.
use Rattle.std.specs.Prelude.{◌≡◌, ⊤, ℕ, ◌+◌, ◌-◌, ◌==◌, ◌&&◌, ◌++◌, not, Bool, true, false, nat_lt, min, List, [], ◌∷◌}
use Rattle.std.specs.Prelude.{length, Option, Some, None, Result, Ok, Err, if◌then◌else◌}
use Rattle.std.specs.List.{All}
use Rattle.keeper_memory.specs.copy.Lists.{IsList, ascends, last_from}
use Rattle.http_wire.specs.declared.reply_reading.WireReply.{WireReply}
use Rattle.roster_types.specs.Keys.{is_after}
use Rattle.roster_types.specs.Records.{Record}
use Rattle.roster_values.specs.declared.kind.Kind.{Kind}
use Rattle.row_json.specs.Deltas.{gone_of}
use Rattle.row_json.specs.Reading.{rows_of}
use Rattle.row_json.specs.declared.fault.JsonFault.{JsonFault}
use Rattle.consumer_sync.specs.Judging.{agrees}
use Rattle.consumer_deltas.specs.DeltaFits.{fits}
use Rattle.consumer_deltas.specs.declared.gathered.Entries.{Entries}
use Rattle.consumer_deltas.specs.declared.gathered.Gathered.TheInside.{Inside}
use Rattle.consumer_deltas.specs.declared.judging.DeltaAct.{DeltaAct}
use Rattle.consumer_deltas.specs.declared.judging.DeltaAct.TheVariants.{Take, Close, PinGone, BaseGone, UnknownToken}
use Rattle.consumer_deltas.specs.declared.judging.DeltaAct.TheVariants.{TooLarge, BadReply, HubFault, HubNoMemory}
use Rattle.consumer_deltas.specs.declared.judging.Place.{Place}

-- the rows that are held of a kind, and what has come of its delta: the rows that are put, the ids that are gone, and
-- how many entries there are in all
pub record Sofar : Type 0 where
  pub held : List Record
  pub puts : List Record
  pub gone : List (List ℕ)
  pub total : Option ℕ

-- what a clause sees of `Gathered`
abbrev pub sofar_of : Inside → Sofar
sofar_of g = record { held = g.held; puts = g.puts.items; gone = g.gone.items; total = g.total }

-- nothing has come beside what is held
abbrev pub nothing_yet : List Record → Sofar
nothing_yet held = record { held = held; puts = []; gone = []; total = None }

-- how many entries have come: the offset of the next page
abbrev pub count_in : Sofar → ℕ
count_in sofar = length sofar.puts + length sofar.gone

-- what has come, with the entries of one more page
abbrev pub with_page : Sofar → Entries → ℕ → Sofar
with_page sofar page total = record { held = sofar.held; puts = sofar.puts ++ page.puts; gone = sofar.gone ++ page.gone; total = Some total }

-- this is how many entries there are in all
abbrev pub is_total : Option ℕ → ℕ → Bool
is_total None n = false
is_total (Some total) n = total == n

-- all entries have come
abbrev pub is_whole : Sofar → Bool
is_whole sofar = is_total sofar.total (count_in sofar)

-- each id is above the one before it, and the first above `last`
abbrev pub ids_ascend : Option (List ℕ) → List (List ℕ) → Bool
ids_ascend last [] = true
ids_ascend last (id ∷ ids) = is_after last id && ids_ascend (Some id) ids

-- the last of the ids, or else the one before them
abbrev pub last_id : Option (List ℕ) → List (List ℕ) → Option (List ℕ)
last_id last [] = last
last_id last (id ∷ ids) = last_id (Some id) ids

-- the entries fit the rows that are held
abbrev pub fits_held : Kind → Sofar → Bool
fits_held kind sofar = fits kind sofar.held sofar.puts sofar.gone

-- entries of a kind that may come: in order, and such that they fit the rows that are held
pub record MayCome (kind : Kind) (sofar : Sofar) : Type 0 where
  pub held : IsList kind sofar.held
  pub puts : IsList kind sofar.puts
  pub gone : ids_ascend None sofar.gone ≡ true
  pub fits : fits_held kind sofar ≡ true

-- the most entries that a delta may have: each row of a kind may be gone, and as many may be put
abbrev pub entry_limit : ℕ
entry_limit = 2_000_000

-- the base isn't kept
abbrev pub base_act : ℕ → ℕ → DeltaAct
base_act base oldest = if nat_lt base oldest then BaseGone oldest else BadReply

-- a version that isn't kept: the pin, or else the base; a first request has no pin
abbrev pub lost_act : ℕ → Option ℕ → Option ℕ → DeltaAct
lost_act base pin None = BadReply
lost_act base None (Some oldest) = base_act base oldest
lost_act base (Some pin) (Some oldest) = if nat_lt pin oldest then PinGone pin oldest else base_act base oldest

-- a kind that isn't opened, which no hub says of one of which something came already
abbrev pub closed_act : Option ℕ → Bool → Option ℕ → DeltaAct
closed_act pin is_fresh None = BadReply
closed_act pin is_fresh (Some v) = if agrees pin v && is_fresh then Close v else BadReply

-- a page's entries follow those that came, and with them fit what is held
abbrev pub part_act : Kind → Sofar → ℕ → ℕ → ℕ → Entries → DeltaAct
part_act kind sofar limit v t page =
    if not (length page.puts + length page.gone == min limit (t - count_in sofar)) then BadReply
    else if not (ascends (last_from None sofar.puts) page.puts) then BadReply
    else if not (ids_ascend (last_id None sofar.gone) page.gone) then BadReply
    else if not (fits_held kind (with_page sofar page t)) then BadReply
    else Take v page t

-- the entries that the body of a page says
abbrev pub entries_from : Result (List Record) JsonFault → Result (List (List ℕ)) JsonFault → Option Entries
entries_from (Ok puts) (Ok gone) = Some (record { puts = puts; gone = gone })
entries_from (Ok puts) (Err fault) = None
entries_from (Err fault) gone = None

-- the same by the body
abbrev pub entries_of : Kind → List ℕ → Option Entries
entries_of kind body = entries_from (rows_of kind body) (gone_of body)

-- what was read of a page at version `v`, of a delta with `t` entries in all
abbrev pub read_act : Kind → Sofar → ℕ → ℕ → ℕ → Option Entries → DeltaAct
read_act kind sofar limit v t None = BadReply
read_act kind sofar limit v t (Some page) = part_act kind sofar limit v t page

-- such a page, by its body
abbrev pub page_act : Kind → Sofar → Option ℕ → ℕ → ℕ → ℕ → List ℕ → DeltaAct
page_act kind sofar pin limit v t body =
    if not (agrees pin v) then BadReply
    else if nat_lt entry_limit t then TooLarge t
    else if not (agrees sofar.total t) then BadReply
    else read_act kind sofar limit v t (entries_of kind body)

-- a reply that tells what differs, where it tells its version and how many entries there are
abbrev pub differing_act : Kind → Sofar → Option ℕ → ℕ → Option ℕ → Option ℕ → List ℕ → DeltaAct
differing_act kind sofar pin limit (Some v) (Some t) body = page_act kind sofar pin limit v t body
differing_act kind sofar pin limit (Some v) None body = BadReply
differing_act kind sofar pin limit None t body = BadReply

-- the act by the status
abbrev pub by_status : ℕ → Place → Sofar → WireReply → DeltaAct
by_status status place sofar w =
    if status == 200 then differing_act place.kind sofar place.pin place.limit w.version w.total w.body
    else if status == 403 then closed_act place.pin place.is_fresh w.version
    else if status == 404 then lost_act place.base place.pin w.oldest
    else if status == 401 then UnknownToken
    else if status == 500 then HubFault
    else if status == 503 then HubNoMemory
    else BadReply

-- the rows that an act carries are of this kind
abbrev pub ArePuts : Kind → DeltaAct → Type 0
ArePuts kind (Take pin page total) = All (λ row. row.kind ≡ kind) page.puts
ArePuts kind a = ⊤

-- what the own reply to a request means
abbrev pub delta_judged : Place → Sofar → WireReply → DeltaAct
delta_judged place sofar w = by_status w.status place sofar w
