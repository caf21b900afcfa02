-- The items of a copy become those of the copy after a change.
use Rattle.std.proofs.Common.{◌≡◌, ◌<◌, ◌≤◌, ◌^◌, ◌+◌, ◌==◌, ℕ, List, [], ◌∷◌, ◌++◌, Bool, true, false, not, cond, map}
use Rattle.std.proofs.Common.{length, get_or, Option, None, Some, inl, inr, refl, sym, ap, ◌∙◌, subst, arith}
use Rattle.std.proofs.Common.{length-append}
use Rattle.std.specs.Prelude.{IfSome, IsSomeAnd, is_none, if◌then◌else◌, option_map}
use Rattle.std.specs.FinMap.{from_entries, insert, retain_keys}
use Rattle.std.specs.List.{All, AllByRecursion}
use Rattle.std.specs.Option.{option_map_or}
use Rattle.std.specs.Ordering.{eq_by_cmp}
use Rattle.std.proofs.lemmas.Bool.{cases_eq, cond-false}
use Rattle.std.proofs.lemmas.List.Elements.{All-head, All-tail}
use Rattle.std.proofs.lemmas.Option.{same_Some}
use Rattle.keeper_memory.proofs.CopyLemmas.{changed_is, empty_is, nth_list}
use Rattle.keeper_memory.specs.copy.Changes.{AllDone, CanChange, CanPage, begun, copy_after, settled_first, stage_after}
use Rattle.keeper_memory.specs.copy.Changes.{swapped}
use Rattle.keeper_memory.specs.copy.Copies.{Copy, Held, IsCopy, IsStage, NumbersRise, Stage, first_unsettled, held_list}
use Rattle.keeper_memory.specs.copy.Copies.{held_token}
use Rattle.keeper_memory.specs.copy.HeldCopy.{empty_copy}
use Rattle.keeper_memory.specs.copy.Lists.{IsList, kind_count}
use Rattle.keeper_memory.specs.copy.States.{state_of}
use Rattle.keeper_memory.specs.declared.copy.change.CopyChange.{CopyChange}
use Rattle.keeper_memory.specs.declared.copy.change.CopyChange.TheVariants.{Run, Begin, Page, Drop, Swap, Enter, Settle}
use Rattle.keeper_memory.specs.declared.copy.entry.OutEntry.{OutEntry}
use Rattle.keeper_memory.specs.declared.copy.entry.Settled.{Settled}
use Rattle.hub_format.proofs.Acts.{after-append}
use Rattle.hub_format.proofs.EntryMaps.{Alike, Differ, alike_map, filled, found, turned}
use Rattle.hub_format.proofs.Orders.{same_number}
use Rattle.hub_format.specs.Edits.{put_at, puts}
use Rattle.hub_format.specs.Format.{first_format, format_entry, written_format}
use Rattle.hub_format.specs.Pieces.{labels_end, number}
use Rattle.item_maps.proofs.ItemLemmas.{tied_same}
use Rattle.item_maps.specs.Edits.{after, after_edit}
use Rattle.item_maps.specs.Items.{Items, bytes_cmp, is_between, no_items}
use Rattle.roster_types.specs.Records.{Record}
use Rattle.item_maps.specs.declared.item.Edit.TheVariants.{Clear}
use Rattle.roster_values.proofs.KindLaws.{kind_from_place, kind_there}
use Rattle.roster_values.specs.Kinds.{all_kinds, place_of_kind}
use Rattle.roster_values.specs.declared.kind.Kind.{Kind}
use Rattle.version_core.proofs.PutLemmas.{all_append}
use Rattle.version_core.proofs.RoomLemmas.{map_push}
use Rattle.version_core.specs.declared.mark.Write.{Write}
use Rattle.copy_format.specs.Areas.{format_area, outbox_area, stage_area, state_area, token_area}
use Rattle.copy_format.specs.Bodies.{out_body, stage_body, state_body}
use Rattle.copy_format.specs.Edits.{FitsChange, clear_stage, edits, first_edits, settled_edits, turn_edits}
use Rattle.copy_format.specs.Format.{AreItemsOf, Fit, FitRows, FitsHeld, FitsOut, FitsRow, FitsSettled, FitsStage, Keep}
use Rattle.copy_format.specs.Format.{KeepOne, other_side, out_entry, row_area, row_entry, rows_under, stage_entries}
use Rattle.copy_format.specs.Format.{staged_list, state_entry, token_entries}
use Rattle.copy_format.proofs.Areas.{clears, kinds_apart, low_not_row, by_side, one_new, put_elsewhere, puts_elsewhere}
use Rattle.copy_format.proofs.Areas.{puts_here, row_not_low, sides_apart, stage_cleared, stage_put, token_put}
use Rattle.copy_format.proofs.Climbing.{AreSmall, differ, filled_behind, outs_sorted, rows_sorted}
use Rattle.copy_format.proofs.Lists.{all_at, all_push, at_last, at_other, empty_last}
use Rattle.copy_format.proofs.IdBytes.{rows_cleared}

-- ---- facts of a copy

all_small : (last : ℕ) (entries : List OutEntry) → last ≤ 1000000000000000 → All (λ entry. entry.number ≤ last) entries → AreSmall entries
all_small last [] le all = tt
all_small last (entry ∷ entries) le all =
    let here = All-head (λ (e : OutEntry). e.number ≤ last) entry entries all in
    (omega (arith, here, le), all_small last entries le (All-tail (λ (e : OutEntry). e.number ≤ last) entry entries all))

pub small_numbers : (c : Copy) → IsCopy c → AreSmall c.entries
small_numbers c is = all_small c.last_number c.entries is.last is.entries.below

-- the rows that are staged fit
pub staged_fit : (o : Option Stage) (kind : Kind) → IfSome o FitsStage → FitRows (option_map_or (λ s. get_or (s.done ++ s.present ∷ []) (place_of_kind kind) []) o [])
staged_fit None kind fit = tt
staged_fit (Some s) kind fit = all_at FitRows (s.done ++ s.present ∷ []) (place_of_kind kind) tt (all_push FitRows s.done s.present fit.done fit.present)

pub held_fit : (o : Option Held) (kind : Kind) → IfSome o FitsHeld → FitRows (option_map_or (λ h. get_or h.lists (place_of_kind kind) []) o [])
held_fit None kind fit = tt
held_fit (Some h) kind fit = all_at FitRows h.lists (place_of_kind kind) tt fit

twice : (side : ℕ) → side ≤ 1 → other_side (other_side side) ≡ side
twice = by_side (λ side. other_side (other_side side) ≡ side) refl refl

under-append : (xs ys : List Record) → rows_under (xs ++ ys) ≡ rows_under xs ++ rows_under ys
under-append [] ys = refl
under-append (x ∷ xs) ys = ap (λ es. row_entry x ∷ es) (under-append xs ys)

all_outs : (entries : List OutEntry) (entry : OutEntry) → AllByRecursion FitsOut entries → FitsOut entry → AllByRecursion FitsOut (entries ++ entry ∷ [])
all_outs [] entry all has = (has, tt)
all_outs (e ∷ entries) entry all has = (all.0, all_outs entries entry all.1 has)

fit_settled : (settled : Settled) (entries : List OutEntry) → FitsSettled settled → AllByRecursion FitsOut entries → AllByRecursion FitsOut (settled_first settled entries)
fit_settled settled [] fits all = tt
fit_settled settled (entry ∷ entries) fits all = elim (is_none entry.settled) as (λ b. AllByRecursion FitsOut (if b then record entry { settled = Some settled } ∷ entries else entry ∷ settled_first settled entries)) [
  | true ↦ (record { id = all.0.id; settled = fits }, all.1)
  | false ↦ (all.0, fit_settled settled entries fits all.1)
]

-- the first that isn't settled has a number above those before it
pub found_above : (n : ℕ) (entries : List OutEntry) (entry : OutEntry) → AreSmall entries → NumbersRise n entries → first_unsettled entries ≡ Some entry → (n < entry.number) × (entry.number < 2 ^ 64)
found_above n [] entry small rise is = absurd cc
found_above n (x ∷ xs) entry small rise is = elim (is_none x.settled) as (λ b. (if b then Some x else first_unsettled xs) ≡ Some entry → (n < entry.number) × (entry.number < 2 ^ 64)) [
  | true ↦ λ is. let same = same_Some _ _ is in subst (λ (e : OutEntry). (n < e.number) × (e.number < 2 ^ 64)) same (rise.0, small.0)
  | false ↦ λ is. let rest = found_above x.number xs entry small.1 rise.1 is in (let above = rest.0 in let first = rise.0 in omega (arith, above, first), rest.1)
] is

-- once it is settled, its body stands in the place of the other
settled_alike : (settled : Settled) (n : ℕ) (entries : List OutEntry) (entry : OutEntry) → AreSmall entries → NumbersRise n entries → first_unsettled entries ≡ Some entry
    → Alike (out_entry (record entry { settled = Some settled }) ∷ map out_entry entries) (map out_entry (settled_first settled entries))
settled_alike settled n [] entry small rise is q = absurd cc
settled_alike settled n (x ∷ xs) entry small rise is q = elim (is_none x.settled) as (λ b. (if b then Some x else first_unsettled xs) ≡ Some entry
    → found q (out_entry (record entry { settled = Some settled }) ∷ map out_entry (x ∷ xs)) ≡ found q (map out_entry (if b then record x { settled = Some settled } ∷ xs else x ∷ settled_first settled xs))) [
      | true ↦ λ is. let same = same_Some _ _ is in
          subst (λ (e : OutEntry). found q (out_entry (record e { settled = Some settled }) ∷ map out_entry (x ∷ xs)) ≡ found q (map out_entry (record x { settled = Some settled } ∷ xs))) same
          (hidden (eq_by_cmp bytes_cmp q (number x.number)) (Some (out_body (record x { settled = Some settled }))) (Some (out_body x)) (found q (map out_entry xs)))
      | false ↦ λ is.
          let above = found_above x.number xs entry small.1 rise.1 is in
          turned (eq_by_cmp bytes_cmp q (number entry.number)) (eq_by_cmp bytes_cmp q (number x.number)) (Some (out_body (record entry { settled = Some settled }))) (Some (out_body x)) (found q (map out_entry xs))
          (λ at_entry at_x.
          let same = same_number entry.number x.number above.1 small.0 (sym (tied_same q (number entry.number) at_entry) ∙ tied_same q (number x.number) at_x) in
          let less = above.0 in omega (arith, less, same))
          ∙ ap (cond (eq_by_cmp bytes_cmp q (number x.number)) (Some (out_body x))) (settled_alike settled x.number xs entry small.1 rise.1 is q)
    ] is
  where
    hidden : (b : Bool) (x y z : Option (List ℕ)) → cond b x (cond b y z) ≡ cond b x z
    hidden true x y z = refl
    hidden false x y z = refl

-- what a change leads to
record Leads (side : ℕ) (change : CopyChange) (c : Copy) (items : Items) : Type 0 where
  pub to : ℕ
  pub stored : AreItemsOf written_format to (copy_after change c) (after (edits side c change) items)
  pub fit : Fit (copy_after change c)

state_put : (side to : ℕ) (c d : Copy) (items : Items) → AreItemsOf written_format side c items → insert (items state_area) [] (state_body d.run (option_map (λ h. h.version) d.held) to d.last_number) ≡ from_entries (state_entry to d ∷ [])
state_put side to c d items stored = ap (λ m. insert m [] (state_entry to d).1) stored.state ∙ one_new [] (state_entry to d).1 (state_entry side c).1

module _ (side : ℕ) (c : Copy) (items : Items) (stored : AreItemsOf written_format side c items) (is : IsCopy c) (fit : Fit c) where
  leads_run : (run : ℕ) → Leads side (Run run) c items
  leads_run run = record {
    to = side;
    stored = record {
      low = stored.low;
      format = stored.format;
      state = state_put side side c (record c { run = run }) items stored;
      stage = stored.stage;
      entries = stored.entries;
      token = stored.token;
      held = λ kind. put_elsewhere state_area (state_entry side (record c { run = run })) items (row_area side kind) (row_not_low side kind state_area (omega arith)) ∙ stored.held kind;
      staged = λ kind. put_elsewhere state_area (state_entry side (record c { run = run })) items (row_area (other_side side) kind) (row_not_low (other_side side) kind state_area (omega arith)) ∙ stored.staged kind;
    };
    fit = record { held = fit.held; stage = fit.stage; entries = fit.entries };
  }

  leads_begin : (pin : ℕ) (token : List ℕ) → CanChange (Begin pin token) c → FitsChange (Begin pin token) c → Leads side (Begin pin token) c items
  leads_begin pin token can fits = record {
    to = side;
    stored = record {
      low = stored.low;
      format = stored.format;
      state = stored.state;
      stage = ap (λ m. insert m [] (stage_body (state_of (begun pin token)))) stored.stage ∙ stage_put c.stage (begun pin token);
      entries = stored.entries;
      token = stored.token;
      held = λ kind. puts_elsewhere stage_area (stage_entries (Some (begun pin token))) items (row_area side kind) (row_not_low side kind stage_area (omega arith)) ∙ stored.held kind;
      staged = λ kind.
          puts_elsewhere stage_area (stage_entries (Some (begun pin token))) items (row_area (other_side side) kind) (row_not_low (other_side side) kind stage_area (omega arith)) ∙ stored.staged kind
          ∙ ap (λ rows. from_entries (rows_under rows)) (ap (λ o. option_map_or (λ (s : Stage). get_or (s.done ++ s.present ∷ []) (place_of_kind kind) []) o []) can.0 ∙ sym (empty_last [] (place_of_kind kind)));
    };
    fit = record { held = fit.held; stage = record { token = fits; done = tt; present = tt; staged = omega arith; total = tt }; entries = fit.entries };
  }

  -- the stage's own item goes
  abbrev bare : Items
  bare = after_edit (Clear stage_area [] (0 ∷ [])) items

  bare_row : (s : ℕ) (kind : Kind) → bare (row_area s kind) ≡ items (row_area s kind)
  bare_row s kind = cond-false (row_area s kind == stage_area) _ _ (row_not_low s kind stage_area (omega arith))

  -- and with it its rows
  gone : (kind : Kind) → after (clear_stage (other_side side)) items (row_area (other_side side) kind) ≡ from_entries []
  gone kind =
      (clears (other_side side) (omega arith)).gone bare kind
      ∙ ap (λ m. retain_keys m (λ label. not (is_between [] labels_end label))) (bare_row (other_side side) kind ∙ stored.staged kind)
      ∙ rows_cleared (staged_list c kind) (staged_fit c.stage kind fit.stage)

  kept_held : (kind : Kind) → after (clear_stage (other_side side)) items (row_area side kind) ≡ from_entries (rows_under (held_list c kind))
  kept_held kind = ap (λ s. after (clear_stage (other_side side)) items (row_area s kind)) (sym (twice side stored.low)) ∙ (clears (other_side side) (omega arith)).kept bare kind ∙ ap (λ s. bare (row_area s kind)) (twice side stored.low) ∙ bare_row side kind ∙ stored.held kind

  leads_drop : Leads side Drop c items
  leads_drop =
      let does = clears (other_side side) (omega arith) in
      record {
        to = side;
        stored = record {
          low = stored.low;
          format = does.format bare ∙ stored.format;
          state = does.state bare ∙ stored.state;
          stage = does.stage bare ∙ ap (λ m. retain_keys m (λ label. not (is_between [] (0 ∷ []) label))) stored.stage ∙ stage_cleared c.stage;
          entries = does.entries bare ∙ stored.entries;
          token = does.token bare ∙ stored.token;
          held = kept_held;
          staged = gone;
        };
        fit = record { held = fit.held; stage = tt; entries = fit.entries };
      }

  leads_enter : (number : ℕ) (write : Write) → CanChange (Enter number write) c → FitsChange (Enter number write) c → Leads side (Enter number write) c items
  leads_enter n write can fits =
      let entry : OutEntry = record { number = n; write = write; settled = None } in
      let next = copy_after (Enter n write) c in
      let next_is = changed_is (Enter n write) c can is in
      let first = after (put_at outbox_area (out_entry entry) ∷ []) items in
      let apart = differ (map out_entry (c.entries ++ entry ∷ [])) (outs_sorted (c.entries ++ entry ∷ []) (small_numbers next next_is) next_is.entries.rise) in
      let pushed = map_push out_entry c.entries entry in
      record {
        to = side;
        stored = record {
          low = stored.low;
          format = stored.format;
          state = state_put side side c next items stored;
          stage = stored.stage;
          entries = ap (filled (out_entry entry ∷ [])) stored.entries ∙ filled_behind (out_entry entry ∷ []) (map out_entry c.entries) (subst Differ pushed apart) ∙ ap from_entries (sym pushed);
          token = stored.token;
          held = λ kind. put_elsewhere state_area (state_entry side next) first (row_area side kind) (row_not_low side kind state_area (omega arith)) ∙ put_elsewhere outbox_area (out_entry entry) items (row_area side kind) (row_not_low side kind outbox_area (omega arith)) ∙ stored.held kind;
          staged = λ kind.
              put_elsewhere state_area (state_entry side next) first (row_area (other_side side) kind) (row_not_low (other_side side) kind state_area (omega arith))
              ∙ put_elsewhere outbox_area (out_entry entry) items (row_area (other_side side) kind) (row_not_low (other_side side) kind outbox_area (omega arith)) ∙ stored.staged kind;
        };
        fit = record { held = fit.held; stage = fit.stage; entries = all_outs c.entries entry fit.entries (record { id = fits; settled = tt }) };
      }

  leads_settle : (n status version : ℕ) → FitsChange (Settle n status version) c → (o : Option OutEntry) → first_unsettled c.entries ≡ o → IsSomeAnd o (λ entry. entry.number ≡ n)
      → Leads side (Settle n status version) c items
  leads_settle n status version fits None first some = absurd some
  leads_settle n status version fits (Some entry) first some =
      let settled : Settled = record { status = status; version = version } in
      let goes = ap (settled_edits settled) first in
      let put = out_entry (record entry { settled = Some settled }) in
      record {
        to = side;
        stored = subst (λ es. AreItemsOf written_format side (copy_after (Settle n status version) c) (after es items)) (sym goes) (record {
          low = stored.low;
          format = stored.format;
          state = stored.state;
          stage = stored.stage;
          entries = ap (λ m. insert m put.0 put.1) stored.entries ∙ alike_map (put ∷ map out_entry c.entries) (map out_entry (settled_first settled c.entries)) (settled_alike settled 0 c.entries entry (small_numbers c is) is.entries.rise first);
          token = stored.token;
          held = λ kind. put_elsewhere outbox_area put items (row_area side kind) (row_not_low side kind outbox_area (omega arith)) ∙ stored.held kind;
          staged = λ kind. put_elsewhere outbox_area put items (row_area (other_side side) kind) (row_not_low (other_side side) kind outbox_area (omega arith)) ∙ stored.staged kind;
        });
        fit = record { held = fit.held; stage = fit.stage; entries = fit_settled settled c.entries fits fit.entries };
      }

-- ---- where there is a stage

-- a page's rows stand behind those that are there
module _ (side : ℕ) (c : Copy) (items : Items) (stored : AreItemsOf written_format side c items) (is : IsCopy c) (fit : Fit c) (s : Stage) (has : c.stage ≡ Some s) where
  stage_is : IsStage s
  stage_is = subst (λ o. IfSome o IsStage) has is.stage

  stage_fit : FitsStage s
  stage_fit = subst (λ o. IfSome o FitsStage) has fit.stage

  staged_here : (kind : Kind) → items (row_area (other_side side) kind) ≡ from_entries (rows_under (get_or (s.done ++ s.present ∷ []) (place_of_kind kind) []))
  staged_here kind = stored.staged kind ∙ ap (λ o. from_entries (rows_under (option_map_or (λ (t : Stage). get_or (t.done ++ t.present ∷ []) (place_of_kind kind) []) o []))) has

  -- all kinds are done: what is staged is held, on the other side
  leads_swap : length s.done ≡ kind_count → Leads side Swap c items
  leads_swap all =
      let next = copy_after Swap c in
      let whole : next ≡ swapped c (Some s) = ap (swapped c) has in
      let none : s.present ≡ [] = (stage_is.whole all).0 in
      let to = other_side side in
      let put = state_entry to (swapped c (Some s)) in
      let named = after (put_at state_area put ∷ []) items in
      let first = after (put_at token_area ([], s.token) ∷ []) named in
      let bare = after_edit (Clear stage_area [] (0 ∷ [])) first in
      let does = clears side stored.low in
      let lists : (kind : Kind) → get_or (s.done ++ s.present ∷ []) (place_of_kind kind) [] ≡ get_or s.done (place_of_kind kind) [] =
      λ kind. ap (λ rows. get_or (s.done ++ rows ∷ []) (place_of_kind kind) []) none ∙ empty_last s.done (place_of_kind kind) in
      let row : (t : ℕ) (kind : Kind) → bare (row_area t kind) ≡ items (row_area t kind) =
      λ t kind. cond-false (row_area t kind == stage_area) _ _ (row_not_low t kind stage_area (omega arith)) ∙ put_elsewhere token_area ([], s.token) named (row_area t kind) (row_not_low t kind token_area (omega arith))
      ∙ put_elsewhere state_area put items (row_area t kind) (row_not_low t kind state_area (omega arith)) in
      let held_fits = held_fit c.held in
      record {
        to = to;
        stored = subst (λ d. AreItemsOf written_format to d (after (put_at state_area (state_entry to d) ∷ puts token_area (token_entries (held_token d)) ++ clear_stage side) items)) (sym whole) (record {
          low = omega arith;
          format = does.format bare ∙ stored.format;
          state = does.state bare ∙ state_put side to c (swapped c (Some s)) items stored;
          stage = does.stage bare ∙ ap (λ m. retain_keys m (λ label. not (is_between [] (0 ∷ []) label))) stored.stage ∙ stage_cleared c.stage;
          entries = does.entries bare ∙ stored.entries;
          token = does.token bare ∙ ap (λ m. insert m [] s.token) stored.token ∙ token_put (held_token c) s.token;
          held = λ kind. does.kept bare kind ∙ row to kind ∙ staged_here kind ∙ ap (λ rows. from_entries (rows_under rows)) (lists kind);
          staged = λ kind.
              ap (λ t. after (put_at state_area put ∷ put_at token_area ([], s.token) ∷ clear_stage side) items (row_area t kind)) (twice side stored.low)
              ∙ does.gone bare kind ∙ ap (λ m. retain_keys m (λ label. not (is_between [] labels_end label))) (row side kind ∙ stored.held kind) ∙ rows_cleared (held_list c kind) (held_fits kind fit.held);
        });
        fit = subst Fit (sym whole) (record { held = stage_fit.done; stage = tt; entries = fit.entries });
      }

  module _ (kind : Kind) (rows : List Record) (total : ℕ) (done : Bool) (can : CanPage kind rows (Some (state_of s))) (can_all : CanChange (Page kind rows total done) c)
      (fits : FitRows rows × (total < 2 ^ 64) × IfSome c.stage (λ s. length s.present + length rows < 2 ^ 64)) where
    abbrev later : Stage
    later = stage_after s rows total done

    few : length s.present + length rows < 2 ^ 64
    few = subst (λ o. IfSome o (λ (t : Stage). length t.present + length rows < 2 ^ 64)) has fits.2

    -- its lists, the rows of the kind among them
    lists_later : (d : Bool) (p : ℕ) → get_or ((stage_after s rows total d).done ++ (stage_after s rows total d).present ∷ []) p [] ≡ get_or (s.done ++ (s.present ++ rows) ∷ []) p []
    lists_later true p = empty_last (s.done ++ (s.present ++ rows) ∷ []) p
    lists_later false p = refl

    all_present : FitRows (s.present ++ rows)
    all_present = all_append FitsRow s.present rows stage_fit.present fits.0

    fit_later : (d : Bool) → FitsStage (stage_after s rows total d)
    fit_later true = record { token = stage_fit.token; done = all_push FitRows s.done (s.present ++ rows) stage_fit.done all_present; present = tt; staged = omega arith; total = tt }
    fit_later false = let long = length-append s.present rows in record { token = stage_fit.token; done = stage_fit.done; present = all_present; staged = omega (arith, few, long); total = fits.1 }

    next_is : IsCopy (copy_after (Page kind rows total done) c)
    next_is = changed_is (Page kind rows total done) c can_all is

    -- they rise
    listed_is : (d : Bool) → IsStage (stage_after s rows total d) → IsList kind (s.present ++ rows)
    listed_is true later_is = subst (IsList kind) (at_last s.done (s.present ++ rows) (place_of_kind kind) can.0) (nth_list all_kinds (s.done ++ (s.present ++ rows) ∷ []) (place_of_kind kind) kind later_is.done (kind_there kind))
    listed_is false later_is = later_is.present kind can.0

    rows_here : filled (rows_under rows) (items (row_area (other_side side) kind)) ≡ from_entries (rows_under (s.present ++ rows))
    rows_here =
        let later_is = subst (λ o. IfSome o IsStage) (ap (option_map (λ s. stage_after s rows total done)) has) next_is.stage in
        let up = rows_sorted (s.present ++ rows) (listed_is done later_is).ascend in
        let both : rows_under (s.present ++ rows) ≡ rows_under s.present ++ rows_under rows = under-append s.present rows in
        let here = ap (λ xs. from_entries (rows_under xs)) (at_last s.done s.present (place_of_kind kind) can.0) in
        ap (filled (rows_under rows)) (staged_here kind ∙ here) ∙ filled_behind (rows_under rows) (rows_under s.present) (subst Differ both (differ (rows_under (s.present ++ rows)) up)) ∙ ap from_entries (sym both)

    abbrev staged_now : Items
    staged_now = after (puts stage_area (stage_entries (Some later))) items

    now_row : (t : ℕ) (k : Kind) → staged_now (row_area t k) ≡ items (row_area t k)
    now_row t k = puts_elsewhere stage_area (stage_entries (Some later)) items (row_area t k) (row_not_low t k stage_area (omega arith))

    abbrev all_now : Items
    all_now = after (puts (row_area (other_side side) kind) (rows_under rows)) staged_now

    low_now : (a : ℕ) → a < 32 → all_now a ≡ staged_now a
    low_now a low = puts_elsewhere (row_area (other_side side) kind) (rows_under rows) staged_now a (low_not_row (other_side side) kind a low)

    rows_there : (k : Kind) → all_now (row_area (other_side side) k) ≡ from_entries (rows_under (get_or (s.done ++ (s.present ++ rows) ∷ []) (place_of_kind k) []))
    rows_there k = elim (cases_eq (place_of_kind k) (place_of_kind kind)) [
      | inl same ↦
          let here : k ≡ kind = kind_from_place k kind same in
          subst (λ k. all_now (row_area (other_side side) k) ≡ from_entries (rows_under (get_or (s.done ++ (s.present ++ rows) ∷ []) (place_of_kind k) []))) (sym here)
          (puts_here (row_area (other_side side) kind) (rows_under rows) staged_now ∙ ap (filled (rows_under rows)) (now_row (other_side side) kind) ∙ rows_here
          ∙ ap (λ xs. from_entries (rows_under xs)) (sym (at_last s.done (s.present ++ rows) (place_of_kind kind) can.0)))
      | inr differ ↦
          puts_elsewhere (row_area (other_side side) kind) (rows_under rows) staged_now (row_area (other_side side) k) (kinds_apart k kind (other_side side) differ) ∙ now_row (other_side side) k ∙ staged_here k
          ∙ ap (λ xs. from_entries (rows_under xs)) (at_other s.done s.present (s.present ++ rows) (place_of_kind k) (λ is. differ (is ∙ sym can.0)))
    ]

    leads_page : Leads side (Page kind rows total done) c items
    leads_page =
        let whole : copy_after (Page kind rows total done) c ≡ record c { stage = Some later } = ap (λ o. record c { stage = option_map (λ s. stage_after s rows total done) o }) has in
        record {
          to = side;
          stored = subst (λ (d : Copy). AreItemsOf written_format side d (after (puts stage_area (stage_entries d.stage) ++ puts (row_area (other_side side) kind) (rows_under rows)) items)) (sym whole)
              (subst (AreItemsOf written_format side (record c { stage = Some later })) (sym (after-append (puts stage_area (stage_entries (Some later))) (puts (row_area (other_side side) kind) (rows_under rows)) items)) (record {
                low = stored.low;
                format = low_now format_area (omega arith) ∙ stored.format;
                state = low_now state_area (omega arith) ∙ stored.state;
                stage = low_now stage_area (omega arith) ∙ ap (λ m. insert m [] (stage_body (state_of later))) stored.stage ∙ stage_put c.stage later;
                entries = low_now outbox_area (omega arith) ∙ stored.entries;
                token = low_now token_area (omega arith) ∙ stored.token;
                held = λ k. puts_elsewhere (row_area (other_side side) kind) (rows_under rows) staged_now (row_area side k) (sides_apart k kind side stored.low) ∙ now_row side k ∙ stored.held k;
                staged = λ k. rows_there k ∙ ap (λ xs. from_entries (rows_under xs)) (sym (lists_later done (place_of_kind k)));
              }));
          fit = subst Fit (sym whole) (record { held = fit.held; stage = fit_later done; entries = fit.entries });
        }

-- ---- each change

module _ (side : ℕ) (c : Copy) (items : Items) (stored : AreItemsOf written_format side c items) (is : IsCopy c) (fit : Fit c) where
  by_swap : (o : Option Stage) → c.stage ≡ o → AllDone (option_map state_of o) → Leads side Swap c items
  by_swap None has can = absurd can
  by_swap (Some s) has can = leads_swap side c items stored is fit s has can

  by_page : (kind : Kind) (rows : List Record) (total : ℕ) (done : Bool) (o : Option Stage) → c.stage ≡ o → CanPage kind rows (option_map state_of o) → CanChange (Page kind rows total done) c
      → FitsChange (Page kind rows total done) c → Leads side (Page kind rows total done) c items
  by_page kind rows total done None has can can_all fits = absurd can
  by_page kind rows total done (Some s) has can can_all fits = leads_page side c items stored is fit s has kind rows total done can can_all fits

  leads : (change : CopyChange) → CanChange change c → FitsChange change c → Leads side change c items
  leads (Run run) can fits = leads_run side c items stored is fit run
  leads (Begin pin token) can fits = leads_begin side c items stored is fit pin token can fits
  leads (Page kind rows total done) can fits = by_page kind rows total done c.stage refl can can fits
  leads Drop can fits = leads_drop side c items stored is fit
  leads Swap can fits = by_swap c.stage refl can
  leads (Enter number write) can fits = leads_enter side c items stored is fit number write can fits
  leads (Settle number status version) can fits = leads_settle side c items stored is fit number status version fits (first_unsettled c.entries) refl can

pub Keep-change : (items : Items) (c : Copy) (change : CopyChange) (keep : Keep items c) → CanChange change c → FitsChange change c → Keep (after (edits keep.side c change) items) (copy_after change c)
Keep-change items c change keep can fits =
    let there = leads keep.side c items keep.stored keep.is keep.fit change can fits in
    record { side = there.to; stored = there.stored; is = changed_is change c can keep.is; fit = there.fit }

-- a new store
pub first_kept : Keep (after first_edits no_items) empty_copy
first_kept = record {
  side = 0;
  stored = record { low = omega arith; format = refl; state = refl; stage = refl; entries = refl; token = refl; held = λ kind. new_row 0 kind; staged = λ kind. new_row 1 kind };
  is = empty_is;
  fit = record { held = tt; stage = tt; entries = tt };
}
  where
    new_row : (side : ℕ) (kind : Kind) → after first_edits no_items (row_area side kind) ≡ from_entries []
    new_row side kind =
        put_elsewhere state_area (state_entry 0 empty_copy) (after (put_at format_area (format_entry written_format) ∷ []) no_items) (row_area side kind) (row_not_low side kind state_area (omega arith))
        ∙ put_elsewhere format_area (format_entry written_format) no_items (row_area side kind) (row_not_low side kind format_area (omega arith))

-- a store of format 1
pub turned_kept : (items : Items) (c : Copy) → KeepOne items c → Keep (after turn_edits items) c
turned_kept items c old = record {
  side = old.side;
  stored = record {
    low = old.stored.low;
    format = ap (λ m. insert m [] (number written_format)) old.stored.format ∙ one_new [] (number written_format) (number first_format);
    state = old.stored.state;
    stage = old.stored.stage;
    entries = old.stored.entries;
    token = old.stored.token;
    held = λ kind. put_elsewhere format_area (format_entry written_format) items (row_area old.side kind) (row_not_low old.side kind format_area (omega arith)) ∙ old.stored.held kind;
    staged = λ kind. put_elsewhere format_area (format_entry written_format) items (row_area (other_side old.side) kind) (row_not_low (other_side old.side) kind format_area (omega arith)) ∙ old.stored.staged kind;
  };
  is = old.is;
  fit = old.fit;
}
