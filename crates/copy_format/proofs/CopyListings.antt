-- What the items of a copy tell.
use Rattle.std.proofs.Common.{◌≡◌, ◌<◌, ◌≤◌, ◌^◌, ◌+◌, ℕ, List, [], ◌∷◌, Bool, true, false, map, Option, None, Some}
use Rattle.std.proofs.Common.{inl, inr, refl, sym, ap, ◌∙◌, subst, arith}
use Rattle.std.proofs.Math.Bool.{and-true}
use Rattle.std.specs.Prelude.{◌&&◌, ◌-◌, IfSome, cond, if◌then◌else◌, is_none, nat_lt, option_map, slice_get}
use Rattle.std.specs.FinMap.{entries, from_entries, is_sorted, retain_keys}
use Rattle.std.specs.FinMap.Entries.{is_sorted-where_key}
use Rattle.std.specs.List.{All, AllByRecursion}
use Rattle.std.specs.Ordering.{is_ge, is_lt, nat_cmp}
use Rattle.std.proofs.lemmas.Bool.{cases_eq, cases_lt}
use Rattle.std.proofs.lemmas.Cmp.{nat_cmp_total, tied_itself}
use Rattle.std.proofs.lemmas.Bool.Decides.{nat_tests}
use Rattle.std.proofs.lemmas.List.Elements.{All-head, All-tail}
use Rattle.std.proofs.lemmas.Option.{same_Some}
use Rattle.keeper_memory.proofs.CopyLemmas.{held_list_is}
use Rattle.keeper_memory.specs.copy.Copies.{Copy, IsCopy, IsOutWrite, NumbersRise, Stage, entry_after, first_unsettled}
use Rattle.keeper_memory.specs.copy.Copies.{held_list, held_token}
use Rattle.keeper_memory.specs.copy.Lists.{last_from}
use Rattle.keeper_memory.specs.copy.States.{state_of}
use Rattle.keeper_memory.specs.declared.copy.entry.OutEntry.{OutEntry}
use Rattle.keeper_memory.specs.declared.copy.state.TheConstants.{LAST}
use Rattle.hub_format.proofs.EntryMaps.{where_all}
use Rattle.hub_format.proofs.Listing.{listed_where}
use Rattle.hub_format.proofs.Orders.{greater_is, less_is, number_order}
use Rattle.hub_format.specs.Format.{Entry, format_entry, where_label, written_format}
use Rattle.hub_format.specs.Pieces.{IsSized, labels_end, number}
use Rattle.item_maps.specs.Items.{Items, bytes_cmp, is_between, listed}
use Rattle.roster_types.specs.Records.{Record}
use Rattle.roster_values.specs.declared.kind.Kind.{Kind}
use Rattle.version_core.proofs.OrderLemmas.{passed, passes}
use Rattle.copy_format.specs.Areas.{format_area, outbox_area, stage_area, state_area, token_area}
use Rattle.copy_format.specs.Format.{AreItemsOf, Fit, FitRows, FitsOut, FitsSmall, FitsStage, IsOut, IsRowOf, out_entry}
use Rattle.copy_format.specs.Format.{row_area, rows_under, stage_entries, state_entry, token_entries}
use Rattle.copy_format.proofs.Changing.{found_above, held_fit, small_numbers}
use Rattle.copy_format.proofs.Climbing.{AreSmall, outs_sorted, rows_sorted}
use Rattle.copy_format.proofs.IdBytes.{rows_low}

-- what a map lists, where it is that of some entries
listed_from : (area : ℕ) (from to : List ℕ) (m : Items) (es fs : List Entry) → m area ≡ from_entries es → where_label (is_between from to) es ≡ fs → is_sorted bytes_cmp fs ≡ true → listed area from to m ≡ fs
listed_from area from to m es fs is passes up = ap (λ x. entries (retain_keys x (is_between from to))) is ∙ listed_where (is_between from to) es fs passes up

pub where_sorted : (p : List ℕ → Bool) (es : List Entry) → is_sorted bytes_cmp es ≡ true → is_sorted bytes_cmp (where_label p es) ≡ true
where_sorted p es up = passed (is_sorted bytes_cmp (where_label p es)) (is_sorted-where_key bytes_cmp p es (passes (is_sorted bytes_cmp es) up))

-- the rows of lists that fit, each with its kind
pub rows_of_kind : (kind : Kind) (rows : List Record) → All (λ row. row.kind ≡ kind) rows → FitRows rows → AllByRecursion (IsRowOf kind) rows
rows_of_kind kind [] all fit = tt
rows_of_kind kind (row ∷ rows) all fit =
    (record { same = All-head (λ (r : Record). r.kind ≡ kind) row rows all; fits = fit.0 }, rows_of_kind kind rows (All-tail (λ (r : Record). r.kind ≡ kind) row rows all) fit.1)

outs_are : (entries : List OutEntry) → AreSmall entries → All (λ entry. IsOutWrite entry.write) entries → AllByRecursion FitsOut entries → AllByRecursion IsOut entries
outs_are [] small all fit = tt
outs_are (entry ∷ entries) small all fit =
    (record { number = small.0; write = All-head (λ (e : OutEntry). IsOutWrite e.write) entry entries all; fits = fit.0 }, outs_are entries small.1 (All-tail (λ (e : OutEntry). IsOutWrite e.write) entry entries all) fit.1)

pub all_out : (c : Copy) → IsCopy c → Fit c → AllByRecursion IsOut c.entries
all_out c is fit = outs_are c.entries (small_numbers c is) is.entries.writes fit.entries

last_fits : (last : Option (List ℕ)) (rows : List Record) → IfSome last IsSized → FitRows rows → IfSome (last_from last rows) IsSized
last_fits last [] short fit = short
last_fits last (row ∷ rows) short fit = last_fits (Some row.id) rows fit.0.short fit.1

-- the small part of a stage fits
pub small_fits : (s : Stage) → s.pin ≤ 1000000000000000 → FitsStage s → FitsSmall (state_of s)
small_fits s le fit = record { pin = omega (arith, le); token = fit.token; staged = fit.staged; total = fit.total; last = last_fits None s.present tt fit.present }

-- the number of the format
pub format_told : (form : ℕ) (items : Items) → items format_area ≡ from_entries (format_entry form ∷ []) → listed format_area [] (0 ∷ []) items ≡ format_entry form ∷ []
format_told form items is = listed_from 0 [] (0 ∷ []) items (format_entry form ∷ []) (format_entry form ∷ []) is refl refl

module _ (side : ℕ) (c : Copy) (items : Items) (stored : AreItemsOf written_format side c items) (is : IsCopy c) (fit : Fit c) where
  pub state_told : listed state_area [] (0 ∷ []) items ≡ state_entry side c ∷ []
  state_told = listed_from 1 [] (0 ∷ []) items (state_entry side c ∷ []) (state_entry side c ∷ []) stored.state refl refl

  stage_listed : (o : Option Stage) → where_label (is_between [] (0 ∷ [])) (stage_entries o) ≡ stage_entries o
  stage_listed None = refl
  stage_listed (Some s) = refl

  stage_sorted : (o : Option Stage) → is_sorted bytes_cmp (stage_entries o) ≡ true
  stage_sorted None = refl
  stage_sorted (Some s) = refl

  pub stage_told : listed stage_area [] (0 ∷ []) items ≡ stage_entries c.stage
  stage_told = listed_from 2 [] (0 ∷ []) items (stage_entries c.stage) (stage_entries c.stage) stored.stage (stage_listed c.stage) (stage_sorted c.stage)

  token_listed : (o : Option (List ℕ)) → where_label (is_between [] (0 ∷ [])) (token_entries o) ≡ token_entries o
  token_listed None = refl
  token_listed (Some token) = refl

  token_sorted : (o : Option (List ℕ)) → is_sorted bytes_cmp (token_entries o) ≡ true
  token_sorted None = refl
  token_sorted (Some token) = refl

  pub token_told : listed token_area [] (0 ∷ []) items ≡ token_entries (held_token c)
  token_told = listed_from 4 [] (0 ∷ []) items (token_entries (held_token c)) (token_entries (held_token c)) stored.token (token_listed (held_token c)) (token_sorted (held_token c))

  pub held_told : (kind : Kind) → listed (row_area side kind) [] labels_end items ≡ rows_under (held_list c kind)
  held_told kind =
      let rows = held_list c kind in
      listed_from (row_area side kind) [] labels_end items (rows_under rows) (rows_under rows) (stored.held kind)
      (where_all (is_between [] labels_end) (rows_under rows) (rows_low rows (held_fit c.held kind fit.held))) (rows_sorted rows (held_list_is c kind is).ascend)

  pub held_rows : (kind : Kind) → AllByRecursion (IsRowOf kind) (held_list c kind)
  held_rows kind = rows_of_kind kind (held_list c kind) (held_list_is c kind is).kinds (held_fit c.held kind fit.held)

  all_sorted : is_sorted bytes_cmp (map out_entry c.entries) ≡ true
  all_sorted = outs_sorted c.entries (small_numbers c is) is.entries.rise

  -- the entries of a range
  pub outs_told : (from to : List ℕ) → listed outbox_area from to items ≡ where_label (is_between from to) (map out_entry c.entries)
  outs_told from to = listed_from 3 from to items (map out_entry c.entries) (where_label (is_between from to) (map out_entry c.entries)) stored.entries refl (where_sorted (is_between from to) (map out_entry c.entries) all_sorted)

-- ---- the first entry above a number

not_below : (n m : ℕ) → is_ge (nat_cmp n (m + 1)) ≡ nat_lt m n
not_below n m = elim (cases_lt m n) [
  | inl lt ↦ (let yes : nat_lt m n ≡ true = grind (arith, nat_tests) in at_least n (m + 1) (omega arith) ∙ sym yes)
  | inr ge ↦ (let no : nat_lt m n ≡ false = grind (arith, nat_tests) in ap is_ge (less_is n (m + 1) (omega arith)) ∙ sym no)
]
  where
    at_least : (n m : ℕ) → m ≤ n → is_ge (nat_cmp n m) ≡ true
    at_least n m le = elim (cases_eq n m) [
      | inl same ↦ ap (λ k. is_ge (nat_cmp n k)) (sym same) ∙ ap is_ge (tied_itself nat_cmp_total n)
      | inr differ ↦ ap is_ge (greater_is n m (above n m le differ))
    ]
      where
        above : (n m : ℕ) → m ≤ n → (n ≡ m → ⊥) → m < n
        above n m le differ = elim (cases_lt m n) [
          | inl lt ↦ lt
          | inr ge ↦ absurd (differ (omega arith))
        ]

-- the labels of the entries above a number
abbrev pub is_above : ℕ → List ℕ → Bool
is_above after = is_between (number (after + 1)) (number (LAST + 1))

above_number : (after n : ℕ) → after + 1 < 2 ^ 64 → n ≤ LAST → is_above after (number n) ≡ nat_lt after n
above_number after n fits le =
    ap (λ o. is_ge (bytes_cmp (number n) (number (after + 1))) && is_lt o) (number_order n (LAST + 1) (omega arith) (omega arith) ∙ less_is n (LAST + 1) (omega arith))
    ∙ and-true (is_ge (bytes_cmp (number n) (number (after + 1)))) ∙ ap is_ge (number_order n (after + 1) (omega arith) fits) ∙ not_below n after

first_where : (after last : ℕ) (entries : List OutEntry) → after + 1 < 2 ^ 64 → last ≤ LAST → All (λ entry. entry.number ≤ last) entries
    → slice_get (where_label (is_above after) (map out_entry entries)) 0 ≡ option_map out_entry (entry_after after entries)
first_where after last [] fits le all = refl
first_where after last (x ∷ xs) fits le all =
    let here = All-head (λ (e : OutEntry). e.number ≤ last) x xs all in
    let rest = first_where after last xs fits le (All-tail (λ (e : OutEntry). e.number ≤ last) x xs all) in
    ap (λ b. slice_get (cond b (out_entry x ∷ where_label (is_above after) (map out_entry xs)) (where_label (is_above after) (map out_entry xs))) 0) (above_number after x.number fits (omega (arith, here, le)))
    ∙ go (nat_lt after x.number) rest
  where
    go : (b : Bool) → slice_get (where_label (is_above after) (map out_entry xs)) 0 ≡ option_map out_entry (entry_after after xs)
        → slice_get (cond b (out_entry x ∷ where_label (is_above after) (map out_entry xs)) (where_label (is_above after) (map out_entry xs))) 0 ≡ option_map out_entry (if b then Some x else entry_after after xs)
    go true rest = refl
    go false rest = rest

pub entry_told : (side : ℕ) (c : Copy) (items : Items) → AreItemsOf written_format side c items → IsCopy c → Fit c → (after : ℕ) → after + 1 < 2 ^ 64
    → slice_get (listed outbox_area (number (after + 1)) (number (LAST + 1)) items) 0 ≡ option_map out_entry (entry_after after c.entries)
entry_told side c items stored is fit after fits =
    ap (λ es. slice_get es 0) (outs_told side c items stored is fit (number (after + 1)) (number (LAST + 1))) ∙ first_where after c.last_number c.entries fits is.last is.entries.below

-- no entry stands above the greatest number
none_above : (after last : ℕ) (entries : List OutEntry) → last ≤ after → All (λ entry. entry.number ≤ last) entries → entry_after after entries ≡ None
none_above after last [] le all = refl
none_above after last (x ∷ xs) le all =
    let here = All-head (λ (e : OutEntry). e.number ≤ last) x xs all in
    let no : nat_lt after x.number ≡ false = grind (arith, nat_tests) in
    rw no (none_above after last xs le (All-tail (λ (e : OutEntry). e.number ≤ last) x xs all))

pub no_entry : (c : Copy) (after : ℕ) → IsCopy c → LAST ≤ after → entry_after after c.entries ≡ None
no_entry c after is le = let small = is.last in none_above after c.last_number c.entries (omega (arith, small, le)) is.entries.below

-- the first entry that isn't settled is the first one above the number before its own
pub unsettled_above : (n : ℕ) (entries : List OutEntry) (entry : OutEntry) → AreSmall entries → NumbersRise n entries → first_unsettled entries ≡ Some entry → entry_after (entry.number - 1) entries ≡ Some entry
unsettled_above n [] entry small rise is = absurd cc
unsettled_above n (x ∷ xs) entry small rise is = elim (is_none x.settled) as (λ b. (if b then Some x else first_unsettled xs) ≡ Some entry → entry_after (entry.number - 1) (x ∷ xs) ≡ Some entry) [
  | true ↦ λ is.
      let same = same_Some _ _ is in
      let first = rise.0 in
      subst (λ (e : OutEntry). entry_after (e.number - 1) (x ∷ xs) ≡ Some e) same (let yes : nat_lt (x.number - 1) x.number ≡ true = grind (arith, nat_tests) in rw yes refl)
  | false ↦ λ is.
      let above = (found_above x.number xs entry small.1 rise.1 is).0 in
      let no : nat_lt (entry.number - 1) x.number ≡ false = grind (arith, nat_tests) in
      rw no (unsettled_above x.number xs entry small.1 rise.1 is)
] is
