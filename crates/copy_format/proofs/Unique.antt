-- Items are those of one copy at most.
use Rattle.std.proofs.Common.{◌≡◌, ◌++◌, ◌∷◌, [], ℕ, List, length, map, get_or, None, Option, Some, inl, inr, refl, sym}
use Rattle.std.proofs.Common.{ap, ◌∙◌, subst, arith}
use Rattle.std.specs.Prelude.{IfSome, option_map}
use Rattle.std.specs.List.{AllByRecursion}
use Rattle.std.specs.Option.{option_map_or}
use Rattle.std.proofs.lemmas.Bool.{cases_eq, cases_lt}
use Rattle.std.proofs.lemmas.Option.{same_Some}
use Rattle.std.specs.FinMap.{entries, from_entries}
use Rattle.keeper_memory.proofs.CopyLemmas.{held_list_is, lists_few, nth_list}
use Rattle.keeper_memory.specs.copy.Copies.{Copy, Held, IsCopy, IsHeld, IsStage, Stage, held_list, held_token}
use Rattle.keeper_memory.specs.copy.Lists.{IsList, kind_count}
use Rattle.keeper_memory.specs.copy.States.{state_of}
use Rattle.keeper_memory.specs.declared.copy.state.StageState.{StageState}
use Rattle.hub_format.proofs.Listing.{listed_sorted}
use Rattle.hub_format.specs.Format.{Entry, written_format}
use Rattle.item_maps.specs.Items.{Items, bytes_cmp}
use Rattle.roster_types.specs.Records.{Record}
use Rattle.roster_values.proofs.KindLaws.{kind_there}
use Rattle.roster_values.specs.Kinds.{all_kinds, place_of_kind}
use Rattle.roster_values.specs.declared.kind.Kind.{Kind}
use Rattle.copy_format.specs.Format.{AreItemsOf, Fit, FitRows, FitsStage, IsOut, IsRowOf, IsSmall, Keep, other_side}
use Rattle.copy_format.specs.Format.{out_entry, row_area, row_entry, rows_under, stage_entries, staged_list}
use Rattle.copy_format.specs.Format.{token_entries}
use Rattle.hub_format.proofs.Unique.{same_list}
use Rattle.copy_format.proofs.Decoding.{out_back, row_back, stage_back, state_back}
use Rattle.copy_format.proofs.Changing.{held_fit, small_numbers, staged_fit}
use Rattle.copy_format.proofs.Climbing.{outs_sorted, rows_sorted}
use Rattle.copy_format.proofs.Lists.{at_last, at_other, before_last, by_place, empty_last, same_lists}
use Rattle.copy_format.proofs.CopyListings.{all_out, rows_of_kind, small_fits, stage_told, state_told, token_told}

-- rows whose entries are equal are equal
same_rows : (kind : Kind) (xs ys : List Record) → AllByRecursion (IsRowOf kind) xs → AllByRecursion (IsRowOf kind) ys → rows_under xs ≡ rows_under ys → xs ≡ ys
same_rows kind = same_list row_entry (IsRowOf kind) (row_back kind)

-- maps of rows in order
mapped_rows : (kind : Kind) (xs ys : List Record) → IsList kind xs → IsList kind ys → FitRows xs → FitRows ys → from_entries {R = bytes_cmp} (rows_under xs) ≡ from_entries (rows_under ys) → xs ≡ ys
mapped_rows kind xs ys is_x is_y fit_x fit_y same =
    same_rows kind xs ys (rows_of_kind kind xs is_x.kinds fit_x) (rows_of_kind kind ys is_y.kinds fit_y)
    (sym (listed_sorted (rows_under xs) (rows_sorted xs is_x.ascend)) ∙ ap entries same ∙ listed_sorted (rows_under ys) (rows_sorted ys is_y.ascend))

-- the rows of a kind in a stage
pub stage_list : (s : Stage) (kind : Kind) → IsStage s → IsList kind (get_or (s.done ++ s.present ∷ []) (place_of_kind kind) [])
stage_list s kind is = elim (cases_eq (place_of_kind kind) (length s.done)) [
  | inl same ↦ subst (IsList kind) (sym (at_last s.done s.present (place_of_kind kind) same)) (is.present kind same)
  | inr differ ↦
      subst (IsList kind) (sym (at_other s.done s.present [] (place_of_kind kind) differ ∙ empty_last s.done (place_of_kind kind)))
      (nth_list all_kinds s.done (place_of_kind kind) kind is.done (kind_there kind))
]

staged_list_is : (o : Option Stage) (kind : Kind) → IfSome o IsStage → IsList kind (option_map_or (λ s. get_or (s.done ++ s.present ∷ []) (place_of_kind kind) []) o [])
staged_list_is None kind is = nth_list all_kinds [] (place_of_kind kind) kind tt (kind_there kind)
staged_list_is (Some s) kind is = stage_list s kind is

version_small : (o : Option Held) → IfSome o IsHeld → IfSome (option_map (λ h. h.version) o) IsSmall
version_small None is = tt
version_small (Some h) is = let le = is.version in omega (arith, le)

-- what is held is one, where the version, the token and the rows of each kind are
same_held : (o p : Option Held) → IfSome o IsHeld → IfSome p IsHeld → option_map (λ h. h.version) o ≡ option_map (λ h. h.version) p → option_map_or (λ h. h.token) o None ≡ option_map_or (λ h. h.token) p None
    → ((kind : Kind) → option_map_or (λ h. get_or h.lists (place_of_kind kind) []) o [] ≡ option_map_or (λ h. get_or h.lists (place_of_kind kind) []) p []) → o ≡ p
same_held None None is_o is_p versions tokens rows = refl
same_held None (Some k) is_o is_p versions tokens rows = absurd cc
same_held (Some h) None is_o is_p versions tokens rows = absurd cc
same_held (Some h) (Some k) is_o is_p versions tokens rows =
    let version = same_Some h.version k.version versions in
    let all = is_o.all in
    let lists = same_lists h.lists k.lists (is_o.all ∙ sym is_p.all) (λ p lt. by_place (λ p. get_or h.lists p [] ≡ get_or k.lists p []) rows p (omega (arith, lt, all))) in
    λ i. Some (record { version = version i; token = tokens i; lists = lists i })

same_token : (o p : Option (List ℕ)) → token_entries o ≡ token_entries p → o ≡ p
same_token None None same = refl
same_token None (Some b) same = absurd cc
same_token (Some a) None same = absurd cc
same_token (Some a) (Some b) same = ap (λ (es : List Entry). Some (get_or es 0 ([], [])).1) same

same_body : (a b : List ℕ) → ◌≡◌ {A = List Entry} (([], a) ∷ []) (([], b) ∷ []) → a ≡ b
same_body a b same = ap (λ (es : List Entry). (get_or es 0 ([], [])).1) same

-- and so is a stage
same_stage : (o p : Option Stage) → IfSome o IsStage → IfSome p IsStage → IfSome o FitsStage → IfSome p FitsStage → stage_entries o ≡ stage_entries p
    → ((kind : Kind) → option_map_or (λ s. get_or (s.done ++ s.present ∷ []) (place_of_kind kind) []) o [] ≡ option_map_or (λ s. get_or (s.done ++ s.present ∷ []) (place_of_kind kind) []) p []) → o ≡ p
same_stage None None is_o is_p fit_o fit_p told rows = refl
same_stage None (Some b) is_o is_p fit_o fit_p told rows = absurd cc
same_stage (Some a) None is_o is_p fit_o fit_p told rows = absurd cc
same_stage (Some a) (Some b) is_o is_p fit_o fit_p told rows =
    let small = stage_back (state_of a) (state_of b) (small_fits a is_o.pin fit_o) (small_fits b is_p.pin fit_p) (same_body _ _ told) in
    let long : length a.done ≡ length b.done = ap (λ (s : StageState). s.kinds_done) small in
    let few = lists_few all_kinds a.done is_o.done in
    let done = same_lists a.done b.done long (λ p lt.
    sym (before_last a.done a.present p lt) ∙ by_place (λ p. get_or (a.done ++ a.present ∷ []) p [] ≡ get_or (b.done ++ b.present ∷ []) p []) rows p (omega (arith, lt, few)) ∙ before_last b.done b.present p (omega (arith, lt, long))) in
    let present : a.present ≡ b.present = elim (cases_lt (length a.done) kind_count) [
      | inl lt ↦ sym (at_last a.done a.present (length a.done) refl) ∙ by_place (λ p. get_or (a.done ++ a.present ∷ []) p [] ≡ get_or (b.done ++ b.present ∷ []) p []) rows (length a.done) lt ∙ at_last b.done b.present (length a.done) long
      | inr ge ↦ (let all : length a.done ≡ kind_count = omega (arith, ge, few) in (is_o.whole all).0 ∙ sym (is_p.whole (sym long ∙ all)).0)
    ] in
    λ i. Some (record { pin = (small i).pin; token = (small i).token; done = done i; present = present i; total = (small i).total })

module _ (s t : ℕ) (c d : Copy) (m : Items) (c_items : AreItemsOf written_format s c m) (d_items : AreItemsOf written_format t d m) (is_c : IsCopy c) (is_d : IsCopy d) (fit_c : Fit c) (fit_d : Fit d) where
  states : (c.run ≡ d.run) × (option_map (λ h. h.version) c.held ≡ option_map (λ h. h.version) d.held) × (s ≡ t) × (c.last_number ≡ d.last_number)
  states =
      let run_c = is_c.run in
      let run_d = is_d.run in
      let last_c = is_c.last in
      let last_d = is_d.last in
      state_back c.run d.run (option_map (λ h. h.version) c.held) (option_map (λ h. h.version) d.held) s t c.last_number d.last_number (omega (arith, run_c)) (omega (arith, run_d))
      (version_small c.held is_c.held) (version_small d.held is_d.held) (omega (arith, last_c)) (omega (arith, last_d))
      (same_body _ _ (sym (state_told s c m c_items is_c fit_c) ∙ state_told t d m d_items is_d fit_d))

  tokens_same : held_token c ≡ held_token d
  tokens_same = same_token (held_token c) (held_token d) (sym (token_told s c m c_items is_c fit_c) ∙ token_told t d m d_items is_d fit_d)

  held_rows_same : (kind : Kind) → held_list c kind ≡ held_list d kind
  held_rows_same kind =
      mapped_rows kind (held_list c kind) (held_list d kind) (held_list_is c kind is_c) (held_list_is d kind is_d) (held_fit c.held kind fit_c.held) (held_fit d.held kind fit_d.held)
      (sym (c_items.held kind) ∙ ap (λ x. m (row_area x kind)) states.2 ∙ d_items.held kind)

  staged_rows_same : (kind : Kind) → staged_list c kind ≡ staged_list d kind
  staged_rows_same kind =
      mapped_rows kind (staged_list c kind) (staged_list d kind) (staged_list_is c.stage kind is_c.stage) (staged_list_is d.stage kind is_d.stage) (staged_fit c.stage kind fit_c.stage) (staged_fit d.stage kind fit_d.stage)
      (sym (c_items.staged kind) ∙ ap (λ x. m (row_area (other_side x) kind)) states.2 ∙ d_items.staged kind)

  entries_same : c.entries ≡ d.entries
  entries_same =
      same_list out_entry IsOut out_back c.entries d.entries (all_out c is_c fit_c) (all_out d is_d fit_d)
      (sym (listed_sorted (map out_entry c.entries) (outs_sorted c.entries (small_numbers c is_c) is_c.entries.rise)) ∙ ap entries (sym c_items.entries ∙ d_items.entries)
      ∙ listed_sorted (map out_entry d.entries) (outs_sorted d.entries (small_numbers d is_d) is_d.entries.rise))

  pub same_copy : c ≡ d
  same_copy =
      let held = same_held c.held d.held is_c.held is_d.held states.1 tokens_same held_rows_same in
      let stage = same_stage c.stage d.stage is_c.stage is_d.stage fit_c.stage fit_d.stage (sym (stage_told s c m c_items is_c fit_c) ∙ stage_told t d m d_items is_d fit_d) staged_rows_same in
      λ i. record { run = states.0 i; held = held i; stage = stage i; entries = entries_same i; last_number = states.3 i }

pub kept_once : (m : Items) (c other : Copy) → Keep m c → Keep m other → c ≡ other
kept_once m c other p q = same_copy p.side q.side c other m p.stored q.stored p.is q.is p.fit q.fit
