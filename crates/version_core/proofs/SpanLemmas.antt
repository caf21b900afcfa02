-- What stands under an id whose history has no entry between two versions stands at both.
use Rattle.std.proofs.Common.{◌≡◌, ℕ, zero, suc, ◌+◌, ◌≤◌, ◌<◌, ℤ, List, [], ◌∷◌, ◌++◌, append-nil, get_or, length}
use Rattle.std.proofs.Common.{take, Bool, true, false, ◌&&◌, ◌||◌, cond, filter, map, leb, ltb, option_map, slice_get}
use Rattle.std.proofs.Common.{Option, None, Some, refl, sym, ap, subst, ◌∙◌, arith}
use Rattle.std.specs.Prelude.{option_and_then}
use Rattle.std.proofs.lemmas.Bool.Decides.{nat_tests}
use Rattle.std.proofs.lemmas.List.{take_more}
use Rattle.std.specs.Option.{option_or}
use Rattle.reference_rules.proofs.KeyOrder.{found_key}
use Rattle.roster_types.specs.Keys.{Ascends, Key, look_up}
use Rattle.roster_values.specs.Kinds.{place_of_kind}
use Rattle.roster_values.specs.declared.kind.Kind.{Kind}
use Rattle.version_core.proofs.HistoryLemmas.{look_up-rows_at}
use Rattle.version_core.proofs.RoomLemmas.{map_push}
use Rattle.version_core.proofs.LookUps.{Ascends-filter, Ascends-map, KeepKeys, all_kept, if_kept, look_up-filter}
use Rattle.version_core.proofs.LookUps.{look_up-map}
use Rattle.version_core.specs.History.{ArePasts, Past, is_past_of, past_key, past_of, pasts_of, rows_at}
use Rattle.version_core.specs.Since.{standing}
use Rattle.version_core.specs.Spans.{AreSameBeside, changed_ids, has_change, is_between, is_of_place, key_in, past_id}
use Rattle.version_core.specs.VersionLog.{version_at, versions_at}
use Rattle.version_core.specs.declared.change.BaseVersion.{BaseVersion}
use Rattle.version_core.specs.declared.grant_row.GrantRow.{GrantRow}
use Rattle.version_core.specs.declared.history.History.{History}
use Rattle.version_core.specs.declared.row_change.RowChange.{RowChange}
use Rattle.version_core.specs.declared.since.Since.{Since}

module _ (from to : ℕ) (order : from ≤ to) where
  -- an entry that isn't between stands at both or at neither
  same_test : (entry : Since RowChange) → is_between from to entry ≡ false → leb entry.version from ≡ leb entry.version to
  same_test entry apart = by (leb entry.version from) (leb entry.version to) refl refl
    where
      by : (a b : Bool) → leb entry.version from ≡ a → leb entry.version to ≡ b → a ≡ b
      by true true e f = refl
      by true false e f =
          let low : entry.version ≤ from = grind (arith, nat_tests) in
          let high : to < entry.version = grind (arith, nat_tests) in
          absurd (omega (arith, order))
      by false true e f =
          let above : ltb from entry.version ≡ true = grind (arith, nat_tests) in
          sym ((λ i. sym above i && sym f i) ∙ apart)
      by false false e f = refl

  or_first : (a b : Bool) → (a || b) ≡ false → a ≡ false
  or_first true b e = e
  or_first false b e = refl

  or_second : (a b : Bool) → (a || b) ≡ false → b ≡ false
  or_second true b e = cc
  or_second false b e = e

  same_standing : (past : Past) → has_change from to past ≡ false → standing from past ≡ standing to past
  same_standing [] none = refl
  same_standing (entry ∷ past) none =
      let here = same_test entry (or_first (is_between from to entry) (has_change from to past) none) in
      let rest = same_standing past (or_second (is_between from to entry) (has_change from to past) none) in
      λ i. option_or (rest i) (cond (here i) (Some entry.value) None)

module _ (kind : Kind) where
  abbrev place : ℕ
  place = place_of_kind kind

  keeps : (pasts : List Past) → KeepKeys past_key (key_in kind) past_id (filter (is_of_place place) pasts)
  keeps [] = tt
  keeps (past ∷ pasts) =
      elim (is_of_place place past) as (λ b. is_of_place place past ≡ b → KeepKeys past_key (key_in kind) past_id (cond b (past ∷ filter (is_of_place place) pasts) (filter (is_of_place place) pasts))) [
        | true ↦ λ of.
            let same : (past_key past).0 ≡ place = grind (arith, nat_tests) in
            (λ i. (sym same i, (past_key past).1), keeps pasts)
        | false ↦ λ _. keeps pasts
      ] refl

  module _ (from to : ℕ) (pasts : List Past) (are : ArePasts pasts) where
    abbrev of_kind : List Past
    of_kind = filter (is_of_place place) pasts

    abbrev changed : List Past
    changed = filter (has_change from to) of_kind

    of_kind_up : Ascends past_key of_kind
    of_kind_up = Ascends-filter past_key (is_of_place place) pasts are.ascend

    kept : KeepKeys past_key (key_in kind) past_id changed
    kept = all_kept (λ past. key_in kind (past_id past) ≡ past_key past) (has_change from to) of_kind (keeps pasts)

    pub changed_up : Ascends (key_in kind) (changed_ids kind from to pasts)
    changed_up = Ascends-map past_key (key_in kind) past_id changed kept (Ascends-filter past_key (has_change from to) of_kind of_kind_up)

    -- the id that is found among those that changed, by what is found among all
    abbrev found_id : Option Past → Option (List ℕ)
    found_id o = option_map past_id (option_and_then (if_kept past_key (has_change from to)) (option_and_then (if_kept past_key (is_of_place place)) o))

    looked : (k : Key) → look_up (key_in kind) k (changed_ids kind from to pasts) ≡ found_id (look_up past_key k pasts)
    looked k =
        look_up-map past_key (key_in kind) past_id k changed kept
        ∙ ap (option_map past_id) (look_up-filter past_key (has_change from to) k of_kind of_kind_up
        ∙ ap (option_and_then (if_kept past_key (has_change from to))) (look_up-filter past_key (is_of_place place) k pasts are.ascend))

    unchanged : (past : Past) → is_of_place place past ≡ true → found_id (Some past) ≡ None → has_change from to past ≡ false
    unchanged past of none =
        elim (has_change from to past) as (λ b. option_map past_id (cond b (Some past) None) ≡ None → b ≡ false) [ true ↦ λ impossible. cc | false ↦ λ _. refl ]
        (ap (λ b. option_map past_id (option_and_then (if_kept past_key (has_change from to)) (cond b (Some past) None))) (sym of) ∙ none)

    same_found : from ≤ to → (id : List ℕ) (o : Option Past) → look_up past_key (key_in kind id) pasts ≡ o → found_id o ≡ None → option_and_then (standing from) o ≡ option_and_then (standing to) o
    same_found order id None found none = refl
    same_found order id (Some past) found none =
        let at : (past_key past).0 ≡ place = ap (λ (k : Key). k.0) (found_key past_key (key_in kind id) pasts past found) in
        let of : is_of_place place past ≡ true = grind (arith, nat_tests) in
        same_standing from to order past (unchanged past of none)

    pub same_beside : from ≤ to → AreSameBeside kind (changed_ids kind from to pasts) (rows_at from pasts) (rows_at to pasts)
    same_beside order = λ id none.
        look_up-rows_at from (key_in kind id) pasts are
        ∙ same_found order id (look_up past_key (key_in kind id) pasts) refl (sym (looked (key_in kind id)) ∙ none)
        ∙ sym (look_up-rows_at to (key_in kind id) pasts are)

-- the rows of a version among many
pub rows_of_version : (pasts : List Past) (grants : List (Since (List GrantRow))) (n : ℕ) (moments : List ℤ) (place : ℕ) (version : BaseVersion)
    → slice_get (versions_at n moments pasts grants) place ≡ Some version → version.rows ≡ rows_at version.number pasts
rows_of_version pasts grants n [] place version at = cc
rows_of_version pasts grants n (m ∷ moments) zero version at =
    let same : version_at n m pasts grants ≡ version = cc in subst (λ (v : BaseVersion). v.rows ≡ rows_at v.number pasts) same refl
rows_of_version pasts grants n (m ∷ moments) (suc place) version at = rows_of_version pasts grants (n + 1) moments place version at

-- the pasts of the histories of a kind are those of the kind
pub pasts_of_kind : (kind : Kind) (histories : List History) → pasts_of (filter (is_past_of kind) histories) ≡ filter (is_of_place (place_of_kind kind)) (pasts_of histories)
pasts_of_kind kind [] = refl
pasts_of_kind kind (history ∷ histories) =
    elim (is_past_of kind history) as (λ b. pasts_of (cond b (history ∷ filter (is_past_of kind) histories) (filter (is_past_of kind) histories)) ≡ cond b (past_of history ∷ filter (is_of_place (place_of_kind kind)) (pasts_of histories)) (filter (is_of_place (place_of_kind kind)) (pasts_of histories))) [
      | true ↦ ap (λ ps. past_of history ∷ ps) (pasts_of_kind kind histories)
      | false ↦ pasts_of_kind kind histories
    ]

-- one history more, with a change or without
module _ (from to : ℕ) where
  changed_push : (pasts : List Past) (past : Past) → map past_id (filter (has_change from to) (pasts ++ past ∷ [])) ≡ map past_id (filter (has_change from to) pasts) ++ cond (has_change from to past) (past_id past ∷ []) []
  changed_push [] past = elim (has_change from to past) as (λ b. map past_id (cond b (past ∷ []) []) ≡ cond b (past_id past ∷ []) []) [ true ↦ refl | false ↦ refl ]
  changed_push (other ∷ pasts) past =
      elim (has_change from to other) as (λ b. map past_id (cond b (other ∷ filter (has_change from to) (pasts ++ past ∷ [])) (filter (has_change from to) (pasts ++ past ∷ [])))
      ≡ map past_id (cond b (other ∷ filter (has_change from to) pasts) (filter (has_change from to) pasts)) ++ cond (has_change from to past) (past_id past ∷ []) []) [
        | true ↦ ap (λ ids. past_id other ∷ ids) (changed_push pasts past)
        | false ↦ changed_push pasts past
      ]

  module _ (histories : List History) (n : ℕ) (history : History) (lt : n < length histories) (is : get_or histories n history ≡ history) where
    taken : pasts_of (take (n + 1) histories) ≡ pasts_of (take n histories) ++ past_of history ∷ []
    taken = ap pasts_of (take_more histories n history lt ∙ ap (λ h. take n histories ++ h ∷ []) is) ∙ map_push past_of (take n histories) history

    pub more_changed : has_change from to (past_of history) ≡ true → (ids : List (List ℕ)) → ids ≡ map past_id (filter (has_change from to) (pasts_of (take n histories)))
        → ids ++ past_id (past_of history) ∷ [] ≡ map past_id (filter (has_change from to) (pasts_of (take (n + 1) histories)))
    more_changed changes ids so =
        ap (λ ids. ids ++ past_id (past_of history) ∷ []) so
        ∙ ap (λ b. map past_id (filter (has_change from to) (pasts_of (take n histories))) ++ cond b (past_id (past_of history) ∷ []) []) (sym changes)
        ∙ sym (ap (λ ps. map past_id (filter (has_change from to) ps)) taken ∙ changed_push (pasts_of (take n histories)) (past_of history))

    pub none_changed : has_change from to (past_of history) ≡ false → (ids : List (List ℕ)) → ids ≡ map past_id (filter (has_change from to) (pasts_of (take n histories)))
        → ids ≡ map past_id (filter (has_change from to) (pasts_of (take (n + 1) histories)))
    none_changed stays ids so =
        so ∙ sym (append-nil (map past_id (filter (has_change from to) (pasts_of (take n histories)))))
        ∙ ap (λ b. map past_id (filter (has_change from to) (pasts_of (take n histories))) ++ cond b (past_id (past_of history) ∷ []) []) (sym stays)
        ∙ sym (ap (λ ps. map past_id (filter (has_change from to) ps)) taken ∙ changed_push (pasts_of (take n histories)) (past_of history))
