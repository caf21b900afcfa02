use Rattle.roster_values.specs.Kinds.{place_of_kind}
use Rattle.std.proofs.Common.{◌≡◌, List, None, Result, Ok, Err, length, rules}
use Rattle.std.proofs.lemmas.Fn.{always_returns_same}
use Rattle.std.specs.List.Sorted.{IsBinarySearchResult, IsSearchInRange}
use Rattle.std.specs.Prelude.{IfErr, IfOk, ℕ}
use Rattle.roster_types.specs.Keys.{Ascends, Key, key_cmp, look_up}
use Rattle.version_core.specs.History.{IsAt, history_key}
use Rattle.version_core.specs.declared.history.History.{History}
use Rattle.version_core.proofs.HistoryLemmas.{Ascends-histories}
use Rattle.version_core.proofs.Places.{look_up-gap, searchable}
use Rattle.version_core.proofs.histories.place_near.Goals as goal

module _ (histories : List History) (k : Key) where
  halves_find : (r : Result ℕ ℕ) → IsSearchInRange r (length histories) → IsBinarySearchResult (λ history. key_cmp (history_key history) k) histories r → IfOk r (IsAt k histories)
  halves_find (Ok place) bound position = record { bound = bound; same = position }
  halves_find (Err gap) bound position = tt

  halves_miss : (r : Result ℕ ℕ) → Ascends history_key histories → IsBinarySearchResult (λ history. key_cmp (history_key history) k) histories r → IfErr r (λ gap. look_up history_key k histories ≡ None)
  halves_miss (Ok place) up position = tt
  halves_miss (Err gap) up position =
      let parted = position (searchable history_key histories k up) in
      look_up-gap history_key histories k gap parted.0 parted.1

pub returns-clause-found : goal.returns-clause-found
returns-clause-found c =
    let k : Key = (place_of_kind c.args.kind, c.args.id.now) in
    let position = c.binary_search_by.ensures.position (λ history. key_cmp (history_key history) k) (always_returns_same _ _ _ (λ a r f called. (search rules, search rules))) in
    halves_find c.args.histories.now k c.binary_search_by.result c.binary_search_by.ensures.bound position

pub returns-clause-missing : goal.returns-clause-missing
returns-clause-missing c =
    let k : Key = (place_of_kind c.args.kind, c.args.id.now) in
    let histories = c.args.histories.now in
    let position = c.binary_search_by.ensures.position (λ history. key_cmp (history_key history) k) (always_returns_same _ _ _ (λ a r f called. (search rules, search rules))) in
    halves_miss histories k c.binary_search_by.result (Ascends-histories histories c.requires.ascend) position
