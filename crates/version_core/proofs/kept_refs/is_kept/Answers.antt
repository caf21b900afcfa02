use Rattle.std.proofs.Common.{Some, false, sym, ap, ◌∙◌, rules}
use Rattle.std.proofs.lemmas.Fn.{always_returns_same}
use Rattle.std.specs.Option.{option_and_then, option_map_or}
use Rattle.roster_types.specs.Keys.{Key, key_cmp}
use Rattle.roster_values.specs.Kinds.{place_of_kind}
use Rattle.version_core.specs.History.{history_key, past_of}
use Rattle.version_core.specs.References.{names_at}
use Rattle.version_core.specs.Since.{some_from}
use Rattle.version_core.specs.declared.row_change.RowChange.{RowChange}
use Rattle.version_core.proofs.HistoryLemmas.{Ascends-histories, look_up-pasts}
use Rattle.version_core.proofs.Places.{look_up-at, look_up-gap, searchable}
use Rattle.version_core.proofs.kept_refs.is_kept.Goals as goal

-- the history at the place has the key
pub returns-in-Ok : goal.returns-in-Ok
returns-in-Ok c =
    let entry = c.args.entry.now in
    let k : Key = (place_of_kind entry.kind, entry.id) in
    let histories = c.args.histories.now in
    let here = c.in-Ok.ensures.position (λ history. key_cmp (history_key history) k) (always_returns_same _ _ _ (λ a r f called. (search rules, search rules))) in
    let found = c.index-histories-at.result in
    let at = look_up-at history_key histories k c.in-Ok.at found (Ascends-histories histories c.requires.ascend) c.in-Ok.ensures.bound (here found) ∙ ap (λ x. Some x) (sym c.index-histories-at.is) in
    c.some_names_from.ensures ∙ ap (some_from c.args.oldest (λ (change : RowChange). names_at entry.place entry.target change.row)) c.rows.ensures
    ∙ sym (ap (λ o. option_map_or (some_from c.args.oldest (λ (change : RowChange). names_at entry.place entry.target change.row)) o false) (look_up-pasts k histories ∙ ap (option_and_then (λ history. Some (past_of history))) at))

-- no history has the key
pub returns-in-Err : goal.returns-in-Err
returns-in-Err c =
    let entry = c.args.entry.now in
    let k : Key = (place_of_kind entry.kind, entry.id) in
    let histories = c.args.histories.now in
    let parted = c.in-Err.ensures.position (λ history. key_cmp (history_key history) k) (always_returns_same _ _ _ (λ a r f called. (search rules, search rules))) (searchable history_key histories k (Ascends-histories histories c.requires.ascend)) in
    let none = look_up-gap history_key histories k _ parted.0 parted.1 in
    sym (ap (λ o. option_map_or (some_from c.args.oldest (λ (change : RowChange). names_at entry.place entry.target change.row)) o false) (look_up-pasts k histories ∙ ap (option_and_then (λ history. Some (past_of history))) none))
