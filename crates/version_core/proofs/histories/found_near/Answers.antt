use Rattle.roster_values.specs.Kinds.{place_of_kind}
use Rattle.std.proofs.Common.{Some, sym, ap, ◌∙◌}
use Rattle.std.specs.Option.{option_and_then}
use Rattle.roster_types.specs.Keys.{Key}
use Rattle.version_core.specs.History.{history_key, past_of}
use Rattle.version_core.specs.Since.{standing}
use Rattle.version_core.proofs.HistoryLemmas.{Ascends-histories, look_up-histories}
use Rattle.version_core.proofs.Places.{look_up-at}
use Rattle.version_core.proofs.histories.found_near.Goals as goal

-- the history at the place has the key
pub returns-in-Ok : goal.returns-in-Ok
returns-in-Ok c =
    let k : Key = (place_of_kind c.args.kind, c.args.id.now) in
    let histories = c.args.histories.now in
    let is = c.in-Ok.ensures.found in
    let found = c.index-histories-place.result in
    let at = look_up-at history_key histories k _ found (Ascends-histories histories c.requires.ascend) is.bound (is.same found) ∙ ap (λ x. Some x) (sym c.index-histories-place.is) in
    c.at.ensures ∙ ap (option_and_then (λ history. standing c.args.version (past_of history))) (sym at) ∙ sym (look_up-histories c.args.version k histories c.requires)

-- no history has the key
pub returns-in-Err : goal.returns-in-Err
returns-in-Err c =
    let k : Key = (place_of_kind c.args.kind, c.args.id.now) in
    let histories = c.args.histories.now in
    ap (option_and_then (λ history. standing c.args.version (past_of history))) (sym c.in-Err.ensures.missing) ∙ sym (look_up-histories c.args.version k histories c.requires)
