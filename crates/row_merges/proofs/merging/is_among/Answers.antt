use Rattle.std.proofs.Common.{rules, sym, ap, ◌∙◌, List, [], ℕ}
use Rattle.std.specs.Prelude.{is_some}
use Rattle.std.proofs.lemmas.Fn.{always_returns_same}
use Rattle.roster_types.specs.Keys.{Key, key_cmp}
use Rattle.version_core.specs.Spans.{key_in}
use Rattle.row_merges.proofs.Among.{any_is}
use Rattle.version_core.proofs.Places.{look_up-at, look_up-gap, searchable}
use Rattle.row_merges.proofs.merging.is_among.Goals as goal

pub returns-in-Ok : goal.returns-in-Ok
returns-in-Ok c =
    let key = key_in c.args.kind in
    let k : Key = key c.args.id.now in
    let none : List ℕ = [] in
    let here = c.in-Ok.ensures.position (λ other. key_cmp (key other) k) (always_returns_same _ _ _ (λ a r f called. (search rules, search rules))) in
    sym (any_is c.args.kind c.args.id.now c.args.ids.now ∙ ap is_some (look_up-at key c.args.ids.now k _ none c.requires c.in-Ok.ensures.bound (here none)))

pub returns-in-Err : goal.returns-in-Err
returns-in-Err c =
    let key = key_in c.args.kind in
    let k : Key = key c.args.id.now in
    let parted = c.in-Err.ensures.position (λ other. key_cmp (key other) k) (always_returns_same _ _ _ (λ a r f called. (search rules, search rules))) (searchable key c.args.ids.now k c.requires) in
    sym (any_is c.args.kind c.args.id.now c.args.ids.now ∙ ap is_some (look_up-gap key c.args.ids.now k _ parted.0 parted.1))
