use Rattle.std.proofs.Common.{◌≡◌, ◌++◌, ◌∷◌, [], length, append_assoc, append-nil, arith, sym, ap, subst, ◌∙◌}
use Rattle.std.proofs.lemmas.List.{nil_from_length}
use Rattle.std.specs.Option.{option_copied}
use Rattle.std.specs.Vec.Iter.{into_iter_items}
use Rattle.roster_types.specs.Keys.{look_up}
use Rattle.roster_values.specs.Kinds.{place_of_kind}
use Rattle.version_changes.proofs.ListedLemmas.{Changed, changed_all, changed_next}
use Rattle.version_changes.specs.sets.Applying.{set_key}
use Rattle.version_changes.specs.sets.Steps.{IsListedChange}
use Rattle.version_core.specs.Changes.{change_key}
use Rattle.version_changes.proofs.sets.listed.listed_changes.Goals as goal

pub loop-listed-preserved : goal.loop-listed-preserved
loop-listed-preserved c =
    let at = c.loop-listed in
    let feed = c.args.feed.now in
    let all = c.args.rows.items in
    let rows = c.args.view.now.rows in
    let listed = c.in-Some.listed in
    let change = c.in_ok-change.change in
    let steps : into_iter_items at.listed-iterator ≡ listed ∷ into_iter_items c.next.new.self = c.in-Some.ensures.steps.0 in
    let whole : at.yielded ++ listed ∷ into_iter_items c.next.new.self ≡ all = rw (← steps) at.invariant.whole in
    let kind = ap place_of_kind c.kind.ensures.kind in
    let id = c.id.ensures in
    let stored : option_copied c.change_near-stored.result ≡ look_up change_key (set_key listed) rows = c.change_near-stored.ensures ∙ (λ i. look_up change_key (kind i, id i) rows) in
    let is : IsListedChange feed c.args.at listed (look_up change_key (set_key listed) rows) change =
    subst (λ s. IsListedChange feed c.args.at listed s change) stored c.in_ok-change.ensures in
    record {
      whole = append_assoc at.yielded (listed ∷ []) (into_iter_items c.next.new.self) ∙ whole;
      changed = subst (Changed feed c.args.at all rows (length (at.yielded ++ listed ∷ []))) (sym c.in_ok-add_change.ensures) (
          changed_next feed c.args.at all rows at.yielded (into_iter_items c.next.new.self) listed change at.changes c.requires whole is at.invariant.changed);
      left =
          let was = at.invariant.left in
          let gone = c.in-Some.ensures.steps.1 in
          let short = ap length steps in
          omega arith;
    }

pub returns : goal.returns
returns c =
    let at = c.loop-listed in
    let none = c.in-None.ensures.steps in
    let empty : into_iter_items at.listed-iterator ≡ [] = nil_from_length (into_iter_items at.listed-iterator) (sym at.invariant.left ∙ none.0) in
    let whole : at.yielded ≡ c.args.rows.items = sym (append-nil at.yielded) ∙ rw empty at at.invariant.whole in
    changed_all c.args.feed.now c.args.at c.args.rows.items c.args.view.now.rows at.yielded at.changes whole at.invariant.changed
