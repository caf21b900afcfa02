use Rattle.std.proofs.Common.{ℕ, List, Some, sym, ap, ◌∙◌, rules}
use Rattle.std.proofs.lemmas.Fn.{always_returns_same}
use Rattle.version_core.specs.Marks.{key_order, mark_key}
use Rattle.version_core.proofs.MarkLemmas.{mark_found, mark_gap, searchable}
use Rattle.version_core.proofs.marks.Marks.get.Goals as goal

-- the mark at the place has the key
pub returns-in-Ok : goal.returns-in-Ok
returns-in-Ok c =
    let k : List ℕ × ℕ = (c.args.caller.now, c.args.number) in
    let marks = c.self.inside.marks.items in
    let here = c.in-Ok.ensures.position (λ mark. key_order (mark_key mark) k) (always_returns_same _ _ _ (λ a r f called. (search rules, search rules))) in
    let found = c.index.result.now in
    rw (← c.self.view_is) (ap (λ m. Some m) c.index.ensures ∙ sym (mark_found marks c.self.invariant.rise k c.in-Ok.place found (rw c.deref.ensures.value at c.in-Ok.ensures.bound) (rw c.deref.ensures.value at (here found))))

-- no mark has the key
pub returns-in-Err : goal.returns-in-Err
returns-in-Err c =
    let k : List ℕ × ℕ = (c.args.caller.now, c.args.number) in
    let marks = c.self.inside.marks.items in
    let parted = c.in-Err.ensures.position (λ mark. key_order (mark_key mark) k) (always_returns_same _ _ _ (λ a r f called. (search rules, search rules))) (rw c.deref.ensures.value (searchable marks c.self.invariant.rise k)) in
    rw (← c.self.view_is) (sym (mark_gap marks k _ (rw c.deref.ensures.value at parted.0) (rw c.deref.ensures.value at parted.1)))
