use Rattle.std.proofs.Common.{◌≡◌, ◌<◌, rules, sym, ap, get_or, length, ℕ, List, [], ◌∷◌, true, arith}
use Rattle.std.specs.Prelude.{is_some}
use Rattle.std.proofs.lemmas.Fn.{always_returns_same}
use Rattle.std.specs.declared.cmp.Ordering.TheVariants.{Equal}
use Rattle.roster_types.specs.Keys.{Ascends, Key, key_cmp, look_up, row_key}
use Rattle.roster_values.specs.declared.kind.Kind.{Kind}
use Rattle.version_core.specs.Spans.{key_in}
use Rattle.version_core.proofs.Places.{look_up-at, look_up-gap, searchable}
use Rattle.consumer_deltas.proofs.fitting.has_row.Goals as goal

-- the id at a place has the key
has_at : (kind : Kind) (ids : List (List ℕ)) (k : Key) (i : ℕ) → Ascends (key_in kind) ids → i < length ids → ((d : List ℕ) → key_cmp (key_in kind (get_or ids i d)) k ≡ Equal) → is_some (look_up (key_in kind) k ids) ≡ true
has_at kind [] k i up lt here = absurd (omega arith)
has_at kind (id ∷ ids) k i up lt here = ap is_some (look_up-at (key_in kind) (id ∷ ids) k i id up lt (here id))

pub returns-in-Ok : goal.returns-in-Ok
returns-in-Ok c =
    let k : Key = row_key c.args.row.now in
    let here = c.in-Ok.ensures.position (λ (id : List ℕ). key_cmp (key_in c.args.kind id) k) (always_returns_same _ _ _ (λ a r f called. (search rules, search rules))) in
    sym (has_at c.args.kind c.args.ids.now k _ c.requires c.in-Ok.ensures.bound here)

pub returns-in-Err : goal.returns-in-Err
returns-in-Err c =
    let k : Key = row_key c.args.row.now in
    let parted = c.in-Err.ensures.position (λ (id : List ℕ). key_cmp (key_in c.args.kind id) k) (always_returns_same _ _ _ (λ a r f called. (search rules, search rules))) (searchable (key_in c.args.kind) c.args.ids.now k c.requires) in
    sym (ap is_some (look_up-gap (key_in c.args.kind) c.args.ids.now k _ parted.0 parted.1))
