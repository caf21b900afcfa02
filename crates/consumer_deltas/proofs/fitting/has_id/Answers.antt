use Rattle.std.proofs.Common.{◌≡◌, ◌<◌, rules, sym, ap, get_or, length, ℕ, List, [], ◌∷◌, true, arith}
use Rattle.std.specs.Prelude.{is_some}
use Rattle.std.proofs.lemmas.Fn.{always_returns_same}
use Rattle.std.specs.declared.cmp.Ordering.TheVariants.{Equal}
use Rattle.roster_types.specs.Keys.{Ascends, Key, key_cmp, look_up, row_key}
use Rattle.roster_types.specs.Records.{Record}
use Rattle.version_core.specs.Spans.{key_in}
use Rattle.version_core.proofs.Places.{look_up-at, look_up-gap, searchable}
use Rattle.consumer_deltas.proofs.fitting.has_id.Goals as goal

-- the row at a place has the key
has_at : (rows : List Record) (k : Key) (i : ℕ) → Ascends row_key rows → i < length rows → ((d : Record) → key_cmp (row_key (get_or rows i d)) k ≡ Equal) → is_some (look_up row_key k rows) ≡ true
has_at [] k i up lt here = absurd (omega arith)
has_at (row ∷ rows) k i up lt here = ap is_some (look_up-at row_key (row ∷ rows) k i row up lt (here row))

pub returns-in-Ok : goal.returns-in-Ok
returns-in-Ok c =
    let k : Key = key_in c.args.kind c.args.id.now in
    let here = c.in-Ok.ensures.position (λ (row : Record). key_cmp (row_key row) k) (always_returns_same _ _ _ (λ a r f called. (search rules, search rules))) in
    sym (has_at c.args.rows.now k _ c.requires c.in-Ok.ensures.bound here)

pub returns-in-Err : goal.returns-in-Err
returns-in-Err c =
    let k : Key = key_in c.args.kind c.args.id.now in
    let parted = c.in-Err.ensures.position (λ (row : Record). key_cmp (row_key row) k) (always_returns_same _ _ _ (λ a r f called. (search rules, search rules))) (searchable row_key c.args.rows.now k c.requires) in
    sym (ap is_some (look_up-gap row_key c.args.rows.now k _ parted.0 parted.1))
