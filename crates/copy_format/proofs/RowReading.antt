-- Rows of a kind, with one more behind them.
use Rattle.std.proofs.Common.{◌≡◌, ◌++◌, ◌∷◌, [], List, None, Option, Some, ℕ, refl, true}
use Rattle.std.proofs.lemmas.Bool.{and_from, and_parts}
use Rattle.std.proofs.lemmas.List.Elements.{All-append, All-cons, All-nil}
use Rattle.keeper_memory.specs.copy.Lists.{IsList, ascends, last_from}
use Rattle.roster_types.specs.Keys.{is_after}
use Rattle.roster_types.specs.Records.{Record}
use Rattle.roster_values.specs.declared.kind.Kind.{Kind}

ascends-push : (last : Option (List ℕ)) (rows : List Record) (row : Record) → ascends last rows ≡ true → is_after (last_from last rows) row.id ≡ true → ascends last (rows ++ row ∷ []) ≡ true
ascends-push last [] row up behind = and_from (is_after last row.id) true behind refl
ascends-push last (x ∷ rows) row up behind =
    let parts = and_parts (is_after last x.id) (ascends (Some x.id) rows) up in
    and_from (is_after last x.id) (ascends (Some x.id) (rows ++ row ∷ [])) parts.0 (ascends-push (Some x.id) rows row parts.1 behind)

pub list_push : (kind : Kind) (rows : List Record) (row : Record) → IsList kind rows → row.kind ≡ kind → is_after (last_from None rows) row.id ≡ true → IsList kind (rows ++ row ∷ [])
list_push kind rows row is same behind = record {
  kinds = All-append (λ (r : Record). r.kind ≡ kind) rows (row ∷ []) is.kinds (All-cons (λ (r : Record). r.kind ≡ kind) row [] same (All-nil (λ (r : Record). r.kind ≡ kind)));
  ascend = ascends-push None rows row is.ascend behind;
}
