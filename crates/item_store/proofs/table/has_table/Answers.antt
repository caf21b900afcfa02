use Rattle.std.proofs.Common.{◌≡◌, [], ap, ◌∙◌}
use Rattle.sqlite.specs.Held.{state}
use Rattle.sqlite.specs.Schema.{Schema}
use Rattle.item_store.proofs.States.{table_stands}
use Rattle.item_store.proofs.table.has_table.Goals as goal

pub returns : goal.returns
returns g c some m h =
    table_stands (state g.S.Store c.args.conn.now) m c.is_empty.result (λ none.
    let empty : c.as_slice.result.now ≡ [] = c.as_slice.ensures ∙ ap (λ (schema : Schema). schema.tables) c.schema.ensures.value ∙ none in
    rw empty at c.is_empty.ensures) some h
