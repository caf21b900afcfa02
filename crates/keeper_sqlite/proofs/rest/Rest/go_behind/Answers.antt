use Rattle.std.proofs.Common.{◌++◌, [], ◌∷◌, map, ap, sym, ◌∙◌, arith}
use Rattle.item_maps.specs.Edits.{entry_of}
use Rattle.item_maps.specs.Items.{listed}
use Rattle.keeper_sqlite.proofs.RestLemmas.{last_piece, piece_and_rest}
use Rattle.keeper_sqlite.proofs.rest.Rest.go_behind.Goals as goal
use Rattle.hub_format.specs.Pieces.{labels_end}
use Rattle.keeper_sqlite.specs.declared.rest.TheConstants.{PIECE}

pub returns-then-items-lt-PIECE : goal.returns-then-items-lt-PIECE
returns-then-items-lt-PIECE c m is = last_piece PIECE c.args.items.now (listed c.args.self.now.area c.args.self.now.from labels_end m) is (omega arith)

pub returns : goal.returns
returns c m is =
    let self = c.args.self.now in
    let last = c.in-Some.last.now in
    rw c.requires
    (ap (λ from. map entry_of c.args.items.now ++ listed self.area from labels_end m) (c.in_ok-self.ensures ∙ ap (λ label. label ++ 0 ∷ []) c.as_slice.ensures)
    ∙ piece_and_rest m self.area PIECE self.from labels_end c.args.items.now last is (sym c.in-Some.ensures.value))
