use Rattle.std.proofs.Common.{◌≡◌, ◌∷◌, [], map}
use Rattle.item_maps.specs.Edits.{entry_of}
use Rattle.copy_format.proofs.StageReading.{one_item, token_found}
use Rattle.copy_format.proofs.read_token.token_of.Goals as goal

pub returns-in-Some : goal.returns-in-Some
returns-in-Some c o told =
    let one : map entry_of c.args.items.now ≡ entry_of c.item-item.result ∷ [] = one_item c.args.items.now c.item-item.result c.in-len1.len_at_least c.in-len1.len_below c.item-item.is in
    token_found o c.args.items.now c.item-item.result c.in-Some.token told one (rw c.in-Some.is at c.in_ok-token-in-len1.ensures)
