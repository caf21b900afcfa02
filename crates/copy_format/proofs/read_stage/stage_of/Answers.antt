use Rattle.std.proofs.Common.{◌≡◌, ◌∷◌, [], map}
use Rattle.item_maps.specs.Edits.{entry_of}
use Rattle.copy_format.proofs.StageReading.{one_item, stage_found}
use Rattle.copy_format.proofs.read_stage.stage_of.Goals as goal

pub returns-in-Some-clause-found : goal.returns-in-Some-clause-found
returns-in-Some-clause-found c o is fit told =
    let one : map entry_of c.args.items.now ≡ entry_of c.item-item.result ∷ [] = one_item c.args.items.now c.item-item.result c.in-len1.len_at_least c.in-len1.len_below c.item-item.is in
    let read = c.in_ok-stage-in-len1.ensures in
    stage_found o c.args.items.now c.item-item.result c.in-Some.stage is fit told one (rw c.in-Some.is at read.whole) (rw c.in-Some.is at read.fits)
