use Rattle.std.proofs.Common.{sym, ◌∙◌}
use Rattle.item_maps.specs.Edits.{entry_of}
use Rattle.copy_format.proofs.OutReading.{out_read, out_whole}
use Rattle.copy_format.proofs.read_outs.out_of.Goals as goal

pub returns-in-Some-2-clause-found : goal.returns-in-Some-2-clause-found
returns-in-Some-2-clause-found c entry is same =
    let p = c.in-Some-parts_of in
    let write = c.in-Some-2.write in
    let parts = rw c.in-Some-2.is at c.in_ok-write.ensures in
    let told = c.tested.ensures in
    out_read (entry_of c.args.item.now) c.in-Some.number p.parts.delete p.parts.kind p.parts.id.now p.parts.text.now p.parts.settled.now write (sym c.as_slice.ensures ∙ c.in-Some.ensures) (sym c.as_slice-2.ensures ∙ p.ensures.parts) parts
    c.tested.result entry p.ensures.id told.number told.write told.settled told.fits told.low told.can is same

pub returns-in-Some-2-clause-whole : goal.returns-in-Some-2-clause-whole
returns-in-Some-2-clause-whole c =
    let p = c.in-Some-parts_of in
    let write = c.in-Some-2.write in
    let parts = rw c.in-Some-2.is at c.in_ok-write.ensures in
    let told = c.tested.ensures in
    out_whole (entry_of c.args.item.now) c.in-Some.number p.parts.delete p.parts.kind p.parts.id.now p.parts.text.now p.parts.settled.now write (sym c.as_slice.ensures ∙ c.in-Some.ensures) (sym c.as_slice-2.ensures ∙ p.ensures.parts) parts
    c.tested.result told.number told.write told.settled
