use Rattle.std.proofs.Common.{rules, ◌≡◌, ◌++◌, arith, string_bytes}
use Rattle.std.proofs.lemmas.List.{drop_all}
use Rattle.std.proofs.lemmas.Result.{err_from_is_err_and}
use Rattle.serde_json.specs.Written.{comma_if}
use Rattle.row_json.specs.CellTexts.{list_text}
use Rattle.roster_base.proofs.ListSteps.{next_item}
use Rattle.row_json.proofs.ItemSteps.{joins-end, joins-on, joins-start, reads-fail}
use Rattle.row_json.proofs.cell_texts.joined.Goals as goal

pub loop-item-init : goal.loop-item-init
unfolding list_text
loop-item-init c = joins-start _ _ c.args.items.now c.new-text.ensures.bytes

pub loop-item-preserved : goal.loop-item-preserved
loop-item-preserved c =
    let pushed : string_bytes c.push_part.new.text ≡ string_bytes c.loop-item.text ++ (comma_if c.loop-item.is_later ++ string_bytes c.in_ok-part.part) = search rules in
    joins-on c.item-item.result _ _ c.loop-item.invariant (next_item c.args.items.now c.loop-item.item-index c.item-item.result c.item-item.result c.loop-item-test.true c.item-item.is)
    c.in_ok-part.ensures pushed

pub returns : goal.returns
returns c = joins-end c.loop-item.invariant (drop_all c.loop-item.item-index c.args.items.now (omega arith))

pub returns-in_err-part : goal.returns-in_err-part
returns-in_err-part c =
    let p = err_from_is_err_and c.from_residual.result c.from_residual.ensures.1 in
    rw (p.1, p.2)
    (reads-fail c.item-item.result c.in_err-part.field-0.0 c.loop-item.invariant.reads (next_item c.args.items.now c.loop-item.item-index c.item-item.result c.item-item.result c.loop-item-test.true c.item-item.is)
    c.in_err-part.ensures)
