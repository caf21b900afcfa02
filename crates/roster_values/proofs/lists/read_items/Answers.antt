use Rattle.std.proofs.Common.{rules, Some, None, lit<}
use Rattle.std.proofs.lemmas.Str.Pattern.{split_once_first}
use Rattle.roster_values.specs.Lists.{item_of, items_of}
use Rattle.roster_values.proofs.ListSteps.{first_item, last_item, part_cut, part_last}
use Rattle.roster_values.proofs.lists.read_items.Goals as goal
use Rattle.roster_texts.specs.Signs.{comma}

pub loop-item-preserved : goal.loop-item-preserved
loop-item-preserved c =
    let cut = split_once_first comma c.loop-item.rest.now (Some (c.in-Some.item, c.in-Some.later)) c.in-Some.ensures.cases (lit< tt) in
    record {
      text = search rules;
      same = part_cut items_of item_of first_item (items_of c.args.text.now) c.loop-item.items c.push_item.new.items c.loop-item.rest.now c.in-Some.item.now c.in-Some.later.now
          c.loop-item.invariant.same cut.0 cut.1 cut.2 c.in_ok-push_item.ensures;
    }

pub returns : goal.returns
returns c =
    let whole = split_once_first comma c.loop-item.rest.now None c.in_default.ensures.cases (lit< tt) in
    part_last items_of item_of last_item (items_of c.args.text.now) c.loop-item.items c.push_item-2.new.items c.loop-item.rest.now c.loop-item.invariant.same whole c.in_ok-push_item-2.ensures
