use Rattle.sqlite.proofs.Callers.{memory_is_clean}
use Rattle.item_maps.specs.Items.{no_items}
use Rattle.item_maps.specs.Edits.{after}
use Rattle.store_laws.proofs.items.read_back.Goals as goal

pub returns : goal.returns
returns c = c.range.ensures.items (after c.args.edits.now no_items) (c.in_ok-commit.ensures.ok no_items c.requires) (memory_is_clean c.range.new.self.connection)
