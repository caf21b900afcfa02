use Rattle.std.proofs.Common.{◌≡◌, ◌++◌, map, take}
use Rattle.item_maps.specs.Edits.{entry_of}
use Rattle.span_format.specs.Edits.{hidden_names}
use Rattle.span_format.proofs.fold.push_hidden.Given as goal

abbrev pub invariant-loop-name : goal.invariant-loop-name
invariant-loop-name l = l.edits.items ≡ l.fn.edits.items ++ hidden_names l.version (map entry_of (take l.name-index l.names))
