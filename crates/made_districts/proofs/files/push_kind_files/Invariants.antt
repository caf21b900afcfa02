use Rattle.std.proofs.Common.{◌≡◌, ◌++◌, map, take}
use Rattle.made_districts.specs.Districts.{kind_file}
use Rattle.outside_ports.specs.Files.{stored_of}
use Rattle.made_districts.proofs.files.push_kind_files.Given as goal

abbrev pub invariant-loop-kind : goal.invariant-loop-kind
invariant-loop-kind l = map stored_of l.files.items ≡ map stored_of l.fn.files.items ++ map (kind_file l.count) (take l.kind-index l.kinds)
