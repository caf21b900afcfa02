use Rattle.std.proofs.Common.{◌≡◌, drop, map}
use Rattle.outside_ports.specs.Files.{file_at, stored_of}
use Rattle.outside_ports.proofs.mem_folder.find.Given as goal

abbrev pub invariant-loop-file : goal.invariant-loop-file
invariant-loop-file l =
    file_at (map stored_of l.files) l.dir l.name ≡ file_at (map stored_of (drop l.file-index l.files)) l.dir l.name
