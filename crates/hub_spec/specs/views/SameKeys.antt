-- When the keys of two rows are one.
use Rattle.std.specs.Prelude.{◌==◌, ◌&&◌, Bool, bytes_eq}
use Rattle.roster_types.specs.Keys.{Key}

-- both keys have the same kind and the same id
abbrev pub same_key : Key → Key → Bool
same_key a b = (a.0 == b.0) && bytes_eq a.1 b.1
