-- How a server ends: by the first of its jobs that isn't done.
use Rattle.std.specs.Prelude.{List, [], ◌∷◌}
use Rattle.hub_server.specs.declared.ending.Ending.{Ending}
use Rattle.hub_server.specs.declared.ending.Ending.TheVariants as ending

-- the first ending but Done, if there is one
abbrev pub or_else : Ending → Ending → Ending
or_else ending.Done rest = rest
or_else e rest = e

abbrev pub first_of : List Ending → Ending
first_of [] = ending.Done
first_of (e ∷ es) = or_else e (first_of es)
