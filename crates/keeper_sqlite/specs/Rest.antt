-- The items of an area that are still to be read.
use Rattle.std.specs.Prelude.{ℕ, List, [], if◌then◌else◌}
use Rattle.item_maps.specs.Items.{Items, listed}
use Rattle.hub_format.specs.Pieces.{labels_end}
use Rattle.keeper_sqlite.specs.declared.rest.Rest.{Rest}

abbrev pub rest_of : Rest → Items → List (List ℕ × List ℕ)
rest_of rest m = if rest.is_over then [] else listed rest.area rest.from labels_end m
