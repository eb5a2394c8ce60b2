-- The rule of the table of roots, at all seven.
use lib.Dec.{T}
use Rattle.std.specs.List.{list_all}
use Rattle.constants.specs.Norms.{roots, is_nearest}

pub roots_are_nearest : T (list_all is_nearest roots)
unfolding roots
roots_are_nearest = tt
