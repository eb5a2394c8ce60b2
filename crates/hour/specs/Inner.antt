-- Which lines the inner functions work out afresh: all, or those that have an argument.
use Rattle.std.specs.Prelude.{Bool, true, Option, Some, None}
use Rattle.arguments.specs.declared.Argument.{Argument}
use Rattle.arguments.specs.declared.Multipliers.{Multipliers}
use Rattle.hour.specs.Hour.{has_argument}

abbrev pub is_renewed : Option Argument → Multipliers → Bool
is_renewed None m = true
is_renewed (Some argument) m = has_argument argument m
