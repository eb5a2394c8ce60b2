-- What the writer of five entries asks of its callers.
use Rattle.std.specs.Prelude.{true, List, ◌≡◌, ◌<◌, ℤ, length}
use Rattle.bands.specs.declared.Corrections.{Corrections}
use Rattle.bands.specs.Inner.{Small}
use Rattle.field.specs.Field.{every_in_range}

-- two lists in range that have degree two, and corrections that no entry in range overflows with
pub record FiveReady (c s : List ℤ) (d : Corrections) : Type 0 where
  pub c-room : 5 < length c
  pub s-room : 5 < length s
  pub c_range : every_in_range c ≡ true
  pub s_range : every_in_range s ≡ true
  pub small : Small d
