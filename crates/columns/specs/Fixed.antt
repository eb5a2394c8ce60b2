-- A number with decimals, as it is put.
use Rattle.std.specs.Prelude.{List, ◌++◌, ℕ}
use Rattle.text.specs.Text.{fixed_point, sign}
use Rattle.columns.specs.declared.Fixed.{Fixed}

unfoldable pub fixed : Fixed → List ℕ
fixed x = sign x.negative ++ fixed_point x.decimals x.size
