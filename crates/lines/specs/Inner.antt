-- The table of the printed lines as the code has it, a Doodson number with each decimal digit written as a hexadecimal one.
use Rattle.std.specs.Prelude.{ℕ, ◌+◌, ◌*◌, ◌/◌, ◌%◌, ◌^◌, ℤ}
use Rattle.doodson.specs.Doodson.{digit}
use Rattle.lines.specs.Lines.{Printed}

-- a digit of four bits, with k digits after it
abbrev four_bits : ℕ → ℕ → ℕ
four_bits n k = n / 16 ^ k % 16

unfoldable pub digits_of : ℕ → ℕ
digits_of n =
    digit n 5 * 16 ^ 5 + digit n 4 * 16 ^ 4 + digit n 3 * 16 ^ 3 + digit n 2 * 16 ^ 2 + digit n 1 * 16 + digit n 0

unfoldable pub number_in : ℕ → ℕ
number_in n =
    four_bits n 5 * 10 ^ 5 + four_bits n 4 * 10 ^ 4 + four_bits n 3 * 10 ^ 3 + four_bits n 2 * 10 ^ 2 + four_bits n 1 * 10 + n % 16

-- a line as the code has it
abbrev pub row_of : Printed → ℕ × ℤ × ℤ
row_of l = (digits_of l.number, l.first, l.second)
