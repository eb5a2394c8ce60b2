-- Document 01, "Doodson numbers".
use Rattle.std.specs.Prelude.{Bool, ◌&&◌, cond, ℕ, ◌+◌, ◌*◌, ◌/◌, ◌%◌, ◌^◌, ℤ, pos, negsuc, nat_abs, ◌+ℤ◌, ◌-ℤ◌}
use Rattle.std.specs.Int.Signed.{le_z}
use Rattle.arguments.specs.declared.Multipliers.{Multipliers}
use Rattle.limits.specs.Limits.{is_doodson}
use Rattle.refusals.specs.Told.{Told}
use Rattle.refusals.specs.Told.Told.{accepted, refused}

-- a number's decimal digit with k digits after it
abbrev pub digit : ℕ → ℕ → ℕ
digit number k = number / 10 ^ k % 10

-- six decimal digits, leading zeros kept: n1, n2+5, n3+5, n4+5, n5+5, n6+5
unfoldable pub multipliers_in : ℕ → Multipliers
multipliers_in number = record {
  tau = pos (digit number 5);
  s = pos (digit number 4) -ℤ pos 5;
  h = pos (digit number 3) -ℤ pos 5;
  p = pos (digit number 2) -ℤ pos 5;
  np = pos (digit number 1) -ℤ pos 5;
  ps = pos (digit number 0) -ℤ pos 5;
}

-- the same in any base
abbrev pub digit_in : ℕ → ℕ → ℕ → ℕ
digit_in base number k = number / base ^ k % base

unfoldable pub multipliers_written : ℕ → ℕ → Multipliers
multipliers_written base number = record {
  tau = pos (digit_in base number 5);
  s = pos (digit_in base number 4) -ℤ pos 5;
  h = pos (digit_in base number 3) -ℤ pos 5;
  p = pos (digit_in base number 2) -ℤ pos 5;
  np = pos (digit_in base number 1) -ℤ pos 5;
  ps = pos (digit_in base number 0) -ℤ pos 5;
}

unfoldable pub number_of : Multipliers → ℕ
number_of n =
    nat_abs n.tau * 10 ^ 5
    + nat_abs (n.s +ℤ pos 5) * 10 ^ 4
    + nat_abs (n.h +ℤ pos 5) * 10 ^ 3
    + nat_abs (n.p +ℤ pos 5) * 10 ^ 2
    + nat_abs (n.np +ℤ pos 5) * 10 ^ 1
    + nat_abs (n.ps +ℤ pos 5) * 10 ^ 0

-- n1 is 0..9, the others -5..4
abbrev pub first : ℤ → Bool
first n1 = le_z (pos 0) n1 && le_z n1 (pos 9)

abbrev pub other : ℤ → Bool
other n = le_z (negsuc 4) n && le_z n (pos 4)

unfoldable pub writable : Multipliers → Bool
writable n = first n.tau && other n.s && other n.h && other n.p && other n.np && other n.ps

-- the two calls: 10 where the number is above 999,999, or cannot write the multipliers
unfoldable pub read_doodson : ℕ → Told Multipliers
read_doodson number = cond (is_doodson number) (accepted (multipliers_in number)) (refused 10)

unfoldable pub write_doodson : Multipliers → Told ℕ
write_doodson n = cond (writable n) (accepted (number_of n)) (refused 10)
