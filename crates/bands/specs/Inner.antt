-- What the inner functions ask of their callers and answer, so that no sum leaves 64 bits: 64 lines of at most 2^24 counts have room, their waves
-- being any signed 32-bit numbers; and corrections that no entry in range overflows with.
use Rattle.std.specs.Prelude.{ℕ, ◌^◌, ◌≤◌, ℤ, nat_abs}
use Rattle.bands.specs.declared.Corrections.{Corrections}
use Rattle.bands.specs.declared.Line.{Line}
use Rattle.bands.specs.declared.Sums.{Sums}
use Rattle.bands.specs.Bands.{Coefficient, C20, C21, S21, C22, S22, correction_of}

pub record Room (sum a cosine b sine : ℤ) : Type 0 where
  pub sum-small : nat_abs sum ≤ 2 ^ 62
  pub a_small : nat_abs a ≤ 2 ^ 24
  pub cosine-small : nat_abs cosine ≤ 2 ^ 31
  pub b_small : nat_abs b ≤ 2 ^ 24
  pub sine-small : nat_abs sine ≤ 2 ^ 31

-- both amplitudes of a line are at most m counts
pub record Light (m : ℕ) (line : Line) : Type 0 where
  pub ip : nat_abs line.ip ≤ m
  pub op : nat_abs line.op ≤ m

unfoldable pub sums_of : (Coefficient → ℤ) → Sums
sums_of sum = record { c20 = sum C20; c21 = sum C21; s21 = sum S21; c22 = sum C22; s22 = sum S22 }

pub record Bounded (sums : Sums) : Type 0 where
  pub c20 : nat_abs sums.c20 ≤ 2 ^ 62
  pub c21 : nat_abs sums.c21 ≤ 2 ^ 62
  pub s21 : nat_abs sums.s21 ≤ 2 ^ 62
  pub c22 : nat_abs sums.c22 ≤ 2 ^ 62
  pub s22 : nat_abs sums.s22 ≤ 2 ^ 62

pub record LineRoom (sums : Sums) (line : Line) (cosine sine : ℤ) : Type 0 where
  pub sums_small : Bounded sums
  pub line_small : Light (2 ^ 24) line
  pub cosine-small : nat_abs cosine ≤ 2 ^ 31
  pub sine-small : nat_abs sine ≤ 2 ^ 31

unfoldable pub rounded_of : Sums → Corrections
rounded_of sums = record {
  c20 = correction_of sums.c20;
  c21 = correction_of sums.c21;
  s21 = correction_of sums.s21;
  c22 = correction_of sums.c22;
  s22 = correction_of sums.s22;
}

pub record Small (d : Corrections) : Type 0 where
  pub c20 : nat_abs d.c20 ≤ 2 ^ 33
  pub c21 : nat_abs d.c21 ≤ 2 ^ 33
  pub s21 : nat_abs d.s21 ≤ 2 ^ 33
  pub c22 : nat_abs d.c22 ≤ 2 ^ 33
  pub s22 : nat_abs d.s22 ≤ 2 ^ 33
