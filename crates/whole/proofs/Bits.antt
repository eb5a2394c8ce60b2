-- The bits of two numbers together are no less than either.
use Prim.Native.Nat.{ℕ, ◌<◌}
use native.Mathlib.Omega.{arith}
use lib.Bits.{bit_or, or_add_and, and_le_l, and_le_r}

pub below_or : {n : ℕ} (a b : ℕ) → bit_or a b < n → (a < n) × (b < n)
below_or a b h = (omega (arith, or_add_and a b, and_le_r a b), omega (arith, or_add_and a b, and_le_l a b))
