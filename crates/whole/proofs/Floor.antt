-- Division rounded down: what the floor is known by.
use mathlib.Core.Path.{◌≡◌}
use Prim.Native.Nat.{ℕ, ◌+◌, ◌*◌, ◌<◌}
use native.Mathlib.Nat.{lt_of_mul-lt-mul_left}
use native.Mathlib.Omega.{arith}
use lib.IntN.{ℤ}
use Rattle.whole.proofs.Parts.{up, dn, same, Floor}

-- only one whole number is the floor
pub only_floor : {z : ℤ} {m : ℕ} (s t : ℤ) → Floor z m s → Floor z m t → s ≡ t
only_floor {z} {m} s t S T =
    let a : m * (up s + dn t) < m * (up t + dn s + 1) = omega (arith, S.floor, S.roof, T.floor, T.roof) in
    let b : m * (up t + dn s) < m * (up s + dn t + 1) = omega (arith, S.floor, S.roof, T.floor, T.roof) in
    same s t (omega (arith, lt_of_mul-lt-mul_left m a, lt_of_mul-lt-mul_left m b))
