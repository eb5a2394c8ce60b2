-- Two's complement, and the size of a signed number.
use mathlib.Core.Path.{◌≡◌, refl}
use mathlib.Core.Bool.{Bool, true, false, cond}
use Prim.Native.Nat.{ℕ, ◌+◌, ◌-◌, ◌*◌, ◌%◌, ◌^◌, ◌≤◌, ◌<◌}
use native.Mathlib.Nat.{mod-eq_of_lt}
use native.Mathlib.Omega.{arith}
use borrow.Author.Tests.{ltb-true, ltb-false, lt-ltb, le-ltb}
use lib.Dec.{ltb}
use lib.IntN.{pos, nat_abs, ◌-ℤ◌}
use mir.Syntax.{Width}
use mir.Val.{hbits, bits, to_z}
use Rattle.whole.proofs.Parts.{difference, abs, abs_le, up_le}
use Rattle.words.specs.Words.{twos_complement}

module _ (half v : ℕ) (h : v < 2 * half) where
  pub complement_small : nat_abs (twos_complement half v) ≤ half
  unfolding twos_complement
  complement_small = by_test (ltb v half) refl
    where
      by_test : (t : Bool) → ltb v half ≡ t → nat_abs (cond t (pos v) (pos v -ℤ pos (2 * half))) ≤ half
      by_test true e = omega (arith, ltb-true v half e)
      by_test false e =
          let l : half ≤ v = ltb-false v half e in
          abs_le (pos v -ℤ pos (2 * half)) half (omega (arith, difference (pos v) (pos (2 * half)))) (omega (arith, difference (pos v) (pos (2 * half))))

  -- its absolute value, below half the range and from there on
  size_below : v < half → v ≡ nat_abs (twos_complement half v)
  unfolding twos_complement
  size_below l = rw (lt-ltb v half l)

  size_above : half ≤ v → 2 * half - v ≡ nat_abs (twos_complement half v)
  unfolding twos_complement
  size_above l = rw (le-ltb v half l) (omega (arith, abs (pos v -ℤ pos (2 * half)), difference (pos v) (pos (2 * half)), up_le (pos v -ℤ pos (2 * half)) 0 (omega (arith, difference (pos v) (pos (2 * half))))))

  -- with a limit added and the range kept it is below twice the limit only where its size is within the limit
  pub raised_small : (limit : ℕ) → limit ≤ half → (v + limit) % (2 * half) < 2 * limit → nat_abs (twos_complement half v) ≤ limit
  raised_small limit l r = by_test (ltb (v + limit) (2 * half)) refl
    where
      by_test : (t : Bool) → ltb (v + limit) (2 * half) ≡ t → nat_abs (twos_complement half v) ≤ limit
      by_test true e =
          let m : (v + limit) % (2 * half) ≡ v + limit = mod-eq_of_lt (ltb-true (v + limit) (2 * half) e) in
          omega (arith, size_below (omega arith))
      by_test false e =
          let above : 2 * half ≤ v + limit = ltb-false (v + limit) (2 * half) e in
          omega (arith, size_above (omega arith))

-- what the machine reads of the bits v
pub signed_is : (w : Width) (v : ℕ) → v < 2 ^ bits w → 2 ^ bits w ≡ 2 * 2 ^ hbits w → to_z w v ≡ twos_complement (2 ^ hbits w) v
unfolding twos_complement
signed_is w v h e = grind (arith, ltb-true, ltb-false)
