-- A number from 10^k to below 10^(k + 1) has k + 1 digits, and 0 has one.
use mathlib.Core.Path.{◌≡◌, ap}
use Prim.Native.Nat.{ℕ, zero, suc, max}
use native.Mathlib.Nat.{pow-suc}
use native.Mathlib.Omega.{arith}
use lib.ListN.{length}
use Rattle.text.specs.Text.{decimal}
use Rattle.text.proofs.Decimals.{one_digit, digits_are}
use Rattle.text.proofs.digits_in.Goals as goal

-- 0 has the digits of 1, as many as they are
no_more : (n : ℕ) → length (decimal (max n 1)) ≡ length (decimal n)
no_more zero = rw (one_digit 0 (omega arith)) (ap length (one_digit 1 (omega arith)))
no_more (suc n) = ap (λ (k : ℕ). length (decimal k)) (omega arith)

pub returns : goal.returns
returns c =
    let k = c.ilog10.result in
    let m = c.max.result in
    let digits = digits_are k m c.ilog10.ensures.power_le (omega (arith, c.ilog10.ensures.next_power_gt, pow-suc 10 k)) in
    rw (← no_more c.args.n, ← c.max.ensures) (omega (arith, digits))
