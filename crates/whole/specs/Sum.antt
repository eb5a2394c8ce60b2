-- Sums and tests over a counted run of terms.
use Rattle.std.specs.Prelude.{Bool, true, cond, ◌&&◌, ℕ, zero, suc, ◌+◌, ℤ, pos, nat_abs, ◌+ℤ◌}

-- f 0 + f 1 + .. + f (n - 1)
unfoldable pub sum_to : (ℕ → ℤ) → ℕ → ℤ
sum_to f zero = pos 0
sum_to f (suc n) = sum_to f n +ℤ f n

-- the absolute values of f 0 .. f (n - 1), added up
unfoldable pub weight_to : (ℕ → ℤ) → ℕ → ℕ
weight_to f zero = 0
weight_to f (suc n) = weight_to f n + nat_abs (f n)

-- f holds of each of 0 .. n - 1
unfoldable pub all_to : (ℕ → Bool) → ℕ → Bool
all_to f zero = true
all_to f (suc n) = all_to f n && f n

-- of how many of 0 .. n - 1 f holds
unfoldable pub count_to : (ℕ → Bool) → ℕ → ℕ
count_to f zero = 0
count_to f (suc n) = count_to f n + cond (f n) 1 0
