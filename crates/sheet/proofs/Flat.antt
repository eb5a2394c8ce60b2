-- Counted tests of rows of one length, taken one after another.
use mathlib.Core.Path.{◌≡◌, refl}
use mathlib.Core.Bool.{Bool, true, false, ◌&&◌}
use Prim.Native.Nat.{ℕ, zero, suc, ◌+◌, ◌*◌}
use native.Mathlib.Nat.{add-zero, add-suc, mul-zero, mul-suc}
use Rattle.whole.specs.Sum.{all_to}

and_true : (a : Bool) → a ≡ (a && true)
and_true true = refl
and_true false = refl

pub and_assoc : (a b c : Bool) → (a && b && c) ≡ (a && (b && c))
and_assoc true b c = refl
and_assoc false b c = refl

all_append : (f : ℕ → Bool) (a b : ℕ) → all_to f (a + b) ≡ (all_to f a && all_to (λ i. f (a + i)) b)
unfolding all_to
all_append f a zero = rw add-zero (and_true (all_to f a))
all_append f a (suc b) = rw (add-suc a b, all_append f a b) (and_assoc (all_to f a) (all_to (λ i. f (a + i)) b) (f (a + b)))

-- n rows of w, as one run of w * n
pub all_rows : (w : ℕ) (f : ℕ → Bool) (n : ℕ) → all_to f (w * n) ≡ all_to (λ k. all_to (λ q. f (w * k + q)) w) n
unfolding all_to
all_rows w f zero = rw mul-zero
all_rows w f (suc n) = rw (mul-suc w n, all_append f (w * n) w, all_rows w f n)
