-- A signed number as the difference of two naturals, its upper and its lower part, of which one is 0. Each operation's law is an equation of parts that `omega` reads, so a linear fact about ℤ is one `omega` with the laws of the operations in it listed.
use mathlib.Core.Path.{◌≡◌, refl, ap}
use mathlib.Core.Bool.{Bool, true, false, not, cond}
use Prim.Native.Nat.{ℕ, zero, suc, ◌+◌, ◌-◌, ◌*◌, ◌^◌, ◌≤◌, ◌<◌}
use native.Mathlib.Nat.{div-mul-le_self, lt-div-mul-add}
use native.Mathlib.Omega.{arith}
use lib.Dec.{T, ltb, ltb→lt, nltb→le, le→leb, leb→le}
use lib.IntN.{ℤ, pos, negsuc, neg_ℤ, nat_abs, sub_ℕ, ◌+ℤ◌, ◌-ℤ◌, ◌*ℤ◌}
use lib.Signed.{◌≤ℤ◌, ◌<ℤ◌, le_z_yes, shr_z}
use mir.Syntax.{Width}
use mir.Val.{SFits, hbits}

abbrev pub up : ℤ → ℕ
up (pos n) = n
up (negsuc n) = 0

abbrev pub dn : ℤ → ℕ
dn (pos n) = 0
dn (negsuc n) = suc n

-- one part is 0, so that a bound on their difference is one on either
pub up_le : (a : ℤ) (k : ℕ) → up a ≤ k + dn a → up a ≤ k
up_le (pos n) k h = omega arith
up_le (negsuc n) k h = omega arith

pub dn_le : (a : ℤ) (k : ℕ) → dn a ≤ k + up a → dn a ≤ k
dn_le (pos n) k h = omega arith
dn_le (negsuc n) k h = omega arith

-- ---- equality and order
pub same : (a b : ℤ) → up a + dn b ≡ up b + dn a → a ≡ b
same (pos a) (pos b) e = ap pos (omega arith)
same (pos a) (negsuc b) e = absurd (omega arith)
same (negsuc a) (pos b) e = absurd (omega arith)
same (negsuc a) (negsuc b) e = ap negsuc (omega arith)

pub below : (a b : ℤ) → up a + dn b ≤ up b + dn a → a ≤ℤ b
below (pos a) (pos b) h = le_z_yes (le→leb a b (omega arith))
below (pos a) (negsuc b) h = absurd (omega arith)
below (negsuc a) (pos b) h = le_z_yes tt
below (negsuc a) (negsuc b) h = le_z_yes (le→leb b a (omega arith))

pub below→ : (a b : ℤ) → a ≤ℤ b → up a + dn b ≤ up b + dn a
below→ (pos a) (pos b) h = omega (arith, leb→le a b h.le)
below→ (pos a) (negsuc b) h = absurd h.le
below→ (negsuc a) (pos b) h = omega arith
below→ (negsuc a) (negsuc b) h = omega (arith, leb→le b a h.le)

pub less→ : (a b : ℤ) → a <ℤ b → up a + dn b < up b + dn a
less→ (pos a) (pos b) h = omega (arith, ltb→lt a b h.lt)
less→ (pos a) (negsuc b) h = absurd h.lt
less→ (negsuc a) (pos b) h = omega arith
less→ (negsuc a) (negsuc b) h = omega (arith, ltb→lt b a h.lt)

-- ---- the operations
by_test : (c : Bool) (x y : ℤ) (P : ℤ → Type 0) → (T c → P x) → (T (not c) → P y) → P (cond c x y)
by_test true x y P f g = f tt
by_test false x y P f g = g tt

-- a - b of two naturals
pub diff : (a b : ℕ) → up (sub_ℕ a b) + b ≡ dn (sub_ℕ a b) + a
diff a b = by_test (ltb a b) (negsuc (b - suc a)) (pos (a - b)) (λ z. up z + b ≡ dn z + a) (λ t. lo a b (ltb→lt a b t)) (λ t. hi a b (nltb→le a b t))
  where
    lo : (a b : ℕ) → a < b → 0 + b ≡ suc (b - suc a) + a
    lo a b h = omega arith

    hi : (a b : ℕ) → b ≤ a → a - b + b ≡ 0 + a
    hi a b h = omega arith

pub sum : (a b : ℤ) → up (a +ℤ b) + (dn a + dn b) ≡ dn (a +ℤ b) + (up a + up b)
sum (pos a) (pos b) = omega arith
sum (pos a) (negsuc b) = omega (arith, diff a (suc b))
sum (negsuc a) (pos b) = omega (arith, diff b (suc a))
sum (negsuc a) (negsuc b) = omega arith

pub up_neg : (a : ℤ) → up (neg_ℤ a) ≡ dn a
up_neg (pos zero) = refl
up_neg (pos (suc n)) = refl
up_neg (negsuc n) = refl

pub dn_neg : (a : ℤ) → dn (neg_ℤ a) ≡ up a
dn_neg (pos zero) = refl
dn_neg (pos (suc n)) = refl
dn_neg (negsuc n) = refl

pub difference : (a b : ℤ) → up (a -ℤ b) + (dn a + up b) ≡ dn (a -ℤ b) + (up a + dn b)
difference a b = omega (arith, sum a (neg_ℤ b), up_neg b, dn_neg b)

pub product : (a b : ℤ) → up (a *ℤ b) + (up a * dn b + dn a * up b) ≡ dn (a *ℤ b) + (up a * up b + dn a * dn b)
product (pos a) (pos b) = omega arith
product (pos a) (negsuc b) = omega (arith, up_neg (pos (a * suc b)), dn_neg (pos (a * suc b)))
product (negsuc a) (pos b) = omega (arith, up_neg (pos (suc a * b)), dn_neg (pos (suc a * b)))
product (negsuc a) (negsuc b) = omega arith

-- ---- the magnitude
pub abs : (a : ℤ) → nat_abs a ≡ up a + dn a
abs (pos n) = omega arith
abs (negsuc n) = omega arith

pub abs_le : (a : ℤ) (b : ℕ) → up a ≤ b + dn a → dn a ≤ b + up a → nat_abs a ≤ b
abs_le (pos n) b h k = omega arith
abs_le (negsuc n) b h k = omega arith

pub abs_twice : (a : ℤ) (b : ℕ) → 2 * up a ≤ b + 2 * dn a → 2 * dn a ≤ b + 2 * up a → 2 * nat_abs a ≤ b
abs_twice (pos n) b h k = omega arith
abs_twice (negsuc n) b h k = omega arith

pub no_size : (a : ℤ) → nat_abs a ≤ 0 → a ≡ pos 0
no_size a h = same a (pos 0) (omega (arith, abs a))

pub abs_neg : (x : ℤ) → nat_abs (neg_ℤ x) ≡ nat_abs x
abs_neg x = omega (arith, abs (neg_ℤ x), abs x, up_neg x, dn_neg x)

pub abs_product : (a b : ℤ) → nat_abs (a *ℤ b) ≡ nat_abs a * nat_abs b
abs_product (pos a) (pos b) = refl
abs_product (pos a) (negsuc b) = abs_neg (pos (a * suc b))
abs_product (negsuc a) (pos b) = abs_neg (pos (suc a * b))
abs_product (negsuc a) (negsuc b) = refl

pub abs_sum : (a b : ℤ) → nat_abs (a +ℤ b) ≤ nat_abs a + nat_abs b
abs_sum a b = abs_le (a +ℤ b) (nat_abs a + nat_abs b) (omega (arith, sum a b, abs a, abs b)) (omega (arith, sum a b, abs a, abs b))

-- ---- division rounded down, `shr_z z m`
pub record Floor (z : ℤ) (m : ℕ) (s : ℤ) : Type 0 where
  pub floor : m * up s + dn z ≤ up z + m * dn s
  pub roof : up z + m * dn s < m * up s + dn z + m

pub floored : (z : ℤ) (m : ℕ) → 0 < m → Floor z m (shr_z z m)
floored (pos a) m h = record { floor = omega (arith, div-mul-le_self a m); roof = omega (arith, lt-div-mul-add {a = a} {b = m} h) }
floored (negsuc a) m h = record { floor = omega (arith, lt-div-mul-add {a = a} {b = m} h); roof = omega (arith, div-mul-le_self a m) }

-- ---- the range of a width
pub fits : (w : Width) (a : ℤ) → up a < 2 ^ hbits w + dn a → dn a ≤ 2 ^ hbits w + up a → SFits w a
fits w (pos n) h k = record { sfits = omega arith }
fits w (negsuc n) h k = record { sfits = omega arith }

pub fits_abs : (w : Width) (a : ℤ) → nat_abs a < 2 ^ hbits w → SFits w a
fits_abs w (pos n) h = record { sfits = h }
fits_abs w (negsuc n) h = record { sfits = omega arith }
