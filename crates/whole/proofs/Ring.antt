-- Equations of ℤ by one `omega`: an expression over integers is written once as data, and its two parts are polynomials in the variables' parts, which antt computes.
use mathlib.Core.Path.{◌≡◌, ap}
use mathlib.Core.List.{List, [], ◌∷◌}
use Prim.Native.Nat.{ℕ, zero, suc, ◌+◌, ◌*◌}
use native.Mathlib.Omega.{arith}
use lib.IntN.{ℤ, pos, neg_ℤ, ◌+ℤ◌, ◌-ℤ◌, ◌*ℤ◌}
use Rattle.whole.proofs.Parts.{up, dn, same, sum, difference, product, up_neg, dn_neg}

infixl 6 ◌⊕◌ ◌⊖◌
infixl 7 ◌⊗◌
pub data Z : Type 0 where
  ! : ℕ → Z
  # : ℤ → Z
  ◌⊕◌ : Z → Z → Z
  ◌⊖◌ : Z → Z → Z
  ◌⊗◌ : Z → Z → Z
  ⊝ : Z → Z

abbrev pub at : List ℤ → ℕ → ℤ
at [] i = pos 0
at (x ∷ xs) zero = x
at (x ∷ xs) (suc i) = at xs i

abbrev pub value : Z → List ℤ → ℤ
value (! i) ρ = at ρ i
value (# z) ρ = z
value (a ⊕ b) ρ = value a ρ +ℤ value b ρ
value (a ⊖ b) ρ = value a ρ -ℤ value b ρ
value (a ⊗ b) ρ = value a ρ *ℤ value b ρ
value (⊝ a) ρ = neg_ℤ (value a ρ)

-- the two parts, as polynomials
abbrev mutual
  pub over : Z → List ℤ → ℕ
  over (! i) ρ = up (at ρ i)
  over (# z) ρ = up z
  over (a ⊕ b) ρ = over a ρ + over b ρ
  over (a ⊖ b) ρ = over a ρ + under b ρ
  over (a ⊗ b) ρ = over a ρ * over b ρ + under a ρ * under b ρ
  over (⊝ a) ρ = under a ρ

  pub under : Z → List ℤ → ℕ
  under (! i) ρ = dn (at ρ i)
  under (# z) ρ = dn z
  under (a ⊕ b) ρ = under a ρ + under b ρ
  under (a ⊖ b) ρ = under a ρ + over b ρ
  under (a ⊗ b) ρ = over a ρ * under b ρ + under a ρ * over b ρ
  under (⊝ a) ρ = over a ρ

-- u - d of a product
through : (ux dx ox nx uy dy oy ny u d : ℕ) → ux + nx ≡ dx + ox → uy + ny ≡ dy + oy → u + (ux * dy + dx * uy) ≡ d + (ux * uy + dx * dy) → u + (ox * ny + nx * oy) ≡ d + (ox * oy + nx * ny)
through ux dx ox nx uy dy oy ny u d e f g =
    omega (arith, g, ap (λ (k : ℕ). k * uy) e, ap (λ (k : ℕ). k * dy) e, ap (λ (k : ℕ). k * ox) f, ap (λ (k : ℕ). k * nx) f)

pub sound : (e : Z) (ρ : List ℤ) → up (value e ρ) + under e ρ ≡ dn (value e ρ) + over e ρ
sound (! i) ρ = omega arith
sound (# z) ρ = omega arith
sound (a ⊕ b) ρ = omega (arith, sound a ρ, sound b ρ, sum (value a ρ) (value b ρ))
sound (a ⊖ b) ρ = omega (arith, sound a ρ, sound b ρ, difference (value a ρ) (value b ρ))
sound (a ⊗ b) ρ = through _ _ _ _ _ _ _ _ _ _ (sound a ρ) (sound b ρ) (product (value a ρ) (value b ρ))
sound (⊝ a) ρ = omega (arith, sound a ρ, up_neg (value a ρ), dn_neg (value a ρ))

pub equal : (a b : Z) (ρ : List ℤ) → over a ρ + under b ρ ≡ over b ρ + under a ρ → value a ρ ≡ value b ρ
equal a b ρ h = same (value a ρ) (value b ρ) (omega (arith, sound a ρ, sound b ρ))
