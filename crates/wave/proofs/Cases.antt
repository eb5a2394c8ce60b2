-- Document 01, P4, and the sine at the eighths' edges, by computation on the definitions.
use mathlib.Core.Path.{◌≡◌, refl}
use mathlib.Core.List.{List, [], ◌∷◌, map}
use Prim.Native.Nat.{ℕ, ◌+◌, ◌-◌, ◌*◌, ◌^◌}
use lib.IntN.{ℤ, pos, neg_ℤ}
use Rattle.wave.specs.Wave.{folded, part, signed, eighths, angle, square, step, steps, eighth_sine, eighth_cosine, sin}

-- "P4 sine at 0, 2^30, 2^31, 3*2^30: 0, 2^30, 0, -2^30."
pub p4 : map sin (0 ∷ 2 ^ 30 ∷ 2 ^ 31 ∷ 3 * 2 ^ 30 ∷ []) ≡ pos 0 ∷ pos (2 ^ 30) ∷ pos 0 ∷ neg_ℤ (pos (2 ^ 30)) ∷ []
unfolding sin eighths signed part folded eighth_sine eighth_cosine steps step square angle
p4 = refl

-- the edge of an eighth, and one unit to either side
abbrev beside : ℕ → List ℤ
beside e = map sin ((e * 2 ^ 29 - 1) ∷ e * 2 ^ 29 ∷ (e * 2 ^ 29 + 1) ∷ [])

edges : map beside (1 ∷ 2 ∷ 3 ∷ 4 ∷ 5 ∷ 6 ∷ 7 ∷ [])
    ≡ (pos 759250124 ∷ pos 759250125 ∷ pos 759250126 ∷ [])
    ∷ (pos (2 ^ 30) ∷ pos (2 ^ 30) ∷ pos (2 ^ 30) ∷ [])
    ∷ (pos 759250126 ∷ pos 759250125 ∷ pos 759250124 ∷ [])
    ∷ (pos 2 ∷ pos 0 ∷ neg_ℤ (pos 2) ∷ [])
    ∷ (neg_ℤ (pos 759250124) ∷ neg_ℤ (pos 759250125) ∷ neg_ℤ (pos 759250126) ∷ [])
    ∷ (neg_ℤ (pos (2 ^ 30)) ∷ neg_ℤ (pos (2 ^ 30)) ∷ neg_ℤ (pos (2 ^ 30)) ∷ [])
    ∷ (neg_ℤ (pos 759250126) ∷ neg_ℤ (pos 759250125) ∷ neg_ℤ (pos 759250124) ∷ [])
    ∷ []
unfolding sin eighths signed part folded eighth_sine eighth_cosine steps step square angle
edges = refl

-- the turn's ends
ends : map sin (0 ∷ 1 ∷ (2 ^ 32 - 1) ∷ []) ≡ pos 0 ∷ pos 2 ∷ neg_ℤ (pos 2) ∷ []
unfolding sin eighths signed part folded eighth_sine eighth_cosine steps step square angle
ends = refl
