-- 0, 1, and the rest.
use borrow.Author.Tests.{ne_eqb}
use Rattle.std.proofs.Common.{arith}
use mathlib.Core.Path.{◌≡◌, refl, sym, ap, ◌∙◌}
use Prim.Native.Nat.{ℕ}
use lib.IntN.{ℤ, pos, negsuc}
use mir.Syntax.{w32}
use mir.Val.{SFits, to_z, of_z}
use mir.Facts.{to_z-of_z}
use Rattle.bands.specs.declared.Band.TheVariants.{Semidiurnal}
use Rattle.own.specs.Own.{band_of}
use Rattle.own.proofs.band_of.Goals as goal

-- a number known by its bits
told : (z : ℤ) (n : ℕ) → SFits w32 z → of_z w32 z ≡ n → z ≡ to_z w32 n
told z n f e = sym (to_z-of_z f) ∙ ap (to_z w32) e

rest : (z : ℤ) → (of_z w32 z ≡ 0 → ⊥) → (of_z w32 z ≡ 1 → ⊥) → band_of z ≡ Semidiurnal
unfolding band_of
rest (pos n) a b = rw (ne_eqb n 0 (λ e. a (ap (λ (k : ℕ). of_z w32 (pos k)) e)), ne_eqb n 1 (λ e. b (ap (λ (k : ℕ). of_z w32 (pos k)) e))) refl
rest (negsuc n) a b = refl

pub returns-in-0 : goal.returns-in-0
unfolding band_of
returns-in-0 c = let e : of_z w32 c.args.tau ≡ 0 = omega arith in rw (told c.args.tau 0 c.ranges.tau e) refl

pub returns-in-1 : goal.returns-in-1
unfolding band_of
returns-in-1 c = let e : of_z w32 c.args.tau ≡ 1 = omega arith in rw (told c.args.tau 1 c.ranges.tau e) refl

pub returns-in_default : goal.returns-in_default
returns-in_default c = sym (rest c.args.tau (λ e. omega arith) (λ e. omega arith))
