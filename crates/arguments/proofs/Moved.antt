-- Document 02, T-08, of phases moved: by a and then by b is by a + b, modulo a turn; by nothing is not at all; and a line that does not have the
-- argument keeps its phase.
use Rattle.std.proofs.Common.{◌≡◌, ℕ, ◌+◌, ◌%◌, ◌^◌, ◌<◌, [], ◌∷◌, ℤ, pos, ◌+ℤ◌, ◌*ℤ◌, sym, refl, ap, ◌∙◌, arith}
use Rattle.whole.proofs.Ring.{equal, !, #, ◌⊕◌, ◌⊗◌}
use Rattle.arguments.specs.declared.Argument.{Argument}
use Rattle.arguments.specs.declared.Argument.TheVariants.{Tau, S, H, P, Np, Ps}
use Rattle.arguments.specs.declared.Multipliers.{Multipliers}
use Rattle.arguments.specs.declared.Phases.{Phases}
use Rattle.arguments.specs.Phase.{modulo, phase, multiplier_of, moved_by, moved_phases}
use Rattle.arguments.proofs.Modulo.{modulo_sum, modulo_below, modulo_lt}

abbrev turn : ℕ
turn = 2 ^ 32

reduced : (y z : ℤ) → (modulo y turn + modulo z turn) % turn ≡ modulo (y +ℤ z) turn
reduced = modulo_sum turn (omega arith)

below : (a : ℕ) → a < turn → a ≡ modulo (pos a) turn
below = modulo_below turn (omega arith)

-- ---- one phase
by_twice : (p : ℕ) (a b d : ℤ) → modulo d turn ≡ modulo (a +ℤ b) turn → moved_by (moved_by p a) b ≡ moved_by p d
unfolding moved_by
by_twice p a b d same =
    sym (reduced (pos (modulo (pos p +ℤ a) turn)) b)
    ∙ ap (λ (x : ℕ). (x + modulo b turn) % turn) (sym (below (modulo (pos p +ℤ a) turn) (modulo_lt turn (omega arith) (pos p +ℤ a))))
    ∙ reduced (pos p +ℤ a) b
    ∙ ap (λ (x : ℤ). modulo x turn) (equal (! 0 ⊕ ! 1 ⊕ ! 2) (! 0 ⊕ (! 1 ⊕ ! 2)) (pos p ∷ a ∷ b ∷ []) (omega arith))
    ∙ sym (reduced (pos p) (a +ℤ b))
    ∙ ap (λ (x : ℕ). (modulo (pos p) turn + x) % turn) (sym same)
    ∙ reduced (pos p) d

by_nothing : (p : ℕ) → p < turn → moved_by p (pos 0) ≡ p
unfolding moved_by
by_nothing p h = ap (λ (x : ℤ). modulo x turn) (equal (! 0 ⊕ ! 1) (! 0) (pos p ∷ pos 0 ∷ []) (omega arith)) ∙ sym (below p h)

-- ---- one of six
pub moved_twice : (p : Phases) (k : Argument) (a b d : ℤ) → modulo d turn ≡ modulo (a +ℤ b) turn → moved_phases (moved_phases p k a) k b ≡ moved_phases p k d
unfolding moved_phases
moved_twice p Tau a b d same = rw (by_twice p.tau a b d same) refl
moved_twice p S a b d same = rw (by_twice p.s a b d same) refl
moved_twice p H a b d same = rw (by_twice p.h a b d same) refl
moved_twice p P a b d same = rw (by_twice p.p a b d same) refl
moved_twice p Np a b d same = rw (by_twice p.np a b d same) refl
moved_twice p Ps a b d same = rw (by_twice p.ps a b d same) refl

-- each phase below a turn, as those of the machine are
pub record InATurn (phases : Phases) : Type 0 where
  pub tau : phases.tau < turn
  pub s : phases.s < turn
  pub h : phases.h < turn
  pub p : phases.p < turn
  pub np : phases.np < turn
  pub ps : phases.ps < turn

pub moved_by_nothing : (p : Phases) (k : Argument) → InATurn p → moved_phases p k (pos 0) ≡ p
unfolding moved_phases
moved_by_nothing p Tau h = rw (by_nothing p.tau h.tau) refl
moved_by_nothing p S h = rw (by_nothing p.s h.s) refl
moved_by_nothing p H h = rw (by_nothing p.h h.h) refl
moved_by_nothing p P h = rw (by_nothing p.p h.p) refl
moved_by_nothing p Np h = rw (by_nothing p.np h.np) refl
moved_by_nothing p Ps h = rw (by_nothing p.ps h.ps) refl

-- ---- the phase of a line that does not have the argument
no_product : (k : ℤ) (x y : ℕ) → k ≡ pos 0 → k *ℤ pos x ≡ k *ℤ pos y
no_product k x y none = rw none (nothing x ∙ sym (nothing y))
  where
    nothing : (x : ℕ) → pos 0 *ℤ pos x ≡ pos 0
    nothing x = equal (# (pos 0) ⊗ ! 0) (# (pos 0)) (pos x ∷ []) (omega arith)

pub phase_unmoved : (m : Multipliers) (p : Phases) (k : Argument) (amount : ℤ) → multiplier_of m k ≡ pos 0 → phase m (moved_phases p k amount) ≡ phase m p
unfolding phase moved_phases multiplier_of
phase_unmoved m p Tau amount none = rw (no_product m.tau (moved_by p.tau amount) p.tau none) refl
phase_unmoved m p S amount none = rw (no_product m.s (moved_by p.s amount) p.s none) refl
phase_unmoved m p H amount none = rw (no_product m.h (moved_by p.h amount) p.h none) refl
phase_unmoved m p P amount none = rw (no_product m.p (moved_by p.p amount) p.p none) refl
phase_unmoved m p Np amount none = rw (no_product m.np (moved_by p.np amount) p.np none) refl
phase_unmoved m p Ps amount none = rw (no_product m.ps (moved_by p.ps amount) p.ps none) refl
