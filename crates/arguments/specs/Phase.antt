-- Document 01, "Phase, sine and cosine": the phase of a line. Document 02, T-08: arguments moved.
use Rattle.std.specs.Prelude.{List, [], ◌∷◌, get_or, ℕ, ◌^◌, ℤ, pos, ◌+ℤ◌, ◌-ℤ◌, ◌*ℤ◌, unsigned_abs}
use Rattle.std.specs.Int.Signed.{shr_z}
use Rattle.arguments.specs.declared.Argument.{Argument}
use Rattle.arguments.specs.declared.Argument.TheVariants.{Tau, S, H, P, Np, Ps}
use Rattle.arguments.specs.declared.Multipliers.{Multipliers}
use Rattle.arguments.specs.declared.Phases.{Phases}
use Rattle.choices.specs.Numbers.{chosen}
use Rattle.refusals.specs.Told.{Told}

-- six multipliers as a list, in the order of the arguments
abbrev pub listed : Multipliers → List ℤ
listed m = m.tau ∷ m.s ∷ m.h ∷ m.p ∷ m.np ∷ m.ps ∷ []

-- and six multipliers in a list
abbrev pub unlisted : List ℤ → Multipliers
unlisted l = record {
  tau = get_or l 0 (pos 0);
  s = get_or l 1 (pos 0);
  h = get_or l 2 (pos 0);
  p = get_or l 3 (pos 0);
  np = get_or l 4 (pos 0);
  ps = get_or l 5 (pos 0);
}

-- an argument crosses from C as its place in that order
abbrev pub argument_of : ℕ → Told Argument
argument_of number = chosen (Tau ∷ S ∷ H ∷ P ∷ Np ∷ Ps ∷ []) number

-- z modulo n, for an n above 0: z less n times the floor of z / n. It is 0 .. n - 1, for z below 0 too.
unfoldable pub modulo : ℤ → ℕ → ℕ
modulo z n = unsigned_abs (z -ℤ shr_z z n *ℤ pos n)

-- "The phase of a line is the sum of multiplier times argument, kept modulo a whole turn of 2^32."
unfoldable pub phase : Multipliers → Phases → ℕ
phase m b =
    modulo
    (m.tau *ℤ pos b.tau +ℤ m.s *ℤ pos b.s +ℤ m.h *ℤ pos b.h
    +ℤ m.p *ℤ pos b.p +ℤ m.np *ℤ pos b.np +ℤ m.ps *ℤ pos b.ps)
    (2 ^ 32)

-- a line's multiplier of an argument
unfoldable pub multiplier_of : Multipliers → Argument → ℤ
multiplier_of m Tau = m.tau
multiplier_of m S = m.s
multiplier_of m H = m.h
multiplier_of m P = m.p
multiplier_of m Np = m.np
multiplier_of m Ps = m.ps

-- "by a signed 32-bit amount, wrapping"
unfoldable pub moved_by : ℕ → ℤ → ℕ
moved_by a amount = modulo (pos a +ℤ amount) (2 ^ 32)

-- "move one, given by name": the other five stay
unfoldable pub moved_phases : Phases → Argument → ℤ → Phases
moved_phases b Tau amount = record { tau = moved_by b.tau amount; s = b.s; h = b.h; p = b.p; np = b.np; ps = b.ps }
moved_phases b S amount = record { tau = b.tau; s = moved_by b.s amount; h = b.h; p = b.p; np = b.np; ps = b.ps }
moved_phases b H amount = record { tau = b.tau; s = b.s; h = moved_by b.h amount; p = b.p; np = b.np; ps = b.ps }
moved_phases b P amount = record { tau = b.tau; s = b.s; h = b.h; p = moved_by b.p amount; np = b.np; ps = b.ps }
moved_phases b Np amount = record { tau = b.tau; s = b.s; h = b.h; p = b.p; np = moved_by b.np amount; ps = b.ps }
moved_phases b Ps amount = record { tau = b.tau; s = b.s; h = b.h; p = b.p; np = b.np; ps = moved_by b.ps amount }
