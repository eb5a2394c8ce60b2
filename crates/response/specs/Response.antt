-- Document 01, "Step one": dC and dS times 10^15.
use Rattle.std.specs.Prelude.{[], ◌∷◌, ◌^◌, Float}
use Rattle.doubles.specs.declared.Complex.{Complex}
use Rattle.doubles.specs.Doubles.{◌*·◌, ◌+·◌, ◌-·◌, number}
use Rattle.constants.specs.declared.Loves.{Loves}
use Rattle.constants.specs.declared.Loves3.{Loves3}
use Rattle.constants.specs.declared.PerTerm.{PerTerm}
use Rattle.response.specs.declared.Changes.{Changes}

-- "Multiply by 10^15"
abbrev pub counted : Float → Float
counted x = x *· number (10 ^ 15)

-- "dC = kR*P + kI*Q; dS = kR*Q - kI*P."
abbrev pub d_c : Complex → Complex → Float
d_c k x = counted (k.re *· x.re +· k.im *· x.im)

abbrev pub d_s : Complex → Complex → Float
d_s k x = counted (k.re *· x.im -· k.im *· x.re)

-- "Degree 4, m = 0..2: the same from degree 2's P and Q with k+ real: dC = k+*P, dS = k+*Q."
abbrev pub d_c4 : Float → Complex → Float
d_c4 plus x = counted (plus *· x.re)

abbrev pub d_s4 : Float → Complex → Float
d_s4 plus x = counted (plus *· x.im)

-- "For m = 0 only C is used."
abbrev pub unused : Float
unused = number 0

-- in the field's order: 20, 21, 22, 30, 31, 32, 33, 40, 41, 42
unfoldable pub changes : Loves → Loves3 → PerTerm Complex → Changes
changes k k3 x =
    record {
      c =
          d_c k.k20 x.t20 ∷ d_c k.k21 x.t21 ∷ d_c k.k22 x.t22
          ∷ d_c k3.k30 x.t30 ∷ d_c k3.k31 x.t31 ∷ d_c k3.k32 x.t32 ∷ d_c k3.k33 x.t33
          ∷ d_c4 k.plus0 x.t20 ∷ d_c4 k.plus1 x.t21 ∷ d_c4 k.plus2 x.t22 ∷ [];
      s =
          unused ∷ d_s k.k21 x.t21 ∷ d_s k.k22 x.t22
          ∷ unused ∷ d_s k3.k31 x.t31 ∷ d_s k3.k32 x.t32 ∷ d_s k3.k33 x.t33
          ∷ unused ∷ d_s4 k.plus1 x.t21 ∷ d_s4 k.plus2 x.t22 ∷ [];
    }
