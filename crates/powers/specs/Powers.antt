-- Document 01, "Step one": E and F.
use Rattle.std.specs.Prelude.{List, [], ◌∷◌, ℕ, zero, suc, Float}
use Rattle.std.specs.Float.{nan}
use Rattle.doubles.specs.declared.Complex.{Complex}
use Rattle.doubles.specs.Doubles.{◌*·◌, ◌+·◌, ◌-·◌, number}

-- "E0 = 1, F0 = 0; E(m) = u*E(m-1) - v*F(m-1); F(m) = u*F(m-1) + v*E(m-1). Each falls back on both of order m-1."
unfoldable mutual
  pub E : ℕ → Float → Float → Float
  E zero u v = number 1
  E (suc m) u v = u *· E m u v -· v *· F m u v

  pub F : ℕ → Float → Float → Float
  F zero u v = number 0
  F (suc m) u v = u *· F m u v +· v *· E m u v

-- both of order m
abbrev pub power : ℕ → Float → Float → Complex
power m u v = record { re = E m u v; im = F m u v }

-- the orders 0 to 3
unfoldable pub powers : Float → Float → List Complex
powers u v = power 0 u v ∷ power 1 u v ∷ power 2 u v ∷ power 3 u v ∷ []

-- what stands past a list's end
abbrev pub none : Complex
none = record { re = nan; im = nan }

-- both of an order, from both of the order before
abbrev pub next : Complex → Float → Float → Complex
next p u v = record { re = u *· p.re -· v *· p.im; im = u *· p.im +· v *· p.re }
