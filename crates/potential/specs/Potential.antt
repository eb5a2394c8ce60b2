-- Document 01, "Step one": the terms P and Q of each degree and order, every operation rounded once.
use Rattle.std.specs.Prelude.{ℕ, Float}
use Rattle.doubles.specs.declared.Complex.{Complex}
use Rattle.doubles.specs.Doubles.{◌*·◌, ◌/·◌, ◌+·◌, ◌-·◌, decimal, number}
use Rattle.powers.specs.Powers.{E, F}
use Rattle.constants.specs.declared.PerTerm.{PerTerm}
use Rattle.constants.specs.Norms.{norms}
use Rattle.bodies.specs.declared.Direction.{Direction}

-- a degree n and an order m
pub data Term : Type 0 where
  t20 t21 t22 t30 t31 t32 t33 : Term

abbrev pub order : Term → ℕ
order t20 = 0
order t21 = 1
order t22 = 2
order t30 = 0
order t31 = 1
order t32 = 2
order t33 = 3

-- what goes with degree 2, and with degree 3
abbrev pub by_degree : Float → Float → Term → Float
by_degree two three t20 = two
by_degree two three t21 = two
by_degree two three t22 = two
by_degree two three t30 = three
by_degree two three t31 = three
by_degree two three t32 = three
by_degree two three t33 = three

-- "q = R/r, R = 6378136.3; q3 = (q*q)*q; q4 = q3*q."
abbrev pub q : Float → Float
q r = decimal 63781363 10 /· r

abbrev pub q3 : Float → Float
q3 r = q r *· q r *· q r

abbrev pub q4 : Float → Float
q4 r = q3 r *· q r

-- "W = ratio*q3 for degree 2, ratio*q4 for degree 3."
abbrev pub W : Float → Float → Term → Float
W ratio r t = by_degree (ratio *· q3 r) (ratio *· q4 r) t

-- "With w2 = w*w: L20 = (3*w2 - 1)/2, L21 = 3*w, L22 = 3, L30 = ((5*w2 - 3)*w)/2, L31 = (15*w2 - 3)/2, L32 = 15*w, L33 = 15."
abbrev pub L : Float → Term → Float
L w t20 = (number 3 *· (w *· w) -· number 1) /· number 2
L w t21 = number 3 *· w
L w t22 = number 3
L w t30 = (number 5 *· (w *· w) -· number 3) *· w /· number 2
L w t31 = (number 15 *· (w *· w) -· number 3) /· number 2
L w t32 = number 15 *· w
L w t33 = number 15

abbrev pub N : Term → Float
N t20 = norms.t20
N t21 = norms.t21
N t22 = norms.t22
N t30 = norms.t30
N t31 = norms.t31
N t32 = norms.t32
N t33 = norms.t33

-- "t = (N*L)*W; P = t*E(m), Q = t*F(m)."
abbrev pub strength : Float → Float → Direction → Term → Float
strength norm ratio d t = norm *· L d.w t *· W ratio d.r t

abbrev pub times : Float → Float → Float → Complex
times t e f = record { re = t *· e; im = t *· f }

abbrev pub term : Float → Direction → Term → Complex
term ratio d t = times (strength (N t) ratio d t) (E (order t) d.u d.v) (F (order t) d.u d.v)

unfoldable pub terms : Float → Direction → PerTerm Complex
terms ratio d =
    record {
      t20 = term ratio d t20;
      t21 = term ratio d t21;
      t22 = term ratio d t22;
      t30 = term ratio d t30;
      t31 = term ratio d t31;
      t32 = term ratio d t32;
      t33 = term ratio d t33;
    }

-- "Add Sun to Moon; divide P and Q by 5 (degree 2) or 7 (degree 3)."
abbrev pub divided : Complex → Complex → Float → Complex
divided moon sun by = record { re = (moon.re +· sun.re) /· by; im = (moon.im +· sun.im) /· by }

abbrev pub share : Term → Complex → Complex → Complex
share t moon sun = divided moon sun (by_degree (number 5) (number 7) t)

unfoldable pub shared : PerTerm Complex → PerTerm Complex → PerTerm Complex
shared moon sun =
    record {
      t20 = share t20 moon.t20 sun.t20;
      t21 = share t21 moon.t21 sun.t21;
      t22 = share t22 moon.t22 sun.t22;
      t30 = share t30 moon.t30 sun.t30;
      t31 = share t31 moon.t31 sun.t31;
      t32 = share t32 moon.t32 sun.t32;
      t33 = share t33 moon.t33 sun.t33;
    }
