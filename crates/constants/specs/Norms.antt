-- Document 01, "Step one": the factors N.
use Rattle.std.specs.Prelude.{Bool, ◌&&◌, List, [], ◌∷◌, map, ℕ, ◌+◌, ◌-◌, ◌*◌, ◌^◌, leb, ltb, Float, get_or}
use Rattle.std.specs.Float.{nan}
use Rattle.doubles.specs.Doubles.{decimal}
use Rattle.constants.specs.declared.PerTerm.{PerTerm}

-- N squared is num / over, and N is digits / 2^places
pub record Root : Type 0 where
  pub num : ℕ
  pub over : ℕ
  pub digits : ℕ
  pub places : ℕ

-- "N squared: 20: 5; 21: 5/3; 22: 5/12; 30: 7; 31: 7/6; 32: 7/60; 33: 7/360."
unfoldable pub roots : List Root
roots =
    record { num = 5; over = 1; digits = 5035177455121576; places = 51 } ∷
    record { num = 5; over = 3; digits = 5814122118263953; places = 52 } ∷
    record { num = 5; over = 12; digits = 5814122118263953; places = 53 } ∷
    record { num = 7; over = 1; digits = 5957702309312746; places = 51 } ∷
    record { num = 7; over = 6; digits = 4864443565739075; places = 52 } ∷
    record { num = 7; over = 60; digits = 6153088486834595; places = 54 } ∷
    record { num = 7; over = 360; digits = 5023975711646203; places = 55 } ∷ []

-- "Each N is the f64 nearest the root": it has 53 binary digits, and half a unit of the last one less, and half a unit more, lie on the two sides of
-- the root, as their squares show
abbrev pub is_nearest : Root → Bool
is_nearest r =
    leb (2 ^ 52) r.digits
    && ltb r.digits (2 ^ 53)
    && ltb ((2 * r.digits - 1) ^ 2 * r.over) (r.num * 4 ^ (r.places + 1))
    && ltb (r.num * 4 ^ (r.places + 1)) ((2 * r.digits + 1) ^ 2 * r.over)

-- the factor in the table's row i
abbrev norm : ℕ → Float
norm i = get_or (map (λ r. decimal r.digits (2 ^ r.places)) roots) i nan

unfoldable pub norms : PerTerm Float
norms = record { t20 = norm 0; t21 = norm 1; t22 = norm 2; t30 = norm 3; t31 = norm 4; t32 = norm 5; t33 = norm 6 }
