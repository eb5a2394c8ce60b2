-- The text of a field (document 02, T-10: "Write a field back with 15 decimals"). Every line has 53 characters and a line feed.
use Rattle.std.specs.Prelude.{List, [], ◌++◌, ℕ, zero, suc, ◌-◌, ℤ, pos, negsuc, length, get_or}
use Rattle.choices.specs.declared.PermanentSystem.{PermanentSystem}
use Rattle.field.specs.Field.{place}
use Rattle.icgem_names.specs.Names as names
use Rattle.icgem_names.specs.Names.{system_name}
use Rattle.text.specs.Text.{ascii, decimal, fixed_point, padded}

-- f 0, f 1, .. f (n - 1), one after the other
unfoldable pub joined : (ℕ → List ℕ) → ℕ → List ℕ
joined f zero = []
joined f (suc n) = joined f n ++ f n

-- an entry of the header: the keyword at the line's start, the value at its end
unfoldable pub entry : List ℕ → List ℕ → List ℕ
entry keyword value = keyword ++ padded (53 - length keyword) value ++ ascii "\n"

-- what the file is; the fixed model name is the unit's
unfoldable pub title_lines : List ℕ
title_lines = entry names.product_type names.gravity_field ++ entry names.model_name (ascii "surfgimlet")

-- gravity constant in m3/s2; the radius, given in millimetres, in metres; the degree
unfoldable pub measure_lines : ℕ → ℕ → ℕ → List ℕ
measure_lines n constant radius =
    entry names.gravity_constant (decimal constant) ++ entry names.radius (fixed_point 3 radius) ++ entry names.max_degree (decimal n)

-- how the coefficients are to be taken
unfoldable pub manner_lines : PermanentSystem → List ℕ
manner_lines system = entry names.errors (ascii "no") ++ entry names.norm names.fully_normalized ++ entry names.tide_system (system_name system)

unfoldable pub closing_line : List ℕ
closing_line = names.end_of_head ++ ascii " =========================================\n"

unfoldable pub header : ℕ → ℕ → ℕ → PermanentSystem → List ℕ
header n constant radius system = title_lines ++ measure_lines n constant radius ++ manner_lines system ++ closing_line

-- a count with its 15 decimals
unfoldable pub coefficient : ℤ → List ℕ
coefficient (pos n) = fixed_point 15 n
coefficient (negsuc n) = ascii "-" ++ fixed_point 15 (suc n)

-- "gfc", degree, order, C and S, each at the end of its columns
unfoldable pub place_line : ℕ → ℕ → ℤ → ℤ → List ℕ
place_line n m c s =
    names.gfc ++ padded 3 (decimal n) ++ padded 3 (decimal m) ++ padded 22 (coefficient c) ++ padded 22 (coefficient s) ++ ascii "\n"

-- the lines of one degree, by rising order
unfoldable pub degree_lines : List ℤ → List ℤ → ℕ → List ℕ
degree_lines c s n = joined (λ m. place_line n m (get_or c (place n m) (pos 0)) (get_or s (place n m) (pos 0))) (suc n)

-- the header, and the lines of each degree from 0 to N
unfoldable pub file_text : ℕ → List ℤ → List ℤ → ℕ → ℕ → PermanentSystem → List ℕ
file_text n c s constant radius system = header n constant radius system ++ joined (degree_lines c s) (suc n)
