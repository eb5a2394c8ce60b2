-- The lines of a field's text: nine of the header, and one for each place.
use mathlib.Core.Path.{◌≡◌, refl}
use mathlib.Core.Bool.{true}
use mathlib.Core.List.{List, [], ◌∷◌, ◌++◌}
use Prim.Native.Nat.{ℕ, suc, ◌+◌, ◌-◌, ◌^◌, ◌≤◌, ◌<◌}
use native.Mathlib.Omega.{arith}
use lib.Dec.{ltb}
use lib.IntN.{ℤ, pos, nat_abs}
use lib.ListN.{length, get_or}
use lib.Signed.{lt_z}
use Rattle.choices.specs.declared.PermanentSystem.{PermanentSystem}
use Rattle.choices.specs.declared.PermanentSystem.TheVariants.{TideFree, Zero, Mean}
use Rattle.field.specs.Field.{place, every_in_range}
use Rattle.field.proofs.Entries.{entry_in_range}
use Rattle.icgem_file.specs.Header.{Word, Line}
use Rattle.icgem_names.specs.Names as names
use Rattle.icgem_names.specs.Names.{system_name}
use Rattle.icgem_words.specs.Words.{worded}
use Rattle.icgem_words.specs.Inner.{all_of}
use Rattle.icgem_write.specs.Written.{entry, title_lines, measure_lines, manner_lines, closing_line, header, coefficient, place_line, degree_lines, file_text}
use Rattle.icgem_write.proofs.Lines.{metres, order_most, signed_coefficient, entry_most}
use Rattle.text.specs.Text.{ascii, decimal, fixed_point, padded}
use Rattle.text.proofs.Decimals.{digits_most, word_most}
use Rattle.icgem_return.proofs.Bytes.{Plain, plain_given}
use Rattle.icgem_return.proofs.Decimals.{decimal_said, metres_said, coefficient_said}
use Rattle.icgem_return.proofs.Lines.{Reads, spells_one, spells_more, reads_line, reads_then, reads_joined, reads_all, gathered}

entry_reads : {keyword value : Word} → Plain keyword → Plain value → length keyword + length value < 53 → Reads (entry keyword value) ((keyword ∷ value ∷ []) ∷ [])
unfolding entry
entry_reads {keyword} {value} k v h = reads_line (spells_more (53 - length keyword) (spells_one k) v (omega arith))

-- ---- the header
abbrev equals : Word
equals = ascii "========================================="

unfoldable pub head_lines : ℕ → ℕ → ℕ → PermanentSystem → List Line
head_lines n constant radius system =
    (names.product_type ∷ names.gravity_field ∷ [])
    ∷ (names.model_name ∷ ascii "surfgimlet" ∷ [])
    ∷ (names.gravity_constant ∷ decimal constant ∷ [])
    ∷ (names.radius ∷ fixed_point 3 radius ∷ [])
    ∷ (names.max_degree ∷ decimal n ∷ [])
    ∷ (names.errors ∷ ascii "no" ∷ [])
    ∷ (names.norm ∷ names.fully_normalized ∷ [])
    ∷ (names.tide_system ∷ system_name system ∷ [])
    ∷ (names.end_of_head ∷ equals ∷ [])
    ∷ []

title_reads : Reads title_lines ((names.product_type ∷ names.gravity_field ∷ []) ∷ (names.model_name ∷ ascii "surfgimlet" ∷ []) ∷ [])
unfolding title_lines ascii all_of
title_reads =
    reads_then (entry_reads (plain_given names.product_type refl) (plain_given names.gravity_field refl) (omega arith))
    (entry_reads (plain_given names.model_name refl) (plain_given (ascii "surfgimlet") refl) (omega arith))

measure_reads : (n constant radius : ℕ) → n ≤ 60 → constant < 2 ^ 64 → radius < 2 ^ 64
    → Reads (measure_lines n constant radius)
    ((names.gravity_constant ∷ decimal constant ∷ []) ∷ (names.radius ∷ fixed_point 3 radius ∷ []) ∷ (names.max_degree ∷ decimal n ∷ []) ∷ [])
unfolding measure_lines ascii all_of
measure_reads n constant radius h k l =
    reads_then
    (reads_then (entry_reads (plain_given names.gravity_constant refl) (decimal_said constant).plain (omega (arith, word_most constant k)))
    (entry_reads (plain_given names.radius refl) (metres_said radius).plain (omega (arith, metres radius l))))
    (entry_reads (plain_given names.max_degree refl) (decimal_said n).plain (omega (arith, order_most n h)))

system_reads : (system : PermanentSystem) → Reads (entry names.tide_system (system_name system)) ((names.tide_system ∷ system_name system ∷ []) ∷ [])
unfolding system_name ascii all_of
system_reads TideFree = entry_reads (plain_given names.tide_system refl) (plain_given (ascii "tide_free") refl) (omega arith)
system_reads Zero = entry_reads (plain_given names.tide_system refl) (plain_given (ascii "zero_tide") refl) (omega arith)
system_reads Mean = entry_reads (plain_given names.tide_system refl) (plain_given (ascii "mean_tide") refl) (omega arith)

manner_reads : (system : PermanentSystem)
    → Reads (manner_lines system) ((names.errors ∷ ascii "no" ∷ []) ∷ (names.norm ∷ names.fully_normalized ∷ []) ∷ (names.tide_system ∷ system_name system ∷ []) ∷ [])
unfolding manner_lines ascii all_of
manner_reads system =
    reads_then
    (reads_then (entry_reads (plain_given names.errors refl) (plain_given (ascii "no") refl) (omega arith))
    (entry_reads (plain_given names.norm refl) (plain_given names.fully_normalized refl) (omega arith)))
    (system_reads system)

closing_reads : Reads closing_line ((names.end_of_head ∷ equals ∷ []) ∷ [])
unfolding closing_line ascii all_of padded
closing_reads = reads_line (spells_more 42 (spells_one (plain_given names.end_of_head refl)) (plain_given equals refl) (omega arith))

header_reads : (n constant radius : ℕ) (system : PermanentSystem) → n ≤ 60 → constant < 2 ^ 64 → radius < 2 ^ 64
    → Reads (header n constant radius system) (head_lines n constant radius system)
unfolding header head_lines
header_reads n constant radius system h k l = reads_then (reads_then (reads_then title_reads (measure_reads n constant radius h k l)) (manner_reads system)) closing_reads

-- ---- the places
unfoldable pub row : ℕ → ℕ → ℤ → ℤ → Line
row n m c s = names.gfc ∷ decimal n ∷ decimal m ∷ coefficient c ∷ coefficient s ∷ []

unfoldable pub rows : List ℤ → List ℤ → ℕ → List Line
rows c s n = gathered (λ m. row n m (get_or c (place n m) (pos 0)) (get_or s (place n m) (pos 0)) ∷ []) (suc n)

order_short : (n : ℕ) → n ≤ 60 → length (decimal n) < 3
order_short n h = omega (arith, digits_most 1 n (ltb n 10) refl (omega arith))

coefficient_short : (z : ℤ) → nat_abs z ≤ 2 ^ 60 → length (coefficient z) < 22
coefficient_short z h = rw (signed_coefficient z) (omega (arith, entry_most (lt_z z (pos 0)) (nat_abs z) h))

place_reads : (n m : ℕ) (c s : ℤ) → n ≤ 60 → m ≤ n → nat_abs c ≤ 2 ^ 60 → nat_abs s ≤ 2 ^ 60 → Reads (place_line n m c s) (row n m c s ∷ [])
unfolding place_line row ascii all_of
place_reads n m c s h k hc hs =
    reads_line
    (spells_more 22
    (spells_more 22
    (spells_more 3
    (spells_more 3 (spells_one (plain_given names.gfc refl)) (decimal_said n).plain (order_short n h))
    (decimal_said m).plain (order_short m (omega arith)))
    (coefficient_said c).plain (coefficient_short c hc))
    (coefficient_said s).plain (coefficient_short s hs))

module _ (n : ℕ) (c s : List ℤ) (h : n ≤ 60) (hc : every_in_range c ≡ true) (hs : every_in_range s ≡ true) where
  degree_reads : (d : ℕ) → d ≤ n → Reads (degree_lines c s d) (rows c s d)
  unfolding degree_lines rows
  degree_reads d g =
      reads_joined _ _ (suc d)
      (λ m l. let i = place d m in
      place_reads d m (get_or c i (pos 0)) (get_or s i (pos 0)) (omega arith) (omega arith) (entry_in_range c hc i) (entry_in_range s hs i))

  pub text_reads : (constant radius : ℕ) (system : PermanentSystem) → constant < 2 ^ 64 → radius < 2 ^ 64
      → worded (file_text n c s constant radius system) ≡ head_lines n constant radius system ++ gathered (rows c s) (suc n)
  unfolding file_text
  text_reads constant radius system k l =
      reads_all (reads_then (header_reads n constant radius system h k l) (reads_joined (degree_lines c s) (rows c s) (suc n) (λ d g. degree_reads d (omega arith))))
