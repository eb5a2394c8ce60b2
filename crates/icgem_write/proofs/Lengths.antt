-- How long a field's text is: 54 bytes a line, nine lines of the header and one for each place.
use mathlib.Core.Path.{◌≡◌, refl}
use mathlib.Core.List.{List, ◌++◌}
use Prim.Native.Nat.{ℕ, zero, suc, ◌+◌, ◌-◌, ◌*◌, ◌^◌, ◌≤◌, ◌<◌}
use native.Mathlib.Numerals.{add-one}
use native.Mathlib.Omega.{arith}
use lib.IntN.{ℤ, pos, nat_abs}
use lib.ListN.{length, get_or, length-append}
use Rattle.choices.specs.declared.PermanentSystem.{PermanentSystem}
use Rattle.choices.specs.declared.PermanentSystem.TheVariants.{TideFree, Zero, Mean}
use Rattle.field.specs.Field.{size, place}
use Rattle.field.proofs.Entries.{entry_in_range}
use Rattle.icgem_names.specs.Names as names
use Rattle.icgem_names.specs.Names.{system_name}
use Rattle.text.specs.Text.{ascii, decimal, fixed_point, padded}
use Rattle.text.proofs.Columns.{padded_length}
use Rattle.text.proofs.Decimals.{word_most}
use Rattle.icgem_write.specs.Inner.{Has}
use Rattle.icgem_write.specs.Written.{joined, entry, title_lines, measure_lines, manner_lines, closing_line, header, coefficient, place_line, degree_lines, file_text}
use Rattle.icgem_write.proofs.Lines.{metres, order_most, coefficient_most, below, below_none, below_next, below_size}

entry_length : (keyword value : List ℕ) → length keyword + length value ≤ 53 → length (entry keyword value) ≡ 54
unfolding entry ascii
entry_length keyword value h =
    let p = padded (53 - length keyword) value in
    omega (arith, length-append (keyword ++ p) (ascii "\n"), length-append keyword p, padded_length (53 - length keyword) value (omega arith))

pub name_length : (system : PermanentSystem) → length (system_name system) ≡ 9
unfolding system_name ascii
name_length TideFree = refl
name_length Zero = refl
name_length Mean = refl

title_length : length title_lines ≡ 54 * 2
unfolding title_lines ascii
title_length =
    let a = entry names.product_type names.gravity_field in
    let b = entry names.model_name (ascii "surfgimlet") in
    omega (arith, length-append a b, entry_length names.product_type names.gravity_field (omega arith), entry_length names.model_name (ascii "surfgimlet") (omega arith))

measure_length : (n constant radius : ℕ) → n ≤ 60 → constant < 2 ^ 64 → radius < 2 ^ 64 → length (measure_lines n constant radius) ≡ 54 * 3
unfolding measure_lines ascii
measure_length n constant radius h k l =
    let a = entry names.gravity_constant (decimal constant) in
    let b = entry names.radius (fixed_point 3 radius) in
    let d = entry names.max_degree (decimal n) in
    let a-length = entry_length names.gravity_constant (decimal constant) (omega (arith, word_most constant k)) in
    let b-length = entry_length names.radius (fixed_point 3 radius) (omega (arith, metres radius l)) in
    let d-length = entry_length names.max_degree (decimal n) (omega (arith, order_most n h)) in
    omega (arith, length-append (a ++ b) d, length-append a b, a-length, b-length, d-length)

manner_length : (system : PermanentSystem) → length (manner_lines system) ≡ 54 * 3
unfolding manner_lines ascii
manner_length system =
    let a = entry names.errors (ascii "no") in
    let b = entry names.norm names.fully_normalized in
    let d = entry names.tide_system (system_name system) in
    let a-length = entry_length names.errors (ascii "no") (omega arith) in
    let b-length = entry_length names.norm names.fully_normalized (omega arith) in
    let d-length = entry_length names.tide_system (system_name system) (omega (arith, name_length system)) in
    omega (arith, length-append (a ++ b) d, length-append a b, a-length, b-length, d-length)

closing_length : length closing_line ≡ 54
unfolding closing_line ascii
closing_length = refl

header_length : (n constant radius : ℕ) (system : PermanentSystem) → n ≤ 60 → constant < 2 ^ 64 → radius < 2 ^ 64 → length (header n constant radius system) ≡ 54 * 9
unfolding header
header_length n constant radius system h k l =
    let a = title_lines in
    let b = measure_lines n constant radius in
    let d = manner_lines system in
    omega
    (arith, length-append (a ++ b ++ d) closing_line, length-append (a ++ b) d, length-append a b, title_length, measure_length n constant radius h k l, manner_length system, closing_length)

place_length : (n m : ℕ) (c s : ℤ) → n ≤ 60 → m ≤ n → nat_abs c ≤ 2 ^ 60 → nat_abs s ≤ 2 ^ 60 → length (place_line n m c s) ≡ 54
unfolding place_line ascii
place_length n m c s h k hc hs =
    let d = padded 3 (decimal n) in
    let o = padded 3 (decimal m) in
    let x = padded 22 (coefficient c) in
    let y = padded 22 (coefficient s) in
    omega (
      arith,
      length-append (names.gfc ++ d ++ o ++ x ++ y) (ascii "\n"),
      length-append (names.gfc ++ d ++ o ++ x) y,
      length-append (names.gfc ++ d ++ o) x,
      length-append (names.gfc ++ d) o,
      length-append names.gfc d,
      padded_length 3 (decimal n) (order_most n h),
      padded_length 3 (decimal m) (order_most m (omega arith)),
      padded_length 22 (coefficient c) (coefficient_most c hc),
      padded_length 22 (coefficient s) (coefficient_most s hs),
    )

-- the lengths of a run, one after the other
joined_length : (f : ℕ → List ℕ) (total : ℕ → ℕ) → total 0 ≡ 0 → (n : ℕ) → ((k : ℕ) → k < n → total k + length (f k) ≡ total (k + 1)) → length (joined f n) ≡ total n
unfolding joined
joined_length f total z zero each = rw z refl
joined_length f total z (suc n) each =
    rw (← add-one n) (omega (arith, length-append (joined f n) (f n), joined_length f total z n (λ k h. each k (omega arith)), each n (omega arith)))

module _ (n : ℕ) (c s : List ℤ) (h : n ≤ 60) (hc : Has n c) (hs : Has n s) where
  degree_length : (d : ℕ) → d ≤ n → length (degree_lines c s d) ≡ 54 * (d + 1)
  unfolding degree_lines
  degree_length d g =
      rw (← add-one d)
      (joined_length _ (λ k. 54 * k) (omega arith) (d + 1)
      (λ m l. omega
      (arith, place_length d m (get_or c (place d m) (pos 0)) (get_or s (place d m) (pos 0)) (omega arith) (omega arith) (entry_in_range c hc.range (place d m)) (entry_in_range s hs.range (place d m)))))

  -- "at most 128 KiB at N = 60": 102,600 bytes
  pub text_length : (constant radius : ℕ) (system : PermanentSystem) → constant < 2 ^ 64 → radius < 2 ^ 64 → length (file_text n c s constant radius system) ≡ 54 * (9 + size n)
  unfolding file_text
  text_length constant radius system k l =
      let lines = joined_length (degree_lines c s) (λ d. 54 * below d) (rw below_none refl) (n + 1) (λ d g. omega (arith, degree_length d (omega arith), below_next d)) in
      rw (← add-one n) (omega (arith, length-append (header n constant radius system) (joined (degree_lines c s) (n + 1)), header_length n constant radius system h k l, lines, below_size n))
