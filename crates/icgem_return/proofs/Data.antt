-- The lines of the places, one after the other: formed, none repeated, in range, and the lists that they fill.
use mathlib.Core.Path.{◌≡◌, refl, sym, ap, ◌∙◌}
use mathlib.Core.Bool.{true, false, ◌&&◌}
use mathlib.Core.List.{List, [], ◌∷◌, ◌++◌, append-nil}
use Prim.Native.Nat.{ℕ, zero, suc, ◌≤◌, ◌<◌}
use native.Mathlib.Numerals.{add-one}
use native.Mathlib.Omega.{arith}
use borrow.Author.Tests.{eqb-true, le-leb}
use lib.Dec.{eqb}
use lib.IntN.{ℤ, pos}
use lib.ListN.{length, get_or, take, drop, set, replicate, length-set, length-replicate, drop_of_length-le}
use lib.Seq.{take_all, drop-cons, take-suc-set, append_snoc}
use Rattle.field.specs.Field.{size, place, every_in_range}
use Rattle.field.proofs.Entries.{entry_in_range}
use Rattle.icgem_decimal.proofs.Tests.{not_so}
use Rattle.icgem_file.specs.Header.{Line}
use Rattle.icgem_file.specs.Data.{degree_in, order_in, c_in, s_in, line_formed, data_formed, same_place, named_in, repeated, all_in_range, filled}
use Rattle.icgem_words.specs.Words.{same_word}
use Rattle.icgem_write.proofs.Lines.{below_size}
use Rattle.text.specs.Text.{ascii, decimal}
use Rattle.whole.proofs.Tests.{and_left, and_right}
use Rattle.icgem_return.proofs.Decimals.{coefficient_said}
use Rattle.icgem_return.proofs.Lines.{gathered}
use Rattle.icgem_return.proofs.Numbers.{decimal_writes, decimal_some, some_whole}
use Rattle.icgem_return.proofs.Texts.{row, rows}

-- the places follow one another, by order and by degree
order_next : (d m : ℕ) → place d (suc m) ≡ suc (place d m)
unfolding place
order_next d m = omega arith

degree_next : (d : ℕ) → place d (suc d) ≡ place (suc d) 0
unfolding place
degree_next d = omega arith

module _ (n : ℕ) (c s : List ℤ) where
  -- the line of the place i, of a degree up to n
  record At (i : ℕ) (line : Line) : Type 0 where
    at : place (degree_in line) (order_in line) ≡ i
    c_is : c_in line ≡ get_or c i (pos 0)
    s_is : s_in line ≡ get_or s i (pos 0)
    formed : line_formed n line ≡ true

  -- the lines of the places from i up to j
  data Stand : ℕ → ℕ → List Line → Type 0 where
    none : {i : ℕ} → Stand i i []
    next : {i j : ℕ} {line : Line} {others : List Line} → At i line → Stand (suc i) j others → Stand i j (line ∷ others)

  stand_then : {i j k : ℕ} {a b : List Line} → Stand i j a → Stand j k b → Stand i k (a ++ b)
  stand_then none q = q
  stand_then (next p r) q = next p (stand_then r q)

  stand_gathered : (at : ℕ → ℕ) (f : ℕ → List Line) (k : ℕ) → ((m : ℕ) → m < k → Stand (at m) (at (suc m)) (f m)) → Stand (at 0) (at k) (gathered f k)
  unfolding gathered
  stand_gathered at f zero each = none
  stand_gathered at f (suc k) each = stand_then (stand_gathered at f k (λ m h. each m (omega arith))) (each k (omega arith))

  -- ---- every line of the text
  row_at : (d m : ℕ) → d ≤ n → m ≤ d → At (place d m) (row d m (get_or c (place d m) (pos 0)) (get_or s (place d m) (pos 0)))
  unfolding row line_formed same_word ascii
  row_at d m h k =
      let x = coefficient_said (get_or c (place d m) (pos 0)) in
      let y = coefficient_said (get_or s (place d m) (pos 0)) in
      let D = decimal_writes d in
      let M = decimal_writes m in
      record {
        at = rw (D.value, M.value);
        c_is = x.units;
        s_is = y.units;
        formed = rw (
          some_whole (decimal d) D.digits (decimal_some d),
          some_whole (decimal m) M.digits (decimal_some m),
          x.taken,
          y.taken,
          D.value,
          M.value,
          le-leb m d k,
          le-leb d n h,
        );
      }

  degree_stands : (d : ℕ) → d ≤ n → Stand (place d 0) (place (suc d) 0) (rows c s d)
  unfolding rows
  degree_stands d h =
      rw (← degree_next d)
      (stand_gathered (place d) _ (suc d) (λ m l. next (row_at d m h (omega arith)) (rw (order_next d m) none)))

  all_stand : Stand 0 (size n) (gathered (rows c s) (suc n))
  unfolding place
  all_stand = rw (← below_size n, add-one n) (stand_gathered (λ d. place d 0) (rows c s) (suc n) (λ d l. degree_stands d (omega arith)))

  -- ---- what such lines give
  stand_formed : {i j : ℕ} {lines : List Line} → Stand i j lines → data_formed n lines ≡ true
  unfolding data_formed
  stand_formed none = refl
  stand_formed (next p r) = rw p.formed (stand_formed r)

  stand_in_range : every_in_range c ≡ true → every_in_range s ≡ true → {i j : ℕ} {lines : List Line} → Stand i j lines → all_in_range lines ≡ true
  unfolding all_in_range
  stand_in_range hc hs none = refl
  stand_in_range hc hs (next {i = i} p r) =
      rw (p.c_is, p.s_is, le-leb _ _ (entry_in_range c hc i), le-leb _ _ (entry_in_range s hs i)) (stand_in_range hc hs r)

  -- two lines of one place stand at one number
  other_place : {i k : ℕ} {line other : Line} → At i line → At k other → i < k → same_place line other ≡ false
  unfolding same_place
  other_place {i} {k} {line} {other} p q h =
      not_so (eqb (degree_in line) (degree_in other) && eqb (order_in line) (order_in other))
      (λ e. let d = eqb-true (degree_in line) (degree_in other) (and_left (eqb (degree_in line) (degree_in other)) (eqb (order_in line) (order_in other)) e) in
      let m = eqb-true (order_in line) (order_in other) (and_right (eqb (degree_in line) (degree_in other)) (eqb (order_in line) (order_in other)) e) in
      let z : i ≡ k = sym p.at ∙ rw (d, m) q.at in
      omega arith)

  later : {h i j : ℕ} {line : Line} {others : List Line} → At h line → h < i → Stand i j others → named_in line others ≡ false
  unfolding named_in
  later p l none = refl
  later p l (next q r) = rw (other_place p q l) (later p (omega arith) r)

  stand_once : {i j : ℕ} {lines : List Line} → Stand i j lines → repeated lines ≡ false
  unfolding repeated
  stand_once none = refl
  stand_once (next p r) = rw (later p (omega arith) r) (stand_once r)

  stand_order : {i j : ℕ} {lines : List Line} → Stand i j lines → i ≤ j
  stand_order none = omega arith
  stand_order (next p r) = omega (arith, stand_order r)

  -- the entries before i stay, those from i on are the list's
  module _ (count : Line → ℤ) (l : List ℤ) (each : (i : ℕ) (line : Line) → At i line → count line ≡ get_or l i (pos 0)) where
    stand_fills : {i j : ℕ} {lines : List Line} (kept : List ℤ) → Stand i j lines → length l ≡ j → length kept ≡ j → filled count lines kept ≡ take i kept ++ drop i l
    unfolding filled
    stand_fills kept (none {i = i}) e f = rw (take_all i kept (omega arith), drop_of_length-le l {i = i} (omega arith)) (sym (append-nil kept))
    stand_fills kept (next {i = i} {line = line} {others = others} p r) e f =
        let v = get_or l i (pos 0) in
        let b = stand_order r in
        rw (p.at, each i line p)
        (stand_fills (set kept i v) r e (length-set kept i v ∙ f)
        ∙ ap (λ (t : List ℤ). t ++ drop (suc i) l) (take-suc-set kept i v (omega arith))
        ∙ append_snoc (take i kept) v (drop (suc i) l)
        ∙ ap (λ (t : List ℤ). take i kept ++ t) (sym (drop-cons l i (pos 0) (omega arith))))

    all_fill : length l ≡ size n → filled count (gathered (rows c s) (suc n)) (replicate (size n) (pos 0)) ≡ l
    all_fill e = stand_fills (replicate (size n) (pos 0)) all_stand e (length-replicate (size n) (pos 0))

  -- ---- the text's data
  pub data-formed : data_formed n (gathered (rows c s) (suc n)) ≡ true
  data-formed = stand_formed all_stand

  pub data_once : repeated (gathered (rows c s) (suc n)) ≡ false
  data_once = stand_once all_stand

  pub data_in_range : every_in_range c ≡ true → every_in_range s ≡ true → all_in_range (gathered (rows c s) (suc n)) ≡ true
  data_in_range hc hs = stand_in_range hc hs all_stand

  pub c_filled : length c ≡ size n → filled c_in (gathered (rows c s) (suc n)) (replicate (size n) (pos 0)) ≡ c
  c_filled e = all_fill c_in c (λ i line p. p.c_is) e

  pub s_filled : length s ≡ size n → filled s_in (gathered (rows c s) (suc n)) (replicate (size n) (pos 0)) ≡ s
  s_filled e = all_fill s_in s (λ i line p. p.s_is) e
