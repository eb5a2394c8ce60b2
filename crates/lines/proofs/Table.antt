-- The printed lines as a table: its columns, and its rule.
use borrow.Author.Tests.{leb-true}
use mathlib.Core.Path.{◌≡◌, refl, sym, ap, ◌∙◌}
use mathlib.Core.Bool.{Bool, true, ◌&&◌}
use mathlib.Core.List.{List, [], ◌∷◌, map}
use Prim.Native.Nat.{ℕ, zero, suc, ◌≤◌, ◌<◌}
use native.Mathlib.Nat.{not-suc-le-zero, le_of_suc-le-suc}
use native.Mathlib.Omega.{arith}
use lib.Dec.{T, ltb, leb, eqb}
use lib.IntN.{ℤ, nat_abs}
use lib.ListN.{length, get_or}
use mir.Syntax.{w16, w64}
use mir.Val.{to_z, of_z}
use mir.Facts.{to_z-of_z}
use Rattle.bands.specs.declared.Band.{Band}
use Rattle.bands.specs.declared.Band.TheVariants.{Diurnal, LongPeriod, Semidiurnal}
use Rattle.bands.proofs.Counts.{counts_size}
use Rattle.whole.proofs.Parts.{fits_abs}
use Rattle.choices.specs.declared.LoveModel.{LoveModel}
use Rattle.choices.specs.declared.LoveModel.TheVariants.{Elastic, Anelastic}
use Rattle.whole.proofs.Tests.{and_left, and_right}
use Rattle.doodson.specs.Doodson.{digit, multipliers_in, multipliers_written}
use Rattle.limits.specs.Limits.{is_doodson}
use Rattle.lines.specs.Lines.{diurnal, long_period, semidiurnal, printed, line_at, multipliers_at, band_at, in_model, printed_line, nowhere, Printed}
use Rattle.lines.specs.Inner.{digits_of, number_in, row_of}

pub count : length printed ≡ 49
unfolding printed diurnal long_period semidiurnal
count = refl

along : {B : Type 0} (f : Printed → B) (l : List Printed) (i : ℕ) (e : B) → i < length l → get_or (map f l) i e ≡ f (get_or l i nowhere)
along f [] i e h = absurd (not-suc-le-zero h)
along f (x ∷ xs) zero e h = refl
along f (x ∷ xs) (suc i) e h = along f xs i e (le_of_suc-le-suc h)

-- a column of the table at a line is the line's
pub column : {B : Type 0} (f : Printed → B) (i : ℕ) (e : B) → i < 49 → get_or (map f printed) i e ≡ f (line_at i)
unfolding line_at
column f i e h = along f printed i e (omega (arith, count))

-- the rule: six digits, the first of them the band's order, and numbers that ascend within the band, so that none stands twice
pub ascending : ℕ → ℕ → List Printed → Bool
ascending order after [] = true
ascending order after (l ∷ ls) =
    is_doodson l.number && eqb (digit l.number 5) order && ltb after l.number && ascending order l.number ls

pub rule : T (ascending 1 0 diurnal && ascending 0 0 long_period && ascending 2 0 semidiurnal)
unfolding ascending diurnal long_period semidiurnal
rule = tt

-- no amplitude is above 4720
small : List Printed → Bool
small [] = true
small (l ∷ ls) = leb (nat_abs l.first) 4720 && leb (nat_abs l.second) 4720 && small ls

each_small : (ls : List Printed) → small ls ≡ true → (i : ℕ) → (nat_abs (get_or ls i nowhere).first ≤ 4720) × (nat_abs (get_or ls i nowhere).second ≤ 4720)
unfolding small
each_small [] e i = (omega arith, omega arith)
each_small (l ∷ ls) e zero =
    let two = and_left (leb (nat_abs l.first) 4720 && leb (nat_abs l.second) 4720) (small ls) e in
    (leb-true _ _ (and_left (leb (nat_abs l.first) 4720) (leb (nat_abs l.second) 4720) two), leb-true _ _ (and_right (leb (nat_abs l.first) 4720) (leb (nat_abs l.second) 4720) two))
each_small (l ∷ ls) e (suc i) = each_small ls (and_right (leb (nat_abs l.first) 4720 && leb (nat_abs l.second) 4720) (small ls) e) i

pub amplitudes_small : (i : ℕ) → (nat_abs (line_at i).first ≤ 4720) × (nat_abs (line_at i).second ≤ 4720)
unfolding small line_at printed diurnal long_period semidiurnal
amplitudes_small i = each_small printed refl i

-- so no printed line has more than 472,000 counts in phase or out of it, in either model
pub model_small : (band : Band) (love : LoveModel) (a b : ℤ) → nat_abs a ≤ 4720 → nat_abs b ≤ 4720
    → (nat_abs (in_model band love a b).ip ≤ 472000) × (nat_abs (in_model band love a b).op ≤ 472000)
unfolding in_model
model_small Diurnal Elastic a b ha hb = (counts_size a 4720 ha, omega arith)
model_small Diurnal Anelastic a b ha hb = (counts_size b 4720 hb, omega arith)
model_small LongPeriod Elastic a b ha hb = (omega arith, omega arith)
model_small LongPeriod Anelastic a b ha hb = (counts_size a 4720 ha, counts_size b 4720 hb)
model_small Semidiurnal love a b ha hb = (counts_size a 4720 ha, omega arith)

pub printed_small : (love : LoveModel) (i : ℕ) → (nat_abs (printed_line love i).ip ≤ 472000) × (nat_abs (printed_line love i).op ≤ 472000)
unfolding printed_line
printed_small love i = model_small (band_at i) love (line_at i).first (line_at i).second (amplitudes_small i).0 (amplitudes_small i).1

-- what the hexadecimal digits of a printed number write is what its decimal ones do
numbers_agree : map (λ (l : Printed). number_in (digits_of l.number)) printed ≡ map (λ (l : Printed). l.number) printed
unfolding number_in digits_of printed diurnal long_period semidiurnal
numbers_agree = refl

multipliers_agree : map (λ (l : Printed). multipliers_written 16 (digits_of l.number)) printed ≡ map (λ (l : Printed). multipliers_in l.number) printed
unfolding multipliers_written multipliers_in digits_of printed diurnal long_period semidiurnal
multipliers_agree = refl

-- a value of each line, found in one way and in another
agree : {B : Type 0} (f g : Printed → B) → map f printed ≡ map g printed → (i : ℕ) (e : B) → i < 49 → f (line_at i) ≡ g (line_at i)
agree f g same i e h = sym (column f i e h) ∙ ap (λ (l : List _). get_or l i e) same ∙ column g i e h

module _ (i : ℕ) (h : i < 49) where
  pub number_read : number_in (digits_of (line_at i).number) ≡ (line_at i).number
  number_read = agree (λ (p : Printed). number_in (digits_of p.number)) (λ (p : Printed). p.number) numbers_agree i 0 h

  pub multipliers_read : multipliers_written 16 (digits_of (line_at i).number) ≡ multipliers_at i
  unfolding multipliers_at
  multipliers_read =
      agree (λ (p : Printed). multipliers_written 16 (digits_of p.number)) (λ (p : Printed). multipliers_in p.number) multipliers_agree i (multipliers_in 0) h

-- an amplitude as the code has it, in 16 bits and then in 64
module _ (i : ℕ) {r : ℕ × ℤ × ℤ} (e : r ≡ row_of (line_at i)) {x : ℤ} where
  widened : {z : ℤ} → nat_abs z ≤ 4720 → x ≡ to_z w16 (of_z w16 z) → to_z w64 (of_z w64 x) ≡ z
  widened {z} h f = rw (f, to_z-of_z (fits_abs w16 z (omega (arith, h)))) (to_z-of_z (fits_abs w64 z (omega (arith, h))))

  pub first_read : x ≡ to_z w16 (of_z w16 r.1) → to_z w64 (of_z w64 x) ≡ (line_at i).first
  first_read f = widened (amplitudes_small i).0 (rw e at f)

  pub second_read : x ≡ to_z w16 (of_z w16 r.2) → to_z w64 (of_z w64 x) ≡ (line_at i).second
  second_read f = widened (amplitudes_small i).1 (rw e at f)
