-- One line more, kept.
use mathlib.Core.Path.{◌≡◌, refl, sym, ap, ◌∙◌}
use mathlib.Core.Bool.{true}
use mathlib.Core.List.{List}
use Prim.Native.Nat.{ℕ, ◌+◌, ◌^◌, ◌≤◌, ◌<◌}
use native.Mathlib.Nat.{mul-le-mul}
use native.Mathlib.Omega.{arith}
use borrow.Author.Tests.{leb-true, leb-false}
use lib.Dec.{leb}
use lib.IntN.{ℤ, nat_abs}
use mir.Syntax.{w64}
use mir.Facts.{to_z-of_z}
use Rattle.whole.proofs.Parts.{fits_abs}
use lib.ListN.{length, set, length-set}
use lib.Seq.{set_out}
use Rattle.whole.proofs.Machine.{read}
use Rattle.whole.proofs.Tests.{and_left, and_right}
use Rattle.field.specs.Field.{place}
use Rattle.limits.specs.Limits.{is_entry}
use Rattle.icgem_decimal.proofs.Tests.{either}
use Rattle.icgem_file.specs.Data.{c_in, s_in}
use Rattle.icgem_words.specs.Words.{words}
use Rattle.icgem_data.specs.Inner.{Stands, CountsTaken, LineIs, LineKept}
use Rattle.icgem_data.specs.declared.Coefficients.{Coefficients}
use Rattle.icgem_data.specs.declared.Lines.{Lines}
use Rattle.std.specs.Prelude.{Some}

-- an entry is read back as it is
entry_read : {x z : ℤ} → x ≡ z → is_entry z ≡ true → read x ≡ z
entry_read {x} {z} e h = let g = leb-true (nat_abs z) (2 ^ 60) h in ap read e ∙ to_z-of_z (fits_abs w64 z (omega arith))

-- ---- an entry set at a line's place
place_past : (degree order : ℕ) → 60 < degree → 1891 ≤ place degree order
unfolding place
place_past degree order h = let g : 62 ≤ degree + 1 = omega arith in omega (arith, mul-le-mul h g)

set_stands : {degree order at : ℕ} → Stands degree order at → (l : List ℤ) (z : ℤ) → length l ≤ 1891 → set l at z ≡ set l (place degree order) z
set_stands {degree} {order} {at} h l z short =
    either (leb degree 60)
    (λ e. ap (λ (k : ℕ). set l k z) (h.here (leb-true degree 60 e)))
    (λ e.
    let g = leb-false degree 60 e in
    set_out l at z (omega (arith, h.past g)) ∙ sym (set_out l (place degree order) z (omega (arith, place_past degree order g))))

-- ---- a line whose counts are both entries, after lines whose counts are
module _ {n : ℕ} {line : List ℕ} {k : Coefficients} (t : LineIs n line k) {x y : ℤ} (e : k.counts ≡ Some (x, y)) where
  counts : CountsTaken (c_in (words line)) (s_in (words line)) (Some (x, y))
  counts = rw e at t.counts_are

  x-is : read x ≡ c_in (words line)
  x-is = entry_read counts.1.0 (and_left (is_entry (c_in (words line))) (is_entry (s_in (words line))) counts.0)

  y-is : read y ≡ s_in (words line)
  y-is = entry_read counts.1.1 (and_right (is_entry (c_in (words line))) (is_entry (s_in (words line))) counts.0)

  pub kept_inside : (start : ℕ) (before : Lines) (starts : List ℕ) (c s : List ℤ) → before.inside ≡ true → length c ≤ 1891 → length s ≤ 1891 → {c' s' : List ℤ}
      → c' ≡ set c k.place (read x) → s' ≡ set s k.place (read y)
      → LineKept n line start before starts c s (Some (record { inside = true; count = before.count + 1 })) (set starts before.count start) c' s'
  kept_inside start before starts c s i cl sl {c'} {s'} C S =
      record {
        told =
            record {
              formed = t.formed;
              long = t.long;
              inside_is = sym (rw (i, counts.0));
              count-is = refl;
              starts_is = refl;
              c_is = λ _. C ∙ ap (λ (z : ℤ). set c k.place z) x-is ∙ set_stands t.stands c (c_in (words line)) cl;
              s_is = λ _. S ∙ ap (λ (z : ℤ). set s k.place z) y-is ∙ set_stands t.stands s (s_in (words line)) sl;
            };
        starts_room = length-set starts before.count start;
        c-room = ap length C ∙ length-set c k.place (read x);
        s-room = ap length S ∙ length-set s k.place (read y);
      }
