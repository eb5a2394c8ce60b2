-- Every listing has room in 256 bytes, so that a listing that was put at a buffer's start stands there whole.
use mathlib.Core.Path.{◌≡◌, ap, ◌∙◌}
use mathlib.Core.Bool.{Bool, true, false, cond}
use mathlib.Core.List.{List, [], ◌∷◌, ◌++◌}
use Prim.Native.Nat.{ℕ, ◌+◌, ◌≤◌}
use native.Mathlib.Nat.{zero-add}
use native.Mathlib.Omega.{arith}
use borrow.Author.Tests.{ne_eqb}
use lib.Dec.{eqb}
use lib.ListN.{length, drop, length-append}
use lib.Seq.{sets-eq}
use Rattle.arguments.specs.declared.Phases.{Phases}
use Rattle.bands.specs.declared.Corrections.{Corrections}
use Rattle.bands.specs.Inner.{Small}
use Rattle.choices.specs.declared.LoveModel.TheVariants.{Elastic, Anelastic}
use Rattle.profiles.specs.Profiles.{all_lines}
use Rattle.step_two.proofs.Sizes.{corrections_small}
use Rattle.text.specs.declared.Page.{Page}
use Rattle.text.specs.Inner.{Put, Puts}
use Rattle.text.specs.Text.{ascii}
use Rattle.listing.specs.Listing.{phases_of, model_text, models_text, listing_of, Listed}
use Rattle.listing.proofs.Columns.{columns_most}

-- a name, five columns of 21 bytes at most, and a line feed
pub model_most : (model : List ℕ) {d : Corrections} → Small d → length (model_text model d) ≤ length model + 106
unfolding ascii model_text
model_most model {d} s =
    simp length-append (omega (arith, columns_most (d.c20 ∷ d.c21 ∷ d.s21 ∷ d.c22 ∷ d.s22 ∷ []) (omega (arith, s.c20), (omega (arith, s.c21), (omega (arith, s.s21), (omega (arith, s.c22), (omega (arith, s.s22), tt)))))))

models_most : (phases : Phases) → length (models_text phases) ≤ 256
unfolding ascii models_text
models_most phases =
    simp length-append (omega (arith, model_most (ascii "elastic") (corrections_small phases Elastic all_lines), model_most (ascii "anelastic") (corrections_small phases Anelastic all_lines)))

listing_most : (input : List ℕ) → length (listing_of input) ≤ 256
unfolding ascii listing_of
listing_most input = most (eqb (length input) 24)
  where
    most : (b : Bool) → length (cond b (models_text (phases_of input)) (ascii "refused\n")) ≤ 256
    most true = models_most (phases_of input)
    most false = omega arith

-- a text put on a page that began at the buffer's start is listed
pub listed : (input before text : List ℕ) {p q : Page} → listing_of input ≡ text → 256 ≤ length before → p.out.now ≡ before → p.at ≡ 0 → Puts p text q
    → Listed input before q.out.now q.at
listed input before text {p} {q} e h same start f =
    let put : Put before 0 (listing_of input) q.out.now q.at = rw (e, ← same, ← start) f.put in
    record {
      count-is = put.next_is ∙ zero-add (length (listing_of input));
      bytes_are =
          put.bytes_are
          ∙ sets-eq (listing_of input) before 0 (omega (arith, listing_most input))
          ∙ ap (λ (k : ℕ). listing_of input ++ drop k before) (zero-add (length (listing_of input)));
    }

pub listed_within : {input before after : List ℕ} {n : ℕ} → Listed input before after n → n ≤ length after
listed_within {input} {before} {after} {n} l =
    omega (arith, l.count-is, ap length l.bytes_are, length-append (listing_of input) (drop (length (listing_of input)) before))

-- "Any other input length prints the single line `refused`."
pub refused_listed : (input : List ℕ) → (length input ≡ 24 → ⊥) → listing_of input ≡ ascii "refused\n"
unfolding listing_of
refused_listed input other = rw (ne_eqb (length input) 24 other)
