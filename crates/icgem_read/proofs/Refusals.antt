-- Which number a file's own tests give.
use mathlib.Core.Bool.{true, false, ◌&&◌}
use mathlib.Core.Path.{◌≡◌, refl, sym, ap, ◌∙◌}
use mathlib.Core.List.{List}
use Prim.Native.Nat.{ℕ, zero, suc, ◌≤◌, ◌<◌}
use native.Mathlib.Omega.{arith}
use borrow.Author.Tests.{le-leb, lt-leb}
use lib.ListN.{length}
use Rattle.limits.specs.Limits.{is_degree}
use Rattle.refusals.specs.Outcome.{first_of}
use Rattle.refusals.specs.Told.{told_number}
use Rattle.refusals.proofs.Outcomes.{first_passed, first_kept}
use Rattle.icgem_file.specs.Header.{Line, head_formed, data_of, degree_of, system_word}
use Rattle.icgem_file.specs.Data.{data_formed, repeated, all_in_range}
use Rattle.icgem_file.specs.File.{formed, system_said, file_refusal}
use Rattle.icgem_words.specs.Words.{worded}
use Rattle.icgem_read.specs.Inner.{data_refusal}

-- ---- the data's own
module _ (n : ℕ) (lines : List Line) where
  pub data_malformed : data_formed n lines ≡ false → data_refusal n lines ≡ 17
  unfolding data_refusal
  data_malformed e = rw e (first_kept 17 _ (λ z. omega arith))

  module _ (e : data_formed n lines ≡ true) where
    pub data_twice : repeated lines ≡ true → data_refusal n lines ≡ 18
    unfolding data_refusal
    data_twice f = rw (e, f) (first_passed 0 _ refl ∙ first_kept 18 _ (λ z. omega arith))

    pub data_outside : repeated lines ≡ false → (is_degree n && all_in_range lines) ≡ false → data_refusal n lines ≡ 19
    unfolding data_refusal
    data_outside f g = rw (e, f, g) (first_passed 0 _ refl ∙ first_passed 0 _ refl)

    pub data_fine : repeated lines ≡ false → (is_degree n && all_in_range lines) ≡ true → data_refusal n lines ≡ 0
    unfolding data_refusal
    data_fine f g = rw (e, f, g) (first_passed 0 _ refl ∙ first_passed 0 _ refl)

-- ---- the whole file's
first_first : (a b c : ℕ) → first_of (first_of a b) c ≡ first_of a (first_of b c)
first_first zero b c = ap (λ (k : ℕ). first_of k c) (first_passed 0 b refl) ∙ sym (first_passed 0 (first_of b c) refl)
first_first (suc a) b c =
    ap (λ (k : ℕ). first_of k c) (first_kept (suc a) b (λ z. omega arith))
    ∙ first_kept (suc a) c (λ z. omega arith)
    ∙ sym (first_kept (suc a) (first_of b c) (λ z. omega arith))

module _ (text : List ℕ) where
  pub file_long : 131072 < length text → file_refusal text ≡ 17
  unfolding file_refusal formed
  file_long h = rw (lt-leb (length text) 131072 h) (first_kept 17 _ (λ z. omega arith))

  module _ (h : length text ≤ 131072) where
    pub file_headless : head_formed (worded text) ≡ false → file_refusal text ≡ 17
    unfolding file_refusal formed
    file_headless e = rw (le-leb (length text) 131072 h, e) (first_kept 17 _ (λ z. omega arith))

    pub file_headed : head_formed (worded text) ≡ true
        → file_refusal text ≡ first_of (data_refusal (degree_of (worded text)) (data_of (worded text))) (told_number (system_said (system_word (worded text))))
    unfolding file_refusal formed data_refusal
    file_headed e = rw (le-leb (length text) 131072 h, e) (sym (first_first _ _ _ ∙ ap (first_of _) (first_first _ _ _)))
