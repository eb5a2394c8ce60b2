-- What the calls tell of a file that is gone through.
use mathlib.Core.Bool.{Bool, true, false, cond, ◌&&◌}
use mathlib.Core.Path.{◌≡◌, refl, sym, ap, ◌∙◌}
use mathlib.Core.List.{List}
use Prim.Native.Nat.{ℕ, ◌≤◌}
use native.Mathlib.Omega.{arith}
use borrow.Author.Tests.{eq-eqb, ne_eqb, eqb-true, leb-true}
use lib.Dec.{eqb, leb}
use lib.IntN.{ℤ, pos}
use lib.ListN.{length, take, replicate}
use Rattle.std.specs.Prelude.{Result, Ok, Err, IsErrAnd}
use Rattle.whole.proofs.Tests.{and_left, and_right}
use Rattle.field.specs.Field.{size, shaped_by}
use Rattle.field.proofs.Accepted.{size_most}
use Rattle.limits.specs.Limits.{is_degree}
use Rattle.refusals.specs.declared.Refusal.{Refusal}
use Rattle.refusals.specs.Numbers.{refusal_number, tells}
use Rattle.refusals.specs.Told.{Told}
use Rattle.refusals.specs.Told.Told.{accepted, refused}
use Rattle.refusals.proofs.Numbers.{refusal_not_zero}
use Rattle.refusals.proofs.Outcomes.{first_passed, first_kept}
use Rattle.icgem_file.specs.declared.FileHead.{FileHead}
use Rattle.icgem_file.specs.Header.{Line, data_of}
use Rattle.icgem_file.specs.Data.{c_in, s_in, filled}
use Rattle.icgem_file.specs.File.{file_refusal, read_refusal, file_list, told_head, file_head, read_file}
use Rattle.std.proofs.lemmas.List.{take-replicate}
use Rattle.icgem_file.proofs.Lists.{filled_take}
use Rattle.icgem_words.specs.Words.{worded}
use Rattle.icgem_read.specs.Inner.{Passed, FilePassed}
use Rattle.icgem_read.specs.Told.{Reads}

abbrev zeros : List ℤ
zeros = replicate 1891 (pos 0)

shaped_facts : (n c s : ℕ) → shaped_by n c s ≡ true → (n ≤ 60) × (c ≡ size n) × (s ≡ size n)
unfolding shaped_by
shaped_facts n c s e =
    let front : (is_degree n && eqb c (size n)) ≡ true = and_left (is_degree n && eqb c (size n)) (eqb s (size n)) e in (
      leb-true n 60 (and_right (leb 4 n) (leb n 60) (and_left (is_degree n) (eqb c (size n)) front)),
      eqb-true c (size n) (and_right (is_degree n) (eqb c (size n)) front),
      eqb-true s (size n) (and_right (is_degree n && eqb c (size n)) (eqb s (size n)) e),
    )

-- ---- the head alone
pub told : (text : List ℕ) (c s : List ℤ) (result : Result FileHead Refusal) (c' s' : List ℤ) → FilePassed text c s result c' s' → tells result ≡ file_head text
unfolding told_head
told text c s (Ok head) c' s' p = sym (rw (eq-eqb (file_refusal text) 0 p.none) p.head_is)
told text c s (Err why) c' s' e = sym (rw (ne_eqb (file_refusal text) 0 (λ z. refusal_not_zero why (sym e ∙ z)), e) refl)

-- what holds of each refusal that a result can be holds of what it tells
pub told_err : (P : Told FileHead → Type 0) {Q : Refusal → Type 0} (result : Result FileHead Refusal) → IsErrAnd result Q
    → ((why : Refusal) → Q why → P (refused (refusal_number why))) → P (tells result)
told_err P (Ok head) q f = absurd q
told_err P (Err why) q f = f why q

-- ---- the head and both lists
module _ (text : List ℕ) (c s : List ℤ) where
  refuses : (why : Refusal) → read_refusal text (length c) (length s) ≡ refusal_number why → Reads (read_file text c s) (refused (refusal_number why)) c s
  unfolding read_file told_head
  refuses why e =
      let q : eqb (read_refusal text (length c) (length s)) 0 ≡ false = ne_eqb _ 0 (λ z. refusal_not_zero why (sym e ∙ z)) in
      record { answer = sym (rw (q, e) refl); list_c = rw q refl; list_s = rw q refl }

  pub reads_refused : (why : Refusal) → file_refusal text ≡ refusal_number why → Reads (read_file text c s) (refused (refusal_number why)) c s
  unfolding read_refusal
  reads_refused why e = refuses why (rw e (first_kept (refusal_number why) _ (refusal_not_zero why)))

  module _ {new-c new-s : List ℤ} {head : FileHead} (p : Passed text zeros zeros head new-c new-s) where
    number_is : read_refusal text (length c) (length s) ≡ cond (shaped_by head.degree (length c) (length s)) 0 1
    unfolding read_refusal
    number_is = rw (p.none, p.degree_is) (first_passed 0 _ refl)

    pub reads_misfit : (why : Refusal) → refusal_number why ≡ cond (shaped_by head.degree (length c) (length s)) 0 1
        → Reads (read_file text c s) (refused (refusal_number why)) c s
    reads_misfit why e = refuses why (number_is ∙ sym e)

    module _ (z : ◌≡◌ {A = ℕ} 0 (cond (shaped_by head.degree (length c) (length s)) 0 1)) where
      fits : (head.degree ≤ 60) × (length c ≡ size head.degree) × (length s ≡ size head.degree)
      fits = shaped_facts head.degree (length c) (length s) (by_test (shaped_by head.degree (length c) (length s)) (sym z))
        where
          by_test : (b : Bool) → ◌≡◌ {A = ℕ} (cond b 0 1) 0 → b ≡ true
          by_test true e = refl
          by_test false e = absurd (omega (arith, e))

      -- the lists fit into those of degree 60
      pub c_most : length c ≤ 1891
      c_most = omega (arith, fits.1, size_most head.degree fits.0)

      pub s_most : length s ≤ 1891
      s_most = omega (arith, fits.2, size_most head.degree fits.0)

      -- the front of the list that was filled is the file's
      front : (count : Line → ℤ) (k : ℕ) → k ≡ size head.degree → take k (filled count (data_of (worded text)) zeros) ≡ file_list count text
      unfolding file_list
      front count k e =
          filled_take count (data_of (worded text)) k zeros
          ∙ ap (filled count (data_of (worded text))) (take-replicate k 1891 (pos 0) (omega (arith, size_most head.degree fits.0)) ∙ ap (λ (j : ℕ). replicate j (pos 0)) (e ∙ ap size p.degree_is))

      pub reads_accepted : {c'' s'' : List ℤ} → c'' ≡ take (length c) new-c → s'' ≡ take (length s) new-s → Reads (read_file text c s) (accepted head) c'' s''
      unfolding read_file told_head
      reads_accepted {c''} {s''} e f =
          let q : eqb (read_refusal text (length c) (length s)) 0 ≡ true = eq-eqb _ 0 (number_is ∙ sym z) in
          record {
            answer = sym (rw q p.head_is);
            list_c = e ∙ rw q (ap (take (length c)) p.lists.c_is ∙ front c_in (length c) fits.1);
            list_s = f ∙ rw q (ap (take (length s)) p.lists.s_is ∙ front s_in (length s) fits.2);
          }
