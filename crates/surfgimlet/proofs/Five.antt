-- Five counts as the two lists that the writer takes, and the places that they go to.
use mathlib.Core.Path.{◌≡◌, refl, ap, ◌∙◌}
use mathlib.Core.List.{List, [], ◌∷◌}
use Prim.Native.Nat.{ℕ, zero, suc, ◌+◌, ◌<◌}
use native.Mathlib.Omega.{arith}
use lib.IntN.{ℤ}
use lib.ListN.{length}
use Rattle.bands.specs.declared.Corrections.{Corrections}
use Rattle.bands.specs.Bands.{for_c, for_s}
use Rattle.bands.specs.Inner.{Small as SmallCorrections}
use Rattle.bands.proofs.Sizes.{read_c20, read-c21, read-s21, read_c22, read_s22, for_c_small, for_s_small}
use Rattle.field.specs.Added.{added_at}
use Rattle.field.specs.Field.{field_refusal}
use Rattle.field.specs.Inner.{Small, added_from}
use Rattle.field.proofs.Accepted.{accepted_field, degree_two}
use Rattle.field.proofs.Added.{the_places, at_run}
use Rattle.refusals.specs.Outcome.{Gives}
use Rattle.refusals.proofs.Outcomes.{gives_new, gives_kept}
use Rattle.whole.proofs.Machine.{read}
use Rattle.surfgimlet.specs.Calls.{places_c, places_s, five_corrected}
use Rattle.surfgimlet.specs.Inner.{FiveReady}

-- the places stand one after the other
pub c_run : (k : ℕ) → k < length places_c → the_places places_c k ≡ 3 + k
unfolding places_c
c_run zero h = refl
c_run (suc zero) h = refl
c_run (suc (suc zero)) h = refl
c_run (suc (suc (suc k))) h = absurd (omega arith)

pub s_run : (k : ℕ) → k < length places_s → the_places places_s k ≡ 4 + k
unfolding places_s
s_run zero h = refl
s_run (suc zero) h = refl
s_run (suc (suc k)) h = absurd (omega arith)

module _ (d : Corrections) (s : SmallCorrections d) where
  pub read_c : read d.c20 ∷ read d.c21 ∷ read d.c22 ∷ [] ≡ for_c d
  read_c = λ i. read_c20 d s i ∷ read-c21 d s i ∷ read_c22 d s i ∷ []

  pub read_s : read d.s21 ∷ read d.s22 ∷ [] ≡ for_s d
  read_s = λ i. read-s21 d s i ∷ read_s22 d s i ∷ []

  pub small-c : Small (for_c d)
  small-c = record { each = λ k. omega (arith, for_c_small d s k) }

  pub small-s : Small (for_s d)
  small-s = record { each = λ k. omega (arith, for_s_small d s k) }

pub added_c : (d : Corrections) (l : List ℤ) → added_from 3 (for_c d) l ≡ added_at places_c (for_c d) l
unfolding places_c
added_c d l = at_run places_c (for_c d) l 3 c_run refl

pub added_s : (d : Corrections) (l : List ℤ) → added_from 4 (for_s d) l ≡ added_at places_s (for_s d) l
unfolding places_s
added_s d l = at_run places_s (for_s d) l 4 s_run refl

-- a field that is not refused has room for them
pub five_ready : (n : ℕ) (c s : List ℤ) (d : Corrections) → field_refusal n c s ≡ 0 → SmallCorrections d → FiveReady c s d
five_ready n c s d passed small =
    let a = accepted_field n c s passed in
    record {
      c-room = degree_two n c a.least a.c_size;
      s-room = degree_two n s a.least a.s_size;
      c_range = a.c_range;
      s_range = a.s_range;
      small = small;
    }

-- five entries corrected, or kept
module _ {number k : ℕ} (c s : List ℤ) (told : k ≡ number) where
  pub gives_five : {c' s' : List ℤ} {d e : Corrections} → number ≡ 0 → d ≡ e → (c' ≡ added_at places_c (for_c d) c) × (s' ≡ added_at places_s (for_s d) s) → Gives (five_corrected number c s e) k c' s'
  unfolding five_corrected
  gives_five passed same lists =
      gives_new _ _ _ _ told passed
      (lists.0 ∙ ap (λ (d : Corrections). added_at places_c (for_c d) c) same)
      (lists.1 ∙ ap (λ (d : Corrections). added_at places_s (for_s d) s) same)

  pub keeps_five : (e : Corrections) → (number ≡ 0 → ⊥) → Gives (five_corrected number c s e) k c s
  unfolding five_corrected
  keeps_five e refused = gives_kept _ _ _ _ told refused
