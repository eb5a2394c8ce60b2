-- A file whose header is as it should be, from its data and its system.
use mathlib.Core.Bool.{true}
use mathlib.Core.Path.{◌≡◌, refl, sym, ap, ap₂, ◌∙◌}
use mathlib.Core.List.{List}
use Prim.Native.Nat.{ℕ, ◌-◌, ◌≤◌}
use native.Mathlib.Omega.{arith}
use lib.IntN.{ℤ}
use lib.ListN.{length, length-drop}
use Rattle.std.specs.Prelude.{Option, Some, None, Result, Ok, Err, IsErrAnd, MatchResult, ok_or}
use Rattle.choices.specs.declared.PermanentSystem.{PermanentSystem}
use Rattle.refusals.specs.declared.Refusal.{Refusal}
use Rattle.refusals.specs.Outcome.{first_of}
use Rattle.refusals.specs.Told.{told_number}
use Rattle.refusals.specs.Told.Told.{accepted}
use Rattle.refusals.proofs.Outcomes.{first_kept, first_passed}
use Rattle.icgem_decimal.specs.Decimal.{is_whole, value_of}
use Rattle.icgem_file.specs.Header.{degree_of, system_word}
use Rattle.icgem_file.specs.File.{system_said, file_refusal, head_said}
use Rattle.icgem_header.specs.declared.Header.{Header}
use Rattle.icgem_header.specs.Read.{HeaderIs, tells_system}
use Rattle.icgem_words.specs.Words.{worded}
use Rattle.icgem_read.specs.Inner.{data_refusal, Filled, Passed}
use Rattle.icgem_read.proofs.Refusals.{file_headed}

-- what holds of each error that a result can be holds of it
pub by_err : {T : Type 0} (result : Result T Refusal) (P : T → Type 0) (R : Refusal → Type 0) {Q : Refusal → Type 0}
    → IsErrAnd result Q → ((why : Refusal) → Q why → R why) → MatchResult result P R
by_err (Ok value) P R q f = absurd q
by_err (Err why) P R q f = f why q

pub refused_by : {T : Type 0} (value : Option T) (why other : Refusal) → ◌≡◌ {A = Result T Refusal} (Err why) (ok_or value other) → (value ≡ None) × (why ≡ other)
refused_by None why other e = (refl, cc)
refused_by (Some x) why other e = absurd cc

module _ {text : List ℕ} {header : Header} (head : HeaderIs text header) (h : length text ≤ 131072) where
  pub data_short : length header.data.now ≤ 131072
  data_short = omega (arith, ap length head.data_last, length-drop (length text - length header.data.now) text)

  pub degree_whole : is_whole header.degree.now ≡ true
  degree_whole = ap is_whole head.degree_is ∙ head.degree_whole

  degree_is : value_of header.degree.now ≡ degree_of (worded text)
  unfolding degree_of
  degree_is = ap value_of head.degree_is

  refusal_is : {number : ℕ} → data_refusal (value_of header.degree.now) (worded header.data.now) ≡ number
      → file_refusal text ≡ first_of number (told_number (system_said (system_word (worded text))))
  refusal_is e = file_headed text h head.formed ∙ ap (λ (n : ℕ). first_of n (told_number (system_said (system_word (worded text))))) (ap₂ data_refusal (sym degree_is) head.data_is ∙ e)

  pub data_refuses : (number : ℕ) → (number ≡ 0 → ⊥) → data_refusal (value_of header.degree.now) (worded header.data.now) ≡ number → file_refusal text ≡ number
  data_refuses number o e = refusal_is e ∙ first_kept number _ o

  module _ (z : data_refusal (value_of header.degree.now) (worded header.data.now) ≡ 0) where
    pub systemless : header.system ≡ None → file_refusal text ≡ 20
    systemless e = refusal_is z ∙ first_passed 0 _ refl ∙ ap told_number (sym head.system_is ∙ ap tells_system e)

    pub passed : {c s c' s' : List ℤ} {system : PermanentSystem} {degree : ℕ} → degree ≡ value_of header.degree.now → Filled (worded header.data.now) c s c' s'
        → header.system ≡ Some system
        → Passed text c s (record { degree = degree; constant = header.constant; radius = header.radius; system = system }) c' s'
    unfolding head_said
    passed {system} taken filled e =
        let said : system_said (system_word (worded text)) ≡ accepted system = sym head.system_is ∙ ap tells_system e in
        let n = taken ∙ degree_is in
        record {
          none = refusal_is z ∙ first_passed 0 _ refl ∙ ap told_number said;
          head_is = rw (said, n, head.constant_is, head.radius_is) refl;
          degree_is = n;
          lists = record { c_is = rw head.data_is filled.c_is; s_is = rw head.data_is filled.s_is };
        }
