-- The known entries: each, the constant's under the name that is used, and all.
use mathlib.Core.Path.{◌≡◌, refl, sym, ap, ◌∙◌}
use mathlib.Core.Bool.{Bool, true, false, true≢false, not, ◌&&◌, ◌||◌}
use mathlib.Core.List.{List, [], ◌∷◌}
use Prim.Native.Nat.{ℕ, zero, suc, ◌+◌, ◌<◌}
use native.Mathlib.Omega.{arith}
use borrow.Author.Tests.{le-leb, lt-leb}
use lib.ListN.{length}
use Rattle.std.specs.Prelude.{Option, Some, None, Ok, is_some, MatchOption, slice_get}
use Rattle.std.specs.Borrow.{Bor}
use Rattle.std.proofs.lemmas.Option.{slice_get_within, get_or_from_slice_get}
use Rattle.icgem_decimal.proofs.Tests.{either, and_false}
use Rattle.choices.specs.declared.PermanentSystem.{PermanentSystem}
use Rattle.text.specs.Text.{ascii}
use Rattle.icgem_file.specs.File.{system_said}
use Rattle.icgem_names.specs.Names as names
use Rattle.icgem_names.specs.Names.{system_name}
use Rattle.icgem_decimal.specs.Decimal.{is_whole}
use Rattle.icgem_words.specs.Words.{words, worded, same_word}
use Rattle.icgem_file.specs.Header.{Word, Line, word_at, has, after, first, once, entry, kept, keyed, constant_name, constant_kept, is_constant, all_kept, all_there, all_taken}
use Rattle.icgem_header.specs.declared.Cut.{Cut}
use Rattle.icgem_header.specs.Inner.{CutAt, ValueIn, EntryRead, constant_required, words_fit, numbers_fit}
use Rattle.icgem_header.specs.Read.{tells_system}

slice_get_none : {A : Type 0} (l : List A) (i : ℕ) → slice_get l i ≡ None → length l < i + 1
slice_get_none [] i e = omega arith
slice_get_none (x ∷ l) zero e = cc
slice_get_none (x ∷ l) (suc i) e = omega (arith, slice_get_none l i e)

-- ---- one entry
pub unkept : (key : Word) (entries : List Line) → has key entries ≡ false → kept key entries ≡ true
unfolding kept
unkept key entries e = rw e

pub twice : (key : Word) (entries : List Line) → has key entries ≡ true → once key entries ≡ false → kept key entries ≡ false
unfolding kept
twice key entries e f = rw (e, f)

module _ {key text : List ℕ} {cut : Cut} (c : CutAt key text cut) where
  pub valueless : slice_get (words cut.line.now) 1 ≡ None → kept key (worded text) ≡ false
  unfolding kept
  valueless e =
      rw (c.has_is, c.first_is, lt-leb 2 (length (words cut.line.now)) (slice_get_none (words cut.line.now) 1 e)) (and_false (once key (worded text)))

  module _ (o : once key (worded text) ≡ true) {value : List ℕ} (e : slice_get (words cut.line.now) 1 ≡ Some value) where
    pub valued : kept key (worded text) ≡ true
    unfolding kept
    valued = rw (c.has_is, o, c.first_is, le-leb 2 (length (words cut.line.now)) (slice_get_within (words cut.line.now) 1 value e))

    pub value_is : value ≡ entry key (worded text)
    value_is = sym (get_or_from_slice_get (words cut.line.now) 1 value [] e) ∙ ap (word_at 1) (sym c.first_is)

-- ---- the constant, under one of its names
module _ (entries : List Line) where
  pub long_twice : kept names.gravity_constant entries ≡ false → constant_required entries ≡ false
  unfolding constant_kept
  long_twice e = rw e

  pub plain_twice : kept names.plain_constant entries ≡ false → constant_required entries ≡ false
  unfolding constant_kept
  plain_twice e = rw (e, and_false (kept names.gravity_constant entries))

  module _ (k : kept names.gravity_constant entries ≡ true) (l : kept names.plain_constant entries ≡ true) where
    pub long_used : has names.gravity_constant entries ≡ true → has names.plain_constant entries ≡ false
        → (constant_required entries ≡ true) × (entry names.gravity_constant entries ≡ entry (constant_name entries) entries)
    unfolding constant_kept constant_name
    long_used e f =
        let name : constant_name entries ≡ names.gravity_constant = rw e in (rw (name, k, l, e, f) refl, ap (λ (key : Word). entry key entries) (sym name))

    pub plain_used : has names.gravity_constant entries ≡ false → has names.plain_constant entries ≡ true
        → (constant_required entries ≡ true) × (entry names.plain_constant entries ≡ entry (constant_name entries) entries)
    unfolding constant_kept constant_name
    plain_used e f =
        let name : constant_name entries ≡ names.plain_constant = rw e in (rw (name, k, l, e, f) refl, ap (λ (key : Word). entry key entries) (sym name))

  pub both_used : has names.gravity_constant entries ≡ true → has names.plain_constant entries ≡ true → constant_required entries ≡ false
  unfolding constant_kept
  both_used e f = rw (e, f, and_false (kept names.gravity_constant entries && kept names.plain_constant entries)) refl

  pub none_used : has names.gravity_constant entries ≡ false → has names.plain_constant entries ≡ false → constant_required entries ≡ false
  unfolding constant_name
  none_used e f = rw (e, f) (and_false (constant_kept entries))

-- ---- an entry that is not there
none_after : (key : Word) (entries : List Line) → has key entries ≡ false → after key entries ≡ []
unfolding has after
none_after key [] e = refl
none_after key (line ∷ others) e =
    either (keyed key line) (λ t. absurd (true≢false (rw t at e))) (λ t. rw t (none_after key others (rw t at e)))

pub never_twice : (key : Word) (entries : List Line) → has key entries ≡ false → once key entries ≡ true
unfolding has
never_twice key entries e = rw (none_after key entries e)

none_first : (key : Word) (entries : List Line) → has key entries ≡ false → entry key entries ≡ []
unfolding has first
none_first key [] e = refl
none_first key (line ∷ others) e =
    either (keyed key line) (λ t. absurd (true≢false (rw t at e))) (λ t. rw t (none_first key others (rw t at e)))

-- ---- words behind keywords
module _ (key text : List ℕ) where
  abbrev Told : Option (Bor (List ℕ)) → Type 0
  Told found = MatchOption found (has key (worded text) ≡ false) (λ value. (has key (worded text) ≡ true) × ValueIn text (entry key (worded text)) value.now)

  pub word_is : (found : Option (Bor (List ℕ))) → Told found → (word : Word) (r : Bool)
      → MatchOption found (r ≡ true) (λ v. r ≡ same_word v.now word) → (not (has key (worded text)) || same_word (entry key (worded text)) word) ≡ r
  word_is None f word r h = rw (f, h) refl
  word_is (Some v) f word r h = rw (f.0, ← f.1.value_is, h) refl

  pub system_is : (found : Option (Bor (List ℕ))) → Told found → (r : Option PermanentSystem) {P : Bor (List ℕ) → Type 0}
      → MatchOption found (r ≡ None) P → ((v : Bor (List ℕ)) → P v → tells_system r ≡ system_said v.now) → tells_system r ≡ system_said (entry key (worded text))
  unfolding system_said system_name same_word ascii
  system_is None f r h p = rw (h, none_first key (worded text) f) refl
  system_is (Some v) f r h p = p v h ∙ ap system_said f.1.value_is

-- an entry that is read is there or not, stands as it should, and its value, none being empty, is the same word as the entry's
abbrev pub given : Option (Bor (List ℕ)) → List ℕ
given None = []
given (Some value) = value.now

pub kind_read : (key word text : List ℕ) (found : Option (Bor (List ℕ))) (same : Bool) → EntryRead key text (Ok found) → same ≡ same_word (given found) word
    → (is_some found ≡ has key (worded text)) × ((kept key (worded text) ≡ true) × (same ≡ same_word (entry key (worded text)) word))
kind_read key word text None same r s = (sym r.1, (r.0, s ∙ ap (λ (v : List ℕ). same_word v word) (sym (none_first key (worded text) r.1))))
kind_read key word text (Some value) same r s = (sym r.1.0, (r.0, s ∙ ap (λ (v : List ℕ). same_word v word) r.1.1.value_is))

-- ---- the entries with words and those with numbers are all
fits : (p p' m e n t s u c c' r r' d d' w k l : Bool)
    → (((p && p') && (m && (e && (n && (t && (s && u)))))) && ((c && c') && ((r && r') && ((d && d') && (w && (k && l))))))
    ≡ ((c && (p && (m && (r && (d && (e && (n && t))))))) && ((p' && (c' && (r' && d'))) && (s && (u && (w && (k && l))))))
fits false p' m e n t s u c c' r r' d d' w k l = simp and_false
fits true false m e n t s u c c' r r' d d' w k l = simp and_false
fits true true false e n t s u c c' r r' d d' w k l = simp and_false
fits true true true false n t s u c c' r r' d d' w k l = simp and_false
fits true true true true false t s u c c' r r' d d' w k l = simp and_false
fits true true true true true false s u c c' r r' d d' w k l = simp and_false
fits true true true true true true false u c c' r r' d d' w k l = simp and_false
fits true true true true true true true false c c' r r' d d' w k l = simp and_false
fits true true true true true true true true false c' r r' d d' w k l = simp and_false
fits true true true true true true true true true false r r' d d' w k l = simp and_false
fits true true true true true true true true true true false r' d d' w k l = simp and_false
fits true true true true true true true true true true true false d d' w k l = simp and_false
fits true true true true true true true true true true true true false d' w k l = simp and_false
fits true true true true true true true true true true true true true false w k l = simp and_false
fits true true true true true true true true true true true true true true false k l = simp and_false
fits true true true true true true true true true true true true true true true false l = simp and_false
fits true true true true true true true true true true true true true true true true false = simp and_false
fits true true true true true true true true true true true true true true true true true = refl

pub all_fit : (entries : List Line) → (words_fit entries && numbers_fit entries) ≡ (all_kept entries && (all_there entries && all_taken entries))
unfolding words_fit numbers_fit all_kept all_there all_taken
all_fit entries =
    fits (kept names.product_type entries) (has names.product_type entries) (kept names.model_name entries) (kept names.errors entries) (kept names.norm entries)
    (kept names.tide_system entries) (same_word (entry names.product_type entries) names.gravity_field)
    (not (has names.norm entries) || same_word (entry names.norm entries) names.fully_normalized) (constant_kept entries) (has (constant_name entries) entries)
    (kept names.radius entries) (has names.radius entries) (kept names.max_degree entries) (has names.max_degree entries) (is_whole (entry names.max_degree entries))
    (is_constant 0 (entry (constant_name entries) entries)) (is_constant 3 (entry names.radius entries))
