-- Inner contracts, no words of 02: what the functions that read a header say to one another.
use Rattle.std.specs.Prelude.{◌≡◌, Bool, true, false, not, ◌&&◌, ◌||◌, List, ℕ, ◌-◌, ◌≤◌, nat_abs, length, drop, Option, Result, MatchOption, MatchResult}
use Rattle.std.specs.Borrow.{Bor}
use Rattle.choices.specs.declared.PermanentSystem.{PermanentSystem}
use Rattle.icgem_decimal.specs.Decimal.{is_whole, in_units}
use Rattle.icgem_names.specs.Names as names
use Rattle.icgem_words.specs.Words.{words, worded, same_word}
use Rattle.icgem_file.specs.File.{system_said}
use Rattle.icgem_file.specs.Header.{Word, Line, has, before, after, first, once, kept, entry, entries_of, constant_name, constant_kept, is_constant}
use Rattle.icgem_header.specs.declared.Malformed.{Malformed}
use Rattle.icgem_header.specs.declared.Cut.{Cut}
use Rattle.icgem_header.specs.declared.Numbers.{Numbers}
use Rattle.icgem_header.specs.Read.{tells_system}

-- a text cut at the first line with a key; what stands after the line is the text's end
pub record CutAt (key text : List ℕ) (cut : Cut) : Type 0 where
  pub before_short : length cut.before.now ≤ length text
  pub line_short : length cut.line.now ≤ length text
  pub after_last : cut.after.now ≡ drop (length text - length cut.after.now) text
  pub has_is : has key (worded text) ≡ true
  pub before_is : before key (worded text) ≡ worded cut.before.now
  pub first_is : first key (worded text) ≡ words cut.line.now
  pub after_is : after key (worded text) ≡ worded cut.after.now

abbrev pub LineFound : List ℕ → List ℕ → Option Cut → Type 0
LineFound key text found = MatchOption found (has key (worded text) ≡ false) (CutAt key text)

abbrev pub LineSingle : List ℕ → List ℕ → Result (Option Cut) Malformed → Type 0
LineSingle key text result =
    MatchResult result
    (λ found. MatchOption found (has key (worded text) ≡ false) (λ cut. CutAt key text cut × (once key (worded text) ≡ true)))
    (λ malformed. (has key (worded text) ≡ true) × (once key (worded text) ≡ false))

-- a value in a text
pub record ValueIn (text word : List ℕ) (value : List ℕ) : Type 0 where
  pub short : length value ≤ length text
  pub value_is : value ≡ word

-- a known entry
abbrev pub EntryRead : List ℕ → List ℕ → Result (Option (Bor (List ℕ))) Malformed → Type 0
EntryRead key text result =
    MatchResult result
    (λ found. (kept key (worded text) ≡ true)
    × MatchOption found (has key (worded text) ≡ false) (λ value. (has key (worded text) ≡ true) × ValueIn text (entry key (worded text)) value.now))
    (λ malformed. kept key (worded text) ≡ false)

-- one that has to be there
abbrev pub required : Word → List Line → Bool
required key entries = kept key entries && has key entries

abbrev pub RequiredRead : List ℕ → List ℕ → Result (Bor (List ℕ)) Malformed → Type 0
RequiredRead key text result =
    MatchResult result
    (λ value. (required key (worded text) ≡ true) × ValueIn text (entry key (worded text)) value.now)
    (λ malformed. required key (worded text) ≡ false)

-- the constant's, under the name that is used
abbrev pub constant_required : List Line → Bool
constant_required entries = constant_kept entries && has (constant_name entries) entries

abbrev pub ConstantRead : List ℕ → Result (Bor (List ℕ)) Malformed → Type 0
ConstantRead text result =
    MatchResult result
    (λ value. (constant_required (worded text) ≡ true) × ValueIn text (entry (constant_name (worded text)) (worded text)) value.now)
    (λ malformed. constant_required (worded text) ≡ false)

-- a constant
abbrev pub ConstantTaken : ℕ → List ℕ → Result ℕ Malformed → Type 0
ConstantTaken places word result =
    MatchResult result
    (λ value. (is_constant places word ≡ true) × (value ≡ nat_abs (in_units places word)))
    (λ malformed. is_constant places word ≡ false)

-- the entries with numbers
unfoldable pub numbers_fit : List Line → Bool
numbers_fit entries =
    constant_required entries
    && (required names.radius entries
    && (required names.max_degree entries
    && (is_whole (entry names.max_degree entries)
    && (is_constant 0 (entry (constant_name entries) entries) && is_constant 3 (entry names.radius entries)))))

pub record NumbersIn (text : List ℕ) (numbers : Numbers) : Type 0 where
  pub fit : numbers_fit (worded text) ≡ true
  pub degree_is : numbers.degree.now ≡ entry names.max_degree (worded text)
  pub degree_whole : is_whole (entry names.max_degree (worded text)) ≡ true
  pub constant_is : numbers.constant ≡ nat_abs (in_units 0 (entry (constant_name (worded text)) (worded text)))
  pub radius_is : numbers.radius ≡ nat_abs (in_units 3 (entry names.radius (worded text)))

abbrev pub NumbersRead : List ℕ → Result Numbers Malformed → Type 0
NumbersRead text result = MatchResult result (NumbersIn text) (λ malformed. numbers_fit (worded text) ≡ false)

-- the entries with words
unfoldable pub words_fit : List Line → Bool
words_fit entries =
    required names.product_type entries
    && (kept names.model_name entries
    && (kept names.errors entries
    && (kept names.norm entries
    && (kept names.tide_system entries
    && (same_word (entry names.product_type entries) names.gravity_field
    && (not (has names.norm entries) || same_word (entry names.norm entries) names.fully_normalized))))))

abbrev pub WordsRead : List ℕ → Result (Option PermanentSystem) Malformed → Type 0
WordsRead text result =
    MatchResult result
    (λ system. (words_fit (worded text) ≡ true) × (tells_system system ≡ system_said (entry names.tide_system (worded text))))
    (λ malformed. words_fit (worded text) ≡ false)

-- where the entries of a head stand
abbrev pub EntriesFound : List ℕ → Result (Bor (List ℕ)) Malformed → Type 0
EntriesFound head result =
    MatchResult result
    (λ entries. (once names.begin_of_head (worded head) ≡ true)
    × ((length entries.now ≤ length head) × (worded entries.now ≡ entries_of (worded head))))
    (λ malformed. once names.begin_of_head (worded head) ≡ false)
