-- The header of a gravity field file (document 02, T-10). A line is the list of its words; lines without a word are passed over.
use Rattle.std.specs.Prelude.{Bool, false, cond, not, ◌&&◌, ◌||◌, List, [], ◌∷◌, ℕ, leb, nat_abs, length, get_or}
use Rattle.std.specs.Int.Signed.{non_neg}
use Rattle.icgem_decimal.specs.Decimal.{is_whole, is_decimal, value_of, in_units}
use Rattle.icgem_names.specs.Names as names
use Rattle.icgem_words.specs.Words.{same_word}

abbrev pub Word : Type 0
Word = List ℕ

abbrev pub Line : Type 0
Line = List Word

abbrev pub word_at : ℕ → Line → Word
word_at k line = get_or line k []

-- a line's first word is the key
abbrev pub keyed : Word → Line → Bool
keyed key line = same_word (word_at 0 line) key

-- ---- Lines about the first one with a key
unfoldable pub has : Word → List Line → Bool
has key [] = false
has key (line ∷ others) = keyed key line || has key others

unfoldable pub before : Word → List Line → List Line
before key [] = []
before key (line ∷ others) = cond (keyed key line) [] (line ∷ before key others)

unfoldable pub after : Word → List Line → List Line
after key [] = []
after key (line ∷ others) = cond (keyed key line) others (after key others)

-- the first such line itself
unfoldable pub first : Word → List Line → Line
first key [] = []
first key (line ∷ others) = cond (keyed key line) line (first key others)

-- no second one
abbrev pub once : Word → List Line → Bool
once key lines = not (has key (after key lines))

-- ---- The header and the data
-- "up to the line whose first word is end_of_head"
abbrev pub head_of : List Line → List Line
head_of file = before names.end_of_head file

abbrev pub data_of : List Line → List Line
data_of file = after names.end_of_head file

-- what stands before begin_of_head is comment
unfoldable pub entries_of : List Line → List Line
entries_of head = cond (has names.begin_of_head head) (after names.begin_of_head head) head

-- ---- Entries
-- a known entry's value is the word behind the keyword
abbrev pub entry : Word → List Line → Word
entry key entries = word_at 1 (first key entries)

-- a known entry stands at most once, and has a value
unfoldable pub kept : Word → List Line → Bool
kept key entries = not (has key entries) || (once key entries && leb 2 (length (first key entries)))

-- the gravity constant has two names, of which one alone is used
unfoldable pub constant_name : List Line → Word
constant_name entries = cond (has names.gravity_constant entries) names.gravity_constant names.plain_constant

unfoldable pub constant_kept : List Line → Bool
constant_kept entries =
    (kept names.gravity_constant entries && kept names.plain_constant entries)
    && not (has names.gravity_constant entries && has names.plain_constant entries)

-- a constant is a decimal whose nearest whole number of units is unsigned and of 64 bits
unfoldable pub is_constant : ℕ → Word → Bool
is_constant places word = is_decimal word && (non_neg (in_units places word) && leb (nat_abs (in_units places word)) 18446744073709551615)

-- the entries that are known, each at most once and with a value; those that are required; and their values
unfoldable pub all_kept : List Line → Bool
all_kept entries =
    constant_kept entries
    && (kept names.product_type entries && (kept names.model_name entries && (kept names.radius entries && (kept names.max_degree entries
    && (kept names.errors entries && (kept names.norm entries && kept names.tide_system entries))))))

unfoldable pub all_there : List Line → Bool
all_there entries =
    has names.product_type entries && (has (constant_name entries) entries && (has names.radius entries && has names.max_degree entries))

unfoldable pub all_taken : List Line → Bool
all_taken entries =
    same_word (entry names.product_type entries) names.gravity_field
    && ((not (has names.norm entries) || same_word (entry names.norm entries) names.fully_normalized)
    && (is_whole (entry names.max_degree entries)
    && (is_constant 0 (entry (constant_name entries) entries) && is_constant 3 (entry names.radius entries))))

-- the header ends, begins once at most, and its entries are as they should be
unfoldable pub head_formed : List Line → Bool
head_formed file =
    (has names.end_of_head file && once names.begin_of_head (head_of file))
    && (all_kept (entries_of (head_of file)) && (all_there (entries_of (head_of file)) && all_taken (entries_of (head_of file))))

-- ---- What an accepted header says
abbrev pub degree_word : List Line → Word
degree_word file = entry names.max_degree (entries_of (head_of file))

unfoldable pub degree_of : List Line → ℕ
degree_of file = value_of (degree_word file)

-- whole m3/s2, and whole millimetres
unfoldable pub constant_of : List Line → ℕ
constant_of file = nat_abs (in_units 0 (entry (constant_name (entries_of (head_of file))) (entries_of (head_of file))))

unfoldable pub radius_of : List Line → ℕ
radius_of file = nat_abs (in_units 3 (entry names.radius (entries_of (head_of file))))

-- 20: "absent or any other"
abbrev pub system_word : List Line → Word
system_word file = entry names.tide_system (entries_of (head_of file))
