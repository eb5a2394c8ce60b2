-- Which number a file gives, exactly: each of 17, 18, 19 and 20 where those before it do not apply, and 1 after them.
use mathlib.Core.Bool.{Bool, true, false, cond, ◌&&◌}
use mathlib.Core.Path.{◌≡◌, refl}
use mathlib.Core.List.{List}
use Prim.Native.Nat.{ℕ}
use Rattle.limits.specs.Limits.{is_degree}
use Rattle.refusals.specs.Outcome.{first_of}
use Rattle.refusals.specs.Told.{told_number}
use Rattle.icgem_file.specs.Header.{data_of, degree_of, system_word}
use Rattle.icgem_file.specs.Data.{repeated, all_in_range}
use Rattle.icgem_file.specs.File.{formed, system_said, file_refusal}
use Rattle.icgem_words.specs.Words.{worded}

in_turn : (form twice within : Bool) (system : ℕ)
    → first_of (cond form 0 17) (first_of (cond twice 18 0) (first_of (cond within 0 19) system)) ≡ cond form (cond twice 18 (cond within system 19)) 17
unfolding first_of
in_turn false twice within system = refl
in_turn true true within system = refl
in_turn true false false system = refl
in_turn true false true system = refl

-- 17 where the file is not formed; else 18 where a place is repeated; else 19 where the degree or a value is out of range; else 20 where no system is known
pub file_table : (text : List ℕ)
    → file_refusal text
    ≡ cond (formed text)
    (cond (repeated (data_of (worded text))) 18
    (cond (is_degree (degree_of (worded text)) && all_in_range (data_of (worded text))) (told_number (system_said (system_word (worded text)))) 19))
    17
unfolding file_refusal
file_table text = in_turn (formed text) (repeated (data_of (worded text))) (is_degree (degree_of (worded text)) && all_in_range (data_of (worded text))) _
