-- A gravity field file read (document 02, T-10): its refusals 17, 18, 19, 20 and 1 in this order, and what it gives.
use Rattle.std.specs.Prelude.{Bool, cond, ◌&&◌, List, ℕ, eqb, leb, ℤ, pos, length, replicate}
use Rattle.choices.specs.declared.PermanentSystem.{PermanentSystem}
use Rattle.choices.specs.declared.PermanentSystem.TheVariants.{TideFree, Zero, Mean}
use Rattle.field.specs.Field.{size, shaped_by}
use Rattle.limits.specs.Limits.{is_degree}
use Rattle.refusals.specs.Outcome.{first_of}
use Rattle.refusals.specs.Told.{Told, told_number, next}
use Rattle.refusals.specs.Told.Told.{accepted, refused}
use Rattle.icgem_names.specs.Names.{system_name}
use Rattle.icgem_words.specs.Words.{same_word, worded}
use Rattle.icgem_file.specs.declared.FileHead.{FileHead}
use Rattle.icgem_file.specs.Header.{Word, Line, head_formed, data_of, degree_of, constant_of, radius_of, system_word}
use Rattle.icgem_file.specs.Data.{data_formed, repeated, all_in_range, filled, c_in, s_in}

-- 17: longer than 128 KiB, or a header or a line of data that is not as it should be
unfoldable pub formed : List ℕ → Bool
formed text = leb (length text) 131072 && (head_formed (worded text) && data_formed (degree_of (worded text)) (data_of (worded text)))

-- 20: "The header's tide system is one of tide_free, zero_tide, mean_tide; absent or any other is refused"
unfoldable pub system_said : Word → Told PermanentSystem
system_said word =
    cond (same_word word (system_name TideFree)) (accepted TideFree)
    (cond (same_word word (system_name Zero)) (accepted Zero)
    (cond (same_word word (system_name Mean)) (accepted Mean) (refused 20)))

-- 17, 18, 19 and 20: each looks at the whole file, and the first that applies is answered
unfoldable pub file_refusal : List ℕ → ℕ
file_refusal text =
    first_of (cond (formed text) 0 17)
    (first_of (cond (repeated (data_of (worded text))) 18 0)
    (first_of (cond (is_degree (degree_of (worded text)) && all_in_range (data_of (worded text))) 0 19) (told_number (system_said (system_word (worded text))))))

-- then 1: lists that do not fit the file's degree
unfoldable pub read_refusal : List ℕ → ℕ → ℕ → ℕ
read_refusal text c s = first_of (file_refusal text) (cond (shaped_by (degree_of (worded text)) c s) 0 1)

-- a list of zeros with each line's count in its place
unfoldable pub file_list : (Line → ℤ) → List ℕ → List ℤ
file_list count text = filled count (data_of (worded text)) (replicate (size (degree_of (worded text))) (pos 0))

-- what a file says beside its coefficients
unfoldable pub head_said : List ℕ → Told FileHead
head_said text =
    next (system_said (system_word (worded text)))
    (λ system. accepted (record { degree = degree_of (worded text); constant = constant_of (worded text); radius = radius_of (worded text); system = system }))

-- ---- The calls
-- the head, or the number that refuses
unfoldable pub told_head : ℕ → List ℕ → Told FileHead
told_head number text = cond (eqb number 0) (head_said text) (refused number)

abbrev pub file_head : List ℕ → Told FileHead
file_head text = told_head (file_refusal text) text

-- what reading answers, and every entry of both lists afterwards
pub record FileRead : Type 0 where
  pub head : Told FileHead
  pub c : List ℤ
  pub s : List ℤ

unfoldable pub read_file : List ℕ → List ℤ → List ℤ → FileRead
read_file text c s =
    let number = read_refusal text (length c) (length s) in
    record {
      head = told_head number text;
      c = cond (eqb number 0) (file_list c_in text) c;
      s = cond (eqb number 0) (file_list s_in text) s;
    }
