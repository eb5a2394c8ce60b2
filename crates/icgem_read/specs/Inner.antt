-- Inner contracts, no words of 02: what the functions that read a file say to one another.
use Rattle.std.specs.Prelude.{true, false, cond, ◌&&◌, List, ◌≡◌, ℕ, ℤ, Option, MatchOption, Result, MatchResult}
use Rattle.limits.specs.Limits.{is_degree}
use Rattle.refusals.specs.declared.Refusal.{Refusal}
use Rattle.refusals.specs.Numbers.{refusal_number}
use Rattle.refusals.specs.Outcome.{first_of}
use Rattle.refusals.specs.Told.Told.{accepted}
use Rattle.icgem_file.specs.declared.FileHead.{FileHead}
use Rattle.icgem_file.specs.Header.{Line, data_of, degree_of}
use Rattle.icgem_file.specs.Data.{c_in, s_in, data_formed, repeated, all_in_range, filled}
use Rattle.icgem_file.specs.File.{file_refusal, head_said}
use Rattle.icgem_words.specs.Words.{worded}

-- a file's degree, where a field can have it
abbrev pub DegreeRead : ℕ → Option ℕ → Type 0
DegreeRead n result = MatchOption result (is_degree n ≡ false) (λ degree. (is_degree n ≡ true) × (degree ≡ n))

-- the refusals that a file's data give
unfoldable pub data_refusal : ℕ → List Line → ℕ
data_refusal n lines = first_of (cond (data_formed n lines) 0 17) (first_of (cond (repeated lines) 18 0) (cond (is_degree n && all_in_range lines) 0 19))

-- the lists that the lines have filled, where nothing refuses them
pub record Filled (lines : List Line) (c s c' s' : List ℤ) : Type 0 where
  pub c_is : c' ≡ filled c_in lines c
  pub s_is : s' ≡ filled s_in lines s

abbrev pub DataRead : ℕ → List Line → List ℤ → List ℤ → Result ℕ Refusal → List ℤ → List ℤ → Type 0
DataRead n lines c s result c' s' =
    MatchResult result
    (λ degree. (data_refusal n lines ≡ 0) × ((degree ≡ n) × Filled lines c s c' s'))
    (λ why. data_refusal n lines ≡ refusal_number why)

-- a file gone through: what it says where nothing refuses it
pub record Passed (text : List ℕ) (c s : List ℤ) (head : FileHead) (c' s' : List ℤ) : Type 0 where
  pub none : file_refusal text ≡ 0
  pub head_is : head_said text ≡ accepted head
  pub degree_is : head.degree ≡ degree_of (worded text)
  pub lists : Filled (data_of (worded text)) c s c' s'

abbrev pub FilePassed : List ℕ → List ℤ → List ℤ → Result FileHead Refusal → List ℤ → List ℤ → Type 0
FilePassed text c s result c' s' = MatchResult result (λ head. Passed text c s head c' s') (λ why. file_refusal text ≡ refusal_number why)
