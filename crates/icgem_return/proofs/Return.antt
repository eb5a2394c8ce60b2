-- A field that is written as text and read back is the same field.
use mathlib.Core.Path.{◌≡◌}
use mathlib.Core.Bool.{true}
use mathlib.Core.List.{List}
use Prim.Native.Nat.{ℕ, suc, ◌^◌, ◌≤◌, ◌<◌}
use native.Mathlib.Omega.{arith}
use borrow.Author.Tests.{le-leb, eq-eqb}
use lib.IntN.{ℤ}
use lib.ListN.{length}
use Rattle.choices.specs.declared.PermanentSystem.{PermanentSystem}
use Rattle.field.specs.Field.{size, shaped_by, field_refusal}
use Rattle.field.proofs.Accepted.{Accepted, accepted_field, size_most}
use Rattle.icgem_file.specs.File.{formed, file_refusal, read_refusal, file_list, head_said, told_head, file_head, read_file}
use Rattle.icgem_file.specs.Data.{c_in, s_in}
use Rattle.icgem_file.specs.Header.{Line}
use Rattle.icgem_words.specs.Words.{worded}
use Rattle.icgem_write.specs.Inner.{Has}
use Rattle.icgem_write.specs.Written.{file_text}
use Rattle.icgem_write.proofs.Lengths.{text_length}
use Rattle.limits.specs.Limits.{is_degree}
use Rattle.refusals.specs.Outcome.{first_of}
use Rattle.icgem_return.specs.Return.{told, Return}
use Rattle.icgem_return.proofs.Data.{data-formed, data_once, data_in_range, c_filled, s_filled}
use Rattle.icgem_return.proofs.Header.{Says, head_says, system-said}
use Rattle.icgem_return.proofs.Lines.{gathered}
use Rattle.icgem_return.proofs.Texts.{rows, text_reads}

module _ (n : ℕ) (c s : List ℤ) (constant radius : ℕ) (system : PermanentSystem) (e : field_refusal n c s ≡ 0) (k : constant < 2 ^ 64) (l : radius < 2 ^ 64) where
  abbrev text : List ℕ
  text = file_text n c s constant radius system

  abbrev places : List Line
  places = gathered (rows c s) (suc n)

  field : Accepted n c s
  field = accepted_field n c s e

  says : Says (worded text) n constant radius system places
  says =
      rw (text_reads n c s field.largest field.c_range field.s_range constant radius system k l)
      (head_says n constant radius system places k l)

  short : length text ≤ 131072
  short =
      let c-has : Has n c = record { long = omega (arith, field.c_size); range = field.c_range } in
      let s-has : Has n s = record { long = omega (arith, field.s_size); range = field.s_range } in
      omega (arith, text_length n c s field.largest c-has s-has constant radius system k l, size_most n field.largest)

  is_formed : formed text ≡ true
  unfolding formed
  is_formed = rw (le-leb (length text) 131072 short, says.formed, says.degree_is, says.data_is) (data-formed n c s)

  is-degree : is_degree n ≡ true
  is-degree = rw (le-leb 4 n field.least, le-leb n 60 field.largest)

  no_refusal : file_refusal text ≡ 0
  unfolding file_refusal first_of
  no_refusal =
      rw (is_formed, says.data_is, says.degree_is, says.system_is, data_once n c s, is-degree, data_in_range n c s field.c_range field.s_range, system-said system)

  is_head : head_said text ≡ told n constant radius system
  unfolding head_said
  is_head = rw (says.system_is, system-said system, says.degree_is, says.constant_is, says.radius_is)

  head_returns : file_head text ≡ told n constant radius system
  unfolding told_head
  head_returns = rw no_refusal is_head

  c_returns : file_list c_in text ≡ c
  unfolding file_list
  c_returns = rw (says.data_is, says.degree_is) (c_filled n c s field.c_size)

  s_returns : file_list s_in text ≡ s
  unfolding file_list
  s_returns = rw (says.data_is, says.degree_is) (s_filled n c s field.s_size)

  module _ (c₀ s₀ : List ℤ) (hc : length c₀ ≡ size n) (hs : length s₀ ≡ size n) where
    fits : read_refusal text (length c₀) (length s₀) ≡ 0
    unfolding read_refusal first_of shaped_by
    fits = rw (no_refusal, says.degree_is, is-degree, eq-eqb (length c₀) (size n) hc, eq-eqb (length s₀) (size n) hs)

    field_returns : read_file text c₀ s₀ ≡ record { head = told n constant radius system; c = c; s = s }
    unfolding read_file told_head
    field_returns = rw (fits, is_head, c_returns, s_returns)

pub return : Return
return = record { head = head_returns; field = field_returns }
