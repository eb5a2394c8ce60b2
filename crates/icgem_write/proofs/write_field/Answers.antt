-- A field that is not refused has its text put where there is room for it.
use mathlib.Core.Path.{◌≡◌, sym}
use Prim.Native.Nat.{◌+◌, ◌*◌}
use native.Mathlib.Omega.{arith}
use lib.ListN.{length}
use Rattle.field.specs.Field.{size, field_refusal}
use Rattle.field.proofs.Accepted.{Accepted, accepted_field}
use Rattle.refusals.proofs.Numbers.{refusal_not_zero}
use Rattle.icgem_write.specs.Inner.{Has}
use Rattle.icgem_write.specs.Written.{file_text}
use Rattle.icgem_write.proofs.Lengths.{text_length}
use Rattle.icgem_write.proofs.Outcome.{writes_refused, writes_short, writes_text}
use Rattle.std.proofs.lemmas.Result.{err_from_is_err_and}
use Rattle.icgem_write.proofs.write_field.Goals as goal
use Rattle.icgem_write.proofs.write_field.Goals.{In_ok-tested}

-- the field is accepted
module _ (e : In_ok-tested) where
  passed : field_refusal e.args.n e.args.c.now e.args.s.now ≡ 0
  passed = sym e.in_ok-tested.ensures

  field : Accepted e.args.n e.args.c.now e.args.s.now
  field = accepted_field _ _ _ passed

  has_c : Has e.args.n e.args.c.now
  has_c = record { long = omega (arith, field.c_size); range = field.c_range }

  has_s : Has e.args.n e.args.s.now
  has_s = record { long = omega (arith, field.s_size); range = field.s_range }

  long : length (file_text e.args.n e.args.c.now e.args.s.now e.args.constant e.args.radius e.args.system) ≡ 54 * (9 + size e.args.n)
  long = text_length _ _ _ field.largest has_c has_s _ _ _ (omega arith) (omega arith)

pub returns-in_err-tested : goal.returns-in_err-tested
returns-in_err-tested c =
    let p = err_from_is_err_and c.from_residual.result c.from_residual.ensures.1 in
    let why = c.in_err-tested.field-0.0 in
    rw (p.1, p.2) (writes_refused _ _ _ _ _ _ _ _ c.in_err-tested.ensures (refusal_not_zero why))

pub bytes_of-requires : goal.bytes_of-requires
bytes_of-requires c = (field c).largest

pub put_field-requires : goal.put_field-requires
put_field-requires c =
    let e = (goal.at.put_field-requires c).In_ok-tested in
    record { room = omega arith; degree = (field e).largest; has_c = has_c e; has_s = has_s e }

pub returns-then-out-bytes_of : goal.returns-then-out-bytes_of
returns-then-out-bytes_of c =
    let e = (goal.at.returns-then-out-bytes_of c).In_ok-tested in
    writes_short _ _ _ _ _ _ _ (passed e) (omega (arith, long e))

pub returns : goal.returns
returns c =
    let e = (goal.at.returns c).In_ok-tested in
    writes_text _ _ _ _ _ _ _ (passed e) (omega (arith, long e)) c.put_field.ensures.put
