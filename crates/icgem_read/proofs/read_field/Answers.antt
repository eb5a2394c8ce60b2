-- The lists that were filled go into those that are lent, where neither the file nor their lengths refuse it.
use mathlib.Core.Path.{sym, ap, ◌∙◌}
use native.Mathlib.Omega.{arith}
use lib.ListN.{length}
use lib.Seq.{length-take-le}
use Rattle.refusals.specs.Numbers.{refusal_number}
use Rattle.icgem_file.specs.File.{read_file}
use Rattle.icgem_read.specs.Told.{Reads}
use Rattle.icgem_read.proofs.Calls.{told_err, reads_refused, reads_misfit, c_most, s_most, reads_accepted}
use Rattle.icgem_read.proofs.read_field.Goals as goal

pub returns-in_err-head : goal.returns-in_err-head
returns-in_err-head c =
    told_err (λ told. Reads (read_file c.args.text.now c.args.c.now c.args.s.now) told c.args.c.now c.args.s.now) c.from_residual.result c.from_residual.ensures.1
    (λ why e. reads_refused c.args.text.now c.args.c.now c.args.s.now why (c.in_err-head.ensures ∙ ap refusal_number (sym e)))

pub returns-in_err-shape_tested : goal.returns-in_err-shape_tested
returns-in_err-shape_tested c =
    told_err (λ told. Reads (read_file c.args.text.now c.args.c.now c.args.s.now) told c.args.c.now c.args.s.now)
    c.from_residual-in_err-shape_tested.result c.from_residual-in_err-shape_tested.ensures.1
    (λ why e. reads_misfit c.args.text.now c.args.c.now c.args.s.now c.in_ok-head.ensures why (ap refusal_number e ∙ c.in_err-shape_tested.ensures))

pub slice_bounds-new_c-end : goal.slice_bounds-new_c-end
slice_bounds-new_c-end c =
    omega (arith, c_most c.args.text.now c.args.c.now c.args.s.now c.in_ok-head.ensures c.in_ok-shape_tested.ensures, c.pass.array_long)

pub slice_bounds-copy_from_slice-end : goal.slice_bounds-copy_from_slice-end
slice_bounds-copy_from_slice-end c =
    sym (length-take-le (length c.args.c.now) c.pass.new.c
    (omega (arith, c_most c.args.text.now c.args.c.now c.args.s.now c.in_ok-head.ensures c.in_ok-shape_tested.ensures, c.pass.array_long)))

pub copy_from_slice-requires : goal.copy_from_slice-requires
copy_from_slice-requires c =
    sym (length-take-le (length c.args.c.now) c.pass.new.c
    (omega (arith, c_most c.args.text.now c.args.c.now c.args.s.now c.in_ok-head.ensures c.in_ok-shape_tested.ensures, c.pass.array_long)))

pub slice_bounds-new_s-end : goal.slice_bounds-new_s-end
slice_bounds-new_s-end c =
    omega (arith, s_most c.args.text.now c.args.c.now c.args.s.now c.in_ok-head.ensures c.in_ok-shape_tested.ensures, c.pass.array_long2)

pub slice_bounds-copy_from_slice-end-2 : goal.slice_bounds-copy_from_slice-end-2
slice_bounds-copy_from_slice-end-2 c =
    sym (length-take-le (length c.args.s.now) c.pass.new.s
    (omega (arith, s_most c.args.text.now c.args.c.now c.args.s.now c.in_ok-head.ensures c.in_ok-shape_tested.ensures, c.pass.array_long2)))

pub copy_from_slice-requires-2 : goal.copy_from_slice-requires-2
copy_from_slice-requires-2 c =
    sym (length-take-le (length c.args.s.now) c.pass.new.s
    (omega (arith, s_most c.args.text.now c.args.c.now c.args.s.now c.in_ok-head.ensures c.in_ok-shape_tested.ensures, c.pass.array_long2)))

pub returns : goal.returns
returns c =
    reads_accepted c.args.text.now c.args.c.now c.args.s.now c.in_ok-head.ensures c.in_ok-shape_tested.ensures c.copy_from_slice.ensures.after c.copy_from_slice-2.ensures.after
