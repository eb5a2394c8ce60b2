-- A formed line's start is kept, and its counts while all are in range.
use Rattle.icgem_data.proofs.Kept.{kept_inside}
use Rattle.icgem_data.proofs.keep_line.Goals as goal

pub returns-in-Some : goal.returns-in-Some
returns-in-Some c =
    kept_inside c.in_ok-kept.ensures c.in-Some.is c.args.at c.args.before c.args.starts.now _ _ c.if-before.true c.requires.count_in_bounds_2 c.requires.count_in_bounds_3
    c.store.ensures c.store-in-Some.ensures
