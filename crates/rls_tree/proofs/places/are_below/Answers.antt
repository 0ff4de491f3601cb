use Rattle.std.proofs.Common.{arith}
use Rattle.std.proofs.lemmas.Int.{ints}
use Rattle.rls_runs.proofs.RunEnds.{run_end}
use Rattle.rls_runs.proofs.RunOrder.{run_some}
use Rattle.rls_tree.proofs.places.are_below.Goals as goal

pub overflow_sub-len : goal.overflow_sub-len
overflow_sub-len c = omega (arith, run_some (c.args.first.now, c.args.len) c.requires.run)

pub compare_shifted-requires : goal.compare_shifted-requires
compare_shifted-requires c =
    let end = run_end (c.args.first.now, c.args.len) c.requires.run in
    let some = run_some (c.args.first.now, c.args.len) c.requires.run in
    record { greatest = omega (arith, ints, end, some) }
