use Rattle.std.proofs.Common.{◌-◌, get_or, length, arith}
use Rattle.rls_epoch.proofs.Found.{read_in}
use Rattle.rls_epoch.proofs.nodes.Nodes.epochs_below_newest.Goals as goal

pub overflow_add-places : goal.overflow_add-places
overflow_add-places c =
    let w = c.requires.within (get_or c.args.places.now (length c.args.places.now - 1) 0) (read_in c.args.places.now (length c.args.places.now - 1) (omega arith)) in
    omega arith

pub compare-requires-clause-first : goal.compare-requires-clause-first
compare-requires-clause-first c =
    let w = c.requires.within (get_or c.args.places.now (length c.args.places.now - 1) 0) (read_in c.args.places.now (length c.args.places.now - 1) (omega arith)) in
    omega arith
