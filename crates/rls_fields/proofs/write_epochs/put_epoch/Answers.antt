use Rattle.std.proofs.Common.{List, sym, subst}
use Rattle.std.specs.Prelude.{◌^◌, ◌<◌}
use Rattle.rls_ident.specs.declared.tuple.Tuple.{Tuple}
use Rattle.rls_codec.proofs.SizeLaws.{short_runs}
use Rattle.rls_model.specs.Parts.{epoch_part, node_of}
use Rattle.rls_ops.specs.Sizes.{runs_size}
use Rattle.rls_fields.proofs.Puts.{small_opening}
use Rattle.rls_fields.proofs.write_epochs.put_epoch.Goals as goal

short : (c : goal.After-former) → runs_size c.former.result.now < 2 ^ 32
short c =
    let e = epoch_part c.args.places.now c.args.name (node_of c.args.epochs.now.epochs.nodes c.args.name) in
    subst (λ (xs : List (List Tuple)). runs_size xs < 2 ^ 32) (sym c.former.ensures.former) (small_opening e c.in-Some.place c.in-Some.renaming.now.former (sym c.in-Some.ensures.opening) c.requires.small)

pub put_runs-requires-clause-count : goal.put_runs-requires-clause-count
put_runs-requires-clause-count c = (short_runs c.former.result.now (short c)).0

pub put_runs-requires-clause-idents : goal.put_runs-requires-clause-idents
put_runs-requires-clause-idents c = (short_runs c.former.result.now (short c)).1
