use Rattle.rls_ident.specs.Tuples.{tuple_cmp}
use Rattle.rls_ident.specs.Identifiers.{ident_cmp}
use Rattle.rls_ident.proofs.Loops.{lengths_differ, not_eq}
use Rattle.rls_ident.proofs.ident.same_tuples.Goals as goal

pub returns-then-tuples-others : goal.returns-then-tuples-others
returns-then-tuples-others c = record { same = not_eq (ident_cmp c.args.tuples.now c.args.others.now) (lengths_differ tuple_cmp c.args.tuples.now c.args.others.now c.if-tuples-others.true) }
