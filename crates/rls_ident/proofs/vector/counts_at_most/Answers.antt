use Rattle.std.proofs.Common.{sym, arith}
use Rattle.rls_ident.proofs.Counts.{at_most_longer}
use Rattle.rls_ident.proofs.vector.counts_at_most.Goals as goal

pub returns-then-counts-others : goal.returns-then-counts-others
returns-then-counts-others c = record { at_most = sym (at_most_longer c.args.counts.now c.args.others.now (omega arith)) }
