use Rattle.std.proofs.Common.{refl}
use Rattle.rls_ident.proofs.Counts.{set-raise}
use Rattle.rls_ident.proofs.vector.raise_count.Goals as goal

pub returns : goal.returns
returns c = record { raise = set-raise c.args.counts.now c.args.i c.requires.member 0 _ refl }
