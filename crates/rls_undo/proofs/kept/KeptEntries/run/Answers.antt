use Rattle.rls_undo.proofs.Keeping.{got}
use Rattle.rls_undo.proofs.kept.KeptEntries.run.Goals as goal

pub run_of-requires-clause-range : goal.run_of-requires-clause-range
run_of-requires-clause-range c = (got c.self.inside.bases.items c.self.inside.entries.items c.args.self.now c.args.at c.index.result.now c.self.view_is c.self.invariant c.requires.at c.index.ensures).0

pub run_of-requires-clause-bases : goal.run_of-requires-clause-bases
run_of-requires-clause-bases c = rw c.deref.ensures.value (got c.self.inside.bases.items c.self.inside.entries.items c.args.self.now c.args.at c.index.result.now c.self.view_is c.self.invariant c.requires.at c.index.ensures).1
