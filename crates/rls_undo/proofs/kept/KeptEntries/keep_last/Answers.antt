use Rattle.rls_undo.proofs.Keeping.{kept_dropped, last_view}
use Rattle.rls_undo.proofs.kept.KeptEntries.keep_last.Goals as goal

pub invariant_of-self : goal.invariant_of-self
invariant_of-self c = rw c.keep_last.ensures.entries (kept_dropped 0 _ _ c.self.inside.entries.items c.self.invariant)

pub returns : goal.returns
returns c = record { entries = rw c.keep_last.ensures.entries (last_view c.self.inside.bases.items c.self.inside.entries.items c.args.self.now c.args.n c.self.view_is) }
