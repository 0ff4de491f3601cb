use Rattle.rls_ops.proofs.KeptRows.{raised_rows}
use Rattle.rls_stable.proofs.rows.Rows.raise.Goals as goal

pub invariant_of-self : goal.invariant_of-self
invariant_of-self c = rw c.raise.ensures.raise (raised_rows _ c.args.author c.self.invariant)
