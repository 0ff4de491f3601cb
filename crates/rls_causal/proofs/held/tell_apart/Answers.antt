use Rattle.std.proofs.Common.{Some, ap, sym, ◌∙◌}
use Rattle.rls_ops.proofs.Equal.{op_is}
use Rattle.rls_causal.proofs.held.tell_apart.Goals as goal

pub returns-then-same : goal.returns-then-same
returns-then-same c = record { answer = ap Some (op_is c.args.held.now c.args.op.now (sym c.same.ensures.same ∙ c.if-same.true)) }
