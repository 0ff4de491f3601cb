use Rattle.std.proofs.Common.{◌∙◌, ◌++◌, List, ap, sym, append_assoc}
use Rattle.rls_ops.specs.declared.op.Op.{Op}
use Rattle.rls_parts.proofs.lists.waiting.Goals as goal

pub loop-op-preserved : goal.loop-op-preserved
loop-op-preserved c =
    rw (c.in_ok-push.ensures.ok, c.in_ok-copy.ensures.copy, append_assoc) (ap (λ (os : List Op). c.loop-op.ops ++ os) (sym c.in-Some.ensures.steps) ∙ c.loop-op.invariant)
