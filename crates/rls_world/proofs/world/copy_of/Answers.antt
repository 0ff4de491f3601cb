use Rattle.std.proofs.Common.{◌∙◌, ◌++◌, ◌∷◌, [], ◌+◌, List, drop, sym, ap, append_assoc}
use Rattle.rls_ident.proofs.Loops.{drop_reads}
use Rattle.rls_ops.specs.declared.op.Op.{Op}
use Rattle.rls_world.proofs.world.copy_of.Goals as goal

pub loop-i-preserved : goal.loop-i-preserved
loop-i-preserved c =
    let all = c.args.message.now.ops in
    let o = c.get.result.now in
    let rest = drop (c.loop-i.i + 1) all in
    rw (c.in_ok-push.ensures.ok, c.in_ok-copy.ensures.copy)
    (append_assoc c.loop-i.ops (o ∷ []) rest ∙ (ap (λ (os : List Op). c.loop-i.ops ++ os) (sym (drop_reads all c.loop-i.i o c.get.ensures.op)) ∙ c.loop-i.invariant))
