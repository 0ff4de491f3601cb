use Rattle.rls_top.specs.Due.{refused_lines}
use Rattle.rls_top.proofs.Pieces.{more_lines}
use Rattle.rls_top.proofs.made.lines_of.Goals as goal

pub loop-i-preserved : goal.loop-i-preserved
loop-i-preserved c =
    rw (c.in_ok-push_str.ensures.bytes, c.as_str.ensures.value, c.in_ok-line.ensures.line)
    (more_lines _ c.args.refused.now c.loop-i.i _ (refused_lines c.args.refused.now) c.get-author.ensures.refusal c.loop-i.invariant)
