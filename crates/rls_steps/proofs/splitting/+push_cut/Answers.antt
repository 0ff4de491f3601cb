use Rattle.std.proofs.Common.{◌≡◌, ◌++◌, List, OnOk, sym, subst, arith}
use Rattle.rls_ident.specs.declared.limits.TheConstants.{CHARACTERS}
use Rattle.rls_steps.specs.Marks.{Piece}
use Rattle.rls_steps.specs.Recorded.{steps_of}
use Rattle.rls_steps.proofs.PartSteps.{parts_short, more_parts}
use Rattle.rls_steps.proofs.splitting.+push_cut.Goals as goal

pub returns-then-len-le-CHARACTERS-clause-stack : goal.returns-then-len-le-CHARACTERS-clause-stack
returns-then-len-le-CHARACTERS-clause-stack t c =
    subst (λ (ps : List Piece). OnOk c.push_one-then-len-le-CHARACTERS.result (c.push_one-then-len-le-CHARACTERS.new.stack.items ≡ c.args.stack.now.items ++ steps_of c.args.group ps))
    (sym (parts_short CHARACTERS c.args.more c.args.labels.now c.args.text c.args.left c.args.right (omega (arith, c.len.ensures.len, c.if-len-le-CHARACTERS.true))))
    c.push_one-then-len-le-CHARACTERS.ensures.stack

pub returns-in-Ok-push_one-clause-stack : goal.returns-in-Ok-push_one-clause-stack
returns-in-Ok-push_one-clause-stack t c =
    more_parts CHARACTERS c.args.more c.args.group c.args.labels.now c.args.text c.args.left c.args.right c.min-most.result c.split_at.result.0.now c.split_at.result.1.now c.split_off.new.self c.in-Ok.rest c.last.result
    c.args.stack.now.items c.push_cut.new.stack.items c.push_one-in-Ok-push_cut.new.stack.items
    (omega arith) (omega (arith, c.len.ensures.len, c.if-len-le-CHARACTERS.false)) (omega (arith, c.min-most.ensures)) c.split_at.ensures.front c.split_at.ensures.back c.in-Ok.ensures.kept c.in-Ok.ensures.rest c.last.ensures.last
    c.in-Ok-push_cut.ensures.stack c.in-Ok-push_one.ensures.stack
