use Rattle.std.proofs.Common.{◌++◌, ◌∙◌, ap}
use Rattle.rls_session.proofs.ChangeLines.{next_line}
use Rattle.rls_session.proofs.change_lines.push_lines.Goals as goal

pub changes-preserved : goal.changes-preserved
changes-preserved c =
    next_line c.args.changes.now c.index-changes-i.result c.changes.i c.args.reply.now.items c.changes.reply.items c.extend_from_slice.new.self.items c.changes-test.true c.index-changes-i.is c.changes.invariant
    (c.in_ok-extend_from_slice.ensures.items ∙ ap (λ x. c.changes.reply.items ++ x) (c.deref.ensures.value ∙ c.in_ok-line.ensures.text))
