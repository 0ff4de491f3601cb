use Rattle.rls_session.proofs.Answered.{on_ok}
use Rattle.rls_session.proofs.ChangeLines.{escaped_read, in_parts}
use Rattle.rls_session.proofs.change_lines.escaped.Goals as goal

pub returns-in_err-push_escaped-clause-meaning : goal.returns-in_err-push_escaped-clause-meaning
returns-in_err-push_escaped-clause-meaning c = escaped_read c.args.text.now

pub returns-in_err-push_escaped-2-clause-meaning : goal.returns-in_err-push_escaped-2-clause-meaning
returns-in_err-push_escaped-2-clause-meaning c = escaped_read c.args.text.now

pub returns-clause-utf8 : goal.returns-clause-utf8
returns-clause-utf8 c =
    on_ok c.to_utf8.result _ _ (λ bytes text.
    in_parts c.as_slices.result.0.now c.as_slices.result.1.now c.args.text.now c.new-written.result c.push_escaped.new.written c.push_escaped-2.new.written _ c.as_slices.ensures.chars c.new-written.ensures.empty c.in_ok-push_escaped.ensures.ok c.in_ok-push_escaped-2.ensures.ok text) c.to_utf8.ensures.utf8

pub returns-clause-meaning : goal.returns-clause-meaning
returns-clause-meaning c = escaped_read c.args.text.now
