use Rattle.rls_session.proofs.ChangeLines.{next_char}
use Rattle.rls_session.proofs.change_lines.push_escaped.Goals as goal

pub chars-preserved : goal.chars-preserved
chars-preserved c = next_char c.args.chars.now c.index-chars-i.result c.chars.i c.args.written.now c.chars.written c.push_escaped_char.new.written c.chars-test.true c.index-chars-i.is c.chars.invariant c.in_ok-push_escaped_char.ensures.ok
