use Rattle.rls_script.specs.Scripts.{is_line_feed}
use Rattle.rls_script.proofs.LineEnds.{position_or_len_le}
use Rattle.rls_script.proofs.parsing.first_line.Goals as goal

pub split_at-requires : goal.split_at-requires
split_at-requires c = rw c.line_end.ensures.end (position_or_len_le is_line_feed c.args.script.now)
