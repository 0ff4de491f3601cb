-- The report of a replica's numbers.
use Rattle.std.specs.Prelude.{ℕ, List}
use Rattle.rls_model.specs.History.{group_of, me_of, members_of, count}
use Rattle.rls_model.specs.Receiving.{State}
use Rattle.rls_model.specs.Retained.{counts}
use Rattle.rls_seen.specs.Kept.{counts_over}
use Rattle.rls_seen.specs.Seen.{Seen, members, vector}
use Rattle.rls_report.specs.Reports.{stat_text}

-- of a history and what waits beside it
abbrev pub stat_of : State → List ℕ
stat_of t = stat_text (group_of t.history) (me_of t.history) (members_of t.history) (count t.history) (counts t)

-- and the same over what a replica consists of
abbrev pub stat_over : Seen → List ℕ
stat_over s = stat_text s.group s.acks.me (members s) (vector s) (counts_over s)
