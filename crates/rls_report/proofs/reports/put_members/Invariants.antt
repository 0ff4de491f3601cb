use Rattle.std.proofs.Common.{◌≡◌, ◌++◌, string_bytes, drop}
use Rattle.rls_report.specs.Reports.{member_lines}
use Rattle.rls_report.proofs.reports.put_members.Given as goal

abbrev pub invariant-loop-member : goal.invariant-loop-member
invariant-loop-member l = string_bytes l.text ++ member_lines l.member (drop l.member l.members) ≡ string_bytes l.fn.text ++ member_lines 0 l.members
