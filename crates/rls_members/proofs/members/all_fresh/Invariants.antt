use Rattle.std.proofs.Common.{◌≡◌, take}
use Rattle.rls_top.specs.Groups.{fresh_group}
use Rattle.rls_members.proofs.members.all_fresh.Given as goal

-- those of the members below are there
abbrev pub invariant-loop-me : goal.invariant-loop-me
invariant-loop-me l = l.files.items ≡ take l.me (fresh_group l.group l.members).files
