use Rattle.std.proofs.Common.{◌≡◌, ◌-◌, ◌^◌, min, take, sum_by}
use Rattle.rls_fields.proofs.sizes.entries_len.Given as goal

-- those so far
abbrev pub invariant-loop-entry : goal.invariant-loop-entry
invariant-loop-entry g l = l.total ≡ min (sum_by g.E.Entry.size (take l.entry-index l.entries)) (2 ^ 64 - 1)
