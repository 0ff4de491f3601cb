use Rattle.std.proofs.Common.{◌≡◌, ◌++◌, take}
use Rattle.rls_runs.specs.Runs.{idents_of}
use Rattle.rls_epoch.proofs.images.append_all.Given as goal

-- those in front of the index were appended
abbrev pub invariant-loop-run : goal.invariant-loop-run
invariant-loop-run l = l.ids ≡ l.fn.ids ++ idents_of (take l.run-index l.more)
