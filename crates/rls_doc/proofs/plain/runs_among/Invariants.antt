use Rattle.std.proofs.Common.{◌≡◌, take}
use Rattle.rls_runs.specs.Entries.{idents_in}
use Rattle.rls_doc.proofs.plain.runs_among.Given as goal

abbrev pub invariant-loop-id : goal.invariant-loop-id
invariant-loop-id l = l.runs ≡ idents_in (take l.id-index l.entries)
