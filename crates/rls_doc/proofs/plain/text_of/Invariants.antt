use Rattle.std.proofs.Common.{◌≡◌, take}
use Rattle.rls_runs.specs.Entries.{chars_in}
use Rattle.rls_doc.proofs.plain.text_of.Given as goal

abbrev pub invariant-loop-c : goal.invariant-loop-c
invariant-loop-c l = l.text ≡ chars_in (take l.c-index l.entries)
