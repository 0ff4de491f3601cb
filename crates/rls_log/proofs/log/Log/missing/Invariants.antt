use Rattle.std.proofs.Common.{◌≡◌, take}
use Rattle.rls_ops.specs.Rows.{missing_for}
use Rattle.rls_log.specs.Encoded.{AreEntries, ops_in}
use Rattle.rls_log.specs.Large.{AreLarge}
use Rattle.rls_log.proofs.log.Log.missing.Given as goal

-- those so far
abbrev pub invariant-loop-i : goal.invariant-loop-i
invariant-loop-i l = record {
  entries : AreEntries l.bytes.items l.entries.items;
  values : AreLarge l.bytes.items l.values.items;
  missing : ops_in l.bytes.items l.entries.items ≡ missing_for l.vector (take l.i (ops_in l.self-inside.bytes.items l.self-inside.entries.items));
}
