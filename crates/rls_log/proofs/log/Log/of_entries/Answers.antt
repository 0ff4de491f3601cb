use Rattle.std.proofs.Common.{List, subst}
use Rattle.rls_log.specs.declared.entry.Entry.{Entry}
use Rattle.rls_log.specs.Encoded.{AreEntries, ops_in}
use Rattle.rls_log.specs.Latest.{Bounds}
use Rattle.rls_log.proofs.log.Log.of_entries.Goals as goal

pub invariant_of-result : goal.invariant_of-result
invariant_of-result c = record {
  entries = c.requires.entries;
  values = c.requires.values;
  latest = subst (λ (es : List Entry). AreEntries c.args.bytes.items es → Bounds c.in_ok-latest.latest (ops_in c.args.bytes.items es)) c.deref.ensures.value (c.in_ok-latest.ensures.bounds c.args.bytes.items) c.requires.entries;
}
