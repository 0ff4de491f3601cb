use Rattle.std.proofs.Common.{◌≡◌, ◌∙◌, ◌-◌, List, ℕ, ap, sym, subst, length, take, arith}
use Rattle.rls_log.specs.declared.entry.Entry.{Entry}
use Rattle.rls_log.specs.Encoded.{AreEntries, EntriesFound, ops_in}
use Rattle.rls_log.specs.Large.{AreLarge}
use Rattle.rls_log.proofs.Entries.{fewer}
use Rattle.rls_log.proofs.Larges.{values_within}
use Rattle.rls_log.proofs.reading.log_of.Goals as goal

cut : (bytes rest : List ℕ) (members count : ℕ) (es : List Entry) → EntriesFound bytes members count es rest
    → AreEntries (take (length bytes - length rest) bytes) es × (ops_in (take (length bytes - length rest) bytes) es ≡ ops_in bytes es)
cut bytes rest members count es h = fewer bytes (length bytes - length rest) es (omega arith) h.entries h.ends

pub of_entries-requires : goal.of_entries-requires
of_entries-requires c =
    let front = c.in_ok-bytes.ensures.items ∙ c.split_at.ensures.front in
    record {
      entries = subst (λ (b : List ℕ). AreEntries b c.args.found.entries.items) (sym front) (cut c.args.bytes.now c.args.rest.now _ _ c.args.found.entries.items c.requires.found).0;
      values = subst (λ (b : List ℕ). AreLarge b c.args.found.values.items) (sym front) (values_within c.args.bytes.now (length c.args.bytes.now - length c.args.rest.now) c.args.found.values.items (omega arith) c.requires.values);
    }

pub returns : goal.returns
returns c = record {
  log = c.in_ok-log.ensures.ops ∙ ap (λ (b : List ℕ). ops_in b c.args.found.entries.items) (c.in_ok-bytes.ensures.items ∙ c.split_at.ensures.front) ∙ (cut c.args.bytes.now c.args.rest.now _ _ c.args.found.entries.items c.requires.found).1;
}
