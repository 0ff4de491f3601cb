use Rattle.std.proofs.Common.{◌≡◌, true, take}
use Rattle.std.specs.List.{list_all}
use Rattle.rls_ident.specs.Identifiers.{is_ident}
use Rattle.rls_runs.specs.Entries.{idents_in, with_idents}
use Rattle.rls_doc.proofs.plain.mapped_entries.Given as goal

abbrev pub invariant-loop-id : goal.invariant-loop-id
invariant-loop-id g l = record {
  mapped : l.mapped.items ≡ with_idents (g.F.RunMap.image l.map) (take l.id-index l.entries);
  idents : list_all is_ident (idents_in (take l.id-index l.entries)) ≡ true;
}
