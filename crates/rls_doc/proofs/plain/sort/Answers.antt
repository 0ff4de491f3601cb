use Rattle.std.proofs.Common.{rules}
use Rattle.std.proofs.lemmas.List.Sorted.{answers_always, ranks_by}
use Rattle.rls_ident.specs.Identifiers.{ident_lt}
use Rattle.rls_ident.proofs.Tuples.{ident_total}
use Rattle.rls_runs.proofs.Sorted.{Entry}
use Rattle.rls_doc.proofs.plain.sort.Goals as goal

pub returns-clause-sorted : goal.returns-clause-sorted
returns-clause-sorted c = c.sort_unstable_by.ensures.sorted (λ (x y : Entry). ident_lt x.0 y.0) (ranks_by ident_total (λ (e : Entry). e.0)) (answers_always _ _ _ (λ f a r f' k. search rules))
