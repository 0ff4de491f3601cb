use Rattle.std.proofs.Common.{◌≡◌, ◌≤◌, ◌⊎◌, ℕ, List, drop}
use Rattle.rls_ident.specs.declared.tuple.Tuple.{Tuple}
use Rattle.rls_ident.specs.Lists.{IsIn}
use Rattle.rls_runs.specs.Runs.{idents_of}
use Rattle.rls_replica.specs.Bounds.{IsBounded, edge_of}
use Rattle.rls_replica.proofs.bounds.Bounds.note.Given as goal

-- those of the runs in front are noted
abbrev pub invariant-loop-run : goal.invariant-loop-run
invariant-loop-run l = record {
  kept : (a : ℕ) (x : List Tuple) (q : ℕ) → (a ≡ l.author → q ≤ l.number) → IsBounded l.fn.self.numbers.entries (edge_of a x) q → IsBounded l.self.numbers.entries (edge_of a x) q;
  named : (x : List Tuple) → IsIn x l.ids → IsIn x (idents_of (drop l.run-index l.runs)) ⊎ IsBounded l.self.numbers.entries (edge_of l.author x) l.number;
}
