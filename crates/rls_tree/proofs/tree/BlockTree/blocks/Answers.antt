use Rattle.std.proofs.Common.{subst, length, ◌≡◌, true}
use Rattle.rls_runs.specs.Runs.{runs_of, is_increasing}
use Rattle.rls_runs.specs.Entries.{idents_in}
use Rattle.rls_blocks.specs.Trees.{entries_of}
use Rattle.rls_blocks.proofs.Pieces.{runs_count, pieces_rise}
use Rattle.rls_tree.proofs.tree.BlockTree.blocks.Goals as goal

pub returns-clause-runs : goal.returns-clause-runs
returns-clause-runs c = subst (λ s. length s.blocks ≡ length (runs_of (idents_in (entries_of s.blocks)))) c.self.view_is (runs_count c.self.inside.root.blocks c.chars-chars.ensures.pieces c.self.invariant)

pub returns-clause-rises : goal.returns-clause-rises
returns-clause-rises c = subst (λ s. is_increasing (idents_in (entries_of s.blocks)) ≡ true) c.self.view_is (pieces_rise c.self.inside.root.blocks c.chars-chars.ensures.pieces c.self.invariant)
