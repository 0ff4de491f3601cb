use Rattle.std.proofs.Common.{◌≡◌, true, subst}
use Rattle.std.specs.List.{list_all}
use Rattle.rls_ident.specs.Identifiers.{is_ident}
use Rattle.rls_runs.specs.Entries.{idents_in}
use Rattle.rls_blocks.specs.Trees.{entries_of}
use Rattle.rls_blocks.proofs.AtPlaces.{blocks_are_idents}
use Rattle.rls_tree.proofs.tree.BlockTree.are_idents.Goals as goal

pub returns : goal.returns
returns c = record { idents = subst (λ s. list_all is_ident (idents_in (entries_of s.blocks)) ≡ true) c.self.view_is (blocks_are_idents c.self.inside.root.blocks c.chars-chars.ensures.pieces) }
