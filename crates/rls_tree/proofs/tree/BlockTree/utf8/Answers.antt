use Rattle.std.proofs.Common.{◌++◌, ap, ◌∙◌}
use Rattle.std.specs.Prelude.{encode_utf8_all}
use Rattle.rls_runs.specs.Entries.{chars_in}
use Rattle.rls_blocks.specs.Trees.{entries_of}
use Rattle.rls_tree.proofs.tree.BlockTree.utf8.Goals as goal

pub returns : goal.returns
returns c = record { utf8 = c.in_ok-push_utf8.ensures.ok ∙ ap (λ b. b ++ encode_utf8_all (chars_in (entries_of c.self.inside.root.blocks))) c.in_ok-text.ensures.bytes ∙ ap (λ bs. encode_utf8_all (chars_in (entries_of bs))) (ap (λ s. s.blocks) c.self.view_is) }
