use Rattle.std.proofs.Common.{None, refl, ap, ◌∙◌}
use Rattle.rls_runs.specs.Runs.{is_increasing}
use Rattle.rls_runs.specs.Entries.{idents_in}
use Rattle.rls_blocks.specs.Trees.{entries_of, runs_in}
use Rattle.rls_blocks.specs.Edits.{are_loose, Shows}
use Rattle.rls_blocks.specs.Rests.{rested}
use Rattle.rls_blocks.proofs.AtPlaces.{apart_shows}
use Rattle.rls_tree.proofs.tree.BlockTree.put_rest.Goals as goal

pub invariant_of-self : goal.invariant_of-self
invariant_of-self c =
    let new = c.with_rest-root.result.blocks in
    let old = ap (λ l. l.blocks) c.replace-link.ensures.value ∙ ap (λ s. s.blocks) c.self.view_is in
    let e = c.with_rest-root.ensures.blocks ∙ ap (λ bs. rested c.args.rest bs c.args.i) old in
    let shows : Shows (entries_of new) new = record { entries_are = refl; loose = ap (λ bs. are_loose None (runs_in bs)) e ∙ c.requires.loose } in
    apart_shows new (entries_of new) c.chars-chars.ensures.pieces shows (ap (λ bs. is_increasing (idents_in (entries_of bs))) e ∙ c.requires.rises)
