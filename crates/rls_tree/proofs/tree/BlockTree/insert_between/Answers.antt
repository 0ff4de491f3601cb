use Rattle.std.proofs.Common.{◌≡◌, ℕ, List, None, true, length, sym, ap, ◌∙◌, subst}
use Rattle.rls_runs.specs.Runs.{is_increasing}
use Rattle.rls_runs.specs.Entries.{idents_in}
use Rattle.rls_blocks.specs.Trees.{Piece, entries_of, runs_in, piece_entries}
use Rattle.rls_blocks.specs.Edits.{inserted, are_loose}
use Rattle.rls_blocks.proofs.Loose.{loose_of}
use Rattle.rls_blocks.proofs.AtPlaces.{apart_shows}
use Rattle.rls_tree.proofs.tree.BlockTree.insert_between.Goals as goal

-- the blocks are those of the tree
rising : (i : ℕ) (n : Piece) (old now : List Piece) → now ≡ old → is_increasing (idents_in (inserted i (piece_entries n) (entries_of old))) ≡ true → is_increasing (idents_in (inserted i (piece_entries n) (entries_of now))) ≡ true
rising i n old now e h = subst (λ bs. is_increasing (idents_in (inserted i (piece_entries n) (entries_of bs))) ≡ true) (sym e) h

pub insert_at-requires-clause-loose : goal.insert_at-requires-clause-loose
insert_at-requires-clause-loose c = subst (λ l. are_loose None (runs_in l.blocks) ≡ true) (sym c.replace-link.ensures.value) (loose_of None (runs_in c.self.inside.root.blocks) c.self.invariant)

pub insert_at-requires-clause-rises : goal.insert_at-requires-clause-rises
insert_at-requires-clause-rises c =
    let old = ap (λ l. l.blocks) c.replace-link.ensures.value ∙ ap (λ s. s.blocks) c.self.view_is in
    let cs = c.args.text.now in
    rising c.args.i ((c.args.first.now, length cs), cs) c.args.self.now.blocks c.replace-link.result.blocks old c.requires.rises

pub invariant_of-self : goal.invariant_of-self
invariant_of-self c =
    let old = ap (λ l. l.blocks) c.replace-link.ensures.value ∙ ap (λ s. s.blocks) c.self.view_is in
    let cs = c.args.text.now in
    apart_shows c.in-Ok.root.blocks (inserted c.args.i (piece_entries ((c.args.first.now, length cs), cs)) (entries_of c.replace-link.result.blocks)) c.chars-chars.ensures.pieces c.in-Ok.ensures.ok
    (rising c.args.i ((c.args.first.now, length cs), cs) c.args.self.now.blocks c.replace-link.result.blocks old c.requires.rises)
