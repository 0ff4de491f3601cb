use Rattle.std.proofs.Common.{◌≡◌, ◌+◌, ◌-◌, ◌++◌, ◌∷◌, [], length, take, drop, refl, sym, ap, ◌∙◌, subst, arith}
use Rattle.std.specs.Prelude.{pos}
use Rattle.std.proofs.lemmas.List.{take-append-drop}
use Rattle.rls_ident.specs.Identifiers.{shifted}
use Rattle.rls_runs.specs.Runs.{run_idents}
use Rattle.rls_runs.specs.Entries.{idents_in}
use Rattle.rls_doc.specs.Documents.{AreNew}
use Rattle.rls_tree.specs.declared.insertion.Gap.{Gap}
use Rattle.rls_blocks.specs.Trees.{Piece, entries_of, piece_entries}
use Rattle.rls_blocks.specs.Edits.{part_of}
use Rattle.rls_tree.specs.Gaps.{Leaves}
use Rattle.rls_blocks.proofs.AtPlaces.{part_many, piece_idents}
use Rattle.rls_tree.proofs.Puts.{new_second}
use Rattle.rls_tree.proofs.Filled.{run_gap}
use Rattle.rls_tree.proofs.tree.BlockTree.push_gap.Goals as goal

pub gap_of-requires : goal.gap_of-requires
gap_of-requires c =
    let b : Piece = (c.args.run.now, c.args.text.now) in
    let ids = run_idents b.0.0 b.0.1 in
    let xs = idents_in (entries_of c.args.self.now.blocks) in
    record { place = c.requires.place; new = new_second (take c.args.done ids) (drop c.args.done ids) xs (subst (λ ys. AreNew ys xs) (piece_idents b c.requires.as_many ∙ sym (take-append-drop c.args.done ids)) c.requires.new) }

pub new-block-requires : goal.new-block-requires
new-block-requires c =
    let b : Piece = (c.args.run.now, c.args.text.now) in
    let n = c.in_ok-at.end - c.args.done in
    let m = part_many b c.args.done n c.requires.as_many (omega (arith, c.in_ok-at.ensures.later, c.in_ok-at.ensures.within)) in
    record { as_many = ap length c.in_ok-chars.ensures.part ∙ m ∙ sym (ap (λ q. q.1) c.in_ok-part.ensures.part) }

pub returns : goal.returns
returns c =
    let es = entries_of c.args.self.now.blocks in
    let b : Piece = (c.args.run.now, c.args.text.now) in
    let at = c.in_ok-at in
    let n = at.end - c.args.done in
    let later = at.ensures.later in
    let within = at.ensures.within in
    let block : c.new-block.result ≡ part_of c.args.done n b = c.new-block.ensures.block ∙ ap (λ r. (r, c.in_ok-chars.chars)) c.in_ok-part.ensures.part ∙ ap (λ cs. ((shifted (pos c.args.done) b.0.0, n), cs)) c.in_ok-chars.ensures.part in
    let g : Gap = record { at = at.at; block = c.new-block.result } in
    let all_done : at.end ≡ c.args.done + n = omega (arith, later) in
    record {
      some = omega (arith, later);
      within = omega (arith, later, within);
      ok = λ more all was.
          subst (λ gs. Leaves es gs (drop (c.args.done + n) (piece_entries b) ++ more) all) (sym c.in_ok-push_back.ensures.items)
          (subst (λ k. Leaves es (c.args.gaps.now.items ++ g ∷ []) (drop k (piece_entries b) ++ more) all) all_done
          (run_gap es b c.args.done at.end g c.requires.as_many c.blocks-blocks.ensures.rises c.len-len.ensures.run c.requires.place (shifted (pos c.args.done) b.0.0) refl at.ensures.place at.ensures.end block c.args.gaps.now.items more all was));
    }
