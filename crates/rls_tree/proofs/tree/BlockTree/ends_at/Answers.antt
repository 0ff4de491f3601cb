use Rattle.std.proofs.Common.{[], drop, Some, slice_get, sym, ap, ◌∙◌, subst, ◌≡◌, arith}
use Rattle.std.specs.Prelude.{pos}
use Rattle.std.proofs.lemmas.List.{length-map}
use Rattle.std.proofs.Math.ListN.{drop_of_length-le}
use Rattle.rls_ident.specs.Identifiers.{shifted}
use Rattle.rls_ident.proofs.Shifted.{shifted_none}
use Rattle.rls_runs.specs.Runs.{run_idents}
use Rattle.rls_runs.specs.Entries.{idents_in}
use Rattle.rls_runs.proofs.RunOrder.{rising_of}
use Rattle.rls_runs.proofs.Gaps.{AreBelow, below_none}
use Rattle.rls_blocks.specs.Trees.{entries_of}
use Rattle.rls_tree.proofs.AtBlocks.{ident_is}
use Rattle.rls_tree.proofs.Puts.{run_ends}
use Rattle.rls_tree.proofs.tree.BlockTree.ends_at.Goals as goal

pub returns-then-i-chars : goal.returns-then-i-chars
returns-then-i-chars c =
    let es = entries_of c.args.self.now.blocks in
    let ids = run_idents c.args.first.now c.args.len in
    let l = length-map es (λ e. e.0) in
    let none : drop c.args.i (idents_in es) ≡ [] = drop_of_length-le (idents_in es) (omega (arith, l, c.if-i-chars.true, c.chars.ensures.chars)) in
    record { less = λ t. subst (AreBelow ids) (sym none) (below_none ids) }

pub returns-then-at-eq0 : goal.returns-then-at-eq0
returns-then-at-eq0 c =
    let bs = c.args.self.now.blocks in
    let b = c.locate-at.result.0.now in
    let xs = idents_in (entries_of bs) in
    let first : slice_get xs c.args.i ≡ Some c.first.result.now =
    ident_is bs c.args.i c.locate-at.result.1 b c.chars.ensures.pieces c.locate-at.ensures.located c.run.ensures.piece c.locate-at.ensures.within
    ∙ ap (λ k. Some (shifted (pos k) b.0.0)) c.if-at-eq0.true ∙ ap Some (shifted_none b.0.0 ∙ sym (c.first.ensures.first ∙ ap (λ q. q.0) c.run.ensures.run)) in
    record { less = λ t. run_ends xs c.args.i c.first.result.now (c.args.first.now, c.args.len) (rising_of xs c.blocks-blocks.ensures.rises) first c.requires.run (sym c.are_below.ensures.below ∙ t) }

pub returns : goal.returns
returns c =
    let xs = idents_in (entries_of c.args.self.now.blocks) in
    record { less = λ t. run_ends xs c.args.i c.in_ok-next.next (c.args.first.now, c.args.len) (rising_of xs c.blocks-blocks.ensures.rises) c.in_ok-next.ensures.ident c.requires.run (sym c.are_below-2.ensures.below ∙ t) }
