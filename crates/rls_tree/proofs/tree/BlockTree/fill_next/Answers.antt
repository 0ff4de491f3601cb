use Rattle.std.proofs.Common.{◌≡◌, ◌+◌, ◌-◌, ◌++◌, ◌∷◌, length, take, drop, sym, ap, ◌∙◌, subst, arith, append_assoc, length-append}
use Rattle.rls_blocks.specs.Trees.{entries_of, piece_entries}
use Rattle.rls_tree.specs.Gaps.{filled, is_gap, AreGaps}
use Rattle.rls_blocks.proofs.Pieces.{piece_length, piece_some}
use Rattle.rls_tree.proofs.Puts.{taken_length}
use Rattle.rls_tree.proofs.Filled.{gap_here, gaps_lower, filled_later}
use Rattle.rls_tree.proofs.tree.BlockTree.fill_next.Goals as goal

pub returns-then-has_gap : goal.returns-then-has_gap
returns-then-has_gap c =
    let es = entries_of c.args.self.now.blocks in
    let n = length es in
    let g = c.in-Some.gap in
    let gs = c.pop_front.new.self.items in
    let at = c.args.at in
    let e : c.args.gaps.now.items ≡ g ∷ gs = c.in-Some.ensures.items in
    let here = gap_here gs g at n es (ap (is_gap at) (sym e) ∙ sym c.has_gap.ensures.gap ∙ c.if-has_gap.true) (subst (λ xs. AreGaps at xs n) e c.requires.places) in
    let old = entries_of c.args.blocks.now.items in
    let rest = filled at gs es (λ k. drop k es) in
    let new = c.in_ok-push_block.ensures.shows.entries_are in
    let p = c.len-len.ensures.piece in
    record {
      order = omega arith;
      places = here.0;
      fewer = omega (arith, ap length e);
      entries = ap (λ zs. zs ++ rest) new ∙ append_assoc old (piece_entries g.block) rest ∙ ap (λ zs. old ++ zs) (sym here.1 ∙ ap (λ xs. filled at xs es (λ k. drop k es)) (sym e));
      some = omega (arith, ap length new, length-append old (piece_entries g.block), piece_length g.block p, piece_some g.block p);
      loose = c.in_ok-push_block.ensures.shows.loose;
    }

pub returns : goal.returns
returns c =
    let es = entries_of c.args.self.now.blocks in
    let at = c.args.at in
    let run = c.in_ok-run.run' in
    let to = at + c.len-len-2.result in
    let len = c.len-len-2.ensures.len in
    let most = c.in_ok-run.ensures.most in
    let later = c.next_gap-end.ensures.later in
    let short = c.most_of.ensures.most in
    let low = gaps_lower c.args.gaps.now.items to c.next_gap-end.result (length es) (omega (arith, len, most, later, short)) c.next_gap-end.ensures.places in
    let old = entries_of c.args.blocks.now.items in
    let rest = filled to c.args.gaps.now.items es (λ k. drop k es) in
    let part : piece_entries c.new.result ≡ take run.1 (drop at es) = ap piece_entries c.new.ensures.block ∙ c.in_ok-run.ensures.entries in
    let n : run.1 ≡ to - at = omega (arith, len) in
    let new = c.in_ok-push_block-2.ensures.shows.entries_are ∙ ap (λ zs. old ++ zs) part in
    record {
      order = omega arith;
      places = low;
      fewer = omega (arith, len, c.in_ok-run.ensures.some, c.in_ok-run.ensures.within);
      entries =
          ap (λ zs. zs ++ rest) (new ∙ ap (λ k. old ++ take k (drop at es)) n) ∙ append_assoc old (take (to - at) (drop at es)) rest
          ∙ ap (λ zs. old ++ zs) (sym (filled_later c.args.gaps.now.items at to (length es) es (omega arith) low));
      some = omega (arith, ap length new, length-append old (take run.1 (drop at es)), taken_length at run.1 es c.in_ok-run.ensures.within, c.in_ok-run.ensures.some);
      loose = c.in_ok-push_block-2.ensures.shows.loose;
    }
