use Rattle.std.proofs.Common.{◌≡◌, ◌+◌, ◌-◌, length, sym, ap, ◌∙◌, subst, arith}
use Rattle.rls_ident.specs.Identifiers.{follows}
use Rattle.rls_runs.specs.Runs.{run_last}
use Rattle.rls_blocks.specs.Trees.{entries_of}
use Rattle.rls_blocks.specs.Edits.{goes_on}
use Rattle.rls_blocks.specs.Patches.{IsBetween, before}
use Rattle.rls_blocks.proofs.Loose.{last_run}
use Rattle.rls_blocks.proofs.Patches.{none_before}
use Rattle.rls_tree.proofs.Starts.{next_between}
use Rattle.rls_tree.proofs.tree.BlockTree.start_for.Goals as goal

pub returns-then-i-eq0-clause-between : goal.returns-then-i-eq0-clause-between
returns-then-i-eq0-clause-between c =
    let bs = c.args.self.now.blocks in
    ap (λ xs. length (entries_of xs)) (ap (λ k. before k bs) c.if-i-eq0.true ∙ none_before bs c.chars-chars.ensures.pieces) ∙ sym c.if-i-eq0.true

pub returns-then-i-eq0-clause-apart : goal.returns-then-i-eq0-clause-apart
returns-then-i-eq0-clause-apart c u =
    let bs = c.args.self.now.blocks in
    ap (λ xs. goes_on (last_run xs) c.args.gap.now.block.0.0) (ap (λ k. before k bs) c.if-i-eq0.true ∙ none_before bs c.chars-chars.ensures.pieces)

pub returns-then-at-len-clause-last : goal.returns-then-at-len-clause-last
returns-then-at-len-clause-last c j b l = c.block_start-start.ensures.last j b (omega (arith, l))

pub returns-then-touches-clause-last : goal.returns-then-touches-clause-last
returns-then-touches-clause-last c j b l = c.block_start-start.ensures.last j b (omega (arith, l))

pub returns-clause-between : goal.returns-clause-between
returns-clause-between c =
    let bs = c.args.self.now.blocks in
    let i = c.args.gap.now.at in
    let b = c.locate-at.result.0.now in
    let at = c.locate-at.result.1 in
    let n : (i - 1) + 1 ≡ i = omega (arith, c.if-i-eq0.false) in
    let m : at + 1 ≡ length b.1 = omega (arith, c.locate-at.ensures.within, c.len-len.ensures.len, c.if-at-len.false) in
    subst (λ k. IsBetween k bs) n (next_between bs (i - 1) at b c.chars-chars.ensures.pieces (omega (arith, c.if-i-eq0.false, c.requires.place)) c.locate-at.ensures.located m).0

pub returns-clause-apart : goal.returns-clause-apart
returns-clause-apart c u =
    let bs = c.args.self.now.blocks in
    let i = c.args.gap.now.at in
    let b = c.locate-at.result.0.now in
    let at = c.locate-at.result.1 in
    let first = c.args.gap.now.block.0.0 in
    let n : (i - 1) + 1 ≡ i = omega (arith, c.if-i-eq0.false) in
    let m : at + 1 ≡ length b.1 = omega (arith, c.locate-at.ensures.within, c.len-len.ensures.len, c.if-at-len.false) in
    let last = (next_between bs (i - 1) at b c.chars-chars.ensures.pieces (omega (arith, c.if-i-eq0.false, c.requires.place)) c.locate-at.ensures.located m).1 in
    ap (λ k. goes_on (last_run (before k bs)) first) (sym n) ∙ ap (λ o. goes_on o first) last
    ∙ ap (λ r. follows first (run_last r)) (sym c.run.ensures.run) ∙ ap (λ x. follows x (run_last c.run.result.now)) (sym (c.first.ensures.first ∙ ap (λ r. r.0) c.run-2.ensures.run)) ∙ sym c.touches.ensures.touches ∙ c.if-touches.false
