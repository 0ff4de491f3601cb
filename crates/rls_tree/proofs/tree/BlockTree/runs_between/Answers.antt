use Rattle.std.proofs.Common.{◌≡◌, ◌+◌, ◌-◌, ◌++◌, take, drop, sym, ap, ◌∙◌, arith}
use Rattle.rls_runs.specs.Runs.{run_idents}
use Rattle.rls_runs.specs.Entries.{idents_in}
use Rattle.rls_runs.specs.Places.{is_above, last_ident}
use Rattle.rls_blocks.specs.Trees.{entries_of}
use Rattle.std.proofs.Math.Seq.{take-add}
use Rattle.rls_tree.proofs.Without.{above_next}
use Rattle.rls_tree.proofs.tree.BlockTree.runs_between.Goals as goal
use Rattle.std.proofs.lemmas.List.{drop-drop}

pub append-requires-clause-above : goal.append-requires-clause-above
append-requires-clause-above c =
    let run = c.in_ok-run.run' in
    let inv = c.loop-at.invariant in
    ap (λ ys. is_above (last_ident ys) run.0) inv.runs ∙ above_next (entries_of c.args.self.now.blocks) c.args.from c.loop-at.at run c.blocks-blocks.ensures.rises inv.order (omega (arith, c.loop-at-test.true, c.requires.within)) c.in_ok-run.ensures.some c.in_ok-run.ensures.idents

pub loop-at-preserved : goal.loop-at-preserved
loop-at-preserved c =
    let es = entries_of c.args.self.now.blocks in
    let xs = idents_in es in
    let at = c.loop-at.at in
    let from = c.args.from in
    let run = c.in_ok-run.run' in
    let inv = c.loop-at.invariant in
    let n = c.len.result in
    let len = c.len.ensures.len in
    let k : from + (at - from) ≡ at = omega (arith, inv.order) in
    let m : (at - from) + n ≡ at + n - from = omega (arith, inv.order) in
    let rest : take n (drop (at - from) (drop from xs)) ≡ run_idents run.0 run.1 = ap (take n) (drop-drop (at - from) from xs ∙ ap (λ j. drop j xs) k) ∙ ap (λ j. take j (drop at xs)) len ∙ c.in_ok-run.ensures.idents in
    record {
      order = omega (arith, inv.order);
      within = omega (arith, len, c.in_ok-run.ensures.most, c.most_of.ensures.most, c.loop-at-test.true);
      runs = c.in_ok-append.ensures.ok ∙ ap (λ ys. ys ++ run_idents run.0 run.1) inv.runs ∙ ap (λ ys. take (at - from) (drop from xs) ++ ys) (sym rest) ∙ sym (take-add (at - from) n (drop from xs)) ∙ ap (λ j. take j (drop from xs)) m;
    }
