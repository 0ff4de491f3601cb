use Rattle.std.proofs.Common.{◌≡◌, ◌-◌, length, take, drop, refl, sym, ap, ◌∙◌, arith, length-drop}
use Rattle.std.proofs.lemmas.List.{length-map, length-take-le, take_all}
use Rattle.std.proofs.lemmas.Option.{slice_get_read}
use Rattle.rls_runs.specs.Runs.{idents_of}
use Rattle.rls_runs.specs.Entries.{idents_in}
use Rattle.rls_runs.proofs.RunOrder.{rising_of}
use Rattle.rls_runs.proofs.RunsOf.{idents_of_runs}
use Rattle.rls_blocks.specs.Trees.{entries_of}
use Rattle.rls_blocks.specs.Edits.{removed}
use Rattle.rls_tree.proofs.Without.{whole_gone, taken_more}
use Rattle.rls_tree.proofs.tree.BlockTree.stand_from.Goals as goal

pub loop-run-init : goal.loop-run-init
loop-run-init c =
    let xs = idents_in (entries_of c.args.self.now.blocks) in
    let i = c.args.from in
    let none : i - i ≡ 0 = omega arith in
    record { order = omega arith; within = omega arith; idents = ap (λ n. take n (drop i xs)) none }

pub overflow_add-at : goal.overflow_add-at
overflow_add-at c =
    let w = c.stands_at.ensures.within c.if-not-stands_at.false in
    omega (arith, w, c.len.ensures.len, c.chars-chars.ensures.chars, c.chars-chars.type_inv)

pub loop-run-preserved : goal.loop-run-preserved
loop-run-preserved c =
    let rs = c.as_slice-runs.result.now in
    let xs = idents_in (entries_of c.args.self.now.blocks) in
    let r = c.run-item.result in
    let inv = c.loop-run.invariant in
    let len = c.len.ensures.len in
    let g = slice_get_read rs (length rs) c.loop-run.run-index r refl c.loop-run-test.true c.run-item.is in
    let w = c.stands_at.ensures.within c.if-not-stands_at.false in
    let e = ap (λ n. take n (drop c.loop-run.at xs)) len ∙ c.stands_at.ensures.idents c.if-not-stands_at.false in
    record {
      order = omega (arith, inv.order);
      within = omega (arith, w, len);
      idents = taken_more xs rs c.args.from c.loop-run.at c.len.result c.loop-run.run-index r inv.order inv.idents e g;
    }

pub returns : goal.returns
returns c =
    let es = entries_of c.args.self.now.blocks in
    let xs = idents_in es in
    let ts = c.args.targets.now in
    let rs = c.as_slice-runs.result.now in
    let from = c.args.from in
    let n = c.loop-run.at - from in
    let inv = c.loop-run.invariant in
    let own : take n (drop from xs) ≡ ts = inv.idents ∙ ap idents_of (take_all c.loop-run.run-index rs c.loop-run-test.false ∙ c.as_slice-runs.ensures.runs) ∙ idents_of_runs ts in
    let d = length-drop from xs in
    let l = length-map es (λ e. e.0) in
    let long = sym (length-take-le n (drop from xs) (omega (arith, d, l, inv.within))) ∙ ap length own in
    record {
      within = λ t. omega (arith, long, inv.within, inv.order);
      removed = λ t. ap (λ k. removed from k es) (sym long) ∙ whole_gone es from n ts (rising_of xs c.blocks-blocks.ensures.rises) own;
    }
