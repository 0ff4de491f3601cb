use Rattle.std.proofs.Common.{◌+◌, ◌<◌, ◌≤◌, ◌∷◌, [], None, false, length, sym, ap, ◌∙◌, subst, arith}
use Rattle.std.specs.Prelude.{reverse}
use Rattle.std.proofs.lemmas.List.{reverse-append, length-map}
use Rattle.rls_runs.specs.Entries.{idents_in}
use Rattle.rls_blocks.specs.Trees.{entries_of, runs_in}
use Rattle.rls_blocks.specs.Patches.{IsBetween}
use Rattle.rls_tree.specs.Targets.{AreMembers}
use Rattle.rls_blocks.proofs.Loose.{loose_of}
use Rattle.rls_blocks.proofs.Patches.{between_most}
use Rattle.rls_tree.proofs.Targets.{members_less}
use Rattle.rls_tree.proofs.Planned.{end_of, all_patches}
use Rattle.rls_tree.proofs.Kept.{Kept, start, next, all_shows, from_later}
use Rattle.rls_tree.proofs.tree.BlockTree.patches_without.Goals as goal

pub loop-i-init : goal.loop-i-init
loop-i-init c =
    let bs = c.args.self.now.blocks in
    let ts = c.args.targets.now in
    let xs = idents_in (entries_of bs) in
    let e = ap reverse c.new-patches.ensures.items in
    let n = ap end_of e in
    record {
      kept = subst (λ ps. Kept ts bs ps (end_of ps)) (sym e) (start ts bs c.chars-total.ensures.pieces (loose_of None (runs_in bs) c.blocks-blocks.ensures.apart));
      order = omega (arith, n);
      within = c.in_ok-i.ensures.within;
      none = subst (λ ps. AreMembers false ts xs (end_of ps) c.in_ok-i.i) (sym e) c.in_ok-i.ensures.none;
      there = c.in_ok-i.ensures.there;
    }

pub loop-i-smaller : goal.loop-i-smaller
loop-i-smaller c =
    let es = entries_of c.args.self.now.blocks in
    let l = length-map es (λ e. e.0) in
    let inv = c.loop-i.invariant in
    let at = end_of (reverse c.loop-i.patches.items) in
    let given = c.in_ok-patch.ensures in
    let n = ap end_of (ap reverse c.in_ok-push.ensures.items ∙ reverse-append c.loop-i.patches.items (c.in_ok-patch.patch ∷ [])) in
    let from = from_later c.args.targets.now (idents_in es) at c.loop-i.i c.start_before.result inv.kept.stays inv.there (omega (arith, l, c.loop-i-test.true, c.chars-total.ensures.chars)) inv.order (c.start_before.ensures.last at inv.kept.plan.between) in
    omega (arith, n, from, given.from, given.order, given.within)

pub loop-i-preserved : goal.loop-i-preserved
loop-i-preserved c =
    let bs = c.args.self.now.blocks in
    let es = entries_of bs in
    let xs = idents_in es in
    let ts = c.args.targets.now in
    let old = c.loop-i.patches.items in
    let at = end_of (reverse old) in
    let i = c.loop-i.i in
    let p = c.in_ok-patch.patch in
    let inv = c.loop-i.invariant in
    let given = c.in_ok-patch.ensures in
    let start = c.start_before.ensures in
    let later = c.in_ok-i-2 in
    let l = length-map es (λ e. e.0) in
    let from = from_later ts xs at i c.start_before.result inv.kept.stays inv.there (omega (arith, l, c.loop-i-test.true, c.chars-total.ensures.chars)) inv.order (start.last at inv.kept.plan.between) in
    let low : at ≤ p.from = omega (arith, from, given.from) in
    let high : p.from ≤ i = omega (arith, start.order, given.from) in
    let none = members_less false ts xs at at p.from i (omega arith) high inv.none in
    let kept : 0 < p.from → AreMembers false ts xs p.from (p.from + 1) = λ o. let less : c.start_before.result < i = start.before (omega (arith, o, high)) in members_less false ts xs at p.from (p.from + 1) i low (omega (arith, less, given.from)) inv.none in
    let more = next ts bs (reverse old) at p c.chars-total.ensures.pieces inv.kept low given.order given.within (subst (λ k. IsBetween k bs) (sym given.from) start.between) given.between none kept given.entries given.pieces given.loose given.apart given.stays in
    let e = ap reverse c.in_ok-push.ensures.items ∙ reverse-append old (p ∷ []) in
    let n = ap end_of e in
    record {
      kept = subst (λ ps. Kept ts bs ps (end_of ps)) (sym e) more;
      order = omega (arith, n, later.ensures.order);
      within = later.ensures.within;
      none = subst (λ ps. AreMembers false ts xs (end_of ps) later.i) (sym e) later.ensures.none;
      there = later.ensures.there;
    }

pub returns-clause-patches : goal.returns-clause-patches
returns-clause-patches c =
    let ps = reverse c.loop-i.patches.items in
    all_patches c.args.self.now.blocks ps (end_of ps) c.chars-total.ensures.pieces c.loop-i.invariant.kept.plan

pub returns-clause-shows : goal.returns-clause-shows
returns-clause-shows c =
    let bs = c.args.self.now.blocks in
    let es = entries_of bs in
    let ts = c.args.targets.now in
    let ps = reverse c.loop-i.patches.items in
    let inv = c.loop-i.invariant in
    all_shows ts bs ps (end_of ps) c.chars-total.ensures.pieces inv.kept (members_less false ts (idents_in es) (end_of ps) (end_of ps) (length es) c.loop-i.i (omega arith) (omega (arith, c.loop-i-test.false, c.chars-total.ensures.chars)) inv.none) (between_most (end_of ps) bs inv.kept.plan.between)
