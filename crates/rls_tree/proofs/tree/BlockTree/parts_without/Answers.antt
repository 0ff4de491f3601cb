use Rattle.std.proofs.Common.{◌≡◌, ◌-◌, take, drop, refl, sym, ap, ◌∙◌, subst, arith}
use Rattle.rls_runs.specs.Entries.{without_all}
use Rattle.rls_blocks.specs.Trees.{entries_of}
use Rattle.rls_blocks.specs.Rests.{AreParts}
use Rattle.rls_tree.proofs.Rested.{Left, left_none, left_part, left_same}
use Rattle.rls_tree.proofs.tree.BlockTree.parts_without.Goals as goal

pub loop-at-init : goal.loop-at-init
loop-at-init c =
    let es = entries_of c.args.self.now.blocks in
    record { left = subst (λ ps. Left c.args.targets.now es c.args.start c.args.end ps c.args.start) (sym c.new-parts.ensures.items) (left_none c.args.targets.now es c.args.start c.args.end c.requires.order) }

pub loop-at-preserved-in_ok-push : goal.loop-at-preserved-in_ok-push
loop-at-preserved-in_ok-push c =
    let ts = c.args.targets.now in
    let es = entries_of c.args.self.now.blocks in
    let start = c.args.start in
    let end = c.args.end in
    let given = c.in_ok-next.ensures in
    let more = left_part ts es start end c.loop-at.parts.items c.loop-at.at c.in_ok-next.next c.in_ok-next.behind c.loop-at.invariant.left c.loop-at-test.true given.first given.order given.within given.some given.stay given.gone (record { at = c.loop-at.at - start; len = c.in_ok-next.next - c.loop-at.at }) refl refl c.if-at-next.true in
    record { left = subst (λ ps. Left ts es start end ps c.in_ok-next.behind) (sym c.in_ok-push.ensures.items) more }

pub loop-at-preserved : goal.loop-at-preserved
loop-at-preserved c =
    let given = c.in_ok-next.ensures in
    record { left = left_same c.args.targets.now (entries_of c.args.self.now.blocks) c.args.start c.args.end c.loop-at.parts.items c.loop-at.at c.in_ok-next.next c.in_ok-next.behind c.loop-at.invariant.left c.loop-at-test.true given.first given.order given.within given.some given.stay given.gone (omega (arith, c.if-at-next.false)) }

pub returns : goal.returns
returns c =
    let es = entries_of c.args.self.now.blocks in
    let ts = c.args.targets.now in
    let left = c.loop-at.invariant.left in
    let e : c.loop-at.at ≡ c.args.end = let h = left.high in omega (arith, h, c.loop-at-test.false) in
    record {
      parts = subst (λ k. AreParts 0 c.loop-at.parts.items (k - c.args.start)) e left.parts;
      stay = left.stay ∙ ap (λ k. without_all ts (take (k - c.args.start) (drop c.args.start es))) e;
    }
