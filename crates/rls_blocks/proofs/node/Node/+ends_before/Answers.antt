use Rattle.std.proofs.Common.{◌∷◌, length, Some, sym, ap, ◌∙◌, arith, length-append}
use Rattle.rls_blocks.specs.Edits.{goes_on}
use Rattle.rls_blocks.proofs.Loose.{last_run, ends_right, ends_own, node_some}
use Rattle.rls_blocks.proofs.node.Node.+ends_before.Goals as goal

pub ends_before-requires : goal.ends_before-requires
ends_before-requires t c =
    let e = ap length c.run-own.ensures.blocks in
    let f = length-append c.args.self.now.left.blocks (c.args.self.now.block ∷ c.args.self.now.right.blocks) in
    let g = ap length c.in-Some.ensures.blocks in
    (omega (arith, e, f, g), tt)

pub returns-in-None : goal.returns-in-None
returns-in-None t c =
    let s = c.args.self.now in
    record {
      goes_on = c.touches.ensures.touches ∙ ap (λ r. goes_on r c.args.first.now) (ap Some c.run-own.ensures.run ∙ sym (ends_own s.left.blocks s.right.blocks s.block s.blocks c.run-own.ensures.blocks (ap (λ t. t.blocks) c.in-None.ensures.empty)));
      some = node_some s.left.blocks s.right.blocks s.block s.blocks c.run-own.ensures.blocks;
    }

pub returns-in-Some : goal.returns-in-Some
returns-in-Some t c =
    let s = c.args.self.now in
    let g = ap length c.in-Some.ensures.blocks in
    let h = c.ends_before.ensures.some in
    record {
      goes_on = c.ends_before.ensures.goes_on ∙ ap (λ bs. goes_on (last_run bs) c.args.first.now) c.in-Some.ensures.blocks ∙ ap (λ r. goes_on r c.args.first.now) (sym (ends_right s.left.blocks s.right.blocks s.block s.blocks c.run-own.ensures.blocks (omega (arith, g, h))));
      some = node_some s.left.blocks s.right.blocks s.block s.blocks c.run-own.ensures.blocks;
    }
