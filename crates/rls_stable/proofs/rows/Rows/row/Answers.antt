use Rattle.std.proofs.Common.{◌≡◌, ◌<◌, arith, length, ◌∙◌, ap}
use Rattle.rls_ops.specs.Rows.{AcksSeen}
use Rattle.rls_ops.proofs.KeptRows.{row_length}
use Rattle.rls_stable.proofs.rows.Rows.row.Goals as goal

pub returns-else-member-self-clause-len : goal.returns-else-member-self-clause-len
returns-else-member-self-clause-len c =
    let same : length c.self.inside.mine ≡ length c.args.self.now.mine = ap (λ (a : AcksSeen). length a.mine) c.self.view_is in
    let h : c.args.member < length c.self.inside.others.items = omega (arith, c.requires.member, c.self.invariant.rows, same) in
    ap length c.index.ensures ∙ row_length (length c.self.inside.mine) c.self.inside.others.items c.args.member _ c.self.invariant.counts_are h ∙ same
