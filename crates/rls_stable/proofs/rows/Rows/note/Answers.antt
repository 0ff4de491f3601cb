use Rattle.std.proofs.Common.{◌≡◌, ◌<◌, ◌∙◌, sym, arith, length, get_or, [], ap}
use Rattle.rls_ops.specs.Rows.{AcksSeen}
use Rattle.rls_ops.proofs.KeptRows.{noted_rows, row_length}
use Rattle.std.proofs.lemmas.List.{get_or_default}
use Rattle.rls_stable.proofs.rows.Rows.note.Goals as goal

pub join_in-requires : goal.join_in-requires
join_in-requires c =
    let same : length c.self.inside.mine ≡ length c.args.self.now.mine = ap (λ (a : AcksSeen). length a.mine) c.self.view_is in
    let h : c.args.from < length c.self.inside.others.items = omega (arith, c.requires.member, c.self.invariant.rows, same) in
    record { members = ap length c.index_mut.ensures.value ∙ row_length (length c.self.inside.mine) c.self.inside.others.items c.args.from _ c.self.invariant.counts_are h ∙ same ∙ sym c.requires.counts }

pub invariant_of-self : goal.invariant_of-self
invariant_of-self c =
    let same : length c.self.inside.mine ≡ length c.args.self.now.mine = ap (λ (a : AcksSeen). length a.mine) c.self.view_is in
    let h : c.args.from < length c.self.inside.others.items = omega (arith, c.requires.member, c.self.invariant.rows, same) in
    let e : c.index_mut.result.now ≡ get_or c.self.inside.others.items c.args.from [] = c.index_mut.ensures.value ∙ get_or_default _ _ _ _ h in
    rw (c.join_in.ensures.join, e) (noted_rows _ c.args.from c.args.vector.now c.self.invariant (omega (arith, c.requires.member, same)) (c.requires.counts ∙ sym same))
