use Rattle.std.proofs.Common.{◌≡◌, length, ◌∙◌, sym, arith, ap}
use Rattle.rls_ident.specs.Vectors.{meet}
use Rattle.rls_ident.proofs.Vectors.{length-join, length-meet, meet-join}
use Rattle.rls_ops.specs.Rows.{AcksSeen, stable_of, least_of, awaited}
use Rattle.rls_stable.proofs.Least.{awaits_row}
use Rattle.rls_stable.proofs.rows.Rows.find_stable.Goals as goal

pub meet_in-requires : goal.meet_in-requires
meet_in-requires c =
    let same : length c.self.inside.mine ≡ length c.args.self.now.mine = ap (λ (a : AcksSeen). length a.mine) c.self.view_is in
    record { members = rw c.join_in.ensures.join (length-join c.args.stable.now c.self.inside.mine (c.requires.place ∙ sym same)) }

pub loop-member-init : goal.loop-member-init
loop-member-init c =
    let view : c.self.inside.mine ≡ c.args.self.now.mine = ap (λ (a : AcksSeen). a.mine) c.self.view_is in
    let e : c.meet_in.new.self ≡ c.args.self.now.mine = rw (c.meet_in.ensures.meet, c.join_in.ensures.join, view) (meet-join c.args.stable.now c.args.self.now.mine c.requires.place) in
    record { place = ap length e; least = e }

pub loop-member-preserved : goal.loop-member-preserved
loop-member-preserved c =
    let acks = c.args.self.now in
    rw c.meet_in-in-loop-member.ensures.meet record {
      place = length-meet c.loop-member.stable c.row.result.now (c.loop-member.invariant.place ∙ sym c.row.ensures.len) ∙ c.row.ensures.len;
      least = ap (λ s. meet s c.row.result.now) c.loop-member.invariant.least ∙ awaits_row acks acks.mine c.loop-member.member c.row.result.now (sym c.awaits.ensures.awaits ∙ c.if-not-awaits.false) c.row.ensures.row;
    }

pub returns-clause-least : goal.returns-clause-least
unfolding stable_of
returns-clause-least c =
    let acks = c.args.self.now in
    let same : length c.self.inside.mine ≡ length acks.mine = ap (λ (a : AcksSeen). length a.mine) c.self.view_is in
    let n : c.loop-member.member ≡ length acks.mine = omega (arith, same, c.len-member-end.ensures) in
    c.loop-member.invariant.least ∙ ap (λ n. least_of acks.mine (awaited acks n)) n
