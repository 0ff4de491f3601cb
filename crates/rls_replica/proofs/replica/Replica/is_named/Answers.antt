use Rattle.std.proofs.Common.{◌<◌, ap, length, refl, arith}
use Rattle.rls_ident.proofs.Positions.{get_of}
use Rattle.rls_seen.specs.Seen.{Seen}
use Rattle.rls_replica.proofs.Targets.{named_at}
use Rattle.rls_replica.proofs.replica.Replica.is_named.Goals as goal

pub returns-then-branch : goal.returns-then-branch
returns-then-branch c =
    let s = c.args.self.now in
    let lt : c.loop-i.i < length s.log = omega (arith, c.loop-i-test.true, c.len-i-end.ensures.len, ap (λ (u : Seen). length u.log) c.self.view_is) in
    let o = get_of s.log c.loop-i.i lt in
    record { named = named_at {i = s} {s = s} c.args.epoch c.args.target.now c.loop-i.i o.0 refl o.1 (c.in_ok-names_at.ensures.names o.0 o.1) c.if-branch.true c.loop-i.invariant }

pub loop-i-preserved : goal.loop-i-preserved
loop-i-preserved c =
    let s = c.args.self.now in
    let lt : c.loop-i.i < length s.log = omega (arith, c.loop-i-test.true, c.len-i-end.ensures.len, ap (λ (u : Seen). length u.log) c.self.view_is) in
    let o = get_of s.log c.loop-i.i lt in
    named_at {i = s} {s = s} c.args.epoch c.args.target.now c.loop-i.i o.0 refl o.1 (c.in_ok-names_at.ensures.names o.0 o.1) c.if-branch.false c.loop-i.invariant
