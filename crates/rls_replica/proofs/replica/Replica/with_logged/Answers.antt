use Rattle.std.proofs.Common.{◌∙◌, ◌<◌, length, take, Option, List, ap, subst, arith}
use Rattle.rls_ident.specs.declared.tuple.Tuple.{Tuple}
use Rattle.rls_ident.proofs.Members.{get_in}
use Rattle.rls_ident.proofs.Positions.{get_of}
use Rattle.rls_seen.specs.Sane.{IsSane}
use Rattle.rls_seen.specs.Seen.{Seen}
use Rattle.rls_replica.specs.Gone.{AllNoted, AreNamed}
use Rattle.rls_replica.proofs.Noting.{found_at, nothing_at, no_names, with_names, without_names}
use Rattle.rls_replica.proofs.replica.Replica.with_logged.Goals as goal

pub named_ids-requires-clause-logged : goal.named_ids-requires-clause-logged
named_ids-requires-clause-logged c =
    get_in c.args.self.now.log c.loop-i.i c.in-Some.op (found_at c.args.self.now.log c.loop-i.i c.in_ok-op.field-0 c.in-Some.op c.in-Some.is c.in_ok-op.ensures.some)

pub loop-i-preserved-in_default : goal.loop-i-preserved-in_default
loop-i-preserved-in_default c =
    let s = c.args.self.now in
    let i = c.loop-i.i in
    let lt : i < length s.log = omega (arith, c.loop-i-test.true, c.len-i-end.ensures.len, ap (λ (u : Seen). length u.log) c.self.view_is) in
    let o = get_of s.log i lt in
    without_names s c.args.gone.epoch c.loop-i.named i o.0 o.1 c.loop-i.invariant (no_names s c.args.gone.epoch o.0 (nothing_at s i c.in_ok-op.field-0 c.in_default.is c.in_ok-op.ensures.none o.0 o.1))

pub loop-i-preserved-in_default-2 : goal.loop-i-preserved-in_default-2
loop-i-preserved-in_default-2 c =
    let s = c.args.self.now in
    let o = c.in-Some.op in
    let here = found_at s.log c.loop-i.i c.in_ok-op.field-0 o c.in-Some.is c.in_ok-op.ensures.some in
    without_names s c.args.gone.epoch c.loop-i.named c.loop-i.i o here c.loop-i.invariant (subst (λ (r : Option (List (List Tuple))). AreNamed s c.args.gone.epoch o r) c.in_default-2.is c.in_ok-ids.ensures.named)

pub loop-i-preserved : goal.loop-i-preserved
loop-i-preserved c =
    let s = c.args.self.now in
    let o = c.in-Some.op in
    let here = found_at s.log c.loop-i.i c.in_ok-op.field-0 o c.in-Some.is c.in_ok-op.ensures.some in
    with_names s c.args.gone.epoch c.loop-i.named c.in_ok-named.named c.loop-i.i o here c.loop-i.invariant (subst IsSane c.self.view_is c.self.invariant.sane) c.in-Some-2.ids
    (subst (λ (r : Option (List (List Tuple))). AreNamed s c.args.gone.epoch o r) c.in-Some-2.is c.in_ok-ids.ensures.named) c.in_ok-named.ensures.kept c.in_ok-named.ensures.named

pub returns : goal.returns
returns c =
    let s = c.args.self.now in
    let h = c.requires.gone in
    let long = c.len.ensures.len ∙ ap (λ (u : Seen). length u.log) c.self.view_is in
    let end = c.len-i-end.ensures.len ∙ ap (λ (u : Seen). length u.log) c.self.view_is in
    record {
      gone = record {
        kept = h.kept;
        few = omega (arith, long);
        noted = subst (λ n. AllNoted s c.args.gone.epoch c.loop-i.named (take n s.log)) (omega (arith, long, end, h.few, c.loop-i-test.false, c.loop-i.auto)) c.loop-i.invariant;
      };
    }
