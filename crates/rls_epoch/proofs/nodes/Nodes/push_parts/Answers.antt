use Rattle.std.proofs.Common.{rules, ◌≡◌, ◌+◌, ◌++◌, ◌∷◌, [], length, drop, arith}
use Rattle.rls_runs.specs.Runs.{idents_of}
use Rattle.rls_epoch.specs.declared.parts.Part.{Part}
use Rattle.rls_epoch.proofs.Parting.{fewer_front, idents_front, push_ends, push_work, same_length, way_push}
use Rattle.rls_epoch.proofs.Turning.{within_drop}
use Rattle.rls_epoch.proofs.nodes.Nodes.push_parts.Goals as goal

pub last_part-requires-clause-within : goal.last_part-requires-clause-within
last_part-requires-clause-within c = rw c.split_at.ensures.back (within_drop (length c.args.self.now.placed) c.args.steps.now c.args.done c.requires.within)

pub loop-rest-preserved : goal.loop-rest-preserved
loop-rest-preserved c =
    let ps = c.args.self.now.placed in
    let steps = c.args.steps.now in
    let done = c.args.done in
    let count = c.in_ok-start.count in
    let s = c.in_ok-start.start in
    let ids = c.in_ok-start.ids in
    let rest = c.loop-rest.rest.now in
    let parts = c.loop-rest.parts.items in
    let i = c.loop-rest.invariant in
    let x : Part = record { ids = ids; done = done + count } in
    let pushed : c.push.new.self.items ≡ parts ++ x ∷ [] = search rules in
    let e = rw c.split_at.ensures.back at c.in_ok-start.ensures.led in
    let w = c.in_ok-start.ensures.within in
    let b = c.split_at.ensures.back_len in
    let few = fewer_front rest s in
    let t = i.total in
    rw (c.split_at-in-loop-rest.ensures.front, pushed) record {
      idents = idents_front rest s i.idents;
      total = omega arith;
      under_way = way_push (length steps) parts x i.under_way c.in_ok-start.ensures.idents (omega arith);
      ends = push_ends ps steps done count s rest ids parts _ e i.ends;
      less = push_work (length steps) done count s _ _ rest ids parts (same_length _ _ ids (idents_of (drop s rest)) e) c.in_ok-start.ensures.some (omega arith) i.less;
    }
