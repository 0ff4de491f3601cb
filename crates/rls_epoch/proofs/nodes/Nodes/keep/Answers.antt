use Rattle.std.proofs.Common.{length, drop, ap, ◌∙◌, arith}
use Rattle.rls_epoch.specs.Links.{epoch_at}
use Rattle.rls_epoch.specs.Seen.{nodes_of}
use Rattle.rls_epoch.proofs.Compacting.{kept_placed_fewer}
use Rattle.rls_epoch.proofs.KnownRuns.{none_known}
use Rattle.rls_epoch.proofs.Shrinking.{laid_left, parents_numbered}
use Rattle.rls_epoch.proofs.nodes.Nodes.keep.Goals as goal

pub keep_nodes-requires-clause-marked : goal.keep_nodes-requires-clause-marked
keep_nodes-requires-clause-marked c =
    let r = rw (← c.self.view_is) at c.requires.numbered in
    parents_numbered c.self.inside.top c.self.inside.list.items c.self.invariant.0 c.args.marks.now c.args.number (rw (← c.self.view_is) at c.requires.within) (rw (← c.self.view_is) at c.requires.whole) r.0 r.1 r.2

pub renew_jumps-requires : goal.renew_jumps-requires
renew_jumps-requires c =
    let r = rw (← c.self.view_is) at c.requires.numbered in
    let l = laid_left c.self.inside.top c.self.inside.list.items c.self.invariant.0 c.args.marks.now c.args.number (rw (← c.self.view_is) at c.requires.within) (rw (← c.self.view_is) at c.requires.whole) r.0 r.1 r.2 in
    let f = kept_placed_fewer c.args.marks.now (drop 1 c.args.marks.now) c.self.inside.list.items in
    let q = c.self.invariant.2 in
    let n = rw (← c.self.view_is) at c.count-count.ensures.count in
    let m = c.count-count.ensures.room in
    rw (c.deref.ensures.value, c.keep_nodes.ensures.kept) record {
      enough = omega (arith, f, q);
      room = omega (arith, f, n, m);
      laid = (epoch_at c.self.inside.top c.self.inside.list.items c.args.number, l);
    }

pub invariant_of-self : goal.invariant_of-self
invariant_of-self c =
    let r = rw (← c.self.view_is) at c.requires.numbered in
    let l = laid_left c.self.inside.top c.self.inside.list.items c.self.invariant.0 c.args.marks.now c.args.number (rw (← c.self.view_is) at c.requires.within) (rw (← c.self.view_is) at c.requires.whole) r.0 r.1 r.2 in (
      rw (c.epoch_of-self-inside.ensures.name, c.keep_nodes.ensures.kept, ← c.self.view_is) l,
      none_known (nodes_of c.keep_nodes.new.nodes.items) c.clear.new.self c.clear.ensures.none,
      c.renew_jumps.ensures.whole ∙ ap length c.deref.ensures.value,
      (rw c.deref.ensures.value at c.renew_jumps.ensures.jumps) c.epoch_of-self-inside.result (rw (c.epoch_of-self-inside.ensures.name, c.keep_nodes.ensures.kept, ← c.self.view_is) l),
    )
