use Rattle.std.proofs.Common.{Some, sym, ap, ◌∙◌}
use Rattle.std.specs.List.{list_all}
use Rattle.std.specs.Map.{values_of}
use Rattle.rls_ops.specs.Waiting.{without, is_in_order}
use Rattle.rls_ops.proofs.Waiting.{without_in_order}
use Rattle.rls_causal.specs.Queued.{is_by, counts_own, numbered}
use Rattle.rls_causal.proofs.Queued.{looked_up, removed, own_is, values_is, without_passing}
use Rattle.rls_causal.proofs.queue.Queue.take_out.Goals as goal

pub returns-in_err-waiting-clause-found : goal.returns-in_err-waiting-clause-found
returns-in_err-waiting-clause-found c = λ a by. c.from_residual.ensures ∙ (c.in_err-waiting.ensures.value ∙ looked_up c.self.inside.ops.entries c.args.self.now (c.self.invariant.own ∙ ap numbered c.self.view_is) a c.args.seq by)

pub returns-in_err-waiting-clause-others : goal.returns-in_err-waiting-clause-others
returns-in_err-waiting-clause-others c = λ a by.
    let W = c.args.self.now in
    let es = c.remove.new.self.entries in
    values_is es (without a c.args.seq W) (removed c.self.inside.ops.entries W (c.self.invariant.own ∙ ap numbered c.self.view_is) a c.args.seq es by (ap is_in_order (sym c.self.view_is) ∙ c.self.invariant.order) c.in_err-waiting.ensures.entries)

pub invariant_of-self-2 : goal.invariant_of-self-2
invariant_of-self-2 c =
    let h = c.self.invariant in
    let a = h.author in
    let s = c.args.seq in
    let W = values_of c.self.inside.ops.entries in
    let es = c.remove.new.self.entries in
    let e = removed c.self.inside.ops.entries W h.own a s es h.by h.order c.in_ok-waiting.ensures.entries in
    let v = values_is es (without a s W) e in
    record {
      author = a;
      by = ap (list_all (is_by a)) v ∙ without_passing (is_by a) a s W h.by;
      own = own_is es (without a s W) e;
      order = ap is_in_order v ∙ without_in_order a s W h.order;
      counted = λ r. ap (list_all counts_own) v ∙ without_passing counts_own a s W (h.counted r);
    }

pub returns-clause-found : goal.returns-clause-found
returns-clause-found c = λ a by. ap Some c.into_op.ensures.op ∙ (c.in_ok-waiting.ensures.value ∙ looked_up c.self.inside.ops.entries c.args.self.now (c.self.invariant.own ∙ ap numbered c.self.view_is) a c.args.seq by)

pub returns-clause-others : goal.returns-clause-others
returns-clause-others c = λ a by.
    let W = c.args.self.now in
    let es = c.remove.new.self.entries in
    values_is es (without a c.args.seq W) (removed c.self.inside.ops.entries W (c.self.invariant.own ∙ ap numbered c.self.view_is) a c.args.seq es by (ap is_in_order (sym c.self.view_is) ∙ c.self.invariant.order) c.in_ok-waiting.ensures.entries)
