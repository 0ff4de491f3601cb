use Rattle.std.proofs.Common.{option_copied, sym, ap, ◌∙◌}
use Rattle.rls_causal.proofs.Queues.{own_queue, found_under}
use Rattle.rls_causal.proofs.held.Held.get.Goals as goal

pub returns-in_err-get : goal.returns-in_err-get
returns-in_err-get c =
    record { waiting = ap option_copied c.from_residual.ensures ∙ found_under c.args.author c.args.seq _ _ _ c.self.invariant.queues c.self.view_is c.in_err-get.ensures.value }

pub returns : goal.returns
returns c =
    record { waiting = c.get-2.ensures.waiting c.args.author (own_queue c.args.author c.self.inside.queues.entries c.in_ok-get.field-0.now c.self.invariant.queues.own (sym c.in_ok-get.ensures.value)) ∙ found_under c.args.author c.args.seq _ _ _ c.self.invariant.queues c.self.view_is c.in_ok-get.ensures.value }
