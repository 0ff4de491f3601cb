use Rattle.std.proofs.Common.{Some, option_copied, ap, ◌∙◌}
use Rattle.rls_causal.specs.Queued.{numbered}
use Rattle.rls_causal.proofs.Queued.{looked_up}
use Rattle.rls_causal.proofs.queue.Queue.get.Goals as goal

pub returns-in_err-waiting : goal.returns-in_err-waiting
returns-in_err-waiting c = record { waiting = λ a by. ap option_copied c.from_residual.ensures ∙ (c.in_err-waiting.ensures.value ∙ looked_up c.self.inside.ops.entries c.args.self.now (c.self.invariant.own ∙ ap numbered c.self.view_is) a c.args.seq by) }

pub returns : goal.returns
returns c = record { waiting = λ a by. ap Some c.op.ensures.op ∙ (c.in_ok-waiting.ensures.value ∙ looked_up c.self.inside.ops.entries c.args.self.now (c.self.invariant.own ∙ ap numbered c.self.view_is) a c.args.seq by) }
