use Rattle.std.proofs.Common.{◌≡◌, true, ◌∷◌, sym, ap, ◌∙◌}
use Rattle.std.specs.List.{list_all}
use Rattle.rls_causal.specs.Queued.{is_by, counts_own}
use Rattle.rls_causal.proofs.Ready.{none_ready}
use Rattle.rls_causal.proofs.queue.Queue.first_ready.Goals as goal

pub returns-then-is_ahead : goal.returns-then-is_ahead
returns-then-is_ahead c =
    let W = c.args.self.now in
    let h = c.self.invariant in
    let by : list_all (is_by h.author) W ≡ true = ap (list_all (is_by h.author)) (sym c.self.view_is) ∙ h.by in
    let counted : list_all counts_own W ≡ true = ap (list_all counts_own) (sym c.self.view_is) ∙ h.counted c.if-self.true in
    record { ready = sym (none_ready c.args.vector.now W c.op-op.result.now c.next.new.self c.loop-waiting.waiting-iterator (c.in-Some.ensures.steps ∙ ap (λ o. o ∷ c.next.new.self) (sym c.op-op.ensures.op)) c.loop-waiting.invariant h.author by counted (sym c.at_most.ensures.at_most ∙ c.if-at_most.false) (c.is_ahead.ensures.ahead c.if-is_ahead.true)) }
