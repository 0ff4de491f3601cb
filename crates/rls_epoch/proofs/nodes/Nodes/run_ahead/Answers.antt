use Rattle.std.proofs.Common.{reverse, ap, ◌∙◌}
use Rattle.rls_runs.specs.Runs.{run_idents}
use Rattle.rls_epoch.proofs.Turning.{run_led_ahead}
use Rattle.rls_epoch.proofs.nodes.Nodes.run_ahead.Goals as goal

pub returns-in-Some-clause-led : goal.returns-in-Some-clause-led
returns-in-Some-clause-led c =
    let left = c.move_heads.new.turned.items in
    let turned = rw c.first-2.ensures.first at c.in_ok-turned.ensures.turned in
    let all = rw c.in-Some.is at c.in_ok-ahead.ensures.run in
    run_led_ahead c.args.self.now.placed c.args.steps.now c.in_ok-count.count c.in-Some.ahead c.args.run.now c.in_ok-turned.turned.items left turned c.in_ok-count.ensures.ahead (all ∙ (ap (λ ys. run_idents (reverse ys) c.len-2.result) c.deref.ensures.value ∙ ap (run_idents (reverse left)) c.len-2.ensures.len))
