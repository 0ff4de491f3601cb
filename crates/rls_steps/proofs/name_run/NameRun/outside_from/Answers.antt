use Rattle.std.proofs.Common.{◌<◌, subst}
use Rattle.rls_steps.proofs.FreeRuns.{outside, far_from, some_before}
use Rattle.rls_steps.proofs.name_run.NameRun.outside_from.Goals as goal

pub returns-in-None-clause-outside : goal.returns-in-None-clause-outside
returns-in-None-clause-outside c = outside c.args.self.now c.args.low.now c.in_ok-least.least c.args.most c.in_ok-least.ensures.all c.in_ok-least.ensures.each (c.place_from.ensures.missed c.in-None.is)

pub returns-clause-some : goal.returns-clause-some
returns-clause-some c =
    some_before c.args.self.now c.args.low.now c.in_ok-least.least c.in-Some.place c.in_ok-least.ensures.each (subst (λ n. 0 < n) c.len-len.ensures.len c.len-len.ensures.some) c.in-Some.ensures.found.1

pub returns-clause-outside : goal.returns-clause-outside
returns-clause-outside c =
    outside c.args.self.now c.args.low.now c.in_ok-least.least c.in-Some.place c.in_ok-least.ensures.all c.in_ok-least.ensures.each
    (λ m. far_from c.args.low.now c.in_ok-least.least c.in-Some.place m c.last-low.ensures.ident c.in-Some.ensures.found.1)
