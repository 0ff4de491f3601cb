use Rattle.std.proofs.Common.{◌-◌, sym, ap, ◌∙◌}
use Rattle.std.proofs.lemmas.Result.{IfOk-weaker}
use Rattle.rls_steps.specs.NameRuns.{Stretch, name_at}
use Rattle.rls_steps.proofs.Stretches.{ends_down, ends_up, each_down, each_up}
use Rattle.rls_steps.proofs.name_run.NameRun.least.Goals as goal

pub returns-then-self-clause-all : goal.returns-then-self-clause-all
returns-then-self-clause-all c =
    let r = c.args.self.now in
    let down = sym (ap (λ (q : Stretch). q.down) c.self.view_is) ∙ c.if-self.true in
    IfOk-weaker c.ident.result _ _ (λ x e. ends_down r x down (e ∙ ap (λ m. (name_at r (m - 1)).0) c.len-count.ensures.len)) c.ident.ensures.ident

pub returns-then-self-clause-each : goal.returns-then-self-clause-each
returns-then-self-clause-each c =
    let r = c.args.self.now in
    let down = sym (ap (λ (q : Stretch). q.down) c.self.view_is) ∙ c.if-self.true in
    IfOk-weaker c.ident.result _ _ (λ x e. each_down r x down (e ∙ ap (λ m. (name_at r (m - 1)).0) c.len-count.ensures.len)) c.ident.ensures.ident

pub returns-clause-all : goal.returns-clause-all
returns-clause-all c =
    let e = c.self.view_is in
    IfOk-weaker c.copy.result _ _ (λ x f. ends_up c.args.self.now x (sym (ap (λ (q : Stretch). q.down) e) ∙ c.if-self.false) (f ∙ ap (λ (q : Stretch). q.first) e)) c.copy.ensures.copy

pub returns-clause-each : goal.returns-clause-each
returns-clause-each c =
    let e = c.self.view_is in
    IfOk-weaker c.copy.result _ _ (λ x f. each_up c.args.self.now x (sym (ap (λ (q : Stretch). q.down) e) ∙ c.if-self.false) (f ∙ ap (λ (q : Stretch). q.first) e)) c.copy.ensures.copy
