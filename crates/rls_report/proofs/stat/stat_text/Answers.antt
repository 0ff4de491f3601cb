use Rattle.std.proofs.Common.{rules, ◌∙◌, IfOk, Result, Ok, Err}
use Rattle.rls_report.proofs.Numbers.{stat_alike}
use Rattle.rls_report.proofs.stat.stat_text.Goals as goal

if_ok : {T E : Type 0} {P Q : T → Type 0} (r : Result T E) → IfOk r P → ((x : T) → P x → Q x) → IfOk r Q
if_ok (Ok x) a f = f x a
if_ok (Err x) a f = tt

pub returns-clause-text : goal.returns-clause-text
returns-clause-text c = search (rules)

pub returns-clause-stands : goal.returns-clause-stands
returns-clause-stands c = if_ok c.stat_report.result (returns-clause-text c) (λ x e t h. e ∙ stat_alike c.args.replica.now t h)
