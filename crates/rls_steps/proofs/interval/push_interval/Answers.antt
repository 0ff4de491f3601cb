use Rattle.rls_steps.proofs.Intervals.{noted_kept, noted_more, noted_spent}
use Rattle.std.proofs.Common.{◌∷◌, [], ◌++◌, ap, ◌∙◌}
use Rattle.rls_steps.proofs.interval.push_interval.Goals as goal

pub returns-in_err-push-clause-kept : goal.returns-in_err-push-clause-kept
returns-in_err-push-clause-kept c = λ rs e o. noted_spent rs c.args.intervals.now.items c.push.new.self.items c.args.runs e o (c.in_err-push.ensures.items ∙ c.truncate.ensures.items)

pub returns-clause-kept : goal.returns-clause-kept
returns-clause-kept c = λ rs e o. noted_kept rs c.args.intervals.now.items c.push.new.self.items c.args.runs c.args.interval e o (c.in_ok-push.ensures.items ∙ ap (λ vs. vs ++ c.args.interval ∷ []) c.truncate.ensures.items)

pub returns-clause-put : goal.returns-clause-put
returns-clause-put c = λ rs r low high e o own between. noted_more rs r c.args.intervals.now.items c.push.new.self.items c.args.runs low high c.args.interval e o own between (c.in_ok-push.ensures.items ∙ ap (λ vs. vs ++ c.args.interval ∷ []) c.truncate.ensures.items)
