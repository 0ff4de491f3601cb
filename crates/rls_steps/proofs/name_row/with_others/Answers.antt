use Rattle.std.proofs.Common.{length, refl, sym, ap, ◌∙◌, subst, arith}
use Rattle.std.specs.Prelude.{Some}
use Rattle.std.proofs.lemmas.Option.{slice_get_read}
use Rattle.rls_steps.specs.declared.interval.Interval.{Interval}
use Rattle.rls_steps.specs.Intervals.{IsBetween}
use Rattle.rls_steps.proofs.name_row.with_others.Goals as goal

pub returns-then-count_before-eq0-clause-before : goal.returns-then-count_before-eq0-clause-before
returns-then-count_before-eq0-clause-before c = λ rs j s m bounded noted has h g p.
    c.count_before.ensures.none rs m.1 bounded has j m.1 (omega (arith, c.if-count_before-eq0.true)) h (s, m, g, p, refl) (omega arith) (omega arith)

pub returns-in_ok-copy-in-Some-clause-before : goal.returns-in_ok-copy-in-Some-clause-before
returns-in_ok-copy-in-Some-clause-before c = λ rs j s m bounded noted has h g p.
    let vs = c.args.intervals.now.items in
    let u = slice_get_read vs (length vs) c.args.last c.index.result.now refl c.requires.noted c.index.ensures in
    subst (λ (v : Interval). IsBetween v m.0) (sym (c.in_ok-copy-in-Some.ensures.copy ∙ c.deref.ensures))
    (noted.each c.args.last j (Some c.in-Some.interval) s m (u ∙ ap Some c.in-Some.is) has h g p)
