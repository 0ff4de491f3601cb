use Rattle.std.proofs.Common.{◌∙◌, sym}
use Rattle.rls_session.specs.Seats.{seat_of}
use Rattle.rls_session.proofs.Answered.{on_ok}
use Rattle.rls_session.proofs.Drafting.{begun_so, noted_so}
use Rattle.rls_session.proofs.seat.change.Goals as goal

pub returns-in-Some-clause-answered : goal.returns-in-Some-clause-answered
returns-in-Some-clause-answered c =
    on_ok c.noted.result _ _ (λ reply text. noted_so (seat_of c.args.desk.now c.args.draft.now) c.replica.result.now c.args.change c.in-Some.merged reply.items c.replica.ensures.replica (sym c.in-Some.is ∙ c.in_ok-merged.ensures.merged) text) c.noted.ensures.text

pub returns-clause-answered : goal.returns-clause-answered
returns-clause-answered c =
    on_ok c.begin.result _ _ (λ reply a. begun_so (seat_of c.args.desk.now c.args.draft.now) c.replica.result.now c.make.new.desk c.args.change c.begin.new.draft reply.items c.replica.ensures.replica (sym c.in_default.is ∙ c.in_ok-merged.ensures.merged) c.in_ok-make.ensures.made a) c.begin.ensures.answered
