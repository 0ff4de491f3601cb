use Rattle.rls_session.specs.Seats.{seat_of}
use Rattle.rls_session.proofs.Answered.{on_ok}
use Rattle.rls_session.proofs.Drafting.{ok_gives, worked_taken}
use Rattle.rls_session.proofs.Writable.{taken_stays_writable}
use Rattle.rls_session.proofs.seat.take.Goals as goal

pub returns-clause-answered : goal.returns-clause-answered
returns-clause-answered c =
    on_ok c.take.result _ _ (λ reply a. worked_taken (seat_of c.args.desk.now c.args.draft.now) c.make.new.desk c.take.new.self c.make.new.draft c.args.bytes.now reply.items c.in_ok-make.ensures.made c.make.ensures.none a) c.take.ensures.answered

pub returns-clause-writable : goal.returns-clause-writable
returns-clause-writable c =
    λ w. ok_gives c.take.result _ _ (λ reply a. taken_stays_writable c.make.new.desk c.take.new.self c.args.bytes.now reply.items c.take.ensures.bytes a c.take.ensures.sane (c.in_ok-make.ensures.writable w)) c.take.ensures.answered
