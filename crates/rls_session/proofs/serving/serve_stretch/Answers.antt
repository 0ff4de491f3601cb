use Rattle.std.proofs.Common.{◌∙◌, Bool, true, false, Some, Err, IfSome, Ok, ap, refl, subst, sym}
use Rattle.rls_report.specs.declared.failures.Failure.{Failure}
use Rattle.rls_session.specs.AsTold.{faults, telling}
use Rattle.rls_session.specs.Answering.{IsDone, is_store}
use Rattle.rls_session.specs.Devices.{devices}
use Rattle.rls_session.specs.Intake.{known_come}
use Rattle.rls_session.specs.Seats.{course_at, seat_of}
use Rattle.rls_session.specs.Serving.{StageEnds}
use Rattle.rls_session.specs.Sessions.{by_parts}
use Rattle.rls_session.proofs.AsTold.{exchanged_failed, exchanged_went}
use Rattle.rls_session.proofs.Storing.{saved_as, told_went}
use Rattle.rls_session.proofs.Stages.{answer_ends, done_made, paused_on, prompt_by, save_ends, saved_on, unmade_ends}
use Rattle.rls_session.proofs.serving.serve_stretch.Goals as goal

pub returns-in-Err-clause-ends : goal.returns-in-Err-clause-ends
returns-in-Err-clause-ends g c =
    answer_ends g.K.Keeper.store_gives c.args.desk.now (known_come c.args.intake.now (g.S.Source.left c.args.input.now)) c.args.intake.now.ended c.in-Err.error c.from.result c.args.keeper.now (g.K.Keeper.file c.args.keeper.now)
    (g.S.Source.left c.args.input.now) (g.S.Source.left c.answer_all.new.input) (g.W.Sink.told c.args.output.now) (g.W.Sink.told c.answer_all.new.output) _ _ _ _ _
    c.from.ensures (λ e. c.in-Err.ensures.too_large (ap Err e)) (λ e. c.in-Err.ensures.cut (ap Err e)) c.in-Err.ensures.part (λ e. (c.in-Err.ensures.input (ap Err e), c.in-Err.ensures.open (ap Err e))) (λ e. c.in-Err.ensures.output (ap Err e))
    c.in-Err.ensures.near (λ e. prompt_by c.args.desk.now (known_come c.args.intake.now (g.S.Source.left c.args.input.now)) (g.S.Source.left c.answer_all.new.input) (g.W.Sink.told c.args.output.now) (g.W.Sink.told c.answer_all.new.output) (c.in-Err.ensures.prompt (ap Err e)))

pub returns-in-Err-make-clause-ends : goal.returns-in-Err-make-clause-ends
returns-in-Err-make-clause-ends g c =
    let come = known_come c.args.intake.now (g.S.Source.left c.args.input.now) in
    let keeper = c.args.keeper.now in
    subst (λ (f : Failure). StageEnds g.K.Keeper.store_gives c.args.desk.now come c.args.intake.now.ended (Err f) keeper keeper (devices g.K.Keeper.file g.K.Keeper.faults g.S.Source.left g.S.Source.faults g.W.Sink.told g.W.Sink.faults keeper c.args.input.now c.args.output.now) (devices g.K.Keeper.file g.K.Keeper.faults g.S.Source.left g.S.Source.faults g.W.Sink.told g.W.Sink.faults keeper c.answer_all.new.input c.answer_all.new.output))
    (sym c.of_fault.ensures.fault)
    (unmade_ends g.K.Keeper.store_gives c.args.desk.now (seat_of c.answer_all.new.desk c.answer_all.new.draft) come c.args.intake.now.ended (is_store c.in-Ok.halt) keeper (g.K.Keeper.file keeper) (g.S.Source.left c.args.input.now) (g.S.Source.left c.answer_all.new.input) (g.W.Sink.told c.args.output.now) (g.W.Sink.told c.answer_all.new.output) _ _ _ _ _
    c.in-Ok.ensures.done c.in-Ok.ensures.near)

pub returns-in-Err-save-clause-ends : goal.returns-in-Err-save-clause-ends
returns-in-Err-save-clause-ends g c =
    let d = c.args.desk.now in
    let next = c.make.new.desk in
    let b = seat_of c.answer_all.new.desk c.answer_all.new.draft in
    let come = known_come c.args.intake.now (g.S.Source.left c.args.input.now) in
    let stores = is_store c.in-Ok.halt in
    let old = g.W.Sink.told c.args.output.now in
    let mid = g.W.Sink.told c.answer_all.new.output in
    save_ends g.K.Keeper.store_gives d next come c.args.intake.now.ended stores (Err c.in-Err-save.failure) c.replica.result.now c.args.keeper.now c.save.new.keeper _ _ (g.S.Source.left c.args.input.now) (g.S.Source.left c.answer_all.new.input) old mid _ _ _ _ _ _ _ _
    (done_made d next b come stores old mid c.in_default.ensures.made c.in-Ok.ensures.done) c.replica.ensures.replica c.in-Err-save.ensures.saves tt c.in-Ok.ensures.never_falls c.in-Ok.ensures.near (c.in-Ok.ensures.sent c.requires.writable)

pub returns-in-End-clause-ends : goal.returns-in-End-clause-ends
returns-in-End-clause-ends g c =
    let d = c.args.desk.now in
    let next = c.make.new.desk in
    let b = seat_of c.answer_all.new.desk c.answer_all.new.draft in
    let come = known_come c.args.intake.now (g.S.Source.left c.args.input.now) in
    let stores = is_store c.in-Ok.halt in
    let old = g.W.Sink.told c.args.output.now in
    let mid = g.W.Sink.told c.answer_all.new.output in
    save_ends g.K.Keeper.store_gives d next come c.args.intake.now.ended stores (Ok tt) c.replica.result.now c.args.keeper.now c.save.new.keeper _ _ (g.S.Source.left c.args.input.now) (g.S.Source.left c.answer_all.new.input) old mid _ _ _ _ _ _ _ _
    (done_made d next b come stores old mid c.in_default.ensures.made c.in-Ok.ensures.done) c.replica.ensures.replica c.in-Ok-save.ensures.saves (ap is_store c.in-End.is) c.in-Ok.ensures.never_falls c.in-Ok.ensures.near (c.in-Ok.ensures.sent c.requires.writable)

pub returns-in-Err-store_and_go_on-clause-ends : goal.returns-in-Err-store_and_go_on-clause-ends
returns-in-Err-store_and_go_on-clause-ends g c =
    let d = c.args.desk.now in
    let next = c.make.new.desk in
    let b = seat_of c.answer_all.new.desk c.answer_all.new.draft in
    let come = known_come c.args.intake.now (g.S.Source.left c.args.input.now) in
    let stores = is_store c.in-Ok.halt in
    let old = g.W.Sink.told c.args.output.now in
    let mid = g.W.Sink.told c.answer_all.new.output in
    save_ends g.K.Keeper.store_gives d next come c.args.intake.now.ended stores (Err c.in-Err-store_and_go_on.failure) next.state c.args.keeper.now c.store_and_go_on.new.keeper _ _ (g.S.Source.left c.args.input.now) (g.S.Source.left c.answer_all.new.input) old mid _ _ _ _ _ _ _ _
    (done_made d next b come stores old mid c.in_default.ensures.made c.in-Ok.ensures.done) refl c.in-Err-store_and_go_on.ensures.saves tt c.in-Ok.ensures.never_falls c.in-Ok.ensures.near (c.in-Ok.ensures.sent c.requires.writable)

pub returns-clause-ends : goal.returns-clause-ends
returns-clause-ends g c =
    let d = c.args.desk.now in
    let next = c.make.new.desk in
    let b = seat_of c.answer_all.new.desk c.answer_all.new.draft in
    let come = known_come c.args.intake.now (g.S.Source.left c.args.input.now) in
    let stores = is_store c.in-Ok.halt in
    let old = g.W.Sink.told c.args.output.now in
    let mid = g.W.Sink.told c.answer_all.new.output in
    saved_on g.K.Keeper.store_gives d next c.store_and_go_on.new.desk come (known_come c.store_and_go_on.new.intake (g.S.Source.left c.answer_all.new.input)) c.args.intake.now.ended c.store_and_go_on.new.intake.ended
    next.state c.args.keeper.now c.store_and_go_on.new.keeper _ _ (g.S.Source.left c.args.input.now) (g.S.Source.left c.answer_all.new.input) old mid _ _ _ _ _ _ _ _
    (subst (λ (x : Bool). IfSome come (λ given. IsDone (course_at by_parts d given) x next old mid)) (ap is_store c.in-Store.is) (done_made d next b come stores old mid c.in_default.ensures.made c.in-Ok.ensures.done)) refl c.in-Ok-store_and_go_on.ensures.saves
    c.in-Ok-store_and_go_on.ensures.desk c.in-Ok.ensures.never_falls c.in-Ok.ensures.input_never_falls (λ t. c.in-Ok-store_and_go_on.ensures.ended ∙ c.in-Ok.ensures.stays_ended t)
    (paused_on d come c.answer_all.new.intake c.store_and_go_on.new.intake (g.S.Source.left c.answer_all.new.input) (c.in-Ok.ensures.paused (ap Ok c.in-Store.is)) c.in-Ok-store_and_go_on.ensures.waiting c.in-Ok-store_and_go_on.ensures.ended)
    (c.in-Ok.ensures.sent c.requires.writable)

pub returns-in-Err-clause-as_told : goal.returns-in-Err-clause-as_told
returns-in-Err-clause-as_told g c =
    let a = c.args.intake.now in
    let d = c.args.desk.now in
    exchanged_failed g.S.Source.read_gives g.W.Sink.write_gives a.ended false _ _ _ _ _ _ _ c.in-Err.ensures.as_told
    (λ x y o n h file. (
      file,
      answer_ends g.K.Keeper.store_gives d (known_come a (Some x)) a.ended c.in-Err.error c.from.result c.args.keeper.now file (Some x) (Some y) (Some o) (Some n) _ _ _ _ _
          c.from.ensures (λ e. h.too_large (ap Err e)) (λ e. h.cut (ap Err e)) h.part (λ e. (c.in-Err.ensures.input (ap Err e), c.in-Err.ensures.open (ap Err e))) (λ e. c.in-Err.ensures.output (ap Err e))
          h.near (λ e. prompt_by d (known_come a (Some x)) (Some y) (Some o) (Some n) (h.prompt (ap Err e))),
    ))

pub returns-in-Err-make-clause-as_told : goal.returns-in-Err-make-clause-as_told
returns-in-Err-make-clause-as_told g c =
    let a = c.args.intake.now in
    let d = c.args.desk.now in
    let keeper = c.args.keeper.now in
    exchanged_failed g.S.Source.read_gives g.W.Sink.write_gives a.ended true _ _ _ _ _ _ _ c.in-Ok.ensures.as_told
    (λ x y o n h file. (
      file,
      subst (λ (f : Failure). StageEnds g.K.Keeper.store_gives d (known_come a (Some x)) a.ended (Err f) keeper keeper (telling file (Some x) (Some o) (faults g.K.Keeper.faults g.S.Source.faults g.W.Sink.faults c.args.keeper.now c.args.input.now c.args.output.now)) (telling file (Some y) (Some n) (faults g.K.Keeper.faults g.S.Source.faults g.W.Sink.faults keeper c.answer_all.new.input c.answer_all.new.output))) (sym c.of_fault.ensures.fault)
          (unmade_ends g.K.Keeper.store_gives d (seat_of c.answer_all.new.desk c.answer_all.new.draft) (known_come a (Some x)) a.ended (is_store c.in-Ok.halt) keeper file (Some x) (Some y) (Some o) (Some n) _ _ _ _ _ h.done h.near),
    ))

pub returns-in-Err-save-clause-as_told : goal.returns-in-Err-save-clause-as_told
returns-in-Err-save-clause-as_told g c =
    let a = c.args.intake.now in
    let d = c.args.desk.now in
    let next = c.make.new.desk in
    let b = seat_of c.answer_all.new.desk c.answer_all.new.draft in
    let stores = is_store c.in-Ok.halt in
    let r = Err c.in-Err-save.failure in
    let told = told_went g.W.Sink.write_gives r c.answer_all.new.output c.save.new.output c.in-Err-save.ensures.told in
    exchanged_went g.S.Source.read_gives g.W.Sink.write_gives a.ended false _ _ _ _ _ _ _ told.0 _ _ c.in-Ok.ensures.as_told refl told.1
    (λ x y o m n e h file.
    let saves = saved_as g.K.Keeper.store_gives c.replica.result.now r c.args.keeper.now c.save.new.keeper _ _ _ _ _ _ _ _ told.0 m n file c.in-Err-save.ensures.saves told.2 e in (
      saves.0,
      save_ends g.K.Keeper.store_gives d next (known_come a (Some x)) a.ended stores r c.replica.result.now c.args.keeper.now c.save.new.keeper file saves.0 (Some x) (Some y) (Some o) (Some m) (Some n) _ _ _ _ _ _ _
          (done_made d next b (known_come a (Some x)) stores (Some o) (Some m) c.in_default.ensures.made h.done) c.replica.ensures.replica saves.1 tt c.in-Ok.ensures.never_falls h.near (h.sent c.requires.writable),
    ))

pub returns-in-End-clause-as_told : goal.returns-in-End-clause-as_told
returns-in-End-clause-as_told g c =
    let a = c.args.intake.now in
    let d = c.args.desk.now in
    let next = c.make.new.desk in
    let b = seat_of c.answer_all.new.desk c.answer_all.new.draft in
    let stores = is_store c.in-Ok.halt in
    let told = told_went g.W.Sink.write_gives (Ok tt) c.answer_all.new.output c.save.new.output c.in-Ok-save.ensures.told in
    exchanged_went g.S.Source.read_gives g.W.Sink.write_gives a.ended true _ _ _ _ _ _ _ told.0 _ _ c.in-Ok.ensures.as_told refl told.1
    (λ x y o m n e h file.
    let saves = saved_as g.K.Keeper.store_gives c.replica.result.now (Ok tt) c.args.keeper.now c.save.new.keeper _ _ _ _ _ _ _ _ told.0 m n file c.in-Ok-save.ensures.saves told.2 e in (
      saves.0,
      save_ends g.K.Keeper.store_gives d next (known_come a (Some x)) a.ended stores (Ok tt) c.replica.result.now c.args.keeper.now c.save.new.keeper file saves.0 (Some x) (Some y) (Some o) (Some m) (Some n) _ _ _ _ _ _ _
          (done_made d next b (known_come a (Some x)) stores (Some o) (Some m) c.in_default.ensures.made h.done) c.replica.ensures.replica saves.1 (ap is_store c.in-End.is) c.in-Ok.ensures.never_falls h.near (h.sent c.requires.writable),
    ))

pub returns-in-Err-store_and_go_on-clause-as_told : goal.returns-in-Err-store_and_go_on-clause-as_told
returns-in-Err-store_and_go_on-clause-as_told g c =
    let a = c.args.intake.now in
    let d = c.args.desk.now in
    let next = c.make.new.desk in
    let b = seat_of c.answer_all.new.desk c.answer_all.new.draft in
    let stores = is_store c.in-Ok.halt in
    let r = Err c.in-Err-store_and_go_on.failure in
    let told = told_went g.W.Sink.write_gives r c.answer_all.new.output c.store_and_go_on.new.output c.in-Err-store_and_go_on.ensures.told in
    exchanged_went g.S.Source.read_gives g.W.Sink.write_gives a.ended false _ _ _ _ _ _ _ told.0 _ _ c.in-Ok.ensures.as_told c.in-Err-store_and_go_on.ensures.ended told.1
    (λ x y o m n e h file.
    let saves = saved_as g.K.Keeper.store_gives next.state r c.args.keeper.now c.store_and_go_on.new.keeper _ _ _ _ _ _ _ _ told.0 m n file c.in-Err-store_and_go_on.ensures.saves told.2 e in (
      saves.0,
      save_ends g.K.Keeper.store_gives d next (known_come a (Some x)) a.ended stores r next.state c.args.keeper.now c.store_and_go_on.new.keeper file saves.0 (Some x) (Some y) (Some o) (Some m) (Some n) _ _ _ _ _ _ _
          (done_made d next b (known_come a (Some x)) stores (Some o) (Some m) c.in_default.ensures.made h.done) refl saves.1 tt c.in-Ok.ensures.never_falls h.near (h.sent c.requires.writable),
    ))

pub returns-clause-as_told : goal.returns-clause-as_told
returns-clause-as_told g c =
    let a = c.args.intake.now in
    let d = c.args.desk.now in
    let next = c.make.new.desk in
    let b = seat_of c.answer_all.new.desk c.answer_all.new.draft in
    let stores = is_store c.in-Ok.halt in
    let told = told_went g.W.Sink.write_gives (Ok tt) c.answer_all.new.output c.store_and_go_on.new.output c.in-Ok-store_and_go_on.ensures.told in
    exchanged_went g.S.Source.read_gives g.W.Sink.write_gives a.ended true _ _ _ _ _ _ _ told.0 _ _ c.in-Ok.ensures.as_told c.in-Ok-store_and_go_on.ensures.ended told.1
    (λ x y o m n e h file.
    let come = known_come a (Some x) in
    let saves = saved_as g.K.Keeper.store_gives next.state (Ok tt) c.args.keeper.now c.store_and_go_on.new.keeper _ _ _ _ _ _ _ _ told.0 m n file c.in-Ok-store_and_go_on.ensures.saves told.2 e in (
      saves.0,
      saved_on g.K.Keeper.store_gives d next c.store_and_go_on.new.desk come (known_come c.store_and_go_on.new.intake (Some y)) a.ended c.store_and_go_on.new.intake.ended next.state c.args.keeper.now c.store_and_go_on.new.keeper file saves.0 (Some x) (Some y) (Some o) (Some m) (Some n) _ _ _ _ _ _ _
          (subst (λ (z : Bool). IfSome come (λ given. IsDone (course_at by_parts d given) z next (Some o) (Some m))) (ap is_store c.in-Store.is) (done_made d next b come stores (Some o) (Some m) c.in_default.ensures.made h.done)) refl saves.1
          c.in-Ok-store_and_go_on.ensures.desk c.in-Ok.ensures.never_falls c.in-Ok.ensures.input_never_falls (λ t. c.in-Ok-store_and_go_on.ensures.ended ∙ c.in-Ok.ensures.stays_ended t)
          (paused_on d come c.answer_all.new.intake c.store_and_go_on.new.intake (Some y) (h.paused (ap Ok c.in-Store.is)) c.in-Ok-store_and_go_on.ensures.waiting c.in-Ok-store_and_go_on.ensures.ended)
          (h.sent c.requires.writable),
    ))
