use Rattle.std.proofs.Common.{◌≡◌, ◌∙◌, sym, ap}
use Rattle.rls_model.specs.Answers.{Applies, Waits, answer_of}
use Rattle.rls_seen.specs.Over.{answer_over}
use Rattle.rls_seen.proofs.Receiving.{applies, waits}
use Rattle.rls_replica.proofs.Answered.{waits_alone}
use Rattle.rls_replica.proofs.replica.Replica.receive_exactly.Goals as goal

pub show-requires : goal.show-requires
show-requires g c =
    let e : answer_over c.args.own c.note_gone.new.self c.args.op ≡ Applies = sym c.in_ok-look.ensures.answer ∙ ap answer_of c.in-Applied.is in
    record { may = rw c.look.ensures.same (applies c.args.own c.note_gone.new.self c.args.op c.fits.ensures.whole e) }

pub apply_shown-requires : goal.apply_shown-requires
apply_shown-requires g c =
    let e : answer_over c.args.own c.note_gone.new.self c.args.op ≡ Applies = sym c.in_ok-look.ensures.answer ∙ ap answer_of c.in-Applied.is in
    record { may = rw c.look.ensures.same (applies c.args.own c.note_gone.new.self c.args.op c.fits.ensures.whole e) }

pub hold-requires-clause-may : goal.hold-requires-clause-may
hold-requires-clause-may g c =
    let e : answer_over c.args.own c.note_gone.new.self c.args.op ≡ Waits = sym c.in_ok-look.ensures.answer ∙ ap answer_of c.in-Held.is in
    rw c.look.ensures.same (waits c.args.own c.note_gone.new.self c.args.op c.fits.ensures.whole e)

pub hold-requires-clause-alone : goal.hold-requires-clause-alone
hold-requires-clause-alone g c =
    let e : answer_over c.args.own c.note_gone.new.self c.args.op ≡ Waits = sym c.in_ok-look.ensures.answer ∙ ap answer_of c.in-Held.is in
    rw c.look.ensures.same (waits_alone c.args.own c.note_gone.new.self c.args.op e)
