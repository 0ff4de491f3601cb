use Rattle.std.proofs.Common.{◌∙◌, Some, None, true, false, inl, refl, sym}
use Rattle.rls_journal.proofs.Parts.{file_synced, no_file}
use Rattle.rls_journal.proofs.Rests.{looks_call, looks_both, looks_settled}
use Rattle.rls_io.proofs.Runs.{fails_front}
use Rattle.rls_journal.specs.Calls.{gate_steps, named_steps, settle_steps, slot_named}
use Rattle.rls_journal.proofs.Asked.{names_not, settles}
use Rattle.rls_journal.proofs.slots.settle.Goals as goal

pub returns-in_err-sync-clause-looks : goal.returns-in_err-sync-clause-looks
returns-in_err-sync-clause-looks g c = looks_both g.D.Disk.retries g.D.Disk.seen g.D.Disk.may_leave g.D.Disk.moment g.D.Disk.left_since g.met.D.Disk.only_now c.args.disk.now c.gate_slot.new.disk c.sync.new.self c.gate_slot.ensures.looks (looks_call g.D.Disk.retries g.D.Disk.seen g.D.Disk.may_leave g.D.Disk.moment g.D.Disk.left_since g.met.D.Disk.only_now c.gate_slot.new.disk c.sync.new.self c.sync.ensures.same c.sync.ensures.crash c.sync.ensures.time)

pub returns-clause-looks : goal.returns-clause-looks
returns-clause-looks g c = looks_both g.D.Disk.retries g.D.Disk.seen g.D.Disk.may_leave g.D.Disk.moment g.D.Disk.left_since g.met.D.Disk.only_now c.args.disk.now c.gate_slot.new.disk c.sync.new.self c.gate_slot.ensures.looks (looks_call g.D.Disk.retries g.D.Disk.seen g.D.Disk.may_leave g.D.Disk.moment g.D.Disk.left_since g.met.D.Disk.only_now c.gate_slot.new.disk c.sync.new.self c.sync.ensures.same c.sync.ensures.crash c.sync.ensures.time)

pub returns-clause-settled : goal.returns-clause-settled
returns-clause-settled g c = λ sound.
    looks_settled g.D.Disk.retries g.D.Disk.seen g.D.Disk.may_leave g.D.Disk.moment g.D.Disk.left_since g.met.D.Disk.only_now c.args.disk.now c.gate_slot.new.disk c.sync.new.self sound c.gate_slot.ensures.looks c.in_ok-named.ensures.gate c.sync.ensures.crash
    (λ r. file_synced c.in-Some.named c.in_ok-named.field-0 (g.D.Disk.seen c.args.disk.now) (g.D.Disk.seen c.gate_slot.new.disk) (g.D.Disk.may_leave c.sync.new.self) (c.gate_slot.ensures.looks).same c.in-Some.is c.in_ok-named.ensures.named (c.in_ok-sync.ensures.durable r))

pub returns-in_default-clause-settled : goal.returns-in_default-clause-settled
returns-in_default-clause-settled g c = λ sound.
    looks_settled g.D.Disk.retries g.D.Disk.seen g.D.Disk.may_leave g.D.Disk.moment g.D.Disk.left_since g.met.D.Disk.only_now c.args.disk.now c.gate_slot.new.disk c.gate_slot.new.disk sound c.gate_slot.ensures.looks c.in_ok-named.ensures.gate (λ image left. left)
    (λ r. no_file c.in_ok-named.field-0 (g.D.Disk.seen c.args.disk.now) (g.D.Disk.may_leave c.gate_slot.new.disk) c.in_default.is c.in_ok-named.ensures.named)

pub returns-in_err-named-clause-calls : goal.returns-in_err-named-clause-calls
returns-in_err-named-clause-calls g c =
    let answers = g.D.Disk.answers in
    let h = c.in_err-named.ensures.calls in
    names_not answers _ settle_steps h.0 h.1 c.from_residual.result c.args.disk.now c.gate_slot.new.disk c.from_residual.ensures.1
    (fails_front answers (gate_steps h.0 h.1) (named_steps (slot_named h.0 h.1)) c.args.disk.now c.gate_slot.new.disk h.2)

pub returns-in_default-clause-calls : goal.returns-in_default-clause-calls
returns-in_default-clause-calls g c =
    let h = c.in_ok-named.ensures.calls in
    let is = sym c.in_default.is ∙ h.2 in
    (h.0, h.1, is, settles g.D.Disk.answers h.0 h.1 None true c.args.disk.now c.gate_slot.new.disk c.gate_slot.new.disk is h.3 refl)

pub returns-in_err-sync-clause-calls : goal.returns-in_err-sync-clause-calls
returns-in_err-sync-clause-calls g c =
    let h = c.in_ok-named.ensures.calls in
    names_not g.D.Disk.answers _ settle_steps h.0 h.1 c.from_residual-in_err-sync.result c.args.disk.now c.sync.new.self c.from_residual-in_err-sync.ensures.1
    (settles g.D.Disk.answers h.0 h.1 (Some c.in-Some.named) false c.args.disk.now c.gate_slot.new.disk c.sync.new.self (sym c.in-Some.is ∙ h.2) h.3 (inl c.in_err-sync.ensures.answers))

pub returns-clause-calls : goal.returns-clause-calls
returns-clause-calls g c =
    let h = c.in_ok-named.ensures.calls in
    let is = sym c.in-Some.is ∙ h.2 in
    (h.0, h.1, is, settles g.D.Disk.answers h.0 h.1 (Some c.in-Some.named) true c.args.disk.now c.gate_slot.new.disk c.sync.new.self is h.3 (c.sync.new.self, c.in_ok-sync.ensures.answers, refl))
