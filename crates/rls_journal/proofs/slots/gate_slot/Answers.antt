use Rattle.std.proofs.Common.{◌∙◌, inl, inr, refl, subst, ◌≡◌, arith, length, slice_index_or}
use Rattle.rls_journal.proofs.Parts.{gate_written}
use Rattle.rls_journal.proofs.Rests.{looks_call, looks_renewed, looks_both}
use Rattle.rls_io.specs.Calls.{Gave}
use Rattle.rls_journal.specs.Calls.{Read, gate_steps}
use Rattle.rls_journal.proofs.Asked.{gate_fails, gate_makes, names_not, one_byte}
use Rattle.rls_journal.proofs.slots.gate_slot.Goals as goal

pub returns-in_err-size-clause-looks : goal.returns-in_err-size-clause-looks
returns-in_err-size-clause-looks g c = looks_call g.D.Disk.retries g.D.Disk.seen g.D.Disk.may_leave g.D.Disk.moment g.D.Disk.left_since g.met.D.Disk.only_now c.args.disk.now c.size.new.self c.size.ensures.same c.size.ensures.crash c.size.ensures.time

pub returns-in_err-sync-clause-looks : goal.returns-in_err-sync-clause-looks
returns-in_err-sync-clause-looks g c = looks_both g.D.Disk.retries g.D.Disk.seen g.D.Disk.may_leave g.D.Disk.moment g.D.Disk.left_since g.met.D.Disk.only_now c.args.disk.now c.size.new.self c.sync.new.self (looks_call g.D.Disk.retries g.D.Disk.seen g.D.Disk.may_leave g.D.Disk.moment g.D.Disk.left_since g.met.D.Disk.only_now c.args.disk.now c.size.new.self c.size.ensures.same c.size.ensures.crash c.size.ensures.time) (looks_call g.D.Disk.retries g.D.Disk.seen g.D.Disk.may_leave g.D.Disk.moment g.D.Disk.left_since g.met.D.Disk.only_now c.size.new.self c.sync.new.self c.sync.ensures.same c.sync.ensures.crash c.sync.ensures.time)

pub returns-then-branch-eq0-clause-looks : goal.returns-then-branch-eq0-clause-looks
returns-then-branch-eq0-clause-looks g c = looks_both g.D.Disk.retries g.D.Disk.seen g.D.Disk.may_leave g.D.Disk.moment g.D.Disk.left_since g.met.D.Disk.only_now c.args.disk.now c.size.new.self c.sync.new.self (looks_call g.D.Disk.retries g.D.Disk.seen g.D.Disk.may_leave g.D.Disk.moment g.D.Disk.left_since g.met.D.Disk.only_now c.args.disk.now c.size.new.self c.size.ensures.same c.size.ensures.crash c.size.ensures.time) (looks_call g.D.Disk.retries g.D.Disk.seen g.D.Disk.may_leave g.D.Disk.moment g.D.Disk.left_since g.met.D.Disk.only_now c.size.new.self c.sync.new.self c.sync.ensures.same c.sync.ensures.crash c.sync.ensures.time)

pub returns-in_err-renew_gate-clause-looks : goal.returns-in_err-renew_gate-clause-looks
returns-in_err-renew_gate-clause-looks g c = looks_both g.D.Disk.retries g.D.Disk.seen g.D.Disk.may_leave g.D.Disk.moment g.D.Disk.left_since g.met.D.Disk.only_now c.args.disk.now c.size.new.self c.renew_gate.new.self (looks_call g.D.Disk.retries g.D.Disk.seen g.D.Disk.may_leave g.D.Disk.moment g.D.Disk.left_since g.met.D.Disk.only_now c.args.disk.now c.size.new.self c.size.ensures.same c.size.ensures.crash c.size.ensures.time) (looks_renewed g.D.Disk.retries g.D.Disk.seen g.D.Disk.may_leave g.D.Disk.moment g.D.Disk.left_since g.met.D.Disk.only_now c.size.new.self c.renew_gate.new.self c.renew_gate.ensures.same c.renew_gate.ensures.crash c.renew_gate.ensures.idle c.renew_gate.ensures.time)

pub returns-in_err-sync-2-clause-looks : goal.returns-in_err-sync-2-clause-looks
returns-in_err-sync-2-clause-looks g c = looks_both g.D.Disk.retries g.D.Disk.seen g.D.Disk.may_leave g.D.Disk.moment g.D.Disk.left_since g.met.D.Disk.only_now c.args.disk.now c.renew_gate.new.self c.sync-2.new.self (looks_both g.D.Disk.retries g.D.Disk.seen g.D.Disk.may_leave g.D.Disk.moment g.D.Disk.left_since g.met.D.Disk.only_now c.args.disk.now c.size.new.self c.renew_gate.new.self (looks_call g.D.Disk.retries g.D.Disk.seen g.D.Disk.may_leave g.D.Disk.moment g.D.Disk.left_since g.met.D.Disk.only_now c.args.disk.now c.size.new.self c.size.ensures.same c.size.ensures.crash c.size.ensures.time) (looks_renewed g.D.Disk.retries g.D.Disk.seen g.D.Disk.may_leave g.D.Disk.moment g.D.Disk.left_since g.met.D.Disk.only_now c.size.new.self c.renew_gate.new.self c.renew_gate.ensures.same c.renew_gate.ensures.crash c.renew_gate.ensures.idle c.renew_gate.ensures.time)) (looks_call g.D.Disk.retries g.D.Disk.seen g.D.Disk.may_leave g.D.Disk.moment g.D.Disk.left_since g.met.D.Disk.only_now c.renew_gate.new.self c.sync-2.new.self c.sync-2.ensures.same c.sync-2.ensures.crash c.sync-2.ensures.time)

pub returns-in_err-read-clause-looks : goal.returns-in_err-read-clause-looks
returns-in_err-read-clause-looks g c = looks_both g.D.Disk.retries g.D.Disk.seen g.D.Disk.may_leave g.D.Disk.moment g.D.Disk.left_since g.met.D.Disk.only_now c.args.disk.now c.sync-2.new.self c.read.new.self (looks_both g.D.Disk.retries g.D.Disk.seen g.D.Disk.may_leave g.D.Disk.moment g.D.Disk.left_since g.met.D.Disk.only_now c.args.disk.now c.renew_gate.new.self c.sync-2.new.self (looks_both g.D.Disk.retries g.D.Disk.seen g.D.Disk.may_leave g.D.Disk.moment g.D.Disk.left_since g.met.D.Disk.only_now c.args.disk.now c.size.new.self c.renew_gate.new.self (looks_call g.D.Disk.retries g.D.Disk.seen g.D.Disk.may_leave g.D.Disk.moment g.D.Disk.left_since g.met.D.Disk.only_now c.args.disk.now c.size.new.self c.size.ensures.same c.size.ensures.crash c.size.ensures.time) (looks_renewed g.D.Disk.retries g.D.Disk.seen g.D.Disk.may_leave g.D.Disk.moment g.D.Disk.left_since g.met.D.Disk.only_now c.size.new.self c.renew_gate.new.self c.renew_gate.ensures.same c.renew_gate.ensures.crash c.renew_gate.ensures.idle c.renew_gate.ensures.time)) (looks_call g.D.Disk.retries g.D.Disk.seen g.D.Disk.may_leave g.D.Disk.moment g.D.Disk.left_since g.met.D.Disk.only_now c.renew_gate.new.self c.sync-2.new.self c.sync-2.ensures.same c.sync-2.ensures.crash c.sync-2.ensures.time)) (looks_call g.D.Disk.retries g.D.Disk.seen g.D.Disk.may_leave g.D.Disk.moment g.D.Disk.left_since g.met.D.Disk.only_now c.sync-2.new.self c.read.new.self c.read.ensures.same c.read.ensures.crash c.read.ensures.time)

pub returns-clause-looks : goal.returns-clause-looks
returns-clause-looks g c = looks_both g.D.Disk.retries g.D.Disk.seen g.D.Disk.may_leave g.D.Disk.moment g.D.Disk.left_since g.met.D.Disk.only_now c.args.disk.now c.sync-2.new.self c.read.new.self (looks_both g.D.Disk.retries g.D.Disk.seen g.D.Disk.may_leave g.D.Disk.moment g.D.Disk.left_since g.met.D.Disk.only_now c.args.disk.now c.renew_gate.new.self c.sync-2.new.self (looks_both g.D.Disk.retries g.D.Disk.seen g.D.Disk.may_leave g.D.Disk.moment g.D.Disk.left_since g.met.D.Disk.only_now c.args.disk.now c.size.new.self c.renew_gate.new.self (looks_call g.D.Disk.retries g.D.Disk.seen g.D.Disk.may_leave g.D.Disk.moment g.D.Disk.left_since g.met.D.Disk.only_now c.args.disk.now c.size.new.self c.size.ensures.same c.size.ensures.crash c.size.ensures.time) (looks_renewed g.D.Disk.retries g.D.Disk.seen g.D.Disk.may_leave g.D.Disk.moment g.D.Disk.left_since g.met.D.Disk.only_now c.size.new.self c.renew_gate.new.self c.renew_gate.ensures.same c.renew_gate.ensures.crash c.renew_gate.ensures.idle c.renew_gate.ensures.time)) (looks_call g.D.Disk.retries g.D.Disk.seen g.D.Disk.may_leave g.D.Disk.moment g.D.Disk.left_since g.met.D.Disk.only_now c.renew_gate.new.self c.sync-2.new.self c.sync-2.ensures.same c.sync-2.ensures.crash c.sync-2.ensures.time)) (looks_call g.D.Disk.retries g.D.Disk.seen g.D.Disk.may_leave g.D.Disk.moment g.D.Disk.left_since g.met.D.Disk.only_now c.sync-2.new.self c.read.new.self c.read.ensures.same c.read.ensures.crash c.read.ensures.time)

pub returns-clause-gate : goal.returns-clause-gate
returns-clause-gate g c =
    gate_written (g.D.Disk.seen c.args.disk.now) (g.D.Disk.seen c.renew_gate.new.self) (g.D.Disk.is_dirty c.renew_gate.new.self) (g.D.Disk.may_leave c.sync-2.new.self) (g.D.Disk.may_leave c.read.new.self) (c.renew_gate.ensures.same ∙ c.size.ensures.same) c.in_ok-sync-2.ensures.written c.in_ok-renew_gate.ensures.is_dirty c.read.ensures.crash

pub returns-in_err-size-clause-calls : goal.returns-in_err-size-clause-calls
returns-in_err-size-clause-calls g c = names_not g.D.Disk.answers _ gate_steps 0 0 c.from_residual.result c.args.disk.now c.size.new.self c.from_residual.ensures.1 (inl c.in_err-size.ensures.answers)

pub returns-in_err-sync-clause-calls : goal.returns-in_err-sync-clause-calls
returns-in_err-sync-clause-calls g c = names_not g.D.Disk.answers _ gate_steps 0 0 c.from_residual-in_err-sync.result c.args.disk.now c.sync.new.self c.from_residual-in_err-sync.ensures.1 (inr (c.size.new.self, rw c.if-branch-eq0.true at c.in_ok-size.ensures.answers, inl c.in_err-sync.ensures.answers))

pub returns-then-branch-eq0-clause-calls : goal.returns-then-branch-eq0-clause-calls
returns-then-branch-eq0-clause-calls g c = (0, 0, refl, (c.size.new.self, rw c.if-branch-eq0.true at c.in_ok-size.ensures.answers, (c.sync.new.self, c.in_ok-sync.ensures.answers, refl)))

pub returns-in_err-renew_gate-clause-calls : goal.returns-in_err-renew_gate-clause-calls
returns-in_err-renew_gate-clause-calls g c =
    let n = c.in_ok-size.field-0 in
    names_not g.D.Disk.answers _ gate_steps n 0 c.from_residual-in_err-renew_gate.result c.args.disk.now c.renew_gate.new.self c.from_residual-in_err-renew_gate.ensures.1
    (gate_fails g.D.Disk.answers n 0 c.args.disk.now c.renew_gate.new.self c.if-branch-eq0.false (inr (c.size.new.self, c.in_ok-size.ensures.answers, inl c.in_err-renew_gate.ensures.answers)))

pub returns-in_err-sync-2-clause-calls : goal.returns-in_err-sync-2-clause-calls
returns-in_err-sync-2-clause-calls g c =
    let n = c.in_ok-size.field-0 in
    names_not g.D.Disk.answers _ gate_steps n 0 c.from_residual-in_err-sync-2.result c.args.disk.now c.sync-2.new.self c.from_residual-in_err-sync-2.ensures.1
    (gate_fails g.D.Disk.answers n 0 c.args.disk.now c.sync-2.new.self c.if-branch-eq0.false (inr (c.size.new.self, c.in_ok-size.ensures.answers, inr (c.renew_gate.new.self, c.in_ok-renew_gate.ensures.answers, inl c.in_err-sync-2.ensures.answers))))

pub returns-in_err-read-clause-calls : goal.returns-in_err-read-clause-calls
returns-in_err-read-clause-calls g c =
    let n = c.in_ok-size.field-0 in
    names_not g.D.Disk.answers _ gate_steps n 0 c.from_residual-in_err-read.result c.args.disk.now c.read.new.self c.from_residual-in_err-read.ensures.1
    (gate_fails g.D.Disk.answers n 0 c.args.disk.now c.read.new.self c.if-branch-eq0.false (inr (c.size.new.self, c.in_ok-size.ensures.answers, inr (c.renew_gate.new.self, c.in_ok-renew_gate.ensures.answers, inr (c.sync-2.new.self, c.in_ok-sync-2.ensures.answers, inl c.in_err-read.ensures.answers)))))

pub returns-clause-calls : goal.returns-clause-calls
returns-clause-calls g c =
    let answers = g.D.Disk.answers in
    let n = c.in_ok-size.field-0 in
    let buf = c.read.new.buf in
    let x = slice_index_or buf 0 0 in
    let one : length buf ≡ 1 = omega (arith, c.read.auto.buf) in
    let read = subst (λ b. answers c.sync-2.new.self (Read 2 0 1) (Gave b) c.read.new.self) (one_byte buf one) c.in_ok-read.ensures.answers in
    let made = gate_makes answers n x c.args.disk.now c.read.new.self c.if-branch-eq0.false (c.size.new.self, c.in_ok-size.ensures.answers, (c.renew_gate.new.self, c.in_ok-renew_gate.ensures.answers, (c.sync-2.new.self, c.in_ok-sync-2.ensures.answers, (c.read.new.self, read, refl)))) in
    (n, x, made.0, made.1)
