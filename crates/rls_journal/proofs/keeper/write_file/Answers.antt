use Rattle.std.proofs.Common.{◌∙◌, Some, None, is_ok, sym}
use Rattle.rls_journal.proofs.Rests.{store_fails, store_held, store_holds, store_leaves, store_none, store_some}
use Rattle.rls_io.proofs.Runs.{fails_front}
use Rattle.rls_journal.specs.Calls.{settle_steps, slot_named, write_steps}
use Rattle.rls_journal.proofs.Asked.{stores, stores_not}
use Rattle.rls_journal.proofs.keeper.write_file.Goals as goal

pub returns-in_err-slot-clause-any_moment : goal.returns-in_err-slot-clause-any_moment
returns-in_err-slot-clause-any_moment g c = store_fails g.D.Disk.retries g.D.Disk.seen g.D.Disk.may_leave g.D.Disk.moment g.D.Disk.left_since g.met.D.Disk.only_now c.args.disk.now c.settle.new.disk c.args.bytes.now c.settle.ensures.looks

pub returns-in_err-slot-clause-holds : goal.returns-in_err-slot-clause-holds
returns-in_err-slot-clause-holds g c = store_held g.D.Disk.retries g.D.Disk.seen g.D.Disk.may_leave g.D.Disk.moment g.D.Disk.left_since g.met.D.Disk.only_now c.args.disk.now c.settle.new.disk c.args.bytes.now c.settle.ensures.looks

pub returns-in-Some-clause-any_moment : goal.returns-in-Some-clause-any_moment
returns-in-Some-clause-any_moment g c =
    store_leaves g.D.Disk.retries g.D.Disk.seen g.D.Disk.may_leave g.D.Disk.moment g.D.Disk.left_since g.met.D.Disk.only_now c.args.disk.now c.settle.new.disk c.replace.new.disk c.args.bytes.now c.settle.ensures.looks
    (store_some g.D.Disk.retries g.D.Disk.seen g.D.Disk.may_leave g.D.Disk.moment g.D.Disk.left_since g.met.D.Disk.only_now c.args.disk.now c.settle.new.disk c.replace.new.disk c.in-Some.slot c.in_ok-slot.field-0 c.args.bytes.now c.in-Some.is c.in_ok-slot.ensures.small c.in_ok-slot.ensures.named c.settle.ensures.looks c.in_ok-slot.ensures.settled c.replace.ensures.any_moment)

pub returns-in-Some-clause-holds : goal.returns-in-Some-clause-holds
returns-in-Some-clause-holds g c =
    store_holds g.D.Disk.retries g.D.Disk.seen g.D.Disk.may_leave g.D.Disk.moment g.D.Disk.left_since g.met.D.Disk.only_now c.args.disk.now c.settle.new.disk c.replace.new.disk c.args.bytes.now g.met.D.Disk.reads_now
    (store_some g.D.Disk.retries g.D.Disk.seen g.D.Disk.may_leave g.D.Disk.moment g.D.Disk.left_since g.met.D.Disk.only_now c.args.disk.now c.settle.new.disk c.replace.new.disk c.in-Some.slot c.in_ok-slot.field-0 c.args.bytes.now c.in-Some.is c.in_ok-slot.ensures.small c.in_ok-slot.ensures.named c.settle.ensures.looks c.in_ok-slot.ensures.settled c.replace.ensures.any_moment)

pub returns-in-None-clause-any_moment : goal.returns-in-None-clause-any_moment
returns-in-None-clause-any_moment g c =
    store_leaves g.D.Disk.retries g.D.Disk.seen g.D.Disk.may_leave g.D.Disk.moment g.D.Disk.left_since g.met.D.Disk.only_now c.args.disk.now c.settle.new.disk c.begin.new.disk c.args.bytes.now c.settle.ensures.looks
    (store_none g.D.Disk.retries g.D.Disk.seen g.D.Disk.may_leave g.D.Disk.moment g.D.Disk.left_since g.met.D.Disk.only_now c.args.disk.now c.settle.new.disk c.begin.new.disk c.in_ok-slot.field-0 c.args.bytes.now c.in-None.is c.in_ok-slot.ensures.named c.settle.ensures.looks c.in_ok-slot.ensures.settled c.begin.ensures.any_moment)

pub returns-in-None-clause-holds : goal.returns-in-None-clause-holds
returns-in-None-clause-holds g c =
    store_holds g.D.Disk.retries g.D.Disk.seen g.D.Disk.may_leave g.D.Disk.moment g.D.Disk.left_since g.met.D.Disk.only_now c.args.disk.now c.settle.new.disk c.begin.new.disk c.args.bytes.now g.met.D.Disk.reads_now
    (store_none g.D.Disk.retries g.D.Disk.seen g.D.Disk.may_leave g.D.Disk.moment g.D.Disk.left_since g.met.D.Disk.only_now c.args.disk.now c.settle.new.disk c.begin.new.disk c.in_ok-slot.field-0 c.args.bytes.now c.in-None.is c.in_ok-slot.ensures.named c.settle.ensures.looks c.in_ok-slot.ensures.settled c.begin.ensures.any_moment)

pub returns-in_err-slot-clause-calls : goal.returns-in_err-slot-clause-calls
returns-in_err-slot-clause-calls g c =
    let answers = g.D.Disk.answers in
    let h = c.in_err-slot.ensures.calls in
    stores_not answers _ h.0 h.1 c.args.bytes.now c.from_residual.result c.args.disk.now c.settle.new.disk c.from_residual.ensures.1
    (fails_front answers (settle_steps h.0 h.1) (write_steps (slot_named h.0 h.1) c.args.bytes.now) c.args.disk.now c.settle.new.disk h.2)

pub returns-in-Some-clause-calls : goal.returns-in-Some-clause-calls
returns-in-Some-clause-calls g c =
    let h = c.in_ok-slot.ensures.calls in
    stores g.D.Disk.answers h.0 h.1 c.args.bytes.now (Some c.in-Some.slot) (is_ok c.replace.result) c.args.disk.now c.settle.new.disk c.replace.new.disk (sym c.in-Some.is ∙ h.2) h.3 c.replace.ensures.calls

pub returns-in-None-clause-calls : goal.returns-in-None-clause-calls
returns-in-None-clause-calls g c =
    let h = c.in_ok-slot.ensures.calls in
    stores g.D.Disk.answers h.0 h.1 c.args.bytes.now None (is_ok c.begin.result) c.args.disk.now c.settle.new.disk c.begin.new.disk (sym c.in-None.is ∙ h.2) h.3 c.begin.ensures.calls
