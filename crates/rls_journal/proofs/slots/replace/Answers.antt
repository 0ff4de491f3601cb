use Rattle.std.proofs.Common.{[], ◌∷◌, false, inl, is_ok, refl}
use Rattle.std.proofs.lemmas.Result.{on_ok_weaker}
use Rattle.rls_journal.proofs.Parts.{to_some}
use Rattle.rls_journal.proofs.Stops.{after_put, after_sync, after_name, file_kept, file_named, puts_has, stores}
use Rattle.rls_io.specs.Calls.{Done}
use Rattle.rls_io.proofs.Runs.{fails_front, runs_not, runs_on}
use Rattle.rls_journal.specs.Calls.{Sync, name_steps, put_steps, replace_steps}
use Rattle.rls_journal.proofs.slots.replace.Goals as goal

pub returns-in_err-put-clause-any_moment : goal.returns-in_err-put-clause-any_moment
returns-in_err-put-clause-any_moment g c = to_some (g.D.Disk.seen c.args.disk.now) _ (λ s is names settled. after_put g.D.Disk.seen g.D.Disk.may_leave g.D.Disk.moment g.D.Disk.left_since g.met.D.Disk.only_now c.args.disk.now s c.args.bytes.now is settled c.args.slot c.requires.slot names c.put.new.disk c.put.ensures.changes c.put.ensures.strays)

pub returns-in_err-sync-clause-any_moment : goal.returns-in_err-sync-clause-any_moment
returns-in_err-sync-clause-any_moment g c =
    to_some (g.D.Disk.seen c.args.disk.now) _ (λ s is names settled. after_sync g.D.Disk.seen g.D.Disk.may_leave g.D.Disk.moment g.D.Disk.left_since g.met.D.Disk.only_now c.args.disk.now s c.args.bytes.now is settled c.args.slot c.requires.slot names c.put.new.disk c.put.ensures.changes c.in_ok-put.ensures.put c.sync.new.self c.sync.ensures.same c.sync.ensures.time c.sync.ensures.crash)

pub returns-clause-any_moment : goal.returns-clause-any_moment
returns-clause-any_moment g c =
    let file = file_kept c.args.slot c.args.bytes.now (g.D.Disk.seen c.args.disk.now) (g.D.Disk.seen c.put.new.disk) (g.D.Disk.is_dirty c.put.new.disk) (g.D.Disk.may_leave c.sync.new.self) (puts_has c.args.slot c.args.bytes.now (g.D.Disk.seen c.args.disk.now) (g.D.Disk.seen c.put.new.disk) c.in_ok-put.ensures.put) c.in_ok-sync.ensures.written c.in_ok-put.ensures.number c.in_ok-put.ensures.bytes in
    to_some (g.D.Disk.seen c.args.disk.now) _ (λ s is names settled.
    after_name g.D.Disk.seen g.D.Disk.may_leave g.D.Disk.moment g.D.Disk.left_since g.met.D.Disk.only_now c.args.disk.now s c.args.bytes.now is settled c.args.slot c.requires.slot names c.put.new.disk c.put.ensures.changes c.in_ok-put.ensures.put c.sync.new.self c.sync.ensures.same c.sync.ensures.time c.sync.ensures.crash c.name_slot.new.disk file c.name_slot.ensures.strays c.name_slot.ensures.changes)

pub returns-clause-stored : goal.returns-clause-stored
returns-clause-stored g c = on_ok_weaker c.name_slot.result (λ names.
    (stores c.args.slot c.args.bytes.now (g.D.Disk.seen c.args.disk.now) (g.D.Disk.seen c.put.new.disk) (g.D.Disk.seen c.sync.new.self) (g.D.Disk.seen c.name_slot.new.disk) (g.D.Disk.may_leave c.name_slot.new.disk) c.requires.slot
    (puts_has c.args.slot c.args.bytes.now (g.D.Disk.seen c.args.disk.now) (g.D.Disk.seen c.put.new.disk) c.in_ok-put.ensures.put) c.sync.ensures.same names
    (file_named c.args.slot (g.D.Disk.seen c.put.new.disk) (g.D.Disk.may_leave c.sync.new.self) (g.D.Disk.may_leave c.name_slot.new.disk) c.requires.slot (c.name_slot.ensures.changes).crash (file_kept c.args.slot c.args.bytes.now (g.D.Disk.seen c.args.disk.now) (g.D.Disk.seen c.put.new.disk) (g.D.Disk.is_dirty c.put.new.disk) (g.D.Disk.may_leave c.sync.new.self) (puts_has c.args.slot c.args.bytes.now (g.D.Disk.seen c.args.disk.now) (g.D.Disk.seen c.put.new.disk) c.in_ok-put.ensures.put) c.in_ok-sync.ensures.written c.in_ok-put.ensures.number c.in_ok-put.ensures.bytes))).0) c.name_slot.ensures.names

pub returns-clause-settled : goal.returns-clause-settled
returns-clause-settled g c = on_ok_weaker c.name_slot.result (λ names.
    (stores c.args.slot c.args.bytes.now (g.D.Disk.seen c.args.disk.now) (g.D.Disk.seen c.put.new.disk) (g.D.Disk.seen c.sync.new.self) (g.D.Disk.seen c.name_slot.new.disk) (g.D.Disk.may_leave c.name_slot.new.disk) c.requires.slot
    (puts_has c.args.slot c.args.bytes.now (g.D.Disk.seen c.args.disk.now) (g.D.Disk.seen c.put.new.disk) c.in_ok-put.ensures.put) c.sync.ensures.same names
    (file_named c.args.slot (g.D.Disk.seen c.put.new.disk) (g.D.Disk.may_leave c.sync.new.self) (g.D.Disk.may_leave c.name_slot.new.disk) c.requires.slot (c.name_slot.ensures.changes).crash (file_kept c.args.slot c.args.bytes.now (g.D.Disk.seen c.args.disk.now) (g.D.Disk.seen c.put.new.disk) (g.D.Disk.is_dirty c.put.new.disk) (g.D.Disk.may_leave c.sync.new.self) (puts_has c.args.slot c.args.bytes.now (g.D.Disk.seen c.args.disk.now) (g.D.Disk.seen c.put.new.disk) c.in_ok-put.ensures.put) c.in_ok-sync.ensures.written c.in_ok-put.ensures.number c.in_ok-put.ensures.bytes))).1) c.name_slot.ensures.names

pub returns-in_err-put-clause-calls : goal.returns-in_err-put-clause-calls
returns-in_err-put-clause-calls g c =
    let answers = g.D.Disk.answers in
    let bytes = c.args.bytes.now in
    runs_not answers _ (replace_steps c.args.slot bytes) c.from_residual.result c.args.disk.now c.put.new.disk c.from_residual.ensures.1 (fails_front answers (put_steps c.args.slot bytes) ((Sync c.args.slot, Done) ∷ name_steps c.args.slot) c.args.disk.now c.put.new.disk c.in_err-put.ensures.calls)

pub returns-in_err-sync-clause-calls : goal.returns-in_err-sync-clause-calls
returns-in_err-sync-clause-calls g c =
    let answers = g.D.Disk.answers in
    let bytes = c.args.bytes.now in
    runs_not answers _ (replace_steps c.args.slot bytes) c.from_residual-in_err-sync.result c.args.disk.now c.sync.new.self c.from_residual-in_err-sync.ensures.1
    (runs_on answers (put_steps c.args.slot bytes) ((Sync c.args.slot, Done) ∷ name_steps c.args.slot) false c.args.disk.now c.put.new.disk c.sync.new.self c.in_ok-put.ensures.calls (inl c.in_err-sync.ensures.answers))

pub returns-clause-calls : goal.returns-clause-calls
returns-clause-calls g c =
    let answers = g.D.Disk.answers in
    let bytes = c.args.bytes.now in
    runs_on answers (put_steps c.args.slot bytes) ((Sync c.args.slot, Done) ∷ name_steps c.args.slot) (is_ok c.name_slot.result) c.args.disk.now c.put.new.disk c.name_slot.new.disk c.in_ok-put.ensures.calls
    (runs_on answers ((Sync c.args.slot, Done) ∷ []) (name_steps c.args.slot) (is_ok c.name_slot.result) c.put.new.disk c.sync.new.self c.name_slot.new.disk (c.sync.new.self, c.in_ok-sync.ensures.answers, refl) c.name_slot.ensures.calls)
