use Rattle.std.proofs.Common.{length, IfSome, ◌∙◌, subst, arith, [], ◌∷◌, ◌++◌, false, inl, inr, is_ok, refl}
use Rattle.std.proofs.lemmas.Result.{on_ok_weaker}
use Rattle.rls_journal.specs.Disk.{IsWritten}
use Rattle.rls_journal.proofs.Parts.{to_some}
use Rattle.rls_journal.proofs.Stops.{after_one, after_two, after_zero_kept, after_both_kept, after_begun, file_kept, file_named, file_narrows, puts_both, puts_has, stores}
use Rattle.rls_io.specs.Calls.{Done}
use Rattle.rls_io.proofs.Runs.{fails_front, runs_not, runs_on}
use Rattle.rls_journal.specs.Calls.{Sync, begin_steps, name_steps, put_steps}
use Rattle.rls_journal.proofs.slots.begin.Goals as goal

pub returns-in_err-put-clause-any_moment : goal.returns-in_err-put-clause-any_moment
returns-in_err-put-clause-any_moment g c = to_some (g.D.Disk.seen c.args.disk.now) _ (λ s is names settled. after_one g.D.Disk.seen g.D.Disk.may_leave g.D.Disk.moment g.D.Disk.left_since g.met.D.Disk.only_now c.args.disk.now s c.args.bytes.now is settled names c.put.new.disk c.put.ensures.changes c.put.ensures.strays)

pub returns-in_err-put-2-clause-any_moment : goal.returns-in_err-put-2-clause-any_moment
returns-in_err-put-2-clause-any_moment g c = to_some (g.D.Disk.seen c.args.disk.now) _ (λ s is names settled. after_two g.D.Disk.seen g.D.Disk.may_leave g.D.Disk.moment g.D.Disk.left_since g.met.D.Disk.only_now c.args.disk.now s c.args.bytes.now is settled names c.put.new.disk c.put.ensures.changes c.in_ok-put.ensures.put c.put-2.new.disk c.put-2.ensures.changes c.put-2.ensures.strays)

pub returns-in_err-sync-clause-any_moment : goal.returns-in_err-sync-clause-any_moment
returns-in_err-sync-clause-any_moment g c = to_some (g.D.Disk.seen c.args.disk.now) _ (λ s is names settled. after_zero_kept g.D.Disk.seen g.D.Disk.may_leave g.D.Disk.moment g.D.Disk.left_since g.met.D.Disk.only_now c.args.disk.now s c.args.bytes.now is settled names c.put.new.disk c.put.ensures.changes c.in_ok-put.ensures.put c.put-2.new.disk c.put-2.ensures.changes c.in_ok-put-2.ensures.put c.sync.new.self c.sync.ensures.same c.sync.ensures.time c.sync.ensures.crash)

pub returns-in_err-sync-2-clause-any_moment : goal.returns-in_err-sync-2-clause-any_moment
returns-in_err-sync-2-clause-any_moment g c = to_some (g.D.Disk.seen c.args.disk.now) _ (λ s is names settled. after_both_kept g.D.Disk.seen g.D.Disk.may_leave g.D.Disk.moment g.D.Disk.left_since g.met.D.Disk.only_now c.args.disk.now s c.args.bytes.now is settled names c.put.new.disk c.put.ensures.changes c.in_ok-put.ensures.put c.put-2.new.disk c.put-2.ensures.changes c.in_ok-put-2.ensures.put c.sync.new.self c.sync.ensures.same c.sync.ensures.time c.sync.ensures.crash c.sync-2.new.self c.sync-2.ensures.same c.sync-2.ensures.time c.sync-2.ensures.crash)

pub returns-clause-any_moment : goal.returns-clause-any_moment
returns-clause-any_moment g c =
    let file0 = file_narrows 0 (g.D.Disk.seen c.put-2.new.disk) (g.D.Disk.may_leave c.sync.new.self) (g.D.Disk.may_leave c.sync-2.new.self) c.sync-2.ensures.crash (file_kept 0 c.args.bytes.now (g.D.Disk.seen c.args.disk.now) (g.D.Disk.seen c.put-2.new.disk) (g.D.Disk.is_dirty c.put-2.new.disk) (g.D.Disk.may_leave c.sync.new.self) (puts_both c.args.bytes.now (g.D.Disk.seen c.args.disk.now) (g.D.Disk.seen c.put.new.disk) (g.D.Disk.seen c.put-2.new.disk) c.in_ok-put.ensures.put c.in_ok-put-2.ensures.put) c.in_ok-sync.ensures.written (c.put-2.ensures.dirty 0 0 8 c.in_ok-put.ensures.number) (c.put-2.ensures.dirty 0 8 (length c.args.bytes.now) c.in_ok-put.ensures.bytes)) in
    let file1 = file_kept 1 c.args.bytes.now (g.D.Disk.seen c.put.new.disk) (g.D.Disk.seen c.put-2.new.disk) (g.D.Disk.is_dirty c.sync.new.self) (g.D.Disk.may_leave c.sync-2.new.self) (puts_has 1 c.args.bytes.now (g.D.Disk.seen c.put.new.disk) (g.D.Disk.seen c.put-2.new.disk) c.in_ok-put-2.ensures.put) (subst (λ o. IfSome o (λ n. IsWritten 1 (g.D.Disk.is_dirty c.sync.new.self) n (g.D.Disk.may_leave c.sync-2.new.self))) c.sync.ensures.same c.in_ok-sync-2.ensures.written) (c.sync.ensures.dirty 1 0 8 (λ e. omega (arith, e)) c.in_ok-put-2.ensures.number) (c.sync.ensures.dirty 1 8 (length c.args.bytes.now) (λ e. omega (arith, e)) c.in_ok-put-2.ensures.bytes) in
    to_some (g.D.Disk.seen c.args.disk.now) _ (λ s is names settled. after_begun g.D.Disk.seen g.D.Disk.may_leave g.D.Disk.moment g.D.Disk.left_since g.met.D.Disk.only_now c.args.disk.now s c.args.bytes.now is settled names c.put.new.disk c.put.ensures.changes c.in_ok-put.ensures.put c.put-2.new.disk c.put-2.ensures.changes c.in_ok-put-2.ensures.put c.sync.new.self c.sync.ensures.same c.sync.ensures.time c.sync.ensures.crash c.sync-2.new.self c.sync-2.ensures.same c.sync-2.ensures.time c.sync-2.ensures.crash c.name_slot.new.disk file0 file1 c.name_slot.ensures.strays c.name_slot.ensures.changes)

pub returns-clause-stored : goal.returns-clause-stored
returns-clause-stored g c = on_ok_weaker c.name_slot.result (λ names.
    (stores 0 c.args.bytes.now (g.D.Disk.seen c.args.disk.now) (g.D.Disk.seen c.put-2.new.disk) (g.D.Disk.seen c.sync-2.new.self) (g.D.Disk.seen c.name_slot.new.disk) (g.D.Disk.may_leave c.name_slot.new.disk) (omega arith) (puts_both c.args.bytes.now (g.D.Disk.seen c.args.disk.now) (g.D.Disk.seen c.put.new.disk) (g.D.Disk.seen c.put-2.new.disk) c.in_ok-put.ensures.put c.in_ok-put-2.ensures.put) (c.sync-2.ensures.same ∙ c.sync.ensures.same) names
    (file_named 0 (g.D.Disk.seen c.put-2.new.disk) (g.D.Disk.may_leave c.sync-2.new.self) (g.D.Disk.may_leave c.name_slot.new.disk) (omega arith) (c.name_slot.ensures.changes).crash (file_narrows 0 (g.D.Disk.seen c.put-2.new.disk) (g.D.Disk.may_leave c.sync.new.self) (g.D.Disk.may_leave c.sync-2.new.self) c.sync-2.ensures.crash (file_kept 0 c.args.bytes.now (g.D.Disk.seen c.args.disk.now) (g.D.Disk.seen c.put-2.new.disk) (g.D.Disk.is_dirty c.put-2.new.disk) (g.D.Disk.may_leave c.sync.new.self) (puts_both c.args.bytes.now (g.D.Disk.seen c.args.disk.now) (g.D.Disk.seen c.put.new.disk) (g.D.Disk.seen c.put-2.new.disk) c.in_ok-put.ensures.put c.in_ok-put-2.ensures.put) c.in_ok-sync.ensures.written (c.put-2.ensures.dirty 0 0 8 c.in_ok-put.ensures.number) (c.put-2.ensures.dirty 0 8 (length c.args.bytes.now) c.in_ok-put.ensures.bytes))))).0) c.name_slot.ensures.names

pub returns-clause-settled : goal.returns-clause-settled
returns-clause-settled g c = on_ok_weaker c.name_slot.result (λ names.
    (stores 0 c.args.bytes.now (g.D.Disk.seen c.args.disk.now) (g.D.Disk.seen c.put-2.new.disk) (g.D.Disk.seen c.sync-2.new.self) (g.D.Disk.seen c.name_slot.new.disk) (g.D.Disk.may_leave c.name_slot.new.disk) (omega arith) (puts_both c.args.bytes.now (g.D.Disk.seen c.args.disk.now) (g.D.Disk.seen c.put.new.disk) (g.D.Disk.seen c.put-2.new.disk) c.in_ok-put.ensures.put c.in_ok-put-2.ensures.put) (c.sync-2.ensures.same ∙ c.sync.ensures.same) names
    (file_named 0 (g.D.Disk.seen c.put-2.new.disk) (g.D.Disk.may_leave c.sync-2.new.self) (g.D.Disk.may_leave c.name_slot.new.disk) (omega arith) (c.name_slot.ensures.changes).crash (file_narrows 0 (g.D.Disk.seen c.put-2.new.disk) (g.D.Disk.may_leave c.sync.new.self) (g.D.Disk.may_leave c.sync-2.new.self) c.sync-2.ensures.crash (file_kept 0 c.args.bytes.now (g.D.Disk.seen c.args.disk.now) (g.D.Disk.seen c.put-2.new.disk) (g.D.Disk.is_dirty c.put-2.new.disk) (g.D.Disk.may_leave c.sync.new.self) (puts_both c.args.bytes.now (g.D.Disk.seen c.args.disk.now) (g.D.Disk.seen c.put.new.disk) (g.D.Disk.seen c.put-2.new.disk) c.in_ok-put.ensures.put c.in_ok-put-2.ensures.put) c.in_ok-sync.ensures.written (c.put-2.ensures.dirty 0 0 8 c.in_ok-put.ensures.number) (c.put-2.ensures.dirty 0 8 (length c.args.bytes.now) c.in_ok-put.ensures.bytes))))).1) c.name_slot.ensures.names

pub returns-in_err-put-clause-calls : goal.returns-in_err-put-clause-calls
returns-in_err-put-clause-calls g c =
    let answers = g.D.Disk.answers in
    let bytes = c.args.bytes.now in
    let rest = (Sync 0, Done) ∷ (Sync 1, Done) ∷ name_steps 0 in
    runs_not answers _ (begin_steps bytes) c.from_residual.result c.args.disk.now c.put.new.disk c.from_residual.ensures.1 (fails_front answers (put_steps 0 bytes) (put_steps 1 bytes ++ rest) c.args.disk.now c.put.new.disk c.in_err-put.ensures.calls)

pub returns-in_err-put-2-clause-calls : goal.returns-in_err-put-2-clause-calls
returns-in_err-put-2-clause-calls g c =
    let answers = g.D.Disk.answers in
    let bytes = c.args.bytes.now in
    let rest = (Sync 0, Done) ∷ (Sync 1, Done) ∷ name_steps 0 in
    runs_not answers _ (begin_steps bytes) c.from_residual-in_err-put-2.result c.args.disk.now c.put-2.new.disk c.from_residual-in_err-put-2.ensures.1
    (runs_on answers (put_steps 0 bytes) (put_steps 1 bytes ++ rest) false c.args.disk.now c.put.new.disk c.put-2.new.disk c.in_ok-put.ensures.calls (fails_front answers (put_steps 1 bytes) rest c.put.new.disk c.put-2.new.disk c.in_err-put-2.ensures.calls))

pub returns-in_err-sync-clause-calls : goal.returns-in_err-sync-clause-calls
returns-in_err-sync-clause-calls g c =
    let answers = g.D.Disk.answers in
    let bytes = c.args.bytes.now in
    let rest = (Sync 0, Done) ∷ (Sync 1, Done) ∷ name_steps 0 in
    runs_not answers _ (begin_steps bytes) c.from_residual-in_err-sync.result c.args.disk.now c.sync.new.self c.from_residual-in_err-sync.ensures.1
    (runs_on answers (put_steps 0 bytes) (put_steps 1 bytes ++ rest) false c.args.disk.now c.put.new.disk c.sync.new.self c.in_ok-put.ensures.calls
    (runs_on answers (put_steps 1 bytes) rest false c.put.new.disk c.put-2.new.disk c.sync.new.self c.in_ok-put-2.ensures.calls (inl c.in_err-sync.ensures.answers)))

pub returns-in_err-sync-2-clause-calls : goal.returns-in_err-sync-2-clause-calls
returns-in_err-sync-2-clause-calls g c =
    let answers = g.D.Disk.answers in
    let bytes = c.args.bytes.now in
    let rest = (Sync 0, Done) ∷ (Sync 1, Done) ∷ name_steps 0 in
    runs_not answers _ (begin_steps bytes) c.from_residual-in_err-sync-2.result c.args.disk.now c.sync-2.new.self c.from_residual-in_err-sync-2.ensures.1
    (runs_on answers (put_steps 0 bytes) (put_steps 1 bytes ++ rest) false c.args.disk.now c.put.new.disk c.sync-2.new.self c.in_ok-put.ensures.calls
    (runs_on answers (put_steps 1 bytes) rest false c.put.new.disk c.put-2.new.disk c.sync-2.new.self c.in_ok-put-2.ensures.calls (inr (c.sync.new.self, c.in_ok-sync.ensures.answers, inl c.in_err-sync-2.ensures.answers))))

pub returns-clause-calls : goal.returns-clause-calls
returns-clause-calls g c =
    let answers = g.D.Disk.answers in
    let bytes = c.args.bytes.now in
    let ok = is_ok c.name_slot.result in
    let rest = (Sync 0, Done) ∷ (Sync 1, Done) ∷ name_steps 0 in
    runs_on answers (put_steps 0 bytes) (put_steps 1 bytes ++ rest) ok c.args.disk.now c.put.new.disk c.name_slot.new.disk c.in_ok-put.ensures.calls
    (runs_on answers (put_steps 1 bytes) rest ok c.put.new.disk c.put-2.new.disk c.name_slot.new.disk c.in_ok-put-2.ensures.calls
    (runs_on answers ((Sync 0, Done) ∷ (Sync 1, Done) ∷ []) (name_steps 0) ok c.put-2.new.disk c.sync-2.new.self c.name_slot.new.disk (c.sync.new.self, c.in_ok-sync.ensures.answers, (c.sync-2.new.self, c.in_ok-sync-2.ensures.answers, refl)) c.name_slot.ensures.calls))
