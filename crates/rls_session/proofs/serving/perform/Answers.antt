use Rattle.std.proofs.Common.{◌≡◌, Err, ap, refl, subst, sym, IfSome, List, ℕ}
use Rattle.rls_io.specs.Device.{LoadsWith}
use Rattle.rls_report.specs.declared.failures.Failure.{Failure}
use Rattle.rls_session.specs.AsTold.{faults}
use Rattle.rls_session.specs.Devices.{devices}
use Rattle.rls_session.specs.Due.{due}
use Rattle.rls_session.specs.Endings.{Leaves, line_of}
use Rattle.rls_session.proofs.Served.{line_so, open_leaves, opened_leaves}
use Rattle.rls_session.proofs.Performed.{opened_performs, unopened_performs}
use Rattle.rls_session.proofs.Closing.{opened_ends, unopened_ends}
use Rattle.rls_session.proofs.serving.perform.Goals as goal

pub returns-in-Err-clause-ends : goal.returns-in-Err-clause-ends
returns-in-Err-clause-ends g c = λ n s.
    let keeper = c.args.keeper.now in
    let input = c.args.input.now in
    let output = c.args.output.now in
    unopened_ends (LoadsWith g.K.Keeper.load_gives) g.K.Keeper.store_gives ((input ≡ input) × (output ≡ output)) n keeper c.«open».new.keeper
    (devices g.K.Keeper.file g.K.Keeper.faults g.S.Source.left g.S.Source.faults g.W.Sink.told g.W.Sink.faults keeper input output)
    (devices g.K.Keeper.file g.K.Keeper.faults g.S.Source.left g.S.Source.faults g.W.Sink.told g.W.Sink.faults c.«open».new.keeper input output)
    c.in-Err.error c.from.result c.from.ensures s c.in-Err.ensures.opened c.in-Err.ensures.kept c.in-Err.ensures.errors (λ e. c.in-Err.ensures.keeper (ap Err e)) (λ other. c.in-Err.ensures.uncounted (λ e. other cc)) c.in-Err.ensures.calls
    (refl, refl) refl refl

pub returns-in-Ok-clause-ends : goal.returns-in-Ok-clause-ends
returns-in-Ok-clause-ends g c = λ n s.
    let keeper = c.args.keeper.now in
    let mid = c.«open».new.keeper in
    let input = c.args.input.now in
    let output = c.args.output.now in
    opened_ends (LoadsWith g.K.Keeper.load_gives) g.K.Keeper.store_gives ((c.answer_on.new.input ≡ input) × (c.answer_on.new.output ≡ output)) n keeper c.answer_on.new.keeper
    (devices g.K.Keeper.file g.K.Keeper.faults g.S.Source.left g.S.Source.faults g.W.Sink.told g.W.Sink.faults keeper input output)
    (devices g.K.Keeper.file g.K.Keeper.faults g.S.Source.left g.S.Source.faults g.W.Sink.told g.W.Sink.faults c.answer_on.new.keeper c.answer_on.new.input c.answer_on.new.output)
    c.answer_on.result c.in-Ok.replica mid (devices g.K.Keeper.file g.K.Keeper.faults g.S.Source.left g.S.Source.faults g.W.Sink.told g.W.Sink.faults mid input output)
    s c.in-Ok.ensures.opened c.in-Ok.ensures.calls c.in-Ok.ensures.kept refl refl (c.in-Ok.ensures.uncounted (λ e. cc)) refl refl c.answer_on.ensures.ends

pub returns-in-Err-clause-line : goal.returns-in-Err-clause-line
returns-in-Err-clause-line g c = λ n s.
    let file = g.K.Keeper.file c.args.keeper.now in
    let left = g.S.Source.left c.args.input.now in
    let new = g.K.Keeper.file c.«open».new.keeper in
    let out = g.W.Sink.told c.args.output.now in
    line_so (λ (line : List ℕ). line ≡ line_of (Err c.from.result) n) (due file left) (Err c.from.result) n file new out out s
    (subst (λ (f : Failure). IfSome (due file left) (λ ds. Leaves (Err f) ds file new out out)) (sym c.from.ensures) (open_leaves file left c.in-Err.error new out c.in-Err.ensures.opened c.in-Err.ensures.kept)) refl

pub returns-in-Ok-clause-line : goal.returns-in-Ok-clause-line
returns-in-Ok-clause-line g c = λ n s.
    let file = g.K.Keeper.file c.args.keeper.now in
    let left = g.S.Source.left c.args.input.now in
    let new = g.K.Keeper.file c.answer_on.new.keeper in
    let old_out = g.W.Sink.told c.args.output.now in
    let out = g.W.Sink.told c.answer_on.new.output in
    line_so (λ (line : List ℕ). line ≡ line_of c.answer_on.result n) (due file left) c.answer_on.result n file new old_out out s
    (opened_leaves c.answer_on.result c.in-Ok.replica file (g.K.Keeper.file c.«open».new.keeper) new left old_out out c.in-Ok.ensures.opened c.in-Ok.ensures.kept c.answer_on.ensures.ends.leaves) refl

pub returns-in-Err-clause-performs : goal.returns-in-Err-clause-performs
returns-in-Err-clause-performs g c = λ n s.
    unopened_performs g.K.Keeper.load_gives g.K.Keeper.store_gives g.S.Source.read_gives g.W.Sink.write_gives n c.args.keeper.now c.in-Err.error c.from.result c.«open».new.keeper c.args.input.now c.args.output.now (faults g.K.Keeper.faults g.S.Source.faults g.W.Sink.faults c.args.keeper.now c.args.input.now c.args.output.now) (faults g.K.Keeper.faults g.S.Source.faults g.W.Sink.faults c.«open».new.keeper c.args.input.now c.args.output.now) c.from.ensures s c.in-Err.ensures.found c.in-Err.ensures.errors
    (λ e. c.in-Err.ensures.keeper (ap Err e)) (λ other. c.in-Err.ensures.uncounted (λ e. other cc))

pub returns-in-Ok-clause-performs : goal.returns-in-Ok-clause-performs
returns-in-Ok-clause-performs g c = λ n s.
    opened_performs g.K.Keeper.load_gives g.K.Keeper.store_gives g.S.Source.read_gives g.W.Sink.write_gives n c.args.keeper.now c.answer_on.result c.in-Ok.replica c.«open».new.keeper c.answer_on.new.keeper c.args.input.now c.answer_on.new.input c.args.output.now c.answer_on.new.output (faults g.K.Keeper.faults g.S.Source.faults g.W.Sink.faults c.args.keeper.now c.args.input.now c.args.output.now) (faults g.K.Keeper.faults g.S.Source.faults g.W.Sink.faults c.«open».new.keeper c.args.input.now c.args.output.now) (faults g.K.Keeper.faults g.S.Source.faults g.W.Sink.faults c.answer_on.new.keeper c.answer_on.new.input c.answer_on.new.output) s c.in-Ok.ensures.found
    (c.in-Ok.ensures.uncounted (λ e. cc)) refl refl c.answer_on.ensures.as_told
