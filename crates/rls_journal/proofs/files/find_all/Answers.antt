use Rattle.std.proofs.Common.{◌++◌, false}
use Rattle.rls_io.proofs.Runs.{fails_front, runs_on}
use Rattle.rls_journal.specs.Files.{all_steps, made, opening_steps}
use Rattle.rls_journal.proofs.Called.{answers_not}
use Rattle.rls_journal.proofs.files.find_all.Goals as goal

pub returns-in_err-slot0 : goal.returns-in_err-slot0
returns-in_err-slot0 g c =
    let gives = g.C.AreaCalls.gives in
    let h = c.in_err-slot0.ensures.calls in
    record {
      calls = answers_not gives _ all_steps (record { slot0 = h.0; slot1 = made; gate = made }) c.from_residual.result c.args.calls.now c.find.new.calls c.from_residual.ensures.1
          (fails_front gives (opening_steps 0 h.0) (opening_steps 1 made ++ opening_steps 2 made) c.args.calls.now c.find.new.calls h.1);
    }

pub returns-in_err-slot1 : goal.returns-in_err-slot1
returns-in_err-slot1 g c =
    let gives = g.C.AreaCalls.gives in
    let h = c.in_err-slot1.ensures.calls in
    record {
      calls = answers_not gives _ all_steps (record { slot0 = c.in_ok-slot0.slot0; slot1 = h.0; gate = made }) c.from_residual-in_err-slot1.result c.args.calls.now c.find-2.new.calls c.from_residual-in_err-slot1.ensures.1
          (runs_on gives (opening_steps 0 c.in_ok-slot0.slot0) (opening_steps 1 h.0 ++ opening_steps 2 made) false c.args.calls.now c.find.new.calls c.find-2.new.calls c.in_ok-slot0.ensures.calls
          (fails_front gives (opening_steps 1 h.0) (opening_steps 2 made) c.find.new.calls c.find-2.new.calls h.1));
    }

pub returns-in_err-gate : goal.returns-in_err-gate
returns-in_err-gate g c =
    let gives = g.C.AreaCalls.gives in
    let h = c.in_err-gate.ensures.calls in
    record {
      calls = answers_not gives _ all_steps (record { slot0 = c.in_ok-slot0.slot0; slot1 = c.in_ok-slot1.slot1; gate = h.0 }) c.from_residual-in_err-gate.result c.args.calls.now c.find-3.new.calls c.from_residual-in_err-gate.ensures.1
          (runs_on gives (opening_steps 0 c.in_ok-slot0.slot0) (opening_steps 1 c.in_ok-slot1.slot1 ++ opening_steps 2 h.0) false c.args.calls.now c.find.new.calls c.find-3.new.calls c.in_ok-slot0.ensures.calls
          (runs_on gives (opening_steps 1 c.in_ok-slot1.slot1) (opening_steps 2 h.0) false c.find.new.calls c.find-2.new.calls c.find-3.new.calls c.in_ok-slot1.ensures.calls h.1));
    }
