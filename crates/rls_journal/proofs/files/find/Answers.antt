use Rattle.std.proofs.Common.{true, inl, inr}
use Rattle.rls_journal.specs.Files.{OpenToWrite, made, opening_steps}
use Rattle.rls_journal.proofs.Called.{answers_not, was_forbidden}
use Rattle.rls_journal.proofs.files.find.Goals as goal

pub returns-in_err-open : goal.returns-in_err-open
returns-in_err-open g c = record { calls = answers_not g.C.AreaCalls.gives _ (opening_steps c.args.area) made c.from_residual.result c.args.calls.now c.open.new.self c.from_residual.ensures.1 (inl c.in_err-open.ensures.gives) }

pub returns-in_err-open_to_read-in-Forbidden : goal.returns-in_err-open_to_read-in-Forbidden
returns-in_err-open_to_read-in-Forbidden g c =
    let gives = g.C.AreaCalls.gives in
    record {
      calls = answers_not gives _ (opening_steps c.args.area) (record { is_there = true; is_read_only = true }) c.from_residual-in_err-open_to_read-in-Forbidden.result c.args.calls.now c.open_to_read.new.self c.from_residual-in_err-open_to_read-in-Forbidden.ensures.1
          (inr (c.open.new.self, was_forbidden gives (OpenToWrite c.args.area) c.open.result c.in_ok-open.field-0 c.args.calls.now c.open.new.self c.in_ok-open.was c.in-Forbidden.is c.open.ensures.gives, inl c.in_err-open_to_read-in-Forbidden.ensures.gives));
    }
