use Rattle.std.proofs.Common.{ℕ, List, subst}
use Rattle.rls_top.specs.Answered.{HasFailedToWrite}
use Rattle.rls_top.proofs.command.finish.Goals as goal

pub returns-in-Err-clause-wrote : goal.returns-in-Err-clause-wrote
returns-in-Err-clause-wrote g c =
    let Part : List ℕ → Type 0 = λ report. HasFailedToWrite g.W.Sink.write_gives report c.args.output.now c.write_all_of.new.sink in
    subst Part c.deref.ensures.value c.in-Err.ensures.gives_part
