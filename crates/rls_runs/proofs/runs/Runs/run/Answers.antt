use Rattle.std.proofs.Common.{◌<◌, length, None, slice_get, sym, ap, ◌∙◌, arith}
use Rattle.std.proofs.lemmas.Option.{slice_get_read}
use Rattle.rls_runs.specs.Runs.{runs_of}
use Rattle.rls_runs.proofs.RunsOf.{runs_of_idents}
use Rattle.rls_runs.proofs.runs.Runs.run.Goals as goal

pub returns : goal.returns
returns c =
    let rs = c.self.inside.runs.items in
    let e = sym (ap runs_of c.self.view_is) ∙ runs_of_idents None rs c.self.invariant.apart in
    let short : c.args.i < length rs = omega (arith, ap length e, c.requires.place) in
    record { run = ap (λ xs. slice_get xs c.args.i) e ∙ slice_get_read rs (length rs) c.args.i c.index.result.now (omega arith) short c.index.ensures }
