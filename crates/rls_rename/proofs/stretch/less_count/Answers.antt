use Rattle.std.proofs.Common.{inl, inr}
use Rattle.rls_runs.proofs.RunOrder.{run_ident, run_some}
use Rattle.rls_rename.proofs.Stretches.{cut_at}
use Rattle.rls_rename.proofs.stretch.less_count.Goals as goal

pub returns-in-Ok : goal.returns-in-Ok
returns-in-Ok c =
    let r = c.args.run.now in
    let g = c.len-len.ensures.run in
    record { cut = cut_at r.0 r.1 c.args.limit.now (run_ident r g) c.requires.less (run_some r g) c.in-Ok.place (inl c.in-Ok.ensures.place) }

pub returns-in-Err : goal.returns-in-Err
returns-in-Err c =
    let r = c.args.run.now in
    let g = c.len-len.ensures.run in
    record { cut = cut_at r.0 r.1 c.args.limit.now (run_ident r g) c.requires.less (run_some r g) c.in-Err.below (inr c.in-Err.ensures.place) }
