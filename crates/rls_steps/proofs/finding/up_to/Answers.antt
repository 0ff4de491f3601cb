use Rattle.std.proofs.Common.{sym, arith}
use Rattle.rls_seen.specs.Seen.{idents_over}
use Rattle.rls_steps.proofs.Intervals.{place_below, place_room, place_up_to}
use Rattle.rls_steps.proofs.finding.up_to.Goals as goal

pub overflow_add-result : goal.overflow_add-result
overflow_add-result c = let fits = place_room c.args.replica.now c.args.ident.now c.in-Ok.at c.sane.ensures.sane (sym c.in-Ok.ensures.place) in omega (arith, fits)

pub returns-in-Ok : goal.returns-in-Ok
returns-in-Ok c = record { up_to = λ x k f e. place_up_to (idents_over c.args.replica.now) c.args.ident.now x c.in-Ok.at k c.sane.ensures.sane.idents.1 (sym c.in-Ok.ensures.place) f e }

pub returns-in-Err : goal.returns-in-Err
returns-in-Err c = record { up_to = λ x k f e. place_below (idents_over c.args.replica.now) c.args.ident.now x c.in-Err.at k c.sane.ensures.sane.idents.1 (sym c.in-Err.ensures.place) f e }
