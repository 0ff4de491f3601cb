use Rattle.std.proofs.Common.{◌++◌, length, sym, ap, ◌∙◌, subst, List, arith}
use Rattle.std.specs.Prelude.{IsTrue}
use Rattle.rls_ident.specs.declared.tuple.Tuple.{Tuple}
use Rattle.rls_runs.specs.Runs.{runs_of, idents_of, is_increasing}
use Rattle.rls_runs.proofs.RunsOf.{idents_of_runs}
use Rattle.rls_epoch.proofs.Sorting.{nothing}
use Rattle.rls_epoch.proofs.images.with_all.Goals as goal

pub returns-then-run_count-eq0 : goal.returns-then-run_count-eq0
returns-then-run_count-eq0 c =
    let none = nothing (runs_of c.args.ids) (omega arith) in
    record { all = ap (λ (xs : List (List Tuple)). xs ++ c.args.more) (sym (ap idents_of none) ∙ idents_of_runs c.args.ids) }

pub append_all-requires-clause-above : goal.append_all-requires-clause-above
append_all-requires-clause-above c =
    subst (λ (ys : List (List Tuple)). IsTrue (is_increasing (c.args.ids ++ ys))) (sym (ap idents_of c.as_slice.ensures.runs ∙ idents_of_runs c.args.more)) c.requires.above

pub append_all-requires-clause-total : goal.append_all-requires-clause-total
append_all-requires-clause-total c =
    let e = ap length (ap idents_of c.as_slice.ensures.runs ∙ idents_of_runs c.args.more) in
    let t = c.requires.total in
    omega arith

pub returns : goal.returns
returns c = record { all = c.in_ok-append_all.ensures.ok ∙ ap (λ (ys : List (List Tuple)). c.args.ids ++ ys) (ap idents_of c.as_slice.ensures.runs ∙ idents_of_runs c.args.more) }
