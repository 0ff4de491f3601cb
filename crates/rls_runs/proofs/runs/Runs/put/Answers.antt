use Rattle.std.proofs.Common.{◌≡◌, ◌++◌, ◌∷◌, [], true, false, sym, ap, ◌∙◌, subst}
use Rattle.rls_runs.specs.Runs.{run_idents, idents_of}
use Rattle.rls_runs.specs.Places.{last_ident, is_above, touches}
use Rattle.rls_runs.proofs.RunJoins.{runs_pushed, idents_pushed}
use Rattle.rls_runs.proofs.RunLists.{apart_at_end}
use Rattle.rls_runs.proofs.runs.Runs.put.Goals as goal

pub invariant_of-self-2 : goal.invariant_of-self-2
invariant_of-self-2 c =
    let rs = c.self.inside.runs.items in
    let starts = c.self.inside.starts.items in
    let total = c.self.inside.total in
    let run = c.args.run in
    let above = subst (λ xs. is_above (last_ident xs) run.0 ≡ true) (sym c.self.view_is) c.requires.above in
    let apart = subst (λ xs. touches (last_ident xs) run.0 ≡ false) (sym c.self.view_is) c.requires.apart in
    let runs_are : c.push.new.self.items ≡ rs ++ run ∷ [] = c.in_ok-push.ensures.items in
    let pushed = rw c.unwrap.ensures at c.push-2.ensures.items in
    let starts_are : c.push-2.new.self.items ≡ starts ++ total ∷ [] = pushed ∙ ap (λ xs. xs ++ total ∷ []) c.in_ok-reserve.ensures.items in
    let all = runs_pushed rs starts total run c.self.invariant c.len-len.ensures.run (apart_at_end rs starts total c.self.invariant run above apart) in
    rw (runs_are, starts_are, c.len-len.ensures.len) all

pub returns-clause-ok : goal.returns-clause-ok
returns-clause-ok c =
    let rs = c.self.inside.runs.items in
    let run = c.args.run in
    let runs_are : c.push.new.self.items ≡ rs ++ run ∷ [] = c.in_ok-push.ensures.items in
    ap idents_of runs_are ∙ idents_pushed rs run ∙ ap (λ xs. xs ++ run_idents run.0 run.1) c.self.view_is
