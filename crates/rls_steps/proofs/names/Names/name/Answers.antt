use Rattle.std.proofs.Common.{◌≡◌, ◌∷◌, ℕ, List, subst}
use Rattle.std.specs.Prelude.{reverse, IfOk}
use Rattle.rls_ident.specs.declared.tuple.Tuple.{Tuple}
use Rattle.rls_steps.specs.Labelled.{Names}
use Rattle.rls_steps.specs.NameRuns.{named}
use Rattle.rls_steps.specs.Index.{tail_at}
use Rattle.rls_steps.proofs.Indexing.{tail_ok}
use Rattle.rls_steps.proofs.names.Names.name.Goals as goal

pub returns-clause-tail : goal.returns-clause-tail
returns-clause-tail c =
    subst (λ (ks : Names). IfOk c.name_in.result (λ m. (n : List Tuple × ℕ) (ns : List (List Tuple × ℕ)) → tail_at (reverse ks) c.args.i ≡ n ∷ ns → m ≡ n)) c.self.view_is
    (tail_ok (named c.self.inside.runs.items) c.args.i c.name_in.result c.name_in.ensures.name)
