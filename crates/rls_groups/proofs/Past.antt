-- Histories that members of a good world had at some time, and that count alike, show the same.
use Rattle.std.proofs.Common.{◌≡◌, ℕ, sym, ap, subst, arith}
use Rattle.std.specs.Prelude.{slice_index}
use Rattle.rls_ident.specs.Lists.{IsIn}
use Rattle.rls_ops.specs.declared.op.Op.{Op}
use Rattle.rls_model.specs.History.{History, count, count_of, ops}
use Rattle.rls_model.specs.Laws.{IsPast, ShowSame}
use Rattle.rls_model.specs.Worlds.{World}
use Rattle.rls_model.proofs.HistoryNumbers.{number_counted, with_number}
use Rattle.rls_model.proofs.SameOps as same_ops
use Rattle.rls_model.proofs.WorldsArrivals.{one_op}
use Rattle.rls_model.proofs.WorldsInvariant.{IsGood}
use Rattle.rls_passages.proofs.Lasting.{past_home, past_legal}

module _ (w : World) (g : IsGood w) where
  counted : (i j : ℕ) (H K : History) → IsPast w i H → IsPast w j K → count H ≡ count K → (o : Op) → IsIn o (ops H) → IsIn o (ops K)
  counted i j H K p q e o u =
      let c = number_counted H (past_legal w g i H p) o u in
      let f : count_of H o.author ≡ count_of K o.author = ap (λ v. slice_index v o.author) e in
      let l = c.1 in
      let y = with_number K (past_legal w g j K q) o.author o.seq c.0 (omega (arith, l, f)) in
      subst (λ (z : Op). IsIn z (ops K)) (one_op w y.0 o g (past_home w g j K q y.0 y.1) (past_home w g i H p o u) y.2 y.3) y.1

  pub past_same : (i j : ℕ) (H K : History) → IsPast w i H → IsPast w j K → count H ≡ count K → ShowSame H K
  past_same i j H K p q e = same_ops.law H K (past_legal w g i H p) (past_legal w g j K q) (λ o. (counted i j H K p q e o, counted j i K H q p (sym e) o))
