use Rattle.std.proofs.Common.{◌+◌, length, drop, refl, subst, arith, ⊎_elim}
use Rattle.std.proofs.lemmas.Option.{slice_get_read}
use Rattle.rls_ident.specs.Lists.{IsIn}
use Rattle.rls_ident.proofs.Loops.{drop_reads}
use Rattle.rls_ident.proofs.Members.{in_split}
use Rattle.rls_runs.specs.Runs.{joined}
use Rattle.rls_replica.proofs.known.least_clear.Goals.{then-clear-least, else-clear-least}
use Rattle.rls_replica.proofs.known.least_clear.Goals as goal

pub loop-list-preserved : goal.loop-list-preserved
loop-list-preserved c =
    let ls = c.args.lists.now in
    let i = c.loop-list.list-index in
    let list = c.list-item.result in
    let reads = drop_reads ls i list (slice_get_read ls (length ls) i list refl c.loop-list-test.true c.list-item.is) in
    elim c.if-clear-least.branch [
      | then-clear-least w ↦ record {
        within = omega (arith, w.least-is, w.if-clear-least.true, c.loop-list.invariant.within);
        clear = λ k x l g p. ⊎_elim (λ q. absurd (c.in_ok-clear.ensures.clear k x (omega (arith, l, w.least-is)) g q)) (λ q. q)
            (in_split x list (joined (drop (i + 1) ls)) (subst (λ ms. IsIn x (joined ms)) reads (c.loop-list.invariant.clear k x (omega (arith, l, w.least-is, w.if-clear-least.true)) g p)));
      }
      | else-clear-least w ↦ record {
        within = omega (arith, w.least-is, c.loop-list.invariant.within);
        clear = λ k x l g p. ⊎_elim (λ q. absurd (c.in_ok-clear.ensures.clear k x (omega (arith, l, w.least-is, w.if-clear-least.false)) g q)) (λ q. q)
            (in_split x list (joined (drop (i + 1) ls)) (subst (λ ms. IsIn x (joined ms)) reads (c.loop-list.invariant.clear k x (omega (arith, l, w.least-is)) g p)));
      }
    ]
