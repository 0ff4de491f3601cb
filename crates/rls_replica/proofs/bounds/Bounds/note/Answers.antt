use Rattle.std.proofs.Common.{◌∙◌, ◌+◌, drop, length, inl, inr, ⊎_elim, refl, sym, ap, subst, arith}
use Rattle.std.proofs.lemmas.List.{drop_all}
use Rattle.std.proofs.lemmas.Option.{slice_get_read}
use Rattle.rls_ident.specs.Lists.{IsIn}
use Rattle.rls_ident.proofs.Loops.{drop_reads}
use Rattle.rls_ident.proofs.Members.{in_split}
use Rattle.rls_runs.specs.Runs.{idents_of, run_idents}
use Rattle.rls_runs.proofs.RunsOf.{idents_of_runs}
use Rattle.rls_replica.proofs.bounds.Bounds.note.Goals as goal

pub loop-run-init : goal.loop-run-init
loop-run-init c = record {
  kept = λ a x q h b. b;
  named = λ x p. inl (subst (IsIn x) (sym (ap idents_of c.as_slice-runs.ensures.runs ∙ idents_of_runs c.args.ids.now)) p);
}

pub loop-run-preserved : goal.loop-run-preserved
loop-run-preserved c =
    let rs = c.as_slice-runs.result.now in
    let i = c.loop-run.run-index in
    let r = c.run-item.result in
    let reads = drop_reads rs i r (slice_get_read rs (length rs) i r refl c.loop-run-test.true c.run-item.is) in
    record {
      kept = λ a x q h b. c.in_ok-note_run.ensures.kept a x q h (c.loop-run.invariant.kept a x q h b);
      named = λ x p. ⊎_elim
          (λ k. ⊎_elim (λ m. inr (c.in_ok-note_run.ensures.named x m)) inl (in_split x (run_idents r.0 r.1) (idents_of (drop (i + 1) rs)) (subst (λ ds. IsIn x (idents_of ds)) reads k)))
          (λ b. inr (c.in_ok-note_run.ensures.kept c.args.author x c.args.number (λ e. omega arith) b))
          (c.loop-run.invariant.named x p);
    }

pub returns-clause-named : goal.returns-clause-named
returns-clause-named c = λ x p.
    let rs = c.as_slice-runs.result.now in
    ⊎_elim (λ k. absurd (subst (λ ds. IsIn x (idents_of ds)) (drop_all c.loop-run.run-index rs c.loop-run-test.false) k)) (λ b. b) (c.loop-run.invariant.named x p)
