use Rattle.std.proofs.Common.{◌≡◌, ◌∙◌, ◌<◌, ◌≢◌, ℕ, List, length, Err, refl, sym, ap, arith}
use Rattle.std.proofs.lemmas.Bool.{eq-eqb, lt-ltb, ne_eqb}
use Rattle.std.proofs.lemmas.List.{length-map}
use Rattle.rls_script.specs.declared.clusters.ClusterError.TheVariants.{Range}
use Rattle.rls_script.specs.Clusters.{cluster_before}
use Rattle.rls_seen.specs.Seen.{text_over}
use Rattle.rls_stages.proofs.lines.cluster_at.Goals as goal
use Rattle.rls_stages.proofs.lines.cluster_at.Goals.{then-at-eq0-via-then-at-eq0, then-at-eq0-via-else-at-eq0+then-at-total}

at_start : (text : List ℕ) (at : ℕ) → at ≡ 0 → Err (Range at (length text)) ≡ cluster_before text at
unfolding cluster_before
at_start text at e = rw (eq-eqb at 0 e) refl

past_end : (text : List ℕ) (at : ℕ) → at ≢ 0 → length text < at → Err (Range at (length text)) ≡ cluster_before text at
unfolding cluster_before
past_end text at e l = rw (ne_eqb at 0 e, lt-ltb (length text) at l) refl

pub returns-then-at-eq0 : goal.returns-then-at-eq0
returns-then-at-eq0 c =
    let text = text_over c.args.replica.now in
    let total : c.total-total.result ≡ length text = c.total-total.ensures.total ∙ sym (length-map c.args.replica.now.text (λ entry. entry.1)) in
    record {
      found = ap (λ n. Err (Range c.args.at n)) total ∙ elim c.then-at-eq0.branch [
        | then-at-eq0-via-then-at-eq0 w ↦ at_start text c.args.at w.if-at-eq0.true
        | then-at-eq0-via-else-at-eq0+then-at-total w ↦ past_end text c.args.at (λ e. omega (arith, w.if-at-eq0.false)) (omega (arith, w.if-at-total.true, total))
      ];
    }
