use Rattle.std.proofs.Common.{ℕ, List, ◌∙◌, ap}
use Rattle.rls_seen.specs.Seen.{idents_over}
use Rattle.rls_steps.specs.Sweeping.{kept_names}
use Rattle.rls_steps.proofs.Swept.{kept_sorted}
use Rattle.rls_steps.proofs.sweeping.kept_names.Goals as goal

pub returns : goal.returns
returns c = record {
  kept = c.in_ok-kept.ensures.kept ∙ ap (λ (ls : List ℕ). kept_names (idents_over c.args.replica.now) ls c.args.names.now) c.deref.ensures.value ∙ kept_sorted _ _ _ _ c.in_ok-labels.ensures.same;
}
