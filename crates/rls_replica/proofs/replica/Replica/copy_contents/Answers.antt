use Rattle.std.proofs.Common.{◌∙◌, ℕ, List, sym, ap}
use Rattle.rls_ident.specs.declared.epoch_name.EpochName.{EpochName}
use Rattle.rls_ops.specs.Rows.{missing_for}
use Rattle.rls_model.specs.Parts.{epoch_parts, text_runs}
use Rattle.rls_seen.specs.Seen.{Seen, unstable_over}
use Rattle.rls_seen.specs.Kept.{retained_over}
use Rattle.rls_replica.specs.View.{seen}
use Rattle.rls_replica.proofs.Marking.{retained_kept}
use Rattle.rls_replica.proofs.replica.Replica.copy_contents.Goals as goal

pub epoch_parts-requires : goal.epoch_parts-requires
epoch_parts-requires c = record { kept = retained_kept (seen c.self.inside) c.deref.result.now (c.deref.ensures.value ∙ (c.in_ok-retained.ensures.names ∙ ap (λ (u : Seen). retained_over u) (sym c.self.view_is))) }

pub returns : goal.returns
returns c =
    let s = seen c.self.inside in
    let kept = c.in_ok-retained.ensures.names ∙ ap (λ (u : Seen). retained_over u) (sym c.self.view_is) in
    record {
      epochs = c.in_ok-epochs.ensures.parts ∙ (ap (λ (es : List EpochName). epoch_parts s.epochs.nodes es) (c.deref.ensures.value ∙ kept) ∙ ap (λ (u : Seen). epoch_parts u.epochs.nodes (retained_over u)) c.self.view_is);
      text = c.in_ok-text.ensures.runs ∙ ap (λ (u : Seen). text_runs u.text) c.self.view_is;
      log = c.in_ok-log.ensures.missing ∙ (ap (λ (v : List ℕ). missing_for v s.log) c.stable.ensures.stable ∙ ap (λ (u : Seen). unstable_over u) c.self.view_is);
      held = c.in_ok-held.ensures.ops ∙ ap (λ (u : Seen). u.waiting) c.self.view_is;
    }
