-- Anchors of the character on one side.
use Rattle.std.proofs.Common.{◌≡◌, ◌∙◌, ℕ, cond, List, length, ap, ltb}
use Rattle.std.specs.Prelude.{slice_get}
use Rattle.rls_model.specs.Document.{idents}
use Rattle.rls_model.specs.Epochs.{greatest}
use Rattle.rls_model.specs.Receiving.{State}
use Rattle.rls_report.specs.declared.failures.LineFault.TheVariants.{Range}
use Rattle.rls_seen.specs.Seen.{Seen, idents_over}
use Rattle.rls_seen.specs.Stands.{StandsFor}
use Rattle.rls_seen.proofs.Alike.{greatest_alike}
use Rattle.rls_seen.proofs.Editing.{idents_alike}
use Rattle.rls_seen.proofs.Keeping.{text_alike}
use Rattle.rls_anchor.specs.declared.anchor.Anchor.{Anchor}
use Rattle.rls_anchor.specs.AnchorLaws.{IsAnchored}
use Rattle.rls_anchor.specs.Anchors.{anchor_over, before, behind, in_front}
use Rattle.rls_anchor.proofs.Places.{before_kept, made_kept}
use Rattle.rls_session.specs.Answers.{spelled}
use Rattle.rls_session.specs.Replies.{anchor_text, refused_text}
use Rattle.rls_session.specs.Sessions.{anchor_in, by_history, by_parts}
use Rattle.rls_session.specs.declared.orders.Side.{Side}
use Rattle.rls_session.specs.declared.orders.Side.TheVariants.{Before, After}

-- over a replica as over each history that it stands for
behind_alike : (s : Seen) (t : State) (at : ℕ) → StandsFor s t → anchor_over s at ≡ anchor_in t at
behind_alike s t at h = ap (λ g. behind g (before (idents_over s) at)) (greatest_alike s t h) ∙ ap (λ xs. behind (greatest t.history) (before xs at)) (idents_alike s t h)

pub anchor_alike : (s : Seen) (t : State) (side : Side) (at : ℕ) → StandsFor s t → by_parts.anchor s side at ≡ by_history.anchor t side at
anchor_alike s t Before at h = behind_alike s t at h
anchor_alike s t After at h =
    ap (λ g. in_front g (slice_get (idents_over s) at) (anchor_over s at)) (greatest_alike s t h)
    ∙ (ap (λ xs. in_front (greatest t.history) (slice_get xs at) (anchor_over s at)) (idents_alike s t h)
    ∙ ap (in_front (greatest t.history) (slice_get (idents t.history) at)) (behind_alike s t at h))

-- its epoch is kept
pub anchor_kept : (s : Seen) (side : Side) (at : ℕ) → IsAnchored s (by_parts.anchor s side at)
anchor_kept s Before at = made_kept s at
anchor_kept s After at = before_kept s at

-- and its word is the same
pub spelled_alike : (s : Seen) (t : State) (at : ℕ) → StandsFor s t → spelled by_parts s at ≡ spelled by_history t at
spelled_alike s t at h =
    ap (λ (cs : List ℕ). cond (ltb (length cs) at) (refused_text (Range at (length cs))) (anchor_text (by_parts.anchor s Before at))) (text_alike s t h)
    ∙ ap (λ (a : Anchor). cond (ltb (length (by_history.text t)) at) (refused_text (Range at (length (by_history.text t)))) (anchor_text a)) (anchor_alike s t Before at h)
