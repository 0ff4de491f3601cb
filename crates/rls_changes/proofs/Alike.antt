-- The changes are those of each history that the replica stands for.
use Rattle.std.proofs.Common.{◌≡◌, ◌∙◌, List, [], length, refl, ap}
use Rattle.std.specs.Prelude.{zip}
use Rattle.rls_ident.specs.declared.tuple.Tuple.{Tuple}
use Rattle.rls_ident.specs.declared.epoch_name.EpochName.{EpochName}
use Rattle.rls_ident.proofs.Agreeing.{map_same}
use Rattle.rls_runs.specs.Runs.{run_idents}
use Rattle.rls_ops.specs.declared.op.Body.{Body}
use Rattle.rls_ops.specs.declared.op.Body.TheVariants as body
use Rattle.rls_model.specs.Document.{idents}
use Rattle.rls_model.specs.Epochs.{greatest, translate}
use Rattle.rls_seen.specs.Over.{placed_over}
use Rattle.rls_seen.proofs.Accepting.{placed_alike}
use Rattle.rls_seen.proofs.Editing.{idents_alike}
use Rattle.rls_changes.specs.Changes.{with_changes, puts, cuts, changes_by, changes_over, changes_in}
use Rattle.rls_changes.specs.ChangesLaws.{ChangesAlike}

by_place : (xs : List (List Tuple)) (p q : EpochName → List Tuple → List Tuple) (e : EpochName) (b : Body) → ((x : List Tuple) → p e x ≡ q e x) → changes_by p xs e b ≡ changes_by q xs e b
by_place xs p q e (body.Insert first text) h = ap (λ ids. with_changes [] (puts 0 xs (zip ids text))) (map_same (p e) (q e) (run_idents first (length text)) (λ x i. h x))
by_place xs p q e (body.Delete targets) h = ap (λ ids. with_changes [] (cuts 0 ids xs)) (map_same (p e) (q e) targets (λ x i. h x))
by_place xs p q e (body.Rename former) h = refl
by_place xs p q e body.Leave h = refl

pub changes_alike : ChangesAlike
unfolding changes_over changes_in
changes_alike s t o h k =
    ap (λ xs. changes_by (placed_over s) xs o.epoch o.body) (idents_alike s t h)
    ∙ by_place (idents t.history) (placed_over s) (λ e x. translate t.history e (greatest t.history) x) o.epoch o.body (λ x. placed_alike s t h o.epoch x k)
