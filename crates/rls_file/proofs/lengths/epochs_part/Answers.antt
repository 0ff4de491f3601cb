use Rattle.std.proofs.Common.{◌≡◌, true, sym, subst}
use Rattle.rls_rename.specs.Tree.{Epochs, is_kept}
use Rattle.rls_replica.proofs.Marking.{retained_kept}
use Rattle.rls_file.proofs.lengths.epochs_part.Goals as goal

pub kept_epochs_len-requires : goal.kept_epochs_len-requires
kept_epochs_len-requires c = record {
  kept = λ e p. subst (λ (E : Epochs). is_kept E.top E.nodes e ≡ true) (sym c.epochs.ensures.epochs) (retained_kept c.args.replica.now c.args.places.now c.requires.names e p);
}
