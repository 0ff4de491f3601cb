-- Edits of the text leave the epochs as they are.
use Rattle.std.proofs.Common.{◌≡◌, ℕ, List, refl}
use Rattle.rls_model.specs.declared.edit.Edit.TheVariants as edits
use Rattle.rls_seen.specs.Over.{accepted}
use Rattle.rls_seen.specs.Edits.{made_over, edited}
use Rattle.rls_seen.specs.Seen.{Seen}

pub insert_epochs : (s : Seen) (at : ℕ) (cs : List ℕ) → (edited s (edits.Insert at cs)).epochs ≡ s.epochs
unfolding accepted made_over
insert_epochs s at cs = refl

pub delete_epochs : (s : Seen) (at n : ℕ) → (edited s (edits.Delete at n)).epochs ≡ s.epochs
unfolding accepted made_over
delete_epochs s at n = refl
