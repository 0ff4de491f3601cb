-- The names of the epochs that a replica keeps.
use Rattle.std.specs.Prelude.{Bool, IsTrue}
use Rattle.rls_ident.specs.declared.epoch_name.EpochName.{EpochName}
use Rattle.rls_rename.specs.Tree.{is_kept}
use Rattle.rls_seen.specs.Seen.{Seen}

-- the epoch is kept
abbrev pub keeps : Seen → EpochName → Bool
keeps s e = is_kept s.epochs.top s.epochs.nodes e

-- each epoch that was kept is still kept
abbrev pub KeepsNames : Seen → Seen → Type 0
KeepsNames old new = (e : EpochName) → IsTrue (is_kept old.epochs.top old.epochs.nodes e) → IsTrue (is_kept new.epochs.top new.epochs.nodes e)
