-- The replica that a file says, and the file of a replica.
use Rattle.std.proofs.Common.{◌≡◌, List, Some, Ok, ℕ, refl, subst, inl, inr}
use Rattle.rls_model.specs.declared.parts.Parts.{Parts}
use Rattle.rls_model.specs.Parts.{parts}
use Rattle.rls_model.specs.Receiving.{State}
use Rattle.rls_seen.specs.Kept.{parts_over}
use Rattle.rls_seen.specs.Sane.{IsSane}
use Rattle.rls_seen.specs.Seen.{Seen}
use Rattle.rls_seen.specs.Stands.{StandsFor}
use Rattle.rls_seen.proofs.Keeping.{parts_alike}
use Rattle.rls_file.specs.Files.{Content, Journal, Snapshot, newest_form}
use Rattle.rls_file.specs.FileLaws.{IsFile}
use Rattle.rls_file.proofs.FileFormats.{file_reads}
use Rattle.rls_file.specs.Loading.{seen_in}
use Rattle.rls_file.specs.Stored.{AreWritable}
use Rattle.rls_file.proofs.Files.{IsOpenedAs, journal_opens, snapshot_opens}
use Rattle.rls_stages.specs.KeptFile.{IsFileFor, bytes_over, replica_in}

-- the replica of a file, with all that is known of it
pub record IsOpened (bytes : List ℕ) (t : State) (s : Seen) : Type 0 where
  pub found : replica_in (Ok (Some bytes)) ≡ Ok s
  pub stands : StandsFor s t
  pub sane : IsSane s
  pub writable : AreWritable s

opened_by : (bytes : List ℕ) (t : State) (c : Content) → IsFile bytes c → IsOpenedAs (seen_in c) t → IsOpened bytes t (seen_in c)
opened_by bytes t c f k = record { found = rw (file_reads bytes c f) refl; stands = k.stands; sane = k.sane; writable = k.writable }

-- a file that stands for a state is opened as a replica that does
pub opened : (bytes : List ℕ) (t : State) → IsFileFor bytes t → (s : Seen) × IsOpened bytes t s
opened bytes t (inl f) = (seen_in (Journal t), opened_by bytes t (Journal t) f (journal_opens t f.0))
opened bytes t (inr f) = (seen_in (Snapshot f.1.0 (parts t)), opened_by bytes t (Snapshot f.1.0 (parts t)) f.1.1 (snapshot_opens f.1.0 t f.1.1.0 f.1.1.1 f.0))

-- a stored replica's file stands for what the replica stands for
pub stands_stored : (s : Seen) (t : State) → StandsFor s t → IsFile (bytes_over s) (Snapshot newest_form (parts_over s)) → IsFileFor (bytes_over s) t
stands_stored s t h f = inr (h.legal, (newest_form, subst (λ (p : Parts). IsFile (bytes_over s) (Snapshot newest_form p)) (parts_alike s t h) f))
