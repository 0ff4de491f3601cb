-- Messages, for a replica or for another group.
use Rattle.std.proofs.Common.{◌≡◌, ℕ, length, Result, Ok, refl, subst}
use Rattle.rls_ops.specs.declared.message.Message.{Message}
use Rattle.rls_replica.specs.Faults.{IsForeign}
use Rattle.rls_model.specs.declared.receipt.Taken.{Taken}
use Rattle.rls_report.specs.declared.failures.CommandError.TheVariants.{OtherGroup}
use Rattle.rls_report.specs.Reports.{take_text}
use Rattle.rls_seen.specs.Messages.{taken_of, taken_over}
use Rattle.rls_seen.specs.Seen.{Seen, members}
use Rattle.rls_top.specs.declared.made.Made.{Made}
use Rattle.rls_stages.specs.declared.errors.WorkError.{WorkError}
use Rattle.rls_stages.specs.KeptFile.{saved}
use Rattle.rls_top.specs.Due.{Stops, due_of_message, stores}
use Rattle.rls_stages.specs.Errors.{of_work}
use Rattle.rls_stages.proofs.Kept.{is_ours, not_for}
use Rattle.rls_top.specs.Stages.{IsDue}

-- the end for a message that isn't for the replica
pub foreign_due : (s : Seen) (m : Message) (r : Result Message ℕ) (g n x y : ℕ) → r ≡ Ok m → IsForeign s m → g ≡ m.group → n ≡ m.members → x ≡ g → y ≡ n → due_of_message s r ≡ Stops (OtherGroup x y)
foreign_due s m r g n x y read foreign group members same also = rw (read, not_for s m foreign, same, also, group, members) refl

-- what is made of one that was taken
pub taken_due : (s new : Seen) (m : Message) (r : Result Message ℕ) (found : Taken) (x : Result Made WorkError) → r ≡ Ok m → (IsForeign s m → ⊥) → found ≡ taken_of (taken_over s m) → new ≡ (taken_over s m).state
    → IsDue of_work x (stores (saved new) (take_text found.applied found.released found.repeated found.held (length found.refused)) found.refused) → IsDue of_work x (due_of_message s r)
taken_due s new m r found x read none counted there made =
    let c = taken_over s m in
    let at_found = subst (λ (f : Taken). IsDue of_work x (stores (saved new) (take_text f.applied f.released f.repeated f.held (length f.refused)) f.refused)) counted made in
    let at_new = subst (λ (n : Seen). IsDue of_work x (stores (saved n) (take_text c.counts.applied c.counts.released c.counts.repeated c.counts.held (length c.counts.refused)) c.counts.refused)) there at_found in
    rw (read, is_ours s m none) at_new
