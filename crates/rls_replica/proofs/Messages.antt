-- The message that the code puts together.
use Rattle.std.proofs.Common.{◌≡◌, ◌∙◌, ◌≤◌, ◌-◌, ℕ, List, sym, arith}
use Rattle.rls_ident.specs.declared.limits.TheConstants.{MEMBERS, INPUT_BYTES}
use Rattle.rls_ops.specs.declared.op.Op.{Op}
use Rattle.rls_ops.specs.Rows.{missing_for}
use Rattle.rls_ops.specs.Sizes.{head_size, front_within}
use Rattle.rls_ops.proofs.Fronts.{front_from}
use Rattle.rls_seen.specs.Seen.{Seen, vector, members}
use Rattle.rls_seen.specs.Messages.{message_beyond}

pub message_is : (s : Seen) (known : List ℕ) (group n me : ℕ) (v : List ℕ) (os : List Op) → group ≡ s.group → n ≡ members s → me ≡ s.acks.me → v ≡ vector s → members s ≤ MEMBERS
    → os ≡ front_within 0 (INPUT_BYTES - head_size (members s)) (missing_for known s.log)
    → record { group = group; members = n; from = me; vector = v; ops = os } ≡ message_beyond s known
unfolding message_beyond
message_is s known group n me v os g e f w l o =
    let k : os ≡ front_within (head_size (members s)) INPUT_BYTES (missing_for known s.log) =
    o ∙ sym (front_from (head_size (members s)) INPUT_BYTES (missing_for known s.log) (omega arith)) in
    cc
