-- A message that was read is one of a group of so many members.
use Rattle.std.proofs.Common.{◌≡◌, ℕ, List, [], ◌∷◌, Option, Some, None, subst, arith}
use Rattle.rls_ops.specs.declared.message.Message.{Message}
use Rattle.rls_ops.specs.declared.op.Op.{Op}
use Rattle.rls_codec.specs.CodecLaws.{IsMessage}
use Rattle.rls_codec.specs.Spelled.{Chained, IsSpelled}
use Rattle.rls_codec.proofs.SpelledSound.{fits_vector, spelled_op}
use Rattle.rls_model.specs.WellFormed.{AreOps, IsVector}
use Rattle.rls_seen.specs.Messages as seen

ops_given : (n : ℕ) (before : Option Op) (os : List Op) → Chained (λ b. IsSpelled n) before os → AreOps os
ops_given n before [] c = tt
ops_given n before (o ∷ os) c = (spelled_op n o c.0, ops_given n (Some o) os c.1)

pub message_given : (bytes : List ℕ) (m : Message) (n : ℕ) → IsMessage bytes m → m.members ≡ n → seen.IsMessage n m
message_given bytes m n is e =
    let v = is.2 in
    let from = v.from in
    record { from = omega (arith, from, e); vector = subst (λ k. IsVector k m.vector) e (fits_vector m.members m.vector v.vector); ops = ops_given m.members None m.ops v.ops }
