-- What was decoded is what the bytes spell.
use Rattle.std.proofs.Common.{◌≡◌, ℕ, ◌≤◌, List, length, Result, Ok, Err, refl, sym, ap, ◌∙◌, ◌⊎◌, inl, inr}
use Rattle.std.specs.Prelude.{IfOk}
use Rattle.rls_ops.specs.declared.op.Op.{Op}
use Rattle.rls_ops.specs.declared.message.Message.{Message}
use Rattle.rls_codec.specs.declared.fault.DecodeError.{DecodeError}
use Rattle.rls_codec.specs.declared.fault.DecodeError.TheVariants.{Malformed, OutOfMemory}
use Rattle.rls_codec.specs.Gives.{Decodes}
use Rattle.rls_codec.specs.Reading.{op_from, message_of}
use Rattle.rls_codec.specs.CodecLaws.{IsBytes, IsMessage, BeginsAt}
use Rattle.rls_codec.proofs.Formats.{ok_is}
use Rattle.rls_codec.proofs.MessageFormats.{op_from_takes, op_from_again, message_takes, message_again}

-- what answers with a value answers the same everywhere
found : {A : Type 0} (r : Result A DecodeError) (read : Result A ℕ) (x : A) → Decodes r read → read ≡ Ok x → (r ≡ Ok x) ⊎ (r ≡ Err OutOfMemory)
found (Ok y) read x d e = inl (ap (λ z. Ok z) (ok_is y x (sym d ∙ e)))
found (Err (Malformed at)) read x d e = let h = sym d ∙ e in absurd cc
found (Err OutOfMemory) read x d e = inr refl

pub message_is : (bytes : List ℕ) (r : Result Message DecodeError) → IsBytes bytes → Decodes r (message_of bytes) → IfOk r (IsMessage bytes)
message_is bytes (Ok m) h d = message_takes bytes m h d
message_is bytes (Err e) h d = tt

pub message_found : (bytes : List ℕ) (r : Result Message DecodeError) → Decodes r (message_of bytes) → (m : Message) → IsMessage bytes m → (r ≡ Ok m) ⊎ (r ≡ Err OutOfMemory)
message_found bytes r d m h = found r (message_of bytes) m d (message_again bytes m h)

pub op_is : (members : ℕ) (bytes : List ℕ) (from : ℕ) (r : Result (Op × ℕ) DecodeError) → from ≤ length bytes → IsBytes bytes → Decodes r (op_from members bytes from) → IfOk r (λ x. BeginsAt members bytes from x.0 x.1)
op_is members bytes from (Ok x) le h d = op_from_takes members bytes from x.0 x.1 le h d
op_is members bytes from (Err e) le h d = tt

pub op_found : (members : ℕ) (bytes : List ℕ) (from : ℕ) (r : Result (Op × ℕ) DecodeError) → from ≤ length bytes → Decodes r (op_from members bytes from) → (o : Op) (next : ℕ) → BeginsAt members bytes from o next → (r ≡ Ok (o, next)) ⊎ (r ≡ Err OutOfMemory)
op_found members bytes from r le d o next b = found r (op_from members bytes from) (o, next) d (op_from_again members bytes from o next le b)
