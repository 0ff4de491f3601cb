-- The statements of the laws of operations and messages as bytes.
use Rattle.std.specs.Prelude.{◌≡◌, ◌<◌, ◌≤◌, ℕ, ◌+◌, List, [], ◌++◌, length, drop, slice_index_or, Ok, IsTrue}
use Rattle.rls_ops.specs.declared.op.Op.{Op}
use Rattle.rls_ops.specs.declared.message.Message.{Message}
use Rattle.rls_ops.specs.Spelling.{op_bytes, message_in_form}
use Rattle.rls_ops.specs.Sizes.{op_size, message_size}
use Rattle.rls_codec.specs.Reading.{op_at, op_from, is_message_form, message_of}
use Rattle.rls_codec.specs.Spelled.{IsSpelled, IsSpelledMessage}

-- each is below 256
abbrev pub IsBytes : List ℕ → Type 0
IsBytes bytes = (i : ℕ) → slice_index_or bytes i 0 < 256

-- an operation that is spelled is read, whatever follows it
abbrev pub OpsAreRead : Type 0
OpsAreRead = (members : ℕ) (o : Op) (rest : List ℕ) → IsSpelled members o → op_at members (op_bytes o ++ rest) ≡ Ok (o, rest)

-- an operation that is read is spelled so
abbrev pub ReadAreOps : Type 0
ReadAreOps = (members : ℕ) (bytes : List ℕ) (o : Op) (rest : List ℕ) → IsBytes bytes → op_at members bytes ≡ Ok (o, rest) → (bytes ≡ op_bytes o ++ rest) × IsSpelled members o

-- a spelled operation begins at this place, and ends before the next
abbrev pub BeginsAt : ℕ → List ℕ → ℕ → Op → ℕ → Type 0
BeginsAt members bytes from o next = (rest : List ℕ) × IsSpelled members o × (drop from bytes ≡ op_bytes o ++ rest) × (next ≡ from + length (op_bytes o))

-- in a longer list of bytes an operation is read where a spelled one begins
abbrev pub OpsAreReadFrom : Type 0
OpsAreReadFrom = (members : ℕ) (bytes : List ℕ) (from : ℕ) (o : Op) (next : ℕ) → from ≤ length bytes → BeginsAt members bytes from o next → op_from members bytes from ≡ Ok (o, next)

-- and only there
abbrev pub ReadFromAreOps : Type 0
ReadFromAreOps = (members : ℕ) (bytes : List ℕ) (from : ℕ) (o : Op) (next : ℕ) → from ≤ length bytes → IsBytes bytes → op_from members bytes from ≡ Ok (o, next) → BeginsAt members bytes from o next

-- no spelling of an operation stands before another's
abbrev pub NoneIsPrefix : Type 0
NoneIsPrefix = (members : ℕ) (o p : Op) (rest : List ℕ) → IsSpelled members o → IsSpelled members p → op_bytes o ++ rest ≡ op_bytes p → (o ≡ p) × (rest ≡ [])

-- the bytes are a message, in the newest form or an older one
abbrev pub IsMessage : List ℕ → Message → Type 0
IsMessage bytes m = (form : ℕ) × IsTrue (is_message_form form) × IsSpelledMessage m × (bytes ≡ message_in_form form m)

-- a message is read
abbrev pub MessagesAreRead : Type 0
MessagesAreRead = (bytes : List ℕ) (m : Message) → IsMessage bytes m → message_of bytes ≡ Ok m

-- what is read is a message
abbrev pub ReadAreMessages : Type 0
ReadAreMessages = (bytes : List ℕ) (m : Message) → IsBytes bytes → message_of bytes ≡ Ok m → IsMessage bytes m

-- an operation has as many bytes as its size says
abbrev pub SizesAreLengths : Type 0
SizesAreLengths = (o : Op) → length (op_bytes o) ≡ op_size o

-- and a message
abbrev pub MessageSizesAreLengths : Type 0
MessageSizesAreLengths = (form : ℕ) (m : Message) → length (message_in_form form m) ≡ message_size m
