-- Reading bytes from left to right. A fault is the number of bytes that are left at the first byte of the first field
-- that is cut off or breaks its rule. A rule on a run or an operation as a whole has its first byte.
-- Why: docs/DECISIONS.md, 22.
use Rattle.std.specs.Prelude.{ℕ, ℤ, pos, zero, suc, Bool, ◌&&◌, List, [], ◌∷◌, ◌++◌, ◌+◌, ◌-◌, ◌+ℤ◌, length, take, drop, chars, codes, Option, Some, None, Result, Ok, Err, nat_lt, nat_le, ◌==◌, bytes_eq, if◌then◌else◌}
use Rattle.std.specs.Int.{Width, w32, w64, byte_len, from_be_bytes, cast_signed}
use Rattle.std.specs.Int.RustNames.{int_le}
use Rattle.std.specs.Str.{is_utf8}
use Rattle.rls_ident.specs.declared.limits.TheConstants.{MEMBERS, OPERATION_BYTES, OFFSETS_END}
use Rattle.rls_ident.specs.declared.tuple.Tuple.{Tuple}
use Rattle.rls_ident.specs.declared.tuple.Tuple.TheVariants.{Low, At, High}
use Rattle.rls_ident.specs.declared.epoch_name.EpochName.{EpochName}
use Rattle.rls_ident.specs.declared.epoch_name.EpochName.TheVariants.{Origin, Of}
use Rattle.rls_ident.specs.Tuples.{offset_of}
use Rattle.rls_ident.specs.Identifiers.{last_of, least_offset, greatest_offset, least_inner}
use Rattle.rls_runs.specs.Runs.{is_apart, idents_of}
use Rattle.rls_ops.specs.declared.op.Op.{Op}
use Rattle.rls_ops.specs.declared.op.Body.{Body}
use Rattle.rls_ops.specs.declared.op.Body.TheVariants.{Insert, Delete, Rename, Leave}
use Rattle.rls_ops.specs.declared.message.Message.{Message}
use Rattle.rls_ops.specs.Spelling.{message_form}

-- a value and the bytes after it, or a fault
abbrev pub Read : Type 0 → Type 0
Read A = Result (A × List ℕ) ℕ

infixl 10 ◌>>=◌
abbrev pub ◌>>=◌ : {A B : Type 0} → Result A ℕ → (A → Result B ℕ) → Result B ℕ
(Ok x) >>= f = f x
(Err e) >>= f = Err e

-- ---- single fields

-- the value that a field gave, where it keeps its rule
abbrev pub with_rule : {A : Type 0} → (A → Bool) → (List ℕ → Read A) → List ℕ → Read A
with_rule rule field bytes = field bytes >>= λ x. if rule x.0 then Ok x else Err (length bytes)

-- one byte
abbrev pub byte_at : List ℕ → Read ℕ
byte_at [] = Err 0
byte_at (b ∷ rest) = Ok (b, rest)

-- a number in its width's bytes
abbrev pub number_at : Width → List ℕ → Read ℕ
number_at w bytes = if nat_lt (length bytes) (byte_len w) then Err (length bytes) else Ok (from_be_bytes w (take (byte_len w) bytes), drop (byte_len w) bytes)

abbrev pub signed_at : List ℕ → Read ℤ
signed_at bytes = number_at w32 bytes >>= λ n. Ok (cast_signed w32 n.0, n.1)

-- so many bytes
abbrev pub bytes_at : ℕ → List ℕ → Read (List ℕ)
bytes_at n bytes = if nat_lt (length bytes) n then Err (length bytes) else Ok (take n bytes, drop n bytes)

-- ---- lists of parts

-- so many parts, where each is read after the one before
unfoldable pub chain_at : {A : Type 0} → (Option A → List ℕ → Read A) → Option A → ℕ → List ℕ → Read (List A)
chain_at part before zero bytes = Ok ([], bytes)
chain_at part before (suc n) bytes = do
  first ← part before bytes
  others ← chain_at part (Some first.0) n first.1
  Ok (first.0 ∷ others.0, others.1)

-- so many parts that don't depend on each other
abbrev pub many_at : {A : Type 0} → (List ℕ → Read A) → ℕ → List ℕ → Read (List A)
many_at part n bytes = chain_at (λ before. part) None n bytes

-- a number of parts, and the parts
abbrev pub counted_at : {A : Type 0} → (Option A → List ℕ → Read A) → List ℕ → Read (List A)
counted_at part bytes = number_at w32 bytes >>= λ n. chain_at part None n.0 n.1

-- ---- tuples, identifiers and runs

abbrev pub is_offset : ℤ → ℤ → Bool
is_offset least z = int_le least z && int_le z greatest_offset

-- an `At` after its kind, with an offset from this one on
unfoldable pub spot_at : ℤ → List ℕ → Read Tuple
spot_at least bytes = do
  p ← number_at w32 bytes
  replica ← number_at w32 p.1
  seq ← number_at w32 replica.1
  offset ← with_rule (is_offset least) signed_at seq.1
  Ok (At p.0 replica.0 seq.0 offset.0, offset.1)

-- a tuple of this kind, before another
abbrev pub inner_of_kind : ℕ → List ℕ → Read Tuple
inner_of_kind zero bytes = Ok (Low, bytes)
inner_of_kind (suc zero) bytes = spot_at least_inner bytes
inner_of_kind (suc (suc k)) bytes = Ok (High, bytes)

unfoldable pub inner_at : List ℕ → Read Tuple
inner_at bytes = with_rule (λ k. nat_le k 2) byte_at bytes >>= λ kind. inner_of_kind kind.0 kind.1

-- the last tuple of an identifier
unfoldable pub last_at : List ℕ → Read Tuple
last_at bytes = with_rule (λ k. k == 1) byte_at bytes >>= λ kind. spot_at least_offset kind.1

-- a number of tuples, at least 1, and the tuples
unfoldable pub ident_at : List ℕ → Read (List Tuple)
ident_at bytes = do
  count ← with_rule (nat_lt 0) (number_at w32) bytes
  front ← many_at inner_at (count.0 - 1) count.1
  last ← last_at front.1
  Ok (front.0 ++ last.0 ∷ [], last.1)

-- the length leaves each offset within the greatest
abbrev pub is_run_len : List Tuple → ℕ → Bool
is_run_len first n = nat_lt 0 n && int_le (offset_of (last_of first) +ℤ pos n) (pos OFFSETS_END)

-- a first identifier and a length
unfoldable pub run_at : List ℕ → Read (List Tuple × ℕ)
run_at bytes = do
  first ← ident_at bytes
  len ← with_rule (is_run_len first.0) (number_at w32) first.1
  Ok ((first.0, len.0), len.1)

-- a run after the run before
abbrev pub next_run_at : Option (List Tuple × ℕ) → List ℕ → Read (List Tuple × ℕ)
next_run_at before bytes = with_rule (is_apart before) run_at bytes

-- a number of runs, and the runs: as the list of their identifiers
unfoldable pub runs_at : List ℕ → Read (List (List Tuple))
runs_at bytes = counted_at next_run_at bytes >>= λ runs. Ok (idents_of runs.0, runs.1)

-- ---- operations

-- one number for each member
abbrev pub vector_at : ℕ → List ℕ → Read (List ℕ)
vector_at members bytes = many_at (number_at w32) members bytes

abbrev pub name_of_kind : ℕ → List ℕ → Read EpochName
name_of_kind zero bytes = Ok (Origin, bytes)
name_of_kind (suc k) bytes = do
  replica ← number_at w32 bytes
  seq ← number_at w32 replica.1
  Ok (Of replica.0 seq.0, seq.1)

unfoldable pub name_at : List ℕ → Read EpochName
name_at bytes = with_rule (λ k. nat_le k 1) byte_at bytes >>= λ kind. name_of_kind kind.0 kind.1

-- a number of bytes, and the bytes, which are UTF-8: as their characters
unfoldable pub text_at : List ℕ → Read (List ℕ)
text_at bytes = do
  n ← number_at w32 bytes
  spelled ← with_rule is_utf8 (bytes_at n.0) n.1
  Ok (chars spelled.0, spelled.1)

abbrev pub body_of_kind : ℕ → List ℕ → Read Body
body_of_kind zero bytes = do
  first ← ident_at bytes
  text ← text_at first.1
  Ok (Insert first.0 text.0, text.1)
body_of_kind (suc zero) bytes = runs_at bytes >>= λ xs. Ok (Delete xs.0, xs.1)
body_of_kind (suc (suc zero)) bytes = runs_at bytes >>= λ xs. Ok (Rename xs.0, xs.1)
body_of_kind (suc (suc (suc k))) bytes = Ok (Leave, bytes)

unfoldable pub body_at : List ℕ → Read Body
body_at bytes = with_rule (λ k. nat_le k 3) byte_at bytes >>= λ kind. body_of_kind kind.0 kind.1

-- the fields of an operation, where there are so many members
unfoldable pub op_fields_at : ℕ → List ℕ → Read Op
op_fields_at members bytes = do
  author ← number_at w32 bytes
  seq ← number_at w32 author.1
  context ← vector_at members seq.1
  epoch ← name_at context.1
  body ← body_at epoch.1
  Ok (record { author = author.0; seq = seq.0; context = context.0; epoch = epoch.0; body = body.0 }, body.1)

-- an operation, which as a whole keeps the limit
unfoldable pub op_at : ℕ → List ℕ → Read Op
op_at members bytes = op_fields_at members bytes >>= λ o. if nat_lt (length o.1 + OPERATION_BYTES) (length bytes) then Err (length bytes) else Ok o

-- ---- places in a longer list of bytes

-- a value and the place after it, or the place of a fault, in a list of so many bytes
abbrev pub placed : {A : Type 0} → ℕ → Read A → Result (A × ℕ) ℕ
placed total (Ok x) = Ok (x.0, total - length x.1)
placed total (Err left) = Err (total - left)

-- the operation that begins at this place, and the place after it, or the place of the first fault
unfoldable pub op_from : ℕ → List ℕ → ℕ → Result (Op × ℕ) ℕ
op_from members bytes from = placed (length bytes) (op_at members (drop from bytes))

-- the value, where no byte is left
abbrev pub whole : {A : Type 0} → List ℕ → Read A → Result A ℕ
whole bytes (Ok (x, [])) = Ok x
whole bytes (Ok (x, b ∷ rest)) = Err (length bytes - length (b ∷ rest))
whole bytes (Err left) = Err (length bytes - left)

-- ---- messages

-- these bytes
abbrev pub magic_at : List ℕ → List ℕ → Read (List ℕ)
magic_at magic bytes = with_rule (λ found. bytes_eq found magic) (bytes_at (length magic)) bytes

abbrev pub is_message_form : ℕ → Bool
is_message_form n = nat_lt 0 n && nat_le n message_form

abbrev pub is_member_count : ℕ → Bool
is_member_count n = nat_lt 0 n && nat_le n MEMBERS

-- a form and a message
unfoldable pub message_and_form_at : List ℕ → Read (ℕ × Message)
message_and_form_at bytes = do
  magic ← magic_at (codes "RLSM") bytes
  form ← with_rule is_message_form byte_at magic.1
  group ← number_at w64 form.1
  members ← with_rule is_member_count (number_at w32) group.1
  from ← with_rule (λ n. nat_lt n members.0) (number_at w32) members.1
  vector ← vector_at members.0 from.1
  ops ← counted_at (λ before. op_at members.0) vector.1
  Ok ((form.0, record { group = group.0; members = members.0; from = from.0; vector = vector.0; ops = ops.0 }), ops.1)

-- a message of any form
unfoldable pub message_at : List ℕ → Read Message
message_at bytes = message_and_form_at bytes >>= λ m. Ok (m.0.1, m.1)

-- the message that the bytes spell, or the place of the first fault
unfoldable pub message_of : List ℕ → Result Message ℕ
message_of bytes = whole bytes (message_at bytes)
