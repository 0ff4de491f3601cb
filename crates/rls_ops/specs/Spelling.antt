-- How values are spelled as bytes. A spelling is the list of its fields, one after another.
use Rattle.std.specs.Prelude.{ℕ, ℤ, List, [], ◌∷◌, ◌++◌, length, codes, encode_utf8_all}
use Rattle.std.specs.List.{flat_map, concat}
use Rattle.std.specs.Int.{w32, w64, to_be_bytes, cast_unsigned}
use Rattle.rls_ident.specs.declared.tuple.Tuple.{Tuple}
use Rattle.rls_ident.specs.declared.tuple.Tuple.TheVariants.{Low, At, High}
use Rattle.rls_ident.specs.declared.epoch_name.EpochName.{EpochName}
use Rattle.rls_ident.specs.declared.epoch_name.EpochName.TheVariants.{Origin, Of}
use Rattle.rls_runs.specs.Runs.{runs_of}
use Rattle.rls_ops.specs.declared.op.Op.{Op}
use Rattle.rls_ops.specs.declared.op.Body.{Body}
use Rattle.rls_ops.specs.declared.op.Body.TheVariants.{Insert, Delete, Rename, Leave}
use Rattle.rls_ops.specs.declared.message.Message.{Message}

-- numbers of fixed width, the highest byte first
abbrev pub four_bytes : ℕ → List ℕ
four_bytes n = to_be_bytes w32 n

abbrev pub eight_bytes : ℕ → List ℕ
eight_bytes n = to_be_bytes w64 n

-- two's complement in four bytes
abbrev pub signed_bytes : ℤ → List ℕ
signed_bytes z = to_be_bytes w32 (cast_unsigned w32 z)

-- a number of parts, and the parts
abbrev pub counted : {A : Type 0} → (A → List ℕ) → List A → List ℕ
counted part xs = four_bytes (length xs) ++ flat_map part xs

-- a kind, and four numbers in an `At`
abbrev pub tuple_bytes : Tuple → List ℕ
tuple_bytes Low = 0 ∷ []
tuple_bytes (At p r s o) = 1 ∷ concat (four_bytes p ∷ four_bytes r ∷ four_bytes s ∷ signed_bytes o ∷ [])
tuple_bytes High = 2 ∷ []

abbrev pub ident_bytes : List Tuple → List ℕ
ident_bytes x = counted tuple_bytes x

-- the first identifier and the length
abbrev pub run_bytes : List Tuple × ℕ → List ℕ
run_bytes r = concat (ident_bytes r.0 ∷ four_bytes r.1 ∷ [])

-- the maximal runs of a list of identifiers
abbrev pub runs_bytes : List (List Tuple) → List ℕ
runs_bytes xs = counted run_bytes (runs_of xs)

abbrev pub vector_bytes : List ℕ → List ℕ
vector_bytes v = flat_map four_bytes v

abbrev pub name_bytes : EpochName → List ℕ
name_bytes Origin = 0 ∷ []
name_bytes (Of r s) = 1 ∷ concat (four_bytes r ∷ four_bytes s ∷ [])

-- a number of bytes, and the characters in UTF-8
abbrev pub text_bytes : List ℕ → List ℕ
text_bytes cs = four_bytes (length (encode_utf8_all cs)) ++ encode_utf8_all cs

abbrev pub kind_of : Body → ℕ
kind_of (Insert first text) = 0
kind_of (Delete targets) = 1
kind_of (Rename former) = 2
kind_of Leave = 3

abbrev pub body_bytes : Body → List ℕ
body_bytes (Insert first text) = concat (ident_bytes first ∷ text_bytes text ∷ [])
body_bytes (Delete targets) = runs_bytes targets
body_bytes (Rename former) = runs_bytes former
body_bytes Leave = []

unfoldable pub op_bytes : Op → List ℕ
op_bytes o = concat
    (four_bytes o.author ∷ four_bytes o.seq ∷ vector_bytes o.context ∷ name_bytes o.epoch ∷ (kind_of o.body ∷ []) ∷ body_bytes o.body ∷ [])

-- what stands in a message before its operations: magic text, form, group, count of members, sender and vector
unfoldable pub message_head : ℕ → ℕ → ℕ → ℕ → List ℕ → List ℕ
message_head form group members from vector = concat
    (codes "RLSM" ∷ (form ∷ []) ∷ eight_bytes group ∷ four_bytes members ∷ four_bytes from ∷ vector_bytes vector ∷ [])

-- a message with this form byte
unfoldable pub message_in_form : ℕ → Message → List ℕ
message_in_form form m = concat
    (codes "RLSM" ∷ (form ∷ []) ∷ eight_bytes m.group ∷ four_bytes m.members ∷ four_bytes m.from ∷ vector_bytes m.vector ∷ counted op_bytes m.ops ∷ [])

-- the form in which messages are written
abbrev pub message_form : ℕ
message_form = 3

abbrev pub message_bytes : Message → List ℕ
message_bytes m = message_in_form message_form m
