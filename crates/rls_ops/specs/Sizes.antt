-- How many bytes the parts of a message have.
use Rattle.std.specs.Prelude.{ℕ, ◌+◌, ◌*◌, List, [], ◌∷◌, length, sum_by, nat_lt, nat_le, if◌then◌else◌}
use Rattle.rls_ident.specs.declared.tuple.Tuple.{Tuple}
use Rattle.rls_ident.specs.declared.tuple.Tuple.TheVariants.{At}
use Rattle.rls_ident.specs.declared.epoch_name.EpochName.{EpochName}
use Rattle.rls_ident.specs.declared.epoch_name.EpochName.TheVariants.{Origin, Of}
use Rattle.rls_runs.specs.Runs.{runs_of}
use Rattle.rls_ops.specs.declared.op.Op.{Op}
use Rattle.rls_ops.specs.declared.op.Body.{Body}
use Rattle.rls_ops.specs.declared.op.Body.TheVariants.{Insert, Delete, Rename, Leave}
use Rattle.rls_ops.specs.declared.message.Message.{Message}

-- a byte for the kind, and four numbers of four bytes in an `At`
abbrev pub tuple_size : Tuple → ℕ
tuple_size (At p r s o) = 17
tuple_size _ = 1

-- the number of tuples and the tuples
abbrev pub ident_size : List Tuple → ℕ
ident_size x = 4 + sum_by tuple_size x

-- the first identifier and the length
abbrev pub run_size : List Tuple × ℕ → ℕ
run_size r = ident_size r.0 + 4

-- the number of runs and the runs
abbrev pub runs_size : List (List Tuple) → ℕ
runs_size xs = 4 + sum_by run_size (runs_of xs)

-- a character in UTF-8
abbrev pub char_size : ℕ → ℕ
char_size c = if nat_lt c 128 then 1 else if nat_lt c 2048 then 2 else if nat_lt c 65536 then 3 else 4

-- a byte for the kind, and two numbers in `Of`
abbrev pub name_size : EpochName → ℕ
name_size Origin = 1
name_size (Of r s) = 9

-- the body after its kind
abbrev pub body_size : Body → ℕ
body_size (Insert first text) = ident_size first + 4 + sum_by char_size text
body_size (Delete targets) = runs_size targets
body_size (Rename former) = runs_size former
body_size Leave = 0

-- author and number, the context, the epoch, the body's kind and the body
abbrev pub op_size : Op → ℕ
op_size o = 8 + 4 * length o.context + name_size o.epoch + 1 + body_size o.body

-- the most bytes that the parts of an operation may have, by their numbers alone: 17 for each tuple and 4 for each character
abbrev pub most_ident : List Tuple → ℕ
most_ident x = 4 + 17 * length x

abbrev pub most_run : List Tuple × ℕ → ℕ
most_run r = most_ident r.0 + 4

abbrev pub most_body : Body → ℕ
most_body (Insert first text) = most_ident first + 4 + 4 * length text
most_body (Delete targets) = 4 + sum_by most_run (runs_of targets)
most_body (Rename former) = 4 + sum_by most_run (runs_of former)
most_body Leave = 0

abbrev pub op_most : Op → ℕ
op_most o = 18 + 4 * length o.context + most_body o.body

-- a message but for its operations: magic text, form, group, members, sender, vector and the number of operations
abbrev pub head_size : ℕ → ℕ
head_size members = 25 + 4 * members

-- a message
abbrev pub message_size : Message → ℕ
message_size m = head_size (length m.vector) + sum_by op_size m.ops

-- the longest front of the list whose bytes, with those used already, are within the limit
abbrev pub front_within : ℕ → ℕ → List Op → List Op
front_within used limit [] = []
front_within used limit (o ∷ os) =
    if nat_le (used + op_size o) limit then o ∷ front_within (used + op_size o) limit os else []
