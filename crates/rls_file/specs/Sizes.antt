-- How many bytes the file of a replica has.
use Rattle.std.specs.Prelude.{ℕ, ◌+◌, ◌*◌, length, sum_by}
use Rattle.rls_ops.specs.Sizes.{op_size}
use Rattle.rls_model.specs.Parts.{epoch_parts, text_runs}
use Rattle.rls_seen.specs.Seen.{Seen, members, unstable_over}
use Rattle.rls_seen.specs.Kept.{other_rows, left_below, retained_over}
use Rattle.rls_fields.specs.Fields.{stems_bytes}
use Rattle.rls_fields.specs.FieldSizes.{row_size, epoch_size, text_run_size}

-- the head, the rows and the members that have left
abbrev pub rows_size : Seen → ℕ
rows_size s = 21 + 4 * members s + sum_by row_size (other_rows s.acks (members s)) + (4 + 4 * length (left_below s.acks (members s)))

abbrev pub stems_size : Seen → ℕ
stems_size s = length (stems_bytes 4 0 (members s) s.stems)

abbrev pub epochs_size : Seen → ℕ
epochs_size s = sum_by epoch_size (epoch_parts s.epochs.nodes (retained_over s))

abbrev pub text_size : Seen → ℕ
text_size s = sum_by text_run_size (text_runs s.text)

abbrev pub log_size : Seen → ℕ
log_size s = sum_by op_size (unstable_over s)

abbrev pub held_size : Seen → ℕ
held_size s = sum_by op_size s.waiting

-- all, with the numbers in front of the lists
abbrev pub stored_size : Seen → ℕ
stored_size s = rows_size s + stems_size s + (4 + epochs_size s) + (4 + text_size s) + (4 + log_size s) + (4 + held_size s)
