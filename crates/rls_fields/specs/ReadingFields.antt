-- Reading the parts of a snapshot, field by field.
-- Why: docs/DECISIONS.md, 22.
use Rattle.std.specs.Prelude.{ℕ, ℤ, pos, zero, suc, Bool, true, ◌&&◌, List, [], ◌++◌, ◌-◌, ◌==◌, length, Option, Some, None, Ok, nat_lt, if◌then◌else◌}
use Rattle.std.specs.Int.{w32}
use Rattle.rls_ident.specs.declared.tuple.Tuple.{Tuple}
use Rattle.rls_ops.specs.declared.op.Op.{Op}
use Rattle.rls_codec.specs.Reading.{Read, ◌>>=◌, with_rule, number_at, signed_at, chain_at, many_at, counted_at, vector_at, name_at, runs_at, next_run_at, text_at, op_at}
use Rattle.rls_model.specs.declared.parts.Stem.{Stem}
use Rattle.rls_model.specs.declared.parts.EpochPart.{EpochPart}
use Rattle.rls_model.specs.declared.parts.TextRun.{TextRun}
use Rattle.rls_model.specs.declared.parts.Parts.{Parts}

-- the member is above the one before
abbrev pub is_above : Option ℕ → ℕ → Bool
is_above None n = true
is_above (Some before) n = nat_lt before n

abbrev pub left_at : ℕ → Option ℕ → List ℕ → Read ℕ
left_at members before bytes = with_rule (λ n. nat_lt n members && is_above before n) (number_at w32) bytes

-- form 4 alone has the members that have left
abbrev pub lefts_at : ℕ → ℕ → List ℕ → Read (List ℕ)
lefts_at form members bytes = if form == 4 then counted_at (left_at members) bytes else Ok ([], bytes)

-- form 2 has no low
abbrev pub low_at : ℕ → List ℕ → Read ℤ
low_at form bytes = if form == 2 then Ok (pos 0, bytes) else signed_at bytes

unfoldable pub stem_at : ℕ → ℕ → List ℕ → Read Stem
stem_at form author bytes = do
  s0 ← number_at w32 bytes
  low ← low_at form s0.1
  next ← number_at w32 low.1
  Ok (record { author = author; s0 = s0.0; low = low.0; next = next.0 }, next.1)

-- the stems of n members from this one on
unfoldable pub stems_at : ℕ → ℕ → ℕ → List ℕ → Read (List Stem)
stems_at form author zero bytes = Ok ([], bytes)
stems_at form author (suc n) bytes = do
  own ← counted_at (λ before. stem_at form author) bytes
  others ← stems_at form (suc author) n own.1
  Ok (own.0 ++ others.0, others.1)

-- the first epoch has its name alone; each other has the place of its parent and its former identifiers
unfoldable pub epoch_at : Option EpochPart → List ℕ → Read EpochPart
epoch_at None bytes = name_at bytes >>= λ name. Ok (record { name = name.0; parent = None; former = [] }, name.1)
epoch_at (Some before) bytes = do
  name ← name_at bytes
  parent ← number_at w32 name.1
  former ← runs_at parent.1
  Ok (record { name = name.0; parent = Some parent.0; former = former.0 }, former.1)

abbrev pub run_before : Option TextRun → Option (List Tuple × ℕ)
run_before None = None
run_before (Some r) = Some r.run

-- the text has as many characters as the run is long
unfoldable pub text_run_at : Option TextRun → List ℕ → Read TextRun
text_run_at before bytes = do
  run ← next_run_at (run_before before) bytes
  text ← with_rule (λ cs. length cs == run.0.1) text_at run.1
  Ok (record { run = run.0; text = text.0 }, text.1)

-- a number of operations, and the operations
abbrev pub ops_at : ℕ → List ℕ → Read (List Op)
ops_at members bytes = counted_at (λ before. op_at members) bytes

-- what follows the own number in the forms 2 to 4
unfoldable pub snapshot_at : ℕ → ℕ → ℕ → ℕ → List ℕ → Read Parts
snapshot_at form group members me bytes = do
  vector ← vector_at members bytes
  rows ← many_at (vector_at members) (members - 1) vector.1
  left ← lefts_at form members rows.1
  stems ← stems_at form 0 members left.1
  epoch_count ← with_rule (nat_lt 0) (number_at w32) stems.1
  epochs ← chain_at epoch_at None epoch_count.0 epoch_count.1
  text ← counted_at text_run_at epochs.1
  log ← ops_at members text.1
  held ← ops_at members log.1
  Ok (
    record {
      group = group;
      members = members;
      me = me;
      vector = vector.0;
      rows = rows.0;
      stems = stems.0;
      epochs = epochs.0;
      text = text.0;
      log = log.0;
      held = held.0;
      left = left.0;
    },
    held.1,
  )
