-- What is dropped, and the numbers and parts of a replica, read over what it consists of.
use Rattle.std.specs.Prelude.{ℕ, suc, List, length, sum_by}
use Rattle.rls_rename.specs.Keeping.{kept_part}
use Rattle.rls_ops.specs.Rows.{AcksSeen, row_of, left}
use Rattle.rls_model.specs.declared.counts.Counts.{Counts}
use Rattle.rls_model.specs.declared.parts.Parts.{Parts}
use Rattle.rls_model.specs.PartLists.{epoch_parts}
unfoldable pub use Rattle.rls_seen.specs.Known.{marked_over, needed_over, retained_over}
use Rattle.rls_seen.specs.View.{plain}
use Rattle.rls_model.specs.Rules as rules
use Rattle.rls_seen.specs.Seen.{Seen, members, stable_over, unstable_over}

-- ---- dropping

-- the stable operations and the epochs that aren't retained are dropped
unfoldable pub dropped : Seen → Seen
dropped s = record {
  group = s.group;
  acks = s.acks;
  stems = s.stems;
  epochs = kept_part s.epochs (stable_over s) (marked_over s);
  text = s.text;
  waiting = s.waiting;
  log = unstable_over s;
}

-- ---- numbers

-- characters, runs, waiting operations, unstable operations, retained epochs and the former identifiers below the topmost of them
unfoldable pub counts_over : Seen → Counts
counts_over s = rules.counts (plain s) s.waiting

-- how many operations are kept
abbrev pub kept_operations : Seen → ℕ
kept_operations s = length s.log

-- how many epochs are kept, the topmost among them
abbrev pub kept_epochs : Seen → ℕ
kept_epochs s = suc (length s.epochs.nodes)

-- how many former identifiers are kept
abbrev pub kept_former : Seen → ℕ
kept_former s = sum_by (λ n. length n.renaming.former) s.epochs.nodes

-- ---- parts

-- the rows of the members below n, without the own one
abbrev pub other_rows : AcksSeen → ℕ → List (List ℕ)
other_rows acks = rules.other_rows acks.me (row_of acks)

-- the members below n that have left
abbrev pub left_below : AcksSeen → ℕ → List ℕ
left_below acks = rules.left_below (left acks)

-- the record of all parts
unfoldable pub parts_over : Seen → Parts
parts_over s = rules.parts (plain s) (other_rows s.acks (members s)) (epoch_parts s.epochs.nodes (retained_over s)) s.text s.waiting (left_below s.acks (members s))
