-- The replica that has given parts.
use Rattle.std.specs.Prelude.{ℕ, zero, suc, Bool, List, [], ◌∷◌, ◌++◌, replicate, zip}
use Rattle.rls_runs.specs.Entries.{Entries}
use Rattle.rls_runs.specs.Runs.{run_idents}
use Rattle.rls_ops.specs.Rows.{AcksSeen}
use Rattle.rls_model.specs.declared.parts.TextRun.{TextRun}
use Rattle.rls_model.specs.declared.parts.Parts.{Parts}
use Rattle.rls_seen.specs.Seen.{Seen}
use Rattle.rls_parts.specs.Reading.{has_member, epochs_of}

-- the rows with this one at the own place
abbrev pub with_own : ℕ → List ℕ → List (List ℕ) → List (List ℕ)
with_own zero own rows = own ∷ rows
with_own (suc i) own [] = []
with_own (suc i) own (row ∷ rows) = row ∷ with_own i own rows

-- for each member below n, whether it is one of these
abbrev pub marks_of : List ℕ → ℕ → List Bool
marks_of ms zero = []
marks_of ms (suc n) = marks_of ms n ++ has_member ms n ∷ []

-- the rows and who has left; the own place, which isn't used, counts nothing
abbrev pub acks_of : Parts → AcksSeen
acks_of p = record {
  me = p.me;
  mine = p.vector;
  others = with_own p.me (replicate p.members 0) p.rows;
  left = marks_of p.left p.members;
}

-- the characters of these runs, each with its identifier
abbrev pub entries_of : List TextRun → Entries
entries_of [] = []
entries_of (r ∷ rs) = zip (run_idents r.run.0 r.run.1) r.text ++ entries_of rs

-- the replica
unfoldable pub seen_of : Parts → Seen
seen_of p = record {
  group = p.group;
  acks = acks_of p;
  stems = p.stems;
  epochs = epochs_of p;
  text = entries_of p.text;
  waiting = p.held;
  log = p.log;
}
