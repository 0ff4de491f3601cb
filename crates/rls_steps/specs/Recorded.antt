-- What is recorded of a member's steps.
use Rattle.std.specs.Prelude.{◌≡◌, ℕ, Bool, false, List, [], map, length, reverse, if◌then◌else◌}
use Rattle.rls_ident.specs.declared.epoch_name.EpochName.{EpochName}
use Rattle.rls_ident.specs.declared.epoch_name.EpochName.TheVariants.{Origin}
use Rattle.rls_ident.specs.EpochNames.{name_eq}
use Rattle.rls_model.specs.declared.edit.Edit.{Edit}
use Rattle.rls_model.specs.declared.edit.Edit.TheVariants as edits
use Rattle.rls_seen.specs.Over.{placed_over}
use Rattle.rls_seen.specs.Seen.{Seen, greatest_over}
use Rattle.rls_steps.specs.declared.piece.Step.{Step}
use Rattle.rls_steps.specs.Marks.{Piece}
use Rattle.rls_steps.specs.Labelled.{Names, Labelled, IsRenamed}
use Rattle.rls_steps.specs.Courses.{Steps, Insertion, moved, Copies, Shows}
use Rattle.rls_steps.specs.Parts.{deleted}

-- a replica, the next label, and identifiers of the greatest epoch with their labels, the oldest first
abbrev pub held_by : Seen → ℕ → Names → Labelled
held_by s next names = record { seen = s; next = next; names = reverse names }

-- the pieces of these steps, of which the last comes first
abbrev pub pieces_of : List Step → List Piece
pieces_of xs = map (λ (x : Step). x.piece) (reverse xs)

-- these pieces as steps of a group, the last of them first
abbrev pub steps_of : ℕ → List Piece → List Step
steps_of g ps = map (λ (p : Piece). record { group = g; piece = p }) (reverse ps)

pub record Recorded : Type 0 where
  -- the epoch of the names' identifiers
  pub epoch : EpochName
  -- the next label
  pub next : ℕ
  -- the oldest first
  pub names : Names
  -- what can be taken back, the oldest first
  pub past : List Step
  -- what can be done again, the oldest first
  pub future : List Step
  -- the number of the group that is open
  pub group : ℕ
  -- it had more than the bounds allow, and was forgotten. What is still recorded of it is forgotten, too
  pub overfull : Bool
  -- how many names there were after the last sweep
  pub after_sweep : ℕ

-- identifiers of an epoch in the greatest one
abbrev pub names_over : Seen → EpochName → Names → Names
names_over s e names = if name_eq e (greatest_over s) then names else map (λ n. (placed_over s e n.0, n.1)) names

-- at the greatest epoch
abbrev pub settled : Seen → Recorded → Recorded
settled s r = record {
  epoch = greatest_over s;
  next = r.next;
  names = names_over s r.epoch r.names;
  past = r.past;
  future = r.future;
  group = r.group;
  overfull = r.overfull;
  after_sweep = r.after_sweep;
}

-- at a replica
abbrev pub steps_over : Seen → Recorded → Steps
steps_over s r = record { held = held_by s r.next (names_over s r.epoch r.names); past = pieces_of r.past; future = pieces_of r.future }

-- nothing is recorded
abbrev pub unused : Recorded
unused = record { epoch = Origin; next = 0; names = []; past = []; future = []; group = 0; overfull = false; after_sweep = 0 }

-- the edit is an insertion of n characters
abbrev pub IsInsertion : Edit → ℕ → Type 0
IsInsertion (edits.Insert at cs) n = n ≡ length cs
IsInsertion (edits.Delete at k) n = ⊥
IsInsertion edits.Rename n = ⊥
IsInsertion edits.Leave n = ⊥

-- what an edit leaves: an insertion and a deletion are steps, and nothing else is
abbrev pub IsRecorded : Edit → Seen → Recorded → Seen → Recorded → Type 0
IsRecorded (edits.Insert at cs) s r n q = steps_over n q ≡ moved (steps_over s r) (Insertion at cs)
IsRecorded (edits.Delete at k) s r n q = steps_over n q ≡ deleted (steps_over s r) at k
IsRecorded edits.Rename s r n q = q ≡ r
IsRecorded edits.Leave s r n q = q ≡ r

-- if the replica's characters only get other identifiers, as by renames of anyone, what is recorded leads to the same texts
abbrev pub RenamingShows : Type 0
RenamingShows = (s n : Seen) (r : Recorded) (c : Copies) → r.epoch ≡ greatest_over s → Shows (steps_over s r) c → IsRenamed s n → Shows (steps_over n r) c
