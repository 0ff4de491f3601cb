-- What is told of edits beside their operations.
use Rattle.std.specs.Prelude.{◌≡◌, ℕ, ◌+◌, pos, ◌+ℤ◌, ◌-ℤ◌, ◌≤ℤ◌, List, [], ◌∷◌, ◌++◌, length, take, drop, ◌==◌, Option, Some, None, if◌then◌else◌}
use Rattle.rls_ident.specs.declared.limits.TheConstants.{GREATEST_NUMBER, OFFSETS_END}
use Rattle.rls_ident.specs.declared.tuple.Tuple.{Tuple}
use Rattle.rls_ident.specs.declared.tuple.Tuple.TheVariants.{At}
use Rattle.rls_ident.specs.Identifiers.{last_of, least_offset}
use Rattle.rls_ident.specs.Tuples.{offset_of}
use Rattle.rls_runs.specs.Runs.{runs_of}
use Rattle.rls_rename.specs.Renaming.{new_pos}
use Rattle.rls_ops.specs.Rows.{left}
use Rattle.rls_model.specs.declared.edit.Edit.{Edit}
use Rattle.rls_model.specs.declared.edit.Edit.TheVariants as edits
use Rattle.rls_model.specs.declared.edit.EditError.{EditError}
use Rattle.rls_model.specs.declared.edit.EditError.TheVariants as errors
use Rattle.rls_model.specs.declared.parts.Stem.{Stem}
use Rattle.rls_model.specs.Editing.{own_stem, range_fault, or_fault}
use Rattle.rls_seen.specs.Seen.{Seen, own_count, idents_over, text_over}

-- the member's numbers are spent
abbrev pub spent_fault : Seen → Option EditError
spent_fault s = if own_count s == GREATEST_NUMBER then Some errors.NumbersSpent else None

-- the first fault of an edit that is told before its operation is made
abbrev pub early_fault : Seen → Edit → Option EditError
early_fault s edit =
    if left s.acks s.acks.me then Some errors.Left else or_fault (range_fault (length (idents_over s)) edit) (spent_fault s)

-- a fault that a leave may have
abbrev pub IsLeaveFault : EditError → Type 0
IsLeaveFault errors.Left = Unit {0}
IsLeaveFault errors.NumbersSpent = Unit {0}
IsLeaveFault errors.OutOfMemory = Unit {0}
IsLeaveFault _ = ⊥

-- the place to which an insertion goes, or from which a deletion takes
abbrev pub edit_place : Edit → Option ℕ
edit_place (edits.Insert at cs) = Some at
edit_place (edits.Delete at n) = Some at
edit_place _ = None

-- the text after an edit
abbrev pub edited_text : Edit → List ℕ → List ℕ
edited_text (edits.Insert at cs) old = take at old ++ (cs ++ drop at old)
edited_text (edits.Delete at n) old = take at old ++ drop (at + n) old
edited_text edits.Rename old = old
edited_text edits.Leave old = old

-- the text is one run of n characters from this identifier on, and the next unused offset of its stem, which is the member's own, is the one after it
pub record IsOwnRun (s : Seen) (first : List Tuple) (n : ℕ) : Type 0 where
  pub run : runs_of (idents_over s) ≡ (first, n) ∷ []
  pub stem : (w : Stem) × (own_stem s.stems s.acks.me (last_of first) ≡ Some w) × (pos w.next ≡ offset_of (last_of first) +ℤ pos n)

-- n offsets from that of this identifier on are within the format's range
abbrev pub HasRoom : List Tuple → ℕ → Type 0
HasRoom first n = (offset_of (last_of first) +ℤ pos n) ≤ℤ pos OFFSETS_END

-- the text is one run of n characters from this identifier on, whose offset is the least used one of its stem, which is the member's own
pub record IsOwnFront (s : Seen) (first : List Tuple) (n : ℕ) : Type 0 where
  pub run : runs_of (idents_over s) ≡ (first, n) ∷ []
  pub stem : (w : Stem) × (own_stem s.stems s.acks.me (last_of first) ≡ Some w) × (w.low ≡ offset_of (last_of first))

-- n offsets below that of this identifier are within the format's range
abbrev pub HasRoomBelow : List Tuple → ℕ → Type 0
HasRoomBelow first n = least_offset ≤ℤ (offset_of (last_of first) -ℤ pos n)

-- the text is such a run at both ends, from offset 0 on in the stem that the next own operation begins
abbrev pub IsOneRun : Seen → Seen → Type 0
IsOneRun old new =
    let first = At (new_pos (idents_over old)) old.acks.me (own_count old + 1) (pos 0) ∷ [] in IsOwnRun new first (length (text_over old)) × IsOwnFront new first (length (text_over old))
