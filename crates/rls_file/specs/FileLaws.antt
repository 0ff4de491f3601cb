-- The statements of the laws of files.
use Rattle.std.specs.Prelude.{◌≡◌, ℕ, List, ◌++◌, length, slice_get, option_map, ◌==◌, if◌then◌else◌, Option, None, Some, Ok}
use Rattle.rls_ops.specs.Spelling.{four_bytes, vector_bytes, op_bytes}
use Rattle.rls_ops.specs.WellFormed.{IsSmall}
use Rattle.rls_codec.specs.CodecLaws.{IsBytes}
use Rattle.rls_codec.specs.Spelled.{IsSpelled}
use Rattle.rls_model.specs.History.{Accepted, Acknowledged, History, Fresh, Then, members_of, me_of}
use Rattle.rls_model.specs.History.{count as count_in}
use Rattle.rls_model.specs.Legal.{IsLegal}
use Rattle.rls_model.specs.Receiving.{State}
use Rattle.rls_model.specs.declared.parts.Parts.{Parts}
use Rattle.rls_parts.specs.Rules.{Broken, broken}
use Rattle.rls_parts.specs.Given.{AreGiven}
use Rattle.rls_file.specs.Files.{Content, Journal, Snapshot, content_bytes, entries_of, journal_bytes, stem_bytes, epoch_bytes, text_run_bytes, snapshot_bytes, place_of_broken}
use Rattle.rls_file.specs.ReadingFiles.{file_of}
use Rattle.rls_file.specs.SpelledFiles.{FitWaiting, IsSpelledContent, IsSpelledSnapshot}

-- no rule of a snapshot's parts is broken
abbrev pub IsUnbroken : Content → Type 0
IsUnbroken (Journal s) = Unit {0}
IsUnbroken (Snapshot form p) = broken p ≡ None

-- the bytes are a file that says this
abbrev pub IsFile : List ℕ → Content → Type 0
IsFile bytes c = IsSpelledContent c × IsUnbroken c × (bytes ≡ content_bytes c)

-- a file is read
abbrev pub FilesAreRead : Type 0
FilesAreRead = (bytes : List ℕ) (c : Content) → IsFile bytes c → file_of bytes ≡ Ok c

-- what is read is a file
abbrev pub ReadAreFiles : Type 0
ReadAreFiles = (bytes : List ℕ) (c : Content) → IsBytes bytes → file_of bytes ≡ Ok c → IsFile bytes c

-- each accepted operation has a spelling
abbrev pub AreSpelled : History → Type 0
AreSpelled (Fresh group me members) = Unit {0}
AreSpelled (Then H (Accepted o)) = AreSpelled H × IsSpelled (members_of H) o
AreSpelled (Then H (Acknowledged a v)) = AreSpelled H

-- a legal history's journal is read back, with what waits
abbrev pub JournalsAreRead : Type 0
JournalsAreRead = (s : State) → IsLegal s.history → AreSpelled s.history → IsSmall (length (entries_of s.history))
    → FitWaiting (members_of s.history) (me_of s.history) (count_in s.history) s.waiting → file_of (journal_bytes s) ≡ Ok (Journal s)

-- ---- the places of broken rules

-- this part stands at this place
pub record StandsAt (bytes : List ℕ) (place : ℕ) (part : List ℕ) : Type 0 where
  pub front : List ℕ
  pub rest : List ℕ
  pub parts : bytes ≡ front ++ (part ++ rest)
  pub place_is : place ≡ length front

-- the bytes of the entry, or of the number field, that a rule names
abbrev pub named_by : ℕ → Parts → Broken → Option (List ℕ)
named_by form p b =
    if b.rule == 1 then option_map vector_bytes (slice_get p.rows b.index)
    else if b.rule == 2 then option_map (stem_bytes form) (slice_get p.stems b.index)
    else if b.rule == 3 then option_map epoch_bytes (slice_get p.epochs b.index)
    else if b.rule == 4 then option_map text_run_bytes (slice_get p.text b.index)
    else if b.rule == 5 then option_map op_bytes (slice_get p.log b.index)
    else if b.rule == 6 then Some (four_bytes (length p.log))
    else if b.rule == 7 then Some (four_bytes (length p.epochs))
    else option_map op_bytes (slice_get p.held b.index)

-- a broken rule has the place of what it names
abbrev pub PlacesOfBroken : Type 0
PlacesOfBroken = (form : ℕ) (p : Parts) (b : Broken) (named : List ℕ) → IsSpelledSnapshot form p → named_by form p b ≡ Some named
    → StandsAt (snapshot_bytes form p) (place_of_broken form p b) named

-- parts that a file spells may be tested
abbrev pub PartsAreGiven : Type 0
PartsAreGiven = (form : ℕ) (p : Parts) → IsSpelledSnapshot form p → AreGiven p
