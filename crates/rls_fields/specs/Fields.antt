-- How the parts of a replica are spelled as a file, in the forms 2 to 4.
use Rattle.std.specs.Prelude.{ℕ, suc, zero, ◌+◌, ◌*◌, take, length, slice_get, List, [], ◌∷◌, ◌++◌, ◌==◌, filter, not, codes, Option, Some, None, if◌then◌else◌}
use Rattle.std.specs.List.{flat_map, concat}
use Rattle.rls_ops.specs.Spelling.{four_bytes, eight_bytes, signed_bytes, counted, run_bytes, runs_bytes, vector_bytes, name_bytes, text_bytes, op_bytes}
use Rattle.rls_model.specs.declared.parts.Stem.{Stem}
use Rattle.rls_model.specs.declared.parts.EpochPart.{EpochPart}
use Rattle.rls_model.specs.declared.parts.TextRun.{TextRun}
use Rattle.rls_model.specs.declared.parts.Parts.{Parts}
pub use Rattle.rls_parts.specs.Own.{own_of}
use Rattle.rls_parts.specs.Rules.{Broken}

-- magic text, form, group, count of members and own number
abbrev pub head_bytes : ℕ → ℕ → ℕ → ℕ → List ℕ
head_bytes form group members me = concat (codes "RLSF" ∷ (form ∷ []) ∷ eight_bytes group ∷ four_bytes members ∷ four_bytes me ∷ [])

-- a stem without its author; form 2 has no low
abbrev pub stem_bytes : ℕ → Stem → List ℕ
stem_bytes form s = concat (four_bytes s.s0 ∷ (if form == 2 then [] else signed_bytes s.low) ∷ four_bytes s.next ∷ [])

-- the stems of all members but one
abbrev pub others_of : ℕ → List Stem → List Stem
others_of a stems = filter (λ s. not (s.author == a)) stems

-- for each of n members from this one on its stems
abbrev pub stems_bytes : ℕ → ℕ → ℕ → List Stem → List ℕ
stems_bytes form a zero stems = []
stems_bytes form a (suc n) stems = counted (stem_bytes form) (own_of a stems) ++ stems_bytes form (suc a) n (others_of a stems)

-- the topmost epoch has its name alone
abbrev pub rest_of_epoch : EpochPart → Option ℕ → List ℕ
rest_of_epoch e None = []
rest_of_epoch e (Some parent) = concat (four_bytes parent ∷ runs_bytes e.former ∷ [])

abbrev pub epoch_bytes : EpochPart → List ℕ
epoch_bytes e = concat (name_bytes e.name ∷ rest_of_epoch e e.parent ∷ [])

abbrev pub text_run_bytes : TextRun → List ℕ
text_run_bytes r = concat (run_bytes r.run ∷ text_bytes r.text ∷ [])

-- form 4 alone has the members that have left
unfoldable pub snapshot_bytes : ℕ → Parts → List ℕ
snapshot_bytes form p = concat
    (head_bytes form p.group p.members p.me ∷ vector_bytes p.vector ∷ flat_map vector_bytes p.rows
    ∷ (if form == 4 then counted four_bytes p.left else [])
    ∷ stems_bytes form 0 p.members p.stems ∷ counted epoch_bytes p.epochs ∷ counted text_run_bytes p.text
    ∷ counted op_bytes p.log ∷ counted op_bytes p.held ∷ [])

-- the form in which files are written
abbrev pub newest_form : ℕ
newest_form = 4

abbrev pub file_bytes : Parts → List ℕ
file_bytes p = snapshot_bytes newest_form p

-- ---- places

-- how many bytes a stem has
abbrev pub stem_size : ℕ → ℕ
stem_size form = if form == 2 then 8 else 12

-- how many bytes stand before each section of a file
abbrev pub rows_place : Parts → ℕ
rows_place p = length (head_bytes 0 p.group p.members p.me ++ vector_bytes p.vector)

abbrev pub stems_place : ℕ → Parts → ℕ
stems_place form p = rows_place p + length (flat_map vector_bytes p.rows) + (if form == 4 then length (counted four_bytes p.left) else 0)

abbrev pub epochs_place : ℕ → Parts → ℕ
epochs_place form p = stems_place form p + 4 * p.members + stem_size form * length p.stems

abbrev pub text_place : ℕ → Parts → ℕ
text_place form p = epochs_place form p + length (counted epoch_bytes p.epochs)

abbrev pub log_place : ℕ → Parts → ℕ
log_place form p = text_place form p + length (counted text_run_bytes p.text)

abbrev pub held_place : ℕ → Parts → ℕ
held_place form p = log_place form p + length (counted op_bytes p.log)

-- how many bytes stand before part i of these, after their number
abbrev pub bytes_before : {A : Type 0} → (A → List ℕ) → List A → ℕ → ℕ
bytes_before part xs i = 4 + length (flat_map part (take i xs))

-- a stem stands after the numbers of the members up to its own
abbrev pub stem_place : ℕ → Parts → ℕ → Option Stem → ℕ
stem_place form p i None = 0
stem_place form p i (Some s) = stems_place form p + 4 * (s.author + 1) + stem_size form * i

-- the place of the first byte of the entry or of the number field that the rule names
unfoldable pub place_of_broken : ℕ → Parts → Broken → ℕ
place_of_broken form p b =
    if b.rule == 1 then rows_place p + length (flat_map vector_bytes (take b.index p.rows))
    else if b.rule == 2 then stem_place form p b.index (slice_get p.stems b.index)
    else if b.rule == 3 then epochs_place form p + bytes_before epoch_bytes p.epochs b.index
    else if b.rule == 4 then text_place form p + bytes_before text_run_bytes p.text b.index
    else if b.rule == 5 then log_place form p + bytes_before op_bytes p.log b.index
    else if b.rule == 6 then log_place form p
    else if b.rule == 7 then epochs_place form p
    else held_place form p + bytes_before op_bytes p.held b.index
