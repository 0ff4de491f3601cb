-- How many bytes the fields of a snapshot have.
use Rattle.std.specs.Prelude.{ℕ, ◌+◌, ◌*◌, List, ◌==◌, length, sum_by, Option, Some, None, if◌then◌else◌}
use Rattle.std.specs.Option.{option_map}
use Rattle.rls_ident.specs.declared.tuple.Tuple.{Tuple}
use Rattle.rls_ops.specs.Sizes.{name_size, run_size, runs_size, char_size, op_size}
use Rattle.rls_model.specs.declared.parts.EpochPart.{EpochPart}
use Rattle.rls_model.specs.declared.parts.TextRun.{TextRun}
use Rattle.rls_model.specs.declared.parts.Stem.{Stem}
use Rattle.rls_model.specs.declared.parts.Parts.{Parts}
use Rattle.rls_fields.specs.Fields.{stem_size, stems_bytes}

-- a row
abbrev pub row_size : List ℕ → ℕ
row_size row = 4 * length row

-- the members that have left, which form 4 alone has
abbrev pub left_size : ℕ → List ℕ → ℕ
left_size form left = if form == 4 then 4 + 4 * length left else 0

-- the topmost epoch has its name alone
abbrev pub rest_size : EpochPart → Option ℕ → ℕ
rest_size e None = 0
rest_size e (Some parent) = 4 + runs_size e.former

abbrev pub epoch_size : EpochPart → ℕ
epoch_size e = name_size e.name + rest_size e e.parent

-- the place of its parent and its former identifiers, if it has a parent
abbrev pub opening : EpochPart → Option (ℕ × List (List Tuple))
opening e = option_map (λ k. (k, e.former)) e.parent

-- a run with its characters
abbrev pub text_run_size : TextRun → ℕ
text_run_size r = run_size r.run + (4 + sum_by char_size r.text)

-- ---- how many bytes stand before each section

abbrev pub before_rows : Parts → ℕ
before_rows p = 21 + 4 * length p.vector

abbrev pub before_stems : ℕ → Parts → ℕ
before_stems form p = before_rows p + sum_by row_size p.rows + left_size form p.left

abbrev pub before_epochs : ℕ → Parts → ℕ
before_epochs form p = before_stems form p + 4 * p.members + stem_size form * length p.stems

abbrev pub before_text : ℕ → Parts → ℕ
before_text form p = before_epochs form p + 4 + sum_by epoch_size p.epochs

abbrev pub before_log : ℕ → Parts → ℕ
before_log form p = before_text form p + 4 + sum_by text_run_size p.text

abbrev pub before_held : ℕ → Parts → ℕ
before_held form p = before_log form p + 4 + sum_by op_size p.log

-- a whole snapshot
unfoldable pub snapshot_size : ℕ → Parts → ℕ
snapshot_size form p = before_held form p + 4 + sum_by op_size p.held

-- a whole snapshot of form 4, whatever authors its stems have
abbrev pub written_size : Parts → ℕ
written_size p =
    before_rows p + sum_by row_size p.rows + left_size 4 p.left + length (stems_bytes 4 0 p.members p.stems)
    + 4 + sum_by epoch_size p.epochs + 4 + sum_by text_run_size p.text + 4 + sum_by op_size p.log + 4 + sum_by op_size p.held

-- how many bytes stand before the stem at this place, if there is one
abbrev pub stem_before : ℕ → Parts → ℕ → Option Stem → ℕ
stem_before form p i None = 0
stem_before form p i (Some s) = before_stems form p + 4 * (s.author + 1) + stem_size form * i
