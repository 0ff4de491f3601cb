-- What a session answers.
use Rattle.std.specs.Prelude.{ℕ, Bool, true, false, List, [], ◌∷◌, ◌++◌, codes, length, Option, Some, None}
use Rattle.std.specs.Fmt.{decimal}
use Rattle.rls_report.specs.Texts.{line}
use Rattle.rls_report.specs.Failures.{error_line, fault_text}
use Rattle.rls_anchor.specs.declared.anchor.Anchor.{Anchor}
use Rattle.rls_places.specs.Words.{place_word}
use Rattle.rls_report.specs.declared.failures.LineFault.{LineFault}
use Rattle.rls_report.specs.declared.failures.CommandError.{CommandError}

-- the edit with this number was accepted
abbrev pub ok_text : ℕ → List ℕ
ok_text seq = line (codes "ok " ∷ decimal seq ∷ [])

-- how many edits took one back, and how many characters they inserted or deleted
abbrev pub undone_text : ℕ → ℕ → List ℕ
undone_text edits chars = line (codes "undone " ∷ decimal edits ∷ codes " " ∷ decimal chars ∷ [])

-- how many steps were taken back, or done again
abbrev pub back_text : ℕ → List ℕ
back_text steps = line (codes "back " ∷ decimal steps ∷ [])

abbrev pub again_text : ℕ → List ℕ
again_text steps = line (codes "again " ∷ decimal steps ∷ [])

-- how many groups can be taken back, and how many can be done again
abbrev pub groups_text : ℕ → ℕ → List ℕ
groups_text back again = line (codes "groups " ∷ decimal back ∷ codes " " ∷ decimal again ∷ [])

abbrev pub nothing_text : List ℕ
nothing_text = codes "no nothing\n"

abbrev pub cursor_text : ℕ → List ℕ
cursor_text at = line (codes "cursor " ∷ decimal at ∷ [])

-- no cursor was put with this number
abbrev pub no_cursor_text : ℕ → List ℕ
no_cursor_text n = line (codes "no cursor " ∷ decimal n ∷ [])

-- a place as a word
abbrev pub anchor_text : Anchor → List ℕ
anchor_text place = line (codes "anchor " ∷ place_word place ∷ [])

-- where a place is, if its epoch is retained
abbrev pub located_text : Option ℕ → List ℕ
located_text None = codes "no epoch\n"
located_text (Some at) = cursor_text at

-- whether changes are told from now on
abbrev pub telling_text : Bool → List ℕ
telling_text false = codes "telling 0\n"
telling_text true = codes "telling 1\n"

-- these bytes, after a line with their number
abbrev pub bytes_text : List ℕ → List ℕ → List ℕ
bytes_text word bytes = line (word ∷ codes " " ∷ decimal (length bytes) ∷ []) ++ (bytes ++ codes "\n")

-- refused for the fault of an edit
abbrev pub refused_text : LineFault → List ℕ
refused_text fault = line (codes "no " ∷ fault_text fault ∷ [])

-- refused for this error
abbrev pub failed_text : CommandError → List ℕ
failed_text error = codes "no " ++ error_line error

abbrev pub bad_text : List ℕ
bad_text = codes "bad\n"

-- a version of the protocol
abbrev pub version_text : ℕ → List ℕ
version_text n = line (codes "version " ∷ decimal n ∷ [])

-- the change was accepted
abbrev pub noted_text : List ℕ
noted_text = codes "ok\n"

-- the file was stored
abbrev pub saved_text : List ℕ
saved_text = codes "saved\n"
