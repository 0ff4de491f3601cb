-- The lines that tell what changed in the text.
use Rattle.std.specs.Prelude.{ℕ, ◌==◌, List, [], ◌∷◌, ◌++◌, codes, length, encode_utf8_all, if◌then◌else◌}
use Rattle.std.specs.Fmt.{decimal}
use Rattle.rls_report.specs.Texts.{line}
use Rattle.rls_changes.specs.declared.change.Change.{Change}
use Rattle.rls_changes.specs.declared.change.Change.TheVariants.{Insert, Delete}

-- a character as a script writes it: a line feed, a carriage return and a backslash by a backslash and a letter or a backslash
abbrev pub escaped_char : ℕ → List ℕ
escaped_char c = if c == 10 then 92 ∷ 110 ∷ [] else if c == 13 then 92 ∷ 114 ∷ [] else if c == 92 then 92 ∷ 92 ∷ [] else c ∷ []

abbrev pub escaped : List ℕ → List ℕ
escaped [] = []
escaped (c ∷ cs) = escaped_char c ++ escaped cs

-- a change as the line of a script that makes it
abbrev pub change_text : Change → List ℕ
change_text (Insert at cs) = line (codes "i " ∷ decimal at ∷ codes " " ∷ encode_utf8_all (escaped cs) ∷ [])
change_text (Delete at n) = line (codes "d " ∷ decimal at ∷ codes " " ∷ decimal n ∷ [])

abbrev pub change_lines : List Change → List ℕ
change_lines [] = []
change_lines (c ∷ cs) = change_text c ++ change_lines cs

-- after a line with their number
abbrev pub changes_text : List Change → List ℕ
changes_text cs = line (codes "changes " ∷ decimal (length cs) ∷ []) ++ change_lines cs
