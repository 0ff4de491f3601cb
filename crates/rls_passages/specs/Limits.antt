-- Worked examples of where passages end: histories in which a member writes in what another wrote apart.
use Rattle.std.specs.Prelude.{◌≡◌, pos, [], ◌∷◌, codes}
use Rattle.rls_ident.specs.declared.tuple.Tuple.TheVariants.{At}
use Rattle.rls_ident.specs.declared.epoch_name.EpochName.TheVariants.{Origin}
use Rattle.rls_ops.specs.declared.op.Op.{Op}
use Rattle.rls_ops.specs.declared.op.Body.TheVariants as body
use Rattle.rls_model.specs.declared.edit.Edit.TheVariants.{Insert, Delete, Rename}
use Rattle.rls_model.specs.History.{History, Fresh, Then, Accepted}
use Rattle.rls_model.specs.Document.{text}
use Rattle.rls_model.specs.Answers.{Applies}
use Rattle.rls_model.specs.Receiving.{receive}
use Rattle.rls_model.specs.Editing.{made}
use Rattle.rls_model.specs.Laws.{edited}

-- two members to whom nothing has happened
abbrev pub first_member : History
first_member = Fresh 7 0 2

abbrev pub second_member : History
second_member = Fresh 7 1 2

-- the history after one more operation
abbrev pub knowing : History → Op → History
knowing H o = Then H (Accepted o)

-- ---- an operation that no edit makes

-- the first member writes "ab"
abbrev pub wrote_ab : Op
wrote_ab = made first_member (Insert 0 (codes "ab"))

-- the second one, who has seen nothing, guesses the first character's identifier and writes "x" behind it
abbrev pub guessed : Op
guessed = record { author = 1; seq = 1; context = 0 ∷ 0 ∷ []; epoch = Origin; body = body.Insert (At 2147483647 0 1 (pos 0) ∷ (At 7 1 1 (pos 0) ∷ [])) (codes "x") }

-- it is accepted, and stands in the passage
abbrev pub GuessedBetween : Type 0
GuessedBetween =
    (receive (record { history = edited first_member (Insert 0 (codes "ab")); waiting = [] }) guessed ≡ Applies)
    × (text (knowing (edited first_member (Insert 0 (codes "ab"))) guessed) ≡ codes "axb")

-- ---- a correction

-- the first member writes "hex", deletes the "x" and writes "lo" behind the "e"
abbrev pub corrected : History
corrected = edited (edited (edited first_member (Insert 0 (codes "hex"))) (Delete 2 1)) (Insert 2 (codes "lo"))

-- apart from that the second one writes "BB", which comes to stand between, since the "lo" has a base of its own
abbrev pub CorrectionParts : Type 0
CorrectionParts = (text corrected ≡ codes "helo") × (text (knowing corrected (made second_member (Insert 0 (codes "BB")))) ≡ codes "heBBlo")

-- ---- a rename

-- the first member writes "12"
abbrev pub wrote_12 : Op
wrote_12 = made first_member (Insert 0 (codes "12"))

-- the second one knows it, writes "b" behind the "1", deletes the "2", renames, and writes "c" on behind the "b"
abbrev pub renamed : History
renamed = edited (edited (edited (edited (knowing second_member wrote_12) (Insert 1 (codes "b"))) (Delete 2 1)) Rename) (Insert 2 (codes "c"))

-- apart from that the first one writes "x" on behind its "2"
abbrev pub wrote_x : Op
wrote_x = made (edited first_member (Insert 0 (codes "12"))) (Insert 2 (codes "x"))

-- which comes to stand between the "b", that the rename took, and the "c"
abbrev pub RenameParts : Type 0
RenameParts = (text renamed ≡ codes "1bc") × (text (knowing renamed wrote_x) ≡ codes "1bxc") × (wrote_x.context ≡ 1 ∷ 0 ∷ [])

-- the three together
abbrev pub Limits : Type 0
Limits = GuessedBetween × CorrectionParts × RenameParts
