-- The parts of a replica, as a file holds them.
use Rattle.std.specs.Prelude.{ℕ, List}
use Rattle.rls_model.specs.declared.parts.Parts.{Parts}
use Rattle.rls_model.specs.History.{History, me_of, members_of, has_left, row}
use Rattle.rls_model.specs.Epochs.{epochs}
use Rattle.rls_model.specs.Document.{export}
pub use Rattle.rls_model.specs.PartLists.{node_of, top_part, epoch_part, epoch_parts, put_text, text_runs}
use Rattle.rls_model.specs.Retained.{retained}
use Rattle.rls_model.specs.Receiving.{State}
use Rattle.rls_model.specs.View.{plain_of}
use Rattle.rls_model.specs.Rules as rules

-- the rows of the members below n, without the own one
abbrev pub other_rows : History → ℕ → List (List ℕ)
other_rows H = rules.other_rows (me_of H) (row H)

-- the members below n that have left
abbrev pub left_below : History → ℕ → List ℕ
left_below H = rules.left_below (has_left H)

-- the record of all parts
unfoldable pub parts : State → Parts
parts s =
    rules.parts (plain_of s.history) (other_rows s.history (members_of s.history)) (epoch_parts (epochs s.history) (retained s.history)) (export s.history) s.waiting (left_below s.history (members_of s.history))
