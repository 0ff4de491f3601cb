-- Which histories and waiting operations a replica stands for.
-- Why: docs/DECISIONS.md, 45.
use Rattle.std.specs.Prelude.{◌≡◌, ℕ, ◌<◌, List, IsTrue}
use Rattle.rls_ident.specs.Vectors.{at_most}
use Rattle.rls_ops.specs.declared.op.Op.{Op}
use Rattle.rls_ops.specs.Rows.{AreRows, row_of, left, missing_for}
use Rattle.rls_model.specs.History.{History, group_of, me_of, members_of, count, has_left, ops, row}
use Rattle.rls_model.specs.Stability.{stable}
use Rattle.rls_model.specs.Stems.{stems}
use Rattle.rls_model.specs.Document.{export}
use Rattle.rls_model.specs.Laws.{KeepsRetained}
use Rattle.rls_model.specs.Legal.{IsLegal, IsSound}
use Rattle.rls_model.specs.Receiving.{State}
use Rattle.rls_seen.specs.Seen.{Seen}

-- the log has the operations that a vector doesn't cover, and the vector is at most the stable one
pub record IsLog (log : List Op) (H : History) (gone : List ℕ) : Type 0 where
  pub stable : IsTrue (at_most gone (stable H))
  pub kept : log ≡ missing_for gone (ops H)

-- the replica stands for the history and what waits beside it
pub record StandsFor (s : Seen) (t : State) : Type 0 where
  pub legal : IsLegal t.history
  pub sound : IsSound t
  pub group : s.group ≡ group_of t.history
  pub me : s.acks.me ≡ me_of t.history
  pub vector : s.acks.mine ≡ count t.history
  pub places : AreRows s.acks
  pub rows : (a : ℕ) → a < members_of t.history → row_of s.acks a ≡ row t.history a
  pub left : (a : ℕ) → a < members_of t.history → left s.acks a ≡ has_left t.history a
  pub stems : s.stems ≡ stems t.history
  -- a connected part of the history's epochs that holds the retained ones
  pub epochs : KeepsRetained t.history s.epochs
  pub text : s.text ≡ export t.history
  pub waiting : s.waiting ≡ t.waiting
  pub log : (gone : List ℕ) × IsLog s.log t.history gone
