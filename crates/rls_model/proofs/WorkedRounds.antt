-- Rounds of messages that are worked out.
use Rattle.std.specs.Prelude.{◌≡◌, ℕ, List, [], ◌∷◌, ◌++◌, refl, Some, None, Option, codes, slice_get, option_map}
use Rattle.rls_model.specs.declared.edit.Edit.TheVariants.{Insert, Rename, Leave}
use Rattle.rls_model.specs.History.{Fresh}
use Rattle.rls_model.specs.Document.{text}
use Rattle.rls_model.specs.Receiving.{State}
use Rattle.rls_model.specs.Worlds.{World, Happening, run, empty_world}
use Rattle.rls_model.specs.Rounds.{IsExchanged}
use Rattle.rls_model.specs.Computing.{computing}
use Rattle.rls_model.proofs.WorkedWorlds.{edits, sends, comes, shared}

abbrev text_at : World → ℕ → Option (List ℕ)
text_at w i = option_map (λ s. text s.history) (slice_get w.states i)

abbrev state_or : Option State → State
state_or None = record { history = Fresh 0 0 0; waiting = [] }
state_or (Some s) = s

-- ---- two members, each with an operation of its own

abbrev apart : World
apart = run (empty_world 7 2) (shared ++ edits 0 Rename ∷ edits 1 (Insert 2 (codes "x")) ∷ [])

-- a message from each to the other one, both made before one is taken
abbrev round : List Happening
round = sends 0 1 ∷ sends 1 0 ∷ comes 2 0 ∷ comes 1 1 ∷ []

-- both exchanges are what the law asks for
first_exchanged : IsExchanged apart round 0 1
unfolding computing
first_exchanged = record { before = []; between = sends 1 0 ∷ comes 2 0 ∷ []; after = []; sender = state_or (slice_get apart.states 0); are = refl; at = refl; stays = refl; all = refl }

second_exchanged : IsExchanged apart round 1 0
unfolding computing
second_exchanged = record {
  before = sends 0 1 ∷ [];
  between = [];
  after = comes 1 1 ∷ [];
  sender = state_or (slice_get apart.states 1);
  are = refl;
  at = refl;
  stays = refl;
  all = refl;
}

round_shows : (text_at (run apart round) 0 ≡ Some (codes "hexllo")) × (text_at (run apart round) 1 ≡ Some (codes "hexllo"))
unfolding computing
round_shows = (refl, refl)

-- ---- a member that has left

-- the third one leaves, the second one has the first one's text, and both know of the leave and of each other
abbrev after_leave : World
after_leave = run (empty_world 7 3)
    (edits 0 (Insert 0 (codes "a")) ∷ edits 2 Leave ∷ sends 2 0 ∷ comes 0 0 ∷ sends 0 1 ∷ comes 1 1 ∷ sends 1 0 ∷ comes 2 0 ∷ [])

abbrev round_of_three : List Happening
round_of_three = sends 0 1 ∷ sends 0 2 ∷ sends 1 0 ∷ sends 1 2 ∷ sends 2 0 ∷ sends 2 1 ∷ comes 3 1 ∷ comes 4 2 ∷ comes 5 0 ∷ comes 6 2 ∷ comes 7 0 ∷ comes 8 1 ∷ []

-- so the text is stable without the third one, and no message has it
left_behind : (text_at (run after_leave round_of_three) 0 ≡ Some (codes "a")) × (text_at (run after_leave round_of_three) 1 ≡ Some (codes "a")) × (text_at (run after_leave round_of_three) 2 ≡ Some [])
unfolding computing
left_behind = (refl, refl, refl)
