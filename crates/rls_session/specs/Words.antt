-- The word that begins a session.
use Rattle.std.specs.Prelude.{ℕ, Bool, false, List, [], ◌∷◌, bytes_eq, codes}

-- the words are this one alone
abbrev pub begins_session : List (List ℕ) → Bool
begins_session (word ∷ []) = bytes_eq word (codes "session")
begins_session _ = false
