-- Two sessions in a group of two members, in turn, in a worked example: they are events of the group.
use Rattle.std.specs.Fmt.{decimal}
use Rattle.std.specs.Prelude.{◌≡◌, ◌++◌, ℕ, true, List, [], ◌∷◌, codes, length, map}
use Rattle.rls_model.specs.Document.{text}
use Rattle.rls_groups.specs.Events.{Action, Begins, Event, Resumes}
use Rattle.rls_groups.specs.Lives.{AreOfGroup, begun, lived_all}
use Rattle.rls_groups.specs.Runs.{actions_of, actions_over}

abbrev pub does : ℕ → Action → Event
does i action = record { member = i; action = action; done = true }

-- the last of these messages
abbrev pub last_on : List ℕ → List (List ℕ) → List ℕ
last_on message [] = message
last_on message (other ∷ messages) = last_on other messages

-- what may be handed on last
abbrev pub handed_on : List Event → List ℕ
handed_on es = last_on [] (lived_all (begun 7 2) es).group.written

-- a session is given this message
abbrev pub takes : List ℕ → List ℕ
takes message = codes "m " ++ (decimal (length message) ++ (codes "\n" ++ message))

-- the first member writes, asks for a message and stores
abbrev pub opening : List ℕ
opening = codes "i 0 a\ns 1\nw\n"

-- the second one takes the message, writes on, asks for a message and stores
abbrev pub answering : List ℕ
answering = takes (handed_on (does 0 (Begins opening) ∷ [])) ++ codes "i 1 b\ns 0\nw\nq\n"

-- which the first one takes in the same session
abbrev pub closing : List ℕ
closing = takes (handed_on (does 0 (Begins opening) ∷ does 1 (Begins answering) ∷ [])) ++ codes "i 2 c\nw\nq\n"

-- both sessions, in turn: the first stores three times, the second twice
abbrev pub in_turn : List Event
in_turn = does 0 (Begins (opening ++ closing)) ∷ does 1 (Begins answering) ∷ does 0 (Resumes closing) ∷ does 1 (Resumes (codes "q\n")) ∷ does 0 (Resumes (codes "q\n")) ∷ []

-- these are events of the group, and all that the two sessions do; and this is what both members show then
abbrev pub SessionsAreEvents : Type 0
SessionsAreEvents = AreOfGroup (begun 7 2) in_turn × (actions_of 0 in_turn ≡ actions_over (opening ++ closing)) × (actions_of 1 in_turn ≡ actions_over answering)
    × (map (λ t. text t.history) (lived_all (begun 7 2) in_turn).states ≡ codes "abc" ∷ codes "ab" ∷ [])
