-- What goes wrong in a group where a premise of its law doesn't hold, in worked examples of two members of group 7.
use Rattle.std.specs.Prelude.{◌≡◌, ℕ, List, [], codes, length}
use Rattle.rls_model.specs.Document.{text}
use Rattle.rls_model.specs.History.{count}
use Rattle.rls_model.specs.Receiving.{State}
use Rattle.rls_model.specs.Taking.{Progress, message_for, take_message}
use Rattle.rls_top.specs.Headline.{new_state}
use Rattle.rls_session.specs.Sessions.{by_history}
use Rattle.rls_groups.specs.Events.{empty_desk, session_at}

-- the members at first
abbrev pub first : State
first = new_state 7 0 2

abbrev pub second : State
second = new_state 7 1 2

-- the state that a session over this input stores, if it comes so far
abbrev pub after : State → List ℕ → State
after t input = ((session_at by_history t empty_desk input).state).state

-- a message of one for the other is taken
abbrev pub told : State → State → Progress
told from t = take_message t (message_for from.history 1)

-- a session's message is handed on, and the session stores nothing. The next one begins where it began, and gives the number again: then
-- the members have accepted as many operations, nothing was refused, and they show different texts
abbrev pub UnsavedHandedOn : Type 0
UnsavedHandedOn = let lost = after first (codes "i 0 a\n") in let kept = after first (codes "i 0 b\n") in let other = told kept (told lost second).state in
    (count (other.state).history ≡ count kept.history) × (other.counts.refused ≡ []) × (text (other.state).history ≡ codes "a") × (text kept.history ≡ codes "b")

-- a file is put back from a copy, and edited on: the other member passes over the operation whose number it knows, and refuses one that
-- deletes what that one inserted
abbrev pub PutBack : Type 0
PutBack = let old = after first (codes "i 0 a\n") in let again = after first (codes "i 0 bc\nd 1 1\n") in length (told again (told old second).state).counts.refused ≡ 1

-- two replicas have one number: each passes over what the other wrote, so they have accepted as many operations, and show different texts
abbrev pub UsedTwice : Type 0
UsedTwice = let one = after first (codes "i 0 a\n") in let two = told one (after first (codes "i 0 b\n")) in
    (count (two.state).history ≡ count one.history) × (two.counts.refused ≡ []) × (text (two.state).history ≡ codes "b") × (text one.history ≡ codes "a")
