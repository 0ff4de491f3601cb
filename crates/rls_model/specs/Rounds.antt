-- One round of messages: once nobody edits, members who have told one another what they know have all operations.
-- Why: docs/DECISIONS.md, 245.
use Rattle.std.specs.Prelude.{◌≡◌, ◌⊎◌, ◌↔◌, ℕ, List, [], ◌∷◌, ◌++◌, length, None, IsFalse}
use Rattle.rls_ident.specs.Lists.{IsIn}
use Rattle.rls_ops.specs.declared.op.Op.{Op}
use Rattle.rls_model.specs.declared.event.Event.{Event}
use Rattle.rls_model.specs.declared.event.Event.TheVariants as events
use Rattle.rls_model.specs.History.{ops, count, has_left, row}
use Rattle.rls_model.specs.Receiving.{State}
use Rattle.rls_model.specs.Stability.{unstable}
use Rattle.rls_model.specs.Taking.{missing_for, message_for}
use Rattle.rls_model.specs.WellFormed.{IsEvent}
use Rattle.rls_model.specs.Worlds.{World, Happening, whole, run, AreWhole}
use Rattle.rls_model.specs.Laws.{HaveSameOps, IsAfter, IsAt, ShowSame, WasMade}

-- nobody edits
abbrev pub IsQuiet : Event → Type 0
IsQuiet (events.Edit member edit) = ⊥
IsQuiet (events.Send from to) = Unit {0}
IsQuiet (events.Deliver message to) = Unit {0}
IsQuiet (events.Drop member) = Unit {0}

-- in none of these events, each of which is well formed and not cut short
abbrev pub AreQuiet : List Happening → Type 0
AreQuiet [] = Unit {0}
AreQuiet (k ∷ ks) = IsQuiet k.event × IsEvent k.event × (k.limit ≡ None) × AreQuiet ks

-- During these events a member makes a message for another one, whom it doesn't know to have left. The message isn't cut off at the
-- greatest size, and sooner or later the other one takes it.
pub record IsExchanged (w : World) (ks : List Happening) (from to : ℕ) : Type 0 where
  pub before : List Happening
  pub between : List Happening
  pub after : List Happening
  pub sender : State
  pub are : before ++ (whole (events.Send from to) ∷ (between ++ (whole (events.Deliver (length (run w before).sent) to) ∷ after))) ≡ ks
  pub at : IsAt (run w before) from sender
  pub stays : IsFalse (has_left sender.history to)
  pub all : (message_for sender.history to).ops ≡ missing_for (row sender.history to) (unstable sender.history)

-- the member knows the operation
abbrev pub Knows : World → ℕ → Op → Type 0
Knows w i o = (s : State) × IsAt w i s × IsIn o (ops s.history)

-- during these events the member is told the operation: one that knows it then makes such a message
abbrev pub IsTold : World → List Happening → ℕ → Op → Type 0
IsTold w ks to o = (from : ℕ) × (e : IsExchanged w ks from to) × IsIn o (ops (e.sender).history)

-- who knows each operation, or is told it, knows just all of them in the end, and nothing waits for its causes there
abbrev pub AllTold : Type 0
AllTold = (w : World) (hs ks : List Happening) (i : ℕ) (s : State) → IsAfter w hs → AreWhole hs → AreQuiet ks → ((o : Op) → WasMade w o → Knows w i o ⊎ IsTold w ks i o) → IsAt (run w ks) i s →
    ((o : Op) → IsIn o (ops s.history) ↔ WasMade w o) × (s.waiting ≡ [])

-- what anybody knows, one of these members knows
abbrev pub AreKnown : World → List ℕ → Type 0
AreKnown w us = (o : Op) → WasMade w o → (i : ℕ) × IsIn i us × Knows w i o

-- these members know and show the same, and nothing waits there
abbrev pub AreEqual : World → List ℕ → Type 0
AreEqual w us = (i j : ℕ) (s t : State) → IsIn i us → IsIn j us → IsAt w i s → IsAt w j t →
    (count s.history ≡ count t.history) × HaveSameOps s.history t.history × ShowSame s.history t.history × (s.waiting ≡ []) × (t.waiting ≡ [])

-- one round makes them equal, a message from each to each other one, in whatever order they come, and whatever was lost before or comes in
-- between
abbrev pub OneRound : Type 0
OneRound = (w : World) (hs ks : List Happening) (us : List ℕ) → IsAfter w hs → AreWhole hs → AreQuiet ks → AreKnown w us →
    ((i j : ℕ) → IsIn i us → IsIn j us → (i ≡ j → ⊥) → IsExchanged w ks i j) → AreEqual (run w ks) us

-- and so does a message from each to one member, and then one from this member to each
abbrev pub OneHub : Type 0
OneHub = (w : World) (hs ks ls : List Happening) (us : List ℕ) (hub : ℕ) → IsAfter w hs → AreWhole hs → AreQuiet ks → AreQuiet ls → AreKnown w us →
    ((i : ℕ) → IsIn i us → (i ≡ hub → ⊥) → IsExchanged w ks i hub × IsExchanged (run w ks) ls hub i) → AreEqual (run (run w ks) ls) us
