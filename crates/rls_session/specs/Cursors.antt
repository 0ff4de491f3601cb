-- The cursors of a session, by their numbers.
use Rattle.std.specs.Prelude.{◌≡◌, ℕ, zero, suc, ◌==◌, false, List, [], ◌∷◌, Option, Some, None, if◌then◌else◌}
use Rattle.rls_seen.specs.Seen.{Seen}
use Rattle.rls_anchor.specs.declared.anchor.Anchor.{Anchor}
use Rattle.rls_anchor.specs.declared.anchor.Anchor.TheVariants.{Beginning}
use Rattle.rls_anchor.specs.AnchorLaws.{IsAnchored}
use Rattle.rls_session.specs.declared.cursors.Cursor.{Cursor}
use Rattle.rls_session.specs.declared.orders.Side.{Side}
use Rattle.rls_session.specs.declared.orders.Side.TheVariants.{Before, After}

-- number 0 is at the beginning until it is put
abbrev pub unput : ℕ → Option Anchor
unput zero = Some Beginning
unput (suc n) = None

-- the cursor with this number, if it was put
abbrev pub cursor_in : List Cursor → ℕ → Option Anchor
cursor_in [] n = unput n
cursor_in (c ∷ cs) n = if c.number == n then Some c.anchor else cursor_in cs n

-- this one in place of the one with its number, or after the others
abbrev pub cursors_with : List Cursor → ℕ → Anchor → List Cursor
cursors_with [] n a = record { number = n; anchor = a } ∷ []
cursors_with (c ∷ cs) n a = if c.number == n then record { number = n; anchor = a } ∷ cs else c ∷ cursors_with cs n a

-- a cursor taken elsewhere
abbrev pub moved : (Anchor → Anchor) → Cursor → Cursor
moved f c = record { number = c.number; anchor = f c.anchor }

-- the one with this number, if it was put, taken elsewhere
abbrev pub cursors_moved : (Anchor → Anchor) → List Cursor → ℕ → List Cursor
cursors_moved f [] n = []
cursors_moved f (c ∷ cs) n = if c.number == n then moved f c ∷ cs else c ∷ cursors_moved f cs n

-- the anchor of the character on this side, of those of the one before and of the one after
abbrev pub on_side : Side → Anchor → Anchor → Anchor
on_side Before of_before of_after = of_before
on_side After of_before of_after = of_after

-- ---- of calls

-- none of these has the number
abbrev pub AreOthers : List Cursor → ℕ → Type 0
AreOthers [] n = Unit {0}
AreOthers (c ∷ cs) n = ((c.number == n) ≡ false) × AreOthers cs n

-- the first one with the number is at this place
abbrev pub IsAt : List Cursor → ℕ → ℕ → Type 0
IsAt [] n i = ⊥
IsAt (c ∷ cs) n zero = c.number ≡ n
IsAt (c ∷ cs) n (suc i) = ((c.number == n) ≡ false) × IsAt cs n i

-- the epoch of each is kept
abbrev pub AreAnchored : Seen → List Cursor → Type 0
AreAnchored s [] = Unit {0}
AreAnchored s (c ∷ cs) = IsAnchored s c.anchor × AreAnchored s cs
