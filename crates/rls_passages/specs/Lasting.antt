-- What lasts of what somebody inserted: its place among the characters that were shown when it came, and itself, unless somebody who has it
-- deletes it.
use Rattle.std.specs.Prelude.{◌≡◌, ℕ, ◌⊎◌, List, take, drop, None, IsTrue}
use Rattle.rls_ident.specs.Lists.{IsIn}
use Rattle.rls_model.specs.declared.edit.Edit.TheVariants as edits
use Rattle.rls_model.specs.Document.{Character, chars, chars_of, live}
use Rattle.rls_model.specs.Editing.{edit_fault, made}
use Rattle.rls_model.specs.History.{History, ops}
use Rattle.rls_model.specs.Laws.{IsAfter, IsGathered, IsPast, Shows, edited, precedes}
use Rattle.rls_model.specs.WellFormed.{IsEdit}
use Rattle.rls_model.specs.Worlds.{World, Happening}

-- Here M gives the order of all characters, and Had says of a member's number and a history that it is the member's, or was at some time.

-- Some member made a deletion that H has: at a history of its own, which showed these characters in the order of M, and the deletion was to take
-- the character c out of them.
pub record IsDeletedIn (M : History) (Had : ℕ → History → Type 0) (H : History) (c : Character) : Type 0 where
  pub before : History
  pub at : ℕ
  pub count : ℕ
  pub shown : List Character
  pub fits : edit_fault before (edits.Delete at count) ≡ None
  pub author : let d = made before (edits.Delete at count) in Had d.author (edited before (edits.Delete at count))
  pub known : IsIn (made before (edits.Delete at count)) (ops H)
  pub shows : Shows (precedes M) before shown
  pub among : IsIn c (take count (drop at shown))

-- a character is shown in each history that has its insertion, unless that history has such a deletion too
abbrev pub StayUnlessDeleted : History → (ℕ → History → Type 0) → Type 0
StayUnlessDeleted M Had = (i : ℕ) (H : History) (c : Character) → Had i H → IsIn c (chars H) → IsIn c (live H) ⊎ IsDeletedIn M Had H c

-- what an edit inserted stands behind all that its member showed before that place, and before all that it showed behind it
abbrev pub StandBetween : History → (ℕ → History → Type 0) → Type 0
StandBetween M Had = (i at : ℕ) (text : List ℕ) (H : History) (cs : List Character) (c : Character) → let edit = edits.Insert at text in let o = made H edit in
    IsEdit edit → edit_fault H edit ≡ None → Had i (edited H edit) → Shows (precedes M) H cs → IsIn c (chars_of o o.body) →
    ((a : Character) → IsIn a (take at cs) → IsTrue (precedes M a c)) × ((b : Character) → IsIn b (drop at cs) → IsTrue (precedes M c b))

-- so it is in a world, whatever its members do and whatever messages are lost, repeated or reordered
abbrev pub WorldsLast : Type 0
WorldsLast = (w : World) (hs : List Happening) (M : History) → IsAfter w hs → IsGathered w M → StayUnlessDeleted M (IsPast w) × StandBetween M (IsPast w)
