-- Passages: what a member writes on end, forward or backward, and where others may write in it.
use Rattle.std.specs.Prelude.{◌≡◌, ℕ, ◌≤◌, pos, negsuc, ◌+ℤ◌, ◌-ℤ◌, ◌≤ℤ◌, ◌⊎◌, List, [], ◌∷◌, ◌++◌, length, Some, None, slice_get, slice_index, IsTrue, IsFalse}
use Rattle.rls_ident.specs.declared.tuple.Tuple.{Tuple}
use Rattle.rls_ident.specs.declared.epoch_name.EpochName.{EpochName}
use Rattle.rls_ident.specs.declared.epoch_name.EpochName.TheVariants.{Origin}
use Rattle.rls_ident.specs.Lists.{IsIn}
use Rattle.rls_ident.specs.Tuples.{replica_of, seq_of, offset_of}
use Rattle.rls_ident.specs.Identifiers.{last_of, shifted, least_offset, greatest_offset}
use Rattle.rls_rename.specs.Tree.{is_kept}
use Rattle.rls_ops.specs.declared.op.Op.{Op}
use Rattle.rls_model.specs.declared.edit.Edit.{Edit}
use Rattle.rls_model.specs.declared.edit.Edit.TheVariants as edits
use Rattle.rls_model.specs.History.{History, ops, me_of}
use Rattle.rls_model.specs.Stems.{is_used, stems}
use Rattle.rls_model.specs.Epochs.{epochs, greatest}
use Rattle.rls_model.specs.Document.{Character, chars, chars_of, ident_in, idents}
use Rattle.rls_model.specs.WellFormed.{IsEdit}
use Rattle.rls_model.specs.Legal.{IsLegal}
use Rattle.rls_model.specs.Editing.{get_before, made, edit_fault}
use Rattle.rls_model.specs.Worlds.{World, Happening}
use Rattle.rls_model.specs.Laws.{edited, IsAfter, IsPast, IsPartOf, IsGathered, precedes}

-- ---- passages

-- the author had seen the insertion of the character before it made the operation
abbrev pub HasSeen : Op → Character → Type 0
HasSeen o c = c.seq ≤ slice_index o.context c.author

-- the character's identifier in this epoch ends as that of its birth does: no rename on the way took the character
abbrev pub KeepsLast : History → EpochName → Character → Type 0
KeepsLast M f c = last_of (ident_in M f c) ≡ last_of c.ident

-- d follows c on end: in some epoch of the history, on the way to which no rename took one of them, it has the base of c and the next offset
abbrev pub Follows : History → Character → Character → Type 0
Follows M d c = (f : EpochName) × IsTrue (is_kept Origin (epochs M) f) × KeepsLast M f c × KeepsLast M f d × (ident_in M f d ≡ shifted (pos 1) (ident_in M f c))

-- each character follows the one before it, as those of one insertion do, and as those do that a member writes on behind its own last
-- character, or before its own first one
abbrev pub IsPassage : History → List Character → Type 0
IsPassage M [] = Unit {0}
IsPassage M (c ∷ []) = Unit {0}
IsPassage M (c ∷ (d ∷ cs)) = Follows M d c × IsPassage M (d ∷ cs)

-- ---- histories of edits

-- an edit made the operation, at a legal history of which each operation stands in M
abbrev pub IsMadeIn : History → Op → Type 0
IsMadeIn M o = (H : History) × (edit : Edit) × IsLegal H × IsPartOf H M × IsEdit edit × (edit_fault H edit ≡ None) × (made H edit ≡ o)

-- edits made all operations of the history
abbrev pub AreMadeIn : History → Type 0
AreMadeIn M = (o : Op) → IsIn o (ops M) → IsMadeIn M o

-- the operation stands in M and inserted the character
abbrev pub IsInsertedBy : History → Op → Character → Type 0
IsInsertedBy M o c = IsIn o (ops M) × IsIn c (chars_of o o.body)

-- ---- the laws

-- who writes between two neighbours of a passage has seen one of them
abbrev pub SeenBetween : History → Type 0
SeenBetween M = (o : Op) (x c d : Character) → IsInsertedBy M o x → IsIn c (chars M) → IsIn d (chars M) → Follows M d c →
    IsTrue (precedes M c x) → IsTrue (precedes M x d) → HasSeen o c ⊎ HasSeen o d

-- whoever inserted one of cs had not seen one of ds when it did
abbrev pub AreUnseen : History → List Character → List Character → Type 0
AreUnseen M cs ds = (o : Op) (c d : Character) → IsIn c cs → IsIn d ds → IsInsertedBy M o c → HasSeen o d → ⊥

-- each of cs stands before each of ds
abbrev pub AllPrecede : History → List Character → List Character → Type 0
AllPrecede M cs ds = (c d : Character) → IsIn c cs → IsIn d ds → IsTrue (precedes M c d)

-- the characters were inserted and form a passage
abbrev pub IsPassageOf : History → List Character → Type 0
IsPassageOf M cs = IsPassage M cs × ((c : Character) → IsIn c cs → IsIn c (chars M))

-- passages that were written apart, and have no character in common, stand apart: one of them wholly before the other
abbrev pub PassagesApart : History → Type 0
PassagesApart M = (cs ds : List Character) → IsPassageOf M cs → IsPassageOf M ds → AreUnseen M cs ds → AreUnseen M ds cs →
    ((c : Character) → IsIn c cs → IsIn c ds → ⊥) → AllPrecede M cs ds ⊎ AllPrecede M ds cs

-- insertions of which neither had the other in its context stand apart
abbrev pub InsertionsApart : History → Type 0
InsertionsApart M = (o p : Op) → IsIn o (ops M) → IsIn p (ops M) → (p.seq ≤ slice_index o.context p.author → ⊥) → (o.seq ≤ slice_index p.context o.author → ⊥) → (o ≡ p → ⊥) →
    AllPrecede M (chars_of o o.body) (chars_of p p.body) ⊎ AllPrecede M (chars_of p p.body) (chars_of o o.body)

-- the three together
abbrev pub Apart : History → Type 0
Apart M = SeenBetween M × PassagesApart M × InsertionsApart M

-- where edits made all operations of a legal history
abbrev pub MadeApart : Type 0
MadeApart = (M : History) → IsLegal M → AreMadeIn M → Apart M

-- and so in a world, whatever its members do and whatever messages are lost, repeated or reordered
abbrev pub WorldsApart : Type 0
WorldsApart = (w : World) (hs : List Happening) (M : History) → IsAfter w hs → IsGathered w M → Apart M

-- ---- how passages come about

-- the character stands right before the place, it is the member's own, no rename took it, and the member hasn't used the next offset yet
abbrev pub IsEnd : History → ℕ → Character → Type 0
IsEnd H at c =
    IsIn c (chars H) × (get_before (idents H) at ≡ Some (ident_in H (greatest H) c)) × KeepsLast H (greatest H) c × (replica_of (last_of c.ident) ≡ me_of H)
    × IsFalse (is_used (stems H) (me_of H) (seq_of (last_of c.ident)) (offset_of (last_of c.ident) +ℤ pos 1))

-- what stands right behind the place begins with the character's identifier: it was written right behind it, by one that had seen it
abbrev pub IsTaken : History → ℕ → Character → Type 0
IsTaken H at c = (y : List Tuple) × (z : List Tuple) × (slice_get (idents H) at ≡ Some y) × (y ≡ ident_in H (greatest H) c ++ z)

-- who writes right behind the end of an own passage goes on with it, unless something was written there already
abbrev pub WritesOn : Type 0
WritesOn = (H : History) (at : ℕ) (cs : List ℕ) (c : Character) → IsLegal H → AreMadeIn H → IsEdit (edits.Insert at cs) → edit_fault H (edits.Insert at cs) ≡ None →
    IsEnd H at c → (offset_of (last_of c.ident) +ℤ pos (length cs)) ≤ℤ greatest_offset → let o = made H (edits.Insert at cs) in
    IsPassage (edited H (edits.Insert at cs)) (c ∷ chars_of o o.body) ⊎ IsTaken H at c

-- the character stands right behind the place, it is the member's own, no rename took it, and the member hasn't used the offset before it
abbrev pub IsStart : History → ℕ → Character → Type 0
IsStart H at c =
    IsIn c (chars H) × (slice_get (idents H) at ≡ Some (ident_in H (greatest H) c)) × KeepsLast H (greatest H) c × (replica_of (last_of c.ident) ≡ me_of H)
    × IsFalse (is_used (stems H) (me_of H) (seq_of (last_of c.ident)) (offset_of (last_of c.ident) -ℤ pos 1))

-- what stands right before the place isn't the end of an own passage, behind which the member would write instead
abbrev pub IsNoEnd : History → ℕ → Type 0
IsNoEnd H at = (x : List Tuple) → get_before (idents H) at ≡ Some x → replica_of (last_of x) ≡ me_of H → IsTrue (is_used (stems H) (me_of H) (seq_of (last_of x)) (offset_of (last_of x) +ℤ pos 1))

-- what stands right before the place begins with the character's identifier less one offset: it was written right before it, by one that had
-- seen it
abbrev pub IsTakenBefore : History → ℕ → Character → Type 0
IsTakenBefore H at c = (y : List Tuple) × (z : List Tuple) × (get_before (idents H) at ≡ Some y) × (y ≡ shifted (negsuc 0) (ident_in H (greatest H) c) ++ z)

-- who writes right before the start of an own passage begins it anew there, unless something was written there already
abbrev pub WritesBefore : Type 0
WritesBefore = (H : History) (at : ℕ) (cs : List ℕ) (c : Character) → IsLegal H → AreMadeIn H → IsEdit (edits.Insert at cs) → edit_fault H (edits.Insert at cs) ≡ None →
    IsStart H at c → IsNoEnd H at → least_offset ≤ℤ (offset_of (last_of c.ident) -ℤ pos (length cs)) → let o = made H (edits.Insert at cs) in
    IsPassage (edited H (edits.Insert at cs)) (chars_of o o.body ++ (c ∷ [])) ⊎ IsTakenBefore H at c

-- edits made all operations of a member's history in a world
abbrev pub PastsMade : Type 0
PastsMade = (w : World) (hs : List Happening) (i : ℕ) (H : History) → IsAfter w hs → IsPast w i H → IsLegal H × AreMadeIn H

-- a passage stays one, whatever else is known
abbrev pub PassagesStay : Type 0
PassagesStay = (H M : History) (cs : List Character) → IsLegal H → IsLegal M → IsPartOf H M → IsPassageOf H cs → IsPassageOf M cs
