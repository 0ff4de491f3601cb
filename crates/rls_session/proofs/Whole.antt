-- Nothing that a session goes back to is dropped.
use Rattle.std.proofs.Common.{◌≡◌, ◌∙◌, ◌++◌, ℕ, Bool, cond, suc, zero, List, [], ◌∷◌, length, map, take, drop, Option, Some, None, Result, Ok, Err, OnOk, OnErr, true, false, refl, sym, subst, ◌-◌}
use Rattle.std.specs.Prelude.{IsTrue, IsFalse, slice_get}
use Rattle.rls_ident.specs.declared.epoch_name.EpochName.{EpochName}
use Rattle.rls_ops.specs.declared.op.Body.{Body}
use Rattle.rls_ops.specs.declared.op.Body.TheVariants.{Insert, Delete, Rename, Leave}
use Rattle.rls_rename.proofs.Kept.{greatest_kept}
use Rattle.rls_model.specs.declared.edit.Edit.{Edit}
use Rattle.rls_seen.specs.Edits.{made_over}
use Rattle.rls_seen.specs.Seen.{Seen, greatest_over, text_over}
use Rattle.rls_replica.specs.Names.{KeepsNames, keeps}
use Rattle.rls_undo.specs.declared.entry.Entry.{Entry}
use Rattle.rls_undo.specs.declared.undo.Undone.{Undone}
use Rattle.rls_undo.specs.declared.undo.UndoError.{UndoError}
use Rattle.rls_undo.specs.Plans.{entries_by, epoch_in, gone_by}
use Rattle.rls_undo.specs.declared.entry.Entry.TheVariants.{Inserted, Removed}
use Rattle.rls_undo.specs.Undoing.{caught_up_over, entries_over, epoch_of, is_behind, last_entries, last_of, settled_over, without_last}
use Rattle.rls_anchor.specs.declared.anchor.Anchor.{Anchor}
use Rattle.rls_anchor.specs.AnchorLaws.{IsAnchored}
use Rattle.rls_session.specs.declared.cursors.Cursor.{Cursor}
use Rattle.rls_session.specs.Cursors.{AreAnchored, cursors_moved, cursors_with}
use Rattle.rls_session.proofs.Numbered.{anchor_here, anchored_moved, anchored_on, anchored_with}
use Rattle.rls_anchor.specs.Anchors as anchors
use Rattle.rls_session.specs.Sessions.{by_parts}
use Rattle.rls_session.specs.declared.orders.Side.{Side}
use Rattle.rls_session.proofs.Sides.{anchor_kept}
use Rattle.rls_session.specs.Desks.{AreUndoable, IsWhole}

-- ---- entries

-- after more has happened
pub undoable_on : (s n : Seen) (es : List Entry) → KeepsNames s n → AreUndoable s es → AreUndoable n es
undoable_on s n [] k h = tt
undoable_on s n (e ∷ es) k h = (k (epoch_in e) h.0, undoable_on s n es k h.1)

pub undoable_more : (s : Seen) (es fs : List Entry) → AreUndoable s es → AreUndoable s fs → AreUndoable s (es ++ fs)
undoable_more s [] fs h k = k
undoable_more s (e ∷ es) fs h k = (h.0, undoable_more s es fs h.1 k)

pub undoable_front : (s : Seen) (n : ℕ) (es : List Entry) → AreUndoable s es → AreUndoable s (take n es)
undoable_front s zero es h = tt
undoable_front s (suc n) [] h = tt
undoable_front s (suc n) (e ∷ es) h = (h.0, undoable_front s n es h.1)

pub undoable_back : (s : Seen) (n : ℕ) (es : List Entry) → AreUndoable s es → AreUndoable s (drop n es)
undoable_back s zero es h = h
undoable_back s (suc n) [] h = tt
undoable_back s (suc n) (e ∷ es) h = undoable_back s n es h.1

-- one of them
undoable_at : (s : Seen) (es : List Entry) (i : ℕ) (entry : Entry) → slice_get es i ≡ Some entry → AreUndoable s es → IsTrue (keeps s (epoch_in entry))
undoable_at s [] i entry e h = absurd cc
undoable_at s (x ∷ es) zero entry e h = let same : x ≡ entry = cc in subst (λ (y : Entry). IsTrue (keeps s (epoch_in y))) same h.0
undoable_at s (x ∷ es) (suc i) entry e h = undoable_at s es i entry e h.1

pub last_undoable : (s : Seen) (es : List Entry) (entry : Entry) → last_of es ≡ Some entry → AreUndoable s es → IsTrue (keeps s (epoch_in entry))
last_undoable s es entry e h = undoable_at s es (length es - 1) entry e h

-- those of an edit
by_body : (s : Seen) (b : Body) (gone : List ℕ) → AreUndoable s (entries_by (greatest_over s) b gone)
by_body s (Insert first text) gone = (greatest_kept s.epochs.top s.epochs.nodes, tt)
by_body s (Delete []) gone = tt
by_body s (Delete (x ∷ xs)) gone = (greatest_kept s.epochs.top s.epochs.nodes, tt)
by_body s (Rename former) gone = tt
by_body s Leave gone = tt

pub entries_undoable : (s : Seen) (edit : Edit) → AreUndoable s (entries_over s edit)
unfolding entries_over made_over
entries_undoable s edit = by_body s (made_over s edit).body (gone_by edit (text_over s))

-- those that have caught up with the renames
pub settled_entry_kept : (s : Seen) (e : Entry) → IsTrue (keeps s (epoch_in (settled_over s e)))
settled_entry_kept s (Inserted e ids) = greatest_kept s.epochs.top s.epochs.nodes
settled_entry_kept s (Removed e first cs) = greatest_kept s.epochs.top s.epochs.nodes

all_settled_kept : (s : Seen) (es : List Entry) → AreUndoable s (map (settled_over s) es)
all_settled_kept s [] = tt
all_settled_kept s (e ∷ es) = (settled_entry_kept s e, all_settled_kept s es)

caught_up_kept : (s : Seen) (es : List Entry) → AreUndoable s es → AreUndoable s (caught_up_over s es)
caught_up_kept s es h = go (is_behind (greatest_over s) es)
  where
    go : (b : Bool) → AreUndoable s (cond b (map (settled_over s) es) es)
    go true = all_settled_kept s es
    go false = h

-- ---- all

-- after more has happened
pub whole_on : (s n : Seen) (es : List Entry) (a : List Cursor) → KeepsNames s n → IsWhole s es a → IsWhole n es a
whole_on s n es a k h = record { undoable = undoable_on s n es k h.undoable; anchored = anchored_on s n a k h.anchored }

-- after an edit
pub whole_edited : (s n : Seen) (es fs : List Entry) (a : List Cursor) (edit : Edit) → KeepsNames s n → fs ≡ es ++ entries_over s edit → IsWhole s es a → IsWhole n fs a
whole_edited s n es fs a edit k is h =
    record {
      undoable = subst (AreUndoable n) (sym is) (undoable_on s n (es ++ entries_over s edit) k (undoable_more s es (entries_over s edit) h.undoable (entries_undoable s edit)));
      anchored = anchored_on s n a k h.anchored;
    }

-- after an undo
pub whole_undone : (s n : Seen) (es fs : List Entry) (a : List Cursor) → KeepsNames s n → fs ≡ without_last es → IsWhole s es a → IsWhole n fs a
whole_undone s n es fs a k is h =
    record { undoable = subst (AreUndoable n) (sym is) (undoable_on s n (without_last es) k (undoable_front s (length es - 1) es h.undoable)); anchored = anchored_on s n a k h.anchored }

-- with the same entries, or none
pub whole_as : (s n : Seen) (es fs : List Entry) (a : List Cursor) → KeepsNames s n → fs ≡ es → IsWhole s es a → IsWhole n fs a
whole_as s n es fs a k is h = subst (λ (xs : List Entry). IsWhole n xs a) (sym is) (whole_on s n es a k h)

-- with a cursor that was just put
pub whole_pointed : {E : Type 0} (r : Result (Unit {0}) E) (s : Seen) (es : List Entry) (a b : List Cursor) (c : Anchor) (side : Side) (at n : ℕ) → OnOk r (b ≡ cursors_with a n c) → OnErr r (b ≡ a) → c ≡ by_parts.anchor s side at → IsWhole s es a → IsWhole s es b
whole_pointed (Ok u) s es a b c side at n is stays made h = record { undoable = h.undoable; anchored = subst (AreAnchored s) (sym is) (anchored_with s a n c (subst (IsAnchored s) (sym made) (anchor_kept s side at)) h.anchored) }
whole_pointed (Err e) s es a b c side at n is stays made h = record { undoable = h.undoable; anchored = subst (AreAnchored s) (sym stays) h.anchored }

-- with the last entries
pub whole_last : (s : Seen) (es fs : List Entry) (a : List Cursor) (n : ℕ) → fs ≡ last_entries n es → IsWhole s es a → IsWhole s fs a
whole_last s es fs a n is h = record { undoable = subst (AreUndoable s) (sym is) (undoable_back s (length es - n) es h.undoable); anchored = h.anchored }

-- with entries, or a cursor, that have caught up with the renames
pub whole_caught_up : {E : Type 0} (r : Result (Unit {0}) E) (s : Seen) (es fs : List Entry) (a : List Cursor) → OnOk r (fs ≡ caught_up_over s es) → OnErr r (fs ≡ es) → IsWhole s es a → IsWhole s fs a
whole_caught_up (Ok u) s es fs a is stays h = record { undoable = subst (AreUndoable s) (sym is) (caught_up_kept s es h.undoable); anchored = h.anchored }
whole_caught_up (Err e) s es fs a is stays h = whole_as s s es fs a (λ n k. k) stays h

pub whole_settled : {E : Type 0} (r : Result (Unit {0}) E) (s : Seen) (es : List Entry) (a b : List Cursor) (n : ℕ) → OnOk r (b ≡ cursors_moved (anchors.settled_over s) a n) → OnErr r (b ≡ a) → IsWhole s es a → IsWhole s es b
whole_settled (Ok u) s es a b n is stays h = record { undoable = h.undoable; anchored = subst (AreAnchored s) (sym is) (anchored_moved s (anchors.settled_over s) a n (λ x k. anchor_here s x) h.anchored) }
whole_settled (Err e) s es a b n is stays h = record { undoable = h.undoable; anchored = subst (AreAnchored s) (sym stays) h.anchored }

-- after an edit's entry was recorded or wasn't
pub whole_recorded : {E : Type 0} (r : Result (Unit {0}) E) (s : Seen) (es fs : List Entry) (a : List Cursor) (edit : Edit) → OnOk r (fs ≡ es ++ entries_over s edit) → OnErr r (fs ≡ es) → IsWhole s es a → IsWhole s fs a
whole_recorded (Ok u) s es fs a edit made stays h = whole_edited s s es fs a edit (λ n k. k) made h
whole_recorded (Err e) s es fs a edit made stays h = whole_as s s es fs a (λ n k. k) stays h

-- the entries of an undo that was made to its end or wasn't
pub undoable_undone : (r : Result Undone UndoError) (s n : Seen) (es fs : List Entry) → KeepsNames s n → OnOk r (fs ≡ without_last es) → OnErr r (fs ≡ es) → AreUndoable s es → AreUndoable n fs
undoable_undone (Ok u) s n es fs k made stays h = subst (AreUndoable n) (sym made) (undoable_on s n (without_last es) k (undoable_front s (length es - 1) es h))
undoable_undone (Err e) s n es fs k made stays h = subst (AreUndoable n) (sym stays) (undoable_on s n es k h)

pub whole_with : (s n : Seen) (es fs : List Entry) (a : List Cursor) → KeepsNames s n → AreUndoable n fs → IsWhole s es a → IsWhole n fs a
whole_with s n es fs a k u h = record { undoable = u; anchored = anchored_on s n a k h.anchored }

-- ---- nothing is dropped

kept_not : (s : Seen) (e : EpochName) → keeps s e ≡ true → IsFalse (keeps s e) → ⊥
kept_not s e k d = let both : true ≡ false = sym k ∙ d in cc

-- the epoch of the last entry
pub undo_not_dropped : (s : Seen) (es : List Entry) (e : EpochName) → AreUndoable s es → epoch_of (last_of es) ≡ Some e → IsFalse (keeps s e) → ⊥
undo_not_dropped s es e h is d = go (last_of es) refl is
  where
    go : (o : Option Entry) → last_of es ≡ o → epoch_of o ≡ Some e → ⊥
    go None l is = cc
    go (Some entry) l is =
        let same : epoch_in entry ≡ e = cc in
        kept_not s e (subst (λ (x : EpochName). keeps s x ≡ true) same (last_undoable s es entry l h)) d
