-- What a session goes back to lasts when what every member has is dropped.
use Rattle.std.proofs.Common.{◌≡◌, List, [], ◌∷◌, map, Some, subst}
use Rattle.std.specs.Prelude.{IsTrue}
use Rattle.rls_ident.specs.declared.epoch_name.EpochName.{EpochName}
use Rattle.rls_seen.specs.Kept.{dropped}
use Rattle.rls_seen.specs.Sane.{IsSane}
use Rattle.rls_seen.specs.Seen.{Seen}
use Rattle.rls_replica.specs.Names.{keeps}
use Rattle.rls_undo.specs.declared.entry.Entry.{Entry}
use Rattle.rls_undo.specs.declared.entry.Entry.TheVariants.{Inserted, Removed}
use Rattle.rls_undo.specs.Plans.{epoch_in}
use Rattle.rls_undo.specs.Undoing.{dropped_or, first_dropped, settled_over}
use Rattle.rls_undo.proofs.Dropping.{greatest_stays}
use Rattle.rls_anchor.specs.declared.anchor.Anchor.{Anchor}
use Rattle.rls_anchor.specs.declared.anchor.Anchor.TheVariants.{Beginning, After, Before}
use Rattle.rls_anchor.specs.AnchorLaws.{IsAnchored}
use Rattle.rls_anchor.specs.Anchors as anchors
use Rattle.rls_session.specs.declared.cursors.Cursor.{Cursor}
use Rattle.rls_session.specs.Cursors.{AreAnchored, moved}
use Rattle.rls_session.proofs.Numbered.{all_anchored}
use Rattle.rls_session.specs.Desks.{AreUndoable, IsWhole}
use Rattle.rls_session.proofs.Whole.{settled_entry_kept}

-- entries of the greatest epoch are kept where that is
settled_kept : (s n : Seen) (es : List Entry) → ((entry : Entry) → IsTrue (keeps n (epoch_in (settled_over s entry)))) → AreUndoable n (map (settled_over s) es)
settled_kept s n [] f = tt
settled_kept s n (e ∷ es) f = (f e, settled_kept s n es f)

-- and in what is left of it
settled_left : (s : Seen) → IsSane s → (entry : Entry) → IsTrue (keeps (dropped s) (epoch_in (settled_over s entry)))
settled_left s sane (Inserted e ids) = greatest_stays s sane
settled_left s sane (Removed e first text) = greatest_stays s sane

anchor_left : (s : Seen) → IsSane s → (a : Anchor) → IsAnchored (dropped s) (anchors.settled_over s a)
anchor_left s sane Beginning = tt
anchor_left s sane (After e x) = greatest_stays s sane
anchor_left s sane (Before e x) = greatest_stays s sane

-- the entries alone, taken there
pub whole_entries : (s : Seen) (es : List Entry) (a : List Cursor) → IsWhole s es a → IsWhole s (map (settled_over s) es) a
whole_entries s es a h = record { undoable = settled_kept s s es (settled_entry_kept s); anchored = h.anchored }

-- both, in what is left
pub whole_left : (s : Seen) (es : List Entry) (a : List Cursor) → IsSane s → IsWhole (dropped s) (map (settled_over s) es) (map (moved (anchors.settled_over s)) a)
whole_left s es a sane = record { undoable = settled_kept s (dropped s) es (settled_left s sane); anchored = all_anchored (dropped s) (anchors.settled_over s) a (anchor_left s sane) }

pub whole_cursors : (s : Seen) (es : List Entry) (a b : List Cursor) → (AreAnchored s a → AreAnchored s b) → IsWhole s es a → IsWhole s es b
whole_cursors s es a b k h = record { undoable = h.undoable; anchored = k h.anchored }

-- each epoch is kept, so that none was dropped
pub none_dropped : (s : Seen) (es : List Entry) (e : EpochName) → AreUndoable s es → first_dropped s es ≡ Some e → ⊥
none_dropped s [] e h is = cc
none_dropped s (x ∷ es) e h is = none_dropped s es e h.1 (subst (λ b. dropped_or b (epoch_in x) (first_dropped s es) ≡ Some e) h.0 is)
