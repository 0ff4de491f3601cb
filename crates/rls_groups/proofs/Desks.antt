-- What a session works on beside its replica goes back to nothing that is dropped: not at its beginning, and not after a store.
use Rattle.std.proofs.Common.{◌≡◌, ℕ, true, List, [], ◌∷◌, map, refl, sym, subst}
use Rattle.rls_ident.specs.declared.epoch_name.EpochName.{EpochName}
use Rattle.rls_rename.proofs.Kept.{greatest_kept}
use Rattle.rls_model.specs.Epochs.{greatest}
use Rattle.rls_model.specs.Receiving.{State}
use Rattle.rls_seen.specs.Seen.{Seen}
use Rattle.rls_seen.specs.Stands.{StandsFor}
use Rattle.rls_seen.proofs.Alike.{greatest_alike}
use Rattle.rls_replica.specs.Names.{keeps}
use Rattle.rls_undo.specs.declared.entry.Entry.{Entry}
use Rattle.rls_undo.specs.declared.entry.Entry.TheVariants.{Inserted, Removed}
use Rattle.rls_undo.specs.Plans.{epoch_in}
use Rattle.rls_undo.specs.UndoLaws.{AreWhole}
use Rattle.rls_undo.specs.Undoing.{last_entries, settled}
use Rattle.rls_steps.specs.GroundLaws as steps
use Rattle.rls_steps.specs.Labelled.{Names}
use Rattle.rls_anchor.specs.declared.anchor.Anchor.{Anchor}
use Rattle.rls_anchor.specs.declared.anchor.Anchor.TheVariants.{Beginning, After, Before}
use Rattle.rls_anchor.specs.AnchorLaws.{IsAnchored}
use Rattle.rls_anchor.specs.Anchors as anchors
use Rattle.rls_session.specs.declared.cursors.Cursor.{Cursor}
use Rattle.rls_session.specs.declared.desk.TheConstants.{KEPT_ENTRIES}
use Rattle.rls_session.specs.Answers.{Sitting, resumed}
use Rattle.rls_session.specs.Cursors.{AreAnchored, moved}
use Rattle.rls_stages.proofs.Files.{IsOpened}
use Rattle.rls_session.specs.Desks.{AreKept, AreUndoable}
use Rattle.rls_session.specs.Sessions.{by_history}
use Rattle.rls_session.proofs.Alike.{resumed_alike}
use Rattle.rls_session.proofs.AlikeSittings.{IsAlike}
use Rattle.rls_groups.specs.Events.{Desk, IsUsable, at_desk, desk_of, empty_desk}

-- entries, cursors and names of this epoch
abbrev AreAt : EpochName → List Entry → Type 0
AreAt g [] = Unit {0}
AreAt g (e ∷ es) = (epoch_in e ≡ g) × AreAt g es

abbrev IsAt : EpochName → Anchor → Type 0
IsAt g Beginning = Unit {0}
IsAt g (After e x) = e ≡ g
IsAt g (Before e x) = e ≡ g

abbrev ArePut : EpochName → List Cursor → Type 0
ArePut g [] = Unit {0}
ArePut g (c ∷ cs) = IsAt g c.anchor × ArePut g cs

abbrev AreNamed : EpochName → EpochName → Names → Type 0
AreNamed g e [] = Unit {0}
AreNamed g e (n ∷ ns) = e ≡ g

settled_at : (t : State) (e : Entry) → epoch_in (settled t.history e) ≡ greatest t.history
settled_at t (Inserted e ids) = refl
settled_at t (Removed e first text) = refl

all_at : (t : State) (es : List Entry) → AreAt (greatest t.history) (map (settled t.history) es)
all_at t [] = tt
all_at t (e ∷ es) = (settled_at t e, all_at t es)

cursor_at : (t : State) (a : Anchor) → IsAt (greatest t.history) (anchors.settled t.history a)
cursor_at t Beginning = tt
cursor_at t (After e x) = refl
cursor_at t (Before e x) = refl

cursors_at : (t : State) (cs : List Cursor) → ArePut (greatest t.history) (map (moved (anchors.settled t.history)) cs)
cursors_at t [] = tt
cursors_at t (c ∷ cs) = (cursor_at t c.anchor, cursors_at t cs)

named_at : (g : EpochName) (ns : Names) → AreNamed g g ns
named_at g [] = tt
named_at g (n ∷ ns) = refl

-- is kept by each replica that stands for the history
kept_at : (o : Seen) (t : State) → StandsFor o t → keeps o (greatest t.history) ≡ true
kept_at o t h = subst (λ (g : EpochName). keeps o g ≡ true) (greatest_alike o t h) (greatest_kept o.epochs.top o.epochs.nodes)

entries_kept : (o : Seen) (g : EpochName) (es : List Entry) → keeps o g ≡ true → AreAt g es → AreUndoable o es
entries_kept o g [] k h = tt
entries_kept o g (e ∷ es) k h = (subst (λ (x : EpochName). keeps o x ≡ true) (sym h.0) k, entries_kept o g es k h.1)

cursor_kept : (o : Seen) (g : EpochName) (a : Anchor) → keeps o g ≡ true → IsAt g a → IsAnchored o a
cursor_kept o g Beginning k h = tt
cursor_kept o g (After e x) k h = subst (λ (y : EpochName). keeps o y ≡ true) (sym h) k
cursor_kept o g (Before e x) k h = subst (λ (y : EpochName). keeps o y ≡ true) (sym h) k

cursors_kept : (o : Seen) (g : EpochName) (cs : List Cursor) → keeps o g ≡ true → ArePut g cs → AreAnchored o cs
cursors_kept o g [] k h = tt
cursors_kept o g (c ∷ cs) k h = (cursor_kept o g c.anchor k h.0, cursors_kept o g cs k h.1)

names_kept : (o : Seen) (g e : EpochName) (ns : Names) → keeps o g ≡ true → AreNamed g e ns → AreKept o e ns
names_kept o g e [] k h = tt
names_kept o g e (n ∷ ns) k h = subst (λ (y : EpochName). keeps o y ≡ true) (sym h) k

-- ---- of a member

-- nothing on the desk goes back to another epoch than the greatest of this state
pub record IsWell (t : State) (desk : Desk) : Type 0 where
  pub entries : AreAt (greatest t.history) desk.entries
  pub cursors : ArePut (greatest t.history) desk.cursors
  pub named : AreNamed (greatest t.history) (desk.recorded).epoch (desk.recorded).names
  pub texts : AreWhole desk.entries
  pub spelled : steps.IsWhole desk.recorded

pub well_empty : (t : State) → IsWell t empty_desk
well_empty t = record { entries = tt; cursors = tt; named = tt; texts = tt; spelled = (tt, tt) }

-- so it is usable by each replica that stands for the state
pub well_usable : (s : Seen) (t : State) (desk : Desk) → StandsFor s t → IsWell t desk → IsUsable s desk
well_usable s t desk h w =
    let k = kept_at s t h in
    record { whole = record { undoable = entries_kept s _ desk.entries k w.entries; anchored = cursors_kept s _ desk.cursors k w.cursors }; texts = w.texts; kept = names_kept s _ _ (desk.recorded).names k w.named; spelled = w.spelled }

-- and a session with it answers over that replica as over the history
pub usable_alike : (bytes : List ℕ) (s : Seen) (t : State) (desk : Desk) → IsOpened bytes t s → IsUsable s desk → IsAlike (at_desk s desk) (at_desk t desk)
usable_alike bytes s t desk o u = record {
  stands = o.stands;
  sane = o.sane;
  writable = o.writable;
  entries = refl;
  cursors = refl;
  tells = refl;
  whole = u.whole;
  texts = u.texts;
  steps = record { same = refl; kept = u.kept; spelled = u.spelled };
}

-- over both there is the same
pub same_desk : (d : Sitting Seen) (f : Sitting State) → IsAlike d f → desk_of d ≡ desk_of f
same_desk d f h = rw (h.entries, h.cursors, h.tells, (h.steps).same) refl

-- after a store
pub well_resumed : (d : Sitting Seen) (f : Sitting State) → IsAlike d f → IsWell f.state (desk_of (resumed by_history f))
well_resumed d f h =
    let k = resumed_alike d f h in
    let t = f.state in
    record {
      entries = all_at t (last_entries KEPT_ENTRIES f.entries);
      cursors = cursors_at t f.cursors;
      named = named_at (greatest t.history) ((resumed by_history f).recorded).names;
      texts = subst AreWhole k.entries k.texts;
      spelled = subst steps.IsWhole (k.steps).same (k.steps).spelled;
    }
