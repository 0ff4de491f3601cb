-- Events of a member, which lead on from where others led.
use Rattle.std.proofs.Common.{◌≡◌, ◌∙◌, ◌<◌, ◌++◌, ℕ, Bool, true, false, List, [], ◌∷◌, length, Option, Some, None, sym, ap, subst, ⊎_elim}
use Rattle.std.specs.Prelude.{slice_get, slice_set}
use Rattle.rls_ident.specs.Lists.{IsIn}
use Rattle.rls_ident.proofs.Members.{snoc_split, some_is}
use Rattle.rls_ident.proofs.Positions.{get_of}
use Rattle.rls_model.proofs.OnePlace.{get_set_same, length-set, set_get}
use Rattle.rls_seen.specs.Seen.{Seen}
use Rattle.rls_stages.specs.KeptFile.{bytes_over}
use Rattle.rls_top.specs.Groups.{files_with}
use Rattle.rls_groups.specs.Events.{Action, Event, deed_of, stored_by}
use Rattle.rls_groups.specs.Lives.{AreOfGroup, Life, begun, lived, lived_all}
use Rattle.rls_groups.specs.Rounds.{after}
use Rattle.rls_groups.specs.Runs.{file_at}
use Rattle.rls_members.proofs.Lives.{lived_both, more_of_group, stays_written}
use Rattle.rls_members.specs.Members.{IsLed, IsLedBy, MembersSeen, with_files}

-- ---- one file changes

set_by : (files : List (List ℕ)) (i : ℕ) (o : Option Seen) (now : List ℕ) → i < length files → slice_get (files_with files i o) i ≡ Some now → files_with files i o ≡ slice_set files i now
set_by files i None now l h = sym (set_get files i now h)
set_by files i (Some s) now l h =
    let p = get_of files i l in
    ap (λ (bytes : List ℕ). slice_set files i bytes) (some_is (bytes_over s) now (sym (get_set_same files i p.0 (bytes_over s) p.1) ∙ h))

-- by one event of the member
pub set_after : (l : Life) (i : ℕ) (action : Action) (done : Bool) (now : List ℕ) → i < length (l.group).files → let e : Event = record { member = i; action = action; done = done } in
    file_at (lived l e).group i ≡ Some now → (lived l e).group.files ≡ slice_set (l.group).files i now
set_after l i action false now m h = sym (set_get (l.group).files i now h)
set_after l i action true now m h = set_by (l.group).files i (stored_by l.group i (deed_of (l.desks i) action)) now m h

-- ---- events that lead on

led_on : (group n : ℕ) (files sent now : List (List ℕ)) (es fs : List Event) → IsLed group n files sent es → AreOfGroup (after group n es) fs → now ≡ ((lived_all (after group n es) fs).group).files → IsLed group n now sent (es ++ fs)
led_on group n files sent now es fs h p q =
    let both = lived_both (begun group n) es fs in
    record {
      events = record { large = (h.events).large; some = (h.events).some; few = (h.events).few; events = more_of_group (begun group n) es fs (h.events).events p };
      files_are = q ∙ ap (λ (l : Life). (l.group).files) (sym both);
      sent_are = λ message x. subst (λ (l : Life). IsIn message (l.group).written) (sym both) (stays_written message fs (after group n es) (h.sent_are message x));
    }

-- which left this file
pub led_by : (m : MembersSeen) (es fs : List Event) (i : ℕ) (now : List ℕ) → IsLedBy m es → AreOfGroup (after m.group (length m.files) es) fs → ((lived_all (after m.group (length m.files) es) fs).group).files ≡ slice_set m.files i now
    → IsLedBy (with_files m (slice_set m.files i now)) (es ++ fs)
led_by m es fs i now h p q =
    subst (λ (k : ℕ). IsLed m.group k (slice_set m.files i now) m.sent (es ++ fs)) (sym (length-set m.files i now)) (led_on m.group (length m.files) m.files m.sent (slice_set m.files i now) es fs h p (sym q))

-- and a message more that may be handed on then
pub led_with : (group n : ℕ) (files sent : List (List ℕ)) (es : List Event) (message : List ℕ) → IsLed group n files sent es → IsIn message ((after group n es).group).written → IsLed group n files (sent ++ message ∷ []) es
led_with group n files sent es message h p = record { events = h.events; files_are = h.files_are; sent_are = λ b x. ⊎_elim (λ q. h.sent_are b q) (λ e. subst (λ (y : List ℕ). IsIn y ((after group n es).group).written) e p) (snoc_split b message sent x) }
