-- In a world that events have brought about an event refuses nothing.
use Rattle.std.proofs.Common.{◌≡◌, ℕ, ◌++◌, List, [], ◌∷◌, refl, sym, ap, ◌∙◌, subst, Option, Some, None}
use Rattle.std.specs.Prelude.{slice_get}
use Rattle.rls_ident.proofs.Members.{get_in}
use Rattle.rls_ops.specs.declared.message.Message.{Message}
use Rattle.rls_model.specs.declared.event.Event.{Event}
use Rattle.rls_model.specs.declared.event.Event.TheVariants as events
use Rattle.rls_model.specs.declared.event.Outcome.{Outcome}
use Rattle.rls_model.specs.Editing.{edit_fault}
use Rattle.rls_model.specs.Laws.{IsAfter}
use Rattle.rls_model.specs.Receiving.{State}
use Rattle.rls_model.specs.WellFormed.{IsEvent}
use Rattle.rls_model.specs.Worlds.{World, Happening, happens, whole, fault_of, outcome_of, edit_outcome, deliver_outcome, member_fault, edit_fault_at}
use Rattle.rls_model.proofs.Applied.{edit_applied}
use Rattle.rls_model.proofs.WorldsRuns.{run_append, events_append}
use Rattle.rls_model.proofs.WorldsLaws.{no_refusal, equal_vectors, edit_none}
use Rattle.rls_seen.specs.Seen.{Seen, vector}
use Rattle.rls_seen.proofs.Alike.{greatest_alike}
use Rattle.rls_seen.proofs.Editing.{idents_alike}
use Rattle.rls_seen.proofs.Keeping.{text_alike}
use Rattle.rls_world.specs.Alike.{ShowsSame}
use Rattle.rls_world.specs.Clean.{NoneRefused, EditsOwn, IsClean}
use Rattle.rls_world.specs.Seen.{WorldSeen, StandsForWorld}
use Rattle.rls_world.proofs.Standing.{BothAt, all_at, first_none}

-- ---- one more event

pub after_more : (w : World) (hs : List Happening) (e : Event) → IsAfter w hs → IsEvent e → IsAfter (happens None w e) (hs ++ whole e ∷ [])
after_more w hs e a d = (a.0, a.1, a.2, a.3, a.4, events_append hs (whole e ∷ []) a.5 (d, tt), run_append _ hs (whole e ∷ []) ∙ ap (λ v. happens None v e) a.6)

-- ---- nothing is refused

taken_clean : (w : World) (hs : List Happening) (e : Event) → IsAfter w hs → NoneRefused (outcome_of w e)
taken_clean w hs (events.Edit i edit) a = go (slice_get w.states i)
  where
    go : (t : Option State) → NoneRefused (edit_outcome t)
    go None = tt
    go (Some t) = tt
taken_clean w hs (events.Send from to) a = tt
taken_clean w hs (events.Deliver k to) a = go (slice_get w.states to) (slice_get w.sent k) refl refl
  where
    go : (t : Option State) (m : Option Message) → slice_get w.states to ≡ t → slice_get w.sent k ≡ m → NoneRefused (deliver_outcome t m)
    go None m e f = tt
    go (Some t) None e f = tt
    go (Some t) (Some m) e f = (no_refusal w hs a).0 to t m None e (get_in w.sent k m f)
taken_clean w hs (events.Drop i) a = tt

own_clean : (w : World) (hs : List Happening) (e : Event) → IsEvent e → IsAfter w hs → fault_of w e ≡ None → EditsOwn w hs e
own_clean w hs (events.Edit i edit) d a f = λ t h.
    let r = no_refusal w hs a in
    let g = edit_none (edit_fault t.history edit) (ap (λ o. edit_fault_at o edit) (sym h) ∙ (first_none (member_fault w i) (edit_fault_at (slice_get w.states i) edit) f).1) in
    (edit_applied t edit None refl, r.1 i t edit None h d.1 g, λ q. r.3 q i t edit None h d.1 g)
own_clean w hs (events.Send from to) d a f = tt
own_clean w hs (events.Deliver k to) d a f = tt
own_clean w hs (events.Drop i) d a f = tt

pub clean_step : (w : World) (hs : List Happening) (e : Event) (o : Outcome) → IsEvent e → IsAfter w hs → fault_of w e ≡ None → o ≡ outcome_of w e → IsClean w hs e o
clean_step w hs e o d a f q = record {
  taken = subst NoneRefused (sym q) (taken_clean w hs e a);
  own = own_clean w hs e d a f;
  waiting = (no_refusal (happens None w e) (hs ++ whole e ∷ []) (after_more w hs e a d)).2;
}

-- ---- two members

pub same_shown : (s : WorldSeen) (w : World) (hs : List Happening) (i j : ℕ) (r q : Seen) → IsAfter w hs → StandsForWorld s w → slice_get s.replicas i ≡ Some q → slice_get s.replicas j ≡ Some r → vector r ≡ vector q → ShowsSame r q
same_shown s w hs i j r q a h e f v = go (slice_get w.states i) (slice_get w.states j) refl refl (subst (λ o. BothAt o (slice_get w.states i)) e (all_at s.replicas w.states i h.states)) (subst (λ o. BothAt o (slice_get w.states j)) f (all_at s.replicas w.states j h.states))
  where
    go : (t u : Option State) → slice_get w.states i ≡ t → slice_get w.states j ≡ u → BothAt (Some q) t → BothAt (Some r) u → ShowsSame r q
    go None u k l b c = absurd b
    go (Some t) None k l b c = absurd c
    go (Some t) (Some u) k l b c =
        let x = (equal_vectors w hs j i u t a l k (sym c.vector ∙ (v ∙ b.vector))).1 in
        record {
          greatest = greatest_alike r u c ∙ (x.0 ∙ sym (greatest_alike q t b));
          text = text_alike r u c ∙ (x.1 ∙ sym (text_alike q t b));
          idents = idents_alike r u c ∙ (x.2 ∙ sym (idents_alike q t b));
        }
