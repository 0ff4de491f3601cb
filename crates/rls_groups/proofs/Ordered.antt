-- One order of all characters in a group, and what edits do to them.
use Rattle.std.proofs.Common.{◌≡◌, ◌∙◌, ◌<◌, ℕ, List, length, None, sym, ap, subst}
use Rattle.std.specs.Prelude.{slice_get, Some}
use Rattle.rls_ident.specs.Lists.{IsIn}
use Rattle.rls_ident.proofs.Positions.{get_of}
use Rattle.rls_ops.specs.declared.op.Op.{Op}
use Rattle.rls_model.specs.declared.edit.Edit.{Edit}
use Rattle.rls_model.specs.Editing.{edit_fault, made}
use Rattle.rls_model.specs.History.{History, ops}
use Rattle.rls_model.specs.Laws.{IsAt, IsFront, IsGathered, IsPast, edited}
use Rattle.rls_model.specs.Receiving.{State}
use Rattle.rls_model.specs.WellFormed.{IsEdit}
use Rattle.rls_model.specs.Worlds.{World}
use Rattle.rls_model.proofs.HistoryNumbers.{front_self, front_trans}
use Rattle.rls_model.proofs.OneOrder as order
use Rattle.rls_model.proofs.WorldsGathered.{one_history}
use Rattle.rls_model.proofs.WorldsInvariant.{IsGood}
use Rattle.rls_passages.specs.Lasting.{StandBetween, StayUnlessDeleted}
use Rattle.rls_passages.proofs.Apart as passages
use Rattle.rls_passages.proofs.Lasting.{between, past_legal, past_made, past_part, stay}
use Rattle.rls_passages.proofs.Worlds.{good_made}
use Rattle.rls_top.specs.Groups.{IsOrderedBy}
use Rattle.rls_top.proofs.Groups.{moment}
use Rattle.rls_groups.specs.Events.{Event}
use Rattle.rls_groups.specs.Groups.{InOneOrder, IsHeld, WasHeld}
use Rattle.rls_groups.specs.Lives.{Life, begun, lived_all}
use Rattle.rls_groups.proofs.Groups.{AtEach, Lives, as_later}
use Rattle.rls_groups.proofs.Staying.{has_or_holds, is_there}

-- the history is that of the member with one of these states, or was it at some time
abbrev pub Had : List State → ℕ → History → Type 0
Had ss i H = (t : State) × (slice_get ss i ≡ Some t) × IsFront H t.history

module _ (g n : ℕ) (l : Life) (w : World) (x : Lives g n l w) where
  pub was : (i : ℕ) (H : History) → WasHeld l i H → IsPast w i H
  was i H p = subst (λ (ss : List State). Had ss i H) (sym x.states) p

  pub had : (i : ℕ) (H : History) → IsPast w i H → WasHeld l i H
  had i H p = subst (λ (ss : List State). Had ss i H) x.states p

  pub held : (i : ℕ) (t : State) → IsAt w i t → IsHeld l i t
  held i t h = ap (λ (xs : List State). slice_get xs i) (sym x.states) ∙ h

  pub good : IsGood w
  good = ((x.matches).stands).good

  made_by : (i : ℕ) (t : State) (o : Op) → IsHeld l i t → IsIn o (ops t.history) → (H : History) × (edit : Edit) × WasHeld l o.author (edited H edit) × IsEdit edit × (edit_fault H edit ≡ None) × (made H edit ≡ o)
  made_by i t o h p =
      let r = past_made w good i t.history o (was i t.history (t, h, front_self t.history)) p in
      (r.0, r.1, had o.author (edited r.0 r.1) r.2, r.3, r.4, r.5)

  module _ (M : History) (all : IsGathered w M) where
    in_order : (i : ℕ) (H : History) → WasHeld l i H → IsOrderedBy M H
    in_order i H p =
        let q = was i H p in
        let part = past_part w good M all i H q in
        (part, (order.law M all.0).2 H (past_legal w good i H q) part)

    all_ordered : (es : List Event) → AtEach g n (begun g n) es w → InOneOrder g n es l
    all_ordered es each =
        let law = order.law M all.0 in
        let part = past_part w good M all in
        record {
          all = M;
          legal = all.0;
          total = law.0;
          apart = passages.law M all.0 (good_made w M good all);
          moments = λ before after i e few.
              let r = each before after e in
              let now = lived_all (begun g n) before in
              let m = moment g n now.group r.0 w M i (r.1).matches (as_later r.0 w r.2) all few in
              let later = r.2 i m.0 m.1 in
              record {
                state = m.0;
                held = ap (λ (xs : List State). slice_get xs i) (sym (r.1).states) ∙ m.1;
                member = m.2;
                ordered = m.3;
                goes_on = (
                  later.0,
                  held i later.0 later.1,
                  ((later.2).0, λ o p. has_or_holds later.0 o ((((x.matches).file i later.0 later.1).2).storable).rest ((later.2).1 o (is_there m.0 o p))),
                );
              };
          pasts = λ before after i H e p.
              let r = each before after e in
              let q = subst (λ (ss : List State). Had ss i H) (sym (r.1).states) p in
              let later = r.2 i q.0 q.1 in
              let still : WasHeld l i H = (later.0, held i later.0 later.1, front_trans H (q.0).history (later.0).history q.2 (later.2).0) in
              (still, in_order i H still);
          drafts = λ i u c p d.
              let still : WasHeld l i _ = (p.0, p.1, front_trans _ u.history (p.0).history (d.goes_on).0 p.2) in
              (still, in_order i _ still, d.text);
          made_by_edits = made_by;
          edits = λ i H edit cs is fits p shown. let q = was i (edited H edit) p in law.3 H edit cs (past_legal w good i (edited H edit) q).0 is fits (part i (edited H edit) q) shown;
          deletions = λ i j H K edit cs c p q shown o u. let a = was i H p in let b = was j K q in law.4 H K edit cs c (past_legal w good i H a) (part i H a) (past_legal w good j K b) (part j K b) shown o u;
          between = subst (λ (ss : List State). StandBetween M (Had ss)) x.states (between w good M all);
          lasting = subst (λ (ss : List State). StayUnlessDeleted M (Had ss)) x.states (stay w good M all);
        }

  pub ordered : (es : List Event) → 0 < length w.states → AtEach g n (begun g n) es w → InOneOrder g n es l
  ordered es some each = let s = get_of w.states 0 some in let all = one_history w 0 s.0 good s.1 in all_ordered all.0 all.1 es each
