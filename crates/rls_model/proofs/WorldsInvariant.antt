-- The invariant of worlds, and that what a step makes of one member's state keeps it.
use Rattle.std.proofs.Common.{◌≡◌, ℕ, List, length, sym, ap, ◌∙◌, subst, inl, inr, ◌⊎◌, ⊎_elim}
use Rattle.std.specs.Prelude.{◌==◌, slice_get, slice_set, None}
use Rattle.rls_ident.specs.Lists.{IsIn}
use Rattle.rls_ident.proofs.Members.{bool_cases, eq_is, eq_not, some_is}
use Rattle.rls_ops.specs.declared.op.Op.{Op}
use Rattle.rls_ops.specs.declared.message.Message.{Message}
use Rattle.rls_model.specs.History.{Accepted, Acknowledged, History, Then, ops, count, me_of, members_of}
use Rattle.rls_model.specs.History as history
use Rattle.rls_model.specs.declared.edit.Edit.{Edit}
use Rattle.rls_model.specs.Editing.{made, edit_fault}
use Rattle.rls_model.specs.WellFormed.{IsEdit}
use Rattle.rls_model.specs.Receiving.{State}
use Rattle.rls_model.specs.Legal.{IsLegal, IsSound}
use Rattle.rls_model.specs.Worlds.{World, with_state}
use Rattle.rls_model.specs.Laws.{IsAt}
use Rattle.rls_model.proofs.OnePlace.{get_set_same, get_set_other, length-set}
use Rattle.rls_model.proofs.HistoryNumbers.{IsFront, front_self, front_trans, front_me, front_members, front_ops, IsAck}

-- the operation stands in its author's history
abbrev pub IsHome : World → Op → Type 0
IsHome w o = (t : State) × IsAt w o.author t × IsIn o (ops t.history)

-- the vector was the member's count at some time
abbrev pub WasCount : World → ℕ → List ℕ → Type 0
WasCount w a v = (t : State) × (Q : History) × IsAt w a t × IsFront Q t.history × (count Q ≡ v)

-- an edit without a fault makes the operation
abbrev pub IsMadeAt : History → Op → Type 0
IsMadeAt G o = (edit : Edit) × IsEdit edit × (edit_fault G edit ≡ None) × (made G edit ≡ o)

-- each own operation was made by such an edit
abbrev pub AreMade : History → Type 0
AreMade (history.Fresh group me members) = Unit {0}
AreMade (Then G (Accepted o)) = AreMade G × (o.author ≡ me_of G → IsMadeAt G o)
AreMade (Then G (Acknowledged a v)) = AreMade G

-- what holds of a member and its state
pub record IsMember (w : World) (i : ℕ) (s : State) : Type 0 where
  pub legal : IsLegal s.history
  pub me : me_of s.history ≡ i
  pub members : members_of s.history ≡ length w.states
  pub sound : IsSound s
  pub home : (o : Op) → IsIn o (ops s.history) → IsHome w o
  pub waits : (o : Op) → IsIn o s.waiting → IsHome w o
  pub acks : (a : ℕ) (v : List ℕ) → IsAck s.history a v → WasCount w a v
  pub own : AreMade s.history

-- and of a sent message
pub record IsMessage (w : World) (m : Message) : Type 0 where
  pub ops : (o : Op) → IsIn o m.ops → IsHome w o
  pub vector : WasCount w m.from m.vector

-- the invariant
pub record IsGood (w : World) : Type 0 where
  pub member : (i : ℕ) (s : State) → IsAt w i s → IsMember w i s
  pub message : (m : Message) → IsIn m w.sent → IsMessage w m

-- what a step makes of the state s of member i
pub record Becomes (w : World) (i : ℕ) (s t : State) : Type 0 where
  pub grows : IsFront s.history t.history
  pub legal : IsLegal t.history
  pub sound : IsSound t
  pub home : (o : Op) → IsIn o (ops t.history) → IsHome w o ⊎ (o.author ≡ i)
  pub waits : (o : Op) → IsIn o t.waiting → IsHome w o
  pub acks : (a : ℕ) (v : List ℕ) → IsAck t.history a v → WasCount w a v
  pub own : AreMade t.history

pub one_state : (w : World) (i j : ℕ) (s t : State) → IsAt w i s → IsAt w j t → i ≡ j → s ≡ t
one_state w i j s t h k e = some_is s t (sym h ∙ (ap (slice_get w.states) e ∙ k))

pub made_front : (P H : History) → IsFront P H → AreMade H → AreMade P
made_front P (history.Fresh group me members) h l = subst AreMade (sym h) l
made_front P (Then G e) (inl h) l = subst AreMade (sym h) l
made_front P (Then G (Accepted o)) (inr h) l = made_front P G h l.0
made_front P (Then G (Acknowledged a v)) (inr h) l = made_front P G h l

-- ---- another state of one member

-- member j of the new world is the one with the new state, or has its old one
pub at_split : (w : World) (i j : ℕ) (s t u : State) → IsAt w i s → IsAt (with_state w i t) j u → ((i ≡ j) × (t ≡ u)) ⊎ IsAt w j u
at_split w i j s t u h k =
    bool_cases (i == j)
    (λ e. let f = eq_is i j e in inl (f, some_is t u (sym (get_set_same w.states i s t h) ∙ (ap (slice_get (slice_set w.states i t)) f ∙ k))))
    (λ e. inr (sym (get_set_other w.states i j t (eq_not i j e)) ∙ k))

-- the state of member j has a later one, or itself, in the new world
pub at_later : (w : World) (i j : ℕ) (s t u : State) → IsAt w i s → IsFront s.history t.history → IsAt w j u → (v : State) × IsAt (with_state w i t) j v × IsFront u.history v.history
at_later w i j s t u h f k =
    bool_cases (i == j)
    (λ e. let g = eq_is i j e in
    (t, ap (slice_get (slice_set w.states i t)) (sym g) ∙ get_set_same w.states i s t h, subst (λ (x : State). IsFront x.history t.history) (one_state w i j s u h k g) f))
    (λ e. (u, get_set_other w.states i j t (eq_not i j e) ∙ k, front_self u.history))

pub home_later : (w : World) (i : ℕ) (s t : State) (o : Op) → IsAt w i s → IsFront s.history t.history → IsHome w o → IsHome (with_state w i t) o
home_later w i s t o h f k = let r = at_later w i o.author s t k.0 h f k.1 in (r.0, r.1, front_ops (k.0).history (r.0).history r.2 o k.2)

count_later : (w : World) (i : ℕ) (s t : State) (a : ℕ) (v : List ℕ) → IsAt w i s → IsFront s.history t.history → WasCount w a v → WasCount (with_state w i t) a v
count_later w i s t a v h f k = let r = at_later w i a s t k.0 h f k.2 in (r.0, k.1, r.1, front_trans k.1 (k.0).history (r.0).history k.3 r.2, k.4)

pub becomes_good : (w : World) (i : ℕ) (s t : State) → IsGood w → IsAt w i s → Becomes w i s t → IsGood (with_state w i t)
becomes_good w i s t g h b = record { member = λ j u k. ⊎_elim (λ e. subst (λ n. IsMember (with_state w i t) n u) e.0 (subst (IsMember (with_state w i t) i) e.1 new)) (λ q. old j u (g.member j u q)) (at_split w i j s t u h k); message = λ m p. sent m (g.message m p) }
  where
    new : IsMember (with_state w i t) i t
    new =
        let r = g.member i s h in
        record {
          legal = b.legal;
          me = sym (front_me s.history t.history b.grows) ∙ r.me;
          members = sym (front_members s.history t.history b.grows) ∙ (r.members ∙ sym (length-set w.states i t));
          sound = b.sound;
          home = λ o p. ⊎_elim (λ q. home_later w i s t o h b.grows q) (λ q. (t, ap (slice_get (slice_set w.states i t)) q ∙ get_set_same w.states i s t h, p)) (b.home o p);
          waits = λ o p. home_later w i s t o h b.grows (b.waits o p);
          acks = λ a v p. count_later w i s t a v h b.grows (b.acks a v p);
          own = b.own;
        }

    old : (j : ℕ) (u : State) → IsMember w j u → IsMember (with_state w i t) j u
    old j u r = record {
      legal = r.legal;
      me = r.me;
      members = r.members ∙ sym (length-set w.states i t);
      sound = r.sound;
      home = λ o p. home_later w i s t o h b.grows (r.home o p);
      waits = λ o p. home_later w i s t o h b.grows (r.waits o p);
      acks = λ a v p. count_later w i s t a v h b.grows (r.acks a v p);
      own = r.own;
    }

    sent : (m : Message) → IsMessage w m → IsMessage (with_state w i t) m
    sent m r = record { ops = λ o p. home_later w i s t o h b.grows (r.ops o p); vector = count_later w i s t m.from m.vector h b.grows r.vector }
