-- What was inserted in a good world stays where it was put, and is shown, unless somebody who has it deletes it.
use Rattle.std.proofs.Common.{◌≡◌, ◌∙◌, ℕ, Bool, List, [], ◌∷◌, ◌++◌, take, drop, sym, ap, subst, inl, inr, ◌⊎◌, ⊎_elim}
use Rattle.std.specs.Prelude.{not, None, IsTrue}
use Rattle.rls_ident.specs.Lists.{IsIn}
use Rattle.rls_ident.proofs.Members.{bool_cases, filter_in, in_all, in_any, in_left, in_right}
use Rattle.rls_ops.specs.declared.op.Op.{Op}
use Rattle.rls_model.specs.declared.edit.Edit.{Edit}
use Rattle.rls_model.specs.declared.edit.Edit.TheVariants as edits
use Rattle.rls_model.specs.Document.{Character, chars, chars_of, has_ident, ident_in, is_named, live, targets_of}
use Rattle.rls_model.specs.Editing.{edit_fault, made}
use Rattle.rls_model.specs.History.{Accepted, History, Then, ops}
use Rattle.rls_model.specs.Laws.{AreInOrder, IsFront, IsGathered, IsNamedBy, IsPartOf, IsPast, Shows, edited, list_deleted, precedes}
use Rattle.rls_model.specs.Legal.{IsLegal}
use Rattle.rls_model.specs.WellFormed.{IsEdit}
use Rattle.rls_model.specs.Worlds.{World}
use Rattle.rls_model.proofs.HistoryNumbers.{front_legal, front_me, front_ops, front_self, front_trans, op_front}
use Rattle.rls_model.proofs.OneOrder as order
use Rattle.rls_model.proofs.WorldsInvariant.{IsGood, IsHome, made_front}
use Rattle.rls_model.proofs.WorldsLaws.{good_after}
use Rattle.rls_passages.specs.Lasting.{IsDeletedIn, StandBetween, StayUnlessDeleted, WorldsLast}

-- ---- lists in order

in_order : (lt : Character → Character → Bool) (xs ys : List Character) → AreInOrder lt (xs ++ ys) → (a b : Character) → IsIn a xs → IsIn b ys → IsTrue (lt a b)
in_order lt [] ys h a b p q = absurd p
in_order lt (x ∷ xs) ys h a b (inl e) q = subst (λ (y : Character). IsTrue (lt y b)) e (in_all (λ d. lt x d) b (xs ++ ys) h.0 (in_right b xs ys q))
in_order lt (x ∷ xs) ys h a b (inr p) q = in_order lt xs ys h.1 a b p q

order_rest : (lt : Character → Character → Bool) (xs ys : List Character) → AreInOrder lt (xs ++ ys) → AreInOrder lt ys
order_rest lt [] ys h = h
order_rest lt (x ∷ xs) ys h = order_rest lt xs ys h.1

-- ---- what isn't shown is named

named_or_live : (H : History) (c : Character) → IsIn c (chars H) → IsIn c (live H) ⊎ ((d : Op) × IsIn d (ops H) × IsNamedBy H d c)
unfolding live is_named
named_or_live H c p =
    bool_cases (is_named H c)
    (λ e. inr (in_any (λ d. has_ident (targets_of d.body) (ident_in H d.epoch c)) (ops H) e))
    (λ e. inl (filter_in (λ x. not (is_named H x)) c (chars H) p (ap not e)))

-- whatever else had these histories
pub deleted_by : (M H : History) (c : Character) (P Q : ℕ → History → Type 0) → ((i : ℕ) (K : History) → P i K → Q i K) → IsDeletedIn M P H c → IsDeletedIn M Q H c
deleted_by M H c P Q f d = record {
  before = d.before;
  at = d.at;
  count = d.count;
  shown = d.shown;
  fits = d.fits;
  author = f _ _ d.author;
  known = d.known;
  shows = d.shows;
  among = d.among;
}

module _ (w : World) (g : IsGood w) where
  pub past_legal : (i : ℕ) (H : History) → IsPast w i H → IsLegal H
  past_legal i H p = front_legal H (p.0).history p.2 (g.member i p.0 p.1).legal

  pub past_home : (i : ℕ) (H : History) → IsPast w i H → (o : Op) → IsIn o (ops H) → IsHome w o
  past_home i H p o q = (g.member i p.0 p.1).home o (front_ops H (p.0).history p.2 o q)

  -- an edit of its author made an operation that a member knew
  pub past_made : (i : ℕ) (K : History) (o : Op) → IsPast w i K → IsIn o (ops K) → (H : History) × (edit : Edit) × IsPast w o.author (edited H edit) × IsEdit edit × (edit_fault H edit ≡ None) × (made H edit ≡ o)
  past_made i K o p q =
      let t = past_home i K p o q in
      let its = g.member o.author t.0 t.1 in
      let r = op_front (t.0).history o t.2 in
      let e = (made_front (Then r.0 (Accepted o)) (t.0).history r.1 its.own).1 (sym its.me ∙ sym (front_me (Then r.0 (Accepted o)) (t.0).history r.1)) in
      (r.0, e.0, (t.0, t.1, subst (λ x. IsFront (Then r.0 (Accepted x)) (t.0).history) (sym e.3) r.1), e.1, e.2, e.3)

  -- before an edit was what it was made of
  past_before : (i : ℕ) (H : History) (edit : Edit) → IsPast w i (edited H edit) → IsPast w i H
  past_before i H edit p = (p.0, p.1, front_trans H (edited H edit) (p.0).history (inr (front_self H)) p.2)

  module _ (M : History) (all : IsGathered w M) where
    pub past_part : (i : ℕ) (H : History) → IsPast w i H → IsPartOf H M
    past_part i H p o q = (all.1 o).1 (i, p.0, p.1, front_ops H (p.0).history p.2 o q)

    -- only a deletion is to take anything out
    taken_out : (K H : History) (edit : Edit) (cs : List Character) (c : Character) → edit_fault H edit ≡ None → IsPast w (made H edit).author (edited H edit) → IsIn (made H edit) (ops K) → Shows (precedes M) H cs → IsIn c (list_deleted edit cs) → IsDeletedIn M (IsPast w) K c
    taken_out K H (edits.Insert at text) cs c f p known shows among = absurd among
    taken_out K H (edits.Delete at count) cs c f p known shows among = record { before = H; at = at; count = count; shown = cs; fits = f; author = p; known = known; shows = shows; among = among }
    taken_out K H edits.Rename cs c f p known shows among = absurd among
    taken_out K H edits.Leave cs c f p known shows among = absurd among

    deleted : (i : ℕ) (K : History) (c : Character) → IsPast w i K → IsIn c (chars K) → (H : History) (edit : Edit) → edit_fault H edit ≡ None → IsPast w (made H edit).author (edited H edit) → IsIn (made H edit) (ops K) → IsNamedBy K (made H edit) c → IsDeletedIn M (IsPast w) K c
    deleted i K c p q H edit f by known named =
        let was = past_before (made H edit).author H edit by in
        let h = past_legal (made H edit).author H was in
        let part = past_part (made H edit).author H was in
        let cs = (order.law M all.0).2 H h part in
        taken_out K H edit cs.0 c f by known cs.1 (((order.law M all.0).4 H K edit cs.0 c h part (past_legal i K p) (past_part i K p) cs.1 known q).0 named)

    pub stay : StayUnlessDeleted M (IsPast w)
    stay i K c p q = ⊎_elim (λ l. inl l) (λ d. inr (by_edit d.0 d.1 d.2)) (named_or_live K c q)
      where
        by_edit : (d : Op) → IsIn d (ops K) → IsNamedBy K d c → IsDeletedIn M (IsPast w) K c
        by_edit d known named =
            let m = past_made i K d p known in
            deleted i K c p q m.0 m.1 m.4
            (subst (λ (o : Op). IsPast w o.author (edited m.0 m.1)) (sym m.5) m.2)
            (subst (λ (o : Op). IsIn o (ops K)) (sym m.5) known)
            (subst (λ (o : Op). IsNamedBy K o c) (sym m.5) named)

    pub between : StandBetween M (IsPast w)
    between i at text H cs c is fits p shows q =
        let edit = edits.Insert at text in
        let o = made H edit in
        let was = past_before i H edit p in
        let after = (order.law M all.0).3 H edit cs (past_legal i H was) is fits (past_part i (edited H edit) p) shows in
        let new = chars_of o o.body in
        let sorted : AreInOrder (precedes M) (take at cs ++ (new ++ drop at cs)) = after.1 in (
          λ a r. in_order (precedes M) (take at cs) (new ++ drop at cs) sorted a c r (in_left c new (drop at cs) q),
          λ b r. in_order (precedes M) new (drop at cs) (order_rest (precedes M) (take at cs) (new ++ drop at cs) sorted) c b q r,
        )

pub law : WorldsLast
law w hs M a all = let g = good_after w hs a in (stay w g M all, between w g M all)
