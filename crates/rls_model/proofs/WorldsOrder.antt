-- In a world one order orders all characters, and each operation was made by an edit.
use Rattle.std.proofs.Common.{ℕ, List, sym, ap, ◌∙◌, subst}
use Rattle.std.specs.Prelude.{None}
use Rattle.rls_ident.specs.Lists.{IsIn}
use Rattle.rls_ops.specs.declared.op.Op.{Op}
use Rattle.rls_model.specs.History.{Accepted, History, Then}
use Rattle.rls_model.specs.Document.{Character, chars}
use Rattle.rls_model.specs.Legal.{IsLegal}
use Rattle.rls_model.specs.Worlds.{World, with_state, edit_at, step_of, unless, happens, Happening, run}
use Rattle.rls_model.specs.declared.event.Event.TheVariants as events
use Rattle.rls_model.specs.Laws.{edited, IsFront, IsPast, IsPartOf, WasInserted, WasMade, EditAlone, MadeByEdits, StrongList}
use Rattle.rls_model.proofs.SameOps.{same_chars}
use Rattle.rls_model.proofs.OneOrder as order
use Rattle.rls_model.proofs.HistoryNumbers.{front_self, front_legal, front_me, front_ops, op_front}
use Rattle.rls_model.proofs.WorldsInvariant.{made_front}
use Rattle.rls_model.proofs.WorldsLaws.{good_after, rests_after}
use Rattle.rls_model.proofs.WorldsPast.{edit_none, run_past}
use Rattle.rls_model.proofs.NothingReady.{made_alone}

pub made_by_edits : MadeByEdits
made_by_edits w hs o a k =
    let g = good_after w hs a in
    let t = (g.member k.0 k.1 k.2).home o k.3 in
    let its = g.member o.author t.0 t.1 in
    let r = op_front (t.0).history o t.2 in
    let e = (made_front (Then r.0 (Accepted o)) (t.0).history r.1 its.own).1 (sym its.me ∙ sym (front_me (Then r.0 (Accepted o)) (t.0).history r.1)) in
    (r.0, e.0, (t.0, t.1, subst (λ x. IsFront (Then r.0 (Accepted x)) (t.0).history) (sym e.3) r.1), e.1, e.2, e.3)

pub edit_alone : EditAlone
unfolding happens
edit_alone w hs i s edit a q h f =
    ap (λ x. unless x w (step_of None w (events.Edit i edit))) (edit_none w i s edit h f)
    ∙ (ap (λ m. edit_at None w i m edit) h ∙ ap (with_state w i) (made_alone w i s edit (good_after w hs a) h (rests_after w hs a q i s h)))

-- what was made stays made
made_later : (w : World) (ks : List Happening) (o : Op) → WasMade w o → WasMade (run w ks) o
made_later w ks o k =
    let r = run_past w ks k.0 (k.1).history (k.1, k.2, front_self (k.1).history) in
    (k.0, r.0, r.1, front_ops (k.1).history (r.0).history r.2 o k.3)

pub strong_list : StrongList
strong_list w hs M a all =
    let g = good_after w hs a in
    let legal : (i : ℕ) (H : History) → IsPast w i H → IsLegal H = λ i H p. front_legal H (p.0).history p.2 (g.member i p.0 p.1).legal in
    let part : (i : ℕ) (H : History) → IsPast w i H → IsPartOf H M = λ i H p o q. (all.1 o).1 (i, p.0, p.1, front_ops H (p.0).history p.2 o q) in
    let within : (c : Character) → WasInserted w c → IsIn c (chars M) = λ c p. same_chars (p.1).history M (λ o q. (all.1 o).1 (p.0, p.1, p.2, q)) c p.3 in
    let l = order.law M all.0 in (
      ((l.0).0, (l.0).1, λ c d p q. (l.0).2 c d (within c p) (within d q)),
      λ ks N c d n p q. (order.law N n.0).1 M c d all.0 (λ o r. (n.1 o).1 (made_later w ks o ((all.1 o).0 r))) (within c p) (within d q),
      λ i H p. l.2 H (legal i H p) (part i H p),
      λ i H edit cs e f p s. l.3 H edit cs (legal i (edited H edit) p).0 e f (part i (edited H edit) p) s,
      λ i j H K edit cs c p q s m n. l.4 H K edit cs c (legal i H p) (part i H p) (legal j K q) (part j K q) s m n,
    )
