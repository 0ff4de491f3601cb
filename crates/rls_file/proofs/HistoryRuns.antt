-- A history of which each accepted operation has a spelling stays one, and goes on as what is stored, where a replica is made, edits and takes messages.
use Rattle.std.proofs.Common.{◌≡◌, ◌∙◌, ℕ, List, [], ◌∷◌, length, Option, Some, None, Ok, refl, ap, subst, arith}
use Rattle.rls_ident.specs.Lists.{IsIn}
use Rattle.rls_ops.specs.declared.op.Op.{Op}
use Rattle.rls_codec.specs.Spelled.{Chained, FitsVector, IsSpelled}
use Rattle.rls_model.specs.declared.edit.Edit.{Edit}
use Rattle.rls_model.specs.EditRun.{edit_step, run_lines}
use Rattle.rls_model.specs.History.{members_of}
use Rattle.rls_model.specs.Machine.{one_less}
use Rattle.rls_model.specs.Taking.{Progress, by_history, receive_step, started, take_ops, take_within, with_releases}
use Rattle.rls_model.proofs.Machines.{edit_unlimited, receive_keeps, running_keeps}
use Rattle.rls_model.proofs.NothingReady.{steps_rest, taken_done}
use Rattle.rls_file.specs.Storable.{IsStorable}
use Rattle.rls_file.specs.Histories.{FreshIsStorable, LinesKeepStorable, TakenIsStorable}
use Rattle.rls_file.proofs.HistorySteps.{IsStoring, edited_storing, noted_storing, releases_storing, steps_storing, stored, storing}

pub fresh_storable : FreshIsStorable
fresh_storable group me members h = record { legal = h; sound = tt; accepted = tt; waiting = λ w p. absurd p; others = λ w p e. absurd p; rest = refl }

-- ---- a message

ops_storing : (n : ℕ) (before : Option Op) (p : Progress) (os : List Op) → IsStoring n p.state → Chained (λ b. IsSpelled n) before os → IsStoring n (take_ops p os).state
ops_storing n before p [] s c = s
ops_storing n before p (o ∷ os) s c =
    let q = receive_step p o in
    ops_storing n (Some o) (with_releases q) os (releases_storing n (length (q.state).waiting) q (receive_keeps by_history (IsStoring n) p o ((steps_storing n).receives p.state o c.0 s) s)) c.1

pub taken_storable : TakenIsStorable
unfolding take_within
taken_storable t bytes m f e s =
    let n = members_of t.history in
    let v = f.2 in
    let p = take_ops (started None t) m.ops in
    let from = v.from in
    stored n (take_within None t m).state
    (noted_storing n p m.from m.vector (ops_storing n None (started None t) m.ops (storing t s) (subst (λ k. Chained (λ b. IsSpelled k) None m.ops) e v.ops)) (omega arith) (subst (λ k. FitsVector k m.vector) e v.vector))
    (taken_done t m s.rest).1

-- ---- lines

-- a step on the way
record IsOnWay (p : Progress) : Type 0 where
  storable : IsStorable p.state
  limit : p.limit ≡ None

pub lines_storable : {L F : Type 0} → LinesKeepStorable L F
unfolding run_lines
lines_storable {L} reads t lines p w s e = (running_keeps by_history reads IsOnWay lines line 1 (started None t) p e (record { storable = s; limit = refl })).storable
  where
    line : (l : L) → IsIn l lines → (q : Progress) (edit : Edit) → reads q.state l ≡ Ok edit → IsOnWay q → IsOnWay (with_releases (edit_step q edit))
    line l u q edit r h =
        let b = w l u q.state edit r in
        let n = members_of (q.state).history in
        let x = edit_step q edit in
        let k = length (x.state).waiting in
        let none : x.limit ≡ None = ap (λ (p : Progress). p.limit) (edit_unlimited by_history q edit h.limit) ∙ ap one_less h.limit in
        let d = steps_rest k x none (omega arith) in
        record { storable = stored n (with_releases x).state (releases_storing n k x (edited_storing n q edit (storing q.state h.storable) b.0 b.1)) d.1; limit = d.0 }
