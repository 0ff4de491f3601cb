-- An operation that arrives first under its number and fits is applied.
use Rattle.std.proofs.Common.{◌≡◌, Bool, true, false, List, [], ◌∷◌, ◌++◌, refl, sym, ap, ◌∙◌, subst, inl}
use Rattle.std.specs.Prelude.{if◌then◌else◌, not, ◌&&◌, ◌==◌, Option, Some, None}
use Rattle.rls_ident.specs.Lists.{IsIn}
use Rattle.rls_ident.proofs.Members.{found_in, in_right, neq_test, not_le_test}
use Rattle.rls_ops.specs.declared.op.Op.{Op}
use Rattle.rls_ops.specs.declared.message.Message.{Message}
use Rattle.rls_ops.specs.Shapes.{shape_fault}
use Rattle.rls_ops.proofs.Waiting.{numbered_is}
use Rattle.rls_model.specs.Answers.{Answer, Applies, Repeats, Refuses, Own}
use Rattle.rls_model.specs.History.{ops, count, count_of, me_of, members_of}
use Rattle.rls_model.specs.Fitting.{refusal}
use Rattle.rls_model.specs.Receiving.{State, is_numbered, waiting_under, verdict_of, answer_beside, answer_by, answer, accept, after, receive, receive_after}
use Rattle.rls_model.specs.Legal.{IsLegal}
use Rattle.rls_model.specs.Taking.{Limit, has_room, Progress, started, moved, with_answer, receive_step, with_releases, acknowledge_step, take_ops, take_within}
use Rattle.rls_model.specs.Laws.{MayArrive, ArrivalApplied}
use Rattle.rls_model.proofs.Answered.{may_accept}
use Rattle.rls_model.proofs.HistoryNumbers.{front_ops}
use Rattle.rls_model.proofs.WorldsArrivals.{beside_none, beside_same}
use Rattle.rls_model.proofs.WorldsPast.{releases_go_on, ops_go_on, noting_goes_on}

pub applies : (s : State) (o : Op) → MayArrive s o → receive s o ≡ Applies
unfolding answer
applies s o a = shape ∙ (number ∙ (own ∙ (beside (waiting_under s.waiting o.author o.seq) refl ∙ (beside_none s.history o true a.causes ∙ ap verdict_of a.fits))))
  where
    rest : Answer
    rest = answer_beside (count s.history) (refusal s.history o) o (waiting_under s.waiting o.author o.seq)

    at_own : Bool → Answer
    at_own b = if not false && b then Refuses (Own o.seq) else rest

    shape : answer_by false (count s.history) (me_of s.history) s.waiting (refusal s.history o) o (shape_fault (members_of s.history) o) ≡ answer_by false (count s.history) (me_of s.history) s.waiting (refusal s.history o) o None
    shape = ap (answer_by false (count s.history) (me_of s.history) s.waiting (refusal s.history o) o) a.shape

    number : answer_by false (count s.history) (me_of s.history) s.waiting (refusal s.history o) o None ≡ at_own (o.author == me_of s.history)
    number = ap (λ b. if b then Repeats else at_own (o.author == me_of s.history)) (not_le_test o.seq (count_of s.history o.author) a.first)

    own : at_own (o.author == me_of s.history) ≡ rest
    own = ap at_own (neq_test o.author (me_of s.history) a.other)

    beside : (m : Option Op) → waiting_under s.waiting o.author o.seq ≡ m → rest ≡ answer_beside (count s.history) (refusal s.history o) o None
    beside None e = ap (answer_beside (count s.history) (refusal s.history o) o) e
    beside (Some x) e =
        let r = found_in (is_numbered o.author o.seq) x s.waiting e in
        let n = numbered_is o.author o.seq x r.1 in
        ap (answer_beside (count s.history) (refusal s.history o) o) e ∙ beside_same s.history o x (a.alone x r.0 n.0 n.1)

after_is : (s : State) (o : Op) → MayArrive s o → receive_after s o ≡ accept s o
after_is s o a = ap (λ r. after r s o) (applies s o a)

accepted_in : (s : State) (o : Op) → IsIn o (ops (accept s o).history)
accepted_in s o = in_right o (ops s.history) (o ∷ []) (inl refl)

received_in : (p : Progress) (o : Op) → has_room p.limit ≡ true → MayArrive p.state o → IsIn o (ops ((receive_step p o).state).history)
received_in p o r a =
    let q : Bool → Progress = λ b. if b then with_answer (moved p (receive_after p.state o)) o (receive p.state o) else p in
    subst (λ b. IsIn o (ops ((q b).state).history)) (sym r)
    (subst (λ x. IsIn o (ops ((with_answer (moved p (after x p.state o)) o x).state).history)) (sym (applies p.state o a)) (accepted_in p.state o))

take_append : (p : Progress) (os : List Op) (o : Op) (ps : List Op) → take_ops p (os ++ (o ∷ ps)) ≡ take_ops (with_releases (receive_step (take_ops p os) o)) ps
take_append p [] o ps = refl
take_append p (x ∷ os) o ps = take_append (with_releases (receive_step p x)) os o ps

taken_in : (s : State) (m : Message) (limit : Limit) (before behind : List Op) (o : Op) → m.ops ≡ before ++ (o ∷ behind) → has_room (take_ops (started limit s) before).limit ≡ true → MayArrive (take_ops (started limit s) before).state o →
    IsIn o (ops ((take_within limit s m).state).history)
unfolding take_within
taken_in s m limit before behind o e r a =
    let p = take_ops (started limit s) before in
    let q = receive_step p o in
    let u = take_ops (with_releases q) behind in
    let h = front_ops (q.state).history ((with_releases q).state).history (releases_go_on q) o (received_in p o r a) in
    let k = front_ops ((with_releases q).state).history (u.state).history (ops_go_on (with_releases q) behind) o h in
    let all = take_ops (started limit s) m.ops in
    front_ops (all.state).history ((acknowledge_step all m.from m.vector).state).history (noting_goes_on all m.from m.vector) o
    (subst (λ (x : Progress). IsIn o (ops (x.state).history)) (sym (ap (take_ops (started limit s)) e ∙ take_append (started limit s) before o behind)) k)

pub law : ArrivalApplied
law = (
  λ s o a. (
    applies s o a,
    subst (λ (t : State). IsIn o (ops t.history)) (sym (after_is s o a)) (accepted_in s o),
    λ l p. subst (λ (t : State). IsLegal t.history) (sym (after_is s o a)) (l, p, may_accept s.history o a.shape a.first a.causes a.fits),
  ),
  taken_in,
)
