-- After a whole event nothing that waits is ready, and an edit makes nothing ready.
use Rattle.std.proofs.Common.{◌≡◌, ℕ, zero, suc, ◌≤◌, ◌<◌, Bool, true, false, List, [], ◌∷◌, length, refl, sym, ap, ◌∙◌, subst, arith, nat_lt}
use Rattle.std.specs.Prelude.{if◌then◌else◌, slice_index, Option, Some, None}
use Rattle.std.specs.List.{find}
use Rattle.rls_ident.specs.Lists.{IsIn}
use Rattle.rls_ident.specs.Vectors.{at_most, raise}
use Rattle.rls_ident.proofs.Members.{bool_cases, found_in, in_left, lt_is, lt_test, none_found, not_found, not_true, true_false}
use Rattle.rls_ident.proofs.Vectors.{below_raised}
use Rattle.rls_ops.specs.declared.op.Op.{Op}
use Rattle.rls_ops.specs.declared.message.Message.{Message}
use Rattle.rls_model.specs.declared.edit.Edit.{Edit}
use Rattle.rls_model.specs.Answers.{Reason}
use Rattle.rls_model.specs.History.{Accepted, Acknowledged, History, Then, ops, count, count_of}
use Rattle.rls_model.specs.Stability.{is_counted}
use Rattle.rls_model.specs.Fitting.{refusal}
use Rattle.rls_model.specs.Receiving.{State, without, accept, after_refusal, first_ready, release, release_of}
use Rattle.rls_model.specs.Legal.{IsLegal}
use Rattle.rls_model.specs.Editing.{made}
use Rattle.rls_model.specs.Taking.{by_history, Limit, has_room, one_less, Progress, started, moved, with_refusal, with_release, receive_step, release_step, release_steps, with_releases, acknowledge, acknowledge_step, take_ops, take_within}
use Rattle.rls_model.specs.EditRun.{edit_step, edit_within}
use Rattle.rls_model.specs.Worlds.{World}
use Rattle.rls_model.specs.Laws.{IsAt}
use Rattle.rls_model.proofs.Machines.{none_ready, received_limit, releases_stay, taking_keeps}
use Rattle.rls_model.proofs.HistoryNumbers.{IsFront, with_number, front_legal, front_me, front_ops, op_front, own_context}
use Rattle.rls_model.proofs.WaitingFits.{in_without, less_without, numbered_test}
use Rattle.rls_model.proofs.WorldsInvariant.{IsHome, IsMember, IsGood}
use Rattle.rls_model.proofs.WorldsArrivals.{own_counted}
use Rattle.rls_model.proofs.MemberSteps.{released_by, release_is}

-- nothing that waits is ready
abbrev pub IsAtRest : State → Type 0
IsAtRest s = first_ready s ≡ None

-- ---- releases

rest_step : (p : Progress) → IsAtRest p.state → release_step p ≡ p
rest_step p r = none_ready by_history p (ap (release_of p.state) r)

pub rest_steps : (n : ℕ) (p : Progress) → IsAtRest p.state → release_steps n p ≡ p
rest_steps n p r = releases_stay by_history n p (rest_step p r)

pub empty_rests : (t : Op → Bool) (W : List Op) → length W ≤ 0 → find t W ≡ None
empty_rests t [] h = refl
empty_rests t (w ∷ ws) h = absurd (omega arith)

-- what one release leaves
record Leaves (p q : Progress) : Type 0 where
  less : length (q.state).waiting < length (p.state).waiting
  limit : q.limit ≡ one_less p.limit

refused_leaves : (p : Progress) (x : Op) (r : Option Reason) → IsIn x (p.state).waiting → Leaves p (with_refusal (moved p (after_refusal r p.state x)) x.author x.seq r)
refused_leaves p x None q = record { less = less_without x.author x.seq x (p.state).waiting q (numbered_test x.author x.seq x refl refl); limit = refl }
refused_leaves p x (Some r) q = record { less = less_without x.author x.seq x (p.state).waiting q (numbered_test x.author x.seq x refl refl); limit = refl }

pub steps_rest : (n : ℕ) (p : Progress) → p.limit ≡ None → length (p.state).waiting ≤ n → ((release_steps n p).limit ≡ None) × IsAtRest (release_steps n p).state
steps_rest zero p e h = (e, empty_rests (λ x. at_most x.context (count (p.state).history)) (p.state).waiting h)
steps_rest (suc n) p e h = go (first_ready p.state) refl (λ q f k. steps_rest n q f k)
  where
    step : release_step p ≡ released_by p (first_ready p.state)
    step = ap (λ l. if has_room l then with_release p (release p.state) else p) e ∙ release_is p (first_ready p.state) refl

    go : (m : Option Op) → first_ready p.state ≡ m → ((q : Progress) → q.limit ≡ None → length (q.state).waiting ≤ n → ((release_steps n q).limit ≡ None) × IsAtRest (release_steps n q).state) →
        ((release_steps n (release_step p)).limit ≡ None) × IsAtRest (release_steps n (release_step p)).state
    go None f ih = subst (λ (q : Progress). (q.limit ≡ None) × IsAtRest q.state) (sym (ap (release_steps n) (rest_step p f) ∙ rest_steps n p f)) (e, f)
    go (Some x) f ih =
        let q = found_in (λ y. at_most y.context (count (p.state).history)) x (p.state).waiting f in
        let l = refused_leaves p x (refusal (p.state).history x) q.0 in
        let g : release_step p ≡ released_by p (Some x) = step ∙ ap (released_by p) f in
        let k = l.less in
        subst (λ (q : Progress). ((release_steps n q).limit ≡ None) × IsAtRest (release_steps n q).state) (sym g)
        (ih (released_by p (Some x)) (l.limit ∙ ap one_less e) (omega arith))

-- ---- whole events

-- without a limit, and at rest
abbrev pub IsDone : Progress → Type 0
IsDone p = (p.limit ≡ None) × IsAtRest p.state

pub released_done : (p : Progress) → p.limit ≡ None → IsDone (with_releases p)
released_done p e = steps_rest (length (p.state).waiting) p e (omega arith)

ops_done : (p : Progress) (os : List Op) → IsDone p → IsDone (take_ops p os)
ops_done p os d = taking_keeps by_history (λ os. IsDone) (λ o os q e. released_done (receive_step q o) (received_limit by_history q o e.0)) os p d

noted_done : (p : Progress) (a : ℕ) (v : List ℕ) → IsDone p → IsDone (acknowledge_step p a v)
noted_done p a v d = go (has_room p.limit)
  where
    note : (b : Bool) → IsAtRest (if b then record { history = Then (p.state).history (Acknowledged a v); waiting = (p.state).waiting } else p.state)
    note true = d.1
    note false = d.1

    go : (b : Bool) → IsDone (if b then moved p (acknowledge p.state a v) else p)
    go true = (ap one_less d.0, note (is_counted (p.state).history a v))
    go false = d

pub taken_done : (s : State) (m : Message) → IsAtRest s → IsDone (take_within None s m)
unfolding take_within
taken_done s m r = noted_done (take_ops (started None s) m.ops) m.from m.vector (ops_done (started None s) m.ops (refl, r))

pub edited_done : (s : State) (edit : Edit) → IsDone (edit_within None s edit)
unfolding edit_within
edited_done s edit = released_done (edit_step (started None s) edit) refl

-- ---- an edit makes nothing ready

-- the context of another's operation counts no own operation that wasn't made
own_known : (w : World) (i : ℕ) (s : State) (x : Op) → IsGood w → IsAt w i s → IsHome w x → slice_index x.context i ≤ count_of s.history i
own_known w i s x g h k =
    bool_cases (nat_lt 0 (count_of r.0 i))
    (λ e. let y = with_number r.0 l.0 i (count_of r.0 i) (lt_is 0 (count_of r.0 i) e) (omega arith) in
    let c = own_counted w i s y.0 g h (t.home y.0 (front_ops (Then r.0 (Accepted x)) (k.0).history r.1 y.0 (in_left y.0 (ops r.0) (x ∷ []) y.1))) y.2 in
    let d : count_of s.history (y.0).author ≡ count_of s.history i = ap (count_of s.history) y.2 in
    let f = y.3 in
    let j = is in
    omega arith)
    (λ e. let n = zero_of (count_of r.0 i) e in let j = is in omega arith)
  where
    t : IsMember w x.author k.0
    t = g.member x.author k.0 k.1

    r : (P : History) × IsFront (Then P (Accepted x)) (k.0).history
    r = op_front (k.0).history x k.2

    l : IsLegal (Then r.0 (Accepted x))
    l = front_legal (Then r.0 (Accepted x)) (k.0).history r.1 t.legal

    is : slice_index x.context i ≡ count_of r.0 i
    is = ap (λ v. slice_index v i) (own_context r.0 x l (sym t.me ∙ sym (front_me (Then r.0 (Accepted x)) (k.0).history r.1)))

    zero_of : (n : ℕ) → nat_lt 0 n ≡ false → n ≡ 0
    zero_of zero e = refl
    zero_of (suc n) e = absurd (true_false (nat_lt 0 (suc n)) (lt_test 0 (suc n) (omega arith)) e)

made_rests : (w : World) (i : ℕ) (s : State) (o : Op) → IsGood w → IsAt w i s → IsAtRest s → o.author ≡ i → IsAtRest (accept s o)
made_rests w i s o g h r e =
    none_found (λ x. at_most x.context (count (Then s.history (Accepted o)))) (without o.author o.seq s.waiting)
    (λ x p. let q = (in_without o.author o.seq x s.waiting p).0 in
    not_true (at_most x.context (raise (count s.history) o.author)) (λ c.
    true_false (at_most x.context (count s.history))
    (below_raised x.context (count s.history) o.author c (subst (λ a. slice_index x.context a ≤ count_of s.history a) (sym e) (own_known w i s x g h ((g.member i s h).waits x q))))
    (not_found (λ y. at_most y.context (count s.history)) x s.waiting r q)))

-- so an edit adds its operation alone
pub made_alone : (w : World) (i : ℕ) (s : State) (edit : Edit) → IsGood w → IsAt w i s → IsAtRest s → (edit_within None s edit).state ≡ accept s (made s.history edit)
unfolding edit_within made
made_alone w i s edit g h r =
    let q = moved (started None s) (accept s (made s.history edit)) in
    ap (λ (p : Progress). p.state) (rest_steps (length (q.state).waiting) q (made_rests w i s (made s.history edit) g h r (g.member i s h).me))

pub none_released : (w : World) (i : ℕ) (s : State) (edit : Edit) (limit : Limit) → IsGood w → IsAt w i s → IsAtRest s → (edit_within limit s edit).counts.released ≡ 0
unfolding edit_within made
none_released w i s edit limit g h r = go (has_room limit)
  where
    go : (b : Bool) → (with_releases (if b then moved (started limit s) (accept s (made s.history edit)) else started limit s)).counts.released ≡ 0
    go true =
        let q = moved (started limit s) (accept s (made s.history edit)) in
        ap (λ (p : Progress). p.counts.released) (rest_steps (length (q.state).waiting) q (made_rests w i s (made s.history edit) g h r (g.member i s h).me))
    go false = ap (λ (p : Progress). p.counts.released) (rest_steps (length s.waiting) (started limit s) r)
