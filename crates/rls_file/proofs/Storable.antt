-- A replica that may be written as a file may be written after edits and after messages, whether or not a history stands behind it.
use Rattle.std.proofs.Common.{◌≡◌, ◌≢◌, ◌∙◌, ◌<◌, ◌≤◌, ◌&&◌, ℕ, zero, suc, Bool, true, false, cond, not, eqb, nat_lt, List, [], ◌∷◌, length, Option, Some, None, Ok, refl, sym, ap, subst, arith, ⊎_elim, inl, inr}
use Rattle.std.specs.Prelude.{if◌then◌else◌}
use Rattle.std.specs.List.{find}
use Rattle.std.proofs.lemmas.Bool.Decides.{nat_tests}
use Rattle.rls_ident.specs.declared.limits.TheConstants.{OPERATION_BYTES, GREATEST_NUMBER}
use Rattle.rls_ident.specs.Lists.{IsIn}
use Rattle.rls_ident.specs.Vectors.{at_most}
use Rattle.rls_ident.proofs.Members.{found_in}
use Rattle.rls_ops.specs.declared.op.Op.{Op}
use Rattle.rls_ops.specs.declared.op.Shape.{Shape}
use Rattle.rls_ops.specs.Rows.{counts, left, noted}
use Rattle.rls_ops.specs.Shapes.{shape_fault}
use Rattle.rls_ops.specs.Sizes.{op_size}
use Rattle.rls_ops.specs.WellFormed.{IsInRange, IsOp}
use Rattle.rls_ops.proofs.Waiting.{in_with, in_without, less_without, numbered_test}
use Rattle.rls_codec.specs.Spelled.{Chained, IsSpelled}
use Rattle.rls_codec.proofs.SizeLaws.{op_length}
use Rattle.rls_codec.proofs.SpelledSound.{spelled_op, in_range}
use Rattle.rls_model.specs.declared.edit.Edit.{Edit}
use Rattle.rls_model.specs.declared.edit.EditError.{EditError}
use Rattle.rls_model.specs.declared.edit.EditError.TheVariants as errors
use Rattle.rls_model.specs.Answers.{Reason, Answer, Applies, Repeats, Waits, Refuses}
use Rattle.rls_model.specs.Editing.{or_fault, range_fault, size_fault}
use Rattle.rls_model.specs.Receiving.{answer_beside, answer_by, waiting_under, without}
use Rattle.rls_model.specs.Machine.{one_less, started}
use Rattle.rls_model.proofs.Machines.{edit_unlimited, received_limit, released_limit, releases_keep, running_keeps, taking_keeps}
use Rattle.rls_model.specs.WellFormed.{IsEdit}
use Rattle.rls_model.proofs.Made.{or_none}
use Rattle.rls_model.proofs.NothingReady.{empty_rests}
use Rattle.rls_seen.specs.Edits.{edit_fault_over, edited, made_over, op_fault_over}
use Rattle.rls_seen.specs.Messages.{by_parts, Course, receive_step, release_step, release_steps, with_releases, edit_step, take_ops, taken_within}
use Rattle.rls_seen.specs.Over.{answer_over, accepted, holding, received, refusal_over, first_ready, after_refusal, after_release, released, released_all, released_times, acknowledged}
use Rattle.rls_seen.specs.Sane.{IsSane}
use Rattle.rls_seen.specs.Seen.{Seen, members, own_count, vector, idents_over}
use Rattle.rls_seen.proofs.Counting.{members_accepted, members_received, members_released}
use Rattle.rls_seen.proofs.Logs.{logged_split}
use Rattle.rls_seen.proofs.Making.{edited_sane}
use Rattle.rls_seen.proofs.Repeating.{acknowledged_seen, received_seen, released_seen}
use Rattle.rls_seen.proofs.Staying.{acknowledged_sane, received_sane, released_all_sane, released_sane}
use Rattle.rls_seen.proofs.Accepting.{acks_me}
use Rattle.rls_file.specs.Stored.{AreWritable}
use Rattle.rls_file.specs.Kept.{FreshIsWritable, LinesKeepWritable, TakenIsWritable}

-- ---- operations

-- an operation that may be received and kept
pub record IsGiven (o : Op) : Type 0 where
  pub whole : IsOp o
  pub ranged : IsInRange o.body
  pub size : op_size o ≤ OPERATION_BYTES

pub given_op : (n : ℕ) (o : Op) → IsSpelled n o → IsGiven o
given_op n o s = let few = s.limit in record { whole = spelled_op n o s; ranged = in_range o.body s.body; size = omega (arith, op_length o, few) }

-- ---- states

-- no operation that is kept or waits is too large, and those that wait are of other members
pub record IsSized (s : Seen) : Type 0 where
  pub log : (o : Op) → IsIn o s.log → op_size o ≤ OPERATION_BYTES
  pub waiting : (w : Op) → IsIn w s.waiting → op_size w ≤ OPERATION_BYTES
  pub others : (w : Op) → IsIn w s.waiting → w.author ≢ s.acks.me

-- what may be written as a file, but for what is ready
pub record IsStoring (s : Seen) : Type 0 where
  pub sane : IsSane s
  pub sized : IsSized s

pub sized : (s : Seen) → AreWritable s → IsSized s
sized s w = record { log = w.log; waiting = w.waiting; others = w.others }

pub storing : (s : Seen) → IsSane s → AreWritable s → IsStoring s
storing s h w = record { sane = h; sized = sized s w }

pub writable : (s : Seen) → IsSized s → first_ready s ≡ None → AreWritable s
writable s h r = record { log = h.log; waiting = h.waiting; others = h.others; rest = r }

accept_sized : (s : Seen) (o : Op) → IsSized s → op_size o ≤ OPERATION_BYTES → IsSized (accepted s o)
unfolding accepted
accept_sized s o h few = record {
  log = λ x p. ⊎_elim (λ q. h.log x q) (λ e. subst (λ (y : Op). op_size y ≤ OPERATION_BYTES) e few) (logged_split _ s.log o x p);
  waiting = λ w p. h.waiting w (in_without o.author o.seq w s.waiting p).0;
  others = λ w p. subst (λ m. w.author ≢ m) (sym (acks_me s.acks o.author o.body)) (h.others w (in_without o.author o.seq w s.waiting p).0);
}

pub accept_storing : (s : Seen) (o : Op) → IsStoring s → IsSane (accepted s o) → op_size o ≤ OPERATION_BYTES → IsStoring (accepted s o)
accept_storing s o h sane few = record { sane = sane; sized = accept_sized s o h.sized few }

hold_sized : (s : Seen) (W : List Op) → IsSized s → ((w : Op) → IsIn w W → (op_size w ≤ OPERATION_BYTES) × (w.author ≢ s.acks.me)) → IsSized (holding s W)
unfolding holding
hold_sized s W h all = record { log = h.log; waiting = λ w p. (all w p).0; others = λ w p. (all w p).1 }

-- what waits is of another member
other_by : (v : List ℕ) (me : ℕ) (W : List Op) (r : Option Reason) (o : Op) (f : Option Shape) → answer_by false v me W r o f ≡ Waits → eqb o.author me ≡ false
other_by v me W r o (Some f) e = cc
other_by v me W r o None e = go _ (eqb o.author me) (answer_beside v r o (waiting_under W o.author o.seq)) e
  where
    go : (a b : Bool) (x : Answer) → (if a then Repeats else if not false && b then Refuses (Reason.Own o.seq) else x) ≡ Waits → b ≡ false
    go true b x e = cc
    go false true x e = cc
    go false false x e = refl

waits_other : (s : Seen) (o : Op) → answer_over false s o ≡ Waits → o.author ≢ s.acks.me
unfolding answer_over
waits_other s o e = λ same. let no = other_by (vector s) s.acks.me s.waiting (refusal_over s o) o (shape_fault (members s) o) e in grind (arith, nat_tests)

received_sized : (s : Seen) (o : Op) → IsSized s → op_size o ≤ OPERATION_BYTES → IsSized (received s o)
unfolding received
received_sized s o h few = go (answer_over false s o) refl
  where
    go : (a : Answer) → answer_over false s o ≡ a → IsSized (received s o)
    go Applies e = rw e (accept_sized s o h few)
    go Waits e = rw e (hold_sized s _ h (λ w p. ⊎_elim (λ q. subst (λ (x : Op). (op_size x ≤ OPERATION_BYTES) × (x.author ≢ s.acks.me)) q (few, waits_other s o e)) (λ q. (h.waiting w (in_without o.author o.seq w s.waiting q).0, h.others w (in_without o.author o.seq w s.waiting q).0)) (in_with o w (without o.author o.seq s.waiting) p)))
    go Repeats e = rw e h
    go (Refuses r) e = rw e h

received_storing : (s : Seen) (o : Op) → IsStoring s → IsGiven o → IsStoring (received s o)
received_storing s o h g = record { sane = received_sane s o h.sane g.whole g.ranged; sized = received_sized s o h.sized g.size }

released_sized : (s : Seen) → IsSized s → IsSized (released s)
unfolding released
released_sized s h = go (first_ready s) refl
  where
    by_reason : (w : Op) (r : Option Reason) → IsIn w s.waiting → IsSized (after_refusal r s w)
    by_reason w None p = accept_sized s w h (h.waiting w p)
    by_reason w (Some r) p = hold_sized s (without w.author w.seq s.waiting) h (λ x q. (h.waiting x (in_without w.author w.seq x s.waiting q).0, h.others x (in_without w.author w.seq x s.waiting q).0))

    go : (o : Option Op) → first_ready s ≡ o → IsSized (released s)
    go None e = rw e h
    go (Some w) e = rw e (by_reason w (refusal_over s w) (found_in (λ y. at_most y.context (vector s)) w s.waiting e).0)

released_storing : (s : Seen) → IsStoring s → IsStoring (released s)
released_storing s h = record { sane = released_sane s h.sane; sized = released_sized s h.sized }

same_log : (s : Seen) (a : ℕ) (v : List ℕ) → (acknowledged s a v).log ≡ s.log
unfolding acknowledged
same_log s a v = refl

same_waiting : (s : Seen) (a : ℕ) (v : List ℕ) → (acknowledged s a v).waiting ≡ s.waiting
unfolding acknowledged
same_waiting s a v = refl

same_me : (s : Seen) (a : ℕ) (v : List ℕ) → (acknowledged s a v).acks.me ≡ s.acks.me
unfolding acknowledged
same_me s a v = go (counts s.acks a v)
  where
    go : (b : Bool) → (if b then noted s.acks a v else s.acks).me ≡ s.acks.me
    go true = refl
    go false = refl

pub acknowledged_storing : (s : Seen) (a : ℕ) (v : List ℕ) → IsStoring s → a < members s → length v ≡ members s → IsStoring (acknowledged s a v)
acknowledged_storing s a v h l e = let k = h.sized in record {
  sane = acknowledged_sane s a v h.sane l e;
  sized = record {
    log = λ o p. k.log o (subst (λ (x : List Op). IsIn o x) (same_log s a v) p);
    waiting = λ w p. k.waiting w (subst (λ (x : List Op). IsIn w x) (same_waiting s a v) p);
    others = λ w p. subst (λ m. w.author ≢ m) (sym (same_me s a v)) (k.others w (subst (λ (x : List Op). IsIn w x) (same_waiting s a v) p));
  };
}

-- an edit without a fault makes an operation that isn't too large
made_size : (s : Seen) (edit : Edit) → edit_fault_over s edit ≡ None → op_size (made_over s edit) ≤ OPERATION_BYTES
unfolding edit_fault_over
made_size s edit e = at_left (left s.acks s.acks.me) e
  where
    small : (n : ℕ) (b : Bool) → nat_lt OPERATION_BYTES n ≡ b → cond b (Some (errors.OpTooLarge n)) None ≡ None → n ≤ OPERATION_BYTES
    small n true t e = cc
    small n false t e = grind (arith, nat_tests)

    numbered : (b : Bool) (f : Option EditError) → cond b (Some errors.NumbersSpent) f ≡ None → f ≡ None
    numbered true f e = cc
    numbered false f e = e

    at_left : (b : Bool) → cond b (Some errors.Left) (or_fault (range_fault (length (idents_over s)) edit) (op_fault_over s edit)) ≡ None → op_size (made_over s edit) ≤ OPERATION_BYTES
    at_left true e = cc
    at_left false e =
        let f = (or_none (range_fault (length (idents_over s)) edit) (op_fault_over s edit) e).1 in
        let n = op_size (made_over s edit) in
        small n (nat_lt OPERATION_BYTES n) refl (numbered (eqb (own_count s) GREATEST_NUMBER) (size_fault n) f)

pub edited_sized : (s : Seen) (edit : Edit) → IsSized s → edit_fault_over s edit ≡ None → IsSized (edited s edit)
edited_sized s edit h f = accept_sized s (made_over s edit) h (made_size s edit f)

pub edited_storing : (s : Seen) (edit : Edit) → IsStoring s → IsEdit edit → edit_fault_over s edit ≡ None → IsStoring (edited s edit)
edited_storing s edit h i f = record { sane = edited_sane s edit h.sane i f; sized = edited_sized s edit h.sized f }

-- ---- on the way

-- on the way without a limit, among so many members
pub record IsOnWay (n : ℕ) (c : Course) : Type 0 where
  pub storing : IsStoring c.state
  pub members_are : members c.state ≡ n
  pub limit : c.limit ≡ None

receive_way : (n : ℕ) (c : Course) (o : Op) → IsOnWay n c → IsGiven o → IsOnWay n (receive_step c o)
receive_way n c o h g =
    let e = received_seen c o h.limit in
    record {
      storing = subst IsStoring (sym e) (received_storing c.state o h.storing g);
      members_are = ap members e ∙ (members_received c.state o ∙ h.members_are);
      limit = received_limit by_parts c o h.limit;
    }

release_way : (n : ℕ) (c : Course) → IsOnWay n c → IsOnWay n (release_step c)
release_way n c h =
    let e = released_seen c h.limit in
    record {
      storing = subst IsStoring (sym e) (released_storing c.state h.storing);
      members_are = ap members e ∙ (members_released c.state ∙ h.members_are);
      limit = released_limit by_parts c h.limit;
    }

edit_way : (n : ℕ) (c : Course) (edit : Edit) → IsOnWay n c → IsEdit edit → edit_fault_over c.state edit ≡ None → IsOnWay n (edit_step c edit)
edit_way n c edit h i f =
    subst (IsOnWay n) (sym (edit_unlimited by_parts c edit h.limit))
    (record { storing = edited_storing c.state edit h.storing i f; members_are = members_accepted c.state (made_over c.state edit) ∙ h.members_are; limit = ap one_less h.limit })

pub released_still : (s : Seen) → first_ready s ≡ None → released s ≡ s
unfolding released
released_still s e = ap (after_release s) e

times_still : (k : ℕ) (s : Seen) → first_ready s ≡ None → first_ready (released_times k s) ≡ None
times_still zero s e = e
times_still (suc k) s e = times_still k (released s) (ap first_ready (released_still s e) ∙ e)

fewer : (s : Seen) (w : Op) (r : Option Reason) → IsIn w s.waiting → length (after_refusal r s w).waiting < length s.waiting
unfolding accepted holding
fewer s w None p = less_without w.author w.seq w s.waiting p (numbered_test w.author w.seq w refl refl)
fewer s w (Some r) p = less_without w.author w.seq w s.waiting p (numbered_test w.author w.seq w refl refl)

released_fewer : (s : Seen) (w : Op) → first_ready s ≡ Some w → length (released s).waiting < length s.waiting
unfolding released
released_fewer s w e =
    let f = fewer s w (refusal_over s w) (found_in (λ y. at_most y.context (vector s)) w s.waiting e).0 in
    subst (λ (o : Option Op). length (after_release s o).waiting < length s.waiting) (sym e) f

times_rest : (k : ℕ) (s : Seen) → length s.waiting ≤ k → first_ready (released_times k s) ≡ None
times_rest zero s few = empty_rests (λ w. at_most w.context (vector s)) s.waiting few
times_rest (suc k) s few = go (first_ready s) refl (λ l. times_rest k (released s) l)
  where
    go : (o : Option Op) → first_ready s ≡ o → (length (released s).waiting ≤ k → first_ready (released_times k (released s)) ≡ None) → first_ready (released_times k (released s)) ≡ None
    go None e next = times_still k (released s) (ap first_ready (released_still s e) ∙ e)
    go (Some w) e next = let l = released_fewer s w e in next (omega (arith, l, few))

-- the steps are these releases
times_sized : (k : ℕ) (s : Seen) → IsSized s → IsSized (released_times k s)
times_sized zero s h = h
times_sized (suc k) s h = times_sized k (released s) (released_sized s h)

-- a replica that has released all that is ready may be written
pub all_sized : (s : Seen) → IsSized s → AreWritable (released_all s)
unfolding released_all
all_sized s h = writable (released_times (length s.waiting) s) (times_sized (length s.waiting) s h) (times_rest (length s.waiting) s (omega arith))

pub all_writable : (s : Seen) → IsStoring s → IsSane (released_all s) × AreWritable (released_all s)
all_writable s h = (released_all_sane s h.sane, all_sized s h.sized)

steps_seen : (k n : ℕ) (c : Course) → IsOnWay n c → (release_steps k c).state ≡ released_times k c.state
steps_seen zero n c h = refl
steps_seen (suc k) n c h = steps_seen k n (release_step c) (release_way n c h) ∙ ap (released_times k) (released_seen c h.limit)

-- at rest too
pub record IsAtRest (n : ℕ) (c : Course) : Type 0 where
  pub way : IsOnWay n c
  pub rest : first_ready c.state ≡ None

releases_rest : (n : ℕ) (c : Course) → IsOnWay n c → IsAtRest n (with_releases c)
releases_rest n c h = record { way = releases_keep by_parts (IsOnWay n) (release_way n) (length c.state.waiting) c h; rest = ap first_ready (steps_seen (length c.state.waiting) n c h) ∙ times_rest (length c.state.waiting) c.state (omega arith) }

started_rest : (s : Seen) → IsSane s → AreWritable s → IsAtRest (members s) (started None s)
started_rest s h w = record { way = record { storing = storing s h w; members_are = refl; limit = refl }; rest = w.rest }

rest_writable : (n : ℕ) (c : Course) → IsAtRest n c → IsSane c.state × AreWritable c.state
rest_writable n c r = (r.way.storing.sane, writable c.state r.way.storing.sized r.rest)

-- ---- messages

same_ready : (s : Seen) (a : ℕ) (v : List ℕ) → first_ready (acknowledged s a v) ≡ first_ready s
unfolding acknowledged
same_ready s a v = go (counts s.acks a v)
  where
    go : (b : Bool) → find (λ w. at_most w.context (if b then noted s.acks a v else s.acks).mine) s.waiting ≡ find (λ w. at_most w.context s.acks.mine) s.waiting
    go true = refl
    go false = refl

-- an operation of a list that has a spelling
pub op_spelled : (n : ℕ) (before : Option Op) (os : List Op) → Chained (λ b. IsSpelled n) before os → (o : Op) → IsIn o os → IsGiven o
op_spelled n before (x ∷ os) f o (inl e) = subst IsGiven e (given_op n x f.0)
op_spelled n before (x ∷ os) f o (inr p) = op_spelled n (Some x) os f.1 o p
op_spelled n before [] f o p = absurd p

ops_rest : (n : ℕ) (os : List Op) (c : Course) → ((o : Op) → IsIn o os → IsGiven o) → IsAtRest n c → IsAtRest n (take_ops c os)
ops_rest n os c g r =
    (taking_keeps by_parts (λ os c. ((o : Op) → IsIn o os → IsGiven o) × IsAtRest n c) (λ o os c h. (λ x p. h.0 x (inr p), releases_rest n (receive_step c o) (receive_way n c o h.1.way (h.0 o (inl refl))))) os c (g, r)).1

pub taken_writable : TakenIsWritable
unfolding taken_within
taken_writable s bytes m h w f e =
    let n = members s in
    let v = f.2 in
    let c = take_ops (started None s) m.ops in
    let r = ops_rest n m.ops (started None s) (op_spelled n None m.ops (subst (λ k. Chained (λ b. IsSpelled k) None m.ops) e v.ops)) (started_rest s h w) in
    let from = v.from in
    let few : m.from < members c.state = let k = r.way.members_are in omega (arith, from, e, k) in
    let long : length m.vector ≡ members c.state = v.vector.0 ∙ (e ∙ sym r.way.members_are) in
    let noted = acknowledged_storing c.state m.from m.vector r.way.storing few long in
    subst (λ (x : Seen). IsSane x × AreWritable x) (sym (acknowledged_seen c m.from m.vector r.way.limit)) (noted.sane, writable (acknowledged c.state m.from m.vector) noted.sized (same_ready c.state m.from m.vector ∙ r.rest))

-- ---- lines of edits

pub lines_writable : {L F : Type 0} → LinesKeepWritable L F
lines_writable {L} {F} reads s ls last w h k e = rest_writable (members s) last (running_keeps by_parts reads (IsAtRest (members s)) ls one 1 (started None s) last e (started_rest s h k))
  where
    one : (l : L) → IsIn l ls → (c : Course) (edit : Edit) → reads c.state l ≡ Ok edit → IsAtRest (members s) c → IsAtRest (members s) (with_releases (edit_step c edit))
    one l p c edit f r = let g = w c.state l edit p f in releases_rest (members s) (edit_step c edit) (edit_way (members s) c edit r.way g.0 g.1)

-- ---- a fresh replica

pub fresh_writable : FreshIsWritable
fresh_writable group me n = record { log = λ o p. absurd p; waiting = λ o p. absurd p; others = λ o p. absurd p; rest = refl }
