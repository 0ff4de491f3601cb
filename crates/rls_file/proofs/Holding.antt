-- One waiting operation more: it may wait after the last one just where it is answered so.
use Rattle.std.proofs.Common.{◌≡◌, ℕ, suc, ◌+◌, ◌-◌, ◌<◌, ◌≤◌, Bool, true, false, cond, if◌then◌else◌, not, ◌&&◌, ◌==◌, List, [], ◌∷◌, ◌++◌, length, Option, Some, None, Ok, Err, refl, sym, ap, ◌∙◌, subst, arith, inl, inr}
use Rattle.std.specs.Prelude.{nat_lt, nat_le, slice_get, find}
use Rattle.std.specs.List.{list_all}
use Rattle.std.proofs.lemmas.Bool.{cases_lt, le-ltb, and_parts}
use Rattle.rls_ident.specs.Vectors.{at_most}
use Rattle.rls_ident.proofs.Members.{not_le_test, le_test, lt_test}
use Rattle.rls_ops.specs.declared.op.Op.{Op}
use Rattle.rls_ops.specs.declared.op.Shape.{Shape}
use Rattle.rls_ops.specs.Shapes.{shape_fault}
use Rattle.rls_ops.specs.Waiting.{is_numbered, waiting_under, comes_before, with_waiting, without}
use Rattle.rls_ops.proofs.Waiting.{before_trans, before_other}
use Rattle.rls_codec.specs.declared.fault.ReadError.{ReadError}
use Rattle.rls_codec.specs.Gives.{Fails}
use Rattle.std.proofs.lemmas.List.{length-append}
use Rattle.rls_codec.specs.Reading.{Read, ◌>>=◌, chain_at, op_at}
use Rattle.rls_codec.proofs.Formats.{bind_ok, ok_is}
use Rattle.rls_codec.proofs.Loop.{with_front, goes_on, ends, is_done}
use Rattle.rls_model.specs.Answers.{Reason, Misshapen, Own, Answer, Applies, Repeats, Waits, Refuses}
use Rattle.rls_model.specs.Fitting.{refusal}
use Rattle.rls_model.specs.History.{History, me_of, members_of, count_of}
use Rattle.rls_model.specs.History.{count as count_in}
use Rattle.rls_model.specs.Legal.{AreWaiting}
use Rattle.rls_model.specs.Receiving.{State, verdict_of, answer_beside, answer_by, answer, after, receive, receive_after}
use Rattle.rls_parts.specs.Rules.{is_fine, waits_behind, may_wait}
use Rattle.rls_file.specs.ReadingJournals.{waits, last_of, waiting_at, more_waiting_at}
use Rattle.rls_seen.specs.Over.{after_answer, answer_over, holding, received}
use Rattle.rls_seen.specs.Seen.{Seen}
use Rattle.rls_seen.specs.Stands.{StandsFor}
use Rattle.rls_file.specs.Journals.{IsReplayOf, seen_after}
use Rattle.rls_file.proofs.Events.{fails_then, fails_before}

abbrev pub beside : History → List Op → State
beside H W = record { history = H; waiting = W }

-- ---- all that wait come before what stands after the last one

last_tail : (w x : Op) (xs : List Op) → last_of (w ∷ x ∷ xs) ≡ last_of (x ∷ xs)
last_tail w x xs =
    let e : length (w ∷ x ∷ xs) - 1 ≡ suc (length (x ∷ xs) - 1) = omega arith in
    ap (slice_get (w ∷ x ∷ xs)) e

last_one : (w : Op) → last_of (w ∷ []) ≡ Some w
last_one w = refl

abbrev AllBefore : List Op → Op → Type 0
AllBefore [] o = Unit {0}
AllBefore (w ∷ ws) o = (comes_before w o ≡ true) × AllBefore ws o

all_before : (H : History) (W : List Op) (o : Op) → AreWaiting H W → waits_behind (last_of W) o ≡ true → AllBefore W o
all_before H [] o s b = tt
all_before H (w ∷ []) o s b = (ap (λ l. waits_behind l o) (sym (last_one w)) ∙ b, tt)
all_before H (w ∷ (x ∷ xs)) o s b =
    let later = all_before H (x ∷ xs) o s.4 (ap (λ l. waits_behind l o) (sym (last_tail w x xs)) ∙ b) in
    let next = and_parts (comes_before w x) (list_all (λ p. comes_before w p) xs) s.3 in
    (before_trans w x o next.0 later.0, later)

none_under : (W : List Op) (o : Op) → AllBefore W o → waiting_under W o.author o.seq ≡ None
none_under [] o a = refl
none_under (w ∷ ws) o a = ap (λ t. cond t (Some w) (find (is_numbered o.author o.seq) ws)) (before_other w o a.0) ∙ none_under ws o a.1

none_without : (W : List Op) (o : Op) → AllBefore W o → without o.author o.seq W ≡ W
none_without [] o a = refl
none_without (w ∷ ws) o a = ap (λ t. cond t (without o.author o.seq ws) (w ∷ without o.author o.seq ws)) (before_other w o a.0) ∙ ap (λ us. w ∷ us) (none_without ws o a.1)

put_last : (W : List Op) (o : Op) → AllBefore W o → with_waiting o W ≡ W ++ o ∷ []
put_last [] o a = refl
put_last (w ∷ ws) o a = ap (λ t. cond t (w ∷ with_waiting o ws) (o ∷ w ∷ ws)) a.0 ∙ ap (λ us. w ∷ us) (put_last ws o a.1)

-- ---- the answer

later_test : (c s : ℕ) → nat_lt c s ≡ not (nat_le s c)
later_test c s =
    elim (cases_lt c s) [
      | inl lt ↦ lt_test c s lt ∙ ap not (sym (not_le_test s c lt))
      | inr le ↦ le-ltb c s le ∙ ap not (sym (le_test s c le))
    ]

-- what is answered where nothing waits under the number, by the fault of the shape and four tests
abbrev answered : Option Shape → Bool → Bool → Bool → Option Reason → ℕ → Answer
answered (Some f) low own ready r q = Refuses (Misshapen f)
answered None low own ready r q = if low then Repeats else if own then Refuses (Own q) else if not ready then Waits else verdict_of r

verdict_go : (r : Option Reason) → waits (verdict_of r) ≡ false
verdict_go None = refl
verdict_go (Some x) = refl

wait_go : (f : Option Shape) (low own behind ready : Bool) (r : Option Reason) (q : ℕ) → (is_fine f && not own && not low && behind && not ready) ≡ (behind && waits (answered f low own ready r q))
wait_go (Some f) low own true ready r q = refl
wait_go (Some f) low own false ready r q = refl
wait_go None true true true ready r q = refl
wait_go None true true false ready r q = refl
wait_go None true false true ready r q = refl
wait_go None true false false ready r q = refl
wait_go None false true true ready r q = refl
wait_go None false true false ready r q = refl
wait_go None false false true true r q = sym (verdict_go r)
wait_go None false false true false r q = refl
wait_go None false false false ready r q = refl

answered_is : (H : History) (W : List Op) (o : Op) → waiting_under W o.author o.seq ≡ None
    → answer false H W o ≡ answered (shape_fault (members_of H) o) (nat_le o.seq (count_of H o.author)) (o.author == me_of H) (at_most o.context (count_in H)) (refusal H o) o.seq
unfolding answer
answered_is H W o n = go (shape_fault (members_of H) o)
  where
    go : (f : Option Shape) → answer_by false (count_in H) (me_of H) W (refusal H o) o f ≡ answered f (nat_le o.seq (count_of H o.author)) (o.author == me_of H) (at_most o.context (count_in H)) (refusal H o) o.seq
    go (Some f) = refl
    go None = ap (λ u. cond (nat_le o.seq (count_of H o.author)) Repeats (cond (o.author == me_of H) (Refuses (Own o.seq)) (answer_beside (count_in H) (refusal H o) o u))) n

-- by the answer
waits_go : (H : History) (W : List Op) (o : Op) (b : Bool) → waits_behind (last_of W) o ≡ b → (b ≡ true → AllBefore W o) → may_wait (members_of H) (me_of H) (count_in H) (last_of W) o ≡ (b && waits (receive (record { history = H; waiting = W }) o))
waits_go H W o b e all =
    let f = shape_fault (members_of H) o in
    let low : Bool = nat_le o.seq (count_of H o.author) in
    let own : Bool = o.author == me_of H in
    let ready : Bool = at_most o.context (count_in H) in
    let parts : may_wait (members_of H) (me_of H) (count_in H) (last_of W) o ≡ (is_fine f && not own && not low && b && not ready) =
    ap (λ t. is_fine f && not own && t && waits_behind (last_of W) o && not ready) (later_test (count_of H o.author) o.seq) ∙ ap (λ t. is_fine f && not own && not low && t && not ready) e in
    parts ∙ wait_go f low own b ready (refusal H o) o.seq ∙ same b all
  where
    same : (t : Bool) → (t ≡ true → AllBefore W o)
        → (t && waits (answered (shape_fault (members_of H) o) (nat_le o.seq (count_of H o.author)) (o.author == me_of H) (at_most o.context (count_in H)) (refusal H o) o.seq)) ≡ (t && waits (receive (record { history = H; waiting = W }) o))
    same true all = ap waits (sym (answered_is H W o (none_under W o (all refl))))
    same false all = refl

pub may_wait_is : (t : State) (o : Op) → AreWaiting t.history t.waiting → may_wait (members_of t.history) (me_of t.history) (count_in t.history) (last_of t.waiting) o ≡ (waits_behind (last_of t.waiting) o && waits (receive t o))
may_wait_is t o s = waits_go t.history t.waiting o (waits_behind (last_of t.waiting) o) refl (all_before t.history t.waiting o s)

-- ---- what was read

abbrev op_ok : Op → List ℕ → Read Op
op_ok o rest = Ok (o, rest)

abbrev pub ops_ok : List Op → List ℕ → Read (List Op)
ops_ok os rest = Ok (os, rest)

pub hold_fails : (e : ReadError) (t : State) (n : ℕ) (bytes : List ℕ) → n ≡ members_of t.history → Fails e (op_at n bytes) → Fails e (more_waiting_at t bytes)
hold_fails e t n bytes m h =
    let here : Fails e (op_at (members_of t.history) bytes) = subst (λ k. Fails e (op_at k bytes)) m h in
    fails_then e (waiting_at t.history (last_of t.waiting) bytes) _ (fails_then e (op_at (members_of t.history) bytes) _ here)

hold_read : (t : State) (n : ℕ) (bytes rest : List ℕ) (o : Op) (b : Bool) → n ≡ members_of t.history → op_at n bytes ≡ Ok (o, rest) → may_wait (members_of t.history) (me_of t.history) (count_in t.history) (last_of t.waiting) o ≡ b
    → more_waiting_at t bytes ≡ cond b (ops_ok (t.waiting ++ o ∷ []) rest) (Err (length bytes))
hold_read t n bytes rest o b m h e =
    let here : op_at (members_of t.history) bytes ≡ Ok (o, rest) = ap (λ k. op_at k bytes) (sym m) ∙ h in
    ap (λ r. (r >>= λ x. cond (may_wait (members_of t.history) (me_of t.history) (count_in t.history) (last_of t.waiting) x.0) (Ok x) (Err (length bytes))) >>= λ x. ops_ok (t.waiting ++ x.0 ∷ []) x.1) here
    ∙ ap (λ c. cond c (op_ok o rest) (Err (length bytes)) >>= λ x. ops_ok (t.waiting ++ x.0 ∷ []) x.1) e
    ∙ go b
  where
    go : (c : Bool) → (cond c (op_ok o rest) (Err (length bytes)) >>= λ x. ops_ok (t.waiting ++ x.0 ∷ []) x.1) ≡ cond c (ops_ok (t.waiting ++ o ∷ []) rest) (Err (length bytes))
    go true = refl
    go false = refl

-- it doesn't stand after the last one
pub hold_before : (t : State) (n : ℕ) (bytes rest : List ℕ) (o : Op) → AreWaiting t.history t.waiting → n ≡ members_of t.history → op_at n bytes ≡ Ok (o, rest) → waits_behind (last_of t.waiting) o ≡ false → more_waiting_at t bytes ≡ Err (length bytes)
hold_before t n bytes rest o s m h b = hold_read t n bytes rest o false m h (may_wait_is t o s ∙ ap (λ c. c && waits (receive t o)) b)

-- it is answered otherwise
pub hold_other : (t : State) (n : ℕ) (bytes rest : List ℕ) (o : Op) → AreWaiting t.history t.waiting → n ≡ members_of t.history → op_at n bytes ≡ Ok (o, rest) → waits_behind (last_of t.waiting) o ≡ true → waits (receive t o) ≡ false
    → more_waiting_at t bytes ≡ Err (length bytes)
hold_other t n bytes rest o s m h b w = hold_read t n bytes rest o false m h (may_wait_is t o s ∙ ap (λ c. c && waits (receive t o)) b ∙ w)

-- it waits
pub hold_done : (t : State) (n : ℕ) (bytes rest : List ℕ) (o : Op) → AreWaiting t.history t.waiting → n ≡ members_of t.history → op_at n bytes ≡ Ok (o, rest) → waits_behind (last_of t.waiting) o ≡ true → waits (receive t o) ≡ true
    → more_waiting_at t bytes ≡ Ok (t.waiting ++ o ∷ [], rest)
hold_done t n bytes rest o s m h b w = hold_read t n bytes rest o true m h (may_wait_is t o s ∙ ap (λ c. c && waits (receive t o)) b ∙ w)

waits_is : (a : Answer) → waits a ≡ true → a ≡ Waits
waits_is Applies e = absurd cc
waits_is Repeats e = absurd cc
waits_is Waits e = refl
waits_is (Refuses r) e = absurd cc

pub held_after : (t : State) (o : Op) → AreWaiting t.history t.waiting → waits_behind (last_of t.waiting) o ≡ true → waits (receive t o) ≡ true → receive_after t o ≡ record { history = t.history; waiting = t.waiting ++ o ∷ [] }
held_after t o s b w =
    let all = all_before t.history t.waiting o s b in
    let put : with_waiting o (without o.author o.seq t.waiting) ≡ t.waiting ++ o ∷ [] = ap (with_waiting o) (none_without t.waiting o all) ∙ put_last t.waiting o all in
    ap (λ a. after a t o) (waits_is (receive t o) w) ∙ ap (λ (W : List Op). beside t.history W) put

-- ---- one after another

as_read : (r : Read Op) → (r >>= λ x. op_ok x.0 x.1) ≡ r
as_read (Ok x) = refl
as_read (Err e) = refl

at_seam : (W : List Op) (o : Op) → slice_get (W ++ o ∷ []) (length W) ≡ Some o
at_seam [] o = refl
at_seam (w ∷ ws) o = at_seam ws o

front_none : (r : Read (List Op)) → with_front [] r ≡ r
front_none (Ok x) = refl
front_none (Err e) = refl

last_pushed : (W : List Op) (o : Op) → last_of (W ++ o ∷ []) ≡ Some o
last_pushed W o =
    let e : length (W ++ o ∷ []) - 1 ≡ length W = omega (arith, length-append W (o ∷ [])) in
    ap (slice_get (W ++ o ∷ [])) e ∙ at_seam W o

pub wait_on : (H : History) (W V : List Op) (count i : ℕ) (bytes after : List ℕ) (total : Read (List Op)) → i < count → more_waiting_at (beside H W) bytes ≡ Ok (V, after)
    → with_front W (chain_at (waiting_at H) (last_of W) (count - i) bytes) ≡ total → with_front V (chain_at (waiting_at H) (last_of V) (count - (i + 1)) after) ≡ total
wait_on H W V count i bytes after total lt h so_far =
    let b = bind_ok (waiting_at H (last_of W) bytes) (λ x. ops_ok (W ++ x.0 ∷ []) x.1) (V, after) h in
    let pair = ok_is (W ++ b.0.0 ∷ [], b.0.1) (V, after) b.2 in
    let now : W ++ b.0.0 ∷ [] ≡ V = ap (λ (q : List Op × List ℕ). q.0) pair in
    let next = goes_on (waiting_at H) W (last_of W) count i bytes b.0.0 b.0.1 total lt b.1 so_far in
    let last : last_of V ≡ Some b.0.0 = ap last_of (sym now) ∙ last_pushed W b.0.0 in
    ap (λ l. with_front V (chain_at (waiting_at H) l (count - (i + 1)) after)) last
    ∙ ap (λ U. with_front U (chain_at (waiting_at H) (Some b.0.0) (count - (i + 1)) after)) (sym now)
    ∙ ap (λ r. with_front (W ++ b.0.0 ∷ []) (chain_at (waiting_at H) (Some b.0.0) (count - (i + 1)) r)) (sym (ap (λ (q : List Op × List ℕ). q.1) pair))
    ∙ next

pub wait_fails : (e : ReadError) (H : History) (W : List Op) (count i : ℕ) (bytes : List ℕ) (total : Read (List Op)) → i < count → Fails e (more_waiting_at (beside H W) bytes)
    → with_front W (chain_at (waiting_at H) (last_of W) (count - i) bytes) ≡ total → Fails e total
wait_fails e H W count i bytes total lt h so_far =
    let one : Fails e (waiting_at H (last_of W) bytes >>= λ x. op_ok x.0 x.1) = fails_before e (waiting_at H (last_of W) bytes) (λ x. ops_ok (W ++ x.0 ∷ []) x.1) (λ x. op_ok x.0 x.1) (λ x left q. absurd cc) h in
    ends (waiting_at H) e W (last_of W) count i bytes total lt (subst (λ r. Fails e r) (as_read (waiting_at H (last_of W) bytes)) one) so_far

pub wait_done : (H : History) (W : List Op) (count i : ℕ) (bytes : List ℕ) (total : Read (List Op)) → count ≤ i → with_front W (chain_at (waiting_at H) (last_of W) (count - i) bytes) ≡ total → total ≡ Ok (W, bytes)
wait_done H W count i bytes total le so_far = is_done (waiting_at H) W (last_of W) count i bytes total le so_far

-- at first nothing waits
pub wait_start : (H : History) (W : List Op) (count : ℕ) (bytes : List ℕ) → W ≡ [] → with_front W (chain_at (waiting_at H) (last_of W) (count - 0) bytes) ≡ chain_at (waiting_at H) None count bytes
wait_start H W count bytes e =
    let n : count - 0 ≡ count = omega arith in
    ap (λ k. with_front W (chain_at (waiting_at H) (last_of W) k bytes)) n ∙ ap (λ U. with_front U (chain_at (waiting_at H) (last_of U) count bytes)) e ∙ front_none (chain_at (waiting_at H) None count bytes)

-- ---- the replica then

pub holds : (t : State) (s new : Seen) (o : Op) → IsReplayOf t s → new ≡ received s o → answer_over false s o ≡ receive t o → waits_behind (last_of t.waiting) o ≡ true → waits (receive t o) ≡ true → StandsFor new (receive_after t o)
    → IsReplayOf (beside t.history (t.waiting ++ o ∷ [])) new
unfolding received holding
holds t s new o r e same b w h =
    let after_is = held_after t o r.stands.sound b w in
    let now = subst (StandsFor new) after_is h in
    let held = e ∙ ap (λ (a : Answer). after_answer a s o) (same ∙ waits_is (receive t o) w) in
    record {
      is = held ∙ ap (λ (x : Seen). holding x (with_waiting o (without o.author o.seq s.waiting))) r.is ∙ ap (holding (seen_after t.history)) (sym (ap (λ (x : Seen). x.waiting) held) ∙ now.waiting);
      stands = now;
    }
