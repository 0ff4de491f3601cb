-- The parts of a sane replica have a spelling, list by list, where their numbers, identifiers and characters fit.
use Rattle.std.proofs.Common.{◌≡◌, ◌≢◌, ℕ, zero, suc, ◌+◌, ◌<◌, ◌≤◌, ◌^◌, Bool, true, false, List, [], ◌∷◌, ◌++◌, length, Option, Some, None, refl, sym, ap, ◌∙◌, subst, arith, inl, inr, ⊎_elim, if◌then◌else◌}
use Rattle.std.specs.Prelude.{ℤ, pos, ◌≤ℤ◌, All, FitsSigned, not, nat_lt, slice_index, ◌==◌, ◌&&◌}
use Rattle.std.specs.Int.{w32}
use Rattle.std.specs.List.{list_all}
use Rattle.std.specs.Ordering.{is_lt}
use Rattle.std.proofs.lemmas.Int.{ints}
use Rattle.std.proofs.lemmas.List.{append-nil, length-append}
use Rattle.std.proofs.lemmas.List.Elements.{All-head, All-tail}
use Rattle.rls_ident.specs.declared.limits.TheConstants.{MEMBERS, OPERATION_BYTES}
use Rattle.rls_ident.specs.declared.tuple.Tuple.{Tuple}
use Rattle.rls_ident.specs.declared.epoch_name.EpochName.{EpochName}
use Rattle.rls_ident.specs.declared.epoch_name.EpochName.TheVariants.{Origin, Of}
use Rattle.rls_ident.specs.Identifiers.{is_ident, ident_lt, least_offset, follows}
use Rattle.rls_ident.specs.Lists.{IsIn}
use Rattle.rls_ident.specs.Vectors.{at_most, raise}
use Rattle.rls_ident.proofs.Members.{and_left, and_right, and_true, bool_cases, eq_is, eq_not, eq_test, in_all, in_filter, lt_is, lt_test, neq_test, or_split, snoc_split, some_is}
use Rattle.rls_runs.specs.Entries.{Entries, idents_in}
use Rattle.rls_runs.specs.Runs.{AreIdents, is_apart, are_apart, is_increasing, put_run, runs_of}
use Rattle.rls_rename.specs.Renaming.{IsFormer}
use Rattle.rls_rename.specs.Tree.{Node, AreNodes, is_of}
use Rattle.rls_rename.proofs.Former.{former_in}
use Rattle.rls_ops.specs.declared.op.Op.{Op}
use Rattle.rls_ops.specs.Rows.{AcksSeen, AreRows, HaveLength, left, row_of}
use Rattle.rls_ops.specs.Shapes.{shape_fault}
use Rattle.rls_ops.specs.Sizes.{op_size}
use Rattle.rls_ops.proofs.KeptRows.{length-row, lengths_append}
use Rattle.rls_ops.proofs.Shaped.{shaped}
use Rattle.rls_ops.specs.WellFormed.{IsSmall}
use Rattle.rls_codec.specs.Spelled.{Chained, FitsName, FitsVector, IsFitAmong, IsSpelled, IsSpelledIfFit}
use Rattle.rls_codec.proofs.Fits.{small_chain}
use Rattle.rls_model.specs.declared.parts.EpochPart.{EpochPart}
use Rattle.rls_model.specs.declared.parts.Parts.{Parts}
use Rattle.rls_model.specs.declared.parts.Stem.{Stem}
use Rattle.rls_model.specs.declared.parts.TextRun.{TextRun}
use Rattle.rls_model.specs.Parts.{epoch_part, node_of, put_text, text_runs}
use Rattle.rls_model.specs.Receiving.{comes_before}
use Rattle.rls_model.specs.Stems.{stands_before}
use Rattle.rls_model.specs.WellFormed.{IsOp}
use Rattle.rls_seen.specs.Kept.{other_rows, left_below}
use Rattle.rls_seen.specs.Sane.{AreHeld, AreStems, Follow, IsStem}
use Rattle.rls_parts.specs.Given.{HaveTexts}
use Rattle.rls_parts.specs.Rules.{epoch_fault, held_fault, is_fine, may_be_top, may_wait, waits_behind}
use Rattle.rls_parts.proofs.EpochLists.{next_behind, opened_name}
use Rattle.rls_parts.proofs.RestoredText.{runs_in}
use Rattle.rls_fields.specs.Fields.{own_of, others_of}
use Rattle.rls_fields.specs.ReadingFields.{is_above, run_before}
use Rattle.rls_fields.specs.Written.{FitsRow, FitsFormer, FitsChars}
use Rattle.rls_fields.proofs.Puts.{few_own}
use Rattle.rls_file.specs.SpelledFiles.{FitsEpoch, FitsStem, FitsTextRun, Grouped}
use Rattle.rls_file.proofs.Stored.{AreFrom, both_counts, others_from}

-- ---- operations

ops_spelled : (n : ℕ) (before : Option Op) (os : List Op) → ((o : Op) → IsIn o os → IsFitAmong n o) → All IsSpelledIfFit os → Chained (λ b. IsSpelled n) before os
ops_spelled n before [] f s = tt
ops_spelled n before (o ∷ os) f s =
    let fit = f o (inl refl) in
    (subst (λ k. IsSpelled k o) fit.2 (All-head IsSpelledIfFit o os s fit.0 fit.1), ops_spelled n (Some o) os (λ x p. f x (inr p)) (All-tail IsSpelledIfFit o os s))

pub ops_fit : (n : ℕ) (os : List Op) → ((o : Op) → IsIn o os → IsOp o × (shape_fault n o ≡ None) × (op_size o ≤ OPERATION_BYTES)) → All IsSpelledIfFit os → Chained (λ b. IsSpelled n) None os
ops_fit n os f s = ops_spelled n None os (λ o p. let g = f o p in (g.0.body, g.2, (shaped n o g.1).context)) s

pub follow_each : (n : ℕ) (from : List ℕ) (os : List Op) (to : List ℕ) (o : Op) → Follow n from os to → IsIn o os → IsOp o × (shape_fault n o ≡ None)
follow_each n from [] to o f p = absurd p
follow_each n from (x ∷ os) to o f (inl e) = subst (λ (y : Op). IsOp y × (shape_fault n y ≡ None)) e (f.0, f.1)
follow_each n from (x ∷ os) to o f (inr p) = follow_each n (raise from x.author) os to o f.4 p

-- what waits may wait
waits : (p : Parts) (before : Option Op) (w : Op) → shape_fault p.members w ≡ None → w.author ≢ p.me → slice_index p.vector w.author < w.seq → waits_behind before w ≡ true → at_most w.context p.vector ≡ false → may_wait p.members p.me p.vector before w ≡ true
waits p before w shape other above behind causes =
    let a = is_fine (shape_fault p.members w) in
    let b = not (w.author == p.me) in
    let c = nat_lt (slice_index p.vector w.author) w.seq in
    let d = waits_behind before w in
    and_true (a && b && c && d) (not (at_most w.context p.vector))
    (and_true (a && b && c) d (and_true (a && b) c (and_true a b (ap is_fine shape) (ap not (neq_test w.author p.me other))) (lt_test (slice_index p.vector w.author) w.seq above)) behind) (ap not causes)

pub held_passes : (p : Parts) (before : Option Op) (i : ℕ) (ws : List Op) → AreHeld p.members p.vector ws → ((w : Op) → IsIn w ws → (w.author ≢ p.me) × (at_most w.context p.vector ≡ false)) → ((w : Op) → IsIn w ws → waits_behind before w ≡ true)
    → held_fault p before i ws ≡ None
held_passes p before i [] a f b = refl
held_passes p before i (w ∷ ws) a f b =
    let g = f w (inl refl) in
    ap (λ x. if x then held_fault p (Some w) (suc i) ws else Some i) (waits p before w a.2 g.0 a.3 (b w (inl refl)) g.1)
    ∙ held_passes p (Some w) (suc i) ws a.5 (λ x q. f x (inr q)) (λ x q. in_all (λ y. comes_before w y) x ws a.4 q)

-- ---- rows

pub rows_fit : (n : ℕ) (before : Option (List ℕ)) (vs : List (List ℕ)) → HaveLength n vs → All FitsRow vs → Chained (λ b. FitsVector n) before vs
rows_fit n before [] h f = tt
rows_fit n before (v ∷ vs) h f = ((h.0, small_chain None v (All-head FitsRow v vs f)), rows_fit n (Some v) vs h.1 (All-tail FitsRow v vs f))

pub rows_length : (acks : AcksSeen) (k : ℕ) → AreRows acks → k ≤ length acks.mine → HaveLength (length acks.mine) (other_rows acks k)
rows_length acks zero h l = tt
rows_length acks (suc k) h l = lengths_append (length acks.mine) (other_rows acks k) (if k == acks.me then [] else row_of acks k ∷ []) (rows_length acks k h (omega arith)) (go (k == acks.me))
  where
    go : (b : Bool) → HaveLength (length acks.mine) (if b then [] else row_of acks k ∷ [])
    go true = tt
    go false = (length-row acks k h (omega arith), tt)

-- ---- members that have left

abbrev IsLeft : ℕ → Option ℕ → ℕ → Type 0
IsLeft n before m = IsSmall m × ((nat_lt m n && is_above before m) ≡ true)

left_push : (n : ℕ) (before : Option ℕ) (ms : List ℕ) (k : ℕ) → IsSmall k → k < n → is_above before k ≡ true → ((m : ℕ) → IsIn m ms → m < k) → Chained (IsLeft n) before ms → Chained (IsLeft n) before (ms ++ k ∷ [])
left_push n before [] k s l a all c = ((s, and_true (nat_lt k n) (is_above before k) (lt_test k n l) a), tt)
left_push n before (m ∷ ms) k s l a all c = (c.0, left_push n (Some m) ms k s l (lt_test m k (all m (inl refl))) (λ x p. all x (inr p)) c.1)

abbrev AreLeft : ℕ → ℕ → List ℕ → Type 0
AreLeft n k ms = Chained (IsLeft n) None ms × ((m : ℕ) → IsIn m ms → m < k)

pub left_fit : (acks : AcksSeen) (n k : ℕ) → n ≤ MEMBERS → k ≤ n → AreLeft n k (left_below acks k)
left_fit acks n zero few l = (tt, λ m p. absurd p)
left_fit acks n (suc k) few l = go (left acks k) (left_fit acks n k few (omega arith))
  where
    go : (b : Bool) → AreLeft n k (left_below acks k) → AreLeft n (suc k) (left_below acks k ++ (if b then k ∷ [] else []))
    go true h = (left_push n None (left_below acks k) k (omega (arith, few, l)) (omega (arith, l)) refl h.1 h.0, λ m p. ⊎_elim (λ q. (let i = h.1 m q in omega (arith, i))) (λ e. omega (arith, e)) (snoc_split m k (left_below acks k) p))
    go false h = subst (AreLeft n (suc k)) (sym (append-nil (left_below acks k))) (h.0, λ m p. (let i = h.1 m p in omega (arith, i)))

-- ---- stems

-- the authors don't fall
abbrev Rising : List Stem → Type 0
Rising [] = Unit {0}
Rising (t ∷ ts) = ((u : Stem) → IsIn u ts → t.author ≤ u.author) × Rising ts

author_le : (a s : ℕ) (t : Stem) → stands_before a s t ≡ true → t.author ≤ a
author_le a s t h = ⊎_elim (λ q. (let l = lt_is t.author a q in omega (arith, l))) (λ q. (let e = eq_is t.author a (and_left (t.author == a) (nat_lt t.s0 s) q) in omega (arith, e))) (or_split (nat_lt t.author a) ((t.author == a) && nat_lt t.s0 s) h)

pub stems_rise : (v : List ℕ) (ts : List Stem) → AreStems v ts → Rising ts
stems_rise v [] h = tt
stems_rise v (t ∷ ts) h = (λ u q. author_le u.author u.s0 t (in_all (λ (w : Stem). stands_before w.author w.s0 t) u ts h.1 q), stems_rise v ts h.2)

pub each_stem : (v : List ℕ) (ts : List Stem) → AreStems v ts → (t : Stem) → IsIn t ts → IsStem v t
each_stem v [] h t q = absurd q
each_stem v (u ∷ ts) h t (inl e) = subst (IsStem v) e h.0
each_stem v (u ∷ ts) h t (inr q) = each_stem v ts h.2 t q

others_rise : (a : ℕ) (ts : List Stem) → Rising ts → Rising (others_of a ts)
others_rise a [] h = tt
others_rise a (t ∷ ts) h =
    let rest = others_rise a ts h.1 in
    bool_cases (t.author == a) (λ e. rw e rest) (λ e. rw e ((λ u q. h.0 u (in_filter (λ (s : Stem). not (s.author == a)) u ts q).0), rest))

-- where none is this author's
none_own : (a : ℕ) (ts : List Stem) → ((t : Stem) → IsIn t ts → a < t.author) → (own_of a ts ≡ []) × (others_of a ts ≡ ts)
none_own a [] h = (refl, refl)
none_own a (t ∷ ts) h =
    let rest = none_own a ts (λ u q. h u (inr q)) in
    let no : (t.author == a) ≡ false = neq_test t.author a (λ e. (let l = h t (inl refl) in omega (arith, e, l))) in
    rw no (rest.0, ap (λ xs. t ∷ xs) rest.1)

own_first : (a : ℕ) (ts : List Stem) → Rising ts → ((t : Stem) → IsIn t ts → a ≤ t.author) → ts ≡ own_of a ts ++ others_of a ts
own_first a [] h f = refl
own_first a (t ∷ ts) h f =
    bool_cases (t.author == a)
    (λ e. rw e (ap (λ xs. t ∷ xs) (own_first a ts h.1 (λ u q. f u (inr q)))))
    (λ e. let l = f t (inl refl) in
    let d : (t.author ≡ a) → ⊥ = eq_not t.author a e in
    let below : a < t.author = omega (arith, l, d) in
    let none = none_own a (t ∷ ts) (λ u q. ⊎_elim (λ x. subst (λ (w : Stem). a < w.author) x below) (λ x. (let m = h.0 u x in omega (arith, m, below))) q) in
    sym (ap (λ xs. xs ++ others_of a (t ∷ ts)) none.0 ∙ none.1))

low_fits : (z : ℤ) → least_offset ≤ℤ z → z ≤ℤ pos 0 → FitsSigned w32 z
low_fits z a b = omega (arith, ints, a, b)

own_chain : (v : List ℕ) (a : ℕ) (before : Option Stem) (ts : List Stem) → All IsSmall v → ((t : Stem) → IsIn t ts → IsStem v t) → Chained (λ b. FitsStem 4 a) before (own_of a ts)
own_chain v a before [] s f = tt
own_chain v a before (t ∷ ts) s f =
    bool_cases (t.author == a)
    (λ e. rw e (fits (f t (inl refl)) (eq_is t.author a e), own_chain v a (Some t) ts s (λ u q. f u (inr q))))
    (λ e. rw e (own_chain v a before ts s (λ u q. f u (inr q))))
  where
    fits : IsStem v t → t.author ≡ a → FitsStem 4 a t
    fits h e = (e, (let n = s t.author 0 h.author in let c = h.counted in omega (arith, n, c)), low_fits t.low h.bottom h.low, (let n = h.end in omega (arith, n)))

from_in : (a n : ℕ) (ts : List Stem) → AreFrom a n ts → (t : Stem) → IsIn t ts → a ≤ t.author
from_in a n [] h t q = absurd q
from_in a n (u ∷ ts) h t (inl e) = subst (λ (w : Stem). a ≤ w.author) e h.0
from_in a n (u ∷ ts) h t (inr q) = from_in a n ts h.2 t q

pub grouped : (v : List ℕ) (a n : ℕ) (ts : List Stem) → All IsSmall v → Rising ts → ((t : Stem) → IsIn t ts → IsStem v t) → AreFrom a n ts → length ts < 2 ^ 32 → Grouped 4 a n ts
grouped v a zero [] s r f g few = refl
grouped v a zero (t ∷ ts) s r f g few = (let l = g.0 in let m = g.1 in absurd (omega (arith, l, m)))
grouped v a (suc n) ts s r f g few =
    let c = both_counts a ts in (
      (few_own a ts few, own_chain v a None ts s f),
      own_first a ts r (from_in a (suc n) ts g),
      grouped v (suc a) n (others_of a ts) s (others_rise a ts r) (λ t q. f t (in_filter (λ (u : Stem). not (u.author == a)) t ts q).0) (others_from a n ts g) (omega (arith, c, few)),
    )

-- ---- epochs

pub node_in : (ns : List Node) (e : EpochName) (n : Node) → node_of ns e ≡ Some n → IsIn n ns
node_in [] e n h = absurd cc
node_in (m ∷ ns) e n h = go (is_of m e) (node_in ns e n) h
  where
    go : (b : Bool) → (node_of ns e ≡ Some n → IsIn n ns) → (if b then Some m else node_of ns e) ≡ Some n → IsIn n (m ∷ ns)
    go true rest h = inl (some_is m n h)
    go false rest h = inr (rest h)

former_idents : (xs : List (List Tuple)) → IsFormer xs → AreIdents xs
former_idents [] h = absurd h
former_idents (a ∷ []) h = (and_true (is_ident a) true h refl, refl)
former_idents (a ∷ (b ∷ xs)) h =
    let rest = former_idents (b ∷ xs) h.2 in
    (and_true (is_ident a) (list_all is_ident (b ∷ xs)) h.0 rest.0, and_true (ident_lt a b) (is_increasing (b ∷ xs)) (ap is_lt h.1) rest.1)

pub part_idents : (ns : List Node) (es : List EpochName) (e : EpochName) → AreNodes ns → AreIdents (epoch_part es e (node_of ns e)).former
part_idents ns es e d = go (node_of ns e) refl
  where
    go : (o : Option Node) → node_of ns e ≡ o → AreIdents (epoch_part es e o).former
    go None h = (refl, refl)
    go (Some n) h = former_idents n.renaming.former (former_in ns d n (node_in ns e n h))

-- the name of an epoch that an accepted operation opened
name_fits : (p : Parts) (e : EpochName) (r s : ℕ) → p.members ≤ MEMBERS → All IsSmall p.vector → length p.vector ≡ p.members → e ≡ Of r s → r < p.members → s ≤ slice_index p.vector r → FitsName e
name_fits p e r s few small count is l c = subst FitsName (sym is) (omega (arith, few, l), (let n = small r 0 (omega (arith, l, count)) in omega (arith, n, c)))

pub top_fits : (p : Parts) (e : EpochName) → p.members ≤ MEMBERS → All IsSmall p.vector → length p.vector ≡ p.members → may_be_top p e ≡ true → FitsName e
top_fits p Origin few small count h = tt
top_fits p (Of r s) few small count h = let o = opened_name p (Of r s) h in name_fits p (Of r s) o.0 o.1 few small count o.2 o.3 o.5

pub epochs_fit : (p : Parts) (f : EpochPart) (fs es : List EpochPart) (before : EpochPart) → p.members ≤ MEMBERS → All IsSmall p.vector → length p.vector ≡ p.members → length (f ∷ fs) + length es < 2 ^ 32 → epoch_fault p (f ∷ fs) es ≡ None
    → All FitsFormer es → ((e : EpochPart) → IsIn e es → AreIdents e.former) → Chained FitsEpoch (Some before) es
epochs_fit p f fs [] before few small count total h a g = tt
epochs_fit p f fs (e ∷ es) before few small count total h a g =
    let r = next_behind p f fs e es h in
    let i = r.0 in
    let long = length-append fs (e ∷ []) in (
      (name_fits p e.name i.replica i.seq few small count i.named i.member i.counted, (i.place, i.parent, (let l = i.below in omega (arith, l, total))), All-head FitsFormer e es a i.place i.parent (g e (inl refl))),
      epochs_fit p f (fs ++ e ∷ []) es e few small count (omega (arith, long, total)) r.1 (All-tail FitsFormer e es a) (λ x q. g x (inr q)),
    )

-- ---- text

run_put : (x : List Tuple) (c : ℕ) (rs : List TextRun) → runs_in (put_text (x, c) rs) ≡ put_run x (runs_in rs)
run_put x c [] = refl
run_put x c (r ∷ rs) = bool_cases (follows r.run.0 x) (λ e. rw e refl) (λ e. rw e refl)

pub text_runs_are : (es : Entries) → runs_in (text_runs es) ≡ runs_of (idents_in es)
text_runs_are [] = refl
text_runs_are (e ∷ es) = run_put e.0 e.1 (text_runs es) ∙ ap (put_run e.0) (text_runs_are es)

pub text_fit : (before : Option TextRun) (rs : List TextRun) → are_apart (run_before before) (runs_in rs) ≡ true → HaveTexts rs → All FitsChars rs → Chained FitsTextRun before rs
text_fit before [] a t f = tt
text_fit before (r ∷ rs) a t f =
    let own = nat_lt 0 r.run.1 in
    let apart = is_apart (run_before before) r.run in
    let later = are_apart (Some r.run) (runs_in rs) in
    let here = All-head FitsChars r rs f in
    (((here.0, and_right own apart (and_left (own && apart) later a)), here.1, eq_test (length r.text) r.run.1 t.0), text_fit (Some r) rs (and_right (own && apart) later a) t.1 (All-tail FitsChars r rs f))
