-- The queues of authors, against the list of all their operations.
use Rattle.std.proofs.Common.{◌≡◌, ℕ, ◌<◌, Bool, true, false, cond, List, [], ◌∷◌, ◌++◌, Option, None, Some, refl, sym, ap, ◌∙◌, arith}
use Rattle.std.specs.Prelude.{nat_eq, nat_lt, ◌&&◌}
use Rattle.std.specs.List.{list_all, AllByRecursion}
use Rattle.std.specs.List.Sorted.{IsStrictlySortedBy}
use Rattle.std.specs.Map.{keys_of, values_of, lookup, set_value}
use Rattle.std.specs.Option.{option_or}
use Rattle.std.specs.Ordering.{nat_cmp}
use Rattle.std.specs.declared.cmp.Ordering.TheVariants.{Less}
use Rattle.std.proofs.lemmas.Bool.Decides.{nat_tests}
use Rattle.std.proofs.lemmas.List.Folds.{find-append, list_all-append}
use Rattle.std.proofs.lemmas.List.Sorted.{IsNonDecreasingBy-from_sort}
use Rattle.std.proofs.lemmas.Map.{keys-set_value}
use Rattle.std.proofs.lemmas.Map.Keys.{IsStrictlyIncreasing-from_distinct, sorted_from_strictly_increasing, sorted_head, sorted_tail}
use Rattle.rls_ident.specs.Vectors.{at_most}
use Rattle.rls_ident.proofs.Members.{and_left, and_right, and_true, all_in, eq_is, eq_not, eq_test, in_all, lt_is, none_found, not_true, some_is}
use Rattle.rls_ops.specs.declared.op.Op.{Op}
use Rattle.rls_ops.specs.Waiting.{is_numbered, waiting_under, comes_before, with_waiting, without, first_ready_at, is_in_order}
use Rattle.rls_ops.proofs.Waiting.{numbered_is, without_in_order}
use Rattle.rls_causal.specs.Queued.{is_by}
use Rattle.rls_causal.specs.Queues.{joined, is_own, AreQueues}
use Rattle.rls_causal.proofs.Putting.{with_front, without_none}
use Rattle.rls_causal.proofs.Queued.{with_new, with_passing, without_passing}

-- ---- authors in order

-- each author is less than all after it
abbrev pub rise : List (ℕ × List Op) → Bool
rise [] = true
rise (e ∷ es) = list_all (λ d. nat_lt e.0 d.0) es && rise es

less_is : (m n : ℕ) → nat_cmp m n ≡ Less → nat_lt m n ≡ true
less_is m n h = grind (arith, nat_tests)

below_all : (k : ℕ) (es : List (ℕ × List Op)) → AllByRecursion (λ y. nat_cmp k y ≡ Less) (keys_of es) → list_all (λ d. nat_lt k d.0) es ≡ true
below_all k [] h = refl
below_all k (e ∷ es) h = and_true (nat_lt k e.0) (list_all (λ d. nat_lt k d.0) es) (less_is k e.0 h.0) (below_all k es h.1)

rising : (es : List (ℕ × List Op)) → IsStrictlySortedBy nat_cmp (keys_of es) → rise es ≡ true
rising [] h = refl
rising (e ∷ es) h = and_true (list_all (λ d. nat_lt e.0 d.0) es) (rise es) (below_all e.0 es (sorted_head nat_cmp e.0 (keys_of es) h)) (rising es (sorted_tail nat_cmp e.0 (keys_of es) h))

pub strictly : (es : List (ℕ × List Op)) → AreQueues es → IsStrictlySortedBy nat_cmp (keys_of es)
strictly es q = sorted_from_strictly_increasing (keys_of es) (IsStrictlyIncreasing-from_distinct (keys_of es) (IsNonDecreasingBy-from_sort (λ x. x) (keys_of es) q.sorted) q.apart)

pub in_order : (es : List (ℕ × List Op)) → AreQueues es → rise es ≡ true
in_order es q = rising es (strictly es q)

found_above : (k a : ℕ) (es : List (ℕ × List Op)) (W : List Op) → list_all (λ d. nat_lt k d.0) es ≡ true → lookup (nat_eq a) es ≡ Some W → k < a
found_above k a [] W h e = absurd (cc)
found_above k a (d ∷ ds) W h e = go (nat_eq a d.0) refl e (found_above k a ds W (and_right (nat_lt k d.0) (list_all (λ d. nat_lt k d.0) ds) h))
  where
    go : (b : Bool) → nat_eq a d.0 ≡ b → cond b (Some d.1) (lookup (nat_eq a) ds) ≡ Some W → (lookup (nat_eq a) ds ≡ Some W → k < a) → k < a
    go true t f ih = let l = lt_is k d.0 (and_left (nat_lt k d.0) (list_all (λ d. nat_lt k d.0) ds) h) in let q = eq_is a d.0 t in omega (arith, l, q)
    go false t f ih = ih f

-- ---- operations of authors

-- operations of an author above another come after that one's
above_own : (a b : ℕ) (W : List Op) → list_all (is_by b) W ≡ true → a < b → list_all (λ x. nat_lt a x.author) W ≡ true
above_own a b W h l = all_in (λ x. nat_lt a x.author) W (λ x p. one x (eq_is x.author b (in_all (is_by b) x W h p)))
  where
    one : (x : Op) → x.author ≡ b → nat_lt a x.author ≡ true
    one x e = grind (arith, nat_tests)

all_above : (a : ℕ) (es : List (ℕ × List Op)) → list_all is_own es ≡ true → list_all (λ d. nat_lt a d.0) es ≡ true → list_all (λ (x : Op). nat_lt a x.author) (joined (values_of es)) ≡ true
all_above a [] h l = refl
all_above a (e ∷ es) h l =
    list_all-append (λ (x : Op). nat_lt a x.author) e.1 (joined (values_of es))
    ∙ and_true (list_all (λ x. nat_lt a x.author) e.1) (list_all (λ x. nat_lt a x.author) (joined (values_of es)))
    (above_own a e.0 e.1 (and_left (is_own e) (list_all is_own es) h) (lt_is a e.0 (and_left (nat_lt a e.0) (list_all (λ d. nat_lt a d.0) es) l)))
    (all_above a es (and_right (is_own e) (list_all is_own es) h) (and_right (nat_lt a e.0) (list_all (λ d. nat_lt a d.0) es) l))

-- none of them is found under that one
none_above : (a s : ℕ) (W : List Op) → list_all (λ x. nat_lt a x.author) W ≡ true → waiting_under W a s ≡ None
none_above a s W h = none_found (is_numbered a s) W (λ x p. not_true (is_numbered a s x) (λ t. let l = lt_is a x.author (in_all (λ x. nat_lt a x.author) x W h p) in let e = (numbered_is a s x t).0 in omega (arith, l, e)))

-- nor of another author
none_of_other : (a s b : ℕ) (W : List Op) → list_all (is_by b) W ≡ true → nat_eq a b ≡ false → waiting_under W a s ≡ None
none_of_other a s b W h n = none_found (is_numbered a s) W (λ x p. not_true (is_numbered a s x) (λ t. eq_not a b n (sym (numbered_is a s x t).0 ∙ eq_is x.author b (in_all (is_by b) x W h p))))

or_none : (r : Option Op) → option_or r None ≡ r
or_none None = refl
or_none (Some x) = refl

-- ---- look-ups

-- what waits under a number in this queue, or in none
abbrev pub queued_under : Option (List Op) → ℕ → ℕ → Option Op
queued_under None a s = None
queued_under (Some W) a s = waiting_under W a s

pub looked_up : (a s : ℕ) (es : List (ℕ × List Op)) → list_all is_own es ≡ true → rise es ≡ true → waiting_under (joined (values_of es)) a s ≡ queued_under (lookup (nat_eq a) es) a s
looked_up a s [] h r = refl
looked_up a s (e ∷ es) h r = find-append (is_numbered a s) e.1 (joined (values_of es)) ∙ go (nat_eq a e.0) refl (looked_up a s es (and_right (is_own e) (list_all is_own es) h) (and_right (list_all (λ d. nat_lt e.0 d.0) es) (rise es) r))
  where
    rest : Option Op
    rest = waiting_under (joined (values_of es)) a s

    go : (b : Bool) → nat_eq a e.0 ≡ b → rest ≡ queued_under (lookup (nat_eq a) es) a s → option_or (waiting_under e.1 a s) rest ≡ queued_under (cond b (Some e.1) (lookup (nat_eq a) es)) a s
    go true t ih =
        ap (option_or (waiting_under e.1 a s)) (none_above a s (joined (values_of es)) (all_above a es (and_right (is_own e) (list_all is_own es) h) (ap (λ k. list_all (λ d. nat_lt k d.0) es) (eq_is a e.0 t) ∙ and_left (list_all (λ d. nat_lt e.0 d.0) es) (rise es) r)))
        ∙ or_none (waiting_under e.1 a s)
    go false t ih = ap (λ q. option_or q rest) (none_of_other a s e.0 e.1 (and_left (is_own e) (list_all is_own es) h) t) ∙ ih

-- what waits under a number, by the queue of its author
pub found_under : (a s : ℕ) (es : List (ℕ × List Op)) (waiting : List Op) (o : Option (List Op)) → AreQueues es → joined (values_of es) ≡ waiting → o ≡ lookup (nat_eq a) es → queued_under o a s ≡ waiting_under waiting a s
found_under a s es waiting o q is e = ap (λ W. queued_under W a s) e ∙ sym (looked_up a s es q.own (in_order es q)) ∙ ap (λ V. waiting_under V a s) is

pub own_queue : (a : ℕ) (es : List (ℕ × List Op)) (W : List Op) → list_all is_own es ≡ true → lookup (nat_eq a) es ≡ Some W → list_all (is_by a) W ≡ true
own_queue a [] W h e = absurd (cc)
own_queue a (d ∷ ds) W h e = go (nat_eq a d.0) refl e (own_queue a ds W (and_right (is_own d) (list_all is_own ds) h))
  where
    go : (b : Bool) → nat_eq a d.0 ≡ b → cond b (Some d.1) (lookup (nat_eq a) ds) ≡ Some W → (lookup (nat_eq a) ds ≡ Some W → list_all (is_by a) W ≡ true) → list_all (is_by a) W ≡ true
    go true t f ih = ap (list_all (is_by a)) (sym (some_is d.1 W f)) ∙ ap (λ k. list_all (is_by k) d.1) (eq_is a d.0 t) ∙ and_left (is_own d) (list_all is_own ds) h
    go false t f ih = ih f

-- the first ready one of a queue, or else of those after it
pub ready_in : (v : List ℕ) (W : List Op) (Ws rest : List (List Op)) → rest ≡ W ∷ Ws → first_ready_at v (joined rest) ≡ option_or (first_ready_at v W) (first_ready_at v (joined Ws))
ready_in v W Ws rest e = ap (λ (Vs : List (List Op)). first_ready_at v (joined Vs)) e ∙ find-append (λ x. at_most x.context v) W (joined Ws)

-- ---- a queue that changes

set_own : (a : ℕ) (es : List (ℕ × List Op)) (V : List Op) → list_all is_own es ≡ true → list_all (is_by a) V ≡ true → list_all is_own (set_value (nat_eq a) es V) ≡ true
set_own a [] V h k = refl
set_own a (d ∷ ds) V h k = go (nat_eq a d.0) refl (set_own a ds V (and_right (is_own d) (list_all is_own ds) h) k)
  where
    go : (b : Bool) → nat_eq a d.0 ≡ b → list_all is_own (set_value (nat_eq a) ds V) ≡ true → list_all is_own (cond b ((d.0, V) ∷ ds) (d ∷ set_value (nat_eq a) ds V)) ≡ true
    go true t ih = and_true (list_all (is_by d.0) V) (list_all is_own ds) (ap (λ n. list_all (is_by n) V) (sym (eq_is a d.0 t)) ∙ k) (and_right (is_own d) (list_all is_own ds) h)
    go false t ih = and_true (is_own d) (list_all is_own (set_value (nat_eq a) ds V)) (and_left (is_own d) (list_all is_own ds) h) ih

pub queues_set : (a : ℕ) (es : List (ℕ × List Op)) (V : List Op) → AreQueues es → list_all (is_by a) V ≡ true → is_in_order (joined (values_of (set_value (nat_eq a) es V))) ≡ true → AreQueues (set_value (nat_eq a) es V)
queues_set a es V q k o = record {
  own = set_own a es V q.own k;
  sorted = rw (keys-set_value (nat_eq a) es V) q.sorted;
  apart = rw (keys-set_value (nat_eq a) es V) q.apart;
  order = o;
}

-- an operation goes behind those that come before it, and in front of those that come after it
with_behind : (o : Op) (V J : List Op) → list_all (λ x. comes_before x o) V ≡ true → with_waiting o (V ++ J) ≡ V ++ with_waiting o J
with_behind o [] J h = refl
with_behind o (v ∷ vs) J h =
    ap (λ b. cond b (v ∷ with_waiting o (vs ++ J)) (o ∷ v ∷ (vs ++ J))) (and_left (comes_before v o) (list_all (λ x. comes_before x o) vs) h)
    ∙ ap (λ xs. v ∷ xs) (with_behind o vs J (and_right (comes_before v o) (list_all (λ x. comes_before x o) vs) h))

with_among : (o : Op) (V J : List Op) → list_all (comes_before o) J ≡ true → with_waiting o (V ++ J) ≡ with_waiting o V ++ J
with_among o [] J h = with_front o J h
with_among o (v ∷ vs) J h = go (comes_before v o) (with_among o vs J h)
  where
    go : (b : Bool) → with_waiting o (vs ++ J) ≡ with_waiting o vs ++ J → cond b (v ∷ with_waiting o (vs ++ J)) (o ∷ v ∷ (vs ++ J)) ≡ cond b (v ∷ with_waiting o vs) (o ∷ v ∷ vs) ++ J
    go true ih = ap (λ xs. v ∷ xs) ih
    go false ih = refl

comes_above : (o : Op) (J : List Op) → list_all (λ x. nat_lt o.author x.author) J ≡ true → list_all (comes_before o) J ≡ true
comes_above o J h = all_in (comes_before o) J (λ x p. one x (in_all (λ x. nat_lt o.author x.author) x J h p))
  where
    one : (x : Op) → nat_lt o.author x.author ≡ true → comes_before o x ≡ true
    one x l = grind (arith, nat_tests)

comes_below : (o : Op) (b : ℕ) (V : List Op) → list_all (is_by b) V ≡ true → b < o.author → list_all (λ x. comes_before x o) V ≡ true
comes_below o b V h l = all_in (λ x. comes_before x o) V (λ x p. one x (eq_is x.author b (in_all (is_by b) x V h p)))
  where
    one : (x : Op) → x.author ≡ b → comes_before x o ≡ true
    one x e = grind (arith, nat_tests)

pub joined_with : (o : Op) (es : List (ℕ × List Op)) (W : List Op) → list_all is_own es ≡ true → rise es ≡ true → lookup (nat_eq o.author) es ≡ Some W → joined (values_of (set_value (nat_eq o.author) es (with_waiting o W))) ≡ with_waiting o (joined (values_of es))
joined_with o [] W h r f = absurd (cc)
joined_with o (e ∷ es) W h r f = go (nat_eq o.author e.0) refl f (joined_with o es W own (and_right (list_all (λ d. nat_lt e.0 d.0) es) (rise es) r))
  where
    own : list_all is_own es ≡ true
    own = and_right (is_own e) (list_all is_own es) h

    above : list_all (λ d. nat_lt e.0 d.0) es ≡ true
    above = and_left (list_all (λ d. nat_lt e.0 d.0) es) (rise es) r

    J : List Op
    J = joined (values_of es)

    go : (b : Bool) → nat_eq o.author e.0 ≡ b → cond b (Some e.1) (lookup (nat_eq o.author) es) ≡ Some W
        → (lookup (nat_eq o.author) es ≡ Some W → joined (values_of (set_value (nat_eq o.author) es (with_waiting o W))) ≡ with_waiting o J)
        → joined (values_of (cond b ((e.0, with_waiting o W) ∷ es) (e ∷ set_value (nat_eq o.author) es (with_waiting o W)))) ≡ with_waiting o (e.1 ++ J)
    go true t g ih =
        ap (λ V. with_waiting o V ++ J) (sym (some_is e.1 W g))
        ∙ sym (with_among o e.1 J (comes_above o J (all_above o.author es own (ap (λ k. list_all (λ d. nat_lt k d.0) es) (eq_is o.author e.0 t) ∙ above))))
    go false t g ih =
        ap (λ V. e.1 ++ V) (ih g)
        ∙ sym (with_behind o e.1 J (comes_below o e.0 e.1 (and_left (is_own e) (list_all is_own es) h) (found_above e.0 o.author es W above g)))

without-append : (a s : ℕ) (V J : List Op) → without a s (V ++ J) ≡ without a s V ++ without a s J
without-append a s [] J = refl
without-append a s (v ∷ vs) J = go (is_numbered a s v) (without-append a s vs J)
  where
    go : (b : Bool) → without a s (vs ++ J) ≡ without a s vs ++ without a s J → cond b (without a s (vs ++ J)) (v ∷ without a s (vs ++ J)) ≡ cond b (without a s vs) (v ∷ without a s vs) ++ without a s J
    go true ih = ih
    go false ih = ap (λ xs. v ∷ xs) ih

pub joined_without : (a s : ℕ) (es : List (ℕ × List Op)) (W : List Op) → list_all is_own es ≡ true → rise es ≡ true → lookup (nat_eq a) es ≡ Some W → joined (values_of (set_value (nat_eq a) es (without a s W))) ≡ without a s (joined (values_of es))
joined_without a s [] W h r f = absurd (cc)
joined_without a s (e ∷ es) W h r f = go (nat_eq a e.0) refl f (joined_without a s es W own (and_right (list_all (λ d. nat_lt e.0 d.0) es) (rise es) r)) ∙ sym (without-append a s e.1 J)
  where
    own : list_all is_own es ≡ true
    own = and_right (is_own e) (list_all is_own es) h

    J : List Op
    J = joined (values_of es)

    go : (b : Bool) → nat_eq a e.0 ≡ b → cond b (Some e.1) (lookup (nat_eq a) es) ≡ Some W
        → (lookup (nat_eq a) es ≡ Some W → joined (values_of (set_value (nat_eq a) es (without a s W))) ≡ without a s J)
        → joined (values_of (cond b ((e.0, without a s W) ∷ es) (e ∷ set_value (nat_eq a) es (without a s W)))) ≡ without a s e.1 ++ without a s J
    go true t g ih =
        ap (λ V. without a s V ++ J) (sym (some_is e.1 W g))
        ∙ ap (λ V. without a s e.1 ++ V) (sym (without_none a s J (none_above a s J (all_above a es own (ap (λ k. list_all (λ d. nat_lt k d.0) es) (eq_is a e.0 t) ∙ and_left (list_all (λ d. nat_lt e.0 d.0) es) (rise es) r)))))
    go false t g ih =
        ap (λ V. e.1 ++ V) (ih g)
        ∙ ap (λ V. V ++ without a s J) (sym (without_none a s e.1 (none_of_other a s e.0 e.1 (and_left (is_own e) (list_all is_own es) h) t)))

-- ---- the same of a map in which an author's queue was changed

-- What waits under a number, if anything does, was taken out of the queues es, which are ds then.
pub record IsTaken (a s : ℕ) (es ds : List (ℕ × List Op)) (found : Option Op) : Type 0 where
  pub under : found ≡ waiting_under (joined (values_of es)) a s
  pub others : joined (values_of ds) ≡ without a s (joined (values_of es))
  pub queues : AreQueues ds

module _ (a : ℕ) (es ds : List (ℕ × List Op)) (W V : List Op) (q : AreQueues es) (at : lookup (nat_eq a) es ≡ Some W) (is : ds ≡ set_value (nat_eq a) es V) where
  changed : list_all (is_by a) V ≡ true → is_in_order (joined (values_of ds)) ≡ true → AreQueues ds
  changed k o = rw is (queues_set a es V q k (ap (λ cs. is_in_order (joined (values_of cs))) (sym is) ∙ o))

  -- what was found in the author's queue, and what is left of it
  pub taken : (s : ℕ) (found : Option Op) → (list_all (is_by a) W ≡ true → found ≡ waiting_under W a s) → (list_all (is_by a) W ≡ true → V ≡ without a s W) → IsTaken a s es ds found
  taken s found f v =
      let own = own_queue a es W q.own at in
      let others : joined (values_of ds) ≡ without a s (joined (values_of es)) = ap (λ cs. joined (values_of cs)) is ∙ ap (λ U. joined (values_of (set_value (nat_eq a) es U))) (v own) ∙ joined_without a s es W q.own (in_order es q) at in
      record {
        under = f own ∙ sym (looked_up a s es q.own (in_order es q) ∙ ap (λ r. queued_under r a s) at);
        others = others;
        queues = changed (ap (list_all (is_by a)) (v own) ∙ without_passing (is_by a) a s W own) (ap is_in_order others ∙ without_in_order a s (joined (values_of es)) q.order);
      }

  module _ (o : Op) (by : o.author ≡ a) (v : V ≡ with_waiting o W) where
    pub added_joined : joined (values_of ds) ≡ with_waiting o (joined (values_of es))
    added_joined =
        ap (λ cs. joined (values_of cs)) is ∙ ap (λ U. joined (values_of (set_value (nat_eq a) es U))) v
        ∙ ap (λ n. joined (values_of (set_value (nat_eq n) es (with_waiting o W)))) (sym by) ∙ joined_with o es W q.own (in_order es q) (ap (λ n. lookup (nat_eq n) es) by ∙ at)

    pub added_queues : waiting_under (joined (values_of es)) o.author o.seq ≡ None → AreQueues ds
    added_queues absent = changed (ap (list_all (is_by a)) v ∙ with_passing (is_by a) o W (eq_test o.author a by) (own_queue a es W q.own at)) (ap is_in_order added_joined ∙ with_new o (joined (values_of es)) q.order absent)
