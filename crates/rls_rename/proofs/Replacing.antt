-- What a head decides alone.
use Rattle.std.proofs.Common.{◌≡◌, ℕ, ◌+◌, ◌-◌, ◌<◌, ◌≤◌, Bool, true, false, cond, Option, Some, None, List, [], ◌∷◌, ◌++◌, length, get_or, drop, min, Err, slice_get, refl, sym, ap, ◌∙◌, append_assoc, arith, length-drop}
use Rattle.std.specs.Prelude.{pos}
use Rattle.std.specs.declared.cmp.Ordering.{Ordering}
use Rattle.std.specs.declared.cmp.Ordering.TheVariants.{Less, Equal, Greater}
use Rattle.std.specs.Ordering.{ordering_then}
use Rattle.std.proofs.lemmas.List.{append-nil, drop-append-le, drop_more}
use Rattle.rls_ident.specs.declared.tuple.Spot.{Spot}
use Rattle.rls_ident.specs.declared.tuple.Tuple.{Tuple}
use Rattle.rls_ident.specs.declared.tuple.Tuple.TheVariants.{Low, High}
use Rattle.rls_ident.specs.Tuples.{tuple_cmp, at_offset}
use Rattle.rls_ident.specs.Maps.{by_order, under, low, high, low_inverse, high_inverse}
use Rattle.rls_ident.specs.Identifiers.{ident_cmp, pred}
use Rattle.rls_ident.proofs.Loops.{drop_reads}
use Rattle.rls_runs.specs.Runs.{place_of}
use Rattle.rls_rename.specs.Heads.{head_less, Replaces}
use Rattle.rls_rename.specs.Renaming.{IsFormer, new_above, new_below, old_above_inverse, old_below_inverse, old_between_inverse, forward_by}
use Rattle.rls_rename.proofs.GapPlaces.{gap_below}
use Rattle.rls_rename.proofs.GapImages.{forward_end, forward_first, forward_inside}

-- ---- comparisons

under_after : (h p r y : List Tuple) (b : Bool) → head_less h p ≡ Some b → under tuple_cmp (h ++ y) (p ++ r) ≡ b
unfolding under
under_after [] p r y b e = cc
under_after (t ∷ h) [] r y b e = cc
under_after (t ∷ h) (q ∷ p) r y b e = go (under_after h p (r ++ (q ∷ [])) y b) (tuple_cmp t q) e
  where
    go : (head_less h p ≡ Some b → under tuple_cmp (h ++ y) (p ++ (r ++ (q ∷ []))) ≡ b) → (o : Ordering) → by_order o (Some true) (head_less h p) (Some false) ≡ Some b → by_order o true (under tuple_cmp (h ++ y) ((p ++ r) ++ (q ∷ []))) false ≡ b
    go f Less e = cc
    go f Equal e = ap (under tuple_cmp (h ++ y)) (append_assoc p r (q ∷ [])) ∙ f e
    go f Greater e = cc

-- what begins with the head lies on its side of the pattern
under_head : (h p y : List Tuple) (b : Bool) → head_less h p ≡ Some b → under tuple_cmp (h ++ y) p ≡ b
under_head h p y b e = ap (under tuple_cmp (h ++ y)) (sym (append-nil p)) ∙ under_after h p [] y b e

less_head : (h b y : List Tuple) → head_less h b ≡ Some true → ident_cmp (h ++ y) b ≡ Less
less_head [] b y e = cc
less_head (t ∷ h) [] y e = cc
less_head (t ∷ h) (q ∷ b) y e = go (less_head h b y) (tuple_cmp t q) e
  where
    go : (head_less h b ≡ Some true → ident_cmp (h ++ y) b ≡ Less) → (o : Ordering) → by_order o (Some true) (head_less h b) (Some false) ≡ Some true → ordering_then o (ident_cmp (h ++ y) b) ≡ Less
    go f Less e = refl
    go f Equal e = f e
    go f Greater e = cc

above_head : (a h y : List Tuple) → ident_cmp a h ≡ Less → ident_cmp a (h ++ y) ≡ Less
above_head [] [] y e = cc
above_head [] (t ∷ h) y e = refl
above_head (q ∷ a) [] y e = cc
above_head (q ∷ a) (t ∷ h) y e = go (above_head a h y) (tuple_cmp q t) e
  where
    go : (ident_cmp a h ≡ Less → ident_cmp a (h ++ y) ≡ Less) → (o : Ordering) → ordering_then o (ident_cmp a h) ≡ Less → ordering_then o (ident_cmp a (h ++ y)) ≡ Less
    go f Less e = refl
    go f Equal e = f e
    go f Greater e = cc

-- ---- the loop over both

pub head_read : (h p : List Tuple) (i : ℕ) (t d : Tuple) (o : Ordering) (u : Option Bool) → slice_get h i ≡ Some t → i < length p → o ≡ tuple_cmp t (get_or p i d) → head_less (drop i h) (drop i p) ≡ u →
    by_order o (Some true) (head_less (drop (i + 1) h) (drop (i + 1) p)) (Some false) ≡ u
head_read h p i t d o u g l e q =
    let a = drop_reads h i t g in
    let b = drop_more p i d l in
    let k : head_less (t ∷ drop (i + 1) h) (get_or p i d ∷ drop (i + 1) p) ≡ u = rw (a, b) at q in
    ap (λ r. by_order r (Some true) (head_less (drop (i + 1) h) (drop (i + 1) p)) (Some false)) e ∙ k

none_left : (h p : List Tuple) (u : Option Bool) → min (length h) (length p) ≡ 0 → head_less h p ≡ u → None ≡ u
none_left [] p u m e = e
none_left (t ∷ h) [] u m e = e
none_left (t ∷ h) (q ∷ p) u m e = absurd (omega arith)

-- ---- maps

pub low_strips : (p h : List Tuple) → head_less h p ≡ Some true → length p ≤ length h → Replaces (low_inverse tuple_cmp p) h (drop (length p) h)
unfolding low_inverse
low_strips p h e l y = ap (λ u. cond u (drop (length p) (h ++ y)) (h ++ y)) (under_head h p y true e) ∙ drop-append-le (length p) h y l

pub low_stays : (p h : List Tuple) → head_less h p ≡ Some false → Replaces (low_inverse tuple_cmp p) h h
unfolding low_inverse
low_stays p h e y = ap (λ u. cond u (drop (length p) (h ++ y)) (h ++ y)) (under_head h p y false e)

pub high_strips : (p h : List Tuple) → head_less h p ≡ Some false → length p ≤ length h → Replaces (high_inverse tuple_cmp p) h (drop (length p) h)
unfolding high_inverse
high_strips p h e l y = ap (λ u. cond u (h ++ y) (drop (length p) (h ++ y))) (under_head h p y false e) ∙ drop-append-le (length p) h y l

pub high_stays : (p h : List Tuple) → head_less h p ≡ Some true → Replaces (high_inverse tuple_cmp p) h h
unfolding high_inverse
high_stays p h e y = ap (λ u. cond u (h ++ y) (drop (length p) (h ++ y))) (under_head h p y true e)

pub low_puts : (p h : List Tuple) → head_less h p ≡ Some true → Replaces (low tuple_cmp p) h (p ++ h)
unfolding low
low_puts p h e y = ap (λ u. cond u (p ++ (h ++ y)) (h ++ y)) (under_head h p y true e) ∙ sym (append_assoc p h y)

pub low_keeps : (p h : List Tuple) → head_less h p ≡ Some false → Replaces (low tuple_cmp p) h h
unfolding low
low_keeps p h e y = ap (λ u. cond u (p ++ (h ++ y)) (h ++ y)) (under_head h p y false e)

pub high_puts : (p h : List Tuple) → head_less h p ≡ Some false → Replaces (high tuple_cmp p) h (p ++ h)
unfolding high
high_puts p h e y = ap (λ u. cond u (h ++ y) (p ++ (h ++ y))) (under_head h p y false e) ∙ sym (append_assoc p h y)

pub high_keeps : (p h : List Tuple) → head_less h p ≡ Some true → Replaces (high tuple_cmp p) h h
unfolding high
high_keeps p h e y = ap (λ u. cond u (h ++ y) (p ++ (h ++ y))) (under_head h p y true e)

-- one map after another
pub then_replaced : (f g : List Tuple → List Tuple) (h x z : List Tuple) → Replaces f h x → Replaces g x z → Replaces (λ t. g (f t)) h z
then_replaced f g h x z r q y = ap g (r y) ∙ q y

pub first_replaced : (s : Spot) (f : List (List Tuple)) (h a z : List Tuple) → slice_get f 0 ≡ Some a → head_less h a ≡ Some true → Replaces (λ x. new_below s (old_below_inverse a x)) h z → Replaces (forward_by s f) h z
first_replaced s f h a z g n r y = forward_first s f (h ++ y) a g (less_head h a y n) ∙ r y

pub end_replaced : (s : Spot) (f : List (List Tuple)) (h a z : List Tuple) (k : ℕ) → IsFormer f → place_of h f ≡ Err k → k ≡ length f → 0 < k → slice_get f (k - 1) ≡ Some a → Replaces (λ x. new_above s (k - 1) (old_above_inverse a x)) h z → Replaces (forward_by s f) h z
end_replaced s f h a z k d e m l g r y = forward_end s f (h ++ y) a k d m l g (above_head a h y (gap_below f h k a e l g)) ∙ r y

pub between_replaced : (a b h x z p c q : List Tuple) → p ≡ a ++ (Low ∷ []) → c ≡ old_above_inverse a b → q ≡ pred c ++ (High ∷ []) → Replaces (low_inverse tuple_cmp p) h x → Replaces (high_inverse tuple_cmp q) x z → Replaces (old_between_inverse a b) h z
between_replaced a b h x z p c q i j k f g y =
    let m : q ≡ pred (old_above_inverse a b) ++ (High ∷ []) = k ∙ ap (λ t. pred t ++ (High ∷ [])) j in
    ap (high_inverse tuple_cmp (pred (old_above_inverse a b) ++ (High ∷ []))) (ap (λ t. low_inverse tuple_cmp t (h ++ y)) (sym i) ∙ f y)
    ∙ (ap (λ t. high_inverse tuple_cmp t (x ++ y)) (sym m) ∙ g y)

pub forward_replaced : (s : Spot) (f : List (List Tuple)) (h a b z : List Tuple) (k : ℕ) → IsFormer f → place_of h f ≡ Err k → 0 < k → slice_get f (k - 1) ≡ Some a → slice_get f k ≡ Some b → head_less h b ≡ Some true → Replaces (old_between_inverse a b) h z →
    Replaces (forward_by s f) h (at_offset s (pos (k - 1)) ∷ z)
forward_replaced s f h a b z k d e l g j n r y =
    forward_inside s f (h ++ y) a b k d l g j (above_head a h y (gap_below f h k a e l g)) (less_head h b y n) ∙ ap (λ x. at_offset s (pos (k - 1)) ∷ x) (r y)

pub head_ended : (h p : List Tuple) (i : ℕ) (u : Option Bool) → i ≡ min (length h) (length p) → head_less (drop i h) (drop i p) ≡ u → None ≡ u
head_ended h p i u e q = none_left (drop i h) (drop i p) u (rw (length-drop i h, length-drop i p) (omega arith)) q
