-- What a renaming does to an identifier in a gap that a search has found.
use Rattle.std.proofs.Common.{◌≡◌, ℕ, zero, suc, ◌+◌, ◌-◌, ◌<◌, ◌≤◌, List, [], ◌∷◌, length, take, drop, get_or, Some, Ok, Err, slice_get, refl, sym, ap, ◌∙◌, subst, arith}
use Rattle.std.specs.Prelude.{pos, ◌+ℤ◌}
use Rattle.std.specs.declared.cmp.Ordering.TheVariants.{Less}
use Rattle.std.proofs.lemmas.Int.{ints}
use Rattle.std.proofs.lemmas.List.{length-take}
use Rattle.std.proofs.lemmas.Option.{get_or_from_slice_get, slice_get_within}
use Rattle.rls_ident.specs.declared.tuple.Spot.{Spot}
use Rattle.rls_ident.specs.declared.tuple.Tuple.{Tuple}
use Rattle.rls_ident.specs.Tuples.{at_offset}
use Rattle.rls_ident.specs.Identifiers.{IsIdent, ident_cmp}
use Rattle.rls_runs.specs.Runs.{run_idents, place_of}
use Rattle.rls_rename.specs.Renaming.{IsFormer, new_at, new_from, new_below, new_between, new_above, new_below_inverse, new_between_inverse, new_above_inverse, old_below, old_between, old_above, old_below_inverse, old_between_inverse, old_above_inverse, forward_by, back_by}
use Rattle.rls_rename.proofs.Increasing.{new_between_iso, new_above_iso}
use Rattle.rls_rename.proofs.Places as places
use Rattle.rls_rename.proofs.Places.{stop, back_between, back_last}
use Rattle.rls_rename.proofs.Index.{split_at, split_two, split_end, index_former, index_less, index_below, index_between, index_above}
use Rattle.rls_rename.proofs.GapPlaces.{gap_above, gap_below, gap_there, gap_within}

-- ---- forward

pub forward_first : (s : Spot) (f : List (List Tuple)) (x a : List Tuple) → slice_get f 0 ≡ Some a → ident_cmp x a ≡ Less → forward_by s f x ≡ new_below s (old_below_inverse a x)
forward_first s f x a g l =
    let q = get_or_from_slice_get f 0 a [] g in
    index_below s f x (slice_get_within f 0 a g) (ap (ident_cmp x) q ∙ l) ∙ ap (λ t. new_below s (old_below_inverse t x)) q

pub forward_former : (s : Spot) (f : List (List Tuple)) (x : List Tuple) (i : ℕ) → IsFormer f → slice_get f i ≡ Some x → forward_by s f x ≡ new_at s i
forward_former s f x i h g = ap (forward_by s f) (sym (get_or_from_slice_get f i x [] g)) ∙ index_former s f i h (slice_get_within f i x g)

pub neighbours : (f : List (List Tuple)) (k : ℕ) (a b : List Tuple) → IsFormer f → 0 < k → slice_get f (k - 1) ≡ Some a → slice_get f k ≡ Some b → ident_cmp a b ≡ Less
neighbours f k a b h l g j =
    let n : suc (k - 1) ≡ k = omega arith in
    let w = slice_get_within f k b j in
    ap (λ t. ident_cmp t b) (sym (get_or_from_slice_get f (k - 1) a [] g))
    ∙ (ap (ident_cmp (get_or f (k - 1) [])) (sym (ap (λ m. get_or f m []) n ∙ get_or_from_slice_get f k b [] j))
    ∙ index_less f (k - 1) h (omega arith))

pub forward_inside : (s : Spot) (f : List (List Tuple)) (x a b : List Tuple) (k : ℕ) → IsFormer f → 0 < k → slice_get f (k - 1) ≡ Some a → slice_get f k ≡ Some b → ident_cmp a x ≡ Less → ident_cmp x b ≡ Less →
    forward_by s f x ≡ new_between s (k - 1) (old_between_inverse a b x)
forward_inside s f x a b k h l g j above below =
    let n : suc (k - 1) ≡ k = omega arith in
    let w = slice_get_within f k b j in
    let p = get_or_from_slice_get f (k - 1) a [] g in
    let q = ap (λ m. get_or f m []) n ∙ get_or_from_slice_get f k b [] j in
    index_between s f (k - 1) x h (omega arith) (ap (λ t. ident_cmp t x) p ∙ above) (ap (ident_cmp x) q ∙ below)
    ∙ (ap (λ t. new_between s (k - 1) (old_between_inverse (get_or f (k - 1) []) t x)) q
    ∙ ap (λ t. new_between s (k - 1) (old_between_inverse t b x)) p)

pub forward_end : (s : Spot) (f : List (List Tuple)) (x a : List Tuple) (k : ℕ) → IsFormer f → k ≡ length f → 0 < k → slice_get f (k - 1) ≡ Some a → ident_cmp a x ≡ Less →
    forward_by s f x ≡ new_above s (k - 1) (old_above_inverse a x)
forward_end s f x a k h m l g above =
    let p = get_or_from_slice_get f (k - 1) a [] g in
    index_above s f (k - 1) x h (omega arith) (ap (λ t. ident_cmp t x) p ∙ above) ∙ ap (λ t. new_above s (k - 1) (old_above_inverse t x)) p

-- ---- the new identifiers

pub new_gets : (s : Spot) (i : ℕ) (f : List (List Tuple)) (j : ℕ) → j < length f → slice_get (new_from s i f) j ≡ Some (new_at s (i + j))
new_gets s i [] j l = absurd (omega arith)
new_gets s i (a ∷ f) zero l = let n : i ≡ i + 0 = omega arith in ap (λ m. Some (new_at s m)) n
new_gets s i (a ∷ f) (suc j) l = let n : suc i + j ≡ i + suc j = omega arith in new_gets s (suc i) f j (omega arith) ∙ ap (λ m. Some (new_at s m)) n

pub new_got : (s : Spot) (f : List (List Tuple)) (j : ℕ) → j < length f → slice_get (new_from s 0 f) j ≡ Some (new_at s j)
new_got s f j l = let n : 0 + j ≡ j = omega arith in new_gets s 0 f j l ∙ ap (λ m. Some (new_at s m)) n

pub new_length : (s : Spot) (i : ℕ) (f : List (List Tuple)) → length (new_from s i f) ≡ length f
new_length s i [] = refl
new_length s i (a ∷ f) = ap suc (new_length s (suc i) f)

next_new : (s : Spot) (i : ℕ) → at_offset s (pos i +ℤ pos 1) ≡ at_offset s (pos (suc i))
next_new s i = let n : (pos i +ℤ pos 1) ≡ pos (suc i) = omega (arith, ints) in ap (at_offset s) n

pub new_run : (s : Spot) (i : ℕ) (f : List (List Tuple)) → run_idents (new_at s i) (length f) ≡ new_from s i f
new_run s i [] = refl
new_run s i (a ∷ f) = ap (λ xs. new_at s i ∷ xs) (ap (λ t. run_idents (t ∷ []) (length f)) (next_new s i) ∙ new_run s (suc i) f)

pub new_place_is : (s : Spot) (f : List (List Tuple)) (z : List Tuple) (i : ℕ) → place_of z (new_from s 0 f) ≡ Ok i → new_at s i ≡ z
new_place_is s f z i e =
    let g = gap_there (new_from s 0 f) z i e in
    let w = gap_within (new_from s 0 f) z i e in
    let n = new_length s 0 f in
    let h = new_got s f i (omega arith) in
    cc

-- ---- back

pub back_former : (s : Spot) (f : List (List Tuple)) (a : List Tuple) (i : ℕ) → IsFormer f → slice_get f i ≡ Some a → back_by s f (new_at s i) ≡ a
back_former s f a i h g =
    let l = slice_get_within f i a g in
    let t = split_at f i l in
    let n : length (take i f) ≡ i = omega (arith, length-take i f) in
    ap (λ m. back_by s f (new_at s m)) (sym n)
    ∙ (ap (λ u. back_by s u (new_at s (length (take i f)))) t
    ∙ (places.back_former s (take i f) (get_or f i []) (drop (suc i) f) (subst IsFormer t h) ∙ get_or_from_slice_get f i a [] g))

pub back_first : (s : Spot) (f : List (List Tuple)) (z a : List Tuple) → ident_cmp z (new_at s 0) ≡ Less → slice_get f 0 ≡ Some a → back_by s f z ≡ old_below a (new_below_inverse s z)
unfolding back_by
back_first s [] z a l g = cc
back_first s (b ∷ rest) z a l g =
    let q : b ≡ a = cc in
    stop (new_at s 0) z (old_below b (new_below_inverse s z)) b _ (record { less = l }) ∙ ap (λ t. old_below t (new_below_inverse s z)) q

pub above_new : (s : Spot) (f : List (List Tuple)) (z : List Tuple) (k : ℕ) → place_of z (new_from s 0 f) ≡ Err k → 0 < k → k ≤ length f → ident_cmp (new_at s (k - 1)) z ≡ Less
above_new s f z k e l w = gap_below (new_from s 0 f) z k (new_at s (k - 1)) e l (new_got s f (k - 1) (omega arith))

pub below_new : (s : Spot) (f : List (List Tuple)) (z : List Tuple) (k : ℕ) → place_of z (new_from s 0 f) ≡ Err k → k < length f → ident_cmp z (new_at s k) ≡ Less
below_new s f z k e w = gap_above (new_from s 0 f) z k (new_at s k) e (new_got s f k w)

pub back_inside : (s : Spot) (f : List (List Tuple)) (z a b : List Tuple) (k : ℕ) → IsFormer f → IsIdent z → 0 < k → slice_get f (k - 1) ≡ Some a → slice_get f k ≡ Some b → ident_cmp (new_at s (k - 1)) z ≡ Less → ident_cmp z (new_at s k) ≡ Less →
    back_by s f z ≡ old_between a b (new_between_inverse z)
back_inside s f z a b k h i l g j above below =
    let n : suc (k - 1) ≡ k = omega arith in
    let m : k - 1 + 1 ≡ k = omega arith in
    let w = slice_get_within f k b j in
    let p = get_or_from_slice_get f (k - 1) a [] g in
    let q = ap (λ m. get_or f m []) n ∙ get_or_from_slice_get f k b [] j in
    let t = split_two f (k - 1) (omega arith) in
    let d : length (take (k - 1) f) ≡ k - 1 = omega (arith, length-take (k - 1) f) in
    let o = new_between_iso s (k - 1) in
    let u = ap (λ v. ident_cmp z (new_at s v)) m ∙ below in
    let y = new_between_inverse z in
    sym (ap (λ r. old_between r b y) (sym p)
    ∙ (ap (λ r. old_between (get_or f (k - 1) []) r y) (sym q)
    ∙ (sym (back_between s (take (k - 1) f) (get_or f (k - 1) []) (get_or f (suc (k - 1)) []) (drop (suc (suc (k - 1))) f) y (subst IsFormer t h) (o.onto z ((i, record { less = above }), record { less = u })))
    ∙ (ap (λ r. back_by s r (new_between s (length (take (k - 1) f)) y)) (sym t)
    ∙ (ap (λ m. back_by s f (new_between s m y)) d ∙ ap (back_by s f) (o.back z ((i, record { less = above }), record { less = u })))))))

pub back_end : (s : Spot) (f : List (List Tuple)) (z a : List Tuple) (k : ℕ) → IsFormer f → IsIdent z → k ≡ length f → 0 < k → slice_get f (k - 1) ≡ Some a → ident_cmp (new_at s (k - 1)) z ≡ Less →
    back_by s f z ≡ old_above a (new_above_inverse s (k - 1) z)
back_end s f z a k h i m l g above =
    let p = get_or_from_slice_get f (k - 1) a [] g in
    let t = split_end f (k - 1) (omega arith) in
    let d : length (take (k - 1) f) ≡ k - 1 = omega (arith, length-take (k - 1) f) in
    let o = new_above_iso s (k - 1) in
    let y = new_above_inverse s (k - 1) z in
    sym (ap (λ r. old_above r y) (sym p)
    ∙ (sym (back_last s (take (k - 1) f) (get_or f (k - 1) []) y (subst IsFormer t h) (o.onto z (i, record { less = above })))
    ∙ (ap (λ r. back_by s r (new_above s (length (take (k - 1) f)) y)) (sym t)
    ∙ (ap (λ n. back_by s f (new_above s n y)) d ∙ ap (back_by s f) (o.back z (i, record { less = above }))))))
