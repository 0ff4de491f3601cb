-- What a renaming does to a front of a run that lies in one gap or among former identifiers.
use Rattle.std.proofs.Common.{◌≡◌, ℕ, ◌+◌, ◌-◌, ◌<◌, ◌≤◌, true, List, [], ◌∷◌, length, Some, slice_get, sym, ap, ◌∙◌, subst, arith}
use Rattle.std.specs.Prelude.{pos, ◌+ℤ◌, ◌≤ℤ◌}
use Rattle.std.specs.declared.cmp.Ordering.TheVariants.{Less}
use Rattle.std.proofs.lemmas.Int.{ints}
use Rattle.std.proofs.lemmas.Option.{slice_get_within}
use Rattle.rls_ident.specs.declared.tuple.Spot.{Spot}
use Rattle.rls_ident.specs.declared.tuple.Tuple.{Tuple}
use Rattle.rls_ident.specs.Tuples.{at_offset, offset_of}
use Rattle.rls_ident.specs.Identifiers.{IsIdent, ident_cmp, last_of, shifted}
use Rattle.rls_ident.proofs.Shifted.{ident_shifted, shifted_none, shifted_shifted, last_offset}
use Rattle.rls_runs.specs.Runs.{is_run, past_offsets}
use Rattle.rls_runs.proofs.RunEnds.{run_end}
use Rattle.rls_runs.proofs.RunOrder.{less_shifted, run_ident}
use Rattle.rls_rename.specs.Renaming.{IsFormer, new_at, new_below, new_between, new_above, new_below_inverse, new_between_inverse, new_above_inverse, old_below, old_between, old_above, old_below_inverse, old_between_inverse, old_above_inverse, forward_by, back_by}
use Rattle.rls_rename.specs.Stretches.{GoesAlong, CutAt, StandsAt}
use Rattle.rls_rename.proofs.GapImages.{forward_first, forward_former, forward_inside, forward_end, back_former, back_first, back_inside, back_end}
use Rattle.rls_rename.proofs.Stretches.{goes_then, goes_as}

-- what is above a stays above it along a run
stays_above : (a x : List Tuple) (k : ℕ) → IsIdent x → ident_cmp a x ≡ Less → ident_cmp a (shifted (pos k) x) ≡ Less
stays_above a x k i l = (less_shifted a x k i (record { less = l })).less

new_shifted : (s : Spot) (i k : ℕ) → shifted (pos k) (new_at s i) ≡ new_at s (i + k)
new_shifted s i k = let n : (pos i +ℤ pos k) ≡ pos (i + k) = omega (arith, ints) in ap (λ o. at_offset s o ∷ []) n

-- of a run from x on, y stands for the front that is left in the gap, and u and z are what the gap's two maps make of it
module _ (s : Spot) (f : List (List Tuple)) (x : List Tuple) (n : ℕ) (y : List Tuple) (j : ℕ) (same : y ≡ x) (u : List Tuple) (l : ℕ) (z : List Tuple) (m : ℕ) where
  moved_on : (F G : List Tuple → List Tuple) → GoesAlong F y j u l → GoesAlong G u l z m → GoesAlong (λ t. G (F t)) x j z m
  moved_on F G g h = subst (λ t. GoesAlong (λ v. G (F v)) t j z m) same (goes_then F G y j u l z m g h)

  pub first_forward : (a : List Tuple) → slice_get f 0 ≡ Some a → CutAt x n a j → GoesAlong (old_below_inverse a) y j u l → GoesAlong (new_below s) u l z m → GoesAlong (forward_by s f) x n z m
  first_forward a e c g h = goes_as (forward_by s f) (λ t. new_below s (old_below_inverse a t)) x n j z m c.most (λ k w. forward_first s f (shifted (pos k) x) a e (c.below k w)) (moved_on (old_below_inverse a) (new_below s) g h)

  pub first_back : (a : List Tuple) → slice_get f 0 ≡ Some a → CutAt x n (new_at s 0) j → GoesAlong (new_below_inverse s) y j u l → GoesAlong (old_below a) u l z m → GoesAlong (back_by s f) x n z m
  first_back a e c g h = goes_as (back_by s f) (λ t. old_below a (new_below_inverse s t)) x n j z m c.most (λ k w. back_first s f (shifted (pos k) x) a (c.below k w) e) (moved_on (new_below_inverse s) (old_below a) g h)

  module _ (former : IsFormer f) (i : IsIdent x) (gap : ℕ) (some : 0 < gap) (a : List Tuple) (e : slice_get f (gap - 1) ≡ Some a) where
    pub inside_forward : (b : List Tuple) → slice_get f gap ≡ Some b → ident_cmp a x ≡ Less → CutAt x n b j → GoesAlong (old_between_inverse a b) y j u l → GoesAlong (new_between s (gap - 1)) u l z m → GoesAlong (forward_by s f) x n z m
    inside_forward b r above c g h =
        goes_as (forward_by s f) (λ t. new_between s (gap - 1) (old_between_inverse a b t)) x n j z m c.most
        (λ k w. forward_inside s f (shifted (pos k) x) a b gap former some e r (stays_above a x k i above) (c.below k w)) (moved_on (old_between_inverse a b) (new_between s (gap - 1)) g h)

    pub inside_back : (b : List Tuple) → slice_get f gap ≡ Some b → ident_cmp (new_at s (gap - 1)) x ≡ Less → CutAt x n (new_at s gap) j → GoesAlong new_between_inverse y j u l → GoesAlong (old_between a b) u l z m → GoesAlong (back_by s f) x n z m
    inside_back b r above c g h =
        goes_as (back_by s f) (λ t. old_between a b (new_between_inverse t)) x n j z m c.most
        (λ k w. back_inside s f (shifted (pos k) x) a b gap former (ident_shifted (pos k) x i) some e r (stays_above (new_at s (gap - 1)) x k i above) (c.below k w)) (moved_on new_between_inverse (old_between a b) g h)

    pub end_forward : gap ≡ length f → j ≤ n → ident_cmp a x ≡ Less → GoesAlong (old_above_inverse a) y j u l → GoesAlong (new_above s (gap - 1)) u l z m → GoesAlong (forward_by s f) x n z m
    end_forward r q above g h =
        goes_as (forward_by s f) (λ t. new_above s (gap - 1) (old_above_inverse a t)) x n j z m q
        (λ k w. forward_end s f (shifted (pos k) x) a gap former r some e (stays_above a x k i above)) (moved_on (old_above_inverse a) (new_above s (gap - 1)) g h)

    pub end_back : gap ≡ length f → j ≤ n → ident_cmp (new_at s (gap - 1)) x ≡ Less → GoesAlong (new_above_inverse s (gap - 1)) y j u l → GoesAlong (old_above a) u l z m → GoesAlong (back_by s f) x n z m
    end_back r q above g h =
        goes_as (back_by s f) (λ t. old_above a (new_above_inverse s (gap - 1) t)) x n j z m q
        (λ k w. back_end s f (shifted (pos k) x) a gap former (ident_shifted (pos k) x i) r some e (stays_above (new_at s (gap - 1)) x k i above)) (moved_on (new_above_inverse s (gap - 1)) (old_above a) g h)

-- ---- former identifiers

-- the run that holds place i holds the identifiers from there on to its end
module _ (f : List (List Tuple)) (i place : ℕ) (held : List Tuple × ℕ) (within : place < held.1) (idents : (k : ℕ) → place + k < held.1 → slice_get f (i + k) ≡ Some (shifted (pos (place + k)) held.0)) where
  pub held_on : (m : ℕ) → m ≤ held.1 - place → (k : ℕ) → k < m → slice_get f (i + k) ≡ Some (shifted (pos k) (shifted (pos place) held.0))
  held_on m l k h = let n : pos (place + k) ≡ (pos place +ℤ pos k) = omega (arith, ints) in idents k (omega arith) ∙ ap Some (ap (λ j. shifted j held.0) n ∙ sym (shifted_shifted (pos k) (pos place) held.0))

  held_first : (x : List Tuple) → slice_get f i ≡ Some x → x ≡ shifted (pos place) held.0
  held_first x g =
      let n : i ≡ i + 0 = omega arith in
      let e = held_on 1 (omega arith) 0 (omega arith) ∙ ap Some (shifted_none (shifted (pos place) held.0)) in
      let h = sym g ∙ (ap (slice_get f) n ∙ e) in
      cc

  pub held_from : (x : List Tuple) → slice_get f i ≡ Some x → (m : ℕ) → m ≤ held.1 - place → (k : ℕ) → k < m → slice_get f (i + k) ≡ Some (shifted (pos k) x)
  held_from x g m l k h = held_on m l k h ∙ ap (λ y. Some (shifted (pos k) y)) (sym (held_first x g))

  pub held_short : (m : ℕ) → 0 < m → m ≤ held.1 - place → i + m ≤ length f
  held_short m s l = let w = slice_get_within f (i + (m - 1)) (shifted (pos (m - 1)) (shifted (pos place) held.0)) (held_on m l (m - 1) (omega arith)) in omega arith

  pub held_range : (m : ℕ) → is_run held ≡ true → m ≤ held.1 - place → (offset_of (last_of (shifted (pos place) held.0)) +ℤ pos m) ≤ℤ past_offsets
  held_range m r l = let e = last_offset (pos place) held.0 (run_ident held r) in let n = run_end held r in omega (arith, ints)

pub former_forward : (s : Spot) (f : List (List Tuple)) (x : List Tuple) (n i m : ℕ) → IsFormer f → m ≤ n → ((k : ℕ) → k < m → slice_get f (i + k) ≡ Some (shifted (pos k) x)) → GoesAlong (forward_by s f) x n (new_at s i) m
former_forward s f x n i m h w e = record { most = w; each = λ k l. forward_former s f (shifted (pos k) x) (i + k) h (e k l) ∙ sym (new_shifted s i k) }

pub former_back : (s : Spot) (f : List (List Tuple)) (x : List Tuple) (n i : ℕ) (a : List Tuple) (m : ℕ) → IsFormer f → new_at s i ≡ x → StandsAt f i n a m → GoesAlong (back_by s f) x n a m
former_back s f x n i a m h same e =
    record {
      most = e.most;
      each = λ k l. ap (λ t. back_by s f (shifted (pos k) t)) (sym same) ∙ (ap (back_by s f) (new_shifted s i k) ∙ back_former s f (shifted (pos k) a) (i + k) h (e.each k l));
    }
