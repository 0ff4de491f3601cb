-- One renaming is an increasing map of all identifiers onto all identifiers.
use Rattle.std.proofs.Common.{◌≡◌, ℕ, ◌+◌, List, [], ◌∷◌, ◌++◌, refl, sym, subst, arith}
use Rattle.std.specs.Prelude.{pos, negsuc, ◌-ℤ◌}
use Rattle.std.proofs.lemmas.Int.{ints}
use Rattle.rls_ident.specs.declared.tuple.Spot.{Spot}
use Rattle.rls_ident.specs.declared.tuple.Tuple.{Tuple}
use Rattle.rls_ident.specs.declared.tuple.Tuple.TheVariants.{Low, High}
use Rattle.rls_ident.specs.Identifiers.{IsIdent, pred}
use Rattle.rls_ident.specs.Tuples.{at_offset}
use Rattle.rls_rename.specs.Renaming.{IsFormer, old_below, old_between, old_above, old_below_inverse, old_between_inverse, old_above_inverse, new_at, new_below, new_between, new_above, new_below_inverse, new_between_inverse, new_above_inverse, forward_above, forward_by, back_above, back_by}
use Rattle.rls_ident.proofs.Lists.{Lt, lt_trans}
use Rattle.rls_ident.proofs.Iso.{Iso, inverse, compose, reach, below, source}
use Rattle.rls_ident.proofs.Reach.{UpTo, low_iso, high_iso}
use Rattle.rls_ident.proofs.Gaps.{Step, up_to_below, below_up_to, above_mark, mark_above, up_to_letter, letter_up_to, behind_iso, first_less}
use Rattle.rls_ident.proofs.Glue.{side, glue}
use Rattle.rls_ident.proofs.Tuples.{tuples, marks, next, words, split_last}

pub some_end : (p : List Tuple) (t : Tuple) → Lt tuples [] (p ++ (t ∷ []))
some_end [] t = record { less = refl }
some_end (a ∷ p) t = record { less = refl }

pub low_no_ident : IsIdent (Low ∷ []) → ⊥
low_no_ident i = cc

pub old_below_iso : (a : List Tuple) → IsIdent a → Iso tuples IsIdent (λ x. IsIdent x × Lt tuples x a) (old_below a) (old_below_inverse a)
old_below_iso a i =
    let r = split_last a i in
    let n : Step tuples (at_offset r.1 (r.1.offset -ℤ pos 1)) (at_offset r.1 r.1.offset) = next r.1 (r.1.offset -ℤ pos 1) r.1.offset (omega (arith, ints)) in
    let f : (t : List Tuple) → pred a ≡ t → (x : List Tuple) → UpTo tuples (pred a ++ (High ∷ [])) x → UpTo tuples (t ++ (High ∷ [])) x =
    λ t e x u. subst (λ v. UpTo tuples (v ++ (High ∷ [])) x) e u in
    let g : (t : List Tuple) → pred a ≡ t → (x : List Tuple) → UpTo tuples (t ++ (High ∷ [])) x → UpTo tuples (pred a ++ (High ∷ [])) x =
    λ t e x u. subst (λ v. UpTo tuples (v ++ (High ∷ [])) x) (sym e) u in
    reach
    (λ x q. (q.0, subst (λ t. Lt tuples x t) (sym r.2) (up_to_below r.0 (at_offset r.1 (r.1.offset -ℤ pos 1)) (at_offset r.1 r.1.offset) High n x (f _ r.3 x q.1))))
    (λ x q. (q.0, g _ r.3 x (below_up_to r.0 (at_offset r.1 (r.1.offset -ℤ pos 1)) (at_offset r.1 r.1.offset) Low High n marks x (subst (λ t. Lt tuples x t) r.2 q.1) (side tuples ((r.0 ++ ((at_offset r.1 (r.1.offset -ℤ pos 1)) ∷ [])) ++ (High ∷ [])) x))))
    (high_iso words (pred a ++ (High ∷ [])) (some_end (pred a) High))

pub old_above_iso : (a : List Tuple) → Iso tuples IsIdent (λ x. IsIdent x × Lt tuples a x) (old_above a) (old_above_inverse a)
old_above_iso a =
    reach (λ x q. (q.0, above_mark a Low x q.1)) (λ x q. (q.0, mark_above words Low High marks low_no_ident a x q.0 q.1 (side tuples (a ++ (Low ∷ [])) x)))
    (low_iso words (a ++ (Low ∷ [])) (some_end a Low))

pub old_between_iso : (a b : List Tuple) → IsIdent b → Lt tuples a b → Iso tuples IsIdent (λ x. (IsIdent x × Lt tuples a x) × Lt tuples x b) (old_between a b) (old_between_inverse a b)
old_between_iso a b i l =
    let m = old_above_iso a in
    let c = old_above_inverse a b in
    let j = m.onto b (i, l) in
    let e = m.back b (i, l) in
    reach (λ x q. (q.0, subst (λ t. Lt tuples x t) e q.1)) (λ x q. (q.0, subst (λ t. Lt tuples x t) (sym e) q.1))
    (compose (old_below_iso c j) (below m c j))

pub new_below_iso : (s : Spot) → Iso tuples IsIdent (λ x. IsIdent x × Lt tuples x (new_at s 0)) (new_below s) (new_below_inverse s)
new_below_iso s =
    let n = next s (negsuc 0) (pos 0) (omega (arith, ints)) in
    reach (λ x q. (q.0, up_to_letter (at_offset s (negsuc 0)) (at_offset s (pos 0)) n x q.1))
    (λ x q. (q.0, letter_up_to (at_offset s (negsuc 0)) (at_offset s (pos 0)) n x q.1 (side tuples (at_offset s (negsuc 0) ∷ []) x)))
    (high_iso words (at_offset s (negsuc 0) ∷ []) (record { less = refl }))

pub next_at : (s : Spot) (i : ℕ) → Step tuples (at_offset s (pos i)) (at_offset s (pos (i + 1)))
next_at s i = next s (pos i) (pos (i + 1)) (omega (arith, ints))

pub new_between_iso : (s : Spot) (i : ℕ) → Iso tuples IsIdent (λ x. (IsIdent x × Lt tuples (new_at s i) x) × Lt tuples x (new_at s (i + 1))) (new_between s i) new_between_inverse
new_between_iso s i = behind_iso words (at_offset s (pos i)) (at_offset s (pos (i + 1))) (next_at s i)

pub new_above_iso : (s : Spot) (i : ℕ) → Iso tuples IsIdent (λ x. IsIdent x × Lt tuples (new_at s i) x) (new_above s i) (new_above_inverse s i)
new_above_iso s i = low_iso words (new_at s i) (record { less = refl })

pub former_first : (a : List Tuple) (rest : List (List Tuple)) → IsFormer (a ∷ rest) → IsIdent a
former_first a [] h = h
former_first a (b ∷ rest) h = h.0

pub forward_above_iso : (s : Spot) (i : ℕ) (a : List Tuple) (rest : List (List Tuple)) → IsFormer (a ∷ rest) →
    Iso tuples (λ x. IsIdent x × Lt tuples a x) (λ x. IsIdent x × Lt tuples (new_at s i) x) (forward_above s i a rest) (back_above s i a rest)
unfolding forward_above back_above
forward_above_iso s i a [] h = compose (inverse (old_above_iso a)) (new_above_iso s i)
forward_above_iso s i a (b ∷ rest) h =
    let l : Lt tuples a b = record { less = h.1 } in
    let j = former_first b rest h.2 in
    let m = forward_above_iso s (i + 1) b rest h.2 in
    let n = first_less tuples (at_offset s (pos i)) (at_offset s (pos (i + 1))) [] [] (next_at s i).less in
    glue (record {
      left = compose (inverse (old_between_iso a b j l)) (new_between_iso s i);
      right = source (λ x q. ((q.0, lt_trans l q.1), q.1)) (λ x q. (q.0.0, q.1)) (reach (λ x q. ((q.0, lt_trans n q.1), q.1)) (λ x q. (q.0.0, q.1)) m);
      from = (j, l);
      to = (refl, n);
    })

pub forward_iso : (s : Spot) (former : List (List Tuple)) → IsFormer former → Iso tuples IsIdent IsIdent (forward_by s former) (back_by s former)
unfolding forward_by back_by
forward_iso s [] h = absurd h
forward_iso s (a ∷ rest) h =
    glue (record {
      left = compose (inverse (old_below_iso a (former_first a rest h))) (new_below_iso s);
      right = forward_above_iso s 0 a rest h;
      from = former_first a rest h;
      to = refl;
    })
