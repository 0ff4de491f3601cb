-- A renaming of a whole run, either way.
use Rattle.std.proofs.Common.{◌≡◌, ℕ, zero, suc, ◌+◌, ◌-◌, ◌<◌, true, List, [], ◌∷◌, ◌++◌, map, Some, refl, sym, ap, ◌∙◌, subst, arith, append-nil}
use Rattle.std.specs.Prelude.{pos}
use Rattle.std.specs.Ordering.{is_lt}
use Rattle.std.proofs.lemmas.Int.{ints}
use Rattle.rls_ident.specs.declared.tuple.Spot.{Spot}
use Rattle.rls_ident.specs.declared.tuple.Tuple.{Tuple}
use Rattle.rls_ident.specs.Identifiers.{IsIdent, ident_cmp, shifted}
use Rattle.rls_ident.proofs.Shifted.{shifted_less, shifted_none, shifted_shifted, ident_shifted}
use Rattle.rls_runs.specs.Runs.{run_idents, idents_of}
use Rattle.rls_runs.specs.Places.{last_ident, is_above}
use Rattle.rls_runs.proofs.RunJoins.{run_longer}
use Rattle.rls_rename.specs.declared.renaming.Way.{Way}
use Rattle.rls_rename.specs.declared.renaming.Way.TheVariants.{Forward, Back}
use Rattle.rls_rename.specs.Renaming.{Renaming, IsFormer, new_pos, new_spot, forward_by, back_by, forward, back}
use Rattle.rls_rename.specs.Heads.{Replaces}
use Rattle.rls_rename.specs.Stretches.{GoesAlong}
use Rattle.rls_rename.specs.Ways.{renamed}
use Rattle.rls_rename.proofs.Laws.{order_kept}

-- ---- the tuple of the first new identifier, as it is kept

spot_is : (s : Spot) (f : List (List Tuple)) → s.pos ≡ new_pos f → s.offset ≡ pos 0 → s ≡ new_spot (record { former = f; replica = s.replica; seq = s.seq })
spot_is s f h k = ap (λ p. record s { pos = p }) h ∙ ap (λ o. record s { pos = new_pos f; offset = o }) k

module _ (s : Spot) (f : List (List Tuple)) (at : s.pos ≡ new_pos f) (first : s.offset ≡ pos 0) (R : Renaming) (view : record { former = f; replica = s.replica; seq = s.seq } ≡ R) (x : List Tuple) (n : ℕ) (z : List Tuple) (m : ℕ) where
  pub forward_way : GoesAlong (forward_by s f) x n z m → GoesAlong (forward R) x n z m
  unfolding forward
  forward_way g = subst (λ Q. GoesAlong (forward Q) x n z m) view (subst (λ t. GoesAlong (forward_by t f) x n z m) (spot_is s f at first) g)

  pub head_way : Replaces (forward_by s f) x z → Replaces (forward R) x z
  unfolding forward
  head_way g = subst (λ Q. Replaces (forward Q) x z) view (subst (λ t. Replaces (forward_by t f) x z) (spot_is s f at first) g)

  pub back_way : GoesAlong (back_by s f) x n z m → GoesAlong (back R) x n z m
  unfolding back
  back_way g = subst (λ Q. GoesAlong (back Q) x n z m) view (subst (λ t. GoesAlong (back_by t f) x n z m) (spot_is s f at first) g)

-- ---- the identifiers of an image

next_each : (F : List Tuple → List Tuple) (x z : List Tuple) (m : ℕ) → ((k : ℕ) → k < suc m → F (shifted (pos k) x) ≡ shifted (pos k) z) → (k : ℕ) → k < m → F (shifted (pos k) (shifted (pos 1) x)) ≡ shifted (pos k) (shifted (pos 1) z)
next_each F x z m e k l = ap F (twice x) ∙ (e (suc k) (omega arith) ∙ sym (twice z))
  where
    twice : (y : List Tuple) → shifted (pos k) (shifted (pos 1) y) ≡ shifted (pos (suc k)) y
    twice y = shifted_shifted (pos k) (pos 1) y ∙ ap (λ j. shifted j y) (omega (arith, ints))

mapped_run : (F : List Tuple → List Tuple) (x z : List Tuple) (m : ℕ) → ((k : ℕ) → k < m → F (shifted (pos k) x) ≡ shifted (pos k) z) → map F (run_idents x m) ≡ run_idents z m
mapped_run F x z zero e = refl
mapped_run F x z (suc m) e =
    let first : F x ≡ z = ap F (sym (shifted_none x)) ∙ (e 0 (omega arith) ∙ shifted_none z) in
    ap (λ y. y ∷ map F (run_idents (shifted (pos 1) x) m)) first ∙ ap (λ ys. z ∷ ys) (mapped_run F (shifted (pos 1) x) (shifted (pos 1) z) m (next_each F x z m e))

map_append : (F : List Tuple → List Tuple) (xs ys : List (List Tuple)) → map F (xs ++ ys) ≡ map F xs ++ map F ys
map_append F [] ys = refl
map_append F (x ∷ xs) ys = ap (λ zs. F x ∷ zs) (map_append F xs ys)

pub first_image : (F : List Tuple → List Tuple) (x : List Tuple) (n : ℕ) (z : List Tuple) (m : ℕ) (image : List (List Tuple × ℕ)) → GoesAlong F x n z m → image ≡ (z, m) ∷ [] → idents_of image ≡ map F (run_idents x m)
first_image F x n z m image g e = ap idents_of e ∙ (append-nil (run_idents z m) ∙ sym (mapped_run F x z m g.each))

pub next_image : (F : List Tuple → List Tuple) (x : List Tuple) (done n : ℕ) (z : List Tuple) (m : ℕ) (image : List (List Tuple × ℕ)) → GoesAlong F (shifted (pos done) x) n z m → idents_of image ≡ map F (run_idents x done) →
    idents_of image ++ run_idents z m ≡ map F (run_idents x (done + m))
next_image F x done n z m image g e =
    ap (λ ys. ys ++ run_idents z m) e
    ∙ (ap (λ ys. map F (run_idents x done) ++ ys) (sym (mapped_run F (shifted (pos done) x) z m g.each))
    ∙ (sym (map_append F (run_idents x done) (run_idents (shifted (pos done) x) m)) ∙ ap (map F) (sym (run_longer x done m))))

-- ---- its order

order_both : (w : Way) (R : Renaming) (x y : List Tuple) → IsFormer R.former → IsIdent x → IsIdent y → ident_cmp (renamed w R x) (renamed w R y) ≡ ident_cmp x y
order_both Forward R x y h i j = (order_kept R x y h i j).0
order_both Back R x y h i j = (order_kept R x y h i j).1

last_mapped : (F : List Tuple → List Tuple) (x : List Tuple) (m : ℕ) → last_ident (map F (run_idents x (suc m))) ≡ Some (F (shifted (pos m) x))
last_mapped F x zero = ap (λ y. Some (F y)) (sym (shifted_none x))
last_mapped F x (suc m) = last_mapped F (shifted (pos 1) x) m ∙ ap (λ y. Some (F y)) (shifted_shifted (pos m) (pos 1) x ∙ ap (λ j. shifted j x) (omega (arith, ints)))

-- what comes next is above what is there
pub next_above : (w : Way) (R : Renaming) (x : List Tuple) (done n : ℕ) (z : List Tuple) (m : ℕ) (image : List (List Tuple × ℕ)) → IsFormer R.former → IsIdent x → 0 < done → 0 < m →
    GoesAlong (renamed w R) (shifted (pos done) x) n z m → idents_of image ≡ map (renamed w R) (run_idents x done) → is_above (last_ident (idents_of image)) z ≡ true
next_above w R x done n z m image h i some l g e =
    let F = renamed w R in
    let y = shifted (pos done) x in
    let d : suc (done - 1) ≡ done = omega arith in
    let last = ap last_ident (e ∙ ap (λ k. map F (run_idents x k)) (sym d)) ∙ last_mapped F x (done - 1) in
    let same : F y ≡ z = ap F (sym (shifted_none y)) ∙ (g.each 0 l ∙ shifted_none z) in
    let less = (shifted_less (pos (done - 1)) (pos done) x i (omega (arith, ints))).less in
    let kept = order_both w R (shifted (pos (done - 1)) x) y h (ident_shifted (pos (done - 1)) x i) (ident_shifted (pos done) x i) ∙ less in
    ap (λ o. is_above o z) last ∙ (ap (λ t. is_above (Some (F (shifted (pos (done - 1)) x))) t) (sym same) ∙ ap is_lt kept)
