-- The pieces of a text one character after another, and what a window of the text tells of them.
use Rattle.std.proofs.Common.{◌≡◌, ◌∙◌, ℕ, zero, suc, ◌+◌, ◌<◌, ◌≤◌, ◌⊎◌, ⊎_elim, inl, inr, Bool, true, false, cond, eqb, List, [], ◌∷◌, ◌++◌, length, length-append, Option, Some, None, refl, sym, ap, append_assoc, append-nil, arith}
use Rattle.std.proofs.lemmas.Bool.{ne_eqb, eq-eqb}
use Rattle.unicode_segmentation.specs.Segments.{Rule, cut, prepend}
use Rattle.rls_script.specs.Clusters.{begin_of}

-- where the piece begins that ends k characters on, where the one before the place begins at `from`
abbrev pub walk : Rule → ℕ → List ℕ → List ℕ → ℕ → ℕ → Option ℕ
walk rule zero before cs from place = None
walk rule (suc k) before [] from place = None
walk rule (suc zero) before (c ∷ cs) from place = cond (rule (c ∷ before) cs) (Some from) None
walk rule (suc (suc k)) before (c ∷ cs) from place =
    cond (rule (c ∷ before) cs) (walk rule (suc k) (c ∷ before) cs (suc place) (suc place)) (walk rule (suc k) (c ∷ before) cs from (suc place))

-- ---- from the pieces to the walk

-- no piece ends before the place where it begins
pub begin_of_none : (at begin : ℕ) (pieces : List (List ℕ)) → at < begin → begin_of at begin pieces ≡ None
begin_of_none at begin [] h = refl
begin_of_none at begin (piece ∷ pieces) h =
    let end = begin + length piece in
    rw (ne_eqb end at (λ e. omega arith)) (begin_of_none at end pieces (omega arith))

passes : (at from : ℕ) (x : List ℕ) (ps : List (List ℕ)) → at < from + length x → begin_of at from (x ∷ ps) ≡ None
passes at from x ps h = rw (ne_eqb (from + length x) at (λ e. omega arith)) (begin_of_none at (from + length x) ps h)

passes_part : (at from : ℕ) (x : List ℕ) (ps : List (List ℕ)) → at < from + length x → begin_of at from (prepend x ps) ≡ None
passes_part at from x [] h = passes at from x [] h
passes_part at from x (p ∷ ps) h = passes at from (x ++ p) ps (omega (arith, length-append x p))

prepend_twice : (x y : List ℕ) (ps : List (List ℕ)) → prepend x (prepend y ps) ≡ prepend (x ++ y) ps
prepend_twice x y [] = refl
prepend_twice x y (p ∷ ps) = ap (λ t. t ∷ ps) (sym (append_assoc x y p))

pub prepend_none : (b : Bool) (d : ℕ) (ps : List (List ℕ)) → prepend [] (cond b ((d ∷ []) ∷ ps) (prepend (d ∷ []) ps)) ≡ cond b ((d ∷ []) ∷ ps) (prepend (d ∷ []) ps)
prepend_none true d ps = refl
prepend_none false d [] = refl
prepend_none false d (p ∷ ps) = refl

module _ (rule : Rule) (ends : (c : ℕ) (before : List ℕ) → rule (c ∷ before) [] ≡ true) where
  -- no piece ends where the rule doesn't break
  goes_on : (before : List ℕ) (d : ℕ) (ds part : List ℕ) (from at : ℕ) → at ≡ from + length part → begin_of at from (prepend part (cut rule before (d ∷ ds) [])) ≡ None
  unfolding cut
  goes_on before d ds part from at e = go (rule (d ∷ before) (ds ++ [])) (cut rule (d ∷ before) ds [])
    where
      longer : at < from + length (part ++ d ∷ [])
      longer = omega (arith, length-append part (d ∷ []))

      go : (b : Bool) (ps : List (List ℕ)) → begin_of at from (prepend part (cond b ((d ∷ []) ∷ ps) (prepend (d ∷ []) ps))) ≡ None
      go true ps = passes at from (part ++ d ∷ []) ps longer
      go false ps = ap (begin_of at from) (prepend_twice part (d ∷ []) ps) ∙ passes_part at from (part ++ d ∷ []) ps longer

  pub pieces_walk : (k : ℕ) (before : List ℕ) (c : ℕ) (cs part : List ℕ) (from place at : ℕ) → place ≡ from + length part → at ≡ place + suc k → k ≤ length cs
      → begin_of at from (prepend part (cut rule before (c ∷ cs) [])) ≡ walk rule (suc k) before (c ∷ cs) from place
  unfolding cut
  pieces_walk zero before c [] part from place at p q l =
      let end : eqb (from + length (part ++ c ∷ [])) at ≡ true = eq-eqb (from + length (part ++ c ∷ [])) at (omega (arith, length-append part (c ∷ []))) in
      rw (ends c before, end) refl
  pieces_walk zero before c (d ∷ ds) part from place at p q l = go (rule (c ∷ before) (d ∷ ds ++ [])) (rule (c ∷ before) (d ∷ ds)) (ap (rule (c ∷ before)) (append-nil (d ∷ ds)))
    where
      end : from + length (part ++ c ∷ []) ≡ at
      end = omega (arith, length-append part (c ∷ []))

      go : (b r : Bool) → b ≡ r → begin_of at from (prepend part (cond b ((c ∷ []) ∷ cut rule (c ∷ before) (d ∷ ds) []) (prepend (c ∷ []) (cut rule (c ∷ before) (d ∷ ds) [])))) ≡ cond r (Some from) None
      go true true e = rw (eq-eqb (from + length (part ++ c ∷ [])) at end) refl
      go false false e = ap (begin_of at from) (prepend_twice part (c ∷ []) (cut rule (c ∷ before) (d ∷ ds) [])) ∙ goes_on (c ∷ before) d ds (part ++ c ∷ []) from at (sym end)
      go true false e = absurd cc
      go false true e = absurd cc
  pieces_walk (suc k) before c [] part from place at p q l = absurd (omega arith)
  pieces_walk (suc k) before c (d ∷ ds) part from place at p q l =
      go (rule (c ∷ before) (d ∷ ds ++ [])) (rule (c ∷ before) (d ∷ ds)) (ap (rule (c ∷ before)) (append-nil (d ∷ ds)))
      (pieces_walk k (c ∷ before) d ds [] (suc place) (suc place) at (omega arith) (omega arith) (omega arith))
      (pieces_walk k (c ∷ before) d ds (part ++ c ∷ []) from (suc place) at (omega (arith, length-append part (c ∷ []))) (omega arith) (omega arith))
    where
      rest : List (List ℕ)
      rest = cut rule (c ∷ before) (d ∷ ds) []

      next : from + length (part ++ c ∷ []) ≡ suc place
      next = omega (arith, length-append part (c ∷ []))

      Goes : List ℕ → ℕ → Type 0
      Goes part from = begin_of at from (prepend part rest) ≡ walk rule (suc k) (c ∷ before) (d ∷ ds) from (suc place)

      go : (b r : Bool) → b ≡ r → Goes [] (suc place) → Goes (part ++ c ∷ []) from → begin_of at from (prepend part (cond b ((c ∷ []) ∷ rest) (prepend (c ∷ []) rest)))
          ≡ cond r (walk rule (suc k) (c ∷ before) (d ∷ ds) (suc place) (suc place)) (walk rule (suc k) (c ∷ before) (d ∷ ds) from (suc place))
      go true true e fresh on =
          rw (ne_eqb (from + length (part ++ c ∷ [])) at (λ f. omega (arith, next)), next)
          (ap (begin_of at (suc place)) (sym (prepend_none (rule (d ∷ c ∷ before) (ds ++ [])) d (cut rule (d ∷ c ∷ before) ds []))) ∙ fresh)
      go false false e fresh on = ap (begin_of at from) (prepend_twice part (c ∷ []) rest) ∙ on
      go true false e fresh on = absurd cc
      go false true e fresh on = absurd cc

-- ---- the text before a window

-- these characters and then those before them, the nearest first
abbrev pub onto : List ℕ → List ℕ → List ℕ
onto [] before = before
onto (c ∷ cs) before = onto cs (c ∷ before)

-- a walk past these characters goes on with some piece
pub reached : (rule : Rule) (front before cs : List ℕ) (from place at k n : ℕ) → at ≡ place + length front → n ≡ length front + k
    → (f : ℕ) × (walk rule (suc n) before (front ++ cs) from place ≡ walk rule (suc k) (onto front before) cs f at)
reached rule [] before cs from place at k n p q =
    let same : place ≡ at = omega arith in
    let as_many : n ≡ k = omega arith in
    (from, ap (λ m. walk rule (suc m) before cs from place) as_many ∙ ap (walk rule (suc k) before cs from) same)
reached rule (c ∷ front) before cs from place at k zero p q = absurd (omega arith)
reached rule (c ∷ front) before cs from place at k (suc n) p q =
    go (rule (c ∷ before) (front ++ cs))
    (reached rule front (c ∷ before) cs (suc place) (suc place) at k n (omega arith) (omega arith))
    (reached rule front (c ∷ before) cs from (suc place) at k n (omega arith) (omega arith))
  where
    Reached : ℕ → Type 0
    Reached from = (f : ℕ) × (walk rule (suc n) (c ∷ before) (front ++ cs) from (suc place) ≡ walk rule (suc k) (onto (c ∷ front) before) cs f at)

    go : (b : Bool) → Reached (suc place) → Reached from
        → (f : ℕ) × (cond b (walk rule (suc n) (c ∷ before) (front ++ cs) (suc place) (suc place)) (walk rule (suc n) (c ∷ before) (front ++ cs) from (suc place)) ≡ walk rule (suc k) (onto (c ∷ front) before) cs f at)
    go true fresh on = fresh
    go false fresh on = on

-- ---- a window

-- the rule doesn't tell apart what stands before the character
abbrev pub Hides : Rule → ℕ → List ℕ → List ℕ → Type 0
Hides rule c xs ys = (cs after : List ℕ) → rule (cs ++ c ∷ xs) after ≡ rule (cs ++ c ∷ ys) after

hides_on : (rule : Rule) (c d : ℕ) (xs ys : List ℕ) → Hides rule c xs ys → Hides rule d (c ∷ xs) (c ∷ ys)
hides_on rule c d xs ys h cs after =
    ap (λ t. rule t after) (sym (append_assoc cs (d ∷ []) (c ∷ xs))) ∙ h (cs ++ d ∷ []) after ∙ ap (λ t. rule t after) (append_assoc cs (d ∷ []) (c ∷ ys))

module _ (rule : Rule) (near : (before : List ℕ) (c : ℕ) (xs ys : List ℕ) → rule before (c ∷ xs) ≡ rule before (c ∷ ys)) (a : ℕ) (Earlier : Type 0) where
  -- the piece begins in the text where it does in the window, or else with the window
  abbrev pub Meets : ℕ → ℕ → Type 0
  Meets b f = (f ≡ a + b) ⊎ ((b ≡ 0) × Earlier)

  abbrev pub Agrees : Option ℕ → Option ℕ → Type 0
  Agrees None o = o ≡ None
  Agrees (Some b) o = (o ≡ Some (a + b)) ⊎ ((b ≡ 0) × Earlier)

  met : (b f : ℕ) → Meets b f → Agrees (Some b) (Some f)
  met b f (inl e) = inl (ap Some e)
  met b f (inr e) = inr e

  next_is : (ws rest before : List ℕ) (k : ℕ) → (k < length ws) ⊎ (rest ≡ []) → rule before ws ≡ rule before (ws ++ rest)
  next_is [] rest before k (inl l) = absurd (omega arith)
  next_is [] rest before k (inr e) = ap (rule before) (sym e)
  next_is (w ∷ ws) rest before k l = near before w ws (ws ++ rest)

  pub windowed : (k c : ℕ) (ws rest xs ys : List ℕ) (b f p q : ℕ) → Hides rule c xs ys → q ≡ a + p → k ≤ length ws → (k < length ws) ⊎ (rest ≡ []) → Meets b f
      → Agrees (walk rule (suc k) xs (c ∷ ws) b p) (walk rule (suc k) ys (c ∷ (ws ++ rest)) f q)
  windowed zero c ws rest xs ys b f p q h e m l s = go (rule (c ∷ xs) ws) (rule (c ∷ ys) (ws ++ rest)) (h [] ws ∙ next_is ws rest (c ∷ ys) zero l)
    where
      go : (r t : Bool) → r ≡ t → Agrees (cond r (Some b) None) (cond t (Some f) None)
      go true true j = met b f s
      go false false j = refl
      go true false j = absurd cc
      go false true j = absurd cc
  windowed (suc k) c [] rest xs ys b f p q h e m l s = absurd (omega arith)
  windowed (suc k) c (d ∷ ws) rest xs ys b f p q h e m l s =
      let on = λ (b f : ℕ) (s : Meets b f). windowed k d ws rest (c ∷ xs) (c ∷ ys) b f (suc p) (suc q) (hides_on rule c d xs ys h) (omega arith) (omega arith) (⊎_elim (λ n. inl (omega arith)) (λ n. inr n) l) s in
      go (rule (c ∷ xs) (d ∷ ws)) (rule (c ∷ ys) (d ∷ ws ++ rest)) (h [] (d ∷ ws) ∙ near (c ∷ ys) d ws (ws ++ rest)) (on (suc p) (suc q) (inl (omega arith))) (on b f s)
    where
      Goes : ℕ → ℕ → Type 0
      Goes b f = Agrees (walk rule (suc k) (c ∷ xs) (d ∷ ws) b (suc p)) (walk rule (suc k) (c ∷ ys) (d ∷ ws ++ rest) f (suc q))

      go : (r t : Bool) → r ≡ t → Goes (suc p) (suc q) → Goes b f → Agrees (cond r (walk rule (suc k) (c ∷ xs) (d ∷ ws) (suc p) (suc p)) (walk rule (suc k) (c ∷ xs) (d ∷ ws) b (suc p)))
          (cond t (walk rule (suc k) (c ∷ ys) (d ∷ ws ++ rest) (suc q) (suc q)) (walk rule (suc k) (c ∷ ys) (d ∷ ws ++ rest) f (suc q)))
      go true true j fresh on = fresh
      go false false j fresh on = on
      go true false j fresh on = absurd cc
      go false true j fresh on = absurd cc
