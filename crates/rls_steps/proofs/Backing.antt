-- Pieces that are taken back.
use Rattle.std.proofs.Common.{◌≡◌, ℕ, zero, suc, ◌+◌, ◌<◌, List, [], ◌∷◌, ◌++◌, map, length, take, drop, inl, inr, refl, sym, ap, ◌∙◌, subst, arith, append_assoc, Bool}
use Rattle.std.specs.Prelude.{Option, Some, None, if◌then◌else◌}
use Rattle.std.proofs.lemmas.List.{length-map, append-nil}
use Rattle.std.proofs.Math.Seq.{take-append_seam, drop-append_seam, drop-append-add}
use Rattle.rls_ident.specs.Lists.{IsIn}
use Rattle.rls_ident.proofs.Members.{in_left, in_right}
use Rattle.rls_model.proofs.Spliced.{append_map}
use Rattle.rls_undo.specs.Plans.{ranges_of}
use Rattle.rls_steps.specs.Marks.{Mark, Known, Marked, marks, chars, known, label_places, label_place, first_of, behind_or, place_or, before_right, return_place, put_in, cut_out, numbers_from}
use Rattle.rls_steps.specs.Back.{AreDistinct, EndsIn, LeadBack}
use Rattle.rls_steps.specs.BackLaws.{PutBack, CutBack, ReturnsBeside}
use Rattle.rls_steps.proofs.Ranges.{one_range, in_one, places_none, places_all, places_append}

-- ---- lists

pub known_marks : (labels cs : List ℕ) → length labels ≡ length cs → marks (known labels cs) ≡ map Known labels
known_marks [] cs h = refl
known_marks (l ∷ ls) [] h = absurd (omega (arith, h))
known_marks (l ∷ ls) (c ∷ cs) h = ap (λ ms. Known l ∷ ms) (known_marks ls cs (omega (arith, h)))

known_length : (labels cs : List ℕ) → length labels ≡ length cs → length (known labels cs) ≡ length labels
known_length [] cs h = refl
known_length (l ∷ ls) [] h = absurd (omega (arith, h))
known_length (l ∷ ls) (c ∷ cs) h = ap suc (known_length ls cs (omega (arith, h)))

-- ---- marks that stand apart

pub distinct_right : (xs ys : List Mark) → AreDistinct (xs ++ ys) → AreDistinct ys
distinct_right [] ys d = d
distinct_right (x ∷ xs) ys d = distinct_right xs ys d.1

distinct_apart : (xs ys : List Mark) → AreDistinct (xs ++ ys) → (m : Mark) → IsIn m xs → IsIn m ys → ⊥
distinct_apart [] ys d m p q = absurd p
distinct_apart (x ∷ xs) ys d m (inl e) q = d.0 (in_right x xs ys (subst (λ k. IsIn k ys) (sym e) q))
distinct_apart (x ∷ xs) ys d m (inr p) q = distinct_apart xs ys d.1 m p q

pub three : (a b c : Marked) → marks (a ++ (b ++ c)) ≡ marks a ++ (marks b ++ marks c)
three a b c = append_map (λ (e : Mark × ℕ). e.0) a (b ++ c) ∙ ap (λ ms. marks a ++ ms) (append_map (λ (e : Mark × ℕ). e.0) b c)

-- the places of labels between a front and a rest
places_between : (labels : List ℕ) (front rest : List Mark) → AreDistinct (front ++ (map Known labels ++ rest)) →
    label_places 0 labels (front ++ (map Known labels ++ rest)) ≡ numbers_from (length front) (length labels)
places_between labels front rest d =
    let mid = map Known labels in
    let zero_is : length front + 0 ≡ length front = omega arith in
    let before = places_none 0 labels front (λ m p q. distinct_apart front (mid ++ rest) d m p (in_left m mid rest q)) in
    let behind : (i : ℕ) → label_places i labels rest ≡ [] = λ i. places_none i labels rest (λ m p q. distinct_apart mid rest (distinct_right front (mid ++ rest) d) m q p) in
    let there : label_places (length front + 0) labels mid ≡ numbers_from (length front) (length labels) =
    ap (λ i. label_places i labels mid) zero_is ∙ places_all (length front) labels labels (λ n p. p) in
    places_append 0 labels front (mid ++ rest)
    ∙ (ap (λ is. is ++ label_places (length front + 0) labels (mid ++ rest)) before
    ∙ (places_append (length front + 0) labels mid rest
    ∙ (ap (λ is. label_places (length front + 0) labels mid ++ is) (behind (length mid + (length front + 0)))
    ∙ (append-nil (label_places (length front + 0) labels mid) ∙ there))))

-- ---- what was put in

pub put_back : PutBack
put_back m labels ps qs t ts us (front, cs, rest, put, same, back) forth =
    let mid = known labels cs in
    let n = length labels in
    let at = length front in
    let long = known_length labels cs put.fit in
    let ms : marks m ≡ marks front ++ (map Known labels ++ marks rest) =
    ap marks put.is ∙ (three front mid rest ∙ ap (λ ks. marks front ++ (ks ++ marks rest)) (known_marks labels cs put.fit)) in
    let size : length (marks front) ≡ at = length-map front (λ (e : Mark × ℕ). e.0) in
    let some : 0 < n = omega (arith, put.fit, put.some) in
    let range : ranges_of (label_places 0 labels (marks m)) ≡ (at, n) ∷ [] =
    ap (λ ks. ranges_of (label_places 0 labels ks)) ms
    ∙ (ap ranges_of (places_between labels (marks front) (marks rest) (subst AreDistinct ms put.distinct))
    ∙ (ap (λ i. ranges_of (numbers_from i n)) size ∙ nonzero at n some)) in
    let there : drop at m ≡ mid ++ rest = ap (drop at) put.is ∙ drop-append_seam front (mid ++ rest) in
    let taken : take n (drop at m) ≡ mid = ap (take n) there ∙ (ap (λ k. take k (mid ++ rest)) (sym long) ∙ take-append_seam mid rest) in
    let lead : take at m ≡ front = ap (take at) put.is ∙ take-append_seam front (mid ++ rest) in
    let left : drop (at + n) m ≡ rest = ap (drop (at + n)) put.is ∙ (drop-append-add front (mid ++ rest) n ∙ (ap (λ k. drop k (mid ++ rest)) (sym long) ∙ drop-append_seam mid rest)) in
    let out : cut_out m at n ≡ front ++ rest = ap (λ xs. xs ++ drop (at + n) m) lead ∙ ap (λ xs. front ++ xs) left in (
      at,
      cs,
      range,
      taken,
      ap chars out ∙ same,
      subst (λ k. LeadBack k ps ts) (sym out) back,
      λ l r e. (
        front,
        rest,
        record {
          is = out;
          fit = put.fit;
          some = put.some;
          left_is = subst (λ k. EndsIn k l) lead e;
          distinct = subst (λ k. AreDistinct (marks k)) put.is put.distinct;
        },
        ap chars (sym put.is),
        subst (λ k. LeadBack k qs us) put.is forth,
      ),
    )
  where
    nonzero : (i k : ℕ) → 0 < k → ranges_of (numbers_from i k) ≡ (i, k) ∷ []
    nonzero i zero h = absurd (omega (arith, h))
    nonzero i (suc k) h = one_range i k

-- ---- what was cut out

-- right after the left neighbour
place_is : (front rest mid : Marked) (left right : Option ℕ) (gone : ℕ) → EndsIn front left → AreDistinct (marks (front ++ (mid ++ rest))) → return_place (marks (front ++ rest)) left right gone ≡ length front
place_is front rest mid None right gone e d = sym (ap length e)
place_is front rest mid (Some l) right gone (more, c, e) d =
    let one : Marked = (Known l, c) ∷ [] in
    let ms : marks (front ++ rest) ≡ marks more ++ (map Known (l ∷ []) ++ marks rest) =
    ap (λ f. marks (f ++ rest)) e ∙ (ap marks (append_assoc more one rest) ∙ three more one rest) in
    let whole : AreDistinct (marks more ++ (Known l ∷ marks (mid ++ rest))) =
    subst AreDistinct (ap (λ f. marks (f ++ (mid ++ rest))) e ∙ (ap marks (append_assoc more one (mid ++ rest)) ∙ three more one (mid ++ rest))) d in
    let before = places_none 0 (l ∷ []) (marks more) (λ m p q. apart (marks more) (marks (mid ++ rest)) m p q whole) in
    let size : length (marks more) ≡ length more = length-map more (λ (x : Mark × ℕ). x.0) in
    let here : label_place (marks (front ++ rest)) l ≡ Some (length more) =
    ap (λ ks. first_of (label_places 0 (l ∷ []) ks)) ms
    ∙ (ap first_of (places_append 0 (l ∷ []) (marks more) (Known l ∷ marks rest))
    ∙ (ap (λ is. first_of (is ++ label_places (length (marks more) + 0) (l ∷ []) (Known l ∷ marks rest))) before
    ∙ (head_place (length (marks more) + 0) (marks rest) ∙ ap Some (plus_none (length (marks more)) ∙ size)))) in
    ap (λ o. behind_or o (before_right (marks (front ++ rest)) right gone)) here ∙ sym (ap length e ∙ snoc_length more (Known l, c))
  where
    apart : (xs ys : List Mark) (m : Mark) → IsIn m xs → IsIn m (Known l ∷ []) → AreDistinct (xs ++ (Known l ∷ ys)) → ⊥
    apart xs ys m p (inl q) w = distinct_apart xs (Known l ∷ ys) w m p (inl q)
    apart xs ys m p (inr q) w = absurd q

    head_place : (i : ℕ) (ks : List Mark) → first_of (label_places i (l ∷ []) (Known l ∷ ks)) ≡ Some i
    head_place i ks = ap (λ (b : Bool). first_of (if b then i ∷ label_places (suc i) (l ∷ []) ks else label_places (suc i) (l ∷ []) ks)) (in_one (l ∷ []) l (inl refl))

    plus_none : (k : ℕ) → k + 0 ≡ k
    plus_none k = omega arith

    snoc_length : (xs : Marked) (x : Mark × ℕ) → length (xs ++ x ∷ []) ≡ suc (length xs)
    snoc_length [] x = refl
    snoc_length (y ∷ ys) x = ap suc (snoc_length ys x)

pub cut_back : CutBack
cut_back m labels cs left right gone ps qs t ts us (front, rest, cut, same, back) forth =
    let mid = known labels cs in
    let at : return_place (marks m) left right gone ≡ length front =
    ap (λ k. return_place (marks k) left right gone) cut.is ∙ place_is front rest mid left right gone cut.left_is cut.distinct in
    let n : put_in m (return_place (marks m) left right gone) labels cs ≡ front ++ (mid ++ rest) =
    ap (λ i. put_in m i labels cs) at
    ∙ (ap (λ k. put_in k (length front) labels cs) cut.is
    ∙ (ap (λ xs. xs ++ (mid ++ drop (length front) (front ++ rest))) (take-append_seam front rest) ∙ ap (λ xs. front ++ (mid ++ xs)) (drop-append_seam front rest))) in (
      ap chars n ∙ same,
      subst (λ k. LeadBack k ps ts) (sym n) back,
      (
        front,
        cs,
        rest,
        record {
          is = n;
          fit = cut.fit;
          some = cut.some;
          distinct = subst (λ k. AreDistinct (marks k)) (sym n) cut.distinct;
        },
        ap chars (sym cut.is),
        subst (λ k. LeadBack k qs us) cut.is forth,
      ),
    )

-- ---- the place where it comes back

pub returns_beside : ReturnsBeside
returns_beside = record {
  front = λ ms right gone. refl;
  left = λ ms l i right gone h. ap (λ o. behind_or o (before_right ms right gone)) h;
  right = λ ms l r j gone h k. ap (λ o. behind_or o (before_right ms (Some r) gone)) h ∙ ap (λ o. place_or o gone) k;
}
