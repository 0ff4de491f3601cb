-- Pieces lead back to the same texts, whatever characters are called.
use Rattle.std.proofs.Common.{◌≡◌, ℕ, ◌<◌, List, [], ◌∷◌, ◌++◌, map, inl, inr, refl, sym, ap, ◌∙◌, ◌⊎◌, subst}
use Rattle.std.specs.Prelude.{IsTrue, Option, Some, None}
use Rattle.rls_ident.specs.Lists.{IsIn}
use Rattle.rls_ident.proofs.Members.{in_left, in_right, in_split, in_map}
use Rattle.rls_model.proofs.Spliced.{append_map}
use Rattle.rls_steps.specs.Marks.{Mark, Known, Marked, marks, chars, known, Piece, Put, Cut, remarked}
use Rattle.rls_steps.specs.Back.{AreDistinct, EndsIn, LeadBack, AreGiven, IsGiven, ArePieces, Exchanges}
use Rattle.rls_steps.specs.BackLaws.{Exchanged}

Named : Type 0
Named = Mark × ℕ

chars_same : (f : Mark → Mark) (m : Marked) → chars (remarked f m) ≡ chars m
chars_same f [] = refl
chars_same f (e ∷ es) = ap (λ cs. e.1 ∷ cs) (chars_same f es)

marks_is : (f : Mark → Mark) (m : Marked) → marks (remarked f m) ≡ map f (marks m)
marks_is f [] = refl
marks_is f (e ∷ es) = ap (λ ks. f e.0 ∷ ks) (marks_is f es)

pub remark_append : (f : Mark → Mark) (xs ys : Marked) → remarked f (xs ++ ys) ≡ remarked f xs ++ remarked f ys
remark_append f [] ys = refl
remark_append f (x ∷ xs) ys = ap (λ zs. (f x.0, x.1) ∷ zs) (remark_append f xs ys)

-- each has the property
abbrev pub AllOf : (ℕ → Type 0) → List ℕ → Type 0
AllOf P [] = Unit {0}
AllOf P (n ∷ ns) = P n × AllOf P ns

abbrev pub OptionOf : (ℕ → Type 0) → Option ℕ → Type 0
OptionOf P None = Unit {0}
OptionOf P (Some n) = P n

-- so has each label of a character that the pieces name, and of a left neighbour
abbrev pub PiecesOf : (ℕ → Type 0) → List Piece → Type 0
PiecesOf P [] = Unit {0}
PiecesOf P (Put labels ∷ ps) = AllOf P labels × PiecesOf P ps
PiecesOf P (Cut labels cs left right ∷ ps) = AllOf P labels × OptionOf P left × PiecesOf P ps

-- these marks may be exchanged by f, which leaves the labels that have the property
pub record ExchangesOf (P : ℕ → Type 0) (Among : Mark → Type 0) (f : Mark → Mark) : Type 0 where
  pub apart : (a b : Mark) → Among a → Among b → f a ≡ f b → a ≡ b
  pub given : (n : ℕ) → P n → Among (Known n)
  pub same : (n : ℕ) → P n → f (Known n) ≡ Known n

known_same : (P : ℕ → Type 0) (f : Mark → Mark) → ((n : ℕ) → P n → f (Known n) ≡ Known n) → (labels cs : List ℕ) → AllOf P labels → remarked f (known labels cs) ≡ known labels cs
known_same P f h [] cs g = refl
known_same P f h (l ∷ ls) [] g = refl
known_same P f h (l ∷ ls) (c ∷ cs) g = let a = h l g.0 in let b = known_same P f h ls cs g.1 in cc

known_among : (P : ℕ → Type 0) (Among : Mark → Type 0) → ((n : ℕ) → P n → Among (Known n)) → (labels cs : List ℕ) → AllOf P labels → (k : Mark) → IsIn k (marks (known labels cs)) → Among k
known_among P Among h [] cs g k p = absurd p
known_among P Among h (l ∷ ls) [] g k p = absurd p
known_among P Among h (l ∷ ls) (c ∷ cs) g k (inl e) = subst Among e (h l g.0)
known_among P Among h (l ∷ ls) (c ∷ cs) g k (inr p) = known_among P Among h ls cs g.1 k p

distinct_same : (f : Mark → Mark) (Among : Mark → Type 0) → ((a b : Mark) → Among a → Among b → f a ≡ f b → a ≡ b) → (ks : List Mark) → ((k : Mark) → IsIn k ks → Among k) → AreDistinct ks → AreDistinct (map f ks)
distinct_same f Among h [] w d = tt
distinct_same f Among h (k ∷ ks) w d = (
  λ p. let q = in_map f (f k) ks p in d.0 (subst (λ j. IsIn j ks) (h q.0 k (w q.0 (inr q.1)) (w k (inl refl)) q.2) q.1),
  distinct_same f Among h ks (λ j p. w j (inr p)) d.1,
)

pub distinct_marks : (f : Mark → Mark) (Among : Mark → Type 0) → ((a b : Mark) → Among a → Among b → f a ≡ f b → a ≡ b) → (m : Marked) → ((k : Mark) → IsIn k (marks m) → Among k) → AreDistinct (marks m) → AreDistinct (marks (remarked f m))
distinct_marks f Among h m w d = subst AreDistinct (sym (marks_is f m)) (distinct_same f Among h (marks m) w d)

pub marks_append : (xs ys : Marked) → marks (xs ++ ys) ≡ marks xs ++ marks ys
marks_append xs ys = append_map (λ (e : Mark × ℕ). e.0) xs ys

-- the marks of parts
in_front : (xs ys : Marked) (k : Mark) → IsIn k (marks xs) → IsIn k (marks (xs ++ ys))
in_front xs ys k p = subst (λ ks. IsIn k ks) (sym (marks_append xs ys)) (in_left k (marks xs) (marks ys) p)

in_rest : (xs ys : Marked) (k : Mark) → IsIn k (marks ys) → IsIn k (marks (xs ++ ys))
in_rest xs ys k p = subst (λ ks. IsIn k ks) (sym (marks_append xs ys)) (in_right k (marks xs) (marks ys) p)

among_both : (Among : Mark → Type 0) (xs ys : Marked) → ((k : Mark) → IsIn k (marks xs) → Among k) → ((k : Mark) → IsIn k (marks ys) → Among k) → (k : Mark) → IsIn k (marks (xs ++ ys)) → Among k
among_both Among xs ys f g k p = go (in_split k (marks xs) (marks ys) (subst (λ ks. IsIn k ks) (marks_append xs ys) p))
  where
    go : IsIn k (marks xs) ⊎ IsIn k (marks ys) → Among k
    go (inl q) = f k q
    go (inr q) = g k q

ends_same : (P : ℕ → Type 0) (f : Mark → Mark) → ((n : ℕ) → P n → f (Known n) ≡ Known n) → (front : Marked) (left : Option ℕ) → OptionOf P left → EndsIn front left → EndsIn (remarked f front) left
ends_same P f h front None g e = ap (remarked f) e
ends_same P f h front (Some l) g (more, c, e) =
    (remarked f more, c, ap (remarked f) e ∙ (remark_append f more ((Known l, c) ∷ []) ∙ ap (λ k. remarked f more ++ (k, c) ∷ []) (h l g)))

pub exchanged_of : (P : ℕ → Type 0) (Among : Mark → Type 0) (f : Mark → Mark) → ExchangesOf P Among f → (m : Marked) (ps : List Piece) (ts : List (List ℕ)) → ((k : Mark) → IsIn k (marks m) → Among k) → PiecesOf P ps →
    LeadBack m ps ts → LeadBack (remarked f m) ps ts
exchanged_of P Among f x m [] ts w g back = back
exchanged_of P Among f x m (p ∷ ps) [] w g back = absurd back
exchanged_of P Among f x m (Put labels ∷ ps) (t ∷ ts) w g (front, cs, rest, put, same, back) =
    let mid = known labels cs in
    let all : (k : Mark) → IsIn k (marks (front ++ (mid ++ rest))) → Among k = λ k p. w k (subst (λ z. IsIn k (marks z)) (sym put.is) p) in
    let among = among_both Among front rest (λ k p. all k (in_front front (mid ++ rest) k p)) (λ k p. all k (in_rest front (mid ++ rest) k (in_rest mid rest k p))) in
    let both = remark_append f front rest in (
      remarked f front,
      cs,
      remarked f rest,
      record {
        is = ap (remarked f) put.is ∙ (remark_append f front (mid ++ rest) ∙ ap (λ z. remarked f front ++ z) (remark_append f mid rest ∙ ap (λ z. z ++ remarked f rest) (known_same P f x.same labels cs g.0)));
        fit = put.fit;
        some = put.some;
        distinct = subst AreDistinct (sym (marks_is f m)) (distinct_same f Among x.apart (marks m) w put.distinct);
      },
      ap chars (sym both) ∙ (chars_same f (front ++ rest) ∙ same),
      subst (λ z. LeadBack z ps ts) both (exchanged_of P Among f x (front ++ rest) ps ts among g.1 back),
    )
exchanged_of P Among f x m (Cut labels cs left right ∷ ps) (t ∷ ts) w g (front, rest, cut, same, back) =
    let mid = known labels cs in
    let all : (k : Mark) → IsIn k (marks (front ++ rest)) → Among k = λ k p. w k (subst (λ z. IsIn k (marks z)) (sym cut.is) p) in
    let among = among_both Among front (mid ++ rest) (λ k p. all k (in_front front rest k p)) (among_both Among mid rest (known_among P Among x.given labels cs g.0) (λ k p. all k (in_rest front rest k p))) in
    let whole : remarked f (front ++ (mid ++ rest)) ≡ remarked f front ++ (mid ++ remarked f rest) =
    remark_append f front (mid ++ rest) ∙ ap (λ z. remarked f front ++ z) (remark_append f mid rest ∙ ap (λ z. z ++ remarked f rest) (known_same P f x.same labels cs g.0)) in (
      remarked f front,
      remarked f rest,
      record {
        is = ap (remarked f) cut.is ∙ remark_append f front rest;
        fit = cut.fit;
        some = cut.some;
        left_is = ends_same P f x.same front left g.1 cut.left_is;
        distinct = subst (λ z. AreDistinct (marks z)) whole (subst AreDistinct (sym (marks_is f (front ++ (mid ++ rest)))) (distinct_same f Among x.apart (marks (front ++ (mid ++ rest))) among cut.distinct));
      },
      ap chars (sym whole) ∙ (chars_same f (front ++ (mid ++ rest)) ∙ same),
      subst (λ z. LeadBack z ps ts) whole (exchanged_of P Among f x (front ++ (mid ++ rest)) ps ts among g.2 back),
    )

-- ---- labels below the next one

given_all : (next : ℕ) (ns : List ℕ) → AreGiven next ns → AllOf (λ n. n < next) ns
given_all next [] g = tt
given_all next (n ∷ ns) g = (g.0, given_all next ns g.1)

given_one : (next : ℕ) (o : Option ℕ) → IsGiven next o → OptionOf (λ n. n < next) o
given_one next None g = tt
given_one next (Some n) g = g

given_pieces : (next : ℕ) (ps : List Piece) → ArePieces next ps → PiecesOf (λ n. n < next) ps
given_pieces next [] g = tt
given_pieces next (Put labels ∷ ps) g = (given_all next labels g.0, given_pieces next ps g.1)
given_pieces next (Cut labels cs left right ∷ ps) g = (given_all next labels g.0, given_one next left g.1, given_pieces next ps g.2)

pub exchanged_among : (next : ℕ) (Among : Mark → Type 0) (f : Mark → Mark) → Exchanges next Among f → (m : Marked) (ps : List Piece) (ts : List (List ℕ)) → ((k : Mark) → IsIn k (marks m) → Among k) → ArePieces next ps →
    LeadBack m ps ts → LeadBack (remarked f m) ps ts
exchanged_among next Among f x m ps ts w g back =
    exchanged_of (λ n. n < next) Among f (record { apart = x.apart; given = x.given; same = x.same }) m ps ts w (given_pieces next ps g) back

pub exchanged : Exchanged
exchanged next among f x = exchanged_among next (λ k. IsTrue (among k)) f x
