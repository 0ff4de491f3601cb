-- Names that no step needs may go.
use Rattle.std.proofs.Common.{◌≡◌, ℕ, zero, suc, ◌+◌, ◌<◌, ◌≤◌, Bool, true, false, List, [], ◌∷◌, ◌++◌, map, length, take, get_or, inl, inr, refl, sym, ap, ◌∙◌, ◌⊎◌, subst, append_assoc, arith}
use Rattle.std.specs.Prelude.{Option, Some, None, ◌==◌, ◌&&◌, ◌||◌, filter, reverse, is_ok, slice_get, nat_lt, Result, Ok, Err, if◌then◌else◌}
use Rattle.std.specs.List.Sorted.{IsPermutation, IsNonDecreasing, IsBinarySearchResult}
use Rattle.std.specs.Ordering.{nat_cmp}
use Rattle.std.specs.Result.{MatchResult}
use Rattle.std.proofs.lemmas.List.{reverse-append, append-nil}
use Rattle.std.proofs.lemmas.List.Sorted.{searched, IsPermutation-sym, Contains-permutation}
use Rattle.std.proofs.lemmas.List.Elements.{filter-append}
use Rattle.rls_ident.specs.declared.tuple.Tuple.{Tuple}
use Rattle.rls_ident.specs.Identifiers.{ident_eq, IsIdent}
use Rattle.rls_ident.specs.Lists.{IsIn}
use Rattle.rls_ident.proofs.Ends.{eq_same}
use Rattle.rls_ident.proofs.Members.{bool_cases, true_false, eq_is, eq_test, eq_refl, some_is, or_right, not_true, same_bool, lt_is, not_lt_is, in_left, in_right, in_map, map_in, in_filter, in_any, any_in}
use Rattle.rls_runs.specs.Entries.{Entries, idents_in}
use Rattle.rls_runs.specs.Runs.{place_of, is_increasing}
use Rattle.rls_seen.specs.Seen.{idents_over}
use Rattle.rls_steps.specs.declared.piece.Step.{Step}
use Rattle.rls_steps.specs.Marks.{Mark, Known, Unknown, Marked, marks, Piece, Put, Cut, remarked}
use Rattle.rls_steps.specs.Back.{AreDistinct, AreGiven, LeadBack}
use Rattle.rls_steps.specs.Labelled.{Names, Labelled, label_of, mark_by, mark, marked_by, marked, IsLabelled, Leads}
use Rattle.rls_steps.specs.Index.{AreApart}
use Rattle.rls_steps.specs.Recorded.{held_by, pieces_of, names_over}
use Rattle.rls_steps.specs.Sweeping.{piece_labels, step_labels, is_needed, is_newest, is_kept, kept_names, SweepingShows}
use Rattle.rls_steps.proofs.Exchanging.{AllOf, PiecesOf, ExchangesOf, exchanged_of, distinct_marks}
use Rattle.rls_steps.proofs.Found.{place_at, contained, contains_in}
use Rattle.rls_steps.proofs.Recording.{names_there}
use Rattle.rls_steps.proofs.Stretches.{reverse_in}
use Rattle.rls_steps.proofs.Tabled.{marks_are}
use Rattle.rls_steps.proofs.Tabling.{take_snoc}

abbrev Name : Type 0
Name = List Tuple × ℕ

-- ---- labels of identifiers

-- the label, if it stays
abbrev pub if_kept : (ℕ → Bool) → Option ℕ → Option ℕ
if_kept p None = None
if_kept p (Some l) = if p l then Some l else None

none_kept : (t : List Tuple × ℕ → Bool) (ns : Names) (x : List Tuple) → label_of ns x ≡ None → label_of (filter t ns) x ≡ None
none_kept t [] x e = refl
none_kept t (n ∷ ns) x e = bool_cases (ident_eq n.0 x)
    (λ b. let whole : Some n.1 ≡ None = sym (ap (λ (c : Bool). if c then Some n.1 else label_of ns x) b) ∙ e in absurd (cc))
    (λ b. let rest = none_kept t ns x (sym (ap (λ (c : Bool). if c then Some n.1 else label_of ns x) b) ∙ e) in
    bool_cases (t n)
    (λ k. ap (λ (c : Bool). label_of (if c then n ∷ filter t ns else filter t ns) x) k ∙ (ap (λ (c : Bool). if c then Some n.1 else label_of (filter t ns) x) b ∙ rest))
    (λ k. ap (λ (c : Bool). label_of (if c then n ∷ filter t ns else filter t ns) x) k ∙ rest))

pub label_kept : (t : List Tuple × ℕ → Bool) (p : ℕ → Bool) (ns : Names) (x : List Tuple) → ((n : List Tuple × ℕ) → n.0 ≡ x → t n ≡ p n.1) → AreApart ns → label_of (filter t ns) x ≡ if_kept p (label_of ns x)
label_kept t p [] x h a = refl
label_kept t p (n ∷ ns) x h a = bool_cases (ident_eq n.0 x)
    (λ b. let same : n.0 ≡ x = eq_same n.0 x b in
    let here : label_of (n ∷ ns) x ≡ Some n.1 = ap (λ (c : Bool). if c then Some n.1 else label_of ns x) b in
    let q = h n same in
    bool_cases (t n)
    (λ k. ap (λ (c : Bool). label_of (if c then n ∷ filter t ns else filter t ns) x) k
    ∙ (ap (λ (c : Bool). if c then Some n.1 else label_of (filter t ns) x) b
    ∙ (sym (ap (λ (c : Bool). if c then Some n.1 else None) (sym q ∙ k)) ∙ sym (ap (if_kept p) here))))
    (λ k. ap (λ (c : Bool). label_of (if c then n ∷ filter t ns else filter t ns) x) k
    ∙ (none_kept t ns x (subst (λ y. label_of ns y ≡ None) same a.0)
    ∙ (sym (ap (λ (c : Bool). if c then Some n.1 else None) (sym q ∙ k)) ∙ sym (ap (if_kept p) here)))))
    (λ b. let rest = label_kept t p ns x h a.1 in
    let there : label_of (n ∷ ns) x ≡ label_of ns x = ap (λ (c : Bool). if c then Some n.1 else label_of ns x) b in
    bool_cases (t n)
    (λ k. ap (λ (c : Bool). label_of (if c then n ∷ filter t ns else filter t ns) x) k
    ∙ (ap (λ (c : Bool). if c then Some n.1 else label_of (filter t ns) x) b ∙ (rest ∙ sym (ap (if_kept p) there))))
    (λ k. ap (λ (c : Bool). label_of (if c then n ∷ filter t ns else filter t ns) x) k ∙ (rest ∙ sym (ap (if_kept p) there))))

-- ---- marks

-- a label that goes gives way to the identifier of its character
kept_mark : (ℕ → Bool) → (ℕ → List Tuple) → Mark → Mark
kept_mark p g (Known l) = if p l then Known l else Unknown (g l)
kept_mark p g (Unknown x) = Unknown x

has_label : Option ℕ → ℕ → Bool
has_label None l = false
has_label (Some k) l = k == l

-- the character of a label
char_of : Names → List (List Tuple) → ℕ → List Tuple
char_of ns [] l = []
char_of ns (x ∷ xs) l = if has_label (label_of ns x) l then x else char_of ns xs l

labelled_is : (o : Option ℕ) (l : ℕ) → has_label o l ≡ true → o ≡ Some l
unfolding has_label
labelled_is None l h = absurd (cc)
labelled_is (Some k) l h = ap Some (eq_is k l h)

is_labelled : (o : Option ℕ) (l : ℕ) → o ≡ Some l → has_label o l ≡ true
unfolding has_label
is_labelled None l h = absurd (cc)
is_labelled (Some k) l h = eq_test k l (some_is k l h)

char_is : (ns : Names) (xs : List (List Tuple)) (x : List Tuple) (l : ℕ) → AreDistinct (map (mark ns) xs) → IsIn x xs → label_of ns x ≡ Some l → char_of ns xs l ≡ x
unfolding char_of
char_is ns [] x l d p e = absurd p
char_is ns (y ∷ ys) x l d (inl q) e =
    ap (λ (b : Bool). if b then y else char_of ns ys l) (is_labelled (label_of ns y) l (ap (label_of ns) q ∙ e)) ∙ q
char_is ns (y ∷ ys) x l d (inr p) e = bool_cases (has_label (label_of ns y) l)
    (λ b. let same : mark ns x ≡ mark ns y = ap (mark_by x) e ∙ sym (ap (mark_by y) (labelled_is (label_of ns y) l b)) in
    absurd (d.0 (subst (λ k. IsIn k (map (mark ns) ys)) same (map_in (mark ns) x ys p))))
    (λ b. ap (λ (c : Bool). if c then y else char_of ns ys l) b ∙ char_is ns ys x l d.1 p e)

mark_kept : (p : ℕ → Bool) (g : ℕ → List Tuple) (x : List Tuple) (o : Option ℕ) → ((l : ℕ) → o ≡ Some l → g l ≡ x) → mark_by x (if_kept p o) ≡ kept_mark p g (mark_by x o)
unfolding kept_mark
mark_kept p g x None h = refl
mark_kept p g x (Some l) h = bool_cases (p l)
    (λ b. ap (λ (c : Bool). mark_by x (if c then Some l else None)) b ∙ sym (ap (λ (c : Bool). if c then Known l else Unknown (g l)) b))
    (λ b. ap (λ (c : Bool). mark_by x (if c then Some l else None)) b ∙ (ap Unknown (sym (h l refl)) ∙ sym (ap (λ (c : Bool). if c then Known l else Unknown (g l)) b)))

marked_kept : (p : ℕ → Bool) (g : ℕ → List Tuple) (ns ks : Names) (es : Entries) → ((x : List Tuple) → IsIn x (idents_in es) → label_of ks x ≡ if_kept p (label_of ns x)) →
    ((x : List Tuple) (l : ℕ) → IsIn x (idents_in es) → label_of ns x ≡ Some l → g l ≡ x) → marked_by ks es ≡ remarked (kept_mark p g) (marked_by ns es)
marked_kept p g ns ks [] h c = refl
marked_kept p g ns ks (e ∷ es) h c =
    let here : mark ks e.0 ≡ kept_mark p g (mark ns e.0) = ap (mark_by e.0) (h e.0 (inl refl)) ∙ mark_kept p g e.0 (label_of ns e.0) (λ l q. c e.0 l (inl refl) q) in
    let rest = marked_kept p g ns ks es (λ x i. h x (inr i)) (λ x l i. c x l (inr i)) in
    ap (λ k. (k, e.1) ∷ marked_by ks es) here ∙ ap (λ m. (kept_mark p g (mark ns e.0), e.1) ∷ m) rest

-- ---- what stands in the text, and what is needed

Needed : (ℕ → Bool) → Mark → Type 0
Needed p (Known l) = p l ≡ true
Needed p (Unknown x) = ⊥

Among : (ℕ → Bool) → Names → List (List Tuple) → Mark → Type 0
Among p ns xs k = IsIn k (map (mark ns) xs) ⊎ Needed p k

unknown_is : (x y : List Tuple) (o : Option ℕ) → mark_by x o ≡ Unknown y → (o ≡ None) × (x ≡ y)
unknown_is x y None e = (refl, unknown_same x y e)
  where
    unknown_same : (a b : List Tuple) → Unknown a ≡ Unknown b → a ≡ b
    unknown_same a b q = cc
unknown_is x y (Some l) e = absurd (cc)

known_is : (x : List Tuple) (l : ℕ) (o : Option ℕ) → mark_by x o ≡ Known l → o ≡ Some l
known_is x l None e = absurd (cc)
known_is x l (Some k) e = ap Some (known_same k l e)
  where
    known_same : (a b : ℕ) → Known a ≡ Known b → a ≡ b
    known_same a b q = cc

-- an unlabelled character of the text
bare : (p : ℕ → Bool) (ns : Names) (xs : List (List Tuple)) (y : List Tuple) → Among p ns xs (Unknown y) → label_of ns y ≡ None
unfolding Among Needed
bare p ns xs y (inl i) =
    let r = in_map (mark ns) (Unknown y) xs i in
    let u = unknown_is r.0 y (label_of ns r.0) r.2 in
    subst (λ z. label_of ns z ≡ None) u.1 u.0
bare p ns xs y (inr n) = absurd n

-- a character whose label goes
loose : (p : ℕ → Bool) (ns : Names) (xs : List (List Tuple)) (l : ℕ) → AreDistinct (map (mark ns) xs) → p l ≡ false → Among p ns xs (Known l) → label_of ns (char_of ns xs l) ≡ Some l
unfolding Among Needed
loose p ns xs l d f (inl i) =
    let r = in_map (mark ns) (Known l) xs i in
    let e = known_is r.0 l (label_of ns r.0) r.2 in
    ap (label_of ns) (char_is ns xs r.0 l d r.1 e) ∙ e
loose p ns xs l d f (inr n) = absurd (true_false (p l) n f)

-- a label and an identifier don't get one mark
mixed : (p : ℕ → Bool) (ns : Names) (xs : List (List Tuple)) → AreDistinct (map (mark ns) xs) → (l : ℕ) (y : List Tuple) → Among p ns xs (Known l) → Among p ns xs (Unknown y) →
    kept_mark p (char_of ns xs) (Known l) ≡ Unknown y → ⊥
unfolding kept_mark
mixed p ns xs d l y i j e =
    let g = char_of ns xs in
    bool_cases (p l)
    (λ q. let w : Known l ≡ Unknown y = sym (ap (λ (z : Bool). if z then Known l else Unknown (g l)) q) ∙ e in absurd (cc))
    (λ q. let w : Unknown (g l) ≡ Unknown y = sym (ap (λ (z : Bool). if z then Known l else Unknown (g l)) q) ∙ e in
    let same : g l ≡ y = cc in
    let z : Some l ≡ None = sym (loose p ns xs l d q i) ∙ (ap (label_of ns) same ∙ bare p ns xs y j) in
    absurd (cc))

-- no two of these get one mark
apart : (p : ℕ → Bool) (ns : Names) (xs : List (List Tuple)) → AreDistinct (map (mark ns) xs) → (a b : Mark) → Among p ns xs a → Among p ns xs b →
    kept_mark p (char_of ns xs) a ≡ kept_mark p (char_of ns xs) b → a ≡ b
unfolding kept_mark
apart p ns xs d (Known l) (Known k) i j e =
    let g = char_of ns xs in
    let left : (c : Bool) → p l ≡ c → (if c then Known l else Unknown (g l)) ≡ kept_mark p g (Known k) = λ c q. sym (ap (λ (z : Bool). if z then Known l else Unknown (g l)) q) ∙ e in
    let both : (b c : Bool) → p l ≡ b → p k ≡ c → (if b then Known l else Unknown (g l)) ≡ (if c then Known k else Unknown (g k)) = λ b c q r. left b q ∙ ap (λ (z : Bool). if z then Known k else Unknown (g k)) r in
    bool_cases (p l)
    (λ q. bool_cases (p k) (λ r. both true true q r) (λ r. let w : Known l ≡ Unknown (g k) = both true false q r in absurd (cc)))
    (λ q. bool_cases (p k)
    (λ r. let w : Unknown (g l) ≡ Known k = both false true q r in absurd (cc))
    (λ r. let w : Unknown (g l) ≡ Unknown (g k) = both false false q r in
    let same : g l ≡ g k = cc in
    let z : Some l ≡ Some k = sym (loose p ns xs l d q i) ∙ (ap (label_of ns) same ∙ loose p ns xs k d r j) in
    ap Known (some_is l k z)))
apart p ns xs d (Known l) (Unknown y) i j e = absurd (mixed p ns xs d l y i j e)
apart p ns xs d (Unknown y) (Known l) i j e = absurd (mixed p ns xs d l y j i (sym e))
apart p ns xs d (Unknown x) (Unknown y) i j e = e

exchanges : (p : ℕ → Bool) (ns : Names) (xs : List (List Tuple)) → AreDistinct (map (mark ns) xs) → ExchangesOf (λ l. p l ≡ true) (Among p ns xs) (kept_mark p (char_of ns xs))
unfolding Among Needed kept_mark
exchanges p ns xs d = record {
  apart = apart p ns xs d;
  given = λ l h. inr h;
  same = λ l h. ap (λ (c : Bool). if c then Known l else Unknown (char_of ns xs l)) h;
}

-- ---- labels that steps name

all_of : (P : ℕ → Type 0) (ls : List ℕ) → ((l : ℕ) → IsIn l ls → P l) → AllOf P ls
all_of P [] h = tt
all_of P (l ∷ ls) h = (h l (inl refl), all_of P ls (λ k i. h k (inr i)))

piece_of : (P : ℕ → Type 0) (p : Piece) (ps : List Piece) → ((l : ℕ) → IsIn l (piece_labels p) → P l) → PiecesOf P ps → PiecesOf P (p ∷ ps)
piece_of P (Put labels) ps h g = (all_of P labels h, g)
piece_of P (Cut labels cs None right) ps h g = (all_of P labels (λ l i. h l (in_left l labels _ i)), tt, g)
piece_of P (Cut labels cs (Some k) right) ps h g = (all_of P labels (λ l i. h l (in_left l labels _ i)), h k (in_right k labels _ (inl refl)), g)

steps_of : (P : ℕ → Type 0) (xs : List Step) → ((x : Step) → IsIn x xs → (l : ℕ) → IsIn l (piece_labels x.piece) → P l) → PiecesOf P (map (λ (x : Step). x.piece) xs)
steps_of P [] h = tt
steps_of P (x ∷ xs) h = piece_of P x.piece (map (λ (y : Step). y.piece) xs) (h x (inl refl)) (steps_of P xs (λ y i. h y (inr i)))

label_in : (x : Step) (xs : List Step) (l : ℕ) → IsIn x xs → IsIn l (piece_labels x.piece) → IsIn l (step_labels xs)
label_in x [] l i j = absurd i
label_in x (y ∷ ys) l (inl e) j = in_left l (piece_labels y.piece) (step_labels ys) (subst (λ (z : Step). IsIn l (piece_labels z.piece)) (sym e) j)
label_in x (y ∷ ys) l (inr i) j = in_right l (piece_labels y.piece) (step_labels ys) (label_in x ys l i j)

needed_pieces : (labels : List ℕ) (xs : List Step) → ((l : ℕ) → IsIn l (step_labels xs) → IsIn l labels) → PiecesOf (λ l. is_needed labels l ≡ true) (pieces_of xs)
needed_pieces labels xs h = steps_of (λ l. is_needed labels l ≡ true) (reverse xs) (λ x i l j. any_in (λ k. k == l) l labels (h l (label_in x xs l (reverse_in x xs i) j)) (eq_refl l))

-- ---- the names that are kept

filter_one : {A : Type 0} (t : A → Bool) (x : A) → reverse (filter t (x ∷ [])) ≡ filter t (x ∷ [])
filter_one t x = bool_cases (t x)
    (λ b. ap (λ (c : Bool). reverse (if c then x ∷ [] else [])) b ∙ sym (ap (λ (c : Bool). if c then x ∷ [] else []) b))
    (λ b. ap (λ (c : Bool). reverse (if c then x ∷ [] else [])) b ∙ sym (ap (λ (c : Bool). if c then x ∷ [] else []) b))

pub filter_back : {A : Type 0} (t : A → Bool) (xs : List A) → reverse (filter t xs) ≡ filter t (reverse xs)
filter_back t [] = refl
filter_back t (x ∷ xs) =
    ap reverse (filter-append t (x ∷ []) xs)
    ∙ (reverse-append (filter t (x ∷ [])) (filter t xs)
    ∙ (ap (λ zs. zs ++ reverse (filter t (x ∷ []))) (filter_back t xs)
    ∙ (ap (λ zs. filter t (reverse xs) ++ zs) (filter_one t x) ∙ (sym (filter-append t (reverse xs) (x ∷ [])) ∙ ap (filter t) (sym (reverse-append (x ∷ []) xs))))))

given_kept : (next : ℕ) (t : List Tuple × ℕ → Bool) (ns : Names) → AreGiven next (map (λ n. n.1) ns) → AreGiven next (map (λ n. n.1) (filter t ns))
given_kept next t [] g = g
given_kept next t (n ∷ ns) g = bool_cases (t n)
    (λ b. subst (λ (c : Bool). AreGiven next (map (λ (m : Name). m.1) (if c then n ∷ filter t ns else filter t ns))) (sym b) (g.0, given_kept next t ns g.1))
    (λ b. subst (λ (c : Bool). AreGiven next (map (λ (m : Name). m.1) (if c then n ∷ filter t ns else filter t ns))) (sym b) (given_kept next t ns g.1))

idents_kept : (t : List Tuple × ℕ → Bool) (ns : Names) → ((x : List Tuple) → IsIn x (map (λ n. n.0) ns) → IsIdent x) → (x : List Tuple) → IsIn x (map (λ n. n.0) (filter t ns)) → IsIdent x
idents_kept t ns h x i =
    let f : List Tuple × ℕ → List Tuple = λ n. n.0 in
    let r = in_map f x (filter t ns) i in
    subst IsIdent r.2 (h (f r.0) (map_in f r.0 ns (in_filter t r.0 ns r.1).0))

in_at : (xs : List (List Tuple)) (x : List Tuple) → IsIn x xs → (k : ℕ) × (slice_get xs k ≡ Some x)
in_at [] x i = absurd i
in_at (y ∷ ys) x (inl e) = (0, ap Some e)
in_at (y ∷ ys) x (inr i) = let r = in_at ys x i in (suc r.0, r.1)

and_yes : (b c : Bool) → c ≡ true → (b && c) ≡ b
and_yes true c e = e
and_yes false c e = refl

-- a name whose character is in the text stays just if its label is needed
kept_there : (xs : List (List Tuple)) (labels : List ℕ) (ns : Names) (x : List Tuple) → is_increasing xs ≡ true → IsIn x xs → (n : List Tuple × ℕ) → n.0 ≡ x → is_kept xs labels ns n ≡ is_needed labels n.1
kept_there xs labels ns x up i n e =
    let r = in_at xs x i in
    let found : is_ok (place_of n.0 xs) ≡ true = ap (λ y. is_ok (place_of y xs)) e ∙ ap is_ok (place_at xs x r.0 up r.1) in
    and_yes (is_needed labels n.1) (is_newest ns n || is_ok (place_of n.0 xs)) (or_right (is_newest ns n) (is_ok (place_of n.0 xs)) found)

-- without these names
less : Labelled → List ℕ → Labelled
less h labels = record { seen = h.seen; next = h.next; names = filter (is_kept (idents_over h.seen) labels h.names) h.names }

marked_less : (h : Labelled) (labels : List ℕ) → IsLabelled h → AreApart h.names → AreDistinct (map (mark h.names) (idents_over h.seen)) →
    marked (less h labels) ≡ remarked (kept_mark (is_needed labels) (char_of h.names (idents_over h.seen))) (marked h)
unfolding less
marked_less h labels i a d =
    let xs = idents_over h.seen in
    marked_kept (is_needed labels) (char_of h.names xs) h.names (filter (is_kept xs labels h.names) h.names) h.seen.text
    (λ x p. label_kept (is_kept xs labels h.names) (is_needed labels) h.names x (kept_there xs labels h.names x i.sane.idents.1 p) a)
    (λ x l p e. char_is h.names xs x l d p e)

among_all : (p : ℕ → Bool) (h : Labelled) (k : Mark) → IsIn k (marks (marked h)) → Among p h.names (idents_over h.seen) k
unfolding Among
among_all p h k i = inl (subst (λ ms. IsIn k ms) (marks_are h.names h.seen.text) i)

less_labelled : (h : Labelled) (labels : List ℕ) → IsLabelled h → AreApart h.names → IsLabelled (less h labels)
unfolding less
less_labelled h labels i a =
    let p = is_needed labels in
    let xs = idents_over h.seen in
    let t = is_kept xs labels h.names in
    let f = kept_mark p (char_of h.names xs) in
    let d : AreDistinct (map (mark h.names) xs) = subst AreDistinct (marks_are h.names h.seen.text) i.distinct in
    let x = exchanges p h.names xs d in
    record {
      sane = i.sane;
      given = given_kept h.next t h.names i.given;
      idents = idents_kept t h.names i.idents;
      distinct = subst (λ (m : Marked). AreDistinct (marks m)) (sym (marked_less h labels i a d)) (distinct_marks f (Among p h.names xs) x.apart (marked h) (among_all p h) i.distinct);
    }

less_leads : (h : Labelled) (labels : List ℕ) (ps : List Piece) (ts : List (List ℕ)) → IsLabelled h → AreApart h.names → PiecesOf (λ l. is_needed labels l ≡ true) ps → Leads h ps ts → Leads (less h labels) ps ts
unfolding less
less_leads h labels ps ts i a n l =
    let p = is_needed labels in
    let xs = idents_over h.seen in
    let f = kept_mark p (char_of h.names xs) in
    let d : AreDistinct (map (mark h.names) xs) = subst AreDistinct (marks_are h.names h.seen.text) i.distinct in
    record {
      given = l.given;
      back = subst (λ (m : Marked). LeadBack m ps ts) (sym (marked_less h labels i a d)) (exchanged_of (λ k. p k ≡ true) (Among p h.names xs) f (exchanges p h.names xs d) (marked h) ps ts (among_all p h) n l.back);
    }

-- ---- the law

pub sweeping_shows : SweepingShows
unfolding less
sweeping_shows s r c q a x =
    let labels = step_labels r.past ++ step_labels r.future in
    let xs = idents_over s in
    let t = is_kept xs labels (reverse r.names) in
    let h = held_by s r.next r.names in
    let was : held_by s r.next (names_over s r.epoch r.names) ≡ h = ap (λ (ns : Names). held_by s r.next ns) (names_there s r.epoch r.names q) in
    let i : IsLabelled h = subst IsLabelled was x.labelled in
    let n = kept_names xs labels r.names in
    let now : less h labels ≡ held_by s r.next (names_over s r.epoch n) =
    ap (λ (ns : Names). record { seen = s; next = r.next; names = ns }) (sym (filter_back t r.names)) ∙ sym (ap (λ (ns : Names). held_by s r.next ns) (names_there s r.epoch n q)) in
    let past = needed_pieces labels r.past (λ l p. in_left l (step_labels r.past) (step_labels r.future) p) in
    let future = needed_pieces labels r.future (λ l p. in_right l (step_labels r.past) (step_labels r.future) p) in
    record {
      labelled = subst IsLabelled now (less_labelled h labels i a);
      text = x.text;
      back = subst (λ (k : Labelled). Leads k (pieces_of r.past) c.before) now (less_leads h labels (pieces_of r.past) c.before i a past (subst (λ (k : Labelled). Leads k (pieces_of r.past) c.before) was x.back));
      forth = subst (λ (k : Labelled). Leads k (pieces_of r.future) c.after) now (less_leads h labels (pieces_of r.future) c.after i a future (subst (λ (k : Labelled). Leads k (pieces_of r.future) c.after) was x.forth));
    }

-- ---- labels that are looked up

pub in_list : (xs : List ℕ) (x i : ℕ) → i < length xs → get_or xs i 0 ≡ x → IsIn x xs
in_list [] x i h e = absurd (omega (arith, h))
in_list (y ∷ ys) x zero h e = inl e
in_list (y ∷ ys) x (suc i) h e = inr (in_list ys x i (omega (arith, h)) e)

list_at : (xs : List ℕ) (x : ℕ) → IsIn x xs → (i : ℕ) × (i < length xs) × (get_or xs i 0 ≡ x)
list_at [] x p = absurd p
list_at (y ∷ ys) x (inl e) = (0, omega arith, e)
list_at (y ∷ ys) x (inr p) = let r = list_at ys x p in let h = r.1 in (suc r.0, omega (arith, h), r.2)

pub needed_at : (xs : List ℕ) (x : ℕ) → is_needed xs x ≡ true → (i : ℕ) × (i < length xs) × (get_or xs i 0 ≡ x)
needed_at xs x t = let f = in_any (λ k. k == x) xs t in list_at xs x (subst (λ k. IsIn k xs) (eq_is f.0 x f.2) f.1)

pub needed_found : (xs : List ℕ) (x : ℕ) (r : Result ℕ ℕ) → IsBinarySearchResult (λ y. nat_cmp y x) xs r → IsNonDecreasing xs → is_ok r ≡ is_needed xs x
needed_found xs x r b s = go r (searched xs x r b (λ i j h k. s i j 0 h k))
  where
    go : (q : Result ℕ ℕ) → MatchResult q (λ i. (i < length xs) × (get_or xs i 0 ≡ x)) (λ i. (i ≤ length xs) × ((k : ℕ) → k < i → get_or xs k 0 < x) × ((k : ℕ) → i ≤ k → k < length xs → x < get_or xs k 0)) → is_ok q ≡ is_needed xs x
    go (Ok i) m = sym (any_in (λ k. k == x) x xs (in_list xs x i m.0 m.1) (eq_refl x))
    go (Err i) m = sym (not_true (is_needed xs x) (λ t.
        let w = needed_at xs x t in
        bool_cases (nat_lt w.0 i)
        (λ b. absurd (omega (arith, m.1 w.0 (lt_is w.0 i b), w.2)))
        (λ b. absurd (omega (arith, m.2 w.0 (not_lt_is w.0 i b) w.1, w.2)))))

-- ---- the next one

pub kept_next : (t : List Tuple × ℕ → Bool) (xs : Names) (i : ℕ) (x : List Tuple × ℕ) (old new : Names) → slice_get xs i ≡ Some x → old ≡ filter t (take i xs) → new ≡ old ++ filter t (x ∷ []) → new ≡ filter t (take (i + 1) xs)
kept_next t xs i x old new g e f =
    let one : suc i ≡ i + 1 = omega arith in
    f ∙ (ap (λ (ns : Names). ns ++ filter t (x ∷ [])) e ∙ (sym (filter-append t (take i xs) (x ∷ [])) ∙ (ap (filter t) (sym (take_snoc xs i x g)) ∙ ap (λ n. filter t (take n xs)) one)))

labels_append : (xs ys : List Step) → step_labels (xs ++ ys) ≡ step_labels xs ++ step_labels ys
labels_append [] ys = refl
labels_append (x ∷ xs) ys = ap (λ ls. piece_labels x.piece ++ ls) (labels_append xs ys) ∙ sym (append_assoc (piece_labels x.piece) (step_labels xs) (step_labels ys))

labels_one : (x : Step) → step_labels (x ∷ []) ≡ piece_labels x.piece
labels_one x = append-nil (piece_labels x.piece)

pub labels_next : (xs : List Step) (i : ℕ) (x : Step) (base old new : List ℕ) → slice_get xs i ≡ Some x → old ≡ base ++ step_labels (take i xs) → new ≡ old ++ piece_labels x.piece → new ≡ base ++ step_labels (take (i + 1) xs)
labels_next xs i x base old new g e f =
    let one : suc i ≡ i + 1 = omega arith in
    let more : step_labels (take (i + 1) xs) ≡ step_labels (take i xs) ++ piece_labels x.piece =
    ap (λ n. step_labels (take n xs)) (sym one) ∙ (ap step_labels (take_snoc xs i x g) ∙ (labels_append (take i xs) (x ∷ []) ∙ ap (λ ls. step_labels (take i xs) ++ ls) (labels_one x))) in
    f ∙ (ap (λ ls. ls ++ piece_labels x.piece) e ∙ (append_assoc base (step_labels (take i xs)) (piece_labels x.piece) ∙ ap (λ ls. base ++ ls) (sym more)))

-- ---- the same labels in another order

in_order : (xs ys : List ℕ) (l : ℕ) → IsPermutation xs ys → is_needed xs l ≡ true → is_needed ys l ≡ true
in_order xs ys l p h =
    let f = in_any (λ k. k == l) xs h in
    let c = Contains-permutation xs ys f.0 p (contained xs f.0 f.1) in
    any_in (λ k. k == l) f.0 ys (contains_in ys f.0 c.0 c.1 c.2) f.2

pub needed_sorted : (xs ys : List ℕ) (l : ℕ) → IsPermutation xs ys → is_needed ys l ≡ is_needed xs l
needed_sorted xs ys l p = same_bool (is_needed ys l) (is_needed xs l) (in_order ys xs l (IsPermutation-sym xs ys p)) (in_order xs ys l p)

filter_same : {A : Type 0} (t u : A → Bool) (xs : List A) → ((x : A) → t x ≡ u x) → filter t xs ≡ filter u xs
filter_same t u [] h = refl
filter_same t u (x ∷ xs) h = ap (λ zs. if t x then x ∷ zs else zs) (filter_same t u xs h) ∙ ap (λ (c : Bool). if c then x ∷ filter u xs else filter u xs) (h x)

pub kept_sorted : (xs : List (List Tuple)) (labels sorted : List ℕ) (names : Names) → ((l : ℕ) → is_needed sorted l ≡ is_needed labels l) → kept_names xs sorted names ≡ kept_names xs labels names
kept_sorted xs labels sorted names h =
    filter_same (is_kept xs sorted (reverse names)) (is_kept xs labels (reverse names)) names (λ n. ap (λ (c : Bool). c && (is_newest (reverse names) n || is_ok (place_of n.0 xs))) (h n.1))
