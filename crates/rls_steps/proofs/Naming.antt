-- Labels of characters.
use Rattle.std.proofs.Common.{◌≡◌, ℕ, suc, ◌<◌, ◌≤◌, List, [], ◌∷◌, map, inl, inr, refl, sym, ap, ◌∙◌, subst, arith}
use Rattle.std.specs.Prelude.{Bool, true, false, ◌==◌, Option, Some, None, if◌then◌else◌}
use Rattle.std.specs.List.{list_any}
use Rattle.std.proofs.lemmas.Bool.{or_from}
use Rattle.rls_ident.specs.declared.tuple.Tuple.{Tuple}
use Rattle.rls_ident.specs.Identifiers.{ident_eq, IsIdent}
use Rattle.rls_ident.specs.Lists.{IsIn}
use Rattle.rls_ident.proofs.Ends.{eq_same, ident_eq_refl}
use Rattle.rls_ident.proofs.Members.{bool_cases, eq_is, eq_refl, neq_test, some_is}
use Rattle.rls_runs.specs.Entries.{Entries, chars_in}
use Rattle.rls_steps.specs.Marks.{Mark, Known, Unknown, Marked, marks, chars, Piece, Put, Cut, is_one_of, label_places, remarked}
use Rattle.rls_steps.specs.Back.{AreDistinct, LeadBack, AreGiven, ArePieces, Exchanges}
use Rattle.rls_steps.specs.Labelled.{Names, Labelled, label_of, mark_by, mark, marked_by, marked, IsLabelled, Leads, new_label, label_all}
use Rattle.rls_steps.specs.StepLaws.{LabelledLead}
use Rattle.rls_steps.proofs.Exchanging.{exchanged_among, distinct_marks}

-- ---- numbers below the next label

pub given_most : (m n : ℕ) (ls : List ℕ) → m ≤ n → AreGiven m ls → AreGiven n ls
given_most m n [] h g = tt
given_most m n (l ∷ ls) h g = (omega (arith, h, g.0), given_most m n ls h g.1)

le_trans : (a b c : ℕ) → a ≤ b → b ≤ c → a ≤ c
le_trans a b c h k = omega (arith, h, k)

pub pieces_most : (m n : ℕ) (ps : List Piece) → m ≤ n → ArePieces m ps → ArePieces n ps
pieces_most m n [] h g = tt
pieces_most m n (Put labels ∷ ps) h g = (given_most m n labels h g.0, pieces_most m n ps h g.1)
pieces_most m n (Cut labels cs None right ∷ ps) h g = (given_most m n labels h g.0, tt, pieces_most m n ps h g.2)
pieces_most m n (Cut labels cs (Some l) right ∷ ps) h g = (given_most m n labels h g.0, omega (arith, h, g.1), pieces_most m n ps h g.2)

-- a label that is found was given
pub label_given : (next : ℕ) (names : Names) (x : List Tuple) (n : ℕ) → AreGiven next (map (λ p. p.1) names) → label_of names x ≡ Some n → n < next
label_given next [] x n g h = absurd (cc)
label_given next (p ∷ ps) x n g h = go (ident_eq p.0 x) (λ e. label_given next ps x n g.1 e) h
  where
    go : (b : Bool) → (label_of ps x ≡ Some n → n < next) → (if b then Some p.1 else label_of ps x) ≡ Some n → n < next
    go true ih e = subst (λ k. k < next) (some_is p.1 n e) g.0
    go false ih e = ih e

-- ---- one more label

-- the identifier and the label are exchanged
swap : List Tuple → ℕ → Mark → Mark
swap x n (Known k) = if k == n then Unknown x else Known k
swap x n (Unknown y) = if ident_eq x y then Known n else Unknown y

swap_known : (x : List Tuple) (n k : ℕ) → k < n → swap x n (Known k) ≡ Known k
unfolding swap
swap_known x n k h = ap (λ (b : Bool). if b then Unknown x else Known k) (neq_test k n (λ e. absurd (omega (arith, h, e))))

swap_back : (x : List Tuple) (n : ℕ) (m : Mark) → swap x n (swap x n m) ≡ m
unfolding swap
swap_back x n (Known k) = bool_cases (k == n)
    (λ t. ap (λ (b : Bool). swap x n (if b then Unknown x else Known k)) t ∙ (ap (λ (b : Bool). if b then Known n else Unknown x) (ident_eq_refl x) ∙ ap Known (sym (eq_is k n t))))
    (λ f. ap (λ (b : Bool). swap x n (if b then Unknown x else Known k)) f ∙ ap (λ (b : Bool). if b then Unknown x else Known k) f)
swap_back x n (Unknown y) = bool_cases (ident_eq x y)
    (λ t. ap (λ (b : Bool). swap x n (if b then Known n else Unknown y)) t ∙ (ap (λ (b : Bool). if b then Unknown x else Known n) (eq_refl n) ∙ ap Unknown (eq_same x y t)))
    (λ f. ap (λ (b : Bool). swap x n (if b then Known n else Unknown y)) f ∙ ap (λ (b : Bool). if b then Known n else Unknown y) f)

swaps : (x : List Tuple) (n : ℕ) → Exchanges n (λ k. Unit {0}) (swap x n)
swaps x n = record {
  apart = λ a b p q e. sym (swap_back x n a) ∙ (ap (swap x n) e ∙ swap_back x n b);
  given = λ k h. tt;
  same = λ k h. swap_known x n k h;
}

none_of : (n : ℕ) (js : List ℕ) → AreGiven n js → is_one_of js (Known n) ≡ false
none_of n [] h = refl
none_of n (j ∷ js) h = or_from (j == n) (list_any (λ i. i == n) js) (neq_test j n (λ e. absurd (omega (arith, h.0, e)))) (none_of n js h.1)

-- a label that was given stays where it is
one_same : (x : List Tuple) (n : ℕ) (ls : List ℕ) → AreGiven n ls → (m : Mark) → is_one_of ls (swap x n m) ≡ is_one_of ls m
unfolding swap
one_same x n ls g (Known k) = bool_cases (k == n)
    (λ t. ap (λ (b : Bool). is_one_of ls (if b then Unknown x else Known k)) t ∙ sym (ap (λ j. is_one_of ls (Known j)) (eq_is k n t) ∙ none_of n ls g))
    (λ f. ap (λ (b : Bool). is_one_of ls (if b then Unknown x else Known k)) f)
one_same x n ls g (Unknown y) = bool_cases (ident_eq x y)
    (λ t. ap (λ (b : Bool). is_one_of ls (if b then Known n else Unknown y)) t ∙ none_of n ls g)
    (λ f. ap (λ (b : Bool). is_one_of ls (if b then Known n else Unknown y)) f)

swap_places : (x : List Tuple) (n : ℕ) (ls : List ℕ) → AreGiven n ls → (i : ℕ) (m : Marked) → label_places i ls (marks (remarked (swap x n) m)) ≡ label_places i ls (marks m)
swap_places x n ls g i [] = refl
swap_places x n ls g i (e ∷ es) =
    let rest = swap_places x n ls g (suc i) es in
    let here = one_same x n ls g e.0 in
    let a = ap (λ (b : Bool). if b then i ∷ label_places (suc i) ls (marks (remarked (swap x n) es)) else label_places (suc i) ls (marks (remarked (swap x n) es))) here in
    let f : List ℕ → List ℕ = λ is. if is_one_of ls e.0 then i ∷ is else is in
    a ∙ ap f rest

-- so is each mark
mark_new : (next : ℕ) (names : Names) (x y : List Tuple) → AreGiven next (map (λ p. p.1) names) → label_of names x ≡ None → mark ((x, next) ∷ names) y ≡ swap x next (mark names y)
unfolding swap
mark_new next names x y g h = bool_cases (ident_eq x y)
    (λ t. let same = eq_same x y t in
    let none : label_of names y ≡ None = subst (λ z. label_of names z ≡ None) same h in
    ap (λ (b : Bool). mark_by y (if b then Some next else label_of names y)) t
    ∙ sym (ap (λ o. swap x next (mark_by y o)) none ∙ ap (λ (b : Bool). if b then Known next else Unknown y) t))
    (λ f. ap (λ (b : Bool). mark_by y (if b then Some next else label_of names y)) f ∙ sym (other (label_of names y) refl f))
  where
    other : (o : Option ℕ) → label_of names y ≡ o → ident_eq x y ≡ false → swap x next (mark_by y o) ≡ mark_by y o
    other None e f = ap (λ (b : Bool). if b then Known next else Unknown y) f
    other (Some k) e f = swap_known x next k (label_given next names y k g e)

marked_new : (next : ℕ) (names : Names) (x : List Tuple) (es : Entries) → AreGiven next (map (λ p. p.1) names) → label_of names x ≡ None → marked_by ((x, next) ∷ names) es ≡ remarked (swap x next) (marked_by names es)
marked_new next names x [] g h = refl
marked_new next names x (e ∷ es) g h = let a = mark_new next names x e.0 g h in let b = marked_new next names x es g h in cc

pub record Relabelled (h g : Labelled) (ps : List Piece) (ts : List (List ℕ)) : Type 0 where
  pub is : IsLabelled g
  pub seen : g.seen ≡ h.seen
  pub leads : Leads g ps ts
  -- labels that were given have the same places
  pub places : (ls : List ℕ) → AreGiven h.next ls → label_places 0 ls (marks (marked g)) ≡ label_places 0 ls (marks (marked h))
  pub more : h.next ≤ g.next

one_more : (h : Labelled) (x : List Tuple) → IsIdent x → (ps : List Piece) (ts : List (List ℕ)) → IsLabelled h → Leads h ps ts → (o : Option ℕ) → label_of h.names x ≡ o → Relabelled h (new_label o h x) ps ts
one_more h x j ps ts i l (Some n) e = record { is = i; seen = refl; leads = l; places = λ ls g. refl; more = omega arith }
one_more h x j ps ts i l None e =
    let m = marked_new h.next h.names x h.seen.text i.given e in
    let w = swaps x h.next in
    let one : h.next ≤ suc h.next = omega arith in
    record {
      is = record {
        sane = i.sane;
        given = (omega arith, given_most h.next (suc h.next) (map (λ p. p.1) h.names) one i.given);
        idents = λ y p. new_ident y p;
        distinct = subst (λ (k : Marked). AreDistinct (marks k)) (sym m) (distinct_marks (swap x h.next) (λ k. Unit {0}) w.apart (marked h) (λ k p. tt) i.distinct);
      };
      seen = refl;
      leads = record {
        given = pieces_most h.next (suc h.next) ps one l.given;
        back = subst (λ (k : Marked). LeadBack k ps ts) (sym m) (exchanged_among h.next (λ k. Unit {0}) (swap x h.next) w (marked h) ps ts (λ k p. tt) l.given l.back);
      };
      places = λ ls g. ap (λ (k : Marked). label_places 0 ls (marks k)) m ∙ swap_places x h.next ls g 0 (marked h);
      more = omega arith;
    }
  where
    new_ident : (y : List Tuple) → IsIn y (x ∷ map (λ p. p.0) h.names) → IsIdent y
    new_ident y (inl q) = subst IsIdent q j
    new_ident y (inr q) = i.idents y q

pub relabelled : (h : Labelled) (xs : List (List Tuple)) → ((x : List Tuple) → IsIn x xs → IsIdent x) → (ps : List Piece) (ts : List (List ℕ)) → IsLabelled h → Leads h ps ts → Relabelled h (label_all h xs) ps ts
relabelled h [] j ps ts i l = record { is = i; seen = refl; leads = l; places = λ ls g. refl; more = omega arith }
relabelled h (x ∷ xs) j ps ts i l =
    let a = one_more h x (j x (inl refl)) ps ts i l (label_of h.names x) refl in
    let b = relabelled (new_label (label_of h.names x) h x) xs (λ y p. j y (inr p)) ps ts a.is a.leads in
    record { is = b.is; seen = b.seen ∙ a.seen; leads = b.leads; places = λ ls g. b.places ls (given_most h.next (new_label (label_of h.names x) h x).next ls a.more g) ∙ a.places ls g; more = le_trans h.next (new_label (label_of h.names x) h x).next (label_all (new_label (label_of h.names x) h x) xs).next a.more b.more }

pub labelled_lead : LabelledLead
labelled_lead h xs ps ts j i l = let r = relabelled h xs j ps ts i l in (r.is, r.seen, r.leads)

-- the characters are those of the text
pub chars_marked : (names : Names) (es : Entries) → chars (marked_by names es) ≡ chars_in es
chars_marked names [] = refl
chars_marked names (e ∷ es) = ap (λ cs. e.1 ∷ cs) (chars_marked names es)
