-- Runs of which none goes on with the one before it.
use Rattle.std.proofs.Common.{◌≡◌, ℕ, zero, suc, ◌<◌, true, false, List, [], ◌∷◌, ◌++◌, length, Option, Some, None, refl, sym, ap, ◌∙◌, subst, arith, length-append}
use Rattle.std.specs.Prelude.{◌&&◌, not, nat_lt}
use Rattle.std.specs.List.{list_all}
use Rattle.std.proofs.lemmas.List.{map-append}
use Rattle.rls_ident.specs.declared.tuple.Tuple.{Tuple}
use Rattle.rls_ident.specs.Identifiers.{ident_lt, follows}
use Rattle.rls_ident.proofs.Members.{and_left, and_right, and_true, not_is, lt_test}
use Rattle.rls_runs.specs.Runs.{run_idents, run_last, idents_of, is_apart, are_apart, run_before, is_run}
use Rattle.rls_runs.proofs.RunOrder.{AllMore, Rising, of_lt, run_some, last_at, last_rising, rising_right}
use Rattle.rls_blocks.specs.Trees.{Piece, runs_in}
use Rattle.rls_blocks.specs.Edits.{goes_on, leads_to, are_loose}

-- ---- parts of a list

pub before_append : (b : Option (List Tuple × ℕ)) (xs ys : List (List Tuple × ℕ)) → run_before b (xs ++ ys) ≡ run_before (run_before b xs) ys
before_append b [] ys = refl
before_append b (x ∷ xs) ys = before_append (Some x) xs ys

pub loose_left : (b : Option (List Tuple × ℕ)) (xs ys : List (List Tuple × ℕ)) → are_loose b (xs ++ ys) ≡ true → are_loose b xs ≡ true
loose_left b [] ys h = refl
loose_left b (x ∷ xs) ys h =
    and_true (not (goes_on b x.0)) (are_loose (Some x) xs) (and_left (not (goes_on b x.0)) (are_loose (Some x) (xs ++ ys)) h)
    (loose_left (Some x) xs ys (and_right (not (goes_on b x.0)) (are_loose (Some x) (xs ++ ys)) h))

pub loose_right : (b : Option (List Tuple × ℕ)) (xs ys : List (List Tuple × ℕ)) → are_loose b (xs ++ ys) ≡ true → are_loose (run_before b xs) ys ≡ true
loose_right b [] ys h = h
loose_right b (x ∷ xs) ys h = loose_right (Some x) xs ys (and_right (not (goes_on b x.0)) (are_loose (Some x) (xs ++ ys)) h)

pub loose_both : (b : Option (List Tuple × ℕ)) (xs ys : List (List Tuple × ℕ)) → are_loose b xs ≡ true → are_loose (run_before b xs) ys ≡ true → are_loose b (xs ++ ys) ≡ true
loose_both b [] ys h k = k
loose_both b (x ∷ xs) ys h k =
    and_true (not (goes_on b x.0)) (are_loose (Some x) (xs ++ ys)) (and_left (not (goes_on b x.0)) (are_loose (Some x) xs) h)
    (loose_both (Some x) xs ys (and_right (not (goes_on b x.0)) (are_loose (Some x) xs) h) k)

-- behind another run
pub loose_again : (a b : Option (List Tuple × ℕ)) (rs : List (List Tuple × ℕ)) → are_loose a rs ≡ true → leads_to b rs ≡ false → are_loose b rs ≡ true
loose_again a b [] h n = refl
loose_again a b (r ∷ rs) h n = and_true (not (goes_on b r.0)) (are_loose (Some r) rs) (ap not n) (and_right (not (goes_on a r.0)) (are_loose (Some r) rs) h)

pub loose_first : (a : Option (List Tuple × ℕ)) (r : List Tuple × ℕ) (rs : List (List Tuple × ℕ)) → are_loose a (r ∷ rs) ≡ true → (goes_on a r.0 ≡ false) × (leads_to (Some r) rs ≡ false)
loose_first a r [] h = (not_is (goes_on a r.0) (and_left (not (goes_on a r.0)) true h), refl)
loose_first a r (s ∷ rs) h =
    let k = and_right (not (goes_on a r.0)) (are_loose (Some r) (s ∷ rs)) h in
    (not_is (goes_on a r.0) (and_left (not (goes_on a r.0)) (are_loose (Some r) (s ∷ rs)) h), not_is (goes_on (Some r) s.0) (and_left (not (goes_on (Some r) s.0)) (are_loose (Some s) rs) k))

-- ---- apart and loose

pub loose_of : (b : Option (List Tuple × ℕ)) (rs : List (List Tuple × ℕ)) → are_apart b rs ≡ true → are_loose b rs ≡ true
loose_of b [] h = refl
loose_of b (r ∷ rs) h =
    let p = and_left (nat_lt 0 r.1 && is_apart b r) (are_apart (Some r) rs) h in
    and_true (not (goes_on b r.0)) (are_loose (Some r) rs) (go b (and_right (nat_lt 0 r.1) (is_apart b r) p)) (loose_of (Some r) rs (and_right (nat_lt 0 r.1 && is_apart b r) (are_apart (Some r) rs) h))
  where
    go : (b : Option (List Tuple × ℕ)) → is_apart b r ≡ true → not (goes_on b r.0) ≡ true
    go None q = refl
    go (Some c) q = and_right (ident_lt (run_last c) r.0) (not (follows r.0 (run_last c))) q

-- what stands in front, if it is there, is less than all of these
abbrev pub AreBehind : Option (List Tuple × ℕ) → List (List Tuple) → Type 0
AreBehind None xs = Unit {0}
AreBehind (Some r) xs = AllMore (run_last r) xs

apart_behind : (b : Option (List Tuple × ℕ)) (rs : List (List Tuple × ℕ)) → list_all is_run rs ≡ true → Rising (idents_of rs) → AreBehind b (idents_of rs) → are_loose b rs ≡ true → are_apart b rs ≡ true
apart_behind b [] s r a h = refl
apart_behind b ((x, zero) ∷ rs) s r a h = let l = run_some (x, zero) (and_left (is_run (x, zero)) (list_all is_run rs) s) in absurd (omega arith)
apart_behind b ((x, suc m) ∷ rs) s r a h =
    let rest = are_apart (Some (x, suc m)) rs in
    and_true (nat_lt 0 (suc m) && is_apart b (x, suc m)) rest
    (and_true (nat_lt 0 (suc m)) (is_apart b (x, suc m)) (lt_test 0 (suc m) (omega arith)) (go b a (and_left (not (goes_on b x)) (are_loose (Some (x, suc m)) rs) h)))
    (apart_behind (Some (x, suc m)) rs (and_right (is_run (x, suc m)) (list_all is_run rs) s) (rising_right (run_idents x (suc m)) (idents_of rs) r)
    (subst (λ y. AllMore y (idents_of rs)) (sym (last_at x m)) (last_rising m x (idents_of rs) r)) (and_right (not (goes_on b x)) (are_loose (Some (x, suc m)) rs) h))
  where
    go : (b : Option (List Tuple × ℕ)) → AreBehind b (idents_of ((x, suc m) ∷ rs)) → not (goes_on b x) ≡ true → is_apart b (x, suc m) ≡ true
    go None a n = refl
    go (Some c) a n = and_true (ident_lt (run_last c) x) (not (follows x (run_last c))) (of_lt (run_last c) x a.0) n

-- runs whose identifiers rise are apart where they are loose
pub apart_of : (rs : List (List Tuple × ℕ)) → list_all is_run rs ≡ true → Rising (idents_of rs) → are_loose None rs ≡ true → are_apart None rs ≡ true
apart_of rs s r h = apart_behind None rs s r tt h

-- ---- blocks

-- the last run of some blocks, if there is one
abbrev pub last_run : List Piece → Option (List Tuple × ℕ)
last_run bs = run_before None (runs_in bs)

pub runs_append : (xs ys : List Piece) → runs_in (xs ++ ys) ≡ runs_in xs ++ runs_in ys
runs_append xs ys = map-append (λ b. b.0) xs ys

pub last_append : (xs : List Piece) (b : Piece) → last_run (xs ++ b ∷ []) ≡ Some b.0
last_append xs b = ap (run_before None) (runs_append xs (b ∷ [])) ∙ before_append None (runs_in xs) (b.0 ∷ [])

-- other blocks in the place of some
pub replaced : (f old new g : List Piece) → are_loose None (runs_in (f ++ old ++ g)) ≡ true → are_loose (last_run f) (runs_in new) ≡ true → leads_to (last_run (f ++ new)) (runs_in g) ≡ false → are_loose None (runs_in (f ++ new ++ g)) ≡ true
replaced f old new g h a b =
    let e = runs_append (f ++ old) g in
    let d = runs_append f old in
    let all : are_loose None (runs_in (f ++ old) ++ runs_in g) ≡ true = ap (are_loose None) (sym e) ∙ h in
    let front : are_loose None (runs_in f) ≡ true = loose_left None (runs_in f) (runs_in old) (ap (are_loose None) (sym d) ∙ loose_left None (runs_in (f ++ old)) (runs_in g) all) in
    let rest = loose_again (last_run (f ++ old)) (last_run (f ++ new)) (runs_in g) (loose_right None (runs_in (f ++ old)) (runs_in g) all) b in
    let both : are_loose None (runs_in (f ++ new)) ≡ true = ap (are_loose None) (runs_append f new) ∙ loose_both None (runs_in f) (runs_in new) front a in
    ap (are_loose None) (runs_append (f ++ new) g) ∙ loose_both None (runs_in (f ++ new)) (runs_in g) both rest

-- what was so of some blocks
pub were_loose : (f old g : List Piece) → are_loose None (runs_in (f ++ old ++ g)) ≡ true → are_loose (last_run f) (runs_in old) ≡ true
were_loose f old g h =
    loose_right None (runs_in f) (runs_in old) (ap (are_loose None) (sym (runs_append f old))
    ∙ loose_left None (runs_in (f ++ old)) (runs_in g) (ap (are_loose None) (sym (runs_append (f ++ old) g)) ∙ h))

pub followed_loosely : (f old g : List Piece) → are_loose None (runs_in (f ++ old ++ g)) ≡ true → are_loose (last_run (f ++ old)) (runs_in g) ≡ true
followed_loosely f old g h = loose_right None (runs_in (f ++ old)) (runs_in g) (ap (are_loose None) (sym (runs_append (f ++ old) g)) ∙ h)

pub leads_not : (a : Option (List Tuple × ℕ)) (rs : List (List Tuple × ℕ)) → are_loose a rs ≡ true → leads_to a rs ≡ false
leads_not a [] h = refl
leads_not a (r ∷ rs) h = not_is (goes_on a r.0) (and_left (not (goes_on a r.0)) (are_loose (Some r) rs) h)

-- ---- the ends of a node

pub run_irrelevant : (a b : Option (List Tuple × ℕ)) (rs : List Piece) → 0 < length rs → run_before a (runs_in rs) ≡ run_before b (runs_in rs)
run_irrelevant a b [] h = absurd (omega arith)
run_irrelevant a b (r ∷ rs) h = refl

pub ends_right : (l r : List Piece) (b : Piece) (bs : List Piece) → bs ≡ l ++ b ∷ r → 0 < length r → last_run bs ≡ last_run r
ends_right l r b bs e h =
    ap last_run e ∙ ap (run_before None) (runs_append l (b ∷ r)) ∙ before_append None (runs_in l) (runs_in (b ∷ r)) ∙ run_irrelevant (Some b.0) None r h

pub ends_own : (l r : List Piece) (b : Piece) (bs : List Piece) → bs ≡ l ++ b ∷ r → r ≡ [] → last_run bs ≡ Some b.0
ends_own l r b bs e h = ap last_run e ∙ ap (λ rs. last_run (l ++ b ∷ rs)) h ∙ last_append l b

pub node_some : (l r : List Piece) (b : Piece) (bs : List Piece) → bs ≡ l ++ b ∷ r → 0 < length bs
node_some l r b bs e = let m = ap length e in let k = length-append l (b ∷ r) in omega (arith, m, k)
