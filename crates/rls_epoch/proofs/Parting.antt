-- Lists that have gone some of the steps of a way.
use Rattle.std.proofs.Common.{◌≡◌, ℕ, zero, suc, Some, ◌+◌, ◌-◌, ◌*◌, ◌<◌, ◌≤◌, true, List, [], ◌∷◌, ◌++◌, map, length, take, drop, refl, sym, ap, ◌∙◌, subst, arith, append_assoc, length-append}
use Rattle.std.specs.List.{list_all}
use Rattle.std.specs.Prelude.{slice_get}
use Rattle.std.proofs.Math.ListN.{drop_of_length-le}
use Rattle.std.proofs.lemmas.List.{append-nil, length-map, map-append, take-append-drop}
use Rattle.std.proofs.lemmas.Nat.{mul-le}
use Rattle.rls_ident.specs.declared.tuple.Tuple.{Tuple}
use Rattle.rls_ident.specs.Identifiers.{is_ident, IsIdent, ident_lt}
use Rattle.rls_ident.proofs.Members.{and_left, and_right, and_true}
use Rattle.rls_ident.proofs.Positions.{get_of}
use Rattle.rls_rename.specs.Tree.{AreNodes}
use Rattle.rls_rename.proofs.Former.{former_in}
use Rattle.rls_rename.proofs.Paths.{renaming_iso}
use Rattle.rls_runs.specs.Runs.{idents_of, is_increasing, runs_of, AreIdents}
use Rattle.rls_runs.proofs.RunOrder.{idents_append}
use Rattle.rls_runs.proofs.RunPlaces.{within_total}
use Rattle.rls_runs.proofs.RunsOf.{idents_of_runs}
use Rattle.rls_epoch.specs.declared.parts.Part.{Part}
use Rattle.rls_epoch.specs.declared.placed.Placed.{Placed}
use Rattle.rls_epoch.specs.declared.ways.Step.{Step}
use Rattle.rls_epoch.specs.declared.ways.Step.TheVariants.{Back, Forward}
use Rattle.rls_epoch.specs.Parts.{ends, work, AreUnderWay}
use Rattle.rls_epoch.specs.Seen.{node_of, nodes_of}
use Rattle.rls_epoch.specs.Ways.{AreWithin, place_of_step, step_map, led}
use Rattle.rls_epoch.proofs.Moving.{KeepsOrder, increasing_front, increasing_map, map_none, step_order}
use Rattle.rls_epoch.proofs.Steps.{back_step, forward_step, node_in}
use Rattle.rls_epoch.proofs.Turning.{drop_twice}

-- ---- one more list

pub ends_push : (ps : List Placed) (steps : List Step) (parts : List Part) (x : Part) → ends ps steps (parts ++ x ∷ []) ≡ map (led ps (drop x.done steps)) x.ids ++ ends ps steps parts
ends_push ps steps [] x = sym (append-nil (map (led ps (drop x.done steps)) x.ids))
ends_push ps steps (p ∷ parts) x =
    let here = map (led ps (drop p.done steps)) p.ids in
    ap (λ ys. ys ++ here) (ends_push ps steps parts x) ∙ append_assoc (map (led ps (drop x.done steps)) x.ids) (ends ps steps parts) here

pub way_push : (n : ℕ) (parts : List Part) (x : Part) → AreUnderWay n parts → 0 < length x.ids → x.done ≤ n → AreUnderWay n (parts ++ x ∷ [])
way_push n [] x w l d = (l, d, tt)
way_push n (p ∷ parts) x w l d = (w.0, w.1, way_push n parts x w.2 l d)

pub way_pop : (n : ℕ) (parts : List Part) (x : Part) → AreUnderWay n (parts ++ x ∷ []) → AreUnderWay n parts × (0 < length x.ids) × (x.done ≤ n)
way_pop n [] x w = (tt, w.0, w.1)
way_pop n (p ∷ parts) x w = let r = way_pop n parts x w.2 in ((w.0, w.1, r.0), r.1, r.2)

pub work_push : (n : ℕ) (parts : List Part) (x : Part) → work n (parts ++ x ∷ []) ≡ work n parts + length x.ids * suc (n - x.done)
work_push n [] x = refl
work_push n (p ∷ parts) x = omega (arith, work_push n parts x)

-- ---- runs of which the last ones go on

split_idents : (rest : List (List Tuple × ℕ)) (s : ℕ) → idents_of rest ≡ idents_of (take s rest) ++ idents_of (drop s rest)
split_idents rest s = ap idents_of (sym (take-append-drop s rest)) ∙ idents_append (take s rest) (drop s rest)

pub push_ends : (ps : List Placed) (steps : List Step) (done count s : ℕ) (rest : List (List Tuple × ℕ)) (ids : List (List Tuple)) (parts : List Part) (t : List (List Tuple)) →
    map (led ps (drop count (drop done steps))) ids ≡ map (led ps (drop done steps)) (idents_of (drop s rest)) → map (led ps (drop done steps)) (idents_of rest) ++ ends ps steps parts ≡ t →
    map (led ps (drop done steps)) (idents_of (take s rest)) ++ ends ps steps (parts ++ record { ids = ids; done = done + count } ∷ []) ≡ t
push_ends ps steps done count s rest ids parts t e h =
    let f = led ps (drop done steps) in
    let front = map f (idents_of (take s rest)) in
    let back = map f (idents_of (drop s rest)) in
    let one : map (led ps (drop (done + count) steps)) ids ≡ back = ap (λ (ss : List Step). map (led ps ss) ids) (sym (drop_twice count done steps)) ∙ e in
    ap (λ ys. front ++ ys) (ends_push ps steps parts (record { ids = ids; done = done + count }) ∙ ap (λ ys. ys ++ ends ps steps parts) one)
    ∙ (sym (append_assoc front back (ends ps steps parts))
    ∙ (ap (λ ys. ys ++ ends ps steps parts) (sym (ap (map f) (split_idents rest s) ∙ map-append f (idents_of (take s rest)) (idents_of (drop s rest)))) ∙ h))

product_sum : (a b d : ℕ) → (a + b) * d ≡ a * d + b * d
product_sum a b d = omega arith

product_more : (b d : ℕ) → b * (d + 1) ≡ b * d + b
product_more b d = omega arith

pub push_work : (n done count s bound all : ℕ) (rest : List (List Tuple × ℕ)) (ids : List (List Tuple)) (parts : List Part) → length ids ≡ length (idents_of (drop s rest)) → 0 < count → done + count ≤ n →
    work n parts + length (idents_of rest) * suc (n - done) + all ≤ bound + length (idents_of rest) →
    work n (parts ++ record { ids = ids; done = done + count } ∷ []) + length (idents_of (take s rest)) * suc (n - done) + all ≤ bound + length (idents_of (take s rest))
push_work n done count s bound all rest ids parts e c l h =
    let a = length (idents_of (take s rest)) in
    let b = length (idents_of (drop s rest)) in
    let d = suc (n - done) in
    let r : length (idents_of rest) ≡ a + b = ap length (split_idents rest s) ∙ length-append (idents_of (take s rest)) (idents_of (drop s rest)) in
    let p = work_push n parts (record { ids = ids; done = done + count }) in
    let q : length (idents_of rest) * d ≡ a * d + b * d = ap (λ m. m * d) r ∙ product_sum a b d in
    let u : length ids * suc (n - (done + count)) ≡ b * suc (n - (done + count)) = ap (λ m. m * suc (n - (done + count))) e in
    let v : b * (suc (n - (done + count)) + 1) ≤ b * d = mul-le b (suc (n - (done + count)) + 1) b d (omega arith) (omega arith) in
    let w : b * (suc (n - (done + count)) + 1) ≡ b * suc (n - (done + count)) + b = product_more b (suc (n - (done + count))) in
    omega (arith, h, r, p, q, u, v, w)

pub same_length : (f g : List Tuple → List Tuple) (xs ys : List (List Tuple)) → map f xs ≡ map g ys → length xs ≡ length ys
same_length f g xs ys e = sym (length-map xs f) ∙ (ap length e ∙ length-map ys g)

-- some of an increasing list
idents_left : (xs ys : List (List Tuple)) → AreIdents (xs ++ ys) → AreIdents xs
idents_left [] ys a = (refl, refl)
idents_left (x ∷ []) ys a = (and_true (is_ident x) true (and_left (is_ident x) (list_all is_ident ys) a.0) refl, refl)
idents_left (x ∷ (y ∷ xs)) ys a =
    let later = idents_left (y ∷ xs) ys (and_right (is_ident x) (list_all is_ident (y ∷ (xs ++ ys))) a.0, and_right (ident_lt x y) (is_increasing (y ∷ (xs ++ ys))) a.1) in (
      and_true (is_ident x) (list_all is_ident (y ∷ xs)) (and_left (is_ident x) (list_all is_ident (y ∷ (xs ++ ys))) a.0) later.0,
      and_true (ident_lt x y) (is_increasing (y ∷ xs)) (and_left (ident_lt x y) (is_increasing (y ∷ (xs ++ ys))) a.1) later.1,
    )

later_idents : (x : List Tuple) (xs : List (List Tuple)) → AreIdents (x ∷ xs) → AreIdents xs
later_idents x [] a = (refl, refl)
later_idents x (y ∷ xs) a = (and_right (is_ident x) (list_all is_ident (y ∷ xs)) a.0, and_right (ident_lt x y) (is_increasing (y ∷ xs)) a.1)

idents_right : (xs ys : List (List Tuple)) → AreIdents (xs ++ ys) → AreIdents ys
idents_right [] ys a = a
idents_right (x ∷ xs) ys a = idents_right xs ys (later_idents x (xs ++ ys) a)

pub idents_front : (rest : List (List Tuple × ℕ)) (s : ℕ) → AreIdents (idents_of rest) → AreIdents (idents_of (take s rest))
idents_front rest s a = idents_left (idents_of (take s rest)) (idents_of (drop s rest)) (subst AreIdents (split_idents rest s) a)

pub idents_back : (rest : List (List Tuple × ℕ)) (s : ℕ) → AreIdents (idents_of rest) → AreIdents (idents_of (drop s rest))
idents_back rest s a = idents_right (idents_of (take s rest)) (idents_of (drop s rest)) (subst AreIdents (split_idents rest s) a)

pub fewer_front : (rest : List (List Tuple × ℕ)) (s : ℕ) → length (idents_of (take s rest)) ≤ length (idents_of rest)
fewer_front rest s = omega (arith, ap length (split_idents rest s), length-append (idents_of (take s rest)) (idents_of (drop s rest)))

pub fewer_back : (rest : List (List Tuple × ℕ)) (s : ℕ) → length (idents_of (drop s rest)) ≤ length (idents_of rest)
fewer_back rest s = omega (arith, ap length (split_idents rest s), length-append (idents_of (take s rest)) (idents_of (drop s rest)))

-- a run has identifiers
pub some_back : (rs : List (List Tuple × ℕ)) (s k : ℕ) (r : List Tuple × ℕ) → s ≤ k → slice_get rs k ≡ Some r → 0 < r.1 → 0 < length (idents_of (drop s rs))
some_back [] s k r l g p = absurd (cc)
some_back (q ∷ rs) zero k r l g p = omega (arith, p, within_total (q ∷ rs) k r g)
some_back (q ∷ rs) (suc s) zero r l g p = absurd (omega arith)
some_back (q ∷ rs) (suc s) (suc k) r l g p = some_back rs s k r (omega arith) g p

-- ---- at the end

step_ident : (ps : List Placed) → AreNodes (nodes_of ps) → (s : Step) → place_of_step s < length ps → (x : List Tuple) → IsIdent x → IsIdent (step_map ps s x)
step_ident ps d (Back j) h x i =
    let p = get_of ps j h in
    subst IsIdent (sym (back_step ps j p.0 p.1 x)) ((renaming_iso (p.0).renaming (former_in (nodes_of ps) d (node_of p.0) (node_in ps j p.0 p.1))).onto x i)
step_ident ps d (Forward j) h x i =
    let p = get_of ps j h in
    subst IsIdent (sym (forward_step ps j p.0 p.1 x)) ((renaming_iso (p.0).renaming (former_in (nodes_of ps) d (node_of p.0) (node_in ps j p.0 p.1))).into x i)

led_order : (ps : List Placed) → AreNodes (nodes_of ps) → (ss : List Step) → AreWithin (length ps) ss → KeepsOrder (led ps ss)
led_order ps d [] w x y i j = refl
led_order ps d (s ∷ ss) w x y i j = led_order ps d ss w.1 (step_map ps s x) (step_map ps s y) (step_ident ps d s w.0 x i) (step_ident ps d s w.0 y j) ∙ step_order ps d s w.0 x y i j

pub push_popped : (ps : List Placed) (steps : List Step) (parts front : List Part) (x : Part) (new t at : List (List Tuple)) → parts ≡ front ++ x ∷ [] → new ≡ map (led ps (drop x.done steps)) (idents_of (runs_of x.ids)) ++ ends ps steps front → at ++ ends ps steps parts ≡ t → at ++ new ≡ t
push_popped ps steps parts front x new t at p e h =
    ap (λ ys. at ++ ys)
    (e ∙ (ap (λ ys. map (led ps (drop x.done steps)) ys ++ ends ps steps front) (idents_of_runs x.ids)
    ∙ (sym (ends_push ps steps front x) ∙ ap (ends ps steps) (sym p))))
    ∙ h

pub end_popped : (ps : List Placed) (steps : List Step) (parts front : List Part) (x : Part) (t at : List (List Tuple)) → parts ≡ front ++ x ∷ [] → length steps ≤ x.done → at ++ ends ps steps parts ≡ t → (at ++ x.ids) ++ ends ps steps front ≡ t
end_popped ps steps parts front x t at p l h =
    let none : map (led ps (drop x.done steps)) x.ids ≡ x.ids = ap (λ (ss : List Step). map (led ps ss) x.ids) (drop_of_length-le steps l) ∙ map_none ps x.ids in
    append_assoc at x.ids (ends ps steps front)
    ∙ (ap (λ ys. at ++ ys) (sym (ap (ends ps steps) p ∙ (ends_push ps steps front x ∙ ap (λ ys. ys ++ ends ps steps front) none))) ∙ h)

pub end_increasing : (ps : List Placed) (steps : List Step) (ids xs ys : List (List Tuple)) → AreNodes (nodes_of ps) → AreWithin (length ps) steps → AreIdents ids → xs ++ ys ≡ map (led ps steps) ids → is_increasing xs ≡ true
end_increasing ps steps ids xs ys d w a e = increasing_front xs ys (ap is_increasing e ∙ increasing_map (led ps steps) (led_order ps d steps w) ids a)

pub end_fits : (ps : List Placed) (steps : List Step) (ids at more ys : List (List Tuple)) (n : ℕ) → length ids < n → (at ++ more) ++ ys ≡ map (led ps steps) ids → length at + length more < n
end_fits ps steps ids at more ys n l e = omega (arith, l, ap length e, length-map ids (led ps steps), length-append (at ++ more) ys, length-append at more)
