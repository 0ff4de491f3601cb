-- Lists of identifiers that are led over steps.
use Rattle.std.proofs.Common.{◌≡◌, ℕ, zero, suc, ◌+◌, ◌<◌, ◌≤◌, true, List, [], ◌∷◌, ◌++◌, map, length, take, drop, Some, refl, sym, ap, ◌∙◌, subst, arith, append_assoc, length-append}
use Rattle.std.specs.Prelude.{◌&&◌, nat_lt, slice_get, Result, Ok, Err, IfOk}
use Rattle.std.specs.List.{list_all}
use Rattle.std.specs.Ordering.{is_lt}
use Rattle.std.proofs.lemmas.List.{append-nil, length-map, map-append, take-append-drop, take_more}
use Rattle.std.proofs.lemmas.Option.{slice_get_within, get_or_from_slice_get}
use Rattle.rls_ident.specs.declared.tuple.Tuple.{Tuple}
use Rattle.rls_ident.specs.declared.epoch_name.EpochName.{EpochName}
use Rattle.rls_ident.specs.Identifiers.{is_ident, IsIdent, ident_cmp, ident_lt}
use Rattle.rls_ident.proofs.Iso.{inverse, kept}
use Rattle.rls_ident.proofs.Members.{and_left, and_right, and_true, lt_test}
use Rattle.rls_ident.proofs.Positions.{get_of}
use Rattle.rls_rename.specs.Renaming.{IsFormer, Renaming, back, forward}
use Rattle.rls_rename.specs.Tree.{AreNodes, translate}
use Rattle.rls_rename.proofs.Paths.{renaming_iso}
use Rattle.rls_rename.proofs.Former.{former_in}
use Rattle.rls_runs.specs.Runs.{run_idents, runs_of, idents_of, is_increasing, is_run, AreIdents, IsImage}
use Rattle.rls_runs.specs.Places.{last_ident, is_above}
use Rattle.rls_runs.proofs.RunOrder.{run_some, idents_append, all_idents}
use Rattle.rls_runs.proofs.RunPlaces.{split_at, within_total}
use Rattle.rls_runs.proofs.RunsOf.{idents_of_runs}
use Rattle.rls_runs.proofs.RunsApart.{apart_runs}
use Rattle.rls_epoch.specs.declared.placed.Placed.{Placed}
use Rattle.rls_epoch.specs.declared.ways.Step.{Step}
use Rattle.rls_epoch.specs.declared.ways.Step.TheVariants.{Back, Forward}
use Rattle.rls_epoch.specs.Seen.{node_of, nodes_of}
use Rattle.rls_epoch.specs.Ways.{IsWay, place_of_step, step_map, led}
use Rattle.rls_epoch.proofs.Steps.{node_in, back_step, forward_step}

-- ---- the order of lists

pub increasing_front : (xs ys : List (List Tuple)) → is_increasing (xs ++ ys) ≡ true → is_increasing xs ≡ true
increasing_front [] ys h = refl
increasing_front (x ∷ []) ys h = refl
increasing_front (x ∷ (y ∷ xs)) ys h =
    and_true (ident_lt x y) (is_increasing (y ∷ xs)) (and_left (ident_lt x y) (is_increasing (y ∷ (xs ++ ys))) h) (increasing_front (y ∷ xs) ys (and_right (ident_lt x y) (is_increasing (y ∷ (xs ++ ys))) h))

-- the next one is above the last one
pub next_above : (xs : List (List Tuple)) (y : List Tuple) (ys : List (List Tuple)) → is_increasing (xs ++ y ∷ ys) ≡ true → is_above (last_ident xs) y ≡ true
next_above [] y ys h = refl
next_above (x ∷ []) y ys h = and_left (ident_lt x y) (is_increasing (y ∷ ys)) h
next_above (x ∷ (z ∷ xs)) y ys h = next_above (z ∷ xs) y ys (and_right (ident_lt x z) (is_increasing (z ∷ (xs ++ y ∷ ys))) h)

-- a run begins with its first identifier
pub run_begins : (x : List Tuple) (n : ℕ) → 0 < n → (rest : List (List Tuple)) × (run_idents x n ≡ x ∷ rest)
run_begins x zero h = absurd (omega arith)
run_begins x (suc n) h = (_, refl)

-- the first identifier of the next of these runs is above those before it
pub run_above : (xs : List (List Tuple)) (rs : List (List Tuple × ℕ)) (k : ℕ) (r : List Tuple × ℕ) → is_increasing (xs ++ idents_of rs) ≡ true → slice_get rs k ≡ Some r → is_run r ≡ true → is_above (last_ident (xs ++ idents_of (take k rs))) r.0 ≡ true
run_above xs rs k r h g u =
    let b = run_begins r.0 r.1 (run_some r u) in
    let later = b.0 ++ idents_of (drop (k + 1) rs) in
    let front = idents_of (take k rs) in
    let e : xs ++ idents_of rs ≡ (xs ++ front) ++ (r.0 ∷ later) =
    ap (λ qs. xs ++ idents_of qs) (sym (split_at rs k r g))
    ∙ (ap (λ ys. xs ++ ys) (idents_append (take k rs) (r ∷ drop (k + 1) rs) ∙ ap (λ ys. front ++ (ys ++ idents_of (drop (k + 1) rs))) b.1)
    ∙ sym (append_assoc xs front (r.0 ∷ later))) in
    next_above (xs ++ front) r.0 later (subst (λ ys. is_increasing ys ≡ true) e h)

-- the runs up to this one
pub idents_taken : (rs : List (List Tuple × ℕ)) (k : ℕ) (r : List Tuple × ℕ) → slice_get rs k ≡ Some r → idents_of (take (k + 1) rs) ≡ idents_of (take k rs) ++ run_idents r.0 r.1
idents_taken rs k r g =
    let e : take (k + 1) rs ≡ take k rs ++ r ∷ [] = take_more rs k r (slice_get_within rs k r g) ∙ ap (λ q. take k rs ++ q ∷ []) (get_or_from_slice_get rs k r r g) in
    ap idents_of e ∙ (idents_append (take k rs) (r ∷ []) ∙ ap (λ ys. idents_of (take k rs) ++ ys) (append-nil (run_idents r.0 r.1)))

-- their number
pub run_fits : (xs : List (List Tuple)) (rs : List (List Tuple × ℕ)) (k : ℕ) (r : List Tuple × ℕ) (n : ℕ) → length xs + length (idents_of rs) < n → slice_get rs k ≡ Some r → length (xs ++ idents_of (take k rs)) + r.1 < n
run_fits xs rs k r n h g = omega (arith, within_total rs k r g, length-append xs (idents_of (take k rs)))

-- ---- maps that keep the order

abbrev pub KeepsOrder : (List Tuple → List Tuple) → Type 0
KeepsOrder f = (x y : List Tuple) → IsIdent x → IsIdent y → ident_cmp (f x) (f y) ≡ ident_cmp x y

pub increasing_map : (f : List Tuple → List Tuple) → KeepsOrder f → (xs : List (List Tuple)) → AreIdents xs → is_increasing (map f xs) ≡ true
increasing_map f k [] a = refl
increasing_map f k (x ∷ []) a = refl
increasing_map f k (x ∷ (y ∷ xs)) a =
    let j = and_right (is_ident x) (list_all is_ident (y ∷ xs)) a.0 in
    let l = ap is_lt (k x y (and_left (is_ident x) (list_all is_ident (y ∷ xs)) a.0) (and_left (is_ident y) (list_all is_ident xs) j)) ∙ and_left (ident_lt x y) (is_increasing (y ∷ xs)) a.1 in
    and_true (ident_lt (f x) (f y)) (is_increasing (map f (y ∷ xs))) l (increasing_map f k (y ∷ xs) (j, and_right (ident_lt x y) (is_increasing (y ∷ xs)) a.1))

pub step_order : (ps : List Placed) → AreNodes (nodes_of ps) → (s : Step) → place_of_step s < length ps → KeepsOrder (step_map ps s)
step_order ps d (Back j) h x y i l =
    let p = get_of ps j h in
    let f = former_in (nodes_of ps) d (node_of p.0) (node_in ps j p.0 p.1) in
    ap (λ z. ident_cmp z (step_map ps (Back j) y)) (back_step ps j p.0 p.1 x)
    ∙ (ap (ident_cmp _) (back_step ps j p.0 p.1 y) ∙ kept (inverse (renaming_iso (p.0).renaming f)) x y i l)
step_order ps d (Forward j) h x y i l =
    let p = get_of ps j h in
    let f = former_in (nodes_of ps) d (node_of p.0) (node_in ps j p.0 p.1) in
    ap (λ z. ident_cmp z (step_map ps (Forward j) y)) (forward_step ps j p.0 p.1 x)
    ∙ (ap (ident_cmp _) (forward_step ps j p.0 p.1 y) ∙ kept (renaming_iso (p.0).renaming f) x y i l)

pub renaming_order : (R : Renaming) → IsFormer R.former → KeepsOrder (forward R)
renaming_order R f x y i l = kept (renaming_iso R f) x y i l

-- ---- lists over several steps

pub map_then : {A B C : Type 0} (f : A → B) (g : B → C) (xs : List A) → map g (map f xs) ≡ map (λ x. g (f x)) xs
map_then f g [] = refl
map_then f g (x ∷ xs) = ap (λ ys. g (f x) ∷ ys) (map_then f g xs)

pub map_none : (ps : List Placed) (xs : List (List Tuple)) → map (led ps []) xs ≡ xs
map_none ps [] = refl
map_none ps (x ∷ xs) = ap (λ ys. x ∷ ys) (map_none ps xs)

pub map_step : (ps : List Placed) (s : Step) (ss : List Step) (xs : List (List Tuple)) → map (led ps ss) (map (step_map ps s) xs) ≡ map (led ps (s ∷ ss)) xs
map_step ps s ss [] = refl
map_step ps s ss (x ∷ xs) = ap (λ ys. led ps ss (step_map ps s x) ∷ ys) (map_step ps s ss xs)

-- one more run is moved
pub image_more : (f : List Tuple → List Tuple) (rs : List (List Tuple × ℕ)) (k : ℕ) (r : List Tuple × ℕ) → slice_get rs k ≡ Some r → (xs ys : List (List Tuple)) → xs ≡ map f (idents_of (take k rs)) → ys ≡ map f (run_idents r.0 r.1) → xs ++ ys ≡ map f (idents_of (take (k + 1) rs))
image_more f rs k r g xs ys e h =
    ap (λ zs. zs ++ ys) e ∙ (ap (λ zs. map f (idents_of (take k rs)) ++ zs) h
    ∙ (sym (map-append f (idents_of (take k rs)) (run_idents r.0 r.1)) ∙ ap (map f) (sym (idents_taken rs k r g))))

-- the first runs of a strictly increasing list
pub increasing_taken : (f : List Tuple → List Tuple) → KeepsOrder f → (rs : List (List Tuple × ℕ)) (n : ℕ) → AreIdents (idents_of rs) → is_increasing (map f (idents_of (take n rs))) ≡ true
increasing_taken f k rs n a =
    let A = idents_of (take n rs) in
    let B = idents_of (drop n rs) in
    let e : idents_of rs ≡ A ++ B = ap idents_of (sym (take-append-drop n rs)) ∙ idents_append (take n rs) (drop n rs) in
    increasing_front (map f A) (map f B) (ap is_increasing (sym (ap (map f) e ∙ map-append f A B)) ∙ increasing_map f k (idents_of rs) a)

pub fewer_taken : (f : List Tuple → List Tuple) (rs : List (List Tuple × ℕ)) (n : ℕ) → length (map f (idents_of (take n rs))) ≤ length (idents_of rs)
fewer_taken f rs n =
    let A = idents_of (take n rs) in
    let B = idents_of (drop n rs) in
    let e = ap length (ap idents_of (sym (take-append-drop n rs)) ∙ idents_append (take n rs) (drop n rs)) in
    omega (arith, e, length-append A B, length-map A f)

-- the image of one run more comes above those of the runs before, and all fit
pub more_fits : (f : List Tuple → List Tuple) → KeepsOrder f → (rs : List (List Tuple × ℕ)) (k : ℕ) (r : List Tuple × ℕ) → slice_get rs k ≡ Some r → (xs ys : List (List Tuple)) → xs ≡ map f (idents_of (take k rs)) → ys ≡ map f (run_idents r.0 r.1) → AreIdents (idents_of rs) → (is_increasing (xs ++ ys) ≡ true) × (length xs + length ys ≤ length (idents_of rs))
more_fits f o rs k r g xs ys e h a =
    let m = image_more f rs k r g xs ys e h in
    let n = ap length m in
    let t = fewer_taken f rs (k + 1) in
    (ap is_increasing m ∙ increasing_taken f o rs (k + 1) a, omega (arith, n, t, length-append xs ys))

-- maps that agree at identifiers
pub map_agrees : (f g : List Tuple → List Tuple) → ((x : List Tuple) → IsIdent x → f x ≡ g x) → (xs : List (List Tuple)) → list_all is_ident xs ≡ true → map f xs ≡ map g xs
map_agrees f g h [] a = refl
map_agrees f g h (x ∷ xs) a =
    ap (λ y. y ∷ map f xs) (h x (and_left (is_ident x) (list_all is_ident xs) a)) ∙ ap (λ ys. g x ∷ ys) (map_agrees f g h xs (and_right (is_ident x) (list_all is_ident xs) a))

-- a run is its own image where no step is made
pub image_none : (ps : List Placed) (r : List Tuple × ℕ) → is_run r ≡ true → IsImage (led ps []) r (r ∷ [])
image_none ps r u = record {
  idents = append-nil (run_idents r.0 r.1) ∙ sym (map_none ps (run_idents r.0 r.1));
  apart = and_true (nat_lt 0 r.1 && true) true (and_true (nat_lt 0 r.1) true (lt_test 0 r.1 (run_some r u)) refl) refl;
}

pub run_idents_are : (r : List Tuple × ℕ) → is_run r ≡ true → list_all is_ident (run_idents r.0 r.1) ≡ true
run_idents_are r u = ap (list_all is_ident) (sym (append-nil (run_idents r.0 r.1))) ∙ all_idents (r ∷ []) (and_true (is_run r) true u refl)

-- by a map that agrees
pub image_agrees : (f g : List Tuple → List Tuple) → ((x : List Tuple) → IsIdent x → f x ≡ g x) → (r : List Tuple × ℕ) (runs : List (List Tuple × ℕ)) → is_run r ≡ true → IsImage f r runs → IsImage g r runs
image_agrees f g h r runs u i = record { idents = i.idents ∙ map_agrees f g h (run_idents r.0 r.1) (run_idents_are r u); apart = i.apart }

-- the maximal runs of the image
pub image_maximal : (f : List Tuple → List Tuple) (r : List Tuple × ℕ) (xs : List (List Tuple)) → xs ≡ map f (run_idents r.0 r.1) → is_increasing xs ≡ true → IsImage f r (runs_of xs)
image_maximal f r xs e h = record { idents = idents_of_runs xs ∙ e; apart = apart_runs xs h }

-- what holds of an answer, holds of it otherwise said
pub if_ok : {A E : Type 0} (P Q : A → Type 0) → ((x : A) → P x → Q x) → (o : Result A E) → IfOk o P → IfOk o Q
if_ok P Q f (Ok x) h = f x h
if_ok P Q f (Err e) h = tt

-- ---- over a way

-- an image at the end of a way, and then by a map, is that of the translation
pub image_on : {ps : List Placed} {steps : List Step} {e f : EpochName} {ss : List Step} {E : Type 0} (g : List Tuple → List Tuple) (r : List Tuple × ℕ) (o : Result (List (List Tuple × ℕ)) E) → IsWay ps steps e f → ss ≡ steps → is_run r ≡ true → IfOk o (λ runs. IsImage (λ x. g (led ps ss x)) r runs) →
    IfOk o (λ runs. IsImage (λ x. g (translate (nodes_of ps) e f x)) r runs)
image_on {ps = ps} {e = e} {f = f} {ss = ss} g r o way same u h =
    if_ok (λ runs. IsImage (λ x. g (led ps ss x)) r runs) (λ runs. IsImage (λ x. g (translate (nodes_of ps) e f x)) r runs)
    (λ runs i. image_agrees (λ x. g (led ps ss x)) (λ x. g (translate (nodes_of ps) e f x)) (λ x j. ap (λ (zs : List Step). g (led ps zs x)) same ∙ ap g (way.leads x j)) r runs u i) o h

pub map_on : {ps : List Placed} {steps : List Step} {e f : EpochName} {ss : List Step} {E : Type 0} (ids : List (List Tuple)) (o : Result (List (List Tuple)) E) → IsWay ps steps e f → ss ≡ steps → list_all is_ident ids ≡ true → IfOk o (λ xs. xs ≡ map (led ps ss) ids) → IfOk o (λ xs. xs ≡ map (translate (nodes_of ps) e f) ids)
map_on {ps = ps} {e = e} {f = f} {ss = ss} ids o way same a h =
    if_ok (λ xs. xs ≡ map (led ps ss) ids) (λ xs. xs ≡ map (translate (nodes_of ps) e f) ids) (λ xs q. q ∙ map_agrees (led ps ss) (translate (nodes_of ps) e f) (λ x j. ap (λ (zs : List Step). led ps zs x) same ∙ way.leads x j) ids a) o h

-- ---- a node that was read

-- a step over runs is the renaming that it goes by
image_step : (ps : List Placed) (s : Step) (f : List Tuple → List Tuple) → ((x : List Tuple) → step_map ps s x ≡ f x) → (r : List Tuple × ℕ) (runs : List (List Tuple × ℕ)) → IsImage f r runs → IsImage (step_map ps s) r runs
image_step ps s f e r runs i = record { idents = i.idents ∙ map_same (run_idents r.0 r.1); apart = i.apart }
  where
    map_same : (xs : List (List Tuple)) → map f xs ≡ map (step_map ps s) xs
    map_same [] = refl
    map_same (x ∷ xs) = ap (λ y. y ∷ map f xs) (sym (e x)) ∙ ap (λ ys. step_map ps s x ∷ ys) (map_same xs)

pub back_image : (ps : List Placed) (k : ℕ) (p : Placed) (r : List Tuple × ℕ) (runs : List (List Tuple × ℕ)) → slice_get ps k ≡ Some p → IsImage (back p.renaming) r runs → IsImage (step_map ps (Back k)) r runs
back_image ps k p r runs h i = image_step ps (Back k) (back p.renaming) (back_step ps k p h) r runs i

pub forward_image : (ps : List Placed) (k : ℕ) (p : Placed) (r : List Tuple × ℕ) (runs : List (List Tuple × ℕ)) → slice_get ps k ≡ Some p → IsImage (forward p.renaming) r runs → IsImage (step_map ps (Forward k)) r runs
forward_image ps k p r runs h i = image_step ps (Forward k) (forward p.renaming) (forward_step ps k p h) r runs i
