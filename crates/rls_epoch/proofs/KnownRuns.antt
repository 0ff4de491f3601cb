-- Known images, and those of parts of their runs.
use Rattle.std.proofs.Common.{◌≡◌, ℕ, ◌+◌, ◌-◌, ◌<◌, ◌≤◌, List, [], ◌∷◌, ◌++◌, map, length, take, drop, true, pos, Ok, refl, sym, ap, ◌∙◌, subst, append_assoc, length-append, arith}
use Rattle.std.specs.List.{drop-map, list_all, take-map}
use Rattle.std.proofs.lemmas.List.{drop-append-le, length-map, map-append, take-append-le, take_all}
use Rattle.std.proofs.lemmas.List.Elements.{All-nil, All-same}
use Rattle.std.proofs.Math.ListN.{drop_of_length-le}
use Rattle.rls_ident.specs.declared.tuple.Tuple.{Tuple}
use Rattle.rls_ident.specs.declared.epoch_name.EpochName.{EpochName}
use Rattle.rls_ident.specs.Identifiers.{shifted, is_ident, IsIdent}
use Rattle.rls_ident.proofs.Members.{and_left, and_right, some_is}
use Rattle.rls_rename.specs.Tree.{Node, AreNodes, translate}
use Rattle.rls_rename.proofs.Growth.{translate_back, translate_same}
use Rattle.rls_rename.proofs.Paths.{translate_translate}
use Rattle.rls_rename.proofs.GapPlaces.{gap_there, gap_within}
use Rattle.rls_runs.specs.Places.{last_ident, is_above}
use Rattle.rls_runs.specs.Runs.{run_idents, is_increasing, is_run, place_of}
use Rattle.rls_runs.proofs.Finding.{run_length}
use Rattle.rls_runs.proofs.RunJoins.{run_longer}
use Rattle.rls_runs.proofs.RunOrder.{run_gets}
use Rattle.rls_epoch.specs.declared.known.KnownImages.{KnownImages}
use Rattle.rls_epoch.specs.KnownRuns.{IsKnown, AreKnown}
use Rattle.rls_epoch.proofs.Moving.{map_agrees, map_then, next_above, run_begins, run_idents_are}

-- ---- parts of runs

front_dropped : (xs ys : List (List Tuple)) (k : ℕ) → length xs ≡ k → drop k (xs ++ ys) ≡ ys
front_dropped xs ys k e = drop-append-le k xs ys (omega arith) ∙ ap (λ zs. zs ++ ys) (drop_of_length-le xs (let h : length xs ≤ k = omega arith in h))

front_taken : (xs ys : List (List Tuple)) (k : ℕ) → length xs ≡ k → take k (xs ++ ys) ≡ xs
front_taken xs ys k e = take-append-le k xs ys (omega arith) ∙ take_all k xs (omega arith)

part_of_run : (x : List Tuple) (n k m : ℕ) → k + m ≤ n → take m (drop k (run_idents x n)) ≡ run_idents (shifted (pos k) x) m
part_of_run x n k m h =
    let z = shifted (pos k) x in
    let A = run_idents x k in
    let B = run_idents z m in
    let C = run_idents (shifted (pos m) z) (n - (k + m)) in
    let p : n ≡ k + (m + (n - (k + m))) = omega arith in
    let e : run_idents x n ≡ A ++ (B ++ C) = ap (run_idents x) p ∙ (run_longer x k (m + (n - (k + m))) ∙ ap (λ ys. A ++ ys) (run_longer z m (n - (k + m)))) in
    ap (λ ys. take m (drop k ys)) e
    ∙ (ap (take m) (front_dropped A (B ++ C) k (run_length x k)) ∙ front_taken B C m (run_length z m))

-- ---- their images

-- a run and its image have one length
pub image_length : (f : List Tuple → List Tuple) (x y : List Tuple) (n m : ℕ) → run_idents y m ≡ map f (run_idents x n) → m ≡ n
image_length f x y n m e = sym (run_length y m) ∙ (ap length e ∙ (length-map (run_idents x n) f ∙ run_length x n))

-- the image of a part
pub image_part : (f : List Tuple → List Tuple) (x y : List Tuple) (n m k l : ℕ) → run_idents y m ≡ map f (run_idents x n) → k + l ≤ n → run_idents (shifted (pos k) y) l ≡ map f (run_idents (shifted (pos k) x) l)
image_part f x y n m k l e h =
    let q = image_length f x y n m e in
    sym (part_of_run y m k l (omega arith))
    ∙ (ap (λ ys. take l (drop k ys)) e
    ∙ (ap (take l) (drop-map f k (run_idents x n))
    ∙ (take-map f l (drop k (run_idents x n)) ∙ ap (map f) (part_of_run x n k l h))))

-- ---- the place of an identifier in a run

pub place_within : (x y : List Tuple) (n k : ℕ) → place_of y (run_idents x n) ≡ Ok k → k < n
place_within x y n k e = let l = gap_within (run_idents x n) y k e in let m = run_length x n in omega arith

pub place_is : (x y : List Tuple) (n k : ℕ) → place_of y (run_idents x n) ≡ Ok k → y ≡ shifted (pos k) x
place_is x y n k e = some_is y (shifted (pos k) x) (sym (gap_there (run_idents x n) y k e) ∙ run_gets x n k (place_within x y n k e))

-- ---- the image of a run, part by part

-- up to the end of the next part
pub image_parts : (f : List Tuple → List Tuple) (xs : List (List Tuple)) (x y : List Tuple) (k m : ℕ) → run_idents y m ≡ map f (run_idents (shifted (pos k) x) m) → (xs ++ map f (run_idents x k)) ++ run_idents y m ≡ xs ++ map f (run_idents x (k + m))
image_parts f xs x y k m e =
    let A = run_idents x k in
    let B = run_idents (shifted (pos k) x) m in
    append_assoc xs (map f A) (run_idents y m)
    ∙ ap (λ ys. xs ++ ys) (ap (λ ys. map f A ++ ys) e ∙ (sym (map-append f A B) ∙ ap (map f) (sym (run_longer x k m))))

-- the next part is above those before it
pub part_above : (f : List Tuple → List Tuple) (xs : List (List Tuple)) (x y : List Tuple) (n k m : ℕ) → k + m ≤ n → 0 < m → run_idents y m ≡ map f (run_idents (shifted (pos k) x) m) → is_increasing (xs ++ map f (run_idents x n)) ≡ true → is_above (last_ident (xs ++ map f (run_idents x k))) y ≡ true
part_above f xs x y n k m h some e up =
    let b = run_begins y m some in
    let front = xs ++ map f (run_idents x k) in
    let r = n - (k + m) in
    let C = run_idents (shifted (pos (k + m)) x) r in
    let p : n ≡ (k + m) + r = omega arith in
    let q : xs ++ map f (run_idents x n) ≡ front ++ (y ∷ (b.0 ++ map f C)) =
    ap (λ j. xs ++ map f (run_idents x j)) p
    ∙ (ap (λ ys. xs ++ map f ys) (run_longer x (k + m) r)
    ∙ (ap (λ ys. xs ++ ys) (map-append f (run_idents x (k + m)) C)
    ∙ (sym (append_assoc xs (map f (run_idents x (k + m))) (map f C))
    ∙ (ap (λ ys. ys ++ map f C) (sym (image_parts f xs x y k m e))
    ∙ (append_assoc front (run_idents y m) (map f C) ∙ ap (λ ys. front ++ (ys ++ map f C)) b.1))))) in
    next_above front y (b.0 ++ map f C) (subst (λ ys. is_increasing ys ≡ true) q up)

pub image_count : (f : List Tuple → List Tuple) (xs : List (List Tuple)) (x : List Tuple) (k : ℕ) → length (xs ++ map f (run_idents x k)) ≡ length xs + k
image_count f xs x k = omega (arith, length-append xs (map f (run_idents x k)), length-map (run_idents x k) f, run_length x k)

-- ---- what is known

-- by a map that changes nothing
map_stays : (f : List Tuple → List Tuple) → ((x : List Tuple) → IsIdent x → f x ≡ x) → (xs : List (List Tuple)) → list_all is_ident xs ≡ true → map f xs ≡ xs
map_stays f h [] a = refl
map_stays f h (x ∷ xs) a =
    ap (λ y. y ∷ map f xs) (h x (and_left (is_ident x) (list_all is_ident xs) a)) ∙ ap (λ ys. x ∷ ys) (map_stays f h xs (and_right (is_ident x) (list_all is_ident xs) a))

-- a run in its own epoch
pub run_unmoved : (ns : List Node) → AreNodes ns → (e : EpochName) (r : List Tuple × ℕ) → is_run r ≡ true → run_idents r.0 r.1 ≡ map (translate ns e e) (run_idents r.0 r.1)
run_unmoved ns d e r u = sym (map_stays (translate ns e e) (λ x i. translate_same ns e x d i) (run_idents r.0 r.1) (run_idents_are r u))

-- the other way
pub run_turned : (ns : List Node) → AreNodes ns → (e f : EpochName) (r q : List Tuple × ℕ) → is_run r ≡ true → run_idents q.0 q.1 ≡ map (translate ns e f) (run_idents r.0 r.1) → run_idents r.0 r.1 ≡ map (translate ns f e) (run_idents q.0 q.1)
run_turned ns d e f r q u h =
    let xs = run_idents r.0 r.1 in
    sym (ap (map (translate ns f e)) h
    ∙ (map_then (translate ns e f) (translate ns f e) xs ∙ map_stays (λ x. translate ns f e (translate ns e f x)) (λ x i. translate_back ns e f x d i) xs (run_idents_are r u)))

-- by a map that translates, and on from there
pub map_goes_on : (ns : List Node) → AreNodes ns → (e m f : EpochName) (g : List Tuple → List Tuple) → ((x : List Tuple) → IsIdent x → g x ≡ translate ns e m x) → (xs ys : List (List Tuple)) → list_all is_ident xs ≡ true → ys ≡ map g xs → map (translate ns m f) ys ≡ map (translate ns e f) xs
map_goes_on ns d e m f g h xs ys a q =
    ap (map (translate ns m f)) q
    ∙ (map_then g (translate ns m f) xs ∙ map_agrees (λ x. translate ns m f (g x)) (translate ns e f) (λ x i. ap (translate ns m f) (h x i) ∙ translate_translate ns e m f x d i) xs a)

-- the image of a run that goes a step as one run
pub image_before : (ns : List Node) → AreNodes ns → (e m f : EpochName) (g : List Tuple → List Tuple) → ((x : List Tuple) → IsIdent x → g x ≡ translate ns e m x) → (run image : List Tuple × ℕ) → is_run run ≡ true → run_idents image.0 image.1 ≡ map (translate ns m f) (map g (run_idents run.0 run.1)) →
    run_idents image.0 image.1 ≡ map (translate ns e f) (run_idents run.0 run.1)
image_before ns d e m f g h run image u q = q ∙ map_goes_on ns d e m f g h (run_idents run.0 run.1) (map g (run_idents run.0 run.1)) (run_idents_are run u) refl

-- ---- tables

pub none_known : (nodes : List Node) (t : KnownImages) → t.known.items ≡ [] → AreKnown nodes t
none_known nodes t e = All-same (λ k. IsKnown nodes k.value) t.known.items [] e (All-nil (λ k. IsKnown nodes k.value))
