-- What becomes of identifiers whose first tuples change.
use Rattle.std.proofs.Common.{◌≡◌, ℕ, zero, suc, ◌+◌, ◌<◌, ◌≤◌, List, [], ◌∷◌, ◌++◌, Some, map, length, get_or, take, drop, reverse, refl, sym, ap, ◌∙◌, arith}
use Rattle.std.specs.Prelude.{pos, slice_get}
use Rattle.std.proofs.lemmas.Int.{ints}
use Rattle.std.proofs.lemmas.List.{take-append-drop, length-take, reverse-append, reverse-reverse, length-reverse}
use Rattle.rls_ident.specs.declared.tuple.Tuple.{Tuple}
use Rattle.rls_ident.specs.Identifiers.{shifted}
use Rattle.rls_ident.proofs.Shifted.{shifted_shifted, shifted_none}
use Rattle.rls_rename.specs.Heads.{Replaces}
use Rattle.rls_rename.specs.Renaming.{forward}
use Rattle.rls_rename.proofs.Stretches.{prefixed_goes}
use Rattle.rls_runs.specs.Runs.{run_idents}
use Rattle.rls_epoch.specs.declared.placed.Placed.{Placed}
use Rattle.rls_epoch.specs.declared.ways.Step.{Step}
use Rattle.rls_epoch.specs.declared.ways.Step.TheVariants.{Forward}
use Rattle.rls_epoch.specs.Heads.{Moves, IsAhead}
use Rattle.rls_epoch.specs.Ways.{AreWithin, place_of_step, step_map, led}
use Rattle.rls_epoch.proofs.Moving.{map_step}
use Rattle.rls_epoch.proofs.Steps.{forward_step}

-- a node that was read
pub forward_replaces : (ps : List Placed) (k : ℕ) (p : Placed) (h z : List Tuple) → slice_get ps k ≡ Some p → Replaces (forward p.renaming) h z → Replaces (step_map ps (Forward k)) h z
forward_replaces ps k p h z g r y = forward_step ps k p g (h ++ y) ∙ r y

shifted_after : (p x : List Tuple) (k : ℕ) → 0 < length x → p ++ shifted (pos k) x ≡ shifted (pos k) (p ++ x)
shifted_after p x k l = (prefixed_goes p x (suc k) l).each k (omega arith)

-- the tuples after the head stay
pub head_moves : (ps : List Placed) (s : Step) (rest front h z : List Tuple) → 0 < length rest → h ≡ reverse front → Replaces (step_map ps s) h z → Moves ps s (reverse (rest ++ front)) (reverse (rest ++ reverse z))
head_moves ps s rest front h z l e r k =
    let x = reverse rest in
    let some : 0 < length x = let n = length-reverse rest in omega arith in
    let old : reverse (rest ++ front) ≡ h ++ x = reverse-append rest front ∙ ap (λ t. t ++ x) (sym e) in
    let new : reverse (rest ++ reverse z) ≡ z ++ x = reverse-append rest (reverse z) ∙ ap (λ t. t ++ x) (reverse-reverse z) in
    ap (λ t. step_map ps s (shifted (pos k) t)) old
    ∙ (ap (step_map ps s) (sym (shifted_after h x k some)) ∙ (r (shifted (pos k) x) ∙ (shifted_after z x k some ∙ ap (shifted (pos k)) (sym new))))

twice : (x : List Tuple) (k : ℕ) → shifted (pos k) (shifted (pos 1) x) ≡ shifted (pos (suc k)) x
twice x k = shifted_shifted (pos k) (pos 1) x ∙ ap (λ j. shifted j x) (omega (arith, ints))

-- lists that are led alike
pub run_alike : (f g : List Tuple → List Tuple) (n : ℕ) (x y : List Tuple) → ((k : ℕ) → f (shifted (pos k) y) ≡ g (shifted (pos k) x)) → map f (run_idents y n) ≡ map g (run_idents x n)
run_alike f g zero x y h = refl
run_alike f g (suc n) x y h =
    let one : f y ≡ g x = ap f (sym (shifted_none y)) ∙ (h 0 ∙ ap g (shifted_none x)) in
    let later = run_alike f g n (shifted (pos 1) x) (shifted (pos 1) y) (λ k. ap f (twice y k) ∙ (h (suc k) ∙ ap g (sym (twice x k)))) in
    ap (λ t. t ∷ map f (run_idents (shifted (pos 1) y) n)) one ∙ ap (λ ts. g x ∷ ts) later

pub first_moves : (ps : List Placed) (s : Step) (xs new : List Tuple) (n : ℕ) (front : List Tuple) → 0 < n → n ≤ length xs → Replaces (step_map ps s) (reverse (drop n xs)) (reverse front) → new ≡ take n xs ++ front → Moves ps s (reverse xs) (reverse new)
first_moves ps s xs new n front l w r i k =
    let some : 0 < length (take n xs) = omega (arith, length-take n xs) in
    ap (λ t. step_map ps s (shifted (pos k) (reverse t))) (sym (take-append-drop n xs))
    ∙ (head_moves ps s (take n xs) (drop n xs) (reverse (drop n xs)) (reverse front) some refl r k ∙ ap (λ t. shifted (pos k) (reverse t)) (ap (λ ys. take n xs ++ ys) (reverse-reverse front) ∙ sym i))

pub within_at : (n : ℕ) (steps : List Step) (k : ℕ) (d : Step) → AreWithin n steps → k < length steps → place_of_step (get_or steps k d) < n
within_at n [] k d w l = absurd (omega arith)
within_at n (s ∷ steps) zero d w l = w.0
within_at n (s ∷ steps) (suc k) d w l = within_at n steps k d w.1 (omega arith)

pub run_led_ahead : (ps : List Placed) (steps : List Step) (n : ℕ) (ahead : List (List Tuple)) (r : List Tuple × ℕ) (t u : List Tuple) → t ≡ reverse r.0 → IsAhead ps steps (reverse t) n (reverse u) → ahead ≡ run_idents (reverse u) r.1 →
    map (led ps (drop n steps)) ahead ≡ map (led ps steps) (run_idents r.0 r.1)
run_led_ahead ps steps n ahead r t u e a i =
    let first : reverse t ≡ r.0 = ap reverse e ∙ reverse-reverse r.0 in
    let same : (k : ℕ) → led ps (drop n steps) (shifted (pos k) (reverse u)) ≡ led ps steps (shifted (pos k) r.0) = λ k. a k ∙ ap (λ x. led ps steps (shifted (pos k) x)) first in
    ap (map (led ps (drop n steps))) i ∙ run_alike (led ps (drop n steps)) (led ps steps) r.1 r.0 (reverse u) same

-- ---- several steps at once

pub within_drop : (n : ℕ) (steps : List Step) (k : ℕ) → AreWithin n steps → AreWithin n (drop k steps)
within_drop n steps zero w = w
within_drop n [] (suc k) w = tt
within_drop n (s ∷ steps) (suc k) w = within_drop n steps k w.1

nothing_left : {X : Type 0} (n : ℕ) → drop {A = X} n [] ≡ []
nothing_left zero = refl
nothing_left (suc n) = refl

pub drop_twice : {X : Type 0} (j k : ℕ) (xs : List X) → drop j (drop k xs) ≡ drop (k + j) xs
drop_twice j zero xs = let n : j ≡ 0 + j = omega arith in ap (λ m. drop m xs) n
drop_twice zero (suc k) [] = sym (nothing_left (suc k + 0))
drop_twice (suc j) (suc k) [] = sym (nothing_left (suc k + suc j))
drop_twice j (suc k) (x ∷ xs) = let n : suc (k + j) ≡ suc k + j = omega arith in drop_twice j k xs ∙ ap (λ m. drop m (x ∷ xs)) n

pub one_ahead : (ps : List Placed) (steps : List Step) (ids moved : List (List Tuple)) (d : Step) → 0 < length steps → moved ≡ map (step_map ps (get_or steps 0 d)) ids → map (led ps (drop 1 steps)) moved ≡ map (led ps steps) ids
one_ahead ps [] ids moved d l e = absurd (omega arith)
one_ahead ps (s ∷ steps) ids moved d l e = ap (map (led ps steps)) e ∙ map_step ps s steps ids
