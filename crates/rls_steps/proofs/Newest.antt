-- The newest steps that fit, one after another.
use Rattle.std.proofs.Common.{◌≡◌, ℕ, suc, ◌+◌, ◌-◌, ◌<◌, ◌≤◌, List, length, drop, get_or, sym, ap, ◌∙◌, arith}
use Rattle.std.specs.Prelude.{slice_get, Some, reverse}
use Rattle.std.proofs.lemmas.List.{length-reverse, get_or-reverse}
use Rattle.std.proofs.lemmas.Option.{slice_get_read}
use Rattle.rls_steps.specs.declared.piece.Step.{Step}
use Rattle.rls_steps.specs.Forgetting.{piece_size, fitting}
use Rattle.rls_steps.proofs.PartSteps.{fitting_next, fitting_stops, fitting_none}

pub read_back : (xs : List Step) (n i : ℕ) (x : Step) → n ≡ length xs → i < n → x ≡ get_or xs (n - 1 - i) x → slice_get (reverse xs) i ≡ Some x
read_back xs n i x e h g =
    let below : i < length xs = omega (arith, e, h) in
    slice_get_read (reverse xs) n i x (e ∙ sym (length-reverse xs)) h (g ∙ (ap (λ m. get_or xs (m - 1 - i) x) e ∙ sym (get_or-reverse xs i x below)))

pub fit_more : (most room fit size total : ℕ) (back : List Step) (x : Step) → fit < most → slice_get back fit ≡ Some x → size ≡ piece_size x.piece → size ≤ room →
    fit + fitting (most - fit) room (drop fit back) ≡ total → fit + 1 + fitting (most - (fit + 1)) (room - size) (drop (fit + 1) back) ≡ total
fit_more most room fit size total back x few g s h e =
    let some : 0 < most - fit = omega arith in
    let fits : piece_size x.piece ≤ room = omega (arith, s, h) in
    let m : most - fit - 1 ≡ most - (fit + 1) = omega arith in
    let next : fitting (most - fit) room (drop fit back) ≡ suc (fitting (most - (fit + 1)) (room - size) (drop (fit + 1) back)) =
    fitting_next (most - fit) room back fit x some g fits
    ∙ (ap (λ j. suc (fitting j (room - piece_size x.piece) (drop (fit + 1) back))) m ∙ ap (λ z. suc (fitting (most - (fit + 1)) (room - z) (drop (fit + 1) back))) (sym s)) in
    omega (arith, next, e)

pub fit_last : (most room fit size total : ℕ) (back : List Step) (x : Step) → slice_get back fit ≡ Some x → size ≡ piece_size x.piece → room < size →
    fit + fitting (most - fit) room (drop fit back) ≡ total → fit ≡ total
fit_last most room fit size total back x g s h e =
    let none : fitting (most - fit) room (drop fit back) ≡ 0 = fitting_stops (most - fit) room back fit x g (omega (arith, s, h)) in
    omega (arith, none, e)

pub fit_all : (most room fit total : ℕ) (xs : List Step) → length xs ≤ fit → fit + fitting (most - fit) room (drop fit (reverse xs)) ≡ total → fit ≡ total
fit_all most room fit total xs h e =
    let none : fitting (most - fit) room (drop fit (reverse xs)) ≡ 0 = fitting_none (most - fit) room (reverse xs) fit (omega (arith, h, length-reverse xs)) in
    omega (arith, none, e)
