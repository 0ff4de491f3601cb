-- Letters that are drawn one after another.
use Rattle.std.proofs.Common.{◌≡◌, ◌∙◌, ℕ, suc, ◌+◌, ◌-◌, ◌<◌, List, [], ◌∷◌, ◌++◌, ap, sym, append_assoc, arith}
use Rattle.rls_world.specs.Draws.{next_draw, drawn, letters, after_draws}

letters_next : (n k x : ℕ) → k < n → letters (n - k) x ≡ (97 + drawn 26 (next_draw x)) ∷ letters (n - (k + 1)) (next_draw x)
letters_next n k x h = let e : n - k ≡ suc (n - (k + 1)) = omega arith in ap (λ m. letters m x) e

-- one more
pub letters_on : (n k x : ℕ) (cs all : List ℕ) → k < n → cs ++ letters (n - k) x ≡ all → (cs ++ (97 + drawn 26 (next_draw x)) ∷ []) ++ letters (n - (k + 1)) (next_draw x) ≡ all
letters_on n k x cs all h e = append_assoc cs ((97 + drawn 26 (next_draw x)) ∷ []) (letters (n - (k + 1)) (next_draw x)) ∙ (ap (λ ds. cs ++ ds) (sym (letters_next n k x h)) ∙ e)

pub draws_on : (n k x : ℕ) → k < n → after_draws (n - (k + 1)) (next_draw x) ≡ after_draws (n - k) x
draws_on n k x h = let e : suc (n - (k + 1)) ≡ n - k = omega arith in ap (λ m. after_draws m x) e
