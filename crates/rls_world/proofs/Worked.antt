-- Worked examples of the trial, by computation.
use Rattle.std.specs.Prelude.{◌≡◌, ◌+◌, [], ◌∷◌, map, replicate, codes, refl}
use Rattle.rls_model.specs.Document.{text}
use Rattle.rls_world.specs.Draws.{next_draw, drawn, after_draws}
use Rattle.rls_world.specs.Trial.{rounds, course, trial}
use Rattle.rls_world.specs.Computing.{computing}

-- the first four states of the draws
first_states : (next_draw 42 ≡ 1250496027) × (after_draws 2 42 ≡ 1116302264) × (after_draws 3 42 ≡ 1000676753) × (after_draws 4 42 ≡ 1668674806)
first_states = (refl, refl, refl, refl)

-- what they choose: member 1, an insertion, at the front, of 8 characters
first_choices : (drawn 3 1250496027 ≡ 1) × (drawn 16 1116302264 ≡ 6) × (drawn 1 1000676753 ≡ 0) × (1 + drawn 8 1668674806 ≡ 8)
first_choices = (refl, refl, refl, refl)

no_step : trial 42 0 ≡ record { accepted = 0 ∷ 0 ∷ 0 ∷ []; totals = 0 ∷ 0 ∷ 0 ∷ []; runs = 0 ∷ 0 ∷ 0 ∷ []; epochs = 1; former = 0 }
unfolding computing
no_step = refl

one_step : trial 42 1 ≡ record { accepted = 0 ∷ 1 ∷ 0 ∷ []; totals = 8 ∷ 8 ∷ 8 ∷ []; runs = 1 ∷ 1 ∷ 1 ∷ []; epochs = 1; former = 0 }
unfolding computing
one_step = refl

-- with two renames on the way
forty_steps : trial 42 40 ≡ record { accepted = 9 ∷ 8 ∷ 12 ∷ []; totals = 67 ∷ 67 ∷ 67 ∷ []; runs = 16 ∷ 16 ∷ 16 ∷ []; epochs = 1; former = 0 }
unfolding computing
forty_steps = refl

forty_steps_texts : map (λ s. text s.history) (rounds (course 42 40).world).states ≡ replicate 3 (codes "layfblbaqvfzitecywpnsbnezxsrxmqyuzqaftospyqtipqygqthglqneiustmwzrvc")
unfolding computing
forty_steps_texts = refl
