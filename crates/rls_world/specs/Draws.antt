-- Draws: numbers that a seed decides.
use Rattle.std.specs.Prelude.{ℕ, zero, suc, ◌+◌, ◌*◌, ◌/◌, ◌%◌, List, [], ◌∷◌}

-- the state after one more draw
abbrev pub next_draw : ℕ → ℕ
next_draw x = (x * 1103515245 + 12345) % 2147483648

-- what a draw of n answers, by the state after it
abbrev pub drawn : ℕ → ℕ → ℕ
drawn n x = (x / 4096) % n

-- small letters, each by one more draw from this state on
abbrev pub letters : ℕ → ℕ → List ℕ
letters zero x = []
letters (suc n) x = (97 + drawn 26 (next_draw x)) ∷ letters n (next_draw x)

-- the state after n draws
abbrev pub after_draws : ℕ → ℕ → ℕ
after_draws zero x = x
after_draws (suc n) x = after_draws n (next_draw x)
