-- Operations that wait, in increasing order of author and number.
-- Why: docs/DECISIONS.md, 89.
use Rattle.std.specs.Prelude.{ℕ, Bool, true, ◌&&◌, ◌||◌, List, [], ◌∷◌, ◌==◌, nat_lt, find, Option, if◌then◌else◌}
use Rattle.std.specs.List.{list_all}
use Rattle.rls_ident.specs.Vectors.{at_most}
use Rattle.rls_ops.specs.declared.op.Op.{Op}

-- the operation has this author and number
abbrev pub is_numbered : ℕ → ℕ → Op → Bool
is_numbered a s o = (o.author == a) && (o.seq == s)

-- what waits under this number
abbrev pub waiting_under : List Op → ℕ → ℕ → Option Op
waiting_under W a s = find (is_numbered a s) W

-- the first operation comes before the second, by author and then by number
abbrev pub comes_before : Op → Op → Bool
comes_before o p = nat_lt o.author p.author || ((o.author == p.author) && nat_lt o.seq p.seq)

-- the list with o in its place
abbrev pub with_waiting : Op → List Op → List Op
with_waiting o [] = o ∷ []
with_waiting o (p ∷ ps) = if comes_before p o then p ∷ with_waiting o ps else o ∷ p ∷ ps

-- the list without the operation under this number
abbrev pub without : ℕ → ℕ → List Op → List Op
without a s [] = []
without a s (p ∷ ps) = if is_numbered a s p then without a s ps else p ∷ without a s ps

-- the first operation whose context is at most the vector
abbrev pub first_ready_at : List ℕ → List Op → Option Op
first_ready_at v W = find (λ w. at_most w.context v) W

-- each operation comes before all after it
abbrev pub is_in_order : List Op → Bool
is_in_order [] = true
is_in_order (w ∷ ws) = list_all (comes_before w) ws && is_in_order ws
