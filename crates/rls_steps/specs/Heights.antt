-- How far identifiers go.
use Rattle.std.specs.Prelude.{◌≡◌, ℕ, ◌<◌, ℤ, ◌<ℤ◌, ◌≤ℤ◌, List, ◌⊎◌}
use Rattle.rls_ident.specs.declared.tuple.Tuple.{Tuple}
use Rattle.rls_ident.specs.Tuples.{offset_of, seq_of}
use Rattle.rls_ident.specs.Identifiers.{last_of}
use Rattle.rls_ident.specs.Lists.{IsIn}
use Rattle.rls_steps.specs.declared.height.Height.{Height}
use Rattle.rls_steps.specs.Labelled.{Names}

-- a lesser seq, or that one and at most that offset
abbrev pub GoesTo : Height → ℕ → ℤ → Type 0
GoesTo h s o = (s < h.seq) ⊎ ((s ≡ h.seq) × (o ≤ℤ h.offset))

-- a greater seq, or that one and a greater offset
abbrev pub GoesOver : Height → ℕ → ℤ → Type 0
GoesOver h s o = (h.seq < s) ⊎ ((h.seq ≡ s) × (h.offset <ℤ o))

-- the same of the last tuple of an identifier
abbrev pub IsUpTo : Height → List Tuple → Type 0
IsUpTo h x = GoesTo h (seq_of (last_of x)) (offset_of (last_of x))

abbrev pub IsOver : Height → List Tuple → Type 0
IsOver h x = GoesOver h (seq_of (last_of x)) (offset_of (last_of x))

-- each name goes so far at most
abbrev pub AreUpTo : Height → Names → Type 0
AreUpTo h ns = (n : List Tuple × ℕ) → IsIn n ns → IsUpTo h n.0
