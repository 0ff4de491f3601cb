-- The stems of one author, among those of all.
use Rattle.std.specs.Prelude.{ℕ, List, ◌==◌, filter}
use Rattle.rls_model.specs.declared.parts.Stem.{Stem}

-- the stems of this author, in order
abbrev pub own_of : ℕ → List Stem → List Stem
own_of a stems = filter (λ s. s.author == a) stems
