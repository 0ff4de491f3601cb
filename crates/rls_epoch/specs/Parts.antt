-- Lists of identifiers that have gone some of the steps of a way.
use Rattle.std.specs.Prelude.{ℕ, suc, ◌+◌, ◌-◌, ◌*◌, ◌<◌, ◌≤◌, List, [], ◌∷◌, ◌++◌, length, map, drop}
use Rattle.rls_ident.specs.declared.tuple.Tuple.{Tuple}
use Rattle.rls_epoch.specs.declared.parts.Part.{Part}
use Rattle.rls_epoch.specs.declared.placed.Placed.{Placed}
use Rattle.rls_epoch.specs.declared.ways.Step.{Step}
use Rattle.rls_epoch.specs.Ways.{led}

-- where the steps that are left lead these lists, of which the last one comes first
abbrev pub ends : List Placed → List Step → List Part → List (List Tuple)
ends ps steps [] = []
ends ps steps (p ∷ parts) = ends ps steps parts ++ map (led ps (drop p.done steps)) p.ids

-- each list has identifiers, and has gone at most n steps
abbrev pub AreUnderWay : ℕ → List Part → Type 0
AreUnderWay n [] = Unit {0}
AreUnderWay n (p ∷ parts) = (0 < length p.ids) × (p.done ≤ n) × AreUnderWay n parts

-- a bound of the single steps of single identifiers that are left, and of the identifiers
abbrev pub work : ℕ → List Part → ℕ
work n [] = 0
work n (p ∷ parts) = work n parts + length p.ids * suc (n - p.done)
