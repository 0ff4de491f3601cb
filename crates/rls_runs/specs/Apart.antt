-- The items of a list of which the only one may stand apart.
use Rattle.std.specs.Prelude.{List, [], ◌∷◌, Option, Some, None}

-- the one item, if there is one, else the list
abbrev pub items_of : {X : Type 0} → Option X → List X → List X
items_of None xs = xs
items_of (Some x) xs = x ∷ []
