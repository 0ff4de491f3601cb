-- The nodes, of which the latest is the last, read as the list in which it is the first.
use Rattle.std.proofs.Common.{◌≡◌, List, [], ◌∷◌, ◌++◌, map, ap}
use Rattle.std.proofs.lemmas.List.{reverse-append}
use Rattle.rls_epoch.specs.declared.placed.Placed.{Placed}
use Rattle.rls_epoch.specs.Seen.{node_of, nodes_of}

-- the last one is the latest
pub nodes_last : (older : List Placed) (p : Placed) → nodes_of (older ++ (p ∷ [])) ≡ node_of p ∷ nodes_of older
nodes_last older p = ap (map node_of) (reverse-append older (p ∷ []))
