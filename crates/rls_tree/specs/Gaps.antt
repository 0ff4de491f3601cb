-- What goes in between entries.
use Rattle.std.specs.Prelude.{◌≡◌, ℕ, ◌-◌, ◌≤◌, Bool, false, nat_eq, List, [], ◌∷◌, ◌++◌, length, take, drop}
use Rattle.rls_ident.specs.declared.tuple.Tuple.{Tuple}
use Rattle.rls_runs.specs.Entries.{Entries, idents_in, put_all}
use Rattle.rls_runs.specs.Places.{below_count}
use Rattle.rls_runs.proofs.RunOrder.{Rising}
use Rattle.rls_runs.proofs.Gaps.{AreBelow}
use Rattle.rls_tree.specs.declared.insertion.Gap.{Gap}
use Rattle.rls_blocks.specs.Trees.{piece_entries}

-- how many of these identifiers stand in front of the first of the others, where there is one
abbrev pub gap_end : List (List Tuple) → List (List Tuple) → ℕ
gap_end ids [] = length ids
gap_end ids (x ∷ rest) = below_count ids x

-- entries from a place on, with what goes in at each gap, and after the last gap what there is from there on
abbrev pub filled : ℕ → List Gap → Entries → (ℕ → Entries) → Entries
filled at [] es rest = rest at
filled at (g ∷ gs) es rest = take (g.at - at) (drop at es) ++ (piece_entries g.block ++ filled g.at gs es rest)

-- the places rise from this one on, and none is after another
abbrev pub AreGaps : ℕ → List Gap → ℕ → Type 0
AreGaps at [] end = at ≤ end
AreGaps at (g ∷ gs) end = (at ≤ g.at) × AreGaps g.at gs end

-- the first gap is at this place
abbrev pub is_gap : ℕ → List Gap → Bool
is_gap at [] = false
is_gap at (g ∷ gs) = nat_eq g.at at

-- the place of the last gap, or else this one
abbrev pub last_gap : ℕ → List Gap → ℕ
last_gap at [] = at
last_gap at (g ∷ gs) = last_gap g.at gs

-- if more entries are put in after these gaps are filled, all entries are these
pub record Leaves (es : Entries) (gaps : List Gap) (more all : Entries) : Type 0 where
  pub total : filled 0 gaps es (λ at. put_all more (drop at es)) ≡ all
  pub places : AreGaps 0 gaps (length es)
  pub rising : Rising (idents_in more)
  pub below : AreBelow (take (last_gap 0 gaps) (idents_in es)) (idents_in more)
