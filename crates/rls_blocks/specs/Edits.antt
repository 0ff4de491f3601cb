-- Changes of blocks.
use Rattle.std.specs.Prelude.{◌≡◌, ℕ, ◌+◌, ◌-◌, ◌<◌, ◌≤◌, pos, ◌-ℤ◌, Bool, true, false, not, ◌&&◌, nat_eq, nat_lt, List, [], ◌∷◌, ◌++◌, length, take, drop, Option, Some, None, if◌then◌else◌, IsTrue}
use Rattle.rls_ident.specs.declared.tuple.Tuple.{Tuple}
use Rattle.rls_ident.specs.Identifiers.{shifted, follows}
use Rattle.rls_runs.specs.Runs.{run_last, is_run}
use Rattle.rls_runs.specs.Entries.{Entries}
use Rattle.rls_blocks.specs.declared.change.Change.{Change}
use Rattle.rls_blocks.specs.declared.change.Change.TheVariants.{GrowFront, GrowBehind, KeepFront, KeepBack}
use Rattle.rls_blocks.specs.declared.side.Side.{Side}
use Rattle.rls_blocks.specs.declared.side.Side.TheVariants.{Front, Behind}
use Rattle.rls_blocks.specs.Trees.{Piece, runs_in, entries_of}

-- so many characters of a block from a place on
abbrev pub part_of : ℕ → ℕ → Piece → Piece
part_of from len b = ((shifted (pos from) b.0.0, len), take len (drop from b.1))

-- two blocks that touch as one
abbrev pub joined : Piece → Piece → Piece
joined a b = ((a.0.0, a.0.1 + b.0.1), a.1 ++ b.1)

-- of two things the one on a side
abbrev pub on : {A : Type 0} → Side → A → A → A
on Front a b = a
on Behind a b = b

-- the other side
abbrev pub opposite : Side → Side
opposite Front = Behind
opposite Behind = Front

-- a block between others, of which the first are on this side of it
abbrev pub around : Side → List Piece → Piece → List Piece → List Piece
around Front first b other = first ++ b ∷ other
around Behind first b other = other ++ b ∷ first

-- the block touches the other on this side of it
abbrev pub may_grow : Side → Piece → Piece → Bool
may_grow Front n b = follows b.0.0 (run_last n.0)
may_grow Behind n b = follows n.0.0 (run_last b.0)

-- both as one
abbrev pub grown : Side → Piece → Piece → Piece
grown Front n b = joined n b
grown Behind n b = joined b n

-- a block with these characters behind its own
abbrev pub lengthened : List ℕ → Piece → Piece
lengthened cs b = ((b.0.0, b.0.1 + length cs), b.1 ++ cs)

-- a block with these characters before its own
abbrev pub lengthened_front : List ℕ → Piece → Piece
lengthened_front cs b = ((shifted (pos 0 -ℤ pos (length cs)) b.0.0, b.0.1 + length cs), cs ++ b.1)

-- the identifier goes on with the run before it, where there is one
abbrev pub goes_on : Option (List Tuple × ℕ) → List Tuple → Bool
goes_on None x = false
goes_on (Some r) x = follows x (run_last r)

-- the first of these runs, where there is one, goes on with the run
abbrev pub leads_to : Option (List Tuple × ℕ) → List (List Tuple × ℕ) → Bool
leads_to before [] = false
leads_to before (s ∷ rs) = goes_on before s.0

-- none of these runs goes on with the one before it
abbrev pub are_loose : Option (List Tuple × ℕ) → List (List Tuple × ℕ) → Bool
are_loose before [] = true
are_loose before (r ∷ rs) = not (goes_on before r.0) && are_loose (Some r) rs

-- entries put in at a place
abbrev pub inserted : ℕ → Entries → Entries → Entries
inserted i added es = take i es ++ added ++ drop i es

-- so many entries taken out from a place on
abbrev pub removed : ℕ → ℕ → Entries → Entries
removed i count es = take i es ++ drop (i + count) es

-- the block in which a place stands, and the place within it
abbrev pub located : List Piece → ℕ → Option (Piece × ℕ)
located [] i = None
located (b ∷ bs) i = if nat_lt i (length b.1) then Some (b, i) else located bs (i - length b.1)

-- the block begins at the place, and goes on with the run
abbrev pub begins_with : Option (Piece × ℕ) → List Tuple × ℕ → Bool
begins_with None r = false
begins_with (Some p) r = nat_eq p.1 0 && follows p.0.0.0 (run_last r)

-- the place is the last one of the block, with which the identifier goes on
abbrev pub ends_with : Option (Piece × ℕ) → List Tuple → Bool
ends_with None x = false
ends_with (Some p) x = nat_eq (p.1 + 1) (length p.0.1) && follows x (run_last p.0.0)

-- a block, and a run with its characters as a block of its own behind a place of it
abbrev pub put_in : Piece → Piece → ℕ → List Piece
put_in n b at = if nat_lt (at + 1) (length b.1) then part_of 0 (at + 1) b ∷ n ∷ part_of (at + 1) (b.0.1 - (at + 1)) b ∷ [] else b ∷ n ∷ []

-- blocks, of which the one that has a place is replaced by what is made of it and of the place within it
abbrev pub among : (Piece → ℕ → List Piece) → List Piece → ℕ → List Piece
among made [] i = []
among made (b ∷ bs) i = if nat_lt i (length b.1) then made b i ++ bs else b ∷ among made bs (i - length b.1)

-- the same among other blocks
abbrev pub put_among : Piece → List Piece → ℕ → List Piece
put_among n bs i = among (put_in n) bs i

-- the block can change so: there are identifiers for the characters before its own or after them, or it has more characters than those that go
abbrev pub MayChange : Change → Piece → Type 0
MayChange (GrowFront cs) b = IsTrue (is_run (lengthened_front cs.now b).0)
MayChange (GrowBehind cs) b = IsTrue (is_run (lengthened cs.now b).0)
MayChange (KeepFront at) b = (0 < at) × (at ≤ length b.1)
MayChange (KeepBack from) b = from < length b.1

-- the block after the change
abbrev pub changed : Change → Piece → Piece
changed (GrowFront cs) b = lengthened_front cs.now b
changed (GrowBehind cs) b = lengthened cs.now b
changed (KeepFront at) b = part_of 0 at b
changed (KeepBack from) b = part_of from (b.0.1 - from) b

-- so many characters come with the change
abbrev pub gain : Change → ℕ
gain (GrowFront cs) = length cs.now
gain (GrowBehind cs) = length cs.now
gain (KeepFront at) = 0
gain (KeepBack from) = 0

-- blocks, of which the one that has a place changes so
abbrev pub changed_at : Change → List Piece → ℕ → List Piece
changed_at change bs i = among (λ b at. changed change b ∷ []) bs i

-- blocks with these entries, of which none goes on with the one before it
pub record Shows (es : Entries) (bs : List Piece) : Type 0 where
  pub entries_are : entries_of bs ≡ es
  pub loose : IsTrue (are_loose None (runs_in bs))
