-- Marks of epochs, by their numbers, and what lies between marked epochs.
use Rattle.std.specs.Prelude.{◌≡◌, ℕ, zero, suc, ◌≤◌, Bool, true, List, [], ◌∷◌, length, nat_lt, slice_index, ◌⊎◌, ◌+◌, ◌-◌, if◌then◌else◌}
use Rattle.std.specs.declared.cmp.Ordering.TheVariants.{Less}
use Rattle.rls_ident.specs.declared.epoch_name.EpochName.{EpochName}
use Rattle.rls_ident.specs.Lists.{IsIn}
use Rattle.rls_rename.specs.Tree.{path, epoch_cmp}
use Rattle.rls_rename.specs.Connected.{top_path, is_spanned}
use Rattle.rls_epoch.specs.declared.placed.Placed.{Placed}
use Rattle.rls_epoch.specs.Links.{epoch_at}
use Rattle.rls_epoch.specs.Seen.{nodes_of}
use Rattle.rls_epoch.specs.Sorted.{place_name}

-- whether the epoch of this number is marked
abbrev pub has_mark : List ℕ → ℕ → Bool
has_mark marks n = nat_lt 0 (slice_index marks n)

-- how many marks there are
abbrev pub mark_count : List ℕ → ℕ
mark_count [] = 0
mark_count (zero ∷ marks) = mark_count marks
mark_count (suc m ∷ marks) = suc (mark_count marks)

-- the marked epochs are e and these
pub record AreMarked (top : EpochName) (ps : List Placed) (marks : List ℕ) (e : EpochName) (es : List EpochName) : Type 0 where
  pub into : (n : ℕ) → n ≤ length ps → has_mark marks n ≡ true → IsIn (epoch_at top ps n) (e ∷ es)
  pub onto : (f : EpochName) → IsIn f (e ∷ es) → (n : ℕ) × (n ≤ length ps) × (epoch_at top ps n ≡ f) × (has_mark marks n ≡ true)

-- the marked epochs are these
pub record AreNamed (top : EpochName) (ps : List Placed) (marks : List ℕ) (es : List EpochName) : Type 0 where
  pub into : (n : ℕ) → n ≤ length ps → has_mark marks n ≡ true → IsIn (epoch_at top ps n) es
  pub onto : (f : EpochName) → IsIn f es → (n : ℕ) × (n ≤ length ps) × (epoch_at top ps n ≡ f) × (has_mark marks n ≡ true)

-- beside those that were marked, each epoch that is at least m is marked
pub record AreReached (top : EpochName) (ps : List Placed) (old new : List ℕ) (m : EpochName) : Type 0 where
  pub kept : (n : ℕ) → has_mark old n ≡ true → has_mark new n ≡ true
  pub from : (n : ℕ) → n ≤ length ps → has_mark new n ≡ true → (has_mark old n ≡ true) ⊎ (epoch_cmp (nodes_of ps) (epoch_at top ps n) m ≡ Less → ⊥)
  pub onto : (n : ℕ) → n ≤ length ps → (epoch_cmp (nodes_of ps) (epoch_at top ps n) m ≡ Less → ⊥) → has_mark new n ≡ true

-- the marked epochs are those that e and these span, and that with this number is the topmost of them
pub record AreSpread (top : EpochName) (ps : List Placed) (marks : List ℕ) (n : ℕ) (e : EpochName) (es : List EpochName) : Type 0 where
  pub top_is : path (nodes_of ps) (epoch_at top ps n) ≡ top_path (nodes_of ps) e es
  pub spanned : (m : ℕ) → m ≤ length ps → has_mark marks m ≡ is_spanned (nodes_of ps) e es (epoch_at top ps m)

-- each mark is the number of marks up to it
abbrev pub numbered : ℕ → List ℕ → List ℕ
numbered n [] = []
numbered n (zero ∷ marks) = zero ∷ numbered n marks
numbered n (suc m ∷ marks) = suc n ∷ numbered (suc n) marks

-- these are the numbers of the marks of what e and these span, and that with this number is the topmost of it
pub record AreNumbered (top : EpochName) (ps : List Placed) (numbers : List ℕ) (n : ℕ) (e : EpochName) (es : List EpochName) : Type 0 where
  pub marks : List ℕ
  pub numbers_are : numbers ≡ numbered 0 marks
  pub spread : AreSpread top ps marks n e es

-- ---- what is kept, if the topmost epoch has the first mark

-- the node, with the new number of its parent
abbrev pub moved : List ℕ → Placed → Placed
moved marks p = record p { up = slice_index marks p.up - 1 }

-- the nodes with these marks that are kept
abbrev pub kept_placed : List ℕ → List ℕ → List Placed → List Placed
kept_placed marks (m ∷ ms) (p ∷ ps) = if nat_lt 1 m then moved marks p ∷ kept_placed marks ms ps else kept_placed marks ms ps
kept_placed marks _ _ = []

-- the new places of those that are kept
abbrev pub kept_places : List ℕ → List ℕ → List ℕ
kept_places marks [] = []
kept_places marks (k ∷ places) = if nat_lt 1 (slice_index marks (suc k)) then (slice_index marks (suc k) - 2) ∷ kept_places marks places else kept_places marks places

-- the epochs at the places that are kept
abbrev pub kept_names : List Placed → List ℕ → List ℕ → List EpochName
kept_names ps marks [] = []
kept_names ps marks (k ∷ places) = if nat_lt 1 (slice_index marks (suc k)) then place_name ps k ∷ kept_names ps marks places else kept_names ps marks places

-- how many former identifiers the nodes with these marks have that are kept
abbrev pub kept_sum : List ℕ → List Placed → ℕ
kept_sum (m ∷ ms) (p ∷ ps) = (if nat_lt 1 m then length p.renaming.former else 0) + kept_sum ms ps
kept_sum _ _ = 0
