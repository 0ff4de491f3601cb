-- Which runs may have names of a label.
use Rattle.std.specs.Prelude.{◌≡◌, ℕ, ◌+◌, ◌<◌, ◌≤◌, List, length, reverse, take, drop, slice_get, Option, Some, None, false, ◌⊎◌}
use Rattle.std.specs.Ordering.{nat_cmp, is_gt, is_lt}
use Rattle.std.specs.Option.{IsSome}
use Rattle.std.specs.Map.{lookup}
use Rattle.std.specs.BTreeMap.{is_at}
use Rattle.rls_ident.specs.declared.tuple.Tuple.{Tuple}
use Rattle.rls_ident.specs.Lists.{IsIn}
use Rattle.rls_steps.specs.declared.bound.Bounds.{Bounds}
use Rattle.rls_steps.specs.Labelled.{Names}
use Rattle.rls_steps.specs.NameRuns.{Stretch, name_at, names_of}
use Rattle.rls_steps.specs.Index.{newest_at}

-- ---- bounds of labels

abbrev pub count_in : List (ℕ × ℕ) → ℕ → Option ℕ
count_in es l = lookup (is_at (nat_cmp l)) es

-- the entry at the greatest number up to this label
abbrev pub IsBound : List (ℕ × ℕ) → ℕ → ℕ → ℕ → Type 0
IsBound es l k v = (count_in es k ≡ Some v) × (k ≤ l) × ((q : ℕ) → k < q → q ≤ l → count_in es q ≡ None)

abbrev pub IsBoundAt : List (ℕ × ℕ) → ℕ → Option (ℕ × ℕ) → Type 0
IsBoundAt es l None = (q : ℕ) → q ≤ l → count_in es q ≡ None
IsBoundAt es l (Some e) = IsBound es l e.0 e.1

-- the same, as a map tells it
abbrev pub IsFloor : List (ℕ × ℕ) → ℕ → Option (ℕ × ℕ) → Type 0
IsFloor es l None = (q : ℕ) → is_gt (nat_cmp q l) ≡ false → count_in es q ≡ None
IsFloor es l (Some e) = (count_in es e.0 ≡ Some e.1) × (is_gt (nat_cmp e.0 l) ≡ false) × ((q : ℕ) → is_gt (nat_cmp q l) ≡ false → IsSome (count_in es q) → is_lt (nat_cmp e.0 q) ≡ false)

-- the entry at the greatest number
abbrev pub IsLastEntry : List (ℕ × ℕ) → ℕ × ℕ → Type 0
IsLastEntry es e = (count_in es e.0 ≡ Some e.1) × ((q : ℕ) → IsSome (count_in es q) → is_lt (nat_cmp e.0 q) ≡ false)

-- the least number above this label
abbrev pub IsNextAt : List (ℕ × ℕ) → ℕ → Option ℕ → Type 0
IsNextAt es l None = (q : ℕ) → l < q → count_in es q ≡ None
IsNextAt es l (Some k) = (l < k) × ((q : ℕ) → l < q → q < k → count_in es q ≡ None)

-- one more entry, or another one
abbrev pub IsPut : List (ℕ × ℕ) → List (ℕ × ℕ) → ℕ → ℕ → Type 0
IsPut es es' p v = (count_in es' p ≡ Some v) × ((q : ℕ) → (q ≡ p → ⊥) → count_in es' q ≡ count_in es q)

-- ---- runs

-- the run with this number has a name with this label
abbrev pub HasLabel : List Stretch → ℕ → ℕ → Type 0
HasLabel rs i l = (r : Stretch) × (n : List Tuple × ℕ) × (slice_get rs i ≡ Some r) × IsIn n (names_of r) × (n.1 ≡ l)

-- its labels are between these
abbrev pub HasBetween : Stretch → ℕ → ℕ → Type 0
HasBetween r low high = (n : List Tuple × ℕ) → IsIn n (names_of r) → (low ≤ n.1) × (n.1 ≤ high)

-- each name of a run was there in that run before, or is one of these and in the last run
abbrev pub IsMore : List Stretch → List Stretch → Names → Type 0
IsMore rs rs' ns =
    (i : ℕ) (s : Stretch) (n : List Tuple × ℕ) → slice_get rs' i ≡ Some s → IsIn n (names_of s) → ((r : Stretch) × (slice_get rs i ≡ Some r) × IsIn n (names_of r)) ⊎ ((i + 1 ≡ length rs') × IsIn n ns)

-- none of the runs from a start to an end has a label between these
abbrev pub HaveNone : List Stretch → ℕ → ℕ → ℕ → ℕ → Type 0
HaveNone rs from end low high = (i l : ℕ) → from ≤ i → i < end → HasLabel rs i l → low ≤ l → l ≤ high → ⊥

-- these names stand from a place on among all names, and each is the newest of its label
pub record IsLatest (ns : Names) (i : ℕ) (r : Stretch) : Type 0 where
  pub names : take r.len (drop i ns) ≡ names_of r
  pub at : (j : ℕ) → j < r.len → slice_get ns (i + j) ≡ Some (name_at r j)
  pub newest : (j : ℕ) → j < r.len → newest_at (reverse ns) (name_at r j).1 ≡ Some (i + j)

-- each label of a run is below the one above all, and its bound is above the run
pub record AreCounted (rs : List Stretch) (es : List (ℕ × ℕ)) (above : ℕ) : Type 0 where
  pub under : (i l : ℕ) → HasLabel rs i l → l < above
  pub each : (i l : ℕ) → HasLabel rs i l → (k : ℕ) × (v : ℕ) × IsBound es l k v × (i < v)
  pub keys : (q : ℕ) → above ≤ q → count_in es q ≡ None

-- no run from the one that is noted for a run up to it has one of its labels
pub record AreOlder (rs : List Stretch) (os : List ℕ) : Type 0 where
  pub all : length rs ≤ length os
  pub each : (i o j l : ℕ) → slice_get os i ≡ Some o → HasLabel rs i l → o ≤ j → j < i → HasLabel rs j l → ⊥

pub record AreBounded (rs : List Stretch) (b : Bounds) : Type 0 where
  pub counted : AreCounted rs b.counts.entries b.above
  pub older : AreOlder rs b.olders.items
