-- Names as runs: identifiers of one run with consecutive labels.
use Rattle.std.specs.Prelude.{◌≡◌, ℕ, zero, suc, ◌+◌, ◌-◌, ◌<◌, ◌≤◌, ◌^◌, ℤ, pos, ◌+ℤ◌, ◌-ℤ◌, ◌≤ℤ◌, Bool, true, false, List, [], ◌∷◌, ◌++◌, map, length, reverse, slice_get, Option, Some, None, if◌then◌else◌}
use Rattle.std.specs.declared.cmp.Ordering.{Ordering}
use Rattle.std.specs.Ordering.{nat_cmp, ordering_then, is_gt, is_lt}
use Rattle.std.specs.Option.{IsSome}
use Rattle.std.specs.Map.{lookup}
use Rattle.std.specs.BTreeMap.{is_at}
use Rattle.rls_ident.specs.declared.tuple.Tuple.{Tuple}
use Rattle.rls_ident.specs.Tuples.{offset_of, seq_of}
use Rattle.rls_ident.specs.Identifiers.{ident_cmp, ident_eq, IsIdent, last_of, shifted, least_offset, greatest_offset}
use Rattle.rls_runs.specs.Runs.{run_idents}
use Rattle.rls_steps.specs.declared.key.Key.{Key}
use Rattle.rls_steps.specs.Marks.{numbers_from}
use Rattle.rls_steps.specs.Labelled.{Names, label_of}

-- names that follow one another: the oldest, whether the others fall, and how many there are
pub record Stretch : Type 0 where
  pub first : List Tuple
  pub label : ℕ
  pub down : Bool
  pub len : ℕ

-- so far on, or so far back
abbrev pub step_by : Bool → ℕ → ℤ
step_by false k = pos k
step_by true k = pos 0 -ℤ pos k

abbrev pub label_by : Bool → ℕ → ℕ → ℕ
label_by false l k = l + k
label_by true l k = l - k

-- the name k places after the first one
abbrev pub name_by : Bool → List Tuple → ℕ → ℕ → List Tuple × ℕ
name_by down x l k = (shifted (step_by down k) x, label_by down l k)

-- n names, from place k on
abbrev pub names_by : Bool → List Tuple → ℕ → ℕ → ℕ → Names
names_by down x l k zero = []
names_by down x l k (suc n) = name_by down x l k ∷ names_by down x l (suc k) n

abbrev pub name_at : Stretch → ℕ → List Tuple × ℕ
name_at r k = name_by r.down r.first r.label k

abbrev pub names_of : Stretch → Names
names_of r = names_by r.down r.first r.label 0 r.len

abbrev pub names_in : Option Stretch → Names
names_in None = []
names_in (Some r) = names_of r

-- the names of these, one after another
abbrev pub named : List Stretch → Names
named [] = []
named (r ∷ rs) = names_of r ++ named rs

-- no offset and no label passes its bounds, where the first ones are these
abbrev pub IsWithin : Bool → ℤ → ℕ → ℕ → Type 0
IsWithin false o l n = ((o +ℤ pos n) ≤ℤ (greatest_offset +ℤ pos 1)) × (l + n ≤ 2 ^ 64)
IsWithin true o l n = ((least_offset +ℤ pos n) ≤ℤ (o +ℤ pos 1)) × (n ≤ l + 1)

pub record IsStretch (x : List Tuple) (l : ℕ) (down : Bool) (n : ℕ) : Type 0 where
  pub some : 0 < n
  pub ident : IsIdent x
  pub within : IsWithin down (offset_of (last_of x)) l n

-- how many names are before each of these, where n are before the first one
abbrev pub starts_of : ℕ → List Stretch → List ℕ
starts_of n [] = []
starts_of n (r ∷ rs) = n ∷ starts_of (n + r.len) rs

-- ---- the first identifier of each

-- shorter ones first
abbrev pub long_cmp : List Tuple → List Tuple → Ordering
long_cmp x y = ordering_then (nat_cmp (length x) (length y)) (ident_cmp x y)

-- by the seq of the last tuple, which tells most of them apart, and then shorter ones first
abbrev pub wide_cmp : List Tuple → List Tuple → Ordering
wide_cmp x y = ordering_then (nat_cmp (seq_of (last_of x)) (seq_of (last_of y))) (long_cmp x y)

abbrev pub key_cmp : Key → Key → Ordering
key_cmp a b = wide_cmp a.ident b.ident

abbrev pub run_in : List (Key × ℕ) → Key → Option ℕ
run_in es k = lookup (is_at (key_cmp k)) es

-- of stretches of which the last comes first: the number of the one that begins with this identifier, where the oldest has number 0
abbrev pub run_of : List Stretch → List Tuple → Option ℕ
run_of [] x = None
run_of (r ∷ rs) x = if ident_eq r.first x then Some (length rs) else run_of rs x

-- the number at the greatest key up to this one
abbrev pub IsBelow : List (Key × ℕ) → Key → Option ℕ → Type 0
IsBelow es x None = (q : Key) → is_gt (key_cmp q x) ≡ false → run_in es q ≡ None
IsBelow es x (Some i) = (k : Key) × (run_in es k ≡ Some i) × (is_gt (key_cmp k x) ≡ false) × ((q : Key) → is_gt (key_cmp q x) ≡ false → IsSome (run_in es q) → is_lt (key_cmp k q) ≡ false)

-- at the least one from it on
abbrev pub IsAbove : List (Key × ℕ) → Key → Option ℕ → Type 0
IsAbove es x None = (q : Key) → is_gt (key_cmp x q) ≡ false → run_in es q ≡ None
IsAbove es x (Some i) = (k : Key) × (run_in es k ≡ Some i) × (is_gt (key_cmp x k) ≡ false) × ((q : Key) → is_gt (key_cmp x q) ≡ false → IsSome (run_in es q) → is_gt (key_cmp k q) ≡ false)

-- what a stretch says of the label of an identifier
abbrev pub IsLabelOf : Stretch → List Tuple → Option ℕ → Type 0
IsLabelOf r x None = (k : ℕ) → k < r.len → (name_at r k).0 ≡ x → ⊥
IsLabelOf r x (Some l) = (k : ℕ) × (k < r.len) × (name_at r k ≡ (x, l))

-- what a stretch says of the labels of an identifier and of the next ones: none of the first one, or the first label and how many rise from
-- there
abbrev pub AreLabelsOf : Stretch → List Tuple → Option (ℕ × ℕ) → Type 0
AreLabelsOf r x None = IsLabelOf r x None
AreLabelsOf r x (Some p) = (j : ℕ) → j < p.1 → IsLabelOf r (shifted (pos j) x) (Some (p.0 + j))

-- what the one with this number says, if it is one
abbrev pub AreLabelsIn : List Stretch → Option ℕ → List Tuple → Option (ℕ × ℕ) → Type 0
AreLabelsIn rs None x o = o ≡ None
AreLabelsIn rs (Some i) x o = (r : Stretch) × (slice_get rs i ≡ Some r) × AreLabelsOf r x o

-- and what names say
abbrev pub AreLabels : Names → List Tuple → Option (ℕ × ℕ) → Type 0
AreLabels ns x None = label_of ns x ≡ None
AreLabels ns x (Some p) = map (label_of ns) (run_idents x p.1) ≡ map Some (numbers_from p.0 p.1)

-- none of n identifiers from one on is in the stretch, if that one isn't
abbrev pub AreOutside : Stretch → List Tuple → ℕ → Type 0
AreOutside r x n = IsLabelOf r x None → (j : ℕ) → j < n → IsLabelOf r (shifted (pos j) x) None

-- nor in the one with this number, if it is one
abbrev pub AreOutsideIn : List Stretch → Option ℕ → List Tuple → ℕ → Type 0
AreOutsideIn rs None x n = Unit {0}
AreOutsideIn rs (Some i) x n = (r : Stretch) × (slice_get rs i ≡ Some r) × AreOutside r x n

-- each is one
abbrev pub AreSound : List Stretch → Type 0
AreSound [] = Unit {0}
AreSound (r ∷ rs) = IsStretch r.first r.label r.down r.len × AreSound rs

-- what is kept of these beside them
pub record AreKept (rs : List Stretch) (ss : List ℕ) (fs : List (Key × ℕ)) : Type 0 where
  pub sound : AreSound rs
  pub starts : ss ≡ starts_of 0 rs
  pub firsts : (k : Key) → run_in fs k ≡ run_of (reverse rs) k.ident
