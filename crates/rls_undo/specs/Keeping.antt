-- How entries are kept: an identifier by its last offset and by another one that differs from it in nothing else.
use Rattle.std.specs.Prelude.{◌≡◌, ◌+◌, ◌≤◌, ◌<◌, ℕ, ℤ, pos, ◌+ℤ◌, ◌-ℤ◌, ◌≤ℤ◌, List, [], ◌∷◌, slice_get, Option, Some, None}
use Rattle.rls_ident.specs.declared.epoch_name.EpochName.{EpochName}
use Rattle.rls_ident.specs.declared.epoch_name.EpochName.TheVariants.{Origin}
use Rattle.rls_ident.specs.declared.tuple.Tuple.{Tuple}
use Rattle.rls_ident.specs.Tuples.{offset_of}
use Rattle.rls_ident.specs.Identifiers.{last_of, shifted, least_offset, greatest_offset}
use Rattle.rls_runs.specs.Runs.{run_idents, past_offsets}
use Rattle.rls_undo.specs.declared.base.Base.{Base}
use Rattle.rls_undo.specs.declared.entry.Entry.{Entry}
use Rattle.rls_undo.specs.declared.entry.Entry.TheVariants.{Inserted, Removed}
use Rattle.rls_undo.specs.declared.kept.Kept.{Kept}
use Rattle.rls_undo.specs.declared.kept.Kept.TheVariants as kept

-- the identifier x with the last offset o
abbrev pub with_offset : ℤ → List Tuple → List Tuple
with_offset o x = shifted (o -ℤ offset_of (last_of x)) x

-- an identifier of an epoch is the base's with another last offset
pub record IsOf (b : Base) (e : EpochName) (x : List Tuple) : Type 0 where
  pub epoch : b.epoch ≡ e
  pub ident : with_offset (offset_of (last_of x)) b.id ≡ x

-- there is a base, and so it is
abbrev pub IsOfBase : Option Base → EpochName → List Tuple → Type 0
IsOfBase None e x = ⊥
IsOfBase (Some b) e x = IsOf b e x

-- the entry of these n identifiers of a base, from the last offset o on
abbrev pub inserted_by : Option Base → ℤ → ℕ → Entry
inserted_by None o n = Inserted Origin []
inserted_by (Some b) o n = Inserted b.epoch (run_idents (with_offset o b.id) n)

-- the entry of a deleted text whose first identifier is the base's with the last offset o
abbrev pub removed_by : Option Base → ℤ → List ℕ → Entry
removed_by None o cs = Removed Origin [] cs
removed_by (Some b) o cs = Removed b.epoch (with_offset o b.id) cs

-- the entry that is kept so
abbrev pub entry_of : List Base → Kept → Entry
entry_of bs (kept.Inserted b o n) = inserted_by (slice_get bs b) o n
entry_of bs (kept.Removed b o text) = removed_by (slice_get bs b) o text.value
entry_of bs (kept.Scattered n ids) = Inserted ids.value.epoch ids.value.ids

-- how many bases there have to be
abbrev pub bases_for : Kept → ℕ
bases_for (kept.Inserted b o n) = b + 1
bases_for (kept.Removed b o text) = b + 1
bases_for (kept.Scattered n ids) = n

-- its offsets are in the program's range
abbrev pub IsInRange : Kept → Type 0
IsInRange (kept.Inserted b o n) = (least_offset ≤ℤ o) × (0 < n) × ((o +ℤ pos n) ≤ℤ past_offsets)
IsInRange (kept.Removed b o text) = (least_offset ≤ℤ o) × (o ≤ℤ greatest_offset)
IsInRange (kept.Scattered n ids) = Unit {0}

-- each is so, and needs at least as many bases as the one before, from `least` to `most`
abbrev pub AreKept : ℕ → List Kept → ℕ → Type 0
AreKept least [] most = least ≤ most
AreKept least (k ∷ ks) most = IsInRange k × (least ≤ bases_for k) × AreKept (bases_for k) ks most

-- how many bases the last one needs, or `least` where there is none
abbrev pub last_bases : ℕ → List Kept → ℕ
last_bases least [] = least
last_bases least (k ∷ ks) = last_bases (bases_for k) ks
