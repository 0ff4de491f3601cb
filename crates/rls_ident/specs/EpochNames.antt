-- The names of epochs.
use Rattle.std.specs.Prelude.{ℕ, Bool, true, false, ◌&&◌, List, nat_le, nat_lt, nat_eq, slice_index}
use Rattle.rls_ident.specs.declared.epoch_name.EpochName.{EpochName}
use Rattle.rls_ident.specs.declared.epoch_name.EpochName.TheVariants.{Origin, Of}

-- whether two names are equal
abbrev pub name_eq : EpochName → EpochName → Bool
name_eq Origin Origin = true
name_eq Origin (Of r s) = false
name_eq (Of r s) Origin = false
name_eq (Of r s) (Of q t) = nat_eq r q && nat_eq s t

-- the epoch is `Origin`, or its number is at most the vector's count of its replica
abbrev pub is_within : EpochName → List ℕ → Bool
is_within Origin v = true
is_within (Of r s) v = nat_le s (slice_index v r)

-- the epoch is `Origin`, or its replica is one of so many members
abbrev pub is_of_member : ℕ → EpochName → Bool
is_of_member members Origin = true
is_of_member members (Of r s) = nat_lt r members
