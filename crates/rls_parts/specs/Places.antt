-- The first places of epochs in a list, under what they are looked up.
use Rattle.std.specs.Prelude.{◌≡◌, ℕ, List, Option, Some, None}
use Rattle.std.specs.List.{position_from}
use Rattle.std.specs.Option.{option_cmp}
use Rattle.std.specs.Ordering.{nat_cmp, ordering_then}
use Rattle.std.specs.declared.cmp.Ordering.{Ordering}
use Rattle.std.specs.Map.{lookup}
use Rattle.std.specs.BTreeMap.{is_at}
use Rattle.rls_ident.specs.declared.epoch_name.EpochName.{EpochName}
use Rattle.rls_ident.specs.declared.epoch_name.EpochName.TheVariants.{Origin, Of}
use Rattle.rls_ident.specs.EpochNames.{name_eq}
use Rattle.rls_parts.specs.declared.places.Opened.{Opened}

abbrev pub key_of : EpochName → Option Opened
key_of Origin = None
key_of (Of r s) = Some record { replica = r; seq = s }

abbrev pub key_cmp : Option Opened → Option Opened → Ordering
key_cmp a b = option_cmp (λ x y. ordering_then (nat_cmp x.replica y.replica) (nat_cmp x.seq y.seq)) a b

-- the entries have the first place of each epoch in the list, whose first one has place i
abbrev pub AreFirst : List (Option Opened × ℕ) → ℕ → List EpochName → Type 0
AreFirst entries i names = (e : EpochName) → lookup (is_at (key_cmp (key_of e))) entries ≡ position_from (name_eq e) i names
