-- Pieces of the texts that are printed.
use Rattle.std.specs.Prelude.{ℕ, List, [], ◌∷◌, ◌++◌, codes, map}
use Rattle.std.specs.List.{join_with_byte, concat, flat_map}
use Rattle.std.specs.Fmt.{decimal, signed_decimal}
use Rattle.rls_ident.specs.declared.tuple.Tuple.{Tuple}
use Rattle.rls_ident.specs.declared.tuple.Tuple.TheVariants.{Low, At, High}
use Rattle.rls_ident.specs.declared.epoch_name.EpochName.{EpochName}
use Rattle.rls_ident.specs.declared.epoch_name.EpochName.TheVariants.{Origin, Of}

-- pieces and a line feed
abbrev pub line : List (List ℕ) → List ℕ
line pieces = concat (pieces ++ codes "\n" ∷ [])

-- each number after a space
abbrev pub spaced : List ℕ → List ℕ
spaced numbers = flat_map (λ n. 32 ∷ decimal n) numbers

-- `low`, `high`, or four numbers with points between
abbrev pub tuple_text : Tuple → List ℕ
tuple_text Low = codes "low"
tuple_text (At p r s o) = concat (decimal p ∷ codes "." ∷ decimal r ∷ codes "." ∷ decimal s ∷ codes "." ∷ signed_decimal o ∷ [])
tuple_text High = codes "high"

-- the tuples, with a slash between two
abbrev pub ident_text : List Tuple → List ℕ
ident_text x = join_with_byte 47 (map tuple_text x)

abbrev pub name_text : EpochName → List ℕ
name_text Origin = codes "origin"
name_text (Of r s) = concat (decimal r ∷ codes " " ∷ decimal s ∷ [])
