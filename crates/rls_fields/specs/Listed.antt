-- Lists that are read part by part.
use Rattle.std.specs.Prelude.{◌-◌, List, ◌++◌, length, slice_get, Option, Ok}
use Rattle.rls_codec.specs.Reading.{Read, ◌>>=◌}

-- the last of these, if there is one
abbrev pub latest : {A : Type 0} → List A → Option A
latest xs = slice_get xs (length xs - 1)

-- what was read before, and then what is read
abbrev pub behind : {A : Type 0} → List A → Read (List A) → Read (List A)
behind front read = read >>= λ x. Ok (front ++ x.0, x.1)
