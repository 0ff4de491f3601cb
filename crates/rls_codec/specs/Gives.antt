-- What the code's readers answer.
use Rattle.std.specs.Prelude.{◌≡◌, ℕ, List, take, ◌<◌, ◌^◌, length, All, encode_utf8_all, Result, Ok, Err, ◌++◌, ◌∷◌, [], ◌+◌, None, true}
use Rattle.rls_ident.specs.declared.tuple.Tuple.{Tuple}
use Rattle.rls_runs.specs.Runs.{runs_of, run_before, are_apart}
use Rattle.rls_codec.specs.Reading.{next_run_at}
use Rattle.rls_ops.specs.declared.op.Body.{Body}
use Rattle.rls_ops.specs.declared.op.Body.TheVariants.{Insert, Delete, Rename, Leave}
use Rattle.rls_codec.specs.declared.fault.ReadError.{ReadError}
use Rattle.rls_codec.specs.declared.fault.ReadError.TheVariants.{Fault, OutOfMemory}
use Rattle.rls_codec.specs.declared.fault.DecodeError.{DecodeError}
use Rattle.rls_codec.specs.declared.fault.DecodeError.TheVariants.{Malformed}
use Rattle.rls_codec.specs.declared.fault.DecodeError.TheVariants as errors

abbrev pub Fails : {Y : Type 0} → ReadError → Result Y ℕ → Type 0
Fails OutOfMemory read = Unit {0}
Fails (Fault left) read = read ≡ Err left

-- What a function returned, seen by view, is what reading gives, unless memory ran out.
abbrev pub Gives : {X Y : Type 0} → (X → Y) → Result X ReadError → Result Y ℕ → Type 0
Gives view (Ok x) read = read ≡ Ok (view x)
Gives view (Err e) read = Fails e read

-- What decoding answered is what reading gives, unless memory ran out.
abbrev pub Decodes : {X : Type 0} → Result X DecodeError → Result X ℕ → Type 0
Decodes (Ok x) read = read ≡ Ok x
Decodes (Err (Malformed at)) read = read ≡ Err at
Decodes (Err errors.OutOfMemory) read = Unit {0}

-- the numbers of the body's tuples, runs and bytes of text fit four bytes
abbrev pub IsShort : Body → Type 0
IsShort (Insert first text) = (length first < 2 ^ 32) × (length (encode_utf8_all text) < 2 ^ 32)
IsShort (Delete xs) = (length (runs_of xs) < 2 ^ 32) × All (λ r. length r.0 < 2 ^ 32) (runs_of xs)
IsShort (Rename xs) = (length (runs_of xs) < 2 ^ 32) × All (λ r. length r.0 < 2 ^ 32) (runs_of xs)
IsShort Leave = Unit {0}

-- the first list stands at the front of the second
pub record IsFrontOf (a b : List ℕ) : Type 0 where
  pub front : take (length a) b ≡ a

-- a run was read, and put after the runs of these identifiers
pub record PutsRun (old new : List (List Tuple)) (bytes rest : List ℕ) : Type 0 where
  pub run : List Tuple × ℕ
  pub read : next_run_at (run_before None (runs_of old)) bytes ≡ Ok (run, rest)
  pub runs : runs_of new ≡ runs_of old ++ run ∷ []
  pub apart : are_apart None (runs_of new) ≡ true
  pub few : length new < length old + 2 ^ 32
