-- Lists of identifiers and their runs. A run is a first identifier and a length.
use Rattle.std.specs.Prelude.{◌≡◌, length, ℕ, zero, suc, ◌+◌, ℤ, pos, ◌+ℤ◌, int_le, Bool, true, ◌&&◌, not, List, [], ◌∷◌, ◌++◌, ◌-◌, nat_lt, map, Option, Some, None, Result, Ok, Err, if◌then◌else◌, IsTrue}
use Rattle.std.specs.List.{list_all}
use Rattle.rls_ident.specs.declared.limits.TheConstants.{OFFSETS_END}
use Rattle.rls_ident.specs.declared.tuple.Tuple.{Tuple}
use Rattle.std.specs.declared.cmp.Ordering.{Ordering}
use Rattle.std.specs.declared.cmp.Ordering.TheVariants.{Less, Equal, Greater}
use Rattle.rls_ident.specs.Identifiers.{is_ident, is_bounded, last_of, shifted, ident_cmp, ident_lt, follows}
use Rattle.rls_ident.specs.Tuples.{offset_of}

-- n identifiers from this one on, with one base and consecutive offsets
abbrev pub run_idents : List Tuple → ℕ → List (List Tuple)
run_idents x zero = []
run_idents x (suc n) = x ∷ run_idents (shifted (pos 1) x) n

-- the lists, one after another
abbrev pub joined : List (List (List Tuple)) → List (List Tuple)
joined [] = []
joined (run ∷ runs) = run ++ joined runs

-- each identifier is less than the next
abbrev pub is_increasing : List (List Tuple) → Bool
is_increasing [] = true
is_increasing (x ∷ []) = true
is_increasing (x ∷ (y ∷ ys)) = ident_lt x y && is_increasing (y ∷ ys)

-- a strictly increasing list of identifiers
abbrev pub AreIdents : List (List Tuple) → Type 0
AreIdents xs = IsTrue (list_all is_ident xs) × IsTrue (is_increasing xs)

-- the runs with one more identifier in front, which joins the first run where that follows it
abbrev pub put_run : List Tuple → List (List Tuple × ℕ) → List (List Tuple × ℕ)
put_run x [] = (x, 1) ∷ []
put_run x ((y, n) ∷ runs) = if follows y x then (x, n + 1) ∷ runs else (x, 1) ∷ (y, n) ∷ runs

-- the maximal runs of a list
abbrev pub runs_of : List (List Tuple) → List (List Tuple × ℕ)
runs_of [] = []
runs_of (x ∷ xs) = put_run x (runs_of xs)

-- the last identifier of a run
abbrev pub run_last : List Tuple × ℕ → List Tuple
run_last r = shifted (pos (r.1 - 1)) r.0

-- the run is above the last identifier of the run before and doesn't touch it
abbrev pub is_apart : Option (List Tuple × ℕ) → List Tuple × ℕ → Bool
is_apart None r = true
is_apart (Some before) r = ident_lt (run_last before) r.0 && not (follows r.0 (run_last before))

-- the identifiers of these runs
abbrev pub idents_of : List (List Tuple × ℕ) → List (List Tuple)
idents_of [] = []
idents_of (r ∷ rs) = run_idents r.0 r.1 ++ idents_of rs

-- each run has a length, and is above the run before and doesn't touch it
abbrev pub are_apart : Option (List Tuple × ℕ) → List (List Tuple × ℕ) → Bool
are_apart before [] = true
are_apart before (r ∷ rs) = nat_lt 0 r.1 && is_apart before r && are_apart (Some r) rs

-- the identifiers of these runs are those of the run, each mapped, and no run touches the one before
pub record IsImage (f : List Tuple → List Tuple) (run : List Tuple × ℕ) (runs : List (List Tuple × ℕ)) : Type 0 where
  pub idents : idents_of runs ≡ map f (run_idents run.0 run.1)
  pub apart : IsTrue (are_apart None runs)

-- the run after which the next one stands, after these runs
abbrev pub run_before : Option (List Tuple × ℕ) → List (List Tuple × ℕ) → Option (List Tuple × ℕ)
run_before before [] = before
run_before before (r ∷ rs) = run_before (Some r) rs

-- the offset after the greatest one
abbrev pub past_offsets : ℤ
past_offsets = pos OFFSETS_END

-- an identifier of the program's range and a length, from 1 on, with no offset above the greatest one
abbrev pub is_run : List Tuple × ℕ → Bool
is_run r = is_ident r.0 && is_bounded r.0 && nat_lt 0 r.1 && int_le (offset_of (last_of r.0) +ℤ pos r.1) past_offsets

-- the place of x in a list that begins at place i, by a comparison with its first identifier
abbrev pub placed : Ordering → ℕ → Result ℕ ℕ → Result ℕ ℕ
placed Less i later = later
placed Equal i later = Ok i
placed Greater i later = Err i

-- the place of x, where the list begins at place i, or else the number of identifiers below it
abbrev pub place_from : ℕ → List Tuple → List (List Tuple) → Result ℕ ℕ
place_from i x [] = Err i
place_from i x (y ∷ ys) = placed (ident_cmp y x) i (place_from (suc i) x ys)

-- the place of x in a strictly increasing list, or else the number of identifiers below it
unfoldable pub place_of : List Tuple → List (List Tuple) → Result ℕ ℕ
place_of x ys = place_from 0 x ys

-- how many identifiers stand before each run, where n stand before the first one
abbrev pub starts_of : ℕ → List (List Tuple × ℕ) → List ℕ
starts_of n [] = []
starts_of n (r ∷ rs) = n ∷ starts_of (n + r.1) rs

-- maximal runs, with the number of identifiers before each and in all
pub record AreRuns (runs : List (List Tuple × ℕ)) (starts : List ℕ) (total : ℕ) : Type 0 where
  pub apart : IsTrue (are_apart None runs)
  pub sound : IsTrue (list_all is_run runs)
  pub starts_are : starts ≡ starts_of 0 runs
  pub total_is : total ≡ length (idents_of runs)
