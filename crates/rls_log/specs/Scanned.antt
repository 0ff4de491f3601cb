-- Reading without keeping: what is found out of a part, and the bytes after it.
use Rattle.std.specs.Prelude.{ℕ, zero, suc, ◌-◌, pos, ◌+ℤ◌, Bool, true, ◌&&◌, not, List, length, slice_index, nat_lt, nat_le, ◌==◌, is_some, Ok, Option}
use Rattle.std.specs.Int.{w32}
use Rattle.std.specs.Int.RustNames.{int_le}
use Rattle.rls_ident.specs.declared.limits.TheConstants.{OFFSETS_END}
use Rattle.rls_ident.specs.declared.tuple.Tuple.{Tuple}
use Rattle.rls_ident.specs.Tuples.{offset_of}
use Rattle.rls_ops.specs.declared.op.Shape.{Shape}
use Rattle.rls_ops.specs.Shapes.{insertion_fault, listed_fault}
use Rattle.rls_codec.specs.Reading.{◌>>=◌, Read, with_rule, byte_at, number_at, inner_at, last_at, many_at, text_at, vector_at, name_at, runs_at}
use Rattle.rls_log.specs.declared.head.OpHead.{OpHead}
use Rattle.rls_log.specs.declared.head.OpKind.{OpKind}
use Rattle.rls_log.specs.declared.head.OpKind.TheVariants as kind

-- what is found out of a value that is read
abbrev pub finding : {A B : Type 0} → (A → B) → Read A → Read B
finding f read = read >>= λ x. Ok (f x.0, x.1)

-- so many tuples before another are passed over
abbrev pub skipped_at : ℕ → List ℕ → Read ℕ
skipped_at n bytes = finding (λ ts. 0) (many_at inner_at n bytes)

-- the last tuple of an identifier
unfoldable pub ident_end_at : List ℕ → Read Tuple
ident_end_at bytes = do
  count ← with_rule (nat_lt 0) (number_at w32) bytes
  front ← skipped_at (count.0 - 1) count.1
  last_at front.1

-- the length leaves each offset within the greatest, where this is the last tuple of the first identifier
abbrev pub is_len_after : Tuple → ℕ → Bool
is_len_after last n = nat_lt 0 n && int_le (offset_of last +ℤ pos n) (pos OFFSETS_END)

-- how many identifiers a run has
unfoldable pub run_len_at : List ℕ → Read ℕ
run_len_at bytes = do
  last ← ident_end_at bytes
  with_rule (is_len_after last.0) (number_at w32) last.1

-- how many identifiers a list of runs has
abbrev pub idents_len_at : List ℕ → Read ℕ
idents_len_at bytes = finding length (runs_at bytes)

-- there is no fault
abbrev pub is_none : Option Shape → Bool
is_none fault = not (is_some fault)

-- what a body of this kind does, and whether its shape is right
abbrev pub found_of_kind : ℕ → List ℕ → Read (OpKind × Bool)
found_of_kind zero bytes = do
  last ← ident_end_at bytes
  text ← text_at last.1
  Ok ((kind.Insert, is_none (insertion_fault last.0 (length text.0))), text.1)
found_of_kind (suc zero) bytes = idents_len_at bytes >>= λ n. Ok ((kind.Delete, is_none (listed_fault n.0)), n.1)
found_of_kind (suc (suc zero)) bytes = idents_len_at bytes >>= λ n. Ok ((kind.Rename, is_none (listed_fault n.0)), n.1)
found_of_kind (suc (suc (suc k))) bytes = Ok ((kind.Leave, true), bytes)

unfoldable pub body_found_at : List ℕ → Read (OpKind × Bool)
body_found_at bytes = with_rule (λ k. nat_le k 3) byte_at bytes >>= λ k. found_of_kind k.0 k.1

-- a vector's count of one member
abbrev pub count_at : ℕ → ℕ → List ℕ → Read ℕ
count_at members a bytes = finding (λ v. slice_index v a) (vector_at members bytes)

-- the shape is right, by author, number, the context's count of the author, and the body
abbrev pub fits_as : ℕ → ℕ → ℕ → ℕ → Bool → Bool
fits_as members author seq own body = nat_lt author members && nat_lt 0 seq && (own == seq - 1) && body

-- what is known of an operation without its body
unfoldable pub head_at : ℕ → List ℕ → Read OpHead
head_at members bytes = do
  author ← number_at w32 bytes
  seq ← number_at w32 author.1
  own ← count_at members author.0 seq.1
  epoch ← name_at own.1
  found ← body_found_at epoch.1
  Ok (record { author = author.0; seq = seq.0; epoch = epoch.0; members = members; kind = found.0.0; is_shaped = fits_as members author.0 seq.0 own.0 found.0.1 }, found.1)
