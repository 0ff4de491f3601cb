-- Operations kept as bytes.
use Rattle.std.specs.Prelude.{◌≡◌, ℕ, ◌+◌, ◌-◌, ◌≤◌, List, [], length, drop, All, None, Result, Ok, Err, map, slice_range}
use Rattle.rls_ident.specs.declared.epoch_name.EpochName.TheVariants.{Origin}
use Rattle.rls_ops.specs.declared.op.Op.{Op}
use Rattle.rls_ops.specs.declared.op.Body.TheVariants.{Leave}
use Rattle.rls_ops.specs.Spelling.{op_bytes}
use Rattle.rls_codec.specs.Reading.{op_fields_at, op_at, chain_at}
use Rattle.rls_codec.specs.Spelled.{FieldsFit}
use Rattle.rls_log.specs.declared.entry.Entry.{Entry}
use Rattle.rls_log.specs.Heads.{IsHeadOf}

-- any operation
abbrev pub no_op : Op
no_op = record { author = 0; seq = 0; context = []; epoch = Origin; body = Leave }

abbrev pub op_or_none : Result (Op × List ℕ) ℕ → Op
op_or_none (Ok x) = x.0
op_or_none (Err left) = no_op

-- the operation that the bytes spell, where there are so many members
unfoldable pub op_spelled : ℕ → List ℕ → Op
op_spelled members bytes = op_or_none (op_fields_at members bytes)

-- the bytes spell an operation, and nothing follows it
pub record SpellOne (members : ℕ) (bytes : List ℕ) : Type 0 where
  pub fits : FieldsFit members (op_spelled members bytes)
  pub bytes_are : bytes ≡ op_bytes (op_spelled members bytes)

-- the bytes of an entry
abbrev pub part_of : List ℕ → Entry → List ℕ
part_of bytes e = slice_range bytes e.start (e.start + e.len)

-- the operation that the bytes of an entry spell
abbrev pub op_in : List ℕ → Entry → Op
op_in bytes e = op_spelled e.head.members (part_of bytes e)

-- the operations of the entries, in order
abbrev pub ops_in : List ℕ → List Entry → List Op
ops_in bytes es = map (op_in bytes) es

-- the bytes of the entry spell an operation, of which its head tells
pub record IsEntry (bytes : List ℕ) (e : Entry) : Type 0 where
  pub within : e.start + e.len ≤ length bytes
  pub spelled : SpellOne e.head.members (part_of bytes e)
  pub head : IsHeadOf e.head (op_in bytes e)

-- each does
abbrev pub AreEntries : List ℕ → List Entry → Type 0
AreEntries bytes es = All (IsEntry bytes) es

-- the operation at the front of the last bytes of these was read, and this is its entry
pub record EntryFound (all bytes : List ℕ) (members : ℕ) (e : Entry) (rest : List ℕ) : Type 0 where
  pub read : op_at members bytes ≡ Ok (op_in all e, rest)
  pub entry : IsEntry all e
  pub end : e.start + e.len ≡ length all - length rest
  pub cut : length rest ≤ length bytes
  pub short : length rest ≤ length all
  pub back : drop (length all - length rest) all ≡ rest

-- so many operations at the front of the bytes were read, and these are their entries
pub record EntriesFound (bytes : List ℕ) (members count : ℕ) (es : List Entry) (rest : List ℕ) : Type 0 where
  pub read : chain_at (λ before. op_at members) None count bytes ≡ Ok (ops_in bytes es, rest)
  pub entries : AreEntries bytes es
  pub ends : All (λ e. e.start + e.len ≤ length bytes - length rest) es
  pub short : length rest ≤ length bytes
