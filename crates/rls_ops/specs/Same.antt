-- Equal operations, by a test of each field.
use Rattle.std.specs.Prelude.{◌≡◌, ◌↔◌, ℕ, Bool, true, false, ◌&&◌, List, ◌==◌, IsTrue}
use Rattle.std.specs.Ordering.{is_eq, nat_cmp}
use Rattle.std.specs.Cmp.Lexicographic.{slice_cmp}
use Rattle.rls_ident.specs.declared.tuple.Tuple.{Tuple}
use Rattle.rls_ident.specs.Identifiers.{ident_cmp, ident_eq}
use Rattle.rls_ident.specs.EpochNames.{name_eq}
use Rattle.rls_ops.specs.declared.op.Op.{Op}
use Rattle.rls_ops.specs.declared.op.Body.{Body}
use Rattle.rls_ops.specs.declared.op.Body.TheVariants.{Insert, Delete, Rename, Leave}

-- equal lists of numbers
abbrev pub numbers_eq : List ℕ → List ℕ → Bool
numbers_eq v w = is_eq (slice_cmp nat_cmp v w)

-- equal lists of identifiers
abbrev pub idents_eq : List (List Tuple) → List (List Tuple) → Bool
idents_eq xs ys = is_eq (slice_cmp ident_cmp xs ys)

-- equal bodies
abbrev pub body_eq : Body → Body → Bool
body_eq (Insert x s) (Insert y t) = ident_eq x y && numbers_eq s t
body_eq (Delete xs) (Delete ys) = idents_eq xs ys
body_eq (Rename xs) (Rename ys) = idents_eq xs ys
body_eq Leave Leave = true
body_eq _ _ = false

-- equal in every field
abbrev pub op_eq : Op → Op → Bool
op_eq o p = (o.author == p.author) && (o.seq == p.seq) && numbers_eq o.context p.context && name_eq o.epoch p.epoch && body_eq o.body p.body

-- the test says that two operations are equal
abbrev pub TestsEqual : Type 0
TestsEqual = (o p : Op) → IsTrue (op_eq o p) ↔ (o ≡ p)
