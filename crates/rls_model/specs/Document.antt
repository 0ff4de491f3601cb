-- The characters of a history and the text that they make.
-- Why: docs/DECISIONS.md, 88.
use Rattle.std.specs.Prelude.{ℕ, suc, pos, Bool, not, List, [], ◌∷◌, ◌++◌, map, filter}
use Rattle.std.specs.List.{list_any}
use Rattle.rls_ident.specs.declared.tuple.Tuple.{Tuple}
use Rattle.rls_ident.specs.declared.epoch_name.EpochName.{EpochName}
use Rattle.rls_ident.specs.Identifiers.{shifted}
pub use Rattle.rls_runs.specs.Entries.{has_ident, put, put_all}
use Rattle.rls_ops.specs.declared.op.Op.{Op}
use Rattle.rls_ops.specs.declared.op.Body.{Body}
use Rattle.rls_ops.specs.declared.op.Body.TheVariants.{Insert, Delete, Rename, Leave}
use Rattle.rls_model.specs.History.{History, ops}
use Rattle.rls_model.specs.Epochs.{greatest, translate}

-- a character with its author, its operation's number, its place there, and the epoch and the identifier of its birth
pub record Character : Type 0 where
  pub author : ℕ
  pub seq : ℕ
  pub place : ℕ
  pub epoch : EpochName
  pub ident : List Tuple
  pub char : ℕ

-- the characters of an insertion from place i on, the first with identifier x
abbrev pub chars_from : Op → ℕ → List Tuple → List ℕ → List Character
chars_from o i x [] = []
chars_from o i x (c ∷ cs) =
    record { author = o.author; seq = o.seq; place = i; epoch = o.epoch; ident = x; char = c }
    ∷ chars_from o (suc i) (shifted (pos 1) x) cs

-- the characters of an operation with this body
abbrev pub chars_of : Op → Body → List Character
chars_of o (Insert first text) = chars_from o 0 first text
chars_of o (Delete targets) = []
chars_of o (Rename former) = []
chars_of o Leave = []

-- the characters of these operations
abbrev pub chars_of_all : List Op → List Character
chars_of_all [] = []
chars_of_all (o ∷ os) = chars_of o o.body ++ chars_of_all os

-- each character that was ever inserted
unfoldable pub chars : History → List Character
chars H = chars_of_all (ops H)

-- the identifiers that a body deletes
abbrev pub targets_of : Body → List (List Tuple)
targets_of (Insert first text) = []
targets_of (Delete targets) = targets
targets_of (Rename former) = []
targets_of Leave = []

-- the character's identifier in this epoch
abbrev pub ident_in : History → EpochName → Character → List Tuple
ident_in H e c = translate H c.epoch e c.ident

-- some deletion names the character: it has a target equal to the character's identifier in its epoch
unfoldable pub is_named : History → Character → Bool
is_named H c = list_any (λ d. has_ident (targets_of d.body) (ident_in H d.epoch c)) (ops H)

-- the characters that no deletion names
unfoldable pub live : History → List Character
live H = filter (λ c. not (is_named H c)) (chars H)

-- the live characters in the order of their identifiers in the greatest epoch
unfoldable pub export : History → List (List Tuple × ℕ)
export H = put_all (map (λ c. (ident_in H (greatest H) c, c.char)) (live H)) []

-- the identifiers of the text
unfoldable pub idents : History → List (List Tuple)
idents H = map (λ entry. entry.0) (export H)

-- the characters of the text
unfoldable pub text : History → List ℕ
text H = map (λ entry. entry.1) (export H)
