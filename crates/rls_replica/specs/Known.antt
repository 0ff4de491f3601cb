-- What is remembered of the identifiers that are known.
use Rattle.std.specs.Prelude.{◌≡◌, ◌<◌, ◌⊎◌, ℕ, true, false, List, Some, slice_get, map}
use Rattle.rls_ident.specs.declared.tuple.Tuple.{Tuple}
use Rattle.rls_ident.specs.declared.epoch_name.EpochName.{EpochName}
use Rattle.rls_ident.specs.Identifiers.{IsIdent}
use Rattle.rls_ident.specs.Lists.{IsIn}
use Rattle.rls_runs.specs.Runs.{joined}
use Rattle.rls_rename.specs.Tree.{Epochs, greatest, translate}
use Rattle.rls_ops.specs.declared.op.Op.{Op}
use Rattle.rls_ops.specs.declared.op.Body.{Body}
use Rattle.rls_ops.specs.declared.op.Body.TheVariants.{Insert, Delete, Rename, Leave}
use Rattle.rls_ops.specs.Rows.{is_covered}
use Rattle.rls_seen.specs.Seen.{Seen, greatest_over}
use Rattle.rls_seen.specs.Over.{is_known_over}
use Rattle.rls_replica.specs.declared.known.Known.{Known}

-- each of these identifiers of the greatest epoch is known
abbrev pub AllKnown : Seen → List (List Tuple) → Type 0
AllKnown s ids = (x : List Tuple) → IsIn x ids → IsIdent x × (is_known_over s (greatest_over s) x ≡ true)

-- each that is remembered, and wasn't lost since, is known
abbrev pub IsKnown : Seen → Known → Type 0
IsKnown s k = (x : List Tuple) → IsIn x (joined k.lists.items) → (IsIn x (joined k.lost.items) → ⊥) → IsIdent x × (is_known_over s (greatest_over s) x ≡ true)

-- the first targets, so many, are known
abbrev pub FrontKnown : Seen → EpochName → List (List Tuple) → ℕ → Type 0
FrontKnown s e ts n = (k : ℕ) (x : List Tuple) → k < n → slice_get ts k ≡ Some x → is_known_over s e x ≡ true

-- of what was remembered this is kept when an operation with such a body is accepted, after which a vector is stable: with an insertion, or a deletion that isn't stable
-- at once, all of it; with another deletion its targets are lost; with any other nothing
abbrev pub KeepsKnown : Epochs → List ℕ → Op → Body → Known → Known → Type 0
KeepsKnown E v o (Insert first text) was k = k ≡ was
KeepsKnown E v o (Delete targets) was k =
    ((is_covered v o ≡ false) × (k ≡ was))
    ⊎ ((k.lists ≡ was.lists) × ((x : List Tuple) → IsIn x (joined was.lost.items) ⊎ IsIn x (map (translate E.nodes o.epoch (greatest E.top E.nodes)) targets) → IsIn x (joined k.lost.items)))
KeepsKnown E v o (Rename former) was k = ⊥
KeepsKnown E v o Leave was k = ⊥
