-- What a rename would bring, and how it is told.
use Rattle.std.specs.Prelude.{◌≡◌, ◌<◌, ◌≤◌, ◌==◌, ℕ, List, [], ◌∷◌, ◌++◌, codes, filter, length, sum_by, Option, Some, None}
use Rattle.std.specs.Fmt.{decimal}
use Rattle.std.specs.List.{concat}
use Rattle.rls_ident.specs.declared.limits.TheConstants.{OPERATION_BYTES}
use Rattle.rls_ident.specs.declared.tuple.Tuple.{Tuple}
use Rattle.rls_runs.specs.Runs.{runs_of}
use Rattle.rls_ops.specs.declared.op.Op.{Op}
use Rattle.rls_ops.specs.Sizes.{op_size}
use Rattle.rls_model.specs.declared.edit.Edit.TheVariants as edits
use Rattle.rls_model.specs.declared.edit.EditError.{EditError}
use Rattle.rls_model.specs.declared.edit.EditError.TheVariants.{OpTooLarge}
use Rattle.rls_model.specs.Receiving.{State}
use Rattle.rls_model.specs.Rules.{made}
use Rattle.rls_model.specs.View.{Plain, plain_of}
use Rattle.rls_report.specs.Texts.{line}
use Rattle.rls_seen.specs.Edits.{edit_fault_over}
use Rattle.rls_seen.specs.Seen.{Seen}
use Rattle.rls_seen.specs.View.{plain}
use Rattle.rls_session.specs.declared.costs.Costs.{Costs}

-- the bytes of the operation that a rename makes, whether or not it is refused: of an empty text it names nothing
abbrev pub rename_size : Plain → ℕ
rename_size v = op_size (made v edits.Rename)

-- the tuples of these runs' first identifiers
abbrev pub tuples_in : List (List Tuple × ℕ) → ℕ
tuples_in rs = sum_by (λ r. length r.0) rs

-- the operations of this member
abbrev pub own_of : ℕ → List Op → List Op
own_of me os = filter (λ o. o.author == me) os

-- the numbers that are told
abbrev pub costs_in : Plain → Costs
costs_in v = record {
  rename = rename_size v;
  runs = length (runs_of v.idents);
  tuples = tuples_in (runs_of v.idents);
  epochs = length v.retained;
  own = length (own_of v.me v.unstable);
  bytes = sum_by op_size (own_of v.me v.unstable);
}

-- of a history, and of what a replica consists of
unfoldable pub costs_of : State → Costs
costs_of t = costs_in (plain_of t.history)

unfoldable pub costs_over : Seen → Costs
costs_over s = costs_in (plain s)

-- in words: the first of them, and all
abbrev pub rename_words : ℕ → ℕ → ℕ → List ℕ
rename_words size runs tuples = concat (codes "rename " ∷ decimal size ∷ codes " limit " ∷ decimal OPERATION_BYTES ∷ codes " runs " ∷ decimal runs ∷ codes " tuples " ∷ decimal tuples ∷ [])

abbrev pub costs_text : Costs → List ℕ
costs_text c =
    rename_words c.rename c.runs c.tuples ++ line (codes " epochs " ∷ decimal c.epochs ∷ codes " own " ∷ decimal c.own ∷ codes " bytes " ∷ decimal c.bytes ∷ [])

-- What is told of a rename's size decides: where it is above the limit no rename is made, and where a rename is refused as too large this is the size
-- that is told then. Other reasons come before it.
pub record TellsSize (fault : Option EditError) (size : ℕ) : Type 0 where
  pub fits : fault ≡ None → size ≤ OPERATION_BYTES
  pub told : (n : ℕ) → fault ≡ Some (OpTooLarge n) → (n ≡ size) × (OPERATION_BYTES < size)

abbrev pub RenamesAsTold : Type 0
RenamesAsTold = (s : Seen) → TellsSize (edit_fault_over s edits.Rename) (costs_over s).rename
