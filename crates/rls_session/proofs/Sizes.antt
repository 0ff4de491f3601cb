-- What is told of a rename.
use Rattle.std.proofs.Common.{◌≡◌, ◌∙◌, ◌+◌, ◌==◌, ℕ, Bool, true, false, cond, nat_lt, List, ◌∷◌, length, drop, sum_by, Some, None, refl, sym, ap, arith}
use Rattle.std.specs.Prelude.{slice_get}
use Rattle.rls_ident.specs.declared.limits.TheConstants.{IDENTIFIERS, GREATEST_NUMBER, OPERATION_BYTES}
use Rattle.rls_ident.proofs.Members.{lt_is, not_lt_is}
use Rattle.rls_ops.specs.declared.op.Op.{Op}
use Rattle.rls_ops.specs.Rows.{is_covered, missing_for}
use Rattle.rls_ops.specs.Sizes.{op_size}
use Rattle.rls_log.proofs.Steps.{size_next}
use Rattle.rls_log.proofs.Uncovered.{covered_step, uncovered_step}
use Rattle.rls_runs.specs.Runs.{runs_of}
use Rattle.rls_model.specs.declared.counts.Counts.{Counts}
use Rattle.rls_model.specs.declared.edit.EditError.TheVariants.{EmptyDocument, Left, NumbersSpent, OpTooLarge, TooManyChars}
use Rattle.rls_model.specs.EditParts.{or_fault}
use Rattle.rls_model.specs.Receiving.{State}
use Rattle.rls_model.specs.Rules.{own_count}
use Rattle.rls_seen.specs.Edits.{edit_fault_over, made_over}
use Rattle.rls_seen.specs.Kept.{counts_over}
use Rattle.rls_seen.specs.Seen.{Seen, idents_over, unstable_over}
use Rattle.rls_seen.specs.Stands.{StandsFor}
use Rattle.rls_seen.specs.View.{plain}
use Rattle.rls_seen.proofs.Editing.{plain_alike}
use Rattle.rls_session.specs.Costs.{RenamesAsTold, TellsSize, costs_in, costs_of, costs_over, own_of, rename_size, tuples_in}

-- the same of a replica and of what it stands for
pub costs_alike : (s : Seen) (t : State) → StandsFor s t → costs_over s ≡ costs_of t
unfolding costs_over costs_of
costs_alike s t h = ap costs_in (plain_alike s t h)

-- number by number
pub costs_are : (s : Seen) (c : Counts) (size tuples own bytes : ℕ) → c ≡ counts_over s → size ≡ rename_size (plain s) → tuples ≡ tuples_in (runs_of (idents_over s)) → own ≡ length (own_of s.acks.me (unstable_over s))
    → bytes ≡ sum_by op_size (own_of s.acks.me (unstable_over s)) → record { rename = size; runs = c.runs; tuples = tuples; epochs = c.epochs; own = own; bytes = bytes } ≡ costs_over s
unfolding costs_over counts_over
costs_are s c size tuples own bytes e f g h k = λ i. record { rename = f i; runs = (e i).runs; tuples = g i; epochs = (e i).epochs; own = h i; bytes = k i }

-- by the reasons for which a rename may be refused, one after another
by_reasons : (size total : ℕ) (left empty many spent large : Bool) → nat_lt OPERATION_BYTES size ≡ large
    → TellsSize (cond left (Some Left) (or_fault (cond empty (Some EmptyDocument) (cond many (Some (TooManyChars total)) None)) (cond spent (Some NumbersSpent) (cond large (Some (OpTooLarge size)) None)))) size
by_reasons size total true empty many spent large e = record { fits = λ f. cc; told = λ n f. cc }
by_reasons size total false true many spent large e = record { fits = λ f. cc; told = λ n f. cc }
by_reasons size total false false true spent large e = record { fits = λ f. cc; told = λ n f. cc }
by_reasons size total false false false true large e = record { fits = λ f. cc; told = λ n f. cc }
by_reasons size total false false false false true e = record { fits = λ f. cc; told = λ n f. (cc, lt_is OPERATION_BYTES size e) }
by_reasons size total false false false false false e = record { fits = λ f. not_lt_is OPERATION_BYTES size e; told = λ n f. cc }

pub renames_as_told : RenamesAsTold
unfolding costs_over edit_fault_over made_over
renames_as_told s =
    let v = plain s in
    let total = length v.idents in
    by_reasons (rename_size v) total v.has_left (total == 0) (nat_lt IDENTIFIERS total) (own_count v == GREATEST_NUMBER) (nat_lt OPERATION_BYTES (rename_size v)) refl

-- ---- own operations, counted one after another

-- those from a place on, by whose operation is there
own_more : (me : ℕ) (v : List ℕ) (os : List Op) (i : ℕ) (o : Op) (b : Bool) → slice_get os i ≡ Some o → is_covered v o ≡ false → (o.author == me) ≡ b
    → own_of me (missing_for v (drop i os)) ≡ cond b (o ∷ own_of me (missing_for v (drop (i + 1) os))) (own_of me (missing_for v (drop (i + 1) os)))
own_more me v os i o b h e is =
    let rest : List Op = own_of me (missing_for v (drop (i + 1) os)) in
    ap (own_of me) (sym (uncovered_step v os i o h e)) ∙ ap (λ (c : Bool). cond c (o ∷ rest) rest) is

-- an own one counts one more, and its bytes
pub own_counts : (me : ℕ) (v : List ℕ) (os : List Op) (i : ℕ) (o : Op) → slice_get os i ≡ Some o → is_covered v o ≡ false → (o.author == me) ≡ true
    → (length (own_of me (missing_for v (drop i os))) ≡ length (own_of me (missing_for v (drop (i + 1) os))) + 1)
    × (sum_by op_size (own_of me (missing_for v (drop i os))) ≡ op_size o + sum_by op_size (own_of me (missing_for v (drop (i + 1) os))))
own_counts me v os i o h e is =
    let next = own_more me v os i o true h e is in
    (omega (arith, ap length next), size_next o (own_of me (missing_for v (drop (i + 1) os))) (own_of me (missing_for v (drop i os))) next)

-- another one and a covered one count nothing
pub other_counts : (me : ℕ) (v : List ℕ) (os : List Op) (i : ℕ) (o : Op) → slice_get os i ≡ Some o → is_covered v o ≡ false → (o.author == me) ≡ false
    → own_of me (missing_for v (drop i os)) ≡ own_of me (missing_for v (drop (i + 1) os))
other_counts me v os i o h e is = own_more me v os i o false h e is

pub covered_counts : (me : ℕ) (v : List ℕ) (os : List Op) (i : ℕ) (o : Op) → slice_get os i ≡ Some o → is_covered v o ≡ true
    → own_of me (missing_for v (drop i os)) ≡ own_of me (missing_for v (drop (i + 1) os))
covered_counts me v os i o h e = ap (own_of me) (sym (covered_step v os i o h e))
