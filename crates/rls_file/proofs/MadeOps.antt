-- An edit that has no fault makes an operation that has a spelling.
use Rattle.std.proofs.Common.{◌≡◌, ℕ, zero, suc, ◌^◌, ◌<◌, ◌≤◌, false, List, length, take, drop, Option, Some, None, refl, subst, arith}
use Rattle.std.specs.Prelude.{◌==◌, All, nat_lt, slice_get}
use Rattle.rls_ident.specs.declared.limits.TheConstants.{OPERATION_BYTES, GREATEST_NUMBER}
use Rattle.rls_ident.specs.declared.tuple.Tuple.{Tuple}
use Rattle.rls_ident.specs.declared.epoch_name.EpochName.{EpochName}
use Rattle.rls_ident.specs.declared.epoch_name.EpochName.TheVariants.{Origin, Of}
use Rattle.rls_ident.specs.Lists.{IsIn}
use Rattle.rls_ident.proofs.Members.{get_in, in_drop, in_take, not_lt_is, not_zero}
use Rattle.rls_runs.specs.Runs.{AreIdents, runs_of}
use Rattle.rls_ops.specs.declared.op.Body.{Body}
use Rattle.rls_ops.specs.Shapes.{is_empty}
use Rattle.rls_ops.specs.Sizes.{op_size}
use Rattle.rls_ops.proofs.Shaped.{shaped}
use Rattle.rls_ops.specs.WellFormed.{IsSmall}
use Rattle.rls_codec.specs.Gives.{IsShort}
use Rattle.rls_codec.specs.Spelled.{FitRuns, FitsBody, FitsName, IsSpelled}
use Rattle.rls_codec.proofs.Fits.{op_fits, runs_fit, text_fits}
use Rattle.rls_codec.proofs.Ranged.{AllRanged, IsRanged, ranged_tuples}
use Rattle.rls_codec.proofs.SizeLaws.{short_op}
use Rattle.rls_model.specs.declared.edit.Edit.{Edit}
use Rattle.rls_model.specs.declared.edit.Edit.TheVariants as edits
use Rattle.rls_model.specs.declared.edit.EditError.TheVariants as faults
use Rattle.rls_model.specs.Document.{idents}
use Rattle.rls_model.specs.Editing.{edit_fault, first_between, get_before, made, made_body, next_seq, size_fault}
use Rattle.rls_model.specs.History.{History, count_of, me_of, members_of}
use Rattle.rls_model.specs.Legal.{IsLegal}
use Rattle.rls_model.specs.Stems.{stems}
use Rattle.rls_model.specs.WellFormed.{IsBody, IsEdit, IsName}
use Rattle.rls_model.proofs.Made as making
use Rattle.rls_model.proofs.Made.{fault_split}
use Rattle.rls_model.proofs.OneTree.{none_else}
use Rattle.rls_file.specs.FileLaws.{AreSpelled}
use Rattle.rls_file.proofs.HistoryIdents.{IsShortRun, all_ranged, idents_ranged, ranged_runs_fit}
use Rattle.rls_file.proofs.RangedIdents.{IsRangedBound, first_ranged}

list_fits : (xs : List (List Tuple)) → AreIdents xs → AllRanged xs → (length (runs_of xs) < 2 ^ 32) × All IsShortRun (runs_of xs) → FitRuns xs
list_fits xs i a short = runs_fit xs short.0 (ranged_runs_fit xs i a short.1) i

name_fits : (e : EpochName) → IsName e → FitsName e
name_fits Origin h = tt
name_fits (Of r s) h = h

bound_ranged : (xs : List (List Tuple)) → ((x : List Tuple) → IsIn x xs → IsRanged x) → (k : ℕ) → IsRangedBound (slice_get xs k)
bound_ranged xs f k = go (slice_get xs k) refl
  where
    go : (m : Option (List Tuple)) → slice_get xs k ≡ m → IsRangedBound m
    go None e = tt
    go (Some x) e = f x (get_in xs k x e)

before_ranged : (xs : List (List Tuple)) → ((x : List Tuple) → IsIn x xs → IsRanged x) → (k : ℕ) → IsRangedBound (get_before xs k)
before_ranged xs f zero = tt
before_ranged xs f (suc k) = bound_ranged xs f k

-- what is known of the operation of an edit
record IsMade (H : History) (b : Body) : Type 0 where
  legal : IsLegal H
  spelled : AreSpelled H
  me : IsSmall (me_of H)
  seq : IsSmall (next_seq H)
  body : IsBody b
  some : is_empty b ≡ false
  short : IsShort b

body_fits : (H : History) (edit : Edit) → IsMade H (made_body H edit) → FitsBody (made_body H edit)
body_fits H (edits.Insert at cs) m =
    let xs = idents H in
    let f = idents_ranged H m.legal m.spelled in
    let n = not_zero (length cs) m.some in
    ((m.short.0, ranged_tuples (first_between (stems H) (me_of H) (next_seq H) (get_before xs at) (slice_get xs at) (length cs)) m.body.0 (first_ranged (stems H) (me_of H) (next_seq H) (get_before xs at) (slice_get xs at) (length cs) n (before_ranged xs f at) (bound_ranged xs f at) m.me m.seq)), text_fits cs m.short.1 m.body.1)
body_fits H (edits.Delete at n) m =
    list_fits (take n (drop at (idents H))) m.body (all_ranged (take n (drop at (idents H))) (λ x p. idents_ranged H m.legal m.spelled x (in_drop at x (idents H) (in_take n x (drop at (idents H)) p)))) m.short
body_fits H edits.Rename m = list_fits (idents H) m.body (all_ranged (idents H) (idents_ranged H m.legal m.spelled)) m.short
body_fits H edits.Leave m = tt

size_of : (n : ℕ) → size_fault n ≡ None → n ≤ OPERATION_BYTES
size_of n h = not_lt_is OPERATION_BYTES n (none_else (nat_lt OPERATION_BYTES n) (faults.OpTooLarge n) None h).0

pub made_spelled : (H : History) (edit : Edit) → IsLegal H → AreSpelled H → IsEdit edit → edit_fault H edit ≡ None → IsSpelled (members_of H) (made H edit)
unfolding made
made_spelled H edit l s i f =
    let o = made H edit in
    let fits = making.law H edit l i f in
    let size = size_of (op_size o) (none_else (count_of H (me_of H) == GREATEST_NUMBER) faults.NumbersSpent _ (fault_split H edit f).2).1 in
    let w = fits.1 in
    let shape = shaped (members_of H) o fits.2.shape in
    let m : IsMade H (made_body H edit) = record { legal = l; spelled = s; me = w.author; seq = w.seq; body = w.body; some = shape.some; short = short_op o (omega arith) } in
    subst (λ n. IsSpelled n o) shape.context (op_fits o w.author w.seq w.context (name_fits o.epoch w.epoch) (body_fits H edit m) size)
