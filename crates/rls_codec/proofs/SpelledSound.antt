-- What is spelled is well formed.
use Rattle.std.proofs.Common.{◌≡◌, ℕ, true, List, [], ◌∷◌, Option, Some, None, refl, subst}
use Rattle.std.specs.Prelude.{pos, ◌+ℤ◌, All, ◌&&◌, nat_lt, int_le, ◌≤ℤ◌}
use Rattle.std.specs.List.{list_all}
use Rattle.std.proofs.lemmas.List.Elements.{All-cons, All-nil}
use Rattle.rls_ident.specs.declared.tuple.Tuple.{Tuple}
use Rattle.rls_ident.specs.declared.tuple.Tuple.TheVariants.{Low, At, High}
use Rattle.rls_ident.specs.declared.epoch_name.EpochName.{EpochName}
use Rattle.rls_ident.specs.declared.epoch_name.EpochName.TheVariants.{Origin, Of}
use Rattle.rls_ident.specs.Tuples.{offset_of}
use Rattle.rls_ident.specs.Identifiers.{is_ident, is_bounded, is_inner_bounded, last_of, least_offset, greatest_offset}
use Rattle.rls_ident.proofs.Members.{and_left, and_right, and_true, int_le_is}
use Rattle.rls_runs.specs.Runs.{runs_of, idents_of, is_run, past_offsets, AreIdents}
use Rattle.rls_runs.proofs.RunOrder.{all_idents, idents_rise, increasing_of}
use Rattle.rls_runs.proofs.Texts.{all_of_scalars}
use Rattle.rls_ops.specs.declared.op.Op.{Op}
use Rattle.rls_ops.specs.declared.op.Body.{Body}
use Rattle.rls_ops.specs.declared.op.Body.TheVariants.{Insert, Delete, Rename, Leave}
use Rattle.rls_codec.specs.Spelled.{Chained, FitsInner, FitTuples, FitsRun, FitsBehind, FitRuns, FitsName, FitsBody, FitsVector, IsSpelled}
use Rattle.rls_codec.proofs.MessageFormats.{apart_from}
use Rattle.rls_ops.specs.WellFormed.{IsSmall, IsName, IsBody, IsOp, IsVector, IsInRange}

pub chain_small : (before : Option ℕ) (v : List ℕ) → Chained (λ b. IsSmall) before v → All IsSmall v
chain_small before [] c = All-nil IsSmall
chain_small before (n ∷ v) c = All-cons IsSmall n v c.0 (chain_small (Some n) v c.1)

pub fits_vector : (members : ℕ) (v : List ℕ) → FitsVector members v → IsVector members v
fits_vector members v f = (f.0, chain_small None v f.1)

pub fits_name : (e : EpochName) → FitsName e → IsName e
fits_name Origin f = tt
fits_name (Of r s) f = f

pub inner_bounded : (t : Tuple) → FitsInner t → is_inner_bounded t ≡ true
inner_bounded (At p r s o) f = f.3
inner_bounded Low f = refl
inner_bounded High f = refl

pub tuples_ident : (x : List Tuple) → FitTuples x → is_ident x ≡ true
tuples_ident [] f = absurd f
tuples_ident (At p r s o ∷ []) f = refl
tuples_ident (Low ∷ []) f = absurd f
tuples_ident (High ∷ []) f = absurd f
tuples_ident (t ∷ (u ∷ x)) f = tuples_ident (u ∷ x) f.1

pub tuples_bounded : (x : List Tuple) → FitTuples x → is_bounded x ≡ true
tuples_bounded [] f = absurd f
tuples_bounded (At p r s o ∷ []) f = f.3
tuples_bounded (Low ∷ []) f = absurd f
tuples_bounded (High ∷ []) f = absurd f
tuples_bounded (t ∷ (u ∷ x)) f = and_true (is_inner_bounded t) (is_bounded (u ∷ x)) (inner_bounded t f.0) (tuples_bounded (u ∷ x) f.1)

pub run_sound : (r : List Tuple × ℕ) → FitsRun r → is_run r ≡ true
run_sound r f =
    let a = is_ident r.0 in
    let b = is_bounded r.0 in
    let c = nat_lt 0 r.1 in
    let d = int_le (offset_of (last_of r.0) +ℤ pos r.1) past_offsets in
    and_true (a && b && c) d (and_true (a && b) c (and_true a b (tuples_ident r.0 f.0.1) (tuples_bounded r.0 f.0.1)) (and_left c d f.2)) (and_right c d f.2)

runs_sound : (before : Option (List Tuple × ℕ)) (rs : List (List Tuple × ℕ)) → Chained FitsBehind before rs → list_all is_run rs ≡ true
runs_sound before [] c = refl
runs_sound before (r ∷ rs) c = and_true (is_run r) (list_all is_run rs) (run_sound r c.0.0) (runs_sound (Some r) rs c.1)

pub fits_idents : (xs : List (List Tuple)) → FitRuns xs → AreIdents xs
fits_idents xs f =
    let rs = runs_of xs in
    let k = runs_sound None rs f.1 in
    subst AreIdents f.2 (all_idents rs k, increasing_of (idents_of rs) (idents_rise None rs (apart_from None rs f.1) k))

pub fits_body : (b : Body) → FitsBody b → IsBody b
fits_body (Insert first text) f = (tuples_ident first f.0.1, all_of_scalars text f.1.0)
fits_body (Delete targets) f = fits_idents targets f
fits_body (Rename former) f = fits_idents former f
fits_body Leave f = tt

pub spelled_op : (members : ℕ) (o : Op) → IsSpelled members o → IsOp o
spelled_op members o s =
    record { author = s.author; seq = s.seq; context = chain_small None o.context s.context.1; epoch = fits_name o.epoch s.epoch; body = fits_body o.body s.body }

-- the last offset of what is spelled is in range
least_last : (x : List Tuple) → FitTuples x → least_offset ≤ℤ offset_of (last_of x)
least_last [] f = absurd f
least_last (At p r s o ∷ []) f = int_le_is least_offset o (and_left (int_le least_offset o) (int_le o greatest_offset) f.3)
least_last (Low ∷ []) f = absurd f
least_last (High ∷ []) f = absurd f
least_last (t ∷ (u ∷ x)) f = least_last (u ∷ x) f.1

pub in_range : (b : Body) → FitsBody b → IsInRange b
in_range (Insert first text) f = least_last first f.0.1
in_range (Delete targets) f = tt
in_range (Rename former) f = tt
in_range Leave f = tt
