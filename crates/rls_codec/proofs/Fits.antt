-- What is written fits the format.
use Rattle.std.proofs.Common.{◌≡◌, ℕ, ◌^◌, ◌<◌, ◌≤◌, true, List, [], ◌∷◌, ◌++◌, length, Option, Some, None, refl, sym, subst, arith}
use Rattle.std.specs.Prelude.{pos, ◌+ℤ◌, All, IsTrue, nat_lt, ◌&&◌, encode_utf8_all}
use Rattle.std.specs.Char.{IsScalar}
use Rattle.std.specs.Int.RustNames.{int_le}
use Rattle.std.proofs.lemmas.List.Elements.{All-head, All-tail}
use Rattle.rls_ident.specs.declared.limits.TheConstants.{OPERATION_BYTES}
use Rattle.rls_ident.specs.declared.tuple.Tuple.{Tuple}
use Rattle.rls_ident.specs.declared.tuple.Tuple.TheVariants.{Low, At, High}
use Rattle.rls_ident.specs.Tuples.{offset_of}
use Rattle.rls_ident.specs.Identifiers.{is_ident, is_bounded, is_inner_bounded, is_last_bounded, least_offset, last_of}
use Rattle.rls_ident.proofs.Members.{and_left, and_right, and_true}
use Rattle.rls_runs.specs.Runs.{runs_of, is_apart, are_apart, AreIdents, past_offsets, is_run}
use Rattle.rls_runs.proofs.RunsOf.{idents_of_runs}
use Rattle.rls_runs.proofs.Texts.{scalars_of_all}
use Rattle.rls_runs.proofs.RunsApart.{apart_runs}
use Rattle.rls_ops.specs.declared.op.Op.{Op}
use Rattle.rls_ops.specs.declared.message.Message.{Message}
use Rattle.rls_ops.specs.Spelling.{message_bytes}
use Rattle.rls_ops.specs.Sizes.{op_size}
use Rattle.rls_ops.specs.WellFormed.{IsSmall}
use Rattle.rls_codec.specs.Spelled.{IsSmallTuple, Chained, FitsAt, FitsInner, FitTuples, FitsIdent, FitsRun, FitsBehind, FitRuns, FitsName, FitsText, FitsBody, FieldsFit, IsSpelled, IsSpelledIfFit, IsFitAmong, IsFit}
use Rattle.rls_codec.specs.CodecLaws.{IsMessage}
use Rattle.rls_codec.proofs.PartFormats.{pushed_fit}
use Rattle.rls_codec.proofs.SizeLaws.{op_length}

-- ---- identifiers

inner_fits : (t : Tuple) → is_inner_bounded t ≡ true → IsSmallTuple t → FitsInner t
inner_fits (At p r s o) b small = (small.0, small.1, small.2, b)
inner_fits Low b small = tt
inner_fits High b small = tt

last_fits : (t : Tuple) → is_last_bounded t ≡ true → IsSmallTuple t → FitsAt least_offset t
last_fits (At p r s o) b small = (small.0, small.1, small.2, b)
last_fits Low b small = absurd cc
last_fits High b small = absurd cc

inners_fit : (before : Option Tuple) (ts : List Tuple) → All (λ t. IsTrue (is_inner_bounded t)) ts → All IsSmallTuple ts → Chained (λ b. FitsInner) before ts
inners_fit before [] b small = tt
inners_fit before (t ∷ ts) b small =
    (inner_fits t (All-head (λ u. IsTrue (is_inner_bounded u)) t ts b) (All-head IsSmallTuple t ts small), inners_fit (Some t) ts (All-tail (λ u. IsTrue (is_inner_bounded u)) t ts b) (All-tail IsSmallTuple t ts small))

pub ident_fits : (x front : List Tuple) (t : Tuple) → length x < 2 ^ 32 → x ≡ front ++ t ∷ [] → All (λ u. IsTrue (is_inner_bounded u)) front → All IsSmallTuple front → is_last_bounded t ≡ true → IsSmallTuple t → FitsIdent x
ident_fits x front t few e b small last s = (few, subst FitTuples (sym e) (pushed_fit None front t (inners_fit None front b small) (last_fits t last s)))

-- ---- runs

pub run_fits : (r : List Tuple × ℕ) → is_run r ≡ true → IsSmall r.1 → FitsIdent r.0 → FitsRun r
run_fits r h small fits =
    let p = is_ident r.0 && is_bounded r.0 in
    let end = int_le (offset_of (last_of r.0) +ℤ pos r.1) past_offsets in
    (fits, small, and_true (nat_lt 0 r.1) end (and_right p (nat_lt 0 r.1) (and_left (p && nat_lt 0 r.1) end h)) (and_right (p && nat_lt 0 r.1) end h))

behind : (before : Option (List Tuple × ℕ)) (rs : List (List Tuple × ℕ)) → are_apart before rs ≡ true → All FitsRun rs → Chained FitsBehind before rs
behind before [] h f = tt
behind before (r ∷ rs) h f = (
  (All-head FitsRun r rs f, and_right (nat_lt 0 r.1) (is_apart before r) (and_left (nat_lt 0 r.1 && is_apart before r) (are_apart (Some r) rs) h)),
  behind (Some r) rs (and_right (nat_lt 0 r.1 && is_apart before r) (are_apart (Some r) rs) h) (All-tail FitsRun r rs f),
)

pub runs_fit : (xs : List (List Tuple)) → length (runs_of xs) < 2 ^ 32 → All FitsRun (runs_of xs) → AreIdents xs → FitRuns xs
runs_fit xs few f h = (few, behind None (runs_of xs) (apart_runs xs h.1) f, idents_of_runs xs)

-- ---- texts, vectors and operations

pub text_fits : (cs : List ℕ) → length (encode_utf8_all cs) < 2 ^ 32 → All IsScalar cs → FitsText cs
text_fits cs few s = (scalars_of_all cs s, few)

pub small_chain : (before : Option ℕ) (v : List ℕ) → All IsSmall v → Chained (λ b. IsSmall) before v
small_chain before [] a = tt
small_chain before (n ∷ v) a = (All-head IsSmall n v a, small_chain (Some n) v (All-tail IsSmall n v a))

pub op_fits : (o : Op) → IsSmall o.author → IsSmall o.seq → All IsSmall o.context → FitsName o.epoch → FitsBody o.body → op_size o ≤ OPERATION_BYTES → IsSpelled (length o.context) o
op_fits o a s c e b few = record { author = a; seq = s; context = (refl, small_chain None o.context c); epoch = e; body = b; limit = omega (arith, op_length o, few) }

pub fields_fit : (o : Op) → IsSmall o.author → IsSmall o.seq → All IsSmall o.context → FitsName o.epoch → FitsBody o.body → FieldsFit (length o.context) o
fields_fit o a s c e b = (a, s, (refl, small_chain None o.context c), e, b)

-- ---- messages

fit_ops : (members : ℕ) (before : Option Op) (os : List Op) → All (IsFitAmong members) os → All IsSpelledIfFit os → Chained (λ b. IsSpelled members) before os
fit_ops members before [] f s = tt
fit_ops members before (o ∷ os) f s =
    let fit = All-head (IsFitAmong members) o os f in
    (subst (λ n. IsSpelled n o) fit.2 (All-head IsSpelledIfFit o os s fit.0 fit.1), fit_ops members (Some o) os (All-tail (IsFitAmong members) o os f) (All-tail IsSpelledIfFit o os s))

pub message_fits : (bytes : List ℕ) (m : Message) → bytes ≡ message_bytes m → m.group < 2 ^ 64 → All IsSmall m.vector → length m.ops < 2 ^ 32 → All IsSpelledIfFit m.ops → IsFit m → IsMessage bytes m
message_fits bytes m e group small few ops fit =
    (3, refl, record { group = group; members = fit.members; from = fit.from; vector = (fit.vector, small_chain None m.vector small); count = few; ops = fit_ops m.members None m.ops fit.ops ops }, e)
