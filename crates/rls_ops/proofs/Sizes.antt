-- Operations take at least one byte each, and no more than their numbers of tuples and characters allow.
use Rattle.std.proofs.Common.{◌≤◌, ◌*◌, ℕ, List, [], ◌∷◌, length, sum_by, arith}
use Rattle.std.proofs.lemmas.List.Sums.{sum_by-cons}
use Rattle.std.proofs.lemmas.Bool.Decides.{nat_tests}
use Rattle.rls_ident.specs.declared.tuple.Tuple.{Tuple}
use Rattle.rls_ident.specs.declared.tuple.Tuple.TheVariants.{Low, At, High}
use Rattle.rls_ident.specs.declared.epoch_name.EpochName.{EpochName}
use Rattle.rls_ident.specs.declared.epoch_name.EpochName.TheVariants.{Origin, Of}
use Rattle.rls_runs.specs.Runs.{runs_of}
use Rattle.rls_ops.specs.declared.op.Op.{Op}
use Rattle.rls_ops.specs.declared.op.Body.{Body}
use Rattle.rls_ops.specs.declared.op.Body.TheVariants.{Insert, Delete, Rename, Leave}
use Rattle.rls_ops.specs.Sizes.{tuple_size, run_size, char_size, name_size, body_size, op_size, most_run, most_body, op_most}

pub ops_within : (os : List Op) → length os ≤ sum_by op_size os
ops_within [] = omega arith
ops_within (o ∷ os) = omega (arith, sum_by-cons op_size o os, ops_within os)

-- ---- the most bytes

one_tuple : (t : Tuple) → tuple_size t ≤ 17
one_tuple Low = omega arith
one_tuple (At p r s o) = omega arith
one_tuple High = omega arith

tuples_at_most : (ts : List Tuple) → sum_by tuple_size ts ≤ 17 * length ts
tuples_at_most [] = omega arith
tuples_at_most (t ∷ ts) = omega (arith, sum_by-cons tuple_size t ts, one_tuple t, tuples_at_most ts)

runs_at_most : (rs : List (List Tuple × ℕ)) → sum_by run_size rs ≤ sum_by most_run rs
runs_at_most [] = omega arith
runs_at_most (r ∷ rs) = omega (arith, sum_by-cons run_size r rs, sum_by-cons most_run r rs, tuples_at_most r.0, runs_at_most rs)

one_char : (c : ℕ) → char_size c ≤ 4
one_char c = grind (arith, nat_tests)

chars_at_most : (cs : List ℕ) → sum_by char_size cs ≤ 4 * length cs
chars_at_most [] = omega arith
chars_at_most (c ∷ cs) = omega (arith, sum_by-cons char_size c cs, one_char c, chars_at_most cs)

one_name : (e : EpochName) → name_size e ≤ 9
one_name Origin = omega arith
one_name (Of r s) = omega arith

body_at_most : (b : Body) → body_size b ≤ most_body b
body_at_most (Insert first text) = omega (arith, tuples_at_most first, chars_at_most text)
body_at_most (Delete targets) = omega (arith, runs_at_most (runs_of targets))
body_at_most (Rename former) = omega (arith, runs_at_most (runs_of former))
body_at_most Leave = omega arith

pub op_at_most : (o : Op) → op_size o ≤ op_most o
op_at_most o = omega (arith, one_name o.epoch, body_at_most o.body)
