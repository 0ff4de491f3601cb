use Rattle.std.proofs.Common.{◌≡◌, ◌∙◌, ◌+◌, ◌-◌, drop, Some, Err, rules, sym, ap, arith}
use Rattle.std.proofs.lemmas.Str.{chars_from_encodes}
use Rattle.std.specs.Str.{chars}
use Rattle.rls_script.specs.declared.clusters.ClusterError.TheVariants.{NotBoundary}
use Rattle.rls_script.specs.Clusters.{cluster_before, cluster_in, placed}
use Rattle.rls_script.proofs.Begins.{begins_within}
use Rattle.rls_script.proofs.Framed.{enough, joined_is, told_if_found, too_few}
use Rattle.rls_script.proofs.windows.cluster_in.Goals as goal

pub is_inside-requires : goal.is_inside-requires
is_inside-requires c = record { some = omega (arith, c.requires.begins); within = omega (arith, c.requires.reaches) }

pub returns-then-is_inside-clause-found : goal.returns-then-is_inside-clause-found
returns-then-is_inside-clause-found c = joined_is c.args.window c.args.from c.args.at (sym c.is_inside.ensures.inside ∙ c.if-is_inside.true)

pub returns-then-is_inside-clause-told : goal.returns-then-is_inside-clause-told
returns-then-is_inside-clause-told c =
    told_if_found c.args.window c.args.from c.args.at (Some (Err (NotBoundary c.args.at))) c.requires.begins c.requires.reaches (joined_is c.args.window c.args.from c.args.at (sym c.is_inside.ensures.inside ∙ c.if-is_inside.true))

found : (c : goal.Joined-window-4) → c.placed.result ≡ cluster_in c.args.window c.args.from c.args.at
found c =
    let n = c.left_out-skipped.result in
    let read : drop n c.args.window ≡ chars c.as_str.result.now = chars_from_encodes (drop n c.args.window) c.as_str.result.now c.as_str.utf8 (search rules) in
    c.placed.ensures.placed
    ∙ ap (placed (c.args.from + n) c.args.at) (c.cluster_before.ensures.cluster ∙ ap (λ t. cluster_before t (c.args.at - (c.args.from + n))) (sym read))
    ∙ enough c.args.window c.args.from c.args.at n (sym c.is_inside.ensures.inside ∙ c.if-is_inside.false) c.left_out-skipped.ensures.left_out c.if-at-from.false

pub returns-then-at-from-clause-found : goal.returns-then-at-from-clause-found
returns-then-at-from-clause-found c = too_few c.args.window c.args.from c.args.at c.left_out-skipped.result (sym c.is_inside.ensures.inside ∙ c.if-is_inside.false) c.left_out-skipped.ensures.left_out c.if-at-from.true

pub placed-requires : goal.placed-requires
placed-requires c = record {
  before = begins_within (chars c.as_str.result.now) (c.args.at - (c.args.from + c.left_out-skipped.result)) (c.args.from + c.left_out-skipped.result) c.args.at c.cluster_before.result c.cluster_before.ensures.cluster (omega (arith, c.if-at-from.false, c.requires.begins));
}

pub returns-clause-found : goal.returns-clause-found
returns-clause-found c = found c

pub returns-clause-told : goal.returns-clause-told
returns-clause-told c = told_if_found c.args.window c.args.from c.args.at c.placed.result c.requires.begins c.requires.reaches (found c)
