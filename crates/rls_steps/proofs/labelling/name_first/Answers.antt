use Rattle.std.proofs.Common.{◌≡◌, ◌+◌, ◌≤◌, ◌++◌, false, map, sym, ap, ◌∙◌, subst, arith}
use Rattle.std.specs.Prelude.{reverse, Some}
use Rattle.rls_ident.specs.Identifiers.{IsIdent}
use Rattle.rls_runs.specs.Runs.{run_idents}
use Rattle.rls_runs.proofs.RunOrder.{run_ident}
use Rattle.rls_steps.specs.Marks.{numbers_from}
use Rattle.rls_steps.specs.Labelled.{label_of, label_all}
use Rattle.rls_steps.specs.NameRuns.{Stretch, names_by, names_of}
use Rattle.rls_steps.specs.Recorded.{held_by}
use Rattle.rls_steps.proofs.GivenRuns.{all_fresh, rising_named, rising_within}
use Rattle.rls_steps.proofs.labelling.name_first.Goals as goal

pub new-requires : goal.new-requires
new-requires c =
    let more = c.in-Some.ensures in
    let run = c.args.run.now in
    record { sound = rising_within run c.args.key.ident c.args.next.now c.in_ok-count.count c.len-len.ensures.run c.requires.key c.in_ok-count.ensures.some (subst (λ n. c.in_ok-count.count ≤ n) c.len.ensures.len c.in_ok-count.ensures.most) (omega (arith, more)) }

pub returns-clause-given : goal.returns-clause-given
returns-clause-given c = λ s.
    let x = c.args.key.ident in
    let old = c.args.names.now in
    let n = c.in_ok-count.count in
    let next = c.args.next.now in
    let more : next + n ≡ c.in-Some.more = let w = c.in-Some.ensures in omega (arith, w) in
    let named : c.push_run.new.self ≡ old ++ names_by false x next 0 n = c.in_ok-push_run.ensures.names ∙ ap (λ (r : Stretch). old ++ names_of r) c.new.ensures.run in
    let sound = run_ident c.args.run.now c.len-len.ensures.run in
    ap (held_by s c.in-Some.more) named
    ∙ (ap (λ k. held_by s k (old ++ names_by false x next 0 n)) (sym more)
    ∙ (sym (all_fresh s next old x n (subst IsIdent (sym c.requires.key) sound) c.in_ok-count.ensures.free) ∙ ap (λ y. label_all (held_by s next old) (run_idents y n)) c.requires.key))

pub returns-clause-labels : goal.returns-clause-labels
returns-clause-labels c =
    let x = c.args.key.ident in
    let old = c.args.names.now in
    let n = c.in_ok-count.count in
    let next = c.args.next.now in
    let named : c.push_run.new.self ≡ old ++ names_by false x next 0 n = c.in_ok-push_run.ensures.names ∙ ap (λ (r : Stretch). old ++ names_of r) c.new.ensures.run in
    subst (λ y. map (label_of (reverse c.push_run.new.self)) (run_idents y n) ≡ map Some (numbers_from next n)) c.requires.key (rising_named old c.push_run.new.self x next n named c.apart.ensures.apart)
