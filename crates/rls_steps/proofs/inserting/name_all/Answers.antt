use Rattle.std.proofs.Common.{◌≡◌, ◌+◌, ◌-◌, ◌<◌, ◌++◌, length, take, drop, get_or, sym, ap, ◌∙◌, arith}
use Rattle.std.specs.Prelude.{reverse, zip}
use Rattle.std.proofs.lemmas.Option.{slice_get-get_or}
use Rattle.std.proofs.lemmas.List.{append-nil}
use Rattle.std.proofs.Math.Seq.{take-length}
use Rattle.rls_steps.specs.Labelled.{Names}
use Rattle.rls_steps.specs.NameRuns.{names_in, names_of}
use Rattle.rls_steps.proofs.Giving.{front_stays, front_trans}
use Rattle.rls_steps.proofs.Zipping.{named_next, zip_end}
use Rattle.rls_steps.proofs.inserting.name_all.Goals as goal

pub names-init : goal.names-init
names-init c =
    let xs = c.args.ids.now in
    let ls = c.args.labels.now in
    let e = c.min-i.ensures in
    let t = c.total.ensures.total in
    record {
      ids = omega (arith, e, t);
      labels = omega (arith, e);
      named = ap reverse (append-nil c.args.names.now) ∙ ap (λ (zs : Names). zs ++ reverse c.args.names.now) (sym (zip_end xs ls c.min-i.result (omega (arith, e, t))));
      front = take-length c.args.names.now;
    }

pub names-preserved : goal.names-preserved
names-preserved c =
    let xs = c.args.ids.now in
    let ls = c.args.labels.now in
    let base = c.args.names.now in
    let i = c.names.i in
    let v = c.names.invariant in
    let x = c.in_ok-get.field-0 in
    let y = get_or ls (i - 1) 0 in
    let old = c.names.names ++ names_in c.names.last in
    let back : i - 1 + 1 ≡ i = omega (arith, c.names-test.true) in
    let short : i - 1 < length ls = omega (arith, v.labels, c.names-test.true) in
    let named : reverse old ≡ drop (i - 1 + 1) (zip xs ls) ++ reverse base = v.named ∙ ap (λ k. drop k (zip xs ls) ++ reverse base) (sym back) in
    record {
      ids = omega (arith, v.ids);
      labels = omega (arith, v.labels);
      named = named_next xs ls (i - 1) x y old (c.add_pending.new.names ++ names_of c.in_ok-add_pending.field-0) (reverse base) c.in_ok-get.ensures.found (slice_get-get_or ls (i - 1) 0 short) c.in_ok-add_pending.ensures.names named;
      front = front_trans base c.names.names c.add_pending.new.names v.front c.add_pending.ensures.front;
    }

pub returns-clause-ok : goal.returns-clause-ok
returns-clause-ok c =
    let xs = c.args.ids.now in
    let ls = c.args.labels.now in
    let none : c.names.i ≡ 0 = omega (arith, c.names-test.false) in
    ap reverse c.in_ok-push_pending.ensures.names ∙ (c.names.invariant.named ∙ ap (λ k. drop k (zip xs ls) ++ reverse c.args.names.now) none)

pub returns-clause-front : goal.returns-clause-front
returns-clause-front c =
    let base = c.args.names.now in
    ap (take (length base)) c.in_ok-push_pending.ensures.names ∙ front_stays base c.names.names (names_in c.names.last) c.names.invariant.front
