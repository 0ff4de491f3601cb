use Rattle.std.proofs.Common.{refl, ◌≡◌, ◌++◌, List, ℕ, take, Some, ap, sym, ◌∙◌, subst, append_assoc, length, arith}
use Rattle.std.specs.Prelude.{slice_get, IsTrue}
use Rattle.std.proofs.lemmas.Option.{slice_get_read}
use Rattle.rls_ident.specs.declared.tuple.Tuple.{Tuple}
use Rattle.rls_runs.specs.Places.{last_ident, is_above}
use Rattle.rls_runs.specs.Runs.{run_idents, idents_of}
use Rattle.rls_epoch.proofs.Moving.{run_above, run_fits, idents_taken}
use Rattle.rls_epoch.proofs.images.append_all.Goals as goal

pub append-requires-clause-above : goal.append-requires-clause-above
append-requires-clause-above c =
    let rs = c.args.more.now in
    let k = c.loop-run.run-index in
    let r = c.run-item.result in
    let g : slice_get rs k ≡ Some r = slice_get_read rs _ k r refl c.loop-run-test.true c.run-item.is in
    let h = run_above c.args.ids.now rs k r c.requires.above g c.len-len.ensures.run in
    subst (λ (q : List Tuple × ℕ). IsTrue (is_above (last_ident c.loop-run.ids) q.0)) (sym c.in_ok-copy.ensures.copy)
    (subst (λ (xs : List (List Tuple)). IsTrue (is_above (last_ident xs) r.0)) (sym c.loop-run.invariant) h)

pub append-requires-clause-total : goal.append-requires-clause-total
append-requires-clause-total c =
    let r = c.run-item.result in
    let h = run_fits c.args.ids.now c.args.more.now c.loop-run.run-index r _ c.requires.total (slice_get_read c.args.more.now _ c.loop-run.run-index r refl c.loop-run-test.true c.run-item.is) in
    let e : c.in_ok-copy.field-0.1 ≡ r.1 = ap (λ (q : List Tuple × ℕ). q.1) c.in_ok-copy.ensures.copy in
    let f : length c.loop-run.ids ≡ length (c.args.ids.now ++ idents_of (take c.loop-run.run-index c.args.more.now)) = ap length c.loop-run.invariant in
    omega (arith, h, e, f)

pub loop-run-preserved : goal.loop-run-preserved
loop-run-preserved c =
    let rs = c.args.more.now in
    let k = c.loop-run.run-index in
    let r = c.run-item.result in
    let g : slice_get rs k ≡ Some r = slice_get_read rs _ k r refl c.loop-run-test.true c.run-item.is in
    c.in_ok-append.ensures.ok
    ∙ (ap (λ (xs : List (List Tuple)). xs ++ run_idents c.in_ok-copy.field-0.0 c.in_ok-copy.field-0.1) c.loop-run.invariant
    ∙ (ap (λ (q : List Tuple × ℕ). (c.args.ids.now ++ idents_of (take k rs)) ++ run_idents q.0 q.1) c.in_ok-copy.ensures.copy
    ∙ (append_assoc c.args.ids.now (idents_of (take k rs)) (run_idents r.0 r.1)
    ∙ ap (λ (xs : List (List Tuple)). c.args.ids.now ++ xs) (sym (idents_taken rs k r g)))))
