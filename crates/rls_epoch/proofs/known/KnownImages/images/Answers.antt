use Rattle.std.proofs.Common.{◌≡◌, ◌+◌, ◌≤◌, map, Some, sym, ap, ◌∙◌, length, arith, length-append, refl, subst}
use Rattle.std.specs.Prelude.{slice_get}
use Rattle.std.proofs.lemmas.Option.{slice_get_read}
use Rattle.std.proofs.lemmas.List.{take_all}
use Rattle.rls_rename.specs.Tree.{translate}
use Rattle.rls_rename.proofs.Paths.{translate_order}
use Rattle.rls_runs.specs.Runs.{AreIdents, run_idents, runs_of, idents_of, is_increasing}
use Rattle.rls_runs.proofs.Finding.{run_length}
use Rattle.rls_runs.proofs.RunsOf.{idents_of_runs}
use Rattle.rls_epoch.specs.Seen.{nodes_of}
use Rattle.rls_epoch.proofs.Moving.{image_more, increasing_taken, fewer_taken}
use Rattle.std.proofs.lemmas.List.{length-map}
use Rattle.rls_epoch.proofs.known.KnownImages.images.Goals as goal

pub append_image-requires-clause-above : goal.append_image-requires-clause-above
append_image-requires-clause-above c =
    let nodes = nodes_of c.args.nodes.now in
    let from = c.args.from in
    let to = c.args.to in
    let f = translate nodes from to in
    let ids = c.args.ids.now in
    let rs = runs_of ids in
    let k = c.loop-run.run-index in
    let r = c.run-item.result in
    let g : slice_get rs k ≡ Some r = subst (λ qs. slice_get qs k ≡ Some r) c.as_slice-run-items.ensures.runs (slice_get_read c.as_slice-run-items.result.now _ k r refl c.loop-run-test.true c.run-item.is) in
    let e = image_more f rs k r g c.loop-run.images (map f (run_idents r.0 r.1)) c.loop-run.invariant refl in
    let all : AreIdents (idents_of rs) = subst AreIdents (sym (idents_of_runs ids)) c.total-total.ensures.idents in
    ap is_increasing e ∙ increasing_taken f (λ x y i j. translate_order nodes from to x y c.requires.nodes i j) rs (k + 1) all

pub append_image-requires-clause-total : goal.append_image-requires-clause-total
append_image-requires-clause-total c =
    let f = translate (nodes_of c.args.nodes.now) c.args.from c.args.to in
    let ids = c.args.ids.now in
    let rs = runs_of ids in
    let k = c.loop-run.run-index in
    let r = c.run-item.result in
    let g : slice_get rs k ≡ Some r = subst (λ qs. slice_get qs k ≡ Some r) c.as_slice-run-items.ensures.runs (slice_get_read c.as_slice-run-items.result.now _ k r refl c.loop-run-test.true c.run-item.is) in
    let more = map f (run_idents r.0 r.1) in
    let e = ap length (image_more f rs k r g c.loop-run.images more c.loop-run.invariant refl) in
    let h = fewer_taken f rs (k + 1) in
    let t = c.total-total.ensures.total in
    let same = ap length (idents_of_runs ids) in
    omega (arith, e, h, t, same, length-append c.loop-run.images more, length-map (run_idents r.0 r.1) f, run_length r.0 r.1)

pub loop-run-preserved : goal.loop-run-preserved
loop-run-preserved c =
    let f = translate (nodes_of c.args.nodes.now) c.args.from c.args.to in
    let rs = runs_of c.args.ids.now in
    let k = c.loop-run.run-index in
    let r = c.run-item.result in
    let g : slice_get rs k ≡ Some r = subst (λ qs. slice_get qs k ≡ Some r) c.as_slice-run-items.ensures.runs (slice_get_read c.as_slice-run-items.result.now _ k r refl c.loop-run-test.true c.run-item.is) in
    c.in_ok-append_image.ensures.images c.if-not-branch.false ∙ image_more f rs k r g c.loop-run.images (map f (run_idents r.0 r.1)) c.loop-run.invariant refl

pub returns : goal.returns
returns c =
    let f = translate (nodes_of c.args.nodes.now) c.args.from c.args.to in
    let ids = c.args.ids.now in
    let rs = runs_of ids in
    let same = ap length c.as_slice-run-items.ensures.runs in
    let all : length rs ≤ c.loop-run.run-index = omega arith in
    record { images = c.loop-run.invariant ∙ (ap (λ qs. map f (idents_of qs)) (take_all c.loop-run.run-index rs all) ∙ ap (map f) (idents_of_runs ids)) }
