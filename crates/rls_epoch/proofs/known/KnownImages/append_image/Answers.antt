use Rattle.std.proofs.Common.{◌+◌, ◌++◌, ℕ, List, map, length, sym, ap, ◌∙◌, subst, arith}
use Rattle.std.specs.Prelude.{IsTrue}
use Rattle.rls_ident.specs.declared.tuple.Tuple.{Tuple}
use Rattle.rls_rename.specs.Tree.{translate}
use Rattle.rls_runs.specs.Places.{last_ident, is_above}
use Rattle.rls_runs.specs.Runs.{run_idents}
use Rattle.rls_epoch.specs.Seen.{nodes_of}
use Rattle.rls_epoch.proofs.KnownRuns.{image_count, image_parts, part_above}
use Rattle.rls_epoch.proofs.known.KnownImages.append_image.Goals as goal

pub append-requires : goal.append-requires
append-requires c =
    let f = translate (nodes_of c.args.nodes.now) c.args.from c.args.to in
    let r = c.args.run.now in
    let k = c.loop-done.done in
    let p : List Tuple × ℕ = c.in-Ok.part in
    let within = rw c.in-Ok.is at c.in_ok-part.ensures.within in
    let e = ap length c.loop-done.invariant.images ∙ image_count f c.args.images.now r.0 k in
    let l = c.len-len.ensures.len in
    let t = c.requires.total in
    record {
      above = subst (λ (ys : List (List Tuple)). IsTrue (is_above (last_ident ys) p.0)) (sym c.loop-done.invariant.images)
          (part_above f c.args.images.now r.0 p.0 r.1 k p.1 within (rw c.in-Ok.is at c.in_ok-part.ensures.some) (rw c.in-Ok.is at c.in_ok-part.ensures.part) c.requires.above);
      total = omega arith;
    }

pub loop-done-preserved : goal.loop-done-preserved
loop-done-preserved c =
    let f = translate (nodes_of c.args.nodes.now) c.args.from c.args.to in
    let r = c.args.run.now in
    let k = c.loop-done.done in
    let p : List Tuple × ℕ = c.in-Ok.part in
    let within = rw c.in-Ok.is at c.in_ok-part.ensures.within in
    let l = c.len-done.ensures.len in
    let all = c.len-len.ensures.len in
    record {
      in_range = omega arith;
      images = c.in_ok-append.ensures.ok
          ∙ (ap (λ (ys : List (List Tuple)). ys ++ run_idents p.0 p.1) c.loop-done.invariant.images
          ∙ (image_parts f c.args.images.now r.0 p.0 k p.1 (rw c.in-Ok.is at c.in_ok-part.ensures.part)
          ∙ ap (λ (n : ℕ). c.args.images.now ++ map f (run_idents r.0 (k + n))) (sym l)));
    }
