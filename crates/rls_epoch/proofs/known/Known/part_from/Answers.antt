use Rattle.std.proofs.Common.{◌≡◌, List, ℕ, map, sym, ap, ◌∙◌, subst, arith}
use Rattle.rls_ident.specs.declared.tuple.Tuple.{Tuple}
use Rattle.rls_rename.specs.Tree.{translate}
use Rattle.rls_runs.specs.Runs.{run_idents}
use Rattle.rls_epoch.specs.Seen.{nodes_of}
use Rattle.rls_epoch.proofs.KnownRuns.{image_length, image_part, place_is, place_within}
use Rattle.rls_epoch.proofs.known.Known.part_from.Goals as goal

pub overflow_sub-len : goal.overflow_sub-len
overflow_sub-len c =
    let r = c.args.self.now.run in
    let w = place_within r.0 c.args.first.now r.1 c.in-Ok.place (sym c.in-Ok.ensures.place) in
    let l = c.len.ensures.len in
    omega arith

pub part-requires : goal.part-requires
part-requires c =
    let k = c.args.self.now in
    let w = place_within k.run.0 c.args.first.now k.run.1 c.in-Ok.place (sym c.in-Ok.ensures.place) in
    let e = image_length (translate (nodes_of c.args.nodes.now) k.from k.to) k.run.0 k.image.0 k.run.1 k.image.1 c.requires.known in
    let l = c.len.ensures.len in
    record { some = omega arith; within = omega arith }

pub returns-clause-part : goal.returns-clause-part
returns-clause-part c =
    let k = c.args.self.now in
    let f = translate (nodes_of c.args.nodes.now) k.from k.to in
    let place = c.in-Ok.place in
    let len = c.min-len.result in
    let first = c.args.first.now in
    let found = sym c.in-Ok.ensures.place in
    let w = place_within k.run.0 first k.run.1 place found in
    let l = c.len.ensures.len in
    let image = image_part f k.run.0 k.image.0 k.run.1 k.image.1 place len c.requires.known (omega arith) in
    subst (λ (r : List Tuple × ℕ). run_idents r.0 r.1 ≡ map f (run_idents first r.1)) (sym c.in_ok-part.ensures.part) (image ∙ ap (λ (x : List Tuple). map f (run_idents x len)) (sym (place_is k.run.0 first k.run.1 place found)))
