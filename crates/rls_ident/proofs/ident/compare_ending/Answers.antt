use Rattle.std.proofs.Common.{◌≡◌, ◌+◌, ◌++◌, ◌∷◌, [], length, sym, ap, ◌∙◌, arith, length-append}
use Rattle.rls_ident.specs.Tuples.{at_spot, tuple_cmp}
use Rattle.rls_ident.specs.Identifiers.{last_of}
use Rattle.rls_ident.proofs.Loops.{same_so_far, differs_here, one_more}
use Rattle.rls_ident.proofs.ident.compare_ending.Goals as goal

pub returns-in_default : goal.returns-in_default
returns-in_default c =
    let xs = c.args.front.now ++ at_spot c.args.last ∷ [] in
    let z : c.loop-i.i ≡ c.min-end.result = omega arith in
    let e = differs_here tuple_cmp xs c.args.other.now c.min-end.result c.tuple_at.result c.tuple.result _ c.tuple_at.ensures.found c.tuple.ensures.found (λ q. c.in_default.not-Equal (c.compare-2.ensures.order ∙ q)) (rw z at c.loop-i.invariant) in
    record { order = c.compare-2.ensures.order ∙ e }

pub returns-in-Equal : goal.returns-in-Equal
returns-in-Equal c =
    let xs = c.args.front.now ++ at_spot c.args.last ∷ [] in
    let ys = c.args.other.now in
    let z : c.loop-i.i ≡ c.min-end.result = omega arith in
    let h = same_so_far tuple_cmp xs ys c.min-end.result c.tuple_at.result c.tuple.result _ c.tuple_at.ensures.found c.tuple.ensures.found (sym c.compare-2.ensures.order ∙ c.in-Equal.is) (rw z at c.loop-i.invariant) in
    let n : length xs ≡ length c.args.front.now + 1 = length-append c.args.front.now (at_spot c.args.last ∷ []) in
    let m : length ys ≡ length c.front-other_front.result.now + 1 = ap length c.front-other_front.ensures.front ∙ length-append c.front-other_front.result.now (last_of ys ∷ []) in
    record { order = c.cmp.ensures ∙ one_more tuple_cmp xs ys (length c.args.front.now) (length c.front-other_front.result.now) c.min-end.result _ n m (c.min-end.ensures) h }
