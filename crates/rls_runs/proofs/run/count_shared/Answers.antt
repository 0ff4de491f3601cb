use Rattle.std.proofs.Common.{◌≡◌, ◌∷◌, [], ◌++◌, List, sym, ap, ◌∙◌, arith}
use Rattle.rls_ident.specs.declared.tuple.Tuple.{Tuple}
use Rattle.rls_ident.specs.declared.tuple.Tuple.TheVariants.{Low}
use Rattle.rls_ident.specs.Identifiers.{last_of}
use Rattle.rls_runs.specs.Fronts.{front_of, shared}
use Rattle.rls_runs.proofs.Fronts.{front_is, fronts_same, one_more, shared_here, shared_all}
use Rattle.rls_runs.proofs.run.count_shared.Goals as goal

pub loop-i-init : goal.loop-i-init
loop-i-init c =
    let x = c.args.first.now in
    let y = c.args.id.now in
    let same = fronts_same c.args.from c.min-i.result x y c.front-front.result.now c.front-own.result.now (last_of x) (last_of y) c.front-front.ensures.front c.front-own.ensures.front c.requires.from in
    (same (omega arith) (omega arith) (omega arith), omega arith)

pub loop-i-preserved : goal.loop-i-preserved
loop-i-preserved c =
    let h = c.loop-i.invariant in
    (one_more c.loop-i.i c.front-front.result.now c.front-own.result.now Low h.0 (omega arith) (omega arith) (sym c.if-not-same.ensures.same), omega arith)

-- what is shared in front of the last tuples
fronts : (x y f g : List Tuple) (l k : Tuple) → x ≡ f ++ l ∷ [] → y ≡ g ++ k ∷ [] → shared (front_of x) (front_of y) ≡ shared f g
fronts x y f g l k a b = ap (λ z. shared z (front_of y)) (front_is x f l a) ∙ ap (shared f) (front_is y g k b)

pub returns-then-not-same : goal.returns-then-not-same
returns-then-not-same c =
    record { shared = sym (fronts _ _ _ _ _ _ c.front-front.ensures.front c.front-own.ensures.front ∙ shared_here c.loop-i.i _ _ Low c.loop-i.invariant.0 (omega arith) (omega arith) (sym c.if-not-same.ensures.same)) }

pub returns : goal.returns
returns c =
    let e : c.loop-i.i ≡ c.min-end.result = omega arith in
    record { shared = sym (fronts _ _ _ _ _ _ c.front-front.ensures.front c.front-own.ensures.front ∙ shared_all c.loop-i.i _ _ c.loop-i.invariant.0 (omega arith) ∙ e) }
