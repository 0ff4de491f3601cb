use Rattle.std.proofs.Common.{◌≡◌, ◌<◌, ◌+◌, ◌-◌, ◌++◌, List, ℕ, take, drop, Some, sym, ap, subst, arith, append-nil, ◌∙◌}
use Rattle.std.specs.Prelude.{slice_get}
use Rattle.rls_seen.specs.Seen.{Seen, text_over}
use Rattle.rls_seen.proofs.Keeping.{text_alike}
use Rattle.rls_replica.proofs.Characters.{next_char}
use Rattle.rls_replica.proofs.replica.Replica.text_of.Goals as goal

pub places-preserved : goal.places-preserved
places-preserved c =
    let cs = text_over c.args.self.now in
    let all = take c.args.count (drop c.args.from cs) in
    let e = c.args.from + c.args.count in
    let l : c.places.i < e = omega (arith, c.places-test.true) in
    let g : slice_get cs c.places.i ≡ Some c.char_at.result = subst (λ (u : Seen). slice_get (text_over u) c.places.i ≡ Some c.char_at.result) c.self.view_is c.char_at.ensures.char in
    subst (λ (xs : List ℕ). xs ++ take (e - (c.places.i + 1)) (drop (c.places.i + 1) cs) ≡ all) (sym c.in_ok-push.ensures.ok) (next_char cs c.places.text all c.places.i e c.char_at.result l g c.places.invariant)

pub returns-clause-stands : goal.returns-clause-stands
returns-clause-stands c = λ t h.
    let s = c.args.self.now in
    let cs = text_over s in
    let i = c.places.i in
    let none : c.args.from + c.args.count - i ≡ 0 = omega (arith, c.places-test.false) in
    sym (append-nil c.places.text)
    ∙ (ap (λ (n : ℕ). c.places.text ++ take n (drop i cs)) (sym none) ∙ (c.places.invariant ∙ ap (λ (xs : List ℕ). take c.args.count (drop c.args.from xs)) (text_alike s t h)))
