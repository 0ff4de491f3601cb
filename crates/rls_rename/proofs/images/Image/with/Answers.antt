use Rattle.std.proofs.Common.{◌≡◌, ◌∷◌, [], ◌++◌, true, sym, ap, ◌∙◌, subst}
use Rattle.rls_runs.specs.Runs.{run_idents, idents_of}
use Rattle.rls_runs.specs.Places.{last_ident, is_above}
use Rattle.rls_rename.proofs.JoinedImages.{stretch_is_run, joined_range, joined_apart, joined_idents, pushed_apart, pushed_idents}
use Rattle.rls_rename.proofs.images.Image.with.Goals as goal

pub longer-requires : goal.longer-requires
longer-requires c =
    let a = c.self.inside in
    let y = c.args.next in
    let t = sym c.touches.ensures.touches ∙ c.if-touches.true in
    record { in_range = joined_range a.runs a.last.first a.last.len y.first y.len y.some c.self.invariant t c.last-last.ensures.ident y.in_range }

pub invariant_of-result : goal.invariant_of-result
invariant_of-result c =
    let a = c.self.inside in
    let y = c.args.next in
    let t = sym c.touches.ensures.touches ∙ c.if-touches.true in
    rw (c.longer.ensures.first, c.longer.ensures.len) (joined_apart a.runs a.last.first a.last.len y.first y.len y.some c.self.invariant t)

pub returns-then-touches : goal.returns-then-touches
returns-then-touches c =
    let a = c.self.inside in
    let y = c.args.next in
    let t = sym c.touches.ensures.touches ∙ c.if-touches.true in
    record { image = rw (c.longer.ensures.first, c.longer.ensures.len) (joined_idents a.runs a.last.first a.last.len y.first y.len y.some c.self.invariant t ∙ ap (λ rs. idents_of rs ++ run_idents y.first y.len) c.self.view_is) }

pub invariant_of-result-2 : goal.invariant_of-result-2
invariant_of-result-2 c =
    let a = c.self.inside in
    let y = c.args.next in
    let t = sym c.touches.ensures.touches ∙ c.if-touches.false in
    let r = stretch_is_run a.last.first a.last.len c.last-last.ensures.ident c.last-last.ensures.bounded a.last.some a.last.in_range in
    let above = subst (λ rs. is_above (last_ident (idents_of rs)) y.first ≡ true) (sym c.self.view_is) c.requires.above in
    let pushed = c.in_ok-push.ensures.ok ∙ ap (λ q. a.runs ++ q ∷ []) c.into_run.ensures.run in
    rw pushed (pushed_apart a.runs a.last.first a.last.len y.first y.len y.some c.self.invariant r above t)

pub returns : goal.returns
returns c =
    let a = c.self.inside in
    let y = c.args.next in
    let pushed = c.in_ok-push.ensures.ok ∙ ap (λ q. a.runs ++ q ∷ []) c.into_run.ensures.run in
    record { image = rw pushed (pushed_idents a.runs a.last.first a.last.len y.first y.len y.some c.self.invariant ∙ ap (λ rs. idents_of rs ++ run_idents y.first y.len) c.self.view_is) }
