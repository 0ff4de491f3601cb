use Rattle.std.proofs.Common.{◌≡◌, ◌+◌, ◌-◌, ◌++◌, true, length, set, sym, ap, ◌∙◌, subst, arith}
use Rattle.rls_runs.specs.Runs.{run_idents, idents_of, is_run}
use Rattle.rls_runs.specs.Places.{last_ident, touches}
use Rattle.rls_runs.proofs.RunLists.{joined_fits, joined_runs, joined_idents, joined_set, touching_some, got_last}
use Rattle.rls_runs.proofs.runs.Runs.join.Goals as goal

pub grow-requires : goal.grow-requires
grow-requires c =
    let rs = c.self.inside.runs.items in
    let r = c.index_mut.result.now in
    let run = c.args.run in
    let t = subst (λ xs. touches (last_ident xs) run.0 ≡ true) (sym c.self.view_is) c.requires.touches in
    let n : c.len-last.result ≡ length rs = omega arith in
    let g = got_last rs c.len-last.result r n (touching_some rs run.0 t) c.index_mut.ensures.value in
    let fits = joined_fits rs c.self.inside.starts.items c.self.inside.total c.self.invariant r g run c.len.ensures.run t in
    record { fits = subst (λ k. is_run (r.0, r.1 + k) ≡ true) (sym c.len.ensures.len) fits }

pub invariant_of-self : goal.invariant_of-self
invariant_of-self c =
    let rs = c.self.inside.runs.items in
    let r = c.index_mut.result.now in
    let run = c.args.run in
    let starts = c.self.inside.starts.items in
    let total = c.self.inside.total in
    let t = subst (λ xs. touches (last_ident xs) run.0 ≡ true) (sym c.self.view_is) c.requires.touches in
    let some = touching_some rs run.0 t in
    let n : c.len-last.result ≡ length rs = omega arith in
    let g = got_last rs c.len-last.result r n some c.index_mut.ensures.value in
    let all = joined_runs rs starts total c.self.invariant r g run c.len.ensures.run t in
    let grown : c.grow.new.self ≡ (r.0, r.1 + run.1) = c.grow.ensures.longer ∙ ap (λ k. (r.0, r.1 + k)) c.len.ensures.len in
    rw (grown, c.len-2.ensures.len, joined_set rs c.len-last.result (r.0, r.1 + run.1) n some) all

pub returns : goal.returns
returns c =
    let rs = c.self.inside.runs.items in
    let r = c.index_mut.result.now in
    let run = c.args.run in
    let t = subst (λ xs. touches (last_ident xs) run.0 ≡ true) (sym c.self.view_is) c.requires.touches in
    let some = touching_some rs run.0 t in
    let n : c.len-last.result ≡ length rs = omega arith in
    let g = got_last rs c.len-last.result r n some c.index_mut.ensures.value in
    let grown : c.grow.new.self ≡ (r.0, r.1 + run.1) = c.grow.ensures.longer ∙ ap (λ k. (r.0, r.1 + k)) c.len.ensures.len in
    let is : idents_of (set rs (c.len-last.result - 1) c.grow.new.self) ≡ idents_of rs ++ run_idents run.0 run.1 =
    ap (λ q. idents_of (set rs (c.len-last.result - 1) q)) grown ∙ ap idents_of (joined_set rs c.len-last.result (r.0, r.1 + run.1) n some) ∙ joined_idents rs c.self.inside.starts.items c.self.inside.total c.self.invariant r g run c.len.ensures.run t in
    record { joined = is ∙ ap (λ xs. xs ++ run_idents run.0 run.1) c.self.view_is }
