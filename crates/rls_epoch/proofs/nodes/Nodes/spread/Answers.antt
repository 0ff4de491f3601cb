use Rattle.std.proofs.Common.{◌≡◌, ◌-◌, ◌<◌, ℕ, suc, Bool, List, take, set, ap, sym, ◌∙◌, subst, arith}
use Rattle.std.specs.Prelude.{if◌then◌else◌}
use Rattle.std.proofs.lemmas.List.{take_all}
use Rattle.rls_ident.proofs.Members.{bool_cases}
use Rattle.rls_epoch.specs.Links.{up_at}
use Rattle.rls_epoch.specs.Marks.{has_mark, mark_count}
use Rattle.rls_epoch.proofs.Counting.{count_marked, count_most, count_one, count_some, mark_count_is}
use Rattle.rls_epoch.proofs.Found.{up_earlier}
use Rattle.rls_epoch.proofs.Spreading.{IsSpreading, spread_is, spreading_begins, spreading_skip, spreading_up}
use Rattle.rls_epoch.proofs.nodes.Nodes.spread.Goals as goal

pub loop-wanted-init : goal.loop-wanted-init
loop-wanted-init c =
    let ms = c.args.marks.now in
    let n = c.count-number.result in
    let w = c.requires.whole in
    let same = c.count-number.ensures.count in
    let all : take (suc n) ms ≡ ms = take_all (suc n) ms (omega arith) in
    let counted = c.count-wanted.ensures.count ∙ sym (mark_count_is ms) in
    record {
      state = subst (IsSpreading c.args.self.now.top c.args.self.now.placed ms ms) (sym same) (spreading_begins c.args.self.now.top c.args.self.now.placed c.count-number.ensures.laid ms w);
      count = counted ∙ ap mark_count (sym all);
      some = let s = c.requires.some in omega arith;
    }

pub mark_up-wanted-requires-clause-some : goal.mark_up-wanted-requires-clause-some
mark_up-wanted-requires-clause-some c = let i = c.loop-wanted.invariant in let h = i.count in let m = count_most c.loop-wanted.marks (suc c.loop-wanted.number) in omega arith

pub mark_up-wanted-requires-clause-within : goal.mark_up-wanted-requires-clause-within
mark_up-wanted-requires-clause-within c = c.loop-wanted.invariant.state.in_range

pub mark_up-wanted-requires-clause-earlier : goal.mark_up-wanted-requires-clause-earlier
mark_up-wanted-requires-clause-earlier c =
    let i = c.loop-wanted.invariant in
    let h = i.count in
    let r = i.state.in_range in
    let m = count_most c.loop-wanted.marks (suc c.loop-wanted.number) in
    let u = up_earlier c.args.self.now.top c.args.self.now.placed c.count-number.ensures.laid (c.loop-wanted.number - 1) (omega arith) in
    omega arith

pub overflow_sub-number : goal.overflow_sub-number
overflow_sub-number c = let i = c.loop-wanted.invariant in let h = i.count in let m = count_most c.loop-wanted.marks (suc c.loop-wanted.number) in omega arith

pub loop-wanted-smaller : goal.loop-wanted-smaller
loop-wanted-smaller c =
    let i = c.loop-wanted.invariant in
    let h = i.count in
    let m = count_most c.loop-wanted.marks (suc c.loop-wanted.number) in
    let l : c.loop-wanted.number - 1 < c.loop-wanted.number = omega arith in
    l

pub loop-wanted-preserved : goal.loop-wanted-preserved
loop-wanted-preserved c =
    let top = c.args.self.now.top in
    let ps = c.args.self.now.placed in
    let old = c.args.marks.now in
    let ms = c.loop-wanted.marks in
    let n = c.loop-wanted.number in
    let i = c.loop-wanted.invariant in
    let s = i.state in
    let h = i.count in
    let r = s.in_range in
    let w = s.whole in
    let m = count_most ms (suc n) in
    let some : 0 < n = omega arith in
    let f = c.mark_up-wanted.ensures.fewer in
    let one = c.mark_up-wanted.ensures.most in
    let e = c.mark_up-wanted.ensures.marks in
    let next : n ≡ suc (n - 1) = omega arith in
    let left = subst (λ (k : ℕ). c.loop-wanted.wanted - c.mark_up-wanted.result ≡ mark_count (take k c.mark_up-wanted.new.marks)) next (omega arith) in
    record {
      state = bool_cases (has_mark ms n)
          (λ q. let a = count_marked ms n (omega arith) q in
          let o = count_some ms n (omega arith) in
          let g = e ∙ ap (λ (b : Bool). if b then set ms (up_at ps (n - 1)) 1 else ms) q in
          subst (λ (xs : List ℕ). IsSpreading top ps old xs (n - 1)) (sym g) (spreading_up top ps c.count-number.ensures.laid old ms n s some q o.0 o.1 o.3))
          (λ q. let g = e ∙ ap (λ (b : Bool). if b then set ms (up_at ps (n - 1)) 1 else ms) q in
          subst (λ (xs : List ℕ). IsSpreading top ps old xs (n - 1)) (sym g) (spreading_skip top ps c.count-number.ensures.laid old ms n s some q));
      count = left;
      some = omega arith;
    }

pub last_marked-requires-clause-within : goal.last_marked-requires-clause-within
last_marked-requires-clause-within c = let s = c.loop-wanted.invariant.state in let w = s.whole in let r = s.in_range in omega arith

pub last_marked-requires-clause-some : goal.last_marked-requires-clause-some
last_marked-requires-clause-some c = let i = c.loop-wanted.invariant in let h = i.count in let s = i.some in omega arith

pub returns-clause-spread : goal.returns-clause-spread
returns-clause-spread c =
    let ms = c.loop-wanted.marks in
    let m = c.loop-wanted.number in
    let t = c.last_marked.result in
    let i = c.loop-wanted.invariant in
    let s = i.state in
    let h = i.count in
    let w = s.whole in
    let r = s.in_range in
    let tm = c.last_marked.ensures.within in
    let tk = c.last_marked.ensures.marked in
    λ e es a. spread_is c.args.self.now.top c.args.self.now.placed c.count-number.ensures.laid c.args.marks.now ms m t s tm tk
    (λ k l q. count_one ms (suc m) k t (omega arith) (omega arith) (omega arith) (omega arith) (omega arith) q tk) e es a
