use Rattle.std.proofs.Common.{◌≡◌, length, get_or, ap, sym, ◌∙◌, arith, List, ℕ}
use Rattle.rls_ops.proofs.Matching.{matches_all, numbers_differ, numbers_match}
use Rattle.rls_ops.proofs.same.same_text.Goals as goal

pub returns-then-len : goal.returns-then-len
returns-then-len c = record { same = sym (numbers_differ c.args.text.now c.args.other.now (λ e. c.if-len.true (c.len.ensures.len ∙ ap length e ∙ sym c.len-2.ensures.len))) }

pub returns-then-get : goal.returns-then-get
returns-then-get c =
    record { same = sym (numbers_differ c.args.text.now c.args.other.now (λ e. c.if-get.true (c.get.ensures.char ∙ ap (λ (l : List ℕ). get_or l c.loop-i.i 0) e ∙ sym c.get-in-loop-i.ensures.char))) }

pub returns : goal.returns
returns c =
    let l : length c.args.text.now ≡ length c.args.other.now = sym c.len.ensures.len ∙ c.if-len.false ∙ c.len-2.ensures.len in
    let n : c.loop-i.i ≡ length c.args.text.now = omega (arith, c.len-i-end.ensures.len) in
    record { same = sym (numbers_match c.args.text.now c.args.other.now (matches_all c.args.text.now c.args.other.now c.loop-i.i l n c.loop-i.invariant)) }
