use Rattle.std.proofs.Common.{◌≡◌, ◌∙◌, ap, sym, refl, arith}
use Rattle.std.specs.Prelude.{option_copied, pos, ◌+ℤ◌, ◌≤ℤ◌}
use Rattle.std.proofs.lemmas.Int.{ints}
use Rattle.std.proofs.lemmas.Result.{IfOk-weaker}
use Rattle.rls_ident.specs.Identifiers.{last_of, shifted, greatest_offset}
use Rattle.rls_ident.specs.Tuples.{offset_of}
use Rattle.rls_model.specs.Editing.{own_stem}
use Rattle.rls_parts.proofs.Between.{appends}
use Rattle.rls_parts.proofs.table.StemTable.may_append.Goals as goal

pub returns : goal.returns
returns c =
    let offset = ap offset_of c.last-last.ensures.last in
    let ends : offset_of (last_of c.args.left.now) +ℤ pos 1 ≡ pos c.in-Some.stem.next = omega (arith, ints, c.if-last-stem.false) in
    let room : (offset_of (last_of c.args.left.now) +ℤ pos c.args.count) ≤ℤ greatest_offset = omega (arith, ints, c.if-last-count.false) in
    record { append = IfOk-weaker c.ends_below.result _ _ (λ b e. appends (own_stem c.args.self.now.stems c.args.me (last_of c.args.left.now)) c.in-Some.stem c.args.left.now (shifted (pos c.args.count) c.args.left.now) (option_copied c.args.right) c.args.count b (c.in-Some.ensures.own ∙ ap (own_stem c.args.self.now.stems c.args.me) (sym c.last-last.ensures.last)) ends room refl e) c.ends_below.ensures.below }
