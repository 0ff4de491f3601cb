use Rattle.std.proofs.Common.{◌≡◌, ◌∙◌, true, Some, None, ap, sym, arith}
use Rattle.std.specs.Prelude.{option_copied, pos, ◌-ℤ◌, ◌≤ℤ◌, if◌then◌else◌}
use Rattle.std.proofs.lemmas.Int.{ints}
use Rattle.rls_ident.specs.Identifiers.{last_of, shifted, least_offset}
use Rattle.rls_ident.specs.Tuples.{offset_of}
use Rattle.rls_model.specs.Editing.{own_stem, may_prepend}
use Rattle.rls_parts.proofs.Between.{prepends}
use Rattle.rls_parts.proofs.table.StemTable.first_in_front.Goals as goal

pub returns-then-begins_above : goal.returns-then-begins_above
returns-then-begins_above c =
    let right = c.args.right.now in
    let own = own_stem c.args.self.now.stems c.args.me (last_of right) in
    let offset = ap offset_of c.last-last.ensures.last in
    let begins : offset_of (last_of right) ≡ c.in-Some.stem.low = omega (arith, ints, offset, c.if-last-stem.false) in
    let room : least_offset ≤ℤ (offset_of (last_of right) -ℤ pos c.args.count) = omega (arith, ints, offset, c.if-last-count.false) in
    let may : true ≡ may_prepend own (option_copied c.args.left) right c.args.count = prepends own c.in-Some.stem (option_copied c.args.left) right c.in_ok-first.first c.args.count true (c.in-Some.ensures.own ∙ ap (own_stem c.args.self.now.stems c.args.me) (sym c.last-last.ensures.last)) begins room c.in_ok-first.ensures.lowered (sym c.if-begins_above.true ∙ c.begins_above.ensures.above) in
    record { first = ap Some c.in_ok-first.ensures.lowered ∙ ap (λ b. if b then Some (shifted (pos 0 -ℤ pos c.args.count) right) else None) may }
