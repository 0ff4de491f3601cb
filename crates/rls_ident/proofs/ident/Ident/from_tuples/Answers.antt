use Rattle.std.proofs.Common.{◌≡◌, None, rules, sym, subst, IsTrue}
use Rattle.rls_ident.specs.Identifiers.{first_fault, is_last_bounded}
use Rattle.rls_ident.specs.declared.tuple.Tuple.{Tuple}
use Rattle.rls_ident.proofs.Faults.{without_fault}
use Rattle.rls_ident.proofs.ident.Ident.from_tuples.Goals as goal

pub as_spot-requires : goal.as_spot-requires
as_spot-requires c =
    let none : first_fault 0 c.args.tuples.now ≡ None = search rules in
    record { last = (without_fault c.in-Some.front.now c.in-Some.last.now 0 (rw c.in-Some.ensures.cases.0 at none)).1 }

pub invariant_of-result : goal.invariant_of-result
invariant_of-result c =
    let none : first_fault 0 c.args.tuples.now ≡ None = search rules in
    let both = without_fault c.in-Some.front.now c.in-Some.last.now 0 (rw c.in-Some.ensures.cases.0 at none) in
    (rw c.in-Ok.ensures.items both.0, subst (λ (t : Tuple). IsTrue (is_last_bounded t)) (sym c.as_spot.ensures.spot) both.1)
