use Rattle.std.proofs.Common.{◌≡◌, ◌++◌, drop, length, IsTrue}
use Rattle.std.specs.List.{All}
use Rattle.rls_ident.specs.Identifiers.{is_inner_bounded}
use Rattle.rls_ident.specs.Between.{below}
use Rattle.rls_ident.proofs.making.under.Given as goal

-- what is fixed, and what is still to come
abbrev pub invariant-loop-i : goal.invariant-loop-i
invariant-loop-i l = record {
  inner : All (λ t. IsTrue (is_inner_bounded t)) l.front.items;
  total : l.front.items ++ below (drop l.i l.hi) l.replica l.seq ≡ l.fn.front.items ++ below (drop (length l.fn.front.items) l.hi) l.replica l.seq;
}
