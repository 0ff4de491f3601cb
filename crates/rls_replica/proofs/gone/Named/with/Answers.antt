use Rattle.std.proofs.Common.{◌≡◌, ℕ, List, Option, None, inl, inr, sym, subst}
use Prim.{tt}
use Rattle.std.specs.Prelude.{IfSome}
use Rattle.rls_ident.specs.declared.tuple.Tuple.{Tuple}
use Rattle.rls_replica.specs.declared.bounds.Bounds.{Bounds}
use Rattle.rls_replica.specs.Bounds.{IsBounded, edge_of}
use Rattle.rls_replica.proofs.gone.Named.with.Goals as goal
use Rattle.rls_replica.proofs.gone.Named.with.Goals.{in-Some+in_ok-note-in-Some, in-None}

-- what bounds there are tell so
abbrev AreBounded : Option Bounds → ℕ → List Tuple → ℕ → Type 0
AreBounded r a x q = IfSome r (λ b. IsBounded b.numbers.entries (edge_of a x) q)

none_there : (r : Option Bounds) (a : ℕ) (x : List Tuple) (q : ℕ) → r ≡ None → AreBounded r a x q
none_there r a x q e = subst (λ b. AreBounded b a x q) (sym e) tt

pub returns-clause-kept : goal.returns-clause-kept
returns-clause-kept c = λ a x q h n. (
  c.in_ok-add.ensures.ok x (inl n.0),
  elim c.match-bounds.branch [
    | in-Some+in_ok-note-in-Some w ↦ subst (λ b. AreBounded b a x q) (sym w.bounds-is) (w.in_ok-note-in-Some.ensures.kept a x q h (subst (λ b. AreBounded b a x q) w.in-Some.is n.1))
    | in-None w ↦ none_there c.match-bounds.bounds a x q w.bounds-is
  ],
)

pub returns-clause-named : goal.returns-clause-named
returns-clause-named c = λ x p. (
  c.in_ok-add.ensures.ok x (inr p),
  elim c.match-bounds.branch [
    | in-Some+in_ok-note-in-Some w ↦ subst (λ b. AreBounded b c.args.author x c.args.number) (sym w.bounds-is) (w.in_ok-note-in-Some.ensures.named x p)
    | in-None w ↦ none_there c.match-bounds.bounds c.args.author x c.args.number w.bounds-is
  ],
)
