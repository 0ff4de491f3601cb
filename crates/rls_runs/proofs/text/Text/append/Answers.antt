use Rattle.std.proofs.Common.{◌++◌, subst, sym}
use Rattle.std.specs.List.{All}
use Rattle.std.specs.Char.{IsScalar}
use Rattle.std.proofs.lemmas.List.Elements.{All-append}
use Rattle.rls_runs.specs.Texts.{characters_of}
use Rattle.rls_runs.proofs.text.Text.append.Goals as goal

pub invariant_of-self-in-Continue-branch-4 : goal.invariant_of-self-in-Continue-branch-4
invariant_of-self-in-Continue-branch-4 c =
    let own : All IsScalar c.in-Ring.ring.items = subst (λ chars. All IsScalar (characters_of chars)) c.in-Ring.is c.self.invariant in
    let more = subst (All IsScalar) (sym c.as_slices.ensures.chars) c.as_slices.ensures.scalars in
    subst (All IsScalar) (sym c.in_ok-extend_ring-in-Ring.ensures.ok) (All-append IsScalar c.in-Ring.ring.items (c.as_slices.result.0.now ++ c.as_slices.result.1.now) own more)
