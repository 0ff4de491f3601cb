use Rattle.std.proofs.Common.{ap, ◌∙◌}
use Rattle.rls_ident.specs.Tuples.{offset_of}
use Rattle.rls_ident.specs.Identifiers.{last_of}
use Rattle.rls_rename.proofs.Stretches.{stripped_goes, stripped_last}
use Rattle.rls_rename.proofs.stretch.Stretch.stripped.Goals as goal

pub invariant_of-result : goal.invariant_of-result
invariant_of-result c =
    let e = ap offset_of (ap last_of c.in_ok-stripped.ensures.stripped ∙ stripped_last c.args.n c.args.self.now.first c.requires.rest) in
    record { some = c.args.self.now.some; in_range = rw e c.args.self.now.in_range }

pub returns : goal.returns
returns c = record { stripped = rw c.in_ok-stripped.ensures.stripped (stripped_goes c.args.n c.args.self.now.first c.args.self.now.len c.requires.rest) }
