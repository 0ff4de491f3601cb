use Rattle.std.proofs.Common.{ap, ◌∙◌, arith}
use Rattle.rls_ident.specs.Tuples.{offset_of}
use Rattle.rls_ident.specs.Identifiers.{last_of}
use Rattle.rls_rename.proofs.Stretches.{prefixed_goes, prefixed_last}
use Rattle.rls_rename.proofs.stretch.Stretch.prefixed.Goals as goal

pub invariant_of-result : goal.invariant_of-result
invariant_of-result c =
    let x = c.args.self.now.first in
    let e = ap offset_of (ap last_of c.in_ok-prefixed.ensures.prefixed ∙ prefixed_last c.args.front.now x (omega arith)) in
    record { some = c.args.self.now.some; in_range = rw e c.args.self.now.in_range }

pub returns : goal.returns
returns c = record { prefixed = rw c.in_ok-prefixed.ensures.prefixed (prefixed_goes c.args.front.now c.args.self.now.first c.args.self.now.len (omega arith)) }
