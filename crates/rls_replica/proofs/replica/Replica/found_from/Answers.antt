use Rattle.std.proofs.Common.{◌≡◌, ◌∙◌, ◌+◌, ◌-◌, ◌≤◌, length, Some, map, false, true, sym, ap, arith}
use Rattle.std.proofs.lemmas.List.{length-map}
use Rattle.std.proofs.lemmas.Option.{slice_get_within}
use Rattle.std.specs.Prelude.{pos, slice_get}
use Rattle.rls_ident.specs.Identifiers.{shifted}
use Rattle.rls_runs.specs.Entries.{has_ident, idents_in}
use Rattle.rls_seen.specs.Seen.{greatest_over, translate_over}
use Rattle.rls_replica.proofs.Targets.{got_mapped, known_in_text, known_many, out_of_text, unknown_at}
use Rattle.rls_replica.proofs.replica.Replica.found_from.Goals as goal

-- the targets of a run that stand in the text
pub returns-then-standing-gt0-clause-known : goal.returns-then-standing-gt0-clause-known
returns-then-standing-gt0-clause-known c =
    let s = c.args.self.now in
    let e = c.args.targets.now.epoch in
    let xs = c.args.targets.now.ids.now in
    let at = c.args.targets.now.at in
    let n = c.in_ok-standing.standing in
    let run = c.locate-from.result.0.now in
    let from = c.locate-from.result.1 in
    let within = c.in_ok-standing.ensures.within in
    let last = slice_get_within c.args.targets.now.images.now (at + (n - 1)) _ (c.locate-from.ensures.idents (n - 1) (omega (arith, within, c.if-standing-gt0.true))) in
    let long : length c.args.targets.now.images.now ≡ length xs = ap length c.requires.targets.images ∙ length-map xs (translate_over s e (greatest_over s)) in
    let all : at + n ≤ length xs = omega (arith, last, long, c.if-standing-gt0.true) in
    let known = known_many s e xs at n all (λ k x l g.
    let image : slice_get (map (translate_over s e (greatest_over s)) xs) (at + k) ≡ Some (shifted (pos (from + k)) run.0) = ap (λ ys. slice_get ys (at + k)) (sym c.requires.targets.images) ∙ c.locate-from.ensures.idents k (omega (arith, l, within)) in
    let is = got_mapped (translate_over s e (greatest_over s)) xs (at + k) x (shifted (pos (from + k)) run.0) g image in
    let there : has_ident (idents_in s.text) (shifted (pos (from + k)) run.0) ≡ true = rw (← c.self.view_is) (c.in_ok-standing.ensures.there k l) in
    known_in_text s e x (ap (has_ident (idents_in s.text)) (sym is) ∙ there)) in
    record { within = all; known = known }

-- none at the place is in the text, and no unstable deletion names it
pub returns-clause-unknown : goal.returns-clause-unknown
returns-clause-unknown c z x g =
    let s = c.args.self.now in
    let xs = c.args.targets.now.ids.now in
    let run = c.locate-from.result.0.now in
    let from = c.locate-from.result.1 in
    let out : has_ident (idents_in s.text) (shifted (pos from) run.0) ≡ false = rw (← c.self.view_is) (c.in_ok-standing.ensures.none (omega (arith, c.if-standing-gt0.false))) in
    let named = out_of_text s c.args.targets.now.epoch xs c.args.targets.now.images.now c.args.targets.now.at from run.0 x c.requires.targets.images (c.locate-from.ensures.idents 0 (omega (arith, c.locate-from.ensures.within))) out g in
    unknown_at s c.args.targets.now.epoch xs c.args.targets.now.at x g (named ∙ c.in_ok-named.ensures.none z x g)
