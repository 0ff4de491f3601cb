use Rattle.std.proofs.Common.{◌+◌, ◌-◌, length, drop, get_or, ap, ◌∙◌, arith}
use Rattle.std.specs.Prelude.{pos}
use Rattle.std.proofs.lemmas.Option.{slice_get-get_or}
use Rattle.rls_ident.specs.Identifiers.{shifted}
use Rattle.rls_blocks.proofs.Rests.{parts_take, parts_drop, part_got, longest_among}
use Rattle.rls_blocks.proofs.rest.Rest.new.Goals as goal

pub copies-requires : goal.copies-requires
copies-requires c = record { parts = parts_take c.longest_of-longest.result c.args.parts.now 0 c.args.block.now.0.1 c.requires.parts }

pub copies-requires-2 : goal.copies-requires-2
copies-requires-2 c =
    let ps = c.args.parts.now in
    let i = c.longest_of-longest.result in
    record { parts = parts_take (length ps - (i + 1)) (drop (i + 1) ps) 0 c.args.block.now.0.1 (parts_drop (i + 1) ps 0 c.args.block.now.0.1 c.requires.parts) }

pub part-requires-clause-some : goal.part-requires-clause-some
part-requires-clause-some c =
    let ps = c.args.parts.now in
    let i = c.longest_of-longest.result in
    (part_got ps i 0 c.args.block.now.0.1 _ (slice_get-get_or ps i (record { at = 0; len = 0 }) c.longest_of-longest.ensures.within) c.requires.parts).0

pub part-requires-clause-within : goal.part-requires-clause-within
part-requires-clause-within c =
    let ps = c.args.parts.now in
    let i = c.longest_of-longest.result in
    let w = (part_got ps i 0 c.args.block.now.0.1 _ (slice_get-get_or ps i (record { at = 0; len = 0 }) c.longest_of-longest.ensures.within) c.requires.parts).1 in
    let e = ap (λ r. r.1) c.run.ensures.run in
    omega (arith, w, e)

pub returns-clause-rest : goal.returns-clause-rest
returns-clause-rest c =
    let ps = c.args.parts.now in
    let i = c.longest_of-longest.result in
    let p = get_or ps i (record { at = 0; len = 0 }) in
    longest_among ps i p c.args.block.now c.in_ok-front.front.blocks c.in_ok-behind.behind.blocks c.in_ok-run.run'.1 (slice_get-get_or ps i (record { at = 0; len = 0 }) c.longest_of-longest.ensures.within) c.in_ok-front.ensures.blocks c.in_ok-behind.ensures.blocks (ap (λ r. r.1) c.in_ok-run.ensures.part)

pub returns-clause-is_rest : goal.returns-clause-is_rest
returns-clause-is_rest c =
    let ps = c.args.parts.now in
    let i = c.longest_of-longest.result in
    let p = get_or ps i (record { at = 0; len = 0 }) in
    let w = (part_got ps i 0 c.args.block.now.0.1 p (slice_get-get_or ps i (record { at = 0; len = 0 }) c.longest_of-longest.ensures.within) c.requires.parts).1 in
    let n = ap (λ r. r.1) c.in_ok-run.ensures.part in
    record { run_is = ap (λ r. r.0) c.in_ok-run.ensures.part ∙ ap (λ r. shifted (pos p.at) r.0) c.run.ensures.run; within = omega (arith, w, n) }
