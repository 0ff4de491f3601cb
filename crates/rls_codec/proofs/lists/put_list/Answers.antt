use Rattle.std.proofs.Common.{◌++◌, ◌∙◌, subst, ap}
use Rattle.std.proofs.lemmas.List.Elements.{All-more}
use Rattle.rls_codec.proofs.Appending.{front_append, front_then, part_more}
use Rattle.rls_codec.proofs.lists.put_list.Goals as goal

pub returns-in_err-put-clause-keeps : goal.returns-in_err-put-clause-keeps
returns-in_err-put-clause-keeps g c =
    front_then c.args.out.now.items c.loop-part.out.items c.put.new.out.items (front_append c.args.out.now.items c.loop-part.out.items _ c.loop-part.invariant.bytes) c.put.ensures.keeps

pub loop-part-preserved : goal.loop-part-preserved
loop-part-preserved g c =
    let part = c.part-item.result in
    let bytes = g.P.Part.bytes in
    record {
      bytes = part_more bytes c.args.parts.now c.loop-part.part-index part c.args.out.now.items c.loop-part.out.items c.put.new.out.items c.loop-part-test.true c.loop-part.invariant.bytes (c.in_ok-put.ensures.ok ∙ ap (λ p. c.loop-part.out.items ++ bytes p) c.part-item.is);
      fits = All-more g.P.Part.Fits c.args.parts.now c.loop-part.part-index part c.loop-part-test.true c.loop-part.invariant.fits (subst g.P.Part.Fits c.part-item.is c.in_ok-put.ensures.fits);
    }
