use Rattle.std.proofs.Common.{◌+◌, drop}
use Rattle.rls_ident.proofs.Loops.{drop_reads}
use Rattle.rls_fields.specs.Fields.{stem_bytes, own_of}
use Rattle.rls_fields.proofs.Puts.{put_next}
use Rattle.rls_fields.proofs.write_stems.put_own_list.Goals as goal

pub loop-i-preserved : goal.loop-i-preserved
loop-i-preserved c =
    let own = own_of c.args.author c.args.stems.now.stems in
    let i = c.loop-i.i in
    put_next (stem_bytes 4) c.nth.result (drop (i + 1) own) (drop i own) c.loop-i.out.items c.put_stem.new.out.items _ (drop_reads own i c.nth.result c.nth.ensures.stem) c.in_ok-put_stem.ensures.ok c.loop-i.invariant
