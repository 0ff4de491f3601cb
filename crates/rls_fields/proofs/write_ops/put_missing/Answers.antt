use Rattle.std.proofs.Common.{◌≡◌, ◌∙◌, ◌++◌, not, List, length, ap, arith, append_assoc}
use Rattle.std.specs.List.{flat_map}
use Rattle.std.proofs.lemmas.List.{take_all}
use Rattle.std.proofs.lemmas.List.Elements.{All-filter}
use Rattle.rls_ops.proofs.Sizes.{ops_within}
use Rattle.rls_ops.specs.declared.op.Op.{Op}
use Rattle.rls_ops.specs.Rows.{is_covered, missing_for}
use Rattle.rls_ops.specs.Spelling.{four_bytes, op_bytes}
use Rattle.rls_codec.specs.Spelled.{IsSpelledIfFit}
use Rattle.rls_fields.proofs.write_ops.put_missing.Goals as goal

pub overflow_cast-missing_count : goal.overflow_cast-missing_count
overflow_cast-missing_count c =
    let v = c.args.vector.now in
    let os = c.args.log.now in
    let all = ap (λ (ps : List Op). length (missing_for v ps)) (take_all c.len.result os (omega (arith, c.len.ensures.len))) in
    omega (arith, all, ops_within (missing_for v os), c.requires.small, c.missing_count.ensures.count)

pub returns : goal.returns
returns c =
    let v = c.args.vector.now in
    let os = c.args.log.now in
    let out = c.args.out.now.items in
    let missing = missing_for v os in
    let count : c.missing_count.result ≡ length missing = c.missing_count.ensures.count ∙ ap (λ (ps : List Op). length (missing_for v ps)) (take_all c.len.result os (omega (arith, c.len.ensures.len))) in
    record {
      ok = c.in_ok-put_missing.ensures.ok ∙ ap (λ (ps : List Op). c.put_u32.new.out.items ++ flat_map op_bytes (missing_for v ps)) (take_all c.len-2.result os (omega (arith, c.len-2.ensures.len)))
          ∙ ap (λ w. w ++ flat_map op_bytes missing) (c.in_ok-put_u32.ensures.ok ∙ ap (λ n. out ++ four_bytes n) count) ∙ append_assoc out (four_bytes (length missing)) (flat_map op_bytes missing);
      fits = All-filter (λ o. not (is_covered v o)) IsSpelledIfFit os c.fits.ensures.spelled;
    }
