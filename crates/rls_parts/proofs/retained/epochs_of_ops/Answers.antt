use Rattle.std.proofs.Common.{◌∙◌, ◌++◌, ◌∷◌, [], List, map, take, ap, sym, arith}
use Rattle.std.proofs.lemmas.List.{map-append, take_all}
use Rattle.rls_ident.specs.declared.epoch_name.EpochName.{EpochName}
use Rattle.rls_ops.specs.declared.op.Op.{Op}
use Rattle.rls_log.proofs.Steps.{take_reads}
use Rattle.rls_parts.proofs.retained.epochs_of_ops.Goals as goal

pub loop-i-preserved : goal.loop-i-preserved
loop-i-preserved c =
    let h = c.head.ensures.head in
    let os = c.args.ops.now in
    c.in_ok-push.ensures.items ∙ ap (λ (es : List EpochName). es ++ c.head.result.epoch ∷ []) c.loop-i.invariant ∙ ap (λ (e : EpochName). map (λ (o : Op). o.epoch) (take c.loop-i.i os) ++ e ∷ []) h.2.epoch
    ∙ sym (map-append (λ (o : Op). o.epoch) (take c.loop-i.i os) (h.0 ∷ [])) ∙ ap (map (λ (o : Op). o.epoch)) (sym (take_reads os c.loop-i.i h.0 h.1))

pub returns : goal.returns
returns c = record { epochs = c.loop-i.invariant ∙ ap (map (λ (o : Op). o.epoch)) (take_all c.loop-i.i c.args.ops.now (omega (arith, c.loop-i-test.false, c.len-i-end.ensures.len))) }
