use Rattle.std.proofs.Common.{◌∙◌, List, length, sym, ap, arith}
use Rattle.rls_ident.specs.declared.epoch_name.EpochName.{EpochName}
use Rattle.rls_model.specs.Parts.{epoch_parts}
use Rattle.rls_fields.specs.Fields.{epoch_bytes}
use Rattle.rls_fields.proofs.Puts.{few_names, parts_count, counted_put}
use Rattle.rls_fields.proofs.write_epochs.put_epochs.Goals as goal

pub overflow_cast-names : goal.overflow_cast-names
overflow_cast-names c = omega (arith, few_names c.args.epochs.now.epochs.nodes c.args.places.now c.requires.small, ap (λ (es : List EpochName). length es) c.names.ensures.names)

pub returns : goal.returns
returns c =
    let nodes = c.args.epochs.now.epochs.nodes in
    let count = ap (λ (es : List EpochName). length es) c.names.ensures.names ∙ sym (parts_count nodes c.args.places.now) in
    record {
      ok = counted_put epoch_bytes (epoch_parts nodes c.args.places.now) (length c.names.result.now) c.args.out.now.items c.put_u32.new.out.items c.put_epoch_list.new.out.items count c.in_ok-put_u32.ensures.ok c.in_ok-put_epoch_list.ensures.ok;
      fits = c.in_ok-put_epoch_list.ensures.fits;
    }
