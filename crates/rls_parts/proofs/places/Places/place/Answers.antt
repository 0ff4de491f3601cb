use Rattle.std.proofs.Common.{◌∙◌, position, sym, ap}
use Rattle.std.specs.Map.{lookup}
use Rattle.std.specs.BTreeMap.{is_at}
use Rattle.std.proofs.lemmas.Iterator.Adapters.{position_from-zero}
use Rattle.rls_ident.specs.EpochNames.{name_eq}
use Rattle.rls_parts.specs.Places.{key_cmp}
use Rattle.rls_parts.proofs.places.Places.place.Goals as goal

pub returns : goal.returns
returns c =
    let same = name_eq c.args.name in
    record {
      place = c.copied.ensures
          ∙ (c.get.ensures.value
          ∙ (ap (λ k. lookup (is_at (key_cmp k)) c.self.inside.first.entries) c.key_of.ensures.key
          ∙ (c.self.invariant c.args.name ∙ (sym (position_from-zero same c.self.inside.names.now) ∙ ap (position same) c.self.view_is))));
    }
