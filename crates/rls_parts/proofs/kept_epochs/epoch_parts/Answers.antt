use Rattle.std.proofs.Common.{rules, ◌≡◌, ◌∷◌}
use Rattle.rls_parts.proofs.NamedNodes.{name_in}
use Rattle.rls_parts.proofs.kept_epochs.epoch_parts.Goals as goal

pub epoch_part-requires : goal.epoch_part-requires
epoch_part-requires c =
    let all : c.args.names.now ≡ c.in-Some.top.now ∷ c.in-Some.others.now = search (rules) in
    record { kept = c.requires.kept _ (name_in c.loop-name.name-index all c.loop-name-test.true) }
