use Rattle.std.proofs.Common.{rules, ◌≡◌}
use Rattle.std.specs.Prelude.{encode_utf8_all}
use Rattle.rls_runs.proofs.Texts.{scalars_of_utf8}
use Rattle.test_replicas.proofs.runs.listed.Goals as goal

pub from_vec-requires : goal.from_vec-requires
from_vec-requires c =
    let spelled : encode_utf8_all c.in_ok-list.list.items ≡ c.args.characters.now = search rules in
    record { scalars = scalars_of_utf8 c.args.characters.now c.in_ok-list.list.items c.utf8.characters spelled }
