use Rattle.std.proofs.Common.{◌≤◌, Option, ℕ, subst}
use Rattle.std.specs.Prelude.{unwrap_or}
use Rattle.rls_replica.proofs.Bounding.{floor_most}
use Rattle.rls_replica.proofs.bounds.Bounds.at.Goals as goal

pub returns-in-None : goal.returns-in-None
returns-in-None c = record { most = λ q b. subst (λ (r : Option ℕ). q ≤ unwrap_or r 0) c.in-None.is (floor_most c.args.self.now.numbers.entries c.args.edge c.floor.result c.floor.ensures.floor q b) }

pub returns-in-Some : goal.returns-in-Some
returns-in-Some c = record { most = λ q b. subst (λ (r : Option ℕ). q ≤ unwrap_or r 0) c.in-Some.is (floor_most c.args.self.now.numbers.entries c.args.edge c.floor.result c.floor.ensures.floor q b) }
