-- Operations that are taken one after another, and how far one came.
use Rattle.std.proofs.Common.{◌≡◌, ◌∙◌, ◌<◌, ℕ, List, length, Some, cond, refl, sym, ap, subst}
use Rattle.std.specs.List.{All}
use Rattle.rls_ops.specs.declared.op.Op.{Op}
use Rattle.rls_ops.specs.declared.message.Message.{Message}
use Rattle.rls_model.specs.Receiving.{State}
use Rattle.rls_model.specs.Taking.{has_room, take_within}
use Rattle.rls_model.specs.Taking as model
use Rattle.rls_model.proofs.Machines.{no_ops}
use Rattle.rls_seen.specs.Seen.{Seen, members}
use Rattle.rls_seen.specs.Over.{acknowledged}
use Rattle.rls_model.specs.WellFormed.{AreOps, IsSmall}
use Rattle.rls_seen.specs.Messages.{by_parts, Course, started, moved, take_ops, taken_within, IsMessage, IsPartTaken}
use Rattle.rls_seen.specs.Stands.{StandsFor}
use Rattle.rls_seen.proofs.Repeating.{within, Reaches, no_more}
use Rattle.rls_seen.proofs.Taking.{started_goes, ops_go, taken_alike}
use Rattle.rls_replica.specs.Steps.{IsPartOfOps}

-- ---- cut short

-- some of the steps were taken
pub ops_part : (s : Seen) (os : List Op) (k : ℕ) (c : Course) (rest : List Op) → Reaches s os k c rest → IsPartOfOps s os c.state
ops_part s os k c rest h =
    let e : take_ops (started (Some k) s) os ≡ within (Some 0) c = ap (λ l. take_ops (started l s) os) (sym (no_more k)) ∙ (h (Some 0) ∙ no_ops by_parts rest (within (Some 0) c) refl) in
    (k, ap (λ d. d.limit) e, sym (ap (λ d. d.state) e))

-- it stands for the history behind as many
pub ops_part_stands : (s u : Seen) (t : State) (os : List Op) → AreOps os → IsPartOfOps s os u → StandsFor s t → (n : ℕ) × StandsFor u (model.take_ops (model.started (Some n) t) os).state
ops_part_stands s u t os w p h =
    (p.0, subst (λ x. StandsFor x (model.take_ops (model.started (Some p.0) t) os).state) (sym p.2) (ops_go os (members s) (started (Some p.0) s) (model.started (Some p.0) t) w (started_goes (Some p.0) s t h)).states.1)

pub message_whole : (s : Seen) (m : Message) → m.members ≡ members s → m.from < m.members → length m.vector ≡ m.members → All IsSmall m.vector → AreOps m.ops → IsMessage (members s) m
message_whole s m e from vector bounded ops = record { from = subst (λ n. m.from < n) e from; vector = (vector ∙ e, bounded); ops = ops }

pub message_part_stands : (s u : Seen) (t : State) (m : Message) → IsMessage (members s) m → IsPartTaken s m u → StandsFor s t → (n : ℕ) × StandsFor u (take_within (Some n) t m).state
message_part_stands s u t m w p h = (p.0, subst (λ x. StandsFor x (take_within (Some p.0) t m).state) (sym p.1) (taken_alike (Some p.0) s t m w h).1)

-- with the acknowledgement that isn't noted any more
pub message_part : (s u : Seen) (m : Message) → IsPartOfOps s m.ops u → IsPartTaken s m u
unfolding taken_within
message_part s u m p =
    let d = take_ops (started (Some p.0) s) m.ops in
    (p.0, p.2 ∙ sym (ap (λ b. (cond b (moved d (acknowledged d.state m.from m.vector)) d).state) (ap has_room p.1)))
