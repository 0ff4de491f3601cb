-- Taking a message, step by step, seen by a history that the replica stands for.
use Rattle.std.proofs.Common.{◌≡◌, ℕ, ◌<◌, List, None, [], ◌∷◌, refl, sym, ◌∙◌, subst, inl, inr}
use Rattle.rls_ident.specs.Lists.{IsIn}
use Rattle.rls_ops.specs.declared.op.Op.{Op}
use Rattle.rls_ops.specs.declared.message.Message.{Message}
use Rattle.rls_model.specs.declared.edit.Edit.{Edit}
use Rattle.rls_model.specs.Receiving.{State}
use Rattle.rls_model.specs.Machine.{Limit, started}
use Rattle.rls_model.specs.MachineLaws.{StepsAgree, IsAlike}
use Rattle.rls_model.specs.Taking.{by_history, Progress, take_within}
use Rattle.rls_model.specs.Taking as model
use Rattle.rls_model.specs.EditRun.{edit_within}
use Rattle.rls_model.specs.EditRun as model_edits
use Rattle.rls_model.specs.WellFormed.{IsOp, IsVector, IsEdit, AreOps}
use Rattle.rls_model.proofs.Machines.{acknowledge_alike, agree_keeping, edit_alike, release_all_alike, taking_alike}
use Rattle.rls_seen.specs.Seen.{Seen, members}
use Rattle.rls_seen.specs.Edits.{made_over, edit_fault_over}
use Rattle.rls_seen.specs.Messages.{by_parts, Course, edit_step, with_releases, acknowledge_step, take_ops, taken_within, taken_of, IsMessage}
use Rattle.rls_seen.specs.Stands.{StandsFor}
use Rattle.rls_seen.proofs.Agreeing as agreeing
use Rattle.rls_seen.proofs.Editing.{edited_stands}
use Rattle.rls_seen.proofs.Noting.{acknowledged_stands}
use Rattle.rls_seen.proofs.Counting.{members_accepted, members_acknowledged, members_kept}

-- the replica stands for the state, and has this count of members
abbrev pub Stands : ℕ → Seen → State → Type 0
Stands n s t = (members s ≡ n) × StandsFor s t

-- the machines of parts and of histories agree
pub machines_agree : (n : ℕ) → StepsAgree by_parts by_history IsOp (Stands n)
machines_agree n = agree_keeping by_parts by_history IsOp StandsFor (λ s. members s ≡ n) agreeing.machines_agree.0 (members_kept IsOp n)

-- both have taken the same steps
abbrev pub Goes : ℕ → Course → Progress → Type 0
Goes n c p = IsAlike (Stands n) c p

pub started_goes : (limit : Limit) (s : Seen) (t : State) → StandsFor s t → Goes (members s) (started limit s) (started limit t)
started_goes limit s t h = record { states = (refl, h); limit = refl; counts = refl }

pub op_in : (os : List Op) (o : Op) → AreOps os → IsIn o os → IsOp o
op_in [] o w u = absurd u
op_in (x ∷ os) o w (inl e) = subst IsOp e w.0
op_in (x ∷ os) o w (inr u) = op_in os o w.1 u

pub ops_go : (os : List Op) (n : ℕ) (c : Course) (p : Progress) → AreOps os → Goes n c p → Goes n (take_ops c os) (model.take_ops p os)
ops_go os n c p w g = taking_alike (Stands n) by_parts by_history IsOp (machines_agree n) os c p (λ o u. op_in os o w u) g

pub acknowledge_goes : (n : ℕ) (c : Course) (p : Progress) (a : ℕ) (v : List ℕ) → a < n → IsVector n v → Goes n c p → Goes n (acknowledge_step c a v) (model.acknowledge_step p a v)
acknowledge_goes n c p a v l w g =
    let e = g.states.0 in
    acknowledge_alike (Stands n) by_parts by_history c p a v
    (members_acknowledged c.state a v ∙ e, acknowledged_stands c.state p.state a v (subst (λ m. a < m) (sym e) l) (subst (λ m. IsVector m v) (sym e) w) g.states.1) g

-- an edit and what it makes ready
pub edited_goes : (limit : Limit) (s : Seen) (t : State) (edit : Edit) → IsEdit edit → edit_fault_over s edit ≡ None → StandsFor s t → Goes (members s) (with_releases (edit_step (started limit s) edit)) (edit_within limit t edit)
unfolding edit_within made_over
edited_goes limit s t edit w f h =
    let n = members s in
    let c : Course = started limit s in
    let p : Progress = started limit t in
    release_all_alike (Stands n) by_parts by_history IsOp (machines_agree n) (edit_step c edit) (model_edits.edit_step p edit)
    (edit_alike (Stands n) by_parts by_history c p edit (members_accepted s (made_over s edit), edited_stands s t edit w f h) (started_goes limit s t h))

-- a message is taken by both alike, in at most this many steps
pub taken_stands : (limit : Limit) (s : Seen) (t : State) (m : Message) → IsMessage (members s) m → StandsFor s t → Goes (members s) (taken_within limit s m) (take_within limit t m)
unfolding taken_within take_within
taken_stands limit s t m w h =
    acknowledge_goes (members s) (take_ops (started limit s) m.ops) (model.take_ops (started limit t) m.ops) m.from m.vector w.from w.vector
    (ops_go m.ops (members s) (started limit s) (started limit t) w.ops (started_goes limit s t h))

-- and counts the same
pub taken_alike : (limit : Limit) (s : Seen) (t : State) (m : Message) → IsMessage (members s) m → StandsFor s t
    → (taken_of (taken_within limit s m) ≡ model.taken (take_within limit t m)) × StandsFor (taken_within limit s m).state (take_within limit t m).state
taken_alike limit s t m w h =
    let g = taken_stands limit s t m w h in
    (g.counts, g.states.1)
