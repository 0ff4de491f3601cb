-- What a turn finds, and what a deletion leaves, at a replica.
use Rattle.std.proofs.Common.{◌≡◌, ℕ, List, [], ◌++◌, ap, ◌∙◌}
use Rattle.rls_seen.specs.Seen.{Seen, greatest_over}
use Rattle.rls_steps.specs.declared.piece.Step.{Step}
use Rattle.rls_steps.specs.Labelled.{Names, ready_over, cut_over, cut_piece}
use Rattle.rls_steps.specs.Parts.{parts, deleted}
use Rattle.rls_steps.specs.Groups.{stacked}
use Rattle.rls_steps.specs.Recorded.{Recorded, held_by, steps_of, names_over, settled, steps_over}
use Rattle.rls_steps.proofs.Recording.{names_there, delete_recorded}

-- everything is in the greatest epoch
pub record IsReadied (s : Seen) (r w : Recorded) : Type 0 where
  pub epoch : w.epoch ≡ greatest_over s
  pub next : w.next ≡ r.next
  pub names : w.names ≡ names_over s r.epoch r.names
  pub past : w.past ≡ r.past
  pub future : w.future ≡ r.future

pub readied : (s : Seen) (r v u w : Recorded) → v ≡ settled s r → u.epoch ≡ v.epoch → u.next ≡ v.next → u.names ≡ v.names → u.past ≡ v.past → u.future ≡ v.future → w ≡ u → IsReadied s r w
readied s r v u w e a b c d f q = record {
  epoch = ap (λ (x : Recorded). x.epoch) q ∙ (a ∙ ap (λ (x : Recorded). x.epoch) e);
  next = ap (λ (x : Recorded). x.next) q ∙ (b ∙ ap (λ (x : Recorded). x.next) e);
  names = ap (λ (x : Recorded). x.names) q ∙ (c ∙ ap (λ (x : Recorded). x.names) e);
  past = ap (λ (x : Recorded). x.past) q ∙ (d ∙ ap (λ (x : Recorded). x.past) e);
  future = ap (λ (x : Recorded). x.future) q ∙ (f ∙ ap (λ (x : Recorded). x.future) e);
}

readied_is : (s : Seen) (r w : Recorded) → IsReadied s r w → stacked (held_by s w.next w.names) w.past w.future ≡ steps_over s r
readied_is s r w i =
    ap (λ (k : ℕ). stacked (held_by s k w.names) w.past w.future) i.next
    ∙ (ap (λ (ns : Names). stacked (held_by s r.next ns) w.past w.future) i.names
    ∙ (ap (λ (xs : List Step). stacked (held_by s r.next (names_over s r.epoch r.names)) xs w.future) i.past
    ∙ ap (λ (xs : List Step). stacked (held_by s r.next (names_over s r.epoch r.names)) r.past xs) i.future))

now_is : (n : Seen) (q : Recorded) → q.epoch ≡ greatest_over n → steps_over n q ≡ stacked (held_by n q.next q.names) q.past q.future
now_is n q e = ap (λ (ns : Names). stacked (held_by n q.next ns) q.past q.future) (names_there n q.epoch q.names e)

-- a deletion is recorded
pub delete_step : (s n : Seen) (r w : Recorded) (more : ℕ) (names : Names) (past future : List Step) (at count : ℕ) → w ≡ r → r.epoch ≡ greatest_over s → n.epochs ≡ s.epochs → future ≡ [] →
    held_by n more names ≡ cut_over (ready_over (held_by s w.next w.names) at count) at count → past ≡ w.past ++ steps_of w.group (parts (cut_piece (ready_over (held_by s w.next w.names) at count) at count)) →
    steps_over n (record { epoch = w.epoch; next = more; names = names; past = past; future = future; group = w.group; overfull = w.overfull; after_sweep = w.after_sweep }) ≡ deleted (steps_over s r) at count
delete_step s n r w more names past future at count v q e z h p =
    ap (λ (xs : List Step). steps_over n (record { epoch = w.epoch; next = more; names = names; past = past; future = xs; group = w.group; overfull = w.overfull; after_sweep = w.after_sweep })) z
    ∙ (delete_recorded s n w.epoch w.next more w.names names w.past past w.future w.group w.overfull w.after_sweep at count (ap (λ (x : Recorded). x.epoch) v ∙ q) e h p ∙ ap (λ (x : Recorded). deleted (steps_over s x) at count) v)
