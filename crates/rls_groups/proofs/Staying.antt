-- What a member has, or holds until its causes come, it has or holds later too.
use Rattle.std.proofs.Common.{inl, inr, ⊎_elim}
use Rattle.rls_ident.specs.Vectors.{at_most}
use Rattle.rls_ident.proofs.Members.{not_found}
use Rattle.rls_ops.specs.declared.op.Op.{Op}
use Rattle.rls_model.specs.History.{count}
use Rattle.rls_model.specs.Laws.{IsFront}
use Rattle.rls_model.specs.Receiving.{State}
use Rattle.rls_model.proofs.HistoryNumbers.{front_self, front_trans}
use Rattle.rls_model.proofs.NothingReady.{IsAtRest}
use Rattle.rls_model.proofs.WorldsArrived.{IsThere}
use Rattle.rls_groups.specs.Groups.{HasOrHolds}

-- a history that goes on, and nothing that was there is lost
abbrev pub Follows : State → State → Type 0
Follows t u = IsFront t.history u.history × ((o : Op) → IsThere t o → IsThere u o)

pub follows_self : (t : State) → Follows t t
follows_self t = (front_self t.history, λ o p. p)

pub follows_trans : (t u v : State) → Follows t u → Follows u v → Follows t v
follows_trans t u v h k = (front_trans t.history u.history v.history h.0 k.0, λ o p. k.1 o (h.1 o p))

-- what is there at rest waits for causes that aren't there, or is accepted
pub has_or_holds : (u : State) (o : Op) → IsAtRest u → IsThere u o → HasOrHolds u o
has_or_holds u o rest t = ⊎_elim (λ z. inl z) (λ z. inr (z, not_found (λ (a : Op). at_most a.context (count u.history)) o u.waiting rest z)) t

pub is_there : (u : State) (o : Op) → HasOrHolds u o → IsThere u o
is_there u o h = ⊎_elim (λ z. inl z) (λ z. inr z.0) h
