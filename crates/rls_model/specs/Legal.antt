-- Legal histories: those that come about by the rules.
use Rattle.std.specs.Prelude.{◌≡◌, ℕ, ◌+◌, ◌<◌, ◌≤◌, List, [], ◌∷◌, None, IsTrue}
use Rattle.std.specs.List.{list_all}
use Rattle.rls_ident.specs.declared.limits.TheConstants.{MEMBERS}
use Rattle.rls_ident.specs.Vectors.{at_most}
use Rattle.rls_ops.specs.Shapes.{shape_fault}
use Rattle.rls_ops.specs.declared.op.Op.{Op}
use Rattle.rls_model.specs.History.{Entry, Accepted, Acknowledged, History, Fresh, Then, count, count_of, members_of}
use Rattle.rls_model.specs.Stability.{is_counted}
use Rattle.rls_model.specs.Fitting.{refusal}
use Rattle.rls_model.specs.Receiving.{State, comes_before}
use Rattle.rls_model.specs.WellFormed.{IsLarge, IsEntry, IsOp}

-- the operation may be accepted next
pub record MayAccept (G : History) (o : Op) : Type 0 where
  pub shape : shape_fault (members_of G) o ≡ None
  pub next : o.seq ≡ count_of G o.author + 1
  pub causes : IsTrue (at_most o.context (count G))
  pub fits : refusal G o ≡ None

-- the entry may come next
abbrev pub MayFollow : History → Entry → Type 0
MayFollow G (Accepted o) = MayAccept G o
MayFollow G (Acknowledged a v) = IsTrue (is_counted G a v)

-- the numbers of a fresh replica
abbrev pub AreNumbers : ℕ → ℕ → ℕ → Type 0
AreNumbers group me members = IsLarge group × (me < members) × (members ≤ MEMBERS)

-- nothing has happened, or a well formed entry that may follow has followed a legal history
abbrev pub IsLegal : History → Type 0
IsLegal (Fresh group me members) = AreNumbers group me members
IsLegal (Then G e) = IsLegal G × IsEntry (members_of G) e × MayFollow G e

-- each waiting operation is well formed, has the right shape and a number above the count, and comes before all after it
abbrev pub AreWaiting : History → List Op → Type 0
AreWaiting H [] = Unit {0}
AreWaiting H (w ∷ ws) =
    IsOp w × (shape_fault (members_of H) w ≡ None) × (count_of H w.author < w.seq) × IsTrue (list_all (λ p. comes_before w p) ws) × AreWaiting H ws

-- the waiting operations fit to the history
abbrev pub IsSound : State → Type 0
IsSound s = AreWaiting s.history s.waiting
