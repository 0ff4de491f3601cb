-- What a world consists of, and which worlds it stands for.
use Rattle.std.specs.Prelude.{◌≡◌, ℕ, zero, suc, List, [], ◌∷◌, ◌++◌, length}
use Rattle.rls_ident.specs.Lists.{IsIn}
use Rattle.rls_ops.specs.declared.message.Message.{Message}
use Rattle.rls_model.specs.Receiving.{State}
use Rattle.rls_model.specs.Worlds.{World}
use Rattle.rls_seen.specs.Seen.{Seen, members, fresh}
use Rattle.rls_seen.specs.Messages.{IsMessage}
use Rattle.rls_seen.specs.Stands.{StandsFor}

-- a replica for each member, and every message that was ever sent
pub record WorldSeen : Type 0 where
  pub replicas : List Seen
  pub sent : List Message

-- each replica stands for the state at its place, and there are as many
abbrev pub AllStand : List Seen → List State → Type 0
AllStand [] [] = Unit {0}
AllStand [] (t ∷ ts) = ⊥
AllStand (s ∷ ss) [] = ⊥
AllStand (s ∷ ss) (t ∷ ts) = StandsFor s t × AllStand ss ts

-- each replica stands for its member's state, and the same messages were sent
pub record StandsForWorld (s : WorldSeen) (w : World) : Type 0 where
  pub states : AllStand s.replicas w.states
  pub sent : s.sent ≡ w.sent

-- the replicas of the members below n, to which nothing has happened
abbrev pub fresh_replicas : ℕ → ℕ → ℕ → List Seen
fresh_replicas group members zero = []
fresh_replicas group members (suc n) = fresh_replicas group members n ++ fresh group n members ∷ []

-- nothing has happened
abbrev pub fresh_world : ℕ → ℕ → WorldSeen
fresh_world group members = record { replicas = fresh_replicas group members members; sent = [] }

-- ---- what holds of each

-- the replica is one of this group and of so many members
pub record IsOfGroup (group n : ℕ) (s : Seen) : Type 0 where
  pub group_is : s.group ≡ group
  pub members_are : members s ≡ n

-- each of them is
abbrev pub AreOfGroup : ℕ → ℕ → List Seen → Type 0
AreOfGroup group n [] = Unit {0}
AreOfGroup group n (s ∷ ss) = IsOfGroup group n s × AreOfGroup group n ss

-- the message is one of this group, and comes from one of so many members
pub record IsSent (group n : ℕ) (m : Message) : Type 0 where
  pub group_is : m.group ≡ group
  pub members_are : m.members ≡ n
  pub whole : IsMessage n m

-- the replicas are those of all members of one group, and the messages come from them
pub record IsOneGroup (w : WorldSeen) (group : ℕ) : Type 0 where
  pub replicas : AreOfGroup group (length w.replicas) w.replicas
  pub sent : (m : Message) → IsIn m w.sent → IsSent group (length w.replicas) m
