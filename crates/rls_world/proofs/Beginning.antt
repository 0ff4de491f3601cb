-- A world to which nothing has happened.
use Rattle.std.proofs.Common.{◌≡◌, ℕ, zero, suc, ◌<◌, ◌≤◌, ◌++◌, List, [], ◌∷◌, length, refl, sym, ap, ◌∙◌, subst, arith}
use Rattle.std.proofs.lemmas.List.{length-replicate}
use Rattle.rls_ident.specs.declared.limits.TheConstants.{MEMBERS}
use Rattle.rls_model.specs.Laws.{IsAfter}
use Rattle.rls_model.specs.Receiving.{State}
use Rattle.rls_model.specs.WellFormed.{IsLarge}
use Rattle.rls_model.specs.Worlds.{fresh_states, empty_world}
use Rattle.rls_model.proofs.WorldsLaws.{length-snoc}
use Rattle.rls_seen.specs.Seen.{Seen, fresh}
use Rattle.rls_seen.specs.Stands.{StandsFor}
use Rattle.rls_seen.proofs.Starting.{fresh_stands}
use Rattle.rls_world.specs.Seen.{AllStand, StandsForWorld, IsOfGroup, AreOfGroup, IsOneGroup, fresh_replicas, fresh_world}

stand_snoc : (ss : List Seen) (ts : List State) (s : Seen) (t : State) → AllStand ss ts → StandsFor s t → AllStand (ss ++ s ∷ []) (ts ++ t ∷ [])
stand_snoc [] [] s t h l = (l, tt)
stand_snoc [] (x ∷ ts) s t h l = absurd h
stand_snoc (x ∷ ss) [] s t h l = absurd h
stand_snoc (x ∷ ss) (y ∷ ts) s t h l = (h.0, stand_snoc ss ts s t h.1 l)

all_fresh : (group members n : ℕ) → IsLarge group → members ≤ MEMBERS → n ≤ members → AllStand (fresh_replicas group members n) (fresh_states group members n)
all_fresh group members zero g l b = tt
all_fresh group members (suc n) g l b =
    stand_snoc (fresh_replicas group members n) (fresh_states group members n) (fresh group n members) _ (all_fresh group members n g l (omega arith)) (fresh_stands group n members (g, omega arith, l))

pub fresh_world_stands : (group members : ℕ) → IsLarge group → members ≤ MEMBERS → StandsForWorld (fresh_world group members) (empty_world group members)
fresh_world_stands group members g l = record { states = all_fresh group members members g l (omega arith); sent = refl }

pub start_after : (group members : ℕ) → IsLarge group → 0 < members → members ≤ MEMBERS → IsAfter (empty_world group members) []
start_after group members g p l = (group, members, g, p, l, tt, refl)

pub fresh_length : (group members n : ℕ) → length (fresh_replicas group members n) ≡ n
fresh_length group members zero = refl
fresh_length group members (suc n) = length-snoc (fresh_replicas group members n) (fresh group n members) ∙ ap suc (fresh_length group members n)

group_snoc : (group n : ℕ) (ss : List Seen) (s : Seen) → AreOfGroup group n ss → IsOfGroup group n s → AreOfGroup group n (ss ++ s ∷ [])
group_snoc group n [] s h l = (l, tt)
group_snoc group n (x ∷ ss) s h l = (h.0, group_snoc group n ss s h.1 l)

all_of_group : (group members n : ℕ) → AreOfGroup group members (fresh_replicas group members n)
all_of_group group members zero = tt
all_of_group group members (suc n) =
    group_snoc group members (fresh_replicas group members n) (fresh group n members) (all_of_group group members n) (record { group_is = refl; members_are = length-replicate members 0 })

pub fresh_one_group : (group members : ℕ) → IsOneGroup (fresh_world group members) group
fresh_one_group group members = record {
  replicas = subst (λ n. AreOfGroup group n (fresh_replicas group members members)) (sym (fresh_length group members members)) (all_of_group group members members);
  sent = λ m p. absurd p;
}
