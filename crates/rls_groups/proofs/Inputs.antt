-- Which requests an input has, and how far it comes, doesn't depend on what answers them.
use Rattle.std.proofs.Common.{◌≡◌, ◌+◌, ◌-◌, ℕ, zero, suc, List, [], ◌∷◌, refl, ap}
use Rattle.rls_session.specs.declared.orders.Order.TheVariants.{Quit, Store}
use Rattle.rls_session.specs.Courses.{Course, course_from, go_on, holds_from, holds_on}
use Rattle.rls_session.specs.Requests.{Request, Does, Takes, cut}
use Rattle.rls_session.proofs.Courses.{Answers}

module _ {S T : Type 0} (answer : Answers S) (other : Answers T) where
  -- what is asked of the requests alone holds of them under both
  pub holds_alike : (P : Request → Type 0) (n : ℕ) (s : S) (t : T) (bytes : List ℕ) → holds_from answer (λ x r. P r) n s bytes → holds_from other (λ x r. P r) n t bytes
  holds_alike P n s t [] h = tt
  holds_alike P (suc n) s t (x ∷ bytes) h = holds_alike P n s t bytes h
  holds_alike P zero s t (x ∷ bytes) h = go (cut (x ∷ bytes)).request (cut (x ∷ bytes)).size h (λ u v k. holds_alike P ((cut (x ∷ bytes)).size - 1) u v bytes k)
    where
      go : (r : Request) (size : ℕ) → holds_on answer (λ x r. P r) s r (λ u. holds_from answer (λ x r. P r) (size - 1) u bytes) → ((u : S) (v : T) → holds_from answer (λ x r. P r) (size - 1) u bytes → holds_from other (λ x r. P r) (size - 1) v bytes) →
          holds_on other (λ x r. P r) t r (λ v. holds_from other (λ x r. P r) (size - 1) v bytes)
      go (Does Quit) size h rest = tt
      go (Does Store) size h rest = tt
      go (Does order) size h rest = (h.0, rest _ _ h.1)
      go (Takes message) size h rest = (h.0, rest _ _ h.1)

  -- courses come as far, and end alike
  pub record ComeAsFar (c : Course S) (d : Course T) : Type 0 where
    pub used : c.used ≡ d.used
    pub stores : c.stores ≡ d.stores

  pub come_alike : (n : ℕ) (s : S) (t : T) (bytes : List ℕ) → ComeAsFar (course_from answer n s bytes) (course_from other n t bytes)
  come_alike n s t [] = record { used = refl; stores = refl }
  come_alike (suc n) s t (x ∷ bytes) = come_alike n s t bytes
  come_alike zero s t (x ∷ bytes) = go (cut (x ∷ bytes)).request (cut (x ∷ bytes)).size (λ u v. come_alike ((cut (x ∷ bytes)).size - 1) u v bytes)
    where
      go : (r : Request) (size : ℕ) → ((u : S) (v : T) → ComeAsFar (course_from answer (size - 1) u bytes) (course_from other (size - 1) v bytes)) →
          ComeAsFar (go_on answer s r size (λ u. course_from answer (size - 1) u bytes)) (go_on other t r size (λ v. course_from other (size - 1) v bytes))
      go (Does Quit) size rest = record { used = refl; stores = refl }
      go (Does Store) size rest = record { used = refl; stores = refl }
      go (Does order) size rest = let k = rest _ _ in record { used = ap (λ m. size + m) k.used; stores = k.stores }
      go (Takes message) size rest = let k = rest _ _ in record { used = ap (λ m. size + m) k.used; stores = k.stores }
