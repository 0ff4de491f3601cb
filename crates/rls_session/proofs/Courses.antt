-- A course goes on request by request.
use Rattle.std.proofs.Common.{◌≡◌, ◌∙◌, ◌+◌, ◌-◌, ◌<◌, ◌≤◌, ℕ, zero, suc, Bool, true, false, cond, List, [], ◌∷◌, ◌++◌, length, drop, map, refl, sym, ap, subst, arith, append_assoc, length-drop}
use Rattle.std.proofs.lemmas.List.{append-nil}
use Rattle.rls_session.specs.declared.orders.Order.TheVariants.{Quit, Store}
use Rattle.rls_session.specs.Requests.{Request, Does, Takes, cut}
use Rattle.rls_session.specs.Courses.{Answered, Course, Stretch, ended, after, go_on, course_from, course, course_of, courses, replies_in, stretches, stretches_within, used_in}
use Rattle.rls_session.specs.Replies.{saved_text}
use Rattle.rls_session.proofs.Cuts.{cut_some}

-- what answers requests
abbrev pub Answers : Type 0 → Type 0
Answers S = S → Request → Answered S

-- it is answered, since it is neither to store nor to quit
abbrev pub IsPlain : Request → Type 0
IsPlain r = (r ≡ Does Quit → ⊥) × (r ≡ Does Store → ⊥)

-- a course after n bytes is that of what comes after them
pub skipped : {S : Type 0} (answer : Answers S) (n : ℕ) (s : S) (bytes : List ℕ) → course_from answer n s bytes ≡ course answer s (drop n bytes)
skipped answer zero s bytes = refl
skipped answer (suc n) s [] = refl
skipped answer (suc n) s (b ∷ bytes) = skipped answer n s bytes

one_less : (n : ℕ) → suc n - 1 ≡ n
one_less n = omega arith

-- the same of what is left gives the same
go_on_alike : {S : Type 0} (answer : Answers S) (s : S) (r : Request) (size : ℕ) (f g : S → Course S) → ((t : S) → f t ≡ g t) → go_on answer s r size f ≡ go_on answer s r size g
go_on_alike answer s (Does Quit) size f g e = refl
go_on_alike answer s (Does Store) size f g e = refl
go_on_alike answer s (Does order) size f g e = ap (after (answer s (Does order)).reply size) (e (answer s (Does order)).state)
go_on_alike answer s (Takes message) size f g e = ap (after (answer s (Takes message)).reply size) (e (answer s (Takes message)).state)

-- the first request, and what comes after it
pub course_begins : {S : Type 0} (answer : Answers S) (s : S) (bytes : List ℕ) → 0 < length bytes
    → course answer s bytes ≡ go_on answer s (cut bytes).request (cut bytes).size (λ t. course answer t (drop (cut bytes).size bytes))
course_begins answer s [] h = absurd (omega arith)
course_begins {S} answer s (b ∷ bytes) h = go_on_alike answer s (cut (b ∷ bytes)).request (cut (b ∷ bytes)).size _ _ (λ t. rest t (cut (b ∷ bytes)).size (cut_some b bytes))
  where
    rest : (t : S) (n : ℕ) → 0 < n → course_from answer (n - 1) t bytes ≡ course answer t (drop n (b ∷ bytes))
    rest t zero h = absurd (omega arith)
    rest t (suc n) h = ap (λ k. course_from answer k t bytes) (one_less n) ∙ skipped answer n t bytes

-- courses are the same if their parts are
same_course : {S : Type 0} (c : Course S) (replies : List ℕ) (s : S) (used : ℕ) (stores : Bool) → c.replies ≡ replies → c.state ≡ s → c.used ≡ used → c.stores ≡ stores → c ≡ record { replies = replies; state = s; used = used; stores = stores }
same_course c replies s used stores e f g h = rw (← e, ← f, ← g, ← h) refl

after_twice : {S : Type 0} (a b : List ℕ) (m n : ℕ) (c : Course S) → after a m (after b n c) ≡ after (a ++ b) (m + n) c
after_twice a b m n c = same_course (after a m (after b n c)) ((a ++ b) ++ c.replies) c.state ((m + n) + c.used) c.stores (sym (append_assoc a b c.replies)) refl (omega arith) refl

-- ---- what was answered so far, and what is to come

-- after these replies to so many bytes, this is to come
pub record Comes {S : Type 0} (answer : Answers S) (whole : Course S) (replies : List ℕ) (used : ℕ) (s : S) (bytes : List ℕ) : Type 0 where
  pub course_is : whole ≡ after replies used (course answer s bytes)

pub comes_first : {S : Type 0} (answer : Answers S) (s : S) (bytes : List ℕ) → Comes answer (course answer s bytes) [] 0 s bytes
comes_first answer s bytes = record { course_is = same_course (course answer s bytes) _ _ _ _ refl refl (omega arith) refl }

-- the first request is answered
pub comes_next : {S : Type 0} (answer : Answers S) (whole : Course S) (replies : List ℕ) (used : ℕ) (s : S) (bytes : List ℕ) (r : Request) (n : ℕ) → Comes answer whole replies used s bytes
    → 0 < length bytes → (cut bytes).request ≡ r → (cut bytes).size ≡ n → IsPlain r
    → Comes answer whole (replies ++ (answer s r).reply) (used + n) (answer s r).state (drop n bytes)
comes_next {S} answer whole replies used s bytes r n h some is size plain =
    record { course_is = h.course_is ∙ ap (after replies used) first ∙ after_twice replies (answer s r).reply used n (course answer (answer s r).state (drop n bytes)) }
  where
    going : (q : Request) → IsPlain q → (k : ℕ) (f : S → Course S) → go_on answer s q k f ≡ after (answer s q).reply k (f (answer s q).state)
    going (Does Quit) other k f = absurd (other.0 refl)
    going (Does Store) other k f = absurd (other.1 refl)
    going (Does order) other k f = refl
    going (Takes message) other k f = refl

    first : course answer s bytes ≡ after (answer s r).reply n (course answer (answer s r).state (drop n bytes))
    first =
        let here = course_begins answer s bytes some in
        let there : go_on answer s (cut bytes).request (cut bytes).size (λ t. course answer t (drop (cut bytes).size bytes)) ≡ go_on answer s r n (λ t. course answer t (drop n bytes)) = rw (is, size) refl in
        here ∙ there ∙ going r plain n (λ t. course answer t (drop n bytes))

-- nothing is to come
pub comes_end : {S : Type 0} (answer : Answers S) (whole : Course S) (replies : List ℕ) (used : ℕ) (s : S) → Comes answer whole replies used s []
    → whole ≡ record { replies = replies; state = s; used = used; stores = false }
comes_end answer whole replies used s h =
    h.course_is ∙ same_course (after replies used (ended s 0 false)) replies s used false (append-nil replies) refl (omega arith) refl

-- an order that halts is to come
comes_halt : {S : Type 0} (answer : Answers S) (whole : Course S) (replies : List ℕ) (used : ℕ) (s : S) (bytes : List ℕ) (r : Request) (stores : Bool) → Comes answer whole replies used s bytes → 0 < length bytes → (cut bytes).request ≡ r
    → ((k : ℕ) (f : S → Course S) → go_on answer s r k f ≡ ended s 1 stores) → whole ≡ record { replies = replies; state = s; used = used + 1; stores = stores }
comes_halt {S} answer whole replies used s bytes r stores h some is halts =
    let here = course_begins answer s bytes some in
    let there : go_on answer s (cut bytes).request (cut bytes).size (λ t. course answer t (drop (cut bytes).size bytes)) ≡ ended s 1 stores = rw is (halts (cut bytes).size (λ t. course answer t (drop (cut bytes).size bytes))) in
    h.course_is ∙ ap (after replies used) (here ∙ there) ∙ same_course (after replies used (ended s 1 stores)) replies s (used + 1) stores (append-nil replies) refl refl refl

-- the order to quit is to come
pub comes_quit : {S : Type 0} (answer : Answers S) (whole : Course S) (replies : List ℕ) (used : ℕ) (s : S) (bytes : List ℕ) → Comes answer whole replies used s bytes
    → 0 < length bytes → (cut bytes).request ≡ Does Quit → whole ≡ record { replies = replies; state = s; used = used + 1; stores = false }
comes_quit answer whole replies used s bytes h some is = comes_halt answer whole replies used s bytes (Does Quit) false h some is (λ k f. refl)

-- the order to store is to come
pub comes_store : {S : Type 0} (answer : Answers S) (whole : Course S) (replies : List ℕ) (used : ℕ) (s : S) (bytes : List ℕ) → Comes answer whole replies used s bytes
    → 0 < length bytes → (cut bytes).request ≡ Does Store → whole ≡ record { replies = replies; state = s; used = used + 1; stores = true }
comes_store answer whole replies used s bytes h some is = comes_halt answer whole replies used s bytes (Does Store) true h some is (λ k f. refl)

-- ---- from store to store

module _ {S : Type 0} (answer : Answers S) (resumed : S → S) where
  -- what comes after the first stretch
  abbrev pub later : S → List ℕ → List (Stretch S)
  later s bytes =
      cond (course answer s bytes).stores (stretches_within answer resumed (length bytes) (resumed (course answer s bytes).state) (drop (suc (course answer s bytes).used) bytes)) []

  pub stretches_begin : (s : S) (bytes : List ℕ) → stretches answer resumed s bytes ≡ record { state = s; input = bytes } ∷ later s bytes
  unfolding stretches
  stretches_begin s bytes = refl

  -- nothing, if no order to store ends it
  pub later_none : (s : S) (bytes : List ℕ) → (course answer s bytes).stores ≡ false → later s bytes ≡ []
  later_none s bytes e = rw e refl

  -- an input without bytes stores nothing
  some_stores : (s : S) (bytes : List ℕ) → (course answer s bytes).stores ≡ true → 0 < length bytes
  some_stores s [] e = let never : false ≡ true = e in cc
  some_stores s (b ∷ bytes) e = omega arith

  -- any bound that is great enough gives the same
  enough : (n m : ℕ) (s : S) (bytes : List ℕ) → length bytes < n → length bytes < m → stretches_within answer resumed n s bytes ≡ stretches_within answer resumed m s bytes
  enough zero m s bytes h k = absurd (omega arith)
  enough (suc n) zero s bytes h k = absurd (omega arith)
  enough (suc n) (suc m) s bytes h k = ap (λ (l : List (Stretch S)). record { state = s; input = bytes } ∷ l) (go (course answer s bytes).stores refl (λ t rest a b. enough n m t rest a b))
    where
      go : (b : Bool) → (course answer s bytes).stores ≡ b → ((t : S) (rest : List ℕ) → length rest < n → length rest < m → stretches_within answer resumed n t rest ≡ stretches_within answer resumed m t rest)
          → cond b (stretches_within answer resumed n (resumed (course answer s bytes).state) (drop (suc (course answer s bytes).used) bytes)) []
          ≡ cond b (stretches_within answer resumed m (resumed (course answer s bytes).state) (drop (suc (course answer s bytes).used) bytes)) []
      go false e f = refl
      go true e f =
          let some = some_stores s bytes e in
          let less = length-drop (suc (course answer s bytes).used) bytes in
          f (resumed (course answer s bytes).state) (drop (suc (course answer s bytes).used) bytes) (omega (arith, some, less, h)) (omega (arith, some, less, k))

  -- the session of what follows
  pub later_is : (s : S) (bytes : List ℕ) → (course answer s bytes).stores ≡ true → later s bytes ≡ stretches answer resumed (resumed (course answer s bytes).state) (drop (suc (course answer s bytes).used) bytes)
  unfolding stretches
  later_is s bytes e =
      let rest = drop (suc (course answer s bytes).used) bytes in
      let less = length-drop (suc (course answer s bytes).used) bytes in
      let some = some_stores s bytes e in
      rw e (enough (length bytes) (suc (length rest)) (resumed (course answer s bytes).state) rest (omega (arith, less, some)) (omega arith))

  -- all courses, and what comes of the first
  pub courses_begin : (s : S) (bytes : List ℕ) → courses answer resumed s bytes ≡ course answer s bytes ∷ map (course_of answer) (later s bytes)
  courses_begin s bytes = ap (map (course_of answer)) (stretches_begin s bytes)

  pub courses_end : (s : S) (bytes : List ℕ) → (course answer s bytes).stores ≡ false → courses answer resumed s bytes ≡ course answer s bytes ∷ []
  courses_end s bytes e = courses_begin s bytes ∙ ap (λ (l : List (Stretch S)). course answer s bytes ∷ map (course_of answer) l) (later_none s bytes e)

  pub courses_on : (s : S) (bytes : List ℕ) → (course answer s bytes).stores ≡ true
      → courses answer resumed s bytes ≡ course answer s bytes ∷ courses answer resumed (resumed (course answer s bytes).state) (drop (suc (course answer s bytes).used) bytes)
  courses_on s bytes e = courses_begin s bytes ∙ ap (λ (l : List (Stretch S)). course answer s bytes ∷ map (course_of answer) l) (later_is s bytes e)

  -- replies and bytes of the first and of those after it
  pub replies_on_is : (s : S) (bytes : List ℕ) → (course answer s bytes).stores ≡ true
      → replies_in (courses answer resumed s bytes) ≡ (course answer s bytes).replies ++ (saved_text ++ replies_in (courses answer resumed (resumed (course answer s bytes).state) (drop (suc (course answer s bytes).used) bytes)))
  replies_on_is s bytes e =
      let t = resumed (course answer s bytes).state in
      let rest = drop (suc (course answer s bytes).used) bytes in
      ap replies_in (courses_on s bytes e ∙ ap (λ (l : List (Course S)). course answer s bytes ∷ l) (courses_begin t rest))
      ∙ ap (λ (l : List (Course S)). (course answer s bytes).replies ++ (saved_text ++ replies_in l)) (sym (courses_begin t rest))

  pub used_on_is : (s : S) (bytes : List ℕ) → (course answer s bytes).stores ≡ true
      → used_in (courses answer resumed s bytes) ≡ suc (course answer s bytes).used + used_in (courses answer resumed (resumed (course answer s bytes).state) (drop (suc (course answer s bytes).used) bytes))
  used_on_is s bytes e =
      let t = resumed (course answer s bytes).state in
      let rest = drop (suc (course answer s bytes).used) bytes in
      ap used_in (courses_on s bytes e ∙ ap (λ (l : List (Course S)). course answer s bytes ∷ l) (courses_begin t rest))
      ∙ ap (λ (l : List (Course S)). suc (course answer s bytes).used + used_in l) (sym (courses_begin t rest))

  -- the first one's bytes aren't more than all
  pub used_first : (s : S) (bytes : List ℕ) → (course answer s bytes).used ≤ used_in (courses answer resumed s bytes)
  used_first s bytes = subst (λ (l : List (Course S)). (course answer s bytes).used ≤ used_in l) (sym (courses_begin s bytes)) (go (map (course_of answer) (later s bytes)))
    where
      go : (cs : List (Course S)) → (course answer s bytes).used ≤ used_in (course answer s bytes ∷ cs)
      go [] = omega arith
      go (c ∷ cs) = omega arith

-- ---- two sessions

-- the same replies to the same bytes, and states that R relates
pub record IsSameCourse {S T : Type 0} (R : S → T → Type 0) (a : Course S) (b : Course T) : Type 0 where
  pub replies : a.replies ≡ b.replies
  pub used : a.used ≡ b.used
  pub stores : a.stores ≡ b.stores
  pub states : R a.state b.state

-- what answers alike goes on alike
pub courses_alike : {S T : Type 0} (answer : Answers S) (other : Answers T) (R : S → T → Type 0) (A : Request → Type 0) (B : List ℕ → Type 0)
    → ((s : S) (t : T) (r : Request) → A r → R s t → ((answer s r).reply ≡ (other t r).reply) × R (answer s r).state (other t r).state) → ((b : ℕ) (bytes : List ℕ) → B (b ∷ bytes) → A (cut (b ∷ bytes)).request × B bytes)
    → (n : ℕ) (s : S) (t : T) (bytes : List ℕ) → B bytes → R s t → IsSameCourse R (course_from answer n s bytes) (course_from other n t bytes)
courses_alike answer other R A B step split n s t [] b h = record { replies = refl; used = refl; stores = refl; states = h }
courses_alike answer other R A B step split (suc n) s t (x ∷ bytes) b h = courses_alike answer other R A B step split n s t bytes (split x bytes b).1 h
courses_alike {S} {T} answer other R A B step split zero s t (x ∷ bytes) b h =
    let c = cut (x ∷ bytes) in
    go c.request c.size (split x bytes b).0 (λ u v k. courses_alike answer other R A B step split (c.size - 1) u v bytes (split x bytes b).1 k)
  where
    more : (r : Request) (size : ℕ) (p : Course S) (q : Course T) → (answer s r).reply ≡ (other t r).reply → IsSameCourse R p q → IsSameCourse R (after (answer s r).reply size p) (after (other t r).reply size q)
    more r size p q e k = record {
      replies = ap (λ (l : List ℕ). l ++ p.replies) e ∙ ap (λ (l : List ℕ). (other t r).reply ++ l) k.replies;
      used = ap (λ m. size + m) k.used;
      stores = k.stores;
      states = k.states;
    }

    go : (r : Request) (size : ℕ) → A r → ((u : S) (v : T) → R u v → IsSameCourse R (course_from answer (size - 1) u bytes) (course_from other (size - 1) v bytes))
        → IsSameCourse R (go_on answer s r size (λ u. course_from answer (size - 1) u bytes)) (go_on other t r size (λ v. course_from other (size - 1) v bytes))
    go (Does Quit) size a f = record { replies = refl; used = refl; stores = refl; states = h }
    go (Does Store) size a f = record { replies = refl; used = refl; stores = refl; states = h }
    go (Does order) size a f = let k = step s t (Does order) a h in more (Does order) size _ _ k.0 (f _ _ k.1)
    go (Takes message) size a f = let k = step s t (Takes message) a h in more (Takes message) size _ _ k.0 (f _ _ k.1)
