-- A session over a whole input, from store to store, whatever answers its requests.
-- Why: docs/DECISIONS.md, 128.
use Rattle.std.specs.Prelude.{ℕ, ◌+◌, ◌-◌, suc, zero, Bool, true, false, List, [], ◌∷◌, ◌++◌, length, drop, map, if◌then◌else◌}
use Rattle.rls_session.specs.declared.orders.Order.TheVariants.{Quit, Store}
use Rattle.rls_session.specs.Replies.{saved_text}
use Rattle.rls_session.specs.Requests.{Request, Does, cut}

-- a reply, and the state after it
pub record Answered (S : Type 0) : Type 0 where
  pub reply : List ℕ
  pub state : S

-- What comes up to the next order to store or to quit: all replies, one after another, the state after them, how many bytes of the input
-- come up to the end of that order, without its line feed, or in all if none comes, and whether it is to store. An order to store or to
-- quit is answered when the file is stored, and not here
pub record Course (S : Type 0) : Type 0 where
  pub replies : List ℕ
  pub state : S
  pub used : ℕ
  pub stores : Bool

-- nothing more is answered
abbrev pub ended : {S : Type 0} → S → ℕ → Bool → Course S
ended s used stores = record { replies = []; state = s; used = used; stores = stores }

-- a request of `size` bytes was answered, and this comes after it
abbrev pub after : {S : Type 0} → List ℕ → ℕ → Course S → Course S
after reply size c = record { replies = reply ++ c.replies; state = c.state; used = size + c.used; stores = c.stores }

-- the request is answered, unless it is to store or to quit
abbrev pub go_on : {S : Type 0} → (S → Request → Answered S) → S → Request → ℕ → (S → Course S) → Course S
go_on answer s (Does Quit) size rest = ended s 1 false
go_on answer s (Does Store) size rest = ended s 1 true
go_on answer s request size rest = after (answer s request).reply size (rest (answer s request).state)

-- the requests of what comes after n bytes, answered one after another
abbrev pub course_from : {S : Type 0} → (S → Request → Answered S) → ℕ → S → List ℕ → Course S
course_from answer n s [] = ended s 0 false
course_from answer (suc n) s (b ∷ bytes) = course_from answer n s bytes
course_from answer zero s (b ∷ bytes) =
    go_on answer s (cut (b ∷ bytes)).request (cut (b ∷ bytes)).size (λ t. course_from answer ((cut (b ∷ bytes)).size - 1) t bytes)

-- the requests of the input, answered one after another up to the next order to store or to quit
abbrev pub course : {S : Type 0} → (S → Request → Answered S) → S → List ℕ → Course S
course answer s bytes = course_from answer 0 s bytes

-- ---- what holds of each request that is answered, and of the state before it

-- of this one, unless it is to store or to quit, and of those after it
abbrev pub holds_on : {S : Type 0} → (S → Request → Answered S) → (S → Request → Type 0) → S → Request → (S → Type 0) → Type 0
holds_on answer P s (Does Quit) rest = Unit {0}
holds_on answer P s (Does Store) rest = Unit {0}
holds_on answer P s request rest = P s request × rest (answer s request).state

-- of the requests of what comes after n bytes
abbrev pub holds_from : {S : Type 0} → (S → Request → Answered S) → (S → Request → Type 0) → ℕ → S → List ℕ → Type 0
holds_from answer P n s [] = Unit {0}
holds_from answer P (suc n) s (b ∷ bytes) = holds_from answer P n s bytes
holds_from answer P zero s (b ∷ bytes) =
    holds_on answer P s (cut (b ∷ bytes)).request (λ t. holds_from answer P ((cut (b ∷ bytes)).size - 1) t bytes)

-- of the requests of the input, up to the next order to store or to quit
abbrev pub holds : {S : Type 0} → (S → Request → Answered S) → (S → Request → Type 0) → S → List ℕ → Type 0
holds answer P s bytes = holds_from answer P 0 s bytes

-- ---- a session, from store to store

-- where a session stands at its beginning or after a store, and the input from there on
pub record Stretch (S : Type 0) : Type 0 where
  pub state : S
  pub input : List ℕ

abbrev pub course_of : {S : Type 0} → (S → Request → Answered S) → Stretch S → Course S
course_of answer a = course answer a.state a.input

-- after an order to store, the session goes on over what follows its line feed, from the state that `resumed` makes
abbrev pub stretches_within : {S : Type 0} → (S → Request → Answered S) → (S → S) → ℕ → S → List ℕ → List (Stretch S)
stretches_within answer resumed zero s bytes = []
stretches_within answer resumed (suc n) s bytes =
    record { state = s; input = bytes }
    ∷ (if (course answer s bytes).stores then stretches_within answer resumed n (resumed (course answer s bytes).state) (drop (suc (course answer s bytes).used) bytes) else [])

-- all stretches of a session. Each order to store has a byte, so they aren't more than the bytes and one
unfoldable pub stretches : {S : Type 0} → (S → Request → Answered S) → (S → S) → S → List ℕ → List (Stretch S)
stretches answer resumed s bytes = stretches_within answer resumed (suc (length bytes)) s bytes

abbrev pub courses : {S : Type 0} → (S → Request → Answered S) → (S → S) → S → List ℕ → List (Course S)
courses answer resumed s bytes = map (course_of answer) (stretches answer resumed s bytes)

-- all replies of these courses, and `saved` between
abbrev pub replies_on : {S : Type 0} → Course S → List (Course S) → List ℕ
replies_on c [] = c.replies
replies_on c (d ∷ cs) = c.replies ++ (saved_text ++ replies_on d cs)

abbrev pub replies_in : {S : Type 0} → List (Course S) → List ℕ
replies_in [] = []
replies_in (c ∷ cs) = replies_on c cs

-- how many bytes of the input they come to, with the line feeds of the orders to store
abbrev pub used_on : {S : Type 0} → Course S → List (Course S) → ℕ
used_on c [] = c.used
used_on c (d ∷ cs) = suc c.used + used_on d cs

abbrev pub used_in : {S : Type 0} → List (Course S) → ℕ
used_in [] = 0
used_in (c ∷ cs) = used_on c cs
