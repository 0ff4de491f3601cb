-- What a life keeps from event to event.
use Rattle.std.proofs.Common.{◌≡◌, ◌<◌, ◌-◌, ◌++◌, ℕ, zero, suc, Bool, true, false, List, [], ◌∷◌, length, Option, Some, None, refl, arith}
use Rattle.rls_ident.specs.Lists.{IsIn}
use Rattle.rls_ident.proofs.Members.{in_left}
use Rattle.rls_model.proofs.OnePlace.{length-set}
use Rattle.rls_seen.specs.Seen.{Seen}
use Rattle.rls_stages.specs.KeptFile.{bytes_over}
use Rattle.rls_top.specs.Groups.{Group, files_with}
use Rattle.rls_session.specs.declared.orders.Order.TheVariants.{Quit, Store}
use Rattle.rls_session.specs.Courses.{Answered, holds_from, holds_on}
use Rattle.rls_session.specs.Requests.{Request, Does, Takes, cut}
use Rattle.rls_groups.specs.Events.{Event, after_run, stored_by, written_by}
use Rattle.rls_groups.specs.Lives.{AreOfGroup, Life, deed_in, lived, lived_all}

-- ---- lists of events

pub lived_both : (l : Life) (es fs : List Event) → lived_all l (es ++ fs) ≡ lived_all (lived_all l es) fs
lived_both l [] fs = refl
lived_both l (e ∷ es) fs = lived_both (lived l e) es fs

pub front_of_group : (l : Life) (es fs : List Event) → AreOfGroup l (es ++ fs) → AreOfGroup l es
front_of_group l [] fs p = tt
front_of_group l (e ∷ es) fs p = (p.0, front_of_group (lived l e) es fs p.1)

pub more_of_group : (l : Life) (es fs : List Event) → AreOfGroup l es → AreOfGroup (lived_all l es) fs → AreOfGroup l (es ++ fs)
more_of_group l [] fs p q = q
more_of_group l (e ∷ es) fs p q = (p.0, more_of_group (lived l e) es fs p.1 q)

-- ---- members and messages

same_length : (g : Group) (i : ℕ) (o : Option Seen) → length (files_with g.files i o) ≡ length g.files
same_length g i None = refl
same_length g i (Some s) = length-set g.files i (bytes_over s)

-- a member is still there
pub there_still : (i : ℕ) (l : Life) (e : Event) → i < length (l.group).files → i < length (lived l e).group.files
there_still i l e m = go e.done
  where
    go : (done : Bool) → i < length (after_run done l.group e.member (deed_in l e)).files
    go false = m
    go true = let same = same_length l.group e.member (stored_by l.group e.member (deed_in l e)) in omega (arith, m, same)

-- a message may still be handed on
pub stays_written : (message : List ℕ) (es : List Event) (l : Life) → IsIn message (l.group).written → IsIn message (lived_all l es).group.written
stays_written message [] l p = p
stays_written message (e ∷ es) l p = stays_written message es (lived l e) (go e.done)
  where
    go : (done : Bool) → IsIn message (after_run done l.group e.member (deed_in l e)).written
    go false = p
    go true = in_left message (l.group).written (written_by l.group e.member (deed_in l e)) p

-- ---- requests

module _ {S : Type 0} (answer : S → Request → Answered S) (P Q : S → Request → Type 0) (f : (s : S) (r : Request) → P s r → Q s r) where
  pub holds_map : (n : ℕ) (s : S) (bytes : List ℕ) → holds_from answer P n s bytes → holds_from answer Q n s bytes
  holds_map n s [] h = tt
  holds_map (suc n) s (x ∷ bytes) h = holds_map n s bytes h
  holds_map zero s (x ∷ bytes) h = go (cut (x ∷ bytes)).request (cut (x ∷ bytes)).size h (λ u k. holds_map ((cut (x ∷ bytes)).size - 1) u bytes k)
    where
      go : (r : Request) (size : ℕ) → holds_on answer P s r (λ u. holds_from answer P (size - 1) u bytes) → ((u : S) → holds_from answer P (size - 1) u bytes → holds_from answer Q (size - 1) u bytes) → holds_on answer Q s r (λ u. holds_from answer Q (size - 1) u bytes)
      go (Does Quit) size h rest = tt
      go (Does Store) size h rest = tt
      go (Does order) size h rest = (f s (Does order) h.0, rest _ h.1)
      go (Takes message) size h rest = (f s (Takes message) h.0, rest _ h.1)
