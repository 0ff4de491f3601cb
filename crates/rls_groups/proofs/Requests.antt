-- Two sessions over one input, request by request: their states, what holds of each request, and what is gathered from them.
use Rattle.std.proofs.Common.{◌≡◌, ◌∙◌, ◌+◌, ◌-◌, ℕ, zero, suc, List, [], ◌∷◌, ◌++◌, refl, sym, ap, subst, append_assoc, ⊎_elim}
use Rattle.std.proofs.lemmas.List.{append-nil}
use Rattle.rls_ident.specs.Lists.{IsIn}
use Rattle.rls_ident.proofs.Members.{in_left, in_right, in_split}
use Rattle.rls_session.specs.declared.orders.Order.TheVariants.{Quit, Store}
use Rattle.rls_session.specs.Courses.{Course, after, course_from, go_on, holds_from, holds_on}
use Rattle.rls_session.specs.Requests.{Request, Does, Takes, cut}
use Rattle.rls_session.proofs.Courses.{Answers}
use Rattle.rls_groups.specs.Events.{gathered_from, gathered_on}

-- I relates the states of both and what was sent so far; L says that one state is later than another; G is asked of each request; P, Q, and W
-- of what is gathered hold of it, where Q also looks at the last state
module _ {S T M A : Type 0} (answer : Answers S) (other : Answers T) (gather : S → Request → List A) (I : S → T → List M → Type 0) (L : T → T → Type 0) (G P : S → Request → Type 0) (Q : T → T → Request → Type 0) (W : A → M → Type 0) where
  -- one request
  pub record Steps (s : S) (t : T) (out : List M) (r : Request) : Type 0 where
    pub more : List M
    pub reply : (answer s r).reply ≡ (other t r).reply
    pub next : I (answer s r).state (other t r).state (out ++ more)
    pub later : L t (other t r).state
    pub clean : P s r
    pub meant : (u : T) → L (other t r).state u → Q u t r
    pub told : (a : A) → IsIn a (gather s r) → (m : M) × IsIn m more × W a m

  -- what comes after it, or all
  pub record Goes (c : Course S) (d : Course T) (C : Type 0) (D : T → Type 0) (got : List A) (t : T) (out : List M) : Type 0 where
    pub more : List M
    pub replies : c.replies ≡ d.replies
    pub used : c.used ≡ d.used
    pub states : I c.state d.state (out ++ more)
    pub later : L t d.state
    pub clean : C
    pub meant : D d.state
    pub told : (a : A) → IsIn a got → (m : M) × IsIn m more × W a m

  abbrev pub Went : ℕ → S → T → List ℕ → List M → Type 0
  Went n s t bytes out = Goes (course_from answer n s bytes) (course_from other n t bytes) (holds_from answer P n s bytes) (λ u. holds_from other (Q u) n t bytes) (gathered_from answer gather n s bytes) t out

  module _ (same : (s : S) (t : T) (out : List M) → I s t out → L t t) (trans : (t u v : T) → L t u → L u v → L t v) where
    stays : (s : S) (t : T) (out : List M) → I s t out → I s t (out ++ [])
    stays s t out i = subst (I s t) (sym (append-nil out)) i

    joined : (s : S) (t : T) (out : List M) (r : Request) (size : ℕ) (c : Course S) (d : Course T) (C : Type 0) (D : T → Type 0) (got : List A) → (k : Steps s t out r) → Goes c d C D got (other t r).state (out ++ k.more) →
        Goes (after (answer s r).reply size c) (after (other t r).reply size d) (P s r × C) (λ u. Q u t r × D u) (gather s r ++ got) t out
    joined s t out r size c d C D got k j = record {
      more = k.more ++ j.more;
      replies = ap (λ (l : List ℕ). l ++ c.replies) k.reply ∙ ap (λ (l : List ℕ). (other t r).reply ++ l) j.replies;
      used = ap (λ m. size + m) j.used;
      states = subst (I c.state d.state) (append_assoc out k.more j.more) j.states;
      later = trans t (other t r).state d.state k.later j.later;
      clean = (k.clean, j.clean);
      meant = (k.meant d.state j.later, j.meant);
      told = λ a p. ⊎_elim (λ q. let y = k.told a q in (y.0, in_left y.0 k.more j.more y.1, y.2)) (λ q. let y = j.told a q in (y.0, in_right y.0 k.more j.more y.1, y.2)) (in_split a (gather s r) got p);
    }

    -- B is asked of the input, and F then holds of its requests
    module _ (B : List ℕ → Type 0) (F : Request → Type 0) (split : (b : ℕ) (bytes : List ℕ) → B (b ∷ bytes) → F (cut (b ∷ bytes)).request × B bytes) (step : (s : S) (t : T) (out : List M) (r : Request) → F r → G s r → I s t out → Steps s t out r) where
      pub went : (n : ℕ) (s : S) (t : T) (bytes : List ℕ) (out : List M) → B bytes → holds_from answer G n s bytes → I s t out → Went n s t bytes out
      went n s t [] out b g i = record { more = []; replies = refl; used = refl; states = stays s t out i; later = same s t out i; clean = tt; meant = tt; told = λ a p. absurd p }
      went (suc n) s t (x ∷ bytes) out b g i = went n s t bytes out (split x bytes b).1 g i
      went zero s t (x ∷ bytes) out b g i =
          let c = cut (x ∷ bytes) in
          go c.request c.size (split x bytes b).0 g (λ u v o h k. went (c.size - 1) u v bytes o (split x bytes b).1 h k)
        where
          go : (r : Request) (size : ℕ) → F r → holds_on answer G s r (λ u. holds_from answer G (size - 1) u bytes) → ((u : S) (v : T) (o : List M) → holds_from answer G (size - 1) u bytes → I u v o → Went (size - 1) u v bytes o) →
              Goes (go_on answer s r size (λ u. course_from answer (size - 1) u bytes)) (go_on other t r size (λ u. course_from other (size - 1) u bytes)) (holds_on answer P s r (λ u. holds_from answer P (size - 1) u bytes))
              (λ v. holds_on other (Q v) t r (λ u. holds_from other (Q v) (size - 1) u bytes)) (gathered_on answer gather s r (λ u. gathered_from answer gather (size - 1) u bytes)) t out
          go (Does Quit) size f g rest = record { more = []; replies = refl; used = refl; states = stays s t out i; later = same s t out i; clean = tt; meant = tt; told = λ a p. absurd p }
          go (Does Store) size f g rest = record { more = []; replies = refl; used = refl; states = stays s t out i; later = same s t out i; clean = tt; meant = tt; told = λ a p. absurd p }
          go (Does order) size f g rest = let k = step s t out (Does order) f g.0 i in joined s t out (Does order) size _ _ _ _ _ k (rest _ _ _ g.1 k.next)
          go (Takes message) size f g rest = let k = step s t out (Takes message) f g.0 i in joined s t out (Takes message) size _ _ _ _ _ k (rest _ _ _ g.1 k.next)
