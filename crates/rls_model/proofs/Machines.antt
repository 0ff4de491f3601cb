-- What holds of each run of a machine, whatever its states are.
use Rattle.std.proofs.Common.{◌≡◌, ◌∙◌, ℕ, zero, suc, Bool, true, false, cond, List, [], ◌∷◌, length, Option, Some, None, Result, Ok, Err, refl, ap, subst, inl, inr}
use Rattle.rls_ident.specs.Lists.{IsIn}
use Rattle.rls_ops.specs.declared.op.Op.{Op}
use Rattle.rls_model.specs.declared.edit.Edit.{Edit}
use Rattle.rls_model.specs.declared.edit.EditError.{EditError}
use Rattle.rls_model.specs.Answers.{Released}
use Rattle.rls_model.specs.Machine.{Machine, has_room, one_less, Stage, moved, with_receipt, with_reason, with_answer, receive_on, with_release_on, release_on, releases_on, release_all_on, acknowledge_on, edit_on, take_on, Run, Done, Stopped, go_on, run_on, unless_fault, read_edit_on}
use Rattle.rls_model.specs.MachineLaws.{StepsKeep, StepsAgree, IsAlike, IsSameRun}

-- what holds of both holds of the chosen one
pub either : {S : Type 0} (P : S → Type 0) (b : Bool) (p q : S) → P p → P q → P (cond b p q)
either P true p q h k = h
either P false p q h k = k

-- the stage where all lines were run, else p
abbrev pub end_or : {X F : Type 0} → Stage X → Run X F → Stage X
end_or p (Done q) = q
end_or p (Stopped line fault) = p

module _ {X : Type 0} (M : Machine X) where
  -- ---- a step is taken, or the stage stays

  pub receive_keeps : (P : X → Type 0) (p : Stage X) (o : Op) → P (M.after_receive p.state o) → P p.state → P (receive_on M p o).state
  receive_keeps P p o k h = either (λ (q : Stage X). P q.state) (has_room p.limit) (with_answer (moved p (M.after_receive p.state o)) o (M.answer p.state o)) p k h

  pub release_keeps : (P : X → Type 0) (p : Stage X) → P (M.after_release p.state) → P p.state → P (release_on M p).state
  release_keeps P p k h = either (λ (q : Stage X). P q.state) (has_room p.limit) (with_release_on M p (M.next_release p.state)) p (ready (M.next_release p.state)) h
    where
      ready : (r : Option Released) → P (with_release_on M p r).state
      ready None = h
      ready (Some r) = k

  pub acknowledge_keeps : (P : X → Type 0) (p : Stage X) (a : ℕ) (v : List ℕ) → P (M.after_acknowledge p.state a v) → P p.state → P (acknowledge_on M p a v).state
  acknowledge_keeps P p a v k h = either (λ (q : Stage X). P q.state) (has_room p.limit) (moved p (M.after_acknowledge p.state a v)) p k h

  pub edit_keeps : (P : X → Type 0) (p : Stage X) (edit : Edit) → P (M.after_edit p.state edit) → P p.state → P (edit_on M p edit).state
  edit_keeps P p edit k h = either (λ (q : Stage X). P q.state) (has_room p.limit) (moved p (M.after_edit p.state edit)) p k h

  -- ---- what every step keeps, all of them keep

  pub releases_keep : (P : Stage X → Type 0) → ((p : Stage X) → P p → P (release_on M p)) → (n : ℕ) (p : Stage X) → P p → P (releases_on M n p)
  releases_keep P f zero p h = h
  releases_keep P f (suc n) p h = releases_keep P f n (release_on M p) (f p h)

  pub release_all_keeps : (P : Stage X → Type 0) → ((p : Stage X) → P p → P (release_on M p)) → (p : Stage X) → P p → P (release_all_on M p)
  release_all_keeps P f p h = releases_keep P f (length (M.waiting p.state)) p h

  -- P speaks also of the operations that are still to come
  pub taking_keeps : (P : List Op → Stage X → Type 0) → ((o : Op) (os : List Op) (p : Stage X) → P (o ∷ os) p → P os (release_all_on M (receive_on M p o))) → (os : List Op) (p : Stage X) → P os p → P [] (take_on M p os)
  taking_keeps P f [] p h = h
  taking_keeps P f (o ∷ os) p h = taking_keeps P f os (release_all_on M (receive_on M p o)) (f o os p h)

  -- where each of the operations is one of A
  pub ops_keep : (A : Op → Type 0) (P : Stage X → Type 0) → ((p : Stage X) (o : Op) → A o → P p → P (receive_on M p o)) → ((p : Stage X) → P p → P (release_on M p)) →
      (os : List Op) (p : Stage X) → ((o : Op) → IsIn o os → A o) → P p → P (take_on M p os)
  ops_keep A P f g os p a h =
      (taking_keeps (λ os p. ((o : Op) → IsIn o os → A o) × P p) (λ o os p h. (λ x u. h.0 x (inr u), release_all_keeps P g (receive_on M p o) (f p o (h.0 o (inl refl)) h.1))) os p (a, h)).1

  -- lines that are all run keep what each of them keeps
  pub running_keeps : {L F : Type 0} (reads : X → L → Result Edit F) (P : Stage X → Type 0) (ls : List L) → ((l : L) → IsIn l ls → (p : Stage X) (edit : Edit) → reads p.state l ≡ Ok edit → P p → P (release_all_on M (edit_on M p edit))) →
      (line : ℕ) (p q : Stage X) → run_on M reads line p ls ≡ Done q → P p → P q
  running_keeps reads P [] f line p q e h = subst P (ap (end_or p) e) h
  running_keeps {L} {F} reads P (l ∷ ls) f line p q e h = go (reads p.state l) refl e (λ r k. running_keeps reads P ls (λ x u. f x (inr u)) (suc line) r q k)
    where
      go : (r : Result Edit F) → reads p.state l ≡ r → go_on line r (λ edit. run_on M reads (suc line) (release_all_on M (edit_on M p edit)) ls) ≡ Done q →
          ((r : Stage X) → run_on M reads (suc line) r ls ≡ Done q → P r → P q) → P q
      go (Ok edit) k e rest = rest (release_all_on M (edit_on M p edit)) e (f l (inl refl) p edit k h)
      go (Err x) k e rest = absurd (cc)

  -- an edit that isn't refused is read as itself, and has no fault
  pub read_is : (s : X) (x edit : Edit) → read_edit_on M s x ≡ Ok edit → (x ≡ edit) × (M.edit_fault s x ≡ None)
  read_is s x edit e = go (M.edit_fault s x) refl e
    where
      go : (f : Option EditError) → M.edit_fault s x ≡ f → unless_fault f x ≡ Ok edit → (x ≡ edit) × (M.edit_fault s x ≡ None)
      go None f e = (cc, f)
      go (Some y) f e = absurd (cc)

  -- ---- and of the state alone

  pub states_after_releases : (P : X → Type 0) → ((s : X) → P s → P (M.after_release s)) → (n : ℕ) (p : Stage X) → P p.state → P (releases_on M n p).state
  states_after_releases P f n p h = releases_keep (λ q. P q.state) (λ q k. release_keeps P q (f q.state k) k) n p h

  pub states_after_ops : (A : Op → Type 0) (P : X → Type 0) → StepsKeep M A P → (os : List Op) (p : Stage X) → ((o : Op) → IsIn o os → A o) → P p.state → P (take_on M p os).state
  states_after_ops A P f os p a h = ops_keep A (λ q. P q.state) (λ q o w k. receive_keeps P q o (f.receives q.state o w k) k) (λ q k. release_keeps P q (f.releases q.state k) k) os p a h

  -- ---- without a limit every step is taken

  pub receive_unlimited : (p : Stage X) (o : Op) → p.limit ≡ None → receive_on M p o ≡ with_answer (moved p (M.after_receive p.state o)) o (M.answer p.state o)
  receive_unlimited p o e = ap (λ b. cond b (with_answer (moved p (M.after_receive p.state o)) o (M.answer p.state o)) p) (ap has_room e)

  pub release_unlimited : (p : Stage X) → p.limit ≡ None → release_on M p ≡ with_release_on M p (M.next_release p.state)
  release_unlimited p e = ap (λ b. cond b (with_release_on M p (M.next_release p.state)) p) (ap has_room e)

  pub acknowledge_unlimited : (p : Stage X) (a : ℕ) (v : List ℕ) → p.limit ≡ None → acknowledge_on M p a v ≡ moved p (M.after_acknowledge p.state a v)
  acknowledge_unlimited p a v e = ap (λ b. cond b (moved p (M.after_acknowledge p.state a v)) p) (ap has_room e)

  pub edit_unlimited : (p : Stage X) (edit : Edit) → p.limit ≡ None → edit_on M p edit ≡ moved p (M.after_edit p.state edit)
  edit_unlimited p edit e = ap (λ b. cond b (moved p (M.after_edit p.state edit)) p) (ap has_room e)

  -- and none comes
  pub received_limit : (p : Stage X) (o : Op) → p.limit ≡ None → (receive_on M p o).limit ≡ None
  received_limit p o e = either (λ (q : Stage X). q.limit ≡ None) (has_room p.limit) (with_answer (moved p (M.after_receive p.state o)) o (M.answer p.state o)) p (ap one_less e) e

  pub released_limit : (p : Stage X) → p.limit ≡ None → (release_on M p).limit ≡ None
  released_limit p e = either (λ (q : Stage X). q.limit ≡ None) (has_room p.limit) (with_release_on M p (M.next_release p.state)) p (ready (M.next_release p.state)) e
    where
      ready : (r : Option Released) → (with_release_on M p r).limit ≡ None
      ready None = e
      ready (Some r) = ap one_less e

  pub releases_limit : (n : ℕ) (p : Stage X) → p.limit ≡ None → (releases_on M n p).limit ≡ None
  releases_limit n p e = releases_keep (λ (q : Stage X). q.limit ≡ None) released_limit n p e

  pub ops_limit : (os : List Op) (p : Stage X) → p.limit ≡ None → (take_on M p os).limit ≡ None
  ops_limit os p e = taking_keeps (λ os (q : Stage X). q.limit ≡ None) (λ o os q k. releases_limit (length (M.waiting (receive_on M q o).state)) (receive_on M q o) (received_limit q o k)) os p e

  -- ---- steps that change nothing

  -- where nothing is ready
  pub none_ready : (p : Stage X) → M.next_release p.state ≡ None → release_on M p ≡ p
  none_ready p e = ap (λ r. cond (has_room p.limit) (with_release_on M p r) p) e ∙ either (λ q. q ≡ p) (has_room p.limit) p p refl refl

  -- where no step is left
  no_release : (p : Stage X) → p.limit ≡ Some 0 → release_on M p ≡ p
  no_release p e = ap (λ b. cond b (with_release_on M p (M.next_release p.state)) p) (ap has_room e)

  pub releases_stay : (n : ℕ) (p : Stage X) → release_on M p ≡ p → releases_on M n p ≡ p
  releases_stay zero p e = refl
  releases_stay (suc n) p e = ap (releases_on M n) e ∙ releases_stay n p e

  pub no_releases : (n : ℕ) (p : Stage X) → p.limit ≡ Some 0 → releases_on M n p ≡ p
  no_releases n p e = releases_stay n p (no_release p e)

  pub no_ops : (os : List Op) (p : Stage X) → p.limit ≡ Some 0 → take_on M p os ≡ p
  no_ops [] p e = refl
  no_ops (o ∷ os) p e =
      ap (λ q. take_on M (release_all_on M q) os) (ap (λ b. cond b (with_answer (moved p (M.after_receive p.state o)) o (M.answer p.state o)) p) (ap has_room e))
      ∙ (ap (λ q. take_on M q os) (no_releases (length (M.waiting p.state)) p e) ∙ no_ops os p e)

-- ---- two machines whose steps agree

-- so do they on a relation that also says what the one keeps
pub agree_keeping : {X Y : Type 0} (M : Machine X) (N : Machine Y) (A : Op → Type 0) (S : X → Y → Type 0) (P : X → Type 0) → StepsAgree M N A S → StepsKeep M A P → StepsAgree M N A (λ s t. P s × S s t)
agree_keeping M N A S P f k = record {
  answers = λ s t o w h. f.answers s t o w h.1;
  receives = λ s t o w h. (k.receives s o w h.0, f.receives s t o w h.1);
  waiting = λ s t h. f.waiting s t h.1;
  next_releases = λ s t h. f.next_releases s t h.1;
  releases = λ s t h. (k.releases s h.0, f.releases s t h.1);
}

module _ {X Y : Type 0} (S : X → Y → Type 0) where
  -- both take the step, or neither does
  step_alike : (p p' : Stage X) (q q' : Stage Y) → IsAlike S p q → IsAlike S p' q' → IsAlike S (cond (has_room p.limit) p' p) (cond (has_room q.limit) q' q)
  step_alike p p' q q' h k = subst (λ b. IsAlike S (cond (has_room p.limit) p' p) (cond b q' q)) (ap has_room h.limit) (go (has_room p.limit))
    where
      go : (b : Bool) → IsAlike S (cond b p' p) (cond b q' q)
      go true = k
      go false = h

  moved_alike : (p : Stage X) (q : Stage Y) (s : X) (t : Y) → IsAlike S p q → S s t → IsAlike S (moved p s) (moved q t)
  moved_alike p q s t h k = record { states = k; limit = ap one_less h.limit; counts = h.counts }

  module _ (M : Machine X) (N : Machine Y) where
    pub acknowledge_alike : (p : Stage X) (q : Stage Y) (a : ℕ) (v : List ℕ) → S (M.after_acknowledge p.state a v) (N.after_acknowledge q.state a v) → IsAlike S p q → IsAlike S (acknowledge_on M p a v) (acknowledge_on N q a v)
    acknowledge_alike p q a v k h =
        let s = M.after_acknowledge p.state a v in
        let t = N.after_acknowledge q.state a v in
        step_alike p (moved p s) q (moved q t) h (moved_alike p q s t h k)

    pub edit_alike : (p : Stage X) (q : Stage Y) (edit : Edit) → S (M.after_edit p.state edit) (N.after_edit q.state edit) → IsAlike S p q → IsAlike S (edit_on M p edit) (edit_on N q edit)
    edit_alike p q edit k h =
        let s = M.after_edit p.state edit in
        let t = N.after_edit q.state edit in
        step_alike p (moved p s) q (moved q t) h (moved_alike p q s t h k)

    module _ (A : Op → Type 0) (f : StepsAgree M N A S) where
      pub receive_alike : (p : Stage X) (q : Stage Y) (o : Op) → A o → IsAlike S p q → IsAlike S (receive_on M p o) (receive_on N q o)
      receive_alike p q o w h =
          let s = M.after_receive p.state o in
          let t = N.after_receive q.state o in
          step_alike p (with_answer (moved p s) o (M.answer p.state o)) q (with_answer (moved q t) o (N.answer q.state o)) h
          (record {
            states = f.receives p.state q.state o w h.states;
            limit = ap one_less h.limit;
            counts = ap (λ c. with_receipt c o.author o.seq (M.answer p.state o)) h.counts ∙ ap (with_receipt q.counts o.author o.seq) (f.answers p.state q.state o w h.states);
          })

      pub release_alike : (p : Stage X) (q : Stage Y) → IsAlike S p q → IsAlike S (release_on M p) (release_on N q)
      release_alike p q h =
          step_alike p (with_release_on M p (M.next_release p.state)) q (with_release_on N q (N.next_release q.state)) h
          (subst (λ r. IsAlike S (with_release_on M p (M.next_release p.state)) (with_release_on N q r)) (f.next_releases p.state q.state h.states) (ready (M.next_release p.state)))
        where
          ready : (r : Option Released) → IsAlike S (with_release_on M p r) (with_release_on N q r)
          ready None = h
          ready (Some r) = record { states = f.releases p.state q.state h.states; limit = ap one_less h.limit; counts = ap (λ c. with_reason c r.author r.seq r.refusal) h.counts }

      pub releases_alike : (n : ℕ) (p : Stage X) (q : Stage Y) → IsAlike S p q → IsAlike S (releases_on M n p) (releases_on N n q)
      releases_alike zero p q h = h
      releases_alike (suc n) p q h = releases_alike n (release_on M p) (release_on N q) (release_alike p q h)

      pub release_all_alike : (p : Stage X) (q : Stage Y) → IsAlike S p q → IsAlike S (release_all_on M p) (release_all_on N q)
      release_all_alike p q h = subst (λ n. IsAlike S (release_all_on M p) (releases_on N n q)) (ap length (f.waiting p.state q.state h.states)) (releases_alike (length (M.waiting p.state)) p q h)

      pub taking_alike : (os : List Op) (p : Stage X) (q : Stage Y) → ((o : Op) → IsIn o os → A o) → IsAlike S p q → IsAlike S (take_on M p os) (take_on N q os)
      taking_alike [] p q w h = h
      taking_alike (o ∷ os) p q w h =
          taking_alike os (release_all_on M (receive_on M p o)) (release_all_on N (receive_on N q o)) (λ x u. w x (inr u))
          (release_all_alike (receive_on M p o) (receive_on N q o) (receive_alike p q o (w o (inl refl)) h))

      -- where lines are read alike, and what they are read as is made alike
      pub running_alike : {L F : Type 0} (reads : X → L → Result Edit F) (meant : Y → L → Result Edit F) → ((s : X) (t : Y) (l : L) → S s t → reads s l ≡ meant t l)
          → (ls : List L) → ((s : X) (t : Y) (l : L) (edit : Edit) → IsIn l ls → reads s l ≡ Ok edit → S s t → S (M.after_edit s edit) (N.after_edit t edit))
          → (line : ℕ) (p : Stage X) (q : Stage Y) → IsAlike S p q → IsSameRun S (run_on M reads line p ls) (run_on N meant line q ls)
      running_alike reads meant r [] e line p q h = h
      running_alike {L} {F} reads meant r (l ∷ ls) e line p q h =
          subst (λ m. IsSameRun S (run_on M reads line p (l ∷ ls)) (go_on line m (λ edit. run_on N meant (suc line) (release_all_on N (edit_on N q edit)) ls))) (r p.state q.state l h.states) (go (reads p.state l) refl (running_alike reads meant r ls (λ s t x y u. e s t x y (inr u)) (suc line)))
        where
          go : (m : Result Edit F) → reads p.state l ≡ m → ((p : Stage X) (q : Stage Y) → IsAlike S p q → IsSameRun S (run_on M reads (suc line) p ls) (run_on N meant (suc line) q ls)) →
              IsSameRun S (go_on line m (λ edit. run_on M reads (suc line) (release_all_on M (edit_on M p edit)) ls)) (go_on line m (λ edit. run_on N meant (suc line) (release_all_on N (edit_on N q edit)) ls))
          go (Ok edit) k rest =
              rest (release_all_on M (edit_on M p edit)) (release_all_on N (edit_on N q edit))
              (release_all_alike (edit_on M p edit) (edit_on N q edit) (edit_alike p q edit (e p.state q.state l edit (inl refl) k h.states) h))
          go (Err x) k rest = (refl, refl)
