-- What a session of a member leaves that stores more than once.
use Rattle.std.proofs.Common.{◌≡◌, ◌≢◌, ◌∙◌, ◌<◌, ◌≤◌, ◌⊎◌, ℕ, zero, suc, Bool, true, false, eqb, List, [], ◌∷◌, ◌++◌, ◌+◌, length, take, drop, map, Option, Some, None, IfSome, Result, Ok, Err, refl, sym, ap, subst, inl, inr, arith, append_assoc, length-append}
use Rattle.std.proofs.lemmas.Bool.Decides.{eqb_tells}
use Rattle.rls_ident.specs.declared.limits.TheConstants.{FILE_BYTES}
use Rattle.rls_ident.proofs.Members.{some_is}
use Rattle.rls_codec.specs.CodecLaws.{IsBytes}
use Rattle.rls_model.specs.Receiving.{State}
use Rattle.rls_model.proofs.OnePlace.{got_below}
use Rattle.rls_session.specs.Devices.{Devices}
use Rattle.rls_session.specs.Serving.{SessionEnds}
use Rattle.rls_seen.specs.Seen.{Seen}
use Rattle.rls_report.specs.declared.failures.CommandError.{CommandError}
use Rattle.rls_report.specs.declared.failures.CommandError.TheVariants.{TooLarge}
use Rattle.rls_stages.specs.KeptFile.{IsFileFor, StandsIn, bytes_over, loaded, replica_in}
use Rattle.rls_stages.proofs.Files.{opened}
use Rattle.rls_stages.specs.Endings.{IsPart}
use Rattle.rls_stages.proofs.Kept.{WithinOrPast, within_or_past}
use Rattle.rls_top.proofs.GroupCommands.{opened_at}
use Rattle.rls_session.specs.Answers.{Sitting, resumed, sitting_at}
use Rattle.rls_session.specs.Courses.{course, course_of, stretches, stretches_within}
use Rattle.rls_session.specs.Due.{Due, due, due_of, due_on, stops}
use Rattle.rls_session.specs.Endings.{Ends, EndsIn, EndsOn, FailsAt, IsKept}
use Rattle.rls_session.specs.Seats.{closed, course_at, respond, resumed_seat, seated}
use Rattle.rls_session.specs.Sessions.{by_history, by_parts}
use Rattle.rls_groups.specs.Events.{Action, Begins, Event, Resumes, deed_of, empty_desk, session_due, unanswered}
use Rattle.rls_groups.specs.Lives.{Life}
use Rattle.rls_io.specs.Device.{Appends, IsCutShort}
use Rattle.rls_session.specs.Replies.{saved_text}
use Rattle.rls_session.proofs.Served.{appends_more}
use Rattle.std.proofs.lemmas.List.{append-nil, take-append-le}
use Rattle.std.proofs.Math.Seq.{take-append-add}
use Rattle.rls_groups.specs.Runs.{IsFileAfter, IsWrittenBy, actions_of, answered_by, answered_in, StoresLeave, actions_over, file_at}
use Rattle.rls_groups.proofs.Between.{all_done, answered, answered_after, file_after}
use Rattle.rls_groups.proofs.Standing.{Stands, acts, acts_all, answers, as_far, goes_on, kept_at_end, mine, next, none_both, rest_here, stands_first, stands_then, stored_at, stored_here, theirs}

-- ---- what is written

-- a part of this, or of what comes after it, is less than both
cut_front : (old new : Option (List ℕ)) (xs ys : List ℕ) (n : ℕ) → n ≤ length xs → 0 < length ys → Appends old new (take n xs) → IsCutShort old new (xs ++ ys)
cut_front old new xs ys n h some a = (n, omega (arith, length-append xs ys, h, some), subst (Appends old new) (sym (take-append-le n xs ys h)) a)

cut_later : (old new : Option (List ℕ)) (xs ys : List ℕ) (n : ℕ) → n < length ys → Appends old new (xs ++ take n ys) → IsCutShort old new (xs ++ ys)
cut_later old new xs ys n h a = (length xs + n, omega (arith, length-append xs ys, h), subst (Appends old new) (sym (take-append-add xs ys n)) a)

none_written : (old new : Option (List ℕ)) → IsPart old new [] → Appends old new []
none_written old new (zero, h, a) = a
none_written old new (suc k, h, a) = a

-- an end that isn't good wrote less than all
cut_so : (d : Due) (n : ℕ) (file new_file : Option (Option (List ℕ))) (old new : Option (List ℕ)) → EndsIn d n file new_file old new → n ≢ 0 → IsCutShort old new (d.replies ++ saved_text)
cut_so d n file new_file old new e other = at_nine (eqb_tells n 9)
  where
    fails : FailsAt d file new_file old new → IsCutShort old new (d.replies ++ saved_text)
    fails (inl k) = cut_front old new d.replies saved_text k.1.0 (omega (arith, k.1.1)) (omega arith) k.1.2
    fails (inr k) = cut_later old new d.replies saved_text k.1.0 k.1.1 k.1.2

    at_nine : ((eqb n 9 ≡ true) × (n ≡ 9)) ⊎ ((eqb n 9 ≡ false) × (n ≢ 9)) → IsCutShort old new (d.replies ++ saved_text)
    at_nine (inl z) = fails (e.failing z.1)
    at_nine (inr z) = let p = e.part other z.1 in cut_front old new d.replies saved_text p.0 p.1 (omega arith) p.2

some_written : (d : Due) (n : ℕ) (file new_file : Option (Option (List ℕ))) (old new : Option (List ℕ)) → EndsIn d n file new_file old new → (more : List ℕ) × Appends old new more
some_written d n file new_file old new e = go (eqb_tells n 0)
  where
    go : ((eqb n 0 ≡ true) × (n ≡ 0)) ⊎ ((eqb n 0 ≡ false) × (n ≢ 0)) → (more : List ℕ) × Appends old new more
    go (inl z) = (d.replies ++ saved_text, e.written z.1)
    go (inr z) = let p = cut_so d n file new_file old new e z.1 in (take p.0 (d.replies ++ saved_text), p.2)

module _ (i : ℕ) where
  -- ---- how it ended

  -- what is left and written, if this is what the session does
  record IsLeftOf (n : ℕ) (l : Life) (actions : List Action) (now : Option (List ℕ)) (old new : Option (List ℕ)) : Type 0 where
    all : n ≡ 0 → (now ≡ file_at (all_done i l actions).group i) × Appends old new (answered i l actions)
    some : ℕ
    left : now ≡ file_at (all_done i l (take some actions)).group i
    whole : ℕ
    few : whole ≤ some
    more : List ℕ
    begins : Appends old new (answered i l (take whole actions) ++ more)
    cut_short : n ≢ 0 → IsCutShort old new (answered i l (take (suc whole) actions))

  module _ (n : ℕ) (now : Option (List ℕ)) (new : Option (List ℕ)) where
    abbrev SomeOf : Life → List Action → Type 0
    SomeOf l actions = (k : ℕ) × (now ≡ file_at (all_done i l (take k actions)).group i)

    -- it ended in this stretch
    in_stretch : (l : Life) (action : Action) (bytes : List ℕ) (d : Sitting Seen) (f : Sitting State) (input : List ℕ) (old : Option (List ℕ)) (others : List Action) → Stands i l action bytes d f input
        → (n ≡ 0 → others ≡ []) → EndsIn (due_of (course_at by_parts d input)) n (Some (Some bytes)) (Some now) old new → IsLeftOf n l (action ∷ others) now old new
    in_stretch l action bytes d f input old others h none e =
        let due = due_of (course_at by_parts d input) in
        let written = some_written due n (Some (Some bytes)) (Some now) old new e in
        let some = at_zero (eqb_tells n 0) in
        record {
          all = λ z. subst (λ (xs : List Action). (now ≡ file_at (all_done i l (action ∷ xs)).group i) × Appends old new (answered i l (action ∷ xs))) (sym (none z)) (stored (e.stored z), subst (Appends old new) here (e.written z));
          some = some.0;
          left = some.1;
          whole = 0;
          few = omega arith;
          more = written.0;
          begins = written.1;
          cut_short = λ z. subst (IsCutShort old new) here (cut_so due n (Some (Some bytes)) (Some now) old new e z);
        }
      where
        here : (due_of (course_at by_parts d input)).replies ++ saved_text ≡ answered_by l.group i (deed_of (l.desks i) action) ++ []
        here = sym (append-nil (answered_by l.group i (deed_of (l.desks i) action)) ∙ answers i l action bytes d f input h)

        stored : IsKept (due_of (course_at by_parts d input)).ending (Some (Some bytes)) (Some now) → now ≡ file_at (next i l action).group i
        stored k = let q = kept_at_end i l action bytes d f input h (Some now) k in some_is now (Some (stored_here i l action bytes d f input h)) q.1 ∙ stored_at i l action bytes d f input h q.0

        never : now ≡ Some bytes → SomeOf l (action ∷ others)
        never e = (0, e ∙ sym h.at)

        fails : FailsAt (due_of (course_at by_parts d input)) (Some (Some bytes)) (Some now) old new → SomeOf l (action ∷ others)
        fails (inl k) = never (some_is now (Some bytes) k.0)
        fails (inr k) = (1, stored k.0)

        at_nine : n ≢ 0 → ((eqb n 9 ≡ true) × (n ≡ 9)) ⊎ ((eqb n 9 ≡ false) × (n ≢ 9)) → SomeOf l (action ∷ others)
        at_nine some (inl z) = fails (e.failing z.1)
        at_nine some (inr z) = never (e.stays some z.1)

        at_zero : ((eqb n 0 ≡ true) × (n ≡ 0)) ⊎ ((eqb n 0 ≡ false) × (n ≢ 0)) → SomeOf l (action ∷ others)
        at_zero (inl z) = (1, stored (e.stored z.1))
        at_zero (inr z) = at_nine z.1 (eqb_tells n 9)

    -- it went on after this
    went_on : (l : Life) (action : Action) (others : List Action) (old mid : Option (List ℕ)) → Appends old mid (answered_by l.group i (deed_of (l.desks i) action)) → IsLeftOf n (next i l action) others now mid new → IsLeftOf n l (action ∷ others) now old new
    went_on l action others old mid a k =
        let first = answered_by l.group i (deed_of (l.desks i) action) in
        let begin = answered i (next i l action) (take k.whole others) in
        record {
          all = λ z. let q = k.all z in (q.0, appends_more old mid new first (answered i (next i l action) others) a q.1);
          some = suc k.some;
          left = k.left;
          whole = suc k.whole;
          few = omega (arith, k.few);
          more = k.more;
          begins = subst (Appends old new) (sym (append_assoc first begin k.more)) (appends_more old mid new first (begin ++ k.more) a k.begins);
          cut_short = λ z. let q = k.cut_short z in cut_later old new first (answered i (next i l action) (take (suc k.whole) others)) q.0 q.1 (appends_more old mid new first (take q.0 (answered i (next i l action) (take (suc k.whole) others))) a q.2);
        }

    -- it ended in this stretch, or stored and went on
    at_stretch : (l : Life) (action : Action) (bytes : List ℕ) (d : Sitting Seen) (f : Sitting State) (input : List ℕ) (old : Option (List ℕ)) (ds : List Due) (others : List Action) → (h : Stands i l action bytes d f input)
        → (ds ≡ [] → others ≡ []) → EndsOn (due_of (course_at by_parts d input)) ds n (Some (Some bytes)) (Some now) old new
        → ((mid : Option (List ℕ)) → Stands i (next i l action) (Resumes (rest_here i l action bytes d f input h)) (stored_here i l action bytes d f input h) (resumed by_parts (course_at by_parts d input).state) (resumed by_history (course_at by_history f input).state) (rest_here i l action bytes d f input h)
        → Ends ds n (Some (Some (stored_here i l action bytes d f input h))) (Some now) mid new → IsLeftOf n (next i l action) others now mid new) → IsLeftOf n l (action ∷ others) now old new
    at_stretch l action bytes d f input old [] others h none e more = in_stretch l action bytes d f input old others h (λ z. none refl) e
    at_stretch l action bytes d f input old (x ∷ ds) others h none (inl e) more = in_stretch l action bytes d f input old others h (λ z. absurd (e.0 z)) e.1
    at_stretch l action bytes d f input old (x ∷ ds) others h none (inr e) more =
        let q = kept_at_end i l action bytes d f input h e.0 (e.2).stored in
        went_on l action others old e.1 (subst (Appends old e.1) (sym (answers i l action bytes d f input h)) (e.2).written)
        (more e.1 (stands_then i l action bytes d f input h q.0 q.2 q.3) (subst (λ (file : Option (Option (List ℕ))). EndsOn x ds n file (Some now) e.1 new) q.1 e.3))

    -- from stretch to stretch
    ends_within : (m : ℕ) (l : Life) (action : Action) (bytes : List ℕ) (d : Sitting Seen) (f : Sitting State) (input : List ℕ) (old : Option (List ℕ)) → Stands i l action bytes d f input
        → Ends (map due_of (map (closed by_parts) (map (course_of (respond by_parts)) (stretches_within (respond by_parts) (resumed_seat by_parts) m (seated d) input)))) n (Some (Some bytes)) (Some now) old new → IsLeftOf n l (acts m action input) now old new
    unfolding mine
    ends_within zero l action bytes d f input old h e = absurd e
    ends_within (suc m) l action bytes d f input old h e =
        let far = as_far d input in
        let c = course_at by_parts d input in
        subst (λ (k : ℕ). IsLeftOf n l (action ∷ theirs m input (course unanswered tt input).stores k) now old new) far.used
        (subst (λ (x : Bool). IsLeftOf n l (action ∷ theirs m input x c.used) now old new) far.stores
        (at_stretch l action bytes d f input old (mine m d input c.stores) (theirs m input c.stores c.used) h (none_both m d input c.stores c.used) e
        (λ mid there ends. on c.stores mid ends (λ ends. subst (λ (xs : List Action). IsLeftOf n (next i l action) xs now mid new) (sym (goes_on m input c.used))
        (ends_within m (next i l action) (Resumes (drop (suc c.used) input)) (bytes_over (c.state).state) (resumed by_parts c.state) (resumed by_history (course_at by_history f input).state) (drop (suc c.used) input) mid there ends)))))
      where
        on : (x : Bool) (mid : Option (List ℕ)) → Ends (mine m d input x) n (Some (Some (bytes_over ((course_at by_parts d input).state).state))) (Some now) mid new
            → (Ends (mine m d input true) n (Some (Some (bytes_over ((course_at by_parts d input).state).state))) (Some now) mid new → IsLeftOf n (next i l action) (theirs m input true (course_at by_parts d input).used) now mid new)
            → IsLeftOf n (next i l action) (theirs m input x (course_at by_parts d input).used) now mid new
        on false mid ends more = absurd ends
        on true mid ends more = more ends

-- what is left and written then
abbrev IsLeftBy : ℕ → Life → ℕ → List Action → Option (List ℕ) → Option (List ℕ) → Option (List ℕ) → Type 0
IsLeftBy n l i actions now old new =
    (n ≡ 0 → IsFileAfter l i actions now × ((es : List Event) → actions_of i es ≡ actions → Appends old new (answered_in i l es)))
    × ((k : ℕ) × IsFileAfter l i (take k actions) now × IsWrittenBy l i actions k n old new)

-- whatever others do meanwhile
left_by : (n : ℕ) (l : Life) (i : ℕ) (actions : List Action) (now old new : Option (List ℕ)) → i < length (l.group).files → IsLeftOf i n l actions now old new → IsLeftBy n l i actions now old new
left_by n l i actions now old new m k = (
  λ z. (file_after i l actions now m (k.all z).0, λ es q. subst (Appends old new) (sym (after es actions q)) (k.all z).1),
  (
    k.some,
    file_after i l (take k.some actions) now m k.left,
    record {
      whole = k.whole;
      few = k.few;
      more = k.more;
      answered = λ es q. subst (λ (bs : List ℕ). Appends old new (bs ++ k.more)) (sym (after es (take k.whole actions) q)) k.begins;
      cut_short = λ z es q. subst (IsCutShort old new) (sym (after es (take (suc k.whole) actions) q)) (k.cut_short z);
    },
  ),
)
  where
    after : (es : List Event) (xs : List Action) → actions_of i es ≡ xs → answered_in i l es ≡ answered i l xs
    after es xs q = answered_after i es xs l l m m (record { file = refl; desk = refl }) q

-- over these bytes, which stand for a history
leaves : {K : Type 0} (S W : Type 0) (load : K → Bool → K → Type 0) (store : K → List ℕ → Bool → K → Type 0) (l : Life) (i : ℕ) (input : List ℕ) (n : ℕ) (now : Option (List ℕ)) (t : State) (bytes : List ℕ) (keeper_old keeper_new : K) (input_old input_new : S) (output_old output_new : W) (old new : Devices)
    → file_at l.group i ≡ Some bytes → IsFileFor bytes t → IsBytes input → SessionEnds load store ((input_new ≡ input_old) × (output_new ≡ output_old)) n keeper_old keeper_new old new → old.file ≡ Some (file_at l.group i) → old.left ≡ Some input → new.file ≡ Some now → IsLeftBy n l i (actions_over input) now old.told new.told
unfolding stretches
leaves S W load store l i input n now t bytes keeper_old keeper_new input_old input_new output_old output_new old new at stands b h before given after = go (within_or_past FILE_BYTES (length bytes))
  where
    m : i < length (l.group).files
    m = got_below (l.group).files i bytes at

    told : IfSome (due (Some (Some bytes)) (Some input)) (λ ds. Ends ds n (Some (Some bytes)) (Some now) old.told new.told)
    told = subst (λ (f : Option (Option (List ℕ))). IfSome (due (Some (Some bytes)) (Some input)) (λ ds. Ends ds n (Some (Some bytes)) f old.told new.told)) after
        (subst (λ (x : Option (List ℕ)). IfSome (due (Some (Some bytes)) x) (λ ds. Ends ds n (Some (Some bytes)) new.file old.told new.told)) given
        (subst (λ (f : Option (Option (List ℕ))). IfSome (due f old.left) (λ ds. Ends ds n f new.file old.told new.told)) (before ∙ ap (λ (k : Option (List ℕ)). Some k) at) h.ends))

    -- the file is too long
    unread : EndsIn (stops TooLarge) n (Some (Some bytes)) (Some now) old.told new.told → IsLeftOf i n l (actions_over input) now old.told new.told
    unread e = record {
      all = λ z. absurd (e.stored z);
      some = 0;
      left = stays (eqb_tells n 9) ∙ sym at;
      whole = 0;
      few = omega arith;
      more = [];
      begins = nothing (eqb_tells n 9);
      cut_short = λ z. (0, first, nothing (eqb_tells n 9));
    }
      where
        stays : ((eqb n 9 ≡ true) × (n ≡ 9)) ⊎ ((eqb n 9 ≡ false) × (n ≢ 9)) → now ≡ Some bytes
        stays (inl z) = nine (e.failing z.1)
          where
            nine : FailsAt (stops TooLarge) (Some (Some bytes)) (Some now) old.told new.told → now ≡ Some bytes
            nine (inl k) = some_is now (Some bytes) k.0
            nine (inr k) = absurd k.0
        stays (inr z) = e.stays (λ zero. e.stored zero) z.1

        -- nothing is written
        nothing : ((eqb n 9 ≡ true) × (n ≡ 9)) ⊎ ((eqb n 9 ≡ false) × (n ≢ 9)) → Appends old.told new.told []
        nothing (inl z) = nine (e.failing z.1)
          where
            nine : FailsAt (stops TooLarge) (Some (Some bytes)) (Some now) old.told new.told → Appends old.told new.told []
            nine (inl k) = absurd (omega (arith, k.1.1))
            nine (inr k) = absurd k.0
        nothing (inr z) = let p = e.part (λ zero. e.stored zero) z.1 in none_written old.told new.told p

        first : 0 < length (answered i l (take 1 (actions_over input)))
        first = subst (λ (xs : List Action). 0 < length (answered i l (take 1 xs))) (acts_all input) (omega (arith, length-append (session_due l.group i empty_desk input).replies saved_text, length-append ((session_due l.group i empty_desk input).replies ++ saved_text) []))

    go : WithinOrPast FILE_BYTES (length bytes) → IsLeftBy n l i (actions_over input) now old.told new.told
    go (inl few) =
        let o = opened bytes t stands in
        let found : replica_in (loaded (Some bytes)) ≡ Ok o.0 = opened_at bytes o.0 few.0 o.1.found in
        let left = ends_within i n now new.told (suc (length input)) l (Begins input) bytes (sitting_at o.0) (sitting_at t) input old.told (stands_first i l bytes t input o m at few.0 stands b)
        (subst (λ (r : Result Seen CommandError). IfSome (due_on (Some r) (Some input)) (λ ds. Ends ds n (Some (Some bytes)) (Some now) old.told new.told)) found told) in
        left_by n l i (actions_over input) now old.told new.told m (subst (λ (xs : List Action). IsLeftOf i n l xs now old.told new.told) (acts_all input) left)
    go (inr long) =
        let large : replica_in (loaded (Some bytes)) ≡ Err TooLarge = rw (long.1) refl in
        left_by n l i (actions_over input) now old.told new.told m (unread (subst (λ (r : Result Seen CommandError). IfSome (due_on (Some r) (Some input)) (λ ds. Ends ds n (Some (Some bytes)) (Some now) old.told new.told)) large told))

-- a session over a member's file that stands for a history
pub stores_leave : {K : Type 0} (S W : Type 0) (load : K → Bool → K → Type 0) (store : K → List ℕ → Bool → K → Type 0) → StoresLeave S W load store
stores_leave S W load store l i input n now t keeper_old keeper_new input_old input_new output_old output_new old new file b h before given after = go (file_at l.group i) refl file
  where
    go : (o : Option (List ℕ)) → file_at l.group i ≡ o → StandsIn (Some o) t → IsLeftBy n l i (actions_over input) now old.told new.told
    go (Some bytes) at stands = leaves S W load store l i input n now t bytes keeper_old keeper_new input_old input_new output_old output_new old new at stands b h before given after
    go None at stands = absurd stands
