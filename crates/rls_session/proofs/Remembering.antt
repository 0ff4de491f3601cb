-- What a session has recorded leads back and forth through the texts of an editor that keeps a copy of the text before each group.
use Rattle.std.proofs.Common.{◌≡◌, ◌∙◌, ◌-◌, ◌≤◌, ◌/◌, ◌+◌, ℕ, zero, suc, Bool, true, false, List, [], ◌∷◌, ◌++◌, map, length, take, drop, Some, None, refl, sym, ap, subst, arith, append_assoc}
use Rattle.std.specs.Prelude.{IsTrue, nat_le, replicate, reverse, if◌then◌else◌}
use Rattle.std.proofs.lemmas.List.{drop_all, length-append, length-drop, length-map, length-reverse, reverse-append, reverse-reverse, take-append-drop, take_at}
use Rattle.rls_ident.specs.declared.tuple.Tuple.{Tuple}
use Rattle.rls_ident.specs.declared.epoch_name.EpochName.{EpochName}
use Rattle.rls_ident.specs.EpochNames.{name_eq}
use Rattle.rls_ident.specs.Identifiers.{IsIdent}
use Rattle.rls_ident.specs.Lists.{IsIn}
use Rattle.rls_ident.specs.declared.epoch_name.EpochName.TheVariants.{Origin}
use Rattle.rls_rename.specs.Tree.{Epochs, greatest, translate}
use Rattle.rls_runs.specs.Entries.{Entries, chars_in}
use Rattle.rls_runs.proofs.Sorted.{rises_of_increasing}
use Rattle.rls_model.specs.declared.edit.Edit.TheVariants as edits
use Rattle.rls_model.specs.WellFormed.{IsEdit}
use Rattle.rls_replica.specs.Editing.{edited_text}
use Rattle.rls_replica.specs.Names.{keeps}
use Rattle.rls_seen.specs.Edits.{edit_fault_over, edited, made_over}
use Rattle.rls_seen.proofs.Making.{made_may, made_range}
use Rattle.rls_seen.specs.Sane.{IsSane}
use Rattle.rls_seen.specs.Seen.{Seen, greatest_over, idents_over, text_over}
use Rattle.rls_steps.specs.declared.piece.Piece.{Piece}
use Rattle.rls_steps.specs.declared.piece.Piece.TheVariants.{Cut, Put}
use Rattle.rls_steps.specs.declared.piece.Step.{Step}
use Rattle.rls_steps.specs.Back.{AreDistinct, LeadBack}
use Rattle.rls_steps.specs.Courses.{Back, Copies, Insertion, Shows, Steps, copied, copied_again, copied_back, copies, moved}
use Rattle.rls_steps.specs.Forgetting.{forgotten, leaving, lightened, without_first, without_overfull}
use Rattle.rls_steps.specs.Index.{AreApart}
use Rattle.rls_steps.specs.GroundLaws.{IsWhole}
use Rattle.rls_steps.specs.Grounds.{Held, Turned, again_on, back_on, begun_on, epoch_or, exchanged, over, piece_on, recorded_on}
use Rattle.rls_steps.specs.Groups.{front_size, goes_on, group_size, in_front}
use Rattle.rls_steps.specs.Labelled.{IsRenamed, Labelled, Names, cut_piece, insert_over, marked_by, ready_over}
use Rattle.rls_steps.specs.Marks.{Marked, marks, numbers_from}
use Rattle.rls_steps.specs.Parts.{deleted, parts, without}
use Rattle.rls_steps.specs.Recorded.{Recorded, held_by, names_over, pieces_of, settled, steps_of, steps_over, unused}
use Rattle.rls_steps.specs.Sweeping.{kept_within, swept, with_newest}
use Rattle.rls_steps.proofs.Applied.{applied_renames}
use Rattle.rls_steps.proofs.Courses.{as_copied, move_shows, rises_distinct}
use Rattle.rls_steps.proofs.Following.{renaming_shows}
use Rattle.rls_steps.proofs.Forgetting.{forgetting_shows}
use Rattle.rls_steps.proofs.Grounded.{on, on_piece, on_ready}
use Rattle.rls_steps.proofs.Parting.{deletion_shows}
use Rattle.rls_steps.proofs.Recording.{names_there, steps_settled}
use Rattle.rls_steps.proofs.Stacks.{pieces_back, pieces_more}
use Rattle.rls_steps.proofs.Swept.{sweeping_shows}
use Rattle.rls_steps.proofs.Unchanged.{delete_epochs, insert_epochs}
use Rattle.rls_session.specs.declared.desk.TheConstants.{KEPT_CHARACTERS, KEPT_STEPS}
use Rattle.rls_session.specs.Remembering.{AreIdents, Forgets, IsWithin, Remembers, edited_texts, first_group, group_texts}
use Rattle.rls_session.proofs.Renames.{idents_back, names_stay}
use Rattle.rls_session.proofs.GroupTexts.{back_after, back_before, backs_length, EndsAt, cut_texts, first_of_group, forgotten_ends, forgotten_within, front_within, none_forgotten, left_of_group, of_reverse, run_texts, some_first, texts}
use Rattle.rls_session.proofs.Turned.{AreOf, IsTurned, are_of, group_of, made, ready_still, turned_back}

-- ---- as many texts as pieces

lead_length : (m : Marked) (ps : List Piece) (ts : List (List ℕ)) → LeadBack m ps ts → length ps ≡ length ts
lead_length m [] ts l = ap length (sym l)
lead_length m (Put labels ∷ ps) [] l = absurd l
lead_length m (Cut labels cs left right ∷ ps) [] l = absurd l
lead_length m (Put labels ∷ ps) (t ∷ ts) (front, cs, rest, put, same, back) = ap suc (lead_length _ ps ts back)
lead_length m (Cut labels cs left right ∷ ps) (t ∷ ts) (front, rest, cut, same, back) = ap suc (lead_length _ ps ts back)

pieces_length : (xs : List Step) → length (pieces_of xs) ≡ length (reverse xs)
pieces_length xs = length-map (reverse xs) (λ (x : Step). x.piece)

-- of the steps that can be taken back, and of those that can be done again
past_length : (s : Seen) (r : Recorded) (c : Copies) → Shows (steps_over s r) c → length c.before ≡ length (reverse r.past)
past_length s r c x = sym (lead_length _ (pieces_of r.past) c.before (x.back).back) ∙ pieces_length r.past

future_length : (s : Seen) (r : Recorded) (c : Copies) → Shows (steps_over s r) c → length c.after ≡ length (reverse r.future)
future_length s r c x = sym (lead_length _ (pieces_of r.future) c.after (x.forth).back) ∙ pieces_length r.future

-- what is named at the greatest epoch are identifiers
idents_there : (s : Seen) (r : Recorded) (c : Copies) → r.epoch ≡ greatest_over s → Shows (steps_over s r) c → AreIdents r.names
idents_there s r c e x = idents_back r.names (subst (λ (ns : Names). (y : List Tuple) → IsIn y (map (λ n. n.0) (reverse ns)) → IsIdent y) (names_there s r.epoch r.names e) (x.labelled).idents)

-- ---- both ways

-- the texts with both sides exchanged
abbrev pub flipped : Copies → Copies
flipped c = record { now = c.now; before = c.after; after = c.before }

pub flips : (s : Seen) (r : Recorded) (g : Copies) → Remembers s r g → Remembers s (exchanged r) (flipped g)
flips s r g m = record {
  copies = flipped m.copies;
  shows = let x = m.shows in record { labelled = x.labelled; text = x.text; back = x.forth; forth = x.back };
  now = m.now;
  before = m.after;
  after = m.before;
  idents = m.idents;
  apart = λ n a b. m.apart n b a;
}

-- ---- a group that is taken back

pub back_remembers : (s : Seen) (r : Recorded) (g : Copies) (k : ℕ) → IsSane s → IsWhole r → Remembers s r g → group_size r.past ≡ suc k → (back_on over s r).fault ≡ None → let t = back_on over s r in Remembers t.state t.recorded (copied_back g g.before)
back_remembers s r g k sane w m e f = subst (Remembers t.state t.recorded) (ap (copied_back g) there) (record {
  copies = out;
  shows = shows;
  now = refl;
  before = ap (λ (ys : List Step). group_texts ys out.before) (i.past ∙ ap (λ n. drop n xs) e);
  after = ap (λ (ys : List Step). group_texts ys out.after) future_is
      ∙ (back_after a k i.more zs c.now c.before c.after i.of_group other more_length (omega (arith, few, past)) ∙ (ap (λ (u : List ℕ). u ∷ group_texts zs c.after) m.now ∙ ap (λ (us : List (List ℕ)). g.now ∷ us) m.after));
  idents = idents_there t.state t.recorded out i.epoch shows;
  apart = λ n p q. two n p (sym q ∙ (ap first_group future_is ∙ first_more i.more i.of_group more_length));
})
  where
    t : Turned Seen
    t = back_on over s r

    i : IsTurned s r t
    i = turned_back s r sane w f

    c : Copies
    c = m.copies

    xs : List Step
    xs = reverse r.past

    zs : List Step
    zs = reverse r.future

    a : ℕ
    a = group_of xs

    out : Copies
    out = copies (texts c.now c.before c.after) (replicate (suc k) Back)

    shows : Shows (steps_over t.state t.recorded) out
    shows =
        subst (λ n. Shows (steps_over t.state t.recorded) (copies c (replicate n Back))) e
        (subst (λ (st : Steps). Shows st (copies c (replicate (group_size r.past) Back))) (sym i.course_is) (as_copied (steps_over s r) c (replicate (group_size r.past) Back) m.shows i.may))

    sized : (ys : List Step) → in_front (group_of ys) ys ≡ front_size ys
    sized [] = refl
    sized (y ∷ ys) = refl

    front : in_front a xs ≡ suc k
    front = sized xs ∙ e

    few : suc k ≤ length xs
    few = let l = front_within a xs in omega (arith, l, front)

    past : length c.before ≡ length xs
    past = past_length s r c m.shows

    there : out.now ∷ group_texts (drop (suc k) xs) out.before ≡ g.before
    there = sym (back_before a k xs c.now c.before c.after past front) ∙ m.before

    future_is : reverse (t.recorded).future ≡ reverse i.more ++ zs
    future_is = ap reverse i.future ∙ reverse-append r.future i.more

    more_length : length i.more ≡ suc k
    more_length =
        let one = future_length t.state t.recorded out shows in
        let two = backs_length (suc k) c.now c.before c.after (omega (arith, few, past)) in
        let three = future_length s r c m.shows in
        let all : length (reverse (t.recorded).future) ≡ length (reverse i.more) + length zs = ap length future_is ∙ length-append (reverse i.more) zs in
        omega (arith, one, two, three, all, length-reverse i.more)

    other : first_group zs ≡ Some a → ⊥
    other q = m.apart a (some_first a k xs front) q

    first_more : (ws : List Step) → AreOf a ws → length ws ≡ suc k → first_group (reverse ws ++ zs) ≡ Some a
    first_more [] b l = absurd (omega (arith, l))
    first_more (y ∷ ys) b l = ap first_group (ap (λ (us : List Step). us ++ zs) (reverse-append (y ∷ []) ys) ∙ append_assoc (reverse ys) (y ∷ []) zs) ∙ first_of_group a ys (y ∷ zs) b.1 (ap Some b.0)

    two : (n : ℕ) → first_group (reverse (t.recorded).past) ≡ Some n → Some n ≡ Some a → ⊥
    two n p q = left_of_group a xs (ap (λ j. first_group (drop j xs)) (front ∙ sym e) ∙ (ap first_group (sym i.past) ∙ (p ∙ q)))

-- and done again
flipped_back : (g : Copies) (ts : List (List ℕ)) → flipped (copied_back (flipped g) ts) ≡ copied_again g ts
flipped_back g [] = refl
flipped_back g (t ∷ ts) = refl

pub again_remembers : (s : Seen) (r : Recorded) (g : Copies) (k : ℕ) → IsSane s → IsWhole r → Remembers s r g → group_size r.future ≡ suc k → (again_on over s r).fault ≡ None → let t = again_on over s r in Remembers t.state t.recorded (copied_again g g.after)
again_remembers s r g k sane w m e f =
    let t = back_on over s (exchanged r) in
    subst (Remembers t.state (exchanged t.recorded)) (flipped_back g g.after) (flips t.state t.recorded (copied_back (flipped g) g.after) (back_remembers s (exchanged r) (flipped g) k sane (w.1, w.0) (flips s r g m) e f))

-- ---- what has begun, and what is forgotten

both_none : (ns : Names) (b : Bool) → (if b then ns else ns) ≡ ns
both_none ns true = refl
both_none ns false = refl

names_none : (s : Seen) (e : EpochName) → names_over s e [] ≡ []
names_none s e = both_none [] (name_eq e (greatest_over s))

begun_names : (s : Seen) (e : EpochName) (ns : Names) → names_over s (epoch_or ns (greatest_over s) e) ns ≡ names_over s e ns
begun_names s e [] = names_none s (greatest_over s) ∙ sym (names_none s e)
begun_names s e (n ∷ ns) = refl

-- what is recorded there, with these names
abbrev steps_at : Seen → Recorded → Names → Steps
steps_at s r ns = record { held = held_by s r.next ns; past = pieces_of r.past; future = pieces_of r.future }

pub begun_remembers : (s : Seen) (r : Recorded) (g : Copies) → Remembers s r g → Remembers s (begun_on over s r) g
begun_remembers s r g m = record {
  copies = m.copies;
  shows = subst (λ (st : Steps). Shows st m.copies) (sym (ap (steps_at s r) (begun_names s r.epoch r.names))) m.shows;
  now = m.now;
  before = m.before;
  after = m.after;
  idents = m.idents;
  apart = m.apart;
}

take_whole : {A : Type 0} (xs : List A) (n : ℕ) → n ≡ length xs → take n xs ≡ xs
take_whole {A} xs n e = ap (λ k. take k xs) e ∙ all xs
  where
    all : (ys : List A) → take (length ys) ys ≡ ys
    all [] = refl
    all (y ∷ ys) = ap (λ zs. y ∷ zs) (all ys)

pub newest_all : (g : Copies) → with_newest (length g.before) g ≡ g
newest_all g = ap (λ (ts : List (List ℕ)). texts g.now ts g.after) (take_whole g.before (length g.before) refl)

-- what isn't forgotten, of which the last comes first
left_back : (k : ℕ) (xs : List Step) → reverse (drop k xs) ≡ take (length (drop k xs)) (reverse xs)
left_back k xs =
    let both : reverse xs ≡ reverse (drop k xs) ++ reverse (take k xs) = ap reverse (sym (take-append-drop k xs)) ∙ reverse-append (take k xs) (drop k xs) in
    sym (ap (take (length (drop k xs))) both ∙ take_at (reverse (drop k xs)) (reverse (take k xs)) (length (drop k xs)) (length-reverse (drop k xs)))

take_group : (n : ℕ) (xs : List Step) (g : ℕ) → first_group (take n xs) ≡ Some g → first_group xs ≡ Some g
take_group zero xs g e = cc
take_group (suc n) [] g e = e
take_group (suc n) (x ∷ xs) g e = e

-- without the oldest groups. If none goes, no text does
less_remembers : (s : Seen) (r : Recorded) (g : Copies) (k : ℕ) → k ≤ length r.past → EndsAt (length (drop k r.past)) (reverse r.past) → Remembers s r g → (j : ℕ) × Remembers s (without_first k r) (with_newest j g) × (k ≡ 0 → with_newest j g ≡ g)
less_remembers s r g k few ends m =
    let c = m.copies in
    let xs = reverse r.past in
    let size : length (drop k r.past) ≡ length r.past - k = length-drop k r.past in
    let fewer = texts c.now (take (length r.past - k) c.before) c.after in
    let cut = cut_texts (length (drop k r.past)) xs c.before ends in (
      cut.0,
      record {
        copies = fewer;
        shows = forgetting_shows s r c k few m.shows;
        now = m.now;
        before = ap (λ (ys : List Step). group_texts ys fewer.before) (left_back k r.past)
            ∙ (ap (λ j. group_texts (take (length (drop k r.past)) xs) (take j c.before)) (sym size) ∙ (cut.1 ∙ ap (take cut.0) m.before));
        after = m.after;
        idents = m.idents;
        apart = λ j p q. m.apart j (take_group (length (drop k r.past)) xs j (ap first_group (sym (left_back k r.past)) ∙ p)) q;
      },
      λ e.
          let whole : length (drop k r.past) ≡ length xs = ap (λ i. length (drop i r.past)) e ∙ sym (length-reverse r.past) in
          let all = past_length s r c m.shows in
          let same : take cut.0 g.before ≡ g.before =
          ap (take cut.0) (sym m.before)
          ∙ (sym cut.1
          ∙ (ap (λ (ys : List Step). group_texts ys (take (length (drop k r.past)) c.before)) (take_whole xs (length (drop k r.past)) whole)
          ∙ (ap (group_texts xs) (take_whole c.before (length (drop k r.past)) (whole ∙ sym all)) ∙ m.before))) in
          ap (λ (ts : List (List ℕ)). texts g.now ts g.after) same,
    )

-- all of them
none_ends : (xs ys : List Step) → EndsAt (length (drop (length xs) xs)) ys
none_ends xs ys = subst (λ (zs : List Step). EndsAt (length zs) ys) (sym (drop_all (length xs) xs (omega arith))) tt

-- where a group is overfull all go, and else whole groups
leaving_ends : (steps chars : ℕ) (r : Recorded) → let k = leaving steps chars r in (k ≤ length r.past) × EndsAt (length (drop k r.past)) (reverse r.past)
leaving_ends steps chars r = go r.overfull
  where
    go : (b : Bool) → let k = if b then length r.past else forgotten steps chars r.past in (k ≤ length r.past) × EndsAt (length (drop k r.past)) (reverse r.past)
    go true = (omega arith, none_ends r.past (reverse r.past))
    go false = (forgotten_within steps chars r.past, forgotten_ends steps chars r.past)

swept_remembers : (s : Seen) (r : Recorded) (g : Copies) → r.epoch ≡ greatest_over s → AreApart (reverse r.names) → Remembers s r g → Remembers s (swept (idents_over s) r) g
swept_remembers s r g e once m =
    let shows = sweeping_shows s r m.copies e once m.shows in
    record { copies = m.copies; shows = shows; now = m.now; before = m.before; after = m.after; idents = idents_there s (swept (idents_over s) r) m.copies e shows; apart = m.apart }

settled_here : (s : Seen) (r : Recorded) (g : Copies) → Remembers s r g → Remembers s (settled s r) g
settled_here s r g m =
    let shows = subst (λ (st : Steps). Shows st m.copies) (sym (steps_settled s r)) m.shows in
    record { copies = m.copies; shows = shows; now = m.now; before = m.before; after = m.after; idents = idents_there s (settled s r) m.copies refl shows; apart = m.apart }

-- none goes of what is within bounds
leaving_none : (r : Recorded) → IsWithin r → leaving KEPT_STEPS KEPT_CHARACTERS r ≡ 0
leaving_none r w = ap (λ b. if b then length r.past else forgotten KEPT_STEPS KEPT_CHARACTERS r.past) w.2 ∙ none_forgotten KEPT_STEPS KEPT_CHARACTERS r.past w.0 w.1

pub kept_remembers : (s : Seen) (r : Recorded) (g : Copies) → AreApart ((steps_over s r).held).names → Remembers s r g → (e : Copies) × Forgets r g e × Remembers s (kept_within s KEPT_STEPS KEPT_CHARACTERS r) e
kept_remembers s r g once m = go (nat_le (length r.names / 2) r.after_sweep)
  where
    w : Recorded
    w = settled s r

    light : Recorded
    light = lightened KEPT_STEPS KEPT_CHARACTERS w

    k : ℕ
    k = leaving KEPT_STEPS KEPT_CHARACTERS w

    ends : (k ≤ length r.past) × EndsAt (length (drop k r.past)) (reverse r.past)
    ends = leaving_ends KEPT_STEPS KEPT_CHARACTERS w

    less : (j : ℕ) × Remembers s (without_first k w) (with_newest j g) × (k ≡ 0 → with_newest j g ≡ g)
    less = less_remembers s w g k ends.0 ends.1 (settled_here s r g m)

    lighter : Remembers s light (with_newest less.0 g)
    lighter = let l = less.1 in record { copies = l.copies; shows = l.shows; now = l.now; before = l.before; after = l.after; idents = l.idents; apart = l.apart }

    closed_too : (b : Bool) → r.overfull ≡ b → (e : Copies) × Forgets r g e × Remembers s (if b then without_first (length r.past) r else r) e
    closed_too true q =
        let l = less_remembers s r g (length r.past) (omega arith) (none_ends r.past (reverse r.past)) m in
        (with_newest l.0 g, (l.0, refl, λ i. let never : true ≡ false = sym q ∙ i.2 in absurd (cc)), l.1)
    closed_too false q = (with_newest (length g.before) g, (length g.before, refl, λ i. newest_all g), subst (Remembers s r) (sym (newest_all g)) m)

    go : (b : Bool) → (e : Copies) × Forgets r g e × Remembers s (if b then without_overfull r else swept (idents_over s) light) e
    go true = closed_too r.overfull refl
    go false = (with_newest less.0 g, (less.0, refl, λ i. less.2 (leaving_none w i)), swept_remembers s light (with_newest less.0 g) refl once lighter)

-- ---- edits

-- names at the greatest epoch, the newest first
names_now : (s n : Seen) (ns : Names) → n.epochs ≡ s.epochs → reverse (names_over n (greatest_over s) (reverse ns)) ≡ ns
names_now s n ns e = ap reverse (names_there n (greatest_over s) (reverse ns) (sym (ap (λ (E : Epochs). greatest E.top E.nodes) e))) ∙ reverse-reverse ns

abbrev labelled_at : Seen → ℕ → Names → Labelled
labelled_at s next ns = record { seen = s; next = next; names = ns }

insert_steps : (s : Seen) (r : Recorded) (at : ℕ) (cs : List ℕ) → steps_over (edited s (edits.Insert at cs)) (recorded_on over s (edits.Insert at cs) r) ≡ moved (steps_over s r) (Insertion at cs)
insert_steps s r at cs =
    let n = edited s (edits.Insert at cs) in
    let k = insert_over (steps_over s r).held at cs in
    let put = Put (numbers_from r.next (length cs)) in
    let x : Step = record { group = r.group; piece = put } in
    ap (λ (ns : Names). made (labelled_at n k.next ns) (pieces_of (r.past ++ x ∷ [])) []) (names_now s n k.names (insert_epochs s at cs))
    ∙ ap (λ (ps : List Piece). made k ps []) (pieces_more r.past (x ∷ []))

delete_steps : (s : Seen) (r : Recorded) (at count : ℕ) → steps_over (edited s (edits.Delete at count)) (recorded_on over s (edits.Delete at count) r) ≡ deleted (steps_over s r) at count
delete_steps s r at count =
    let n = edited s (edits.Delete at count) in
    let h = (steps_over s r).held in
    let g = ready_over h at count in
    let ps = parts (cut_piece g at count) in
    let seen : n ≡ edited g.seen (edits.Delete at count) = ap (λ (m : Seen). edited m (edits.Delete at count)) (sym (ready_still h at count)) in
    ap (λ (z : Held Seen). made (labelled_at n z.next (reverse (names_over n (greatest_over s) (reverse z.names)))) (pieces_of (r.past ++ steps_of r.group (parts (piece_on over z at count)))) []) (on_ready h at count)
    ∙ (ap (λ (ns : Names). made (labelled_at n g.next ns) (pieces_of (r.past ++ steps_of r.group (parts (piece_on over (on g) at count)))) []) (names_now s n g.names (delete_epochs s at count))
    ∙ (ap (λ (p : Piece). made (labelled_at n g.next g.names) (pieces_of (r.past ++ steps_of r.group (parts p))) []) (on_piece g at count)
    ∙ (ap (λ (qs : List Piece). made (labelled_at n g.next g.names) qs []) (pieces_more r.past (steps_of r.group ps) ∙ ap (λ (qs : List Piece). qs ++ pieces_of r.past) (pieces_back r.group ps))
    ∙ ap (λ (m : Seen). made (labelled_at m g.next g.names) (ps ++ pieces_of r.past) []) seen)))

either : (b : Bool) (ts us : List (List ℕ)) (t u : List ℕ) → ts ≡ us → t ≡ u → (if b then ts else t ∷ ts) ≡ (if b then us else u ∷ us)
either true ts us t u e f = e
either false ts us t u e f = ap (λ x. x ∷ ts) f ∙ ap (λ xs. u ∷ xs) e

pub insert_remembers : (s : Seen) (r : Recorded) (g : Copies) (at : ℕ) (cs : List ℕ) → Remembers s r g → IsEdit (edits.Insert at cs) → edit_fault_over s (edits.Insert at cs) ≡ None →
    Remembers (edited s (edits.Insert at cs)) (recorded_on over s (edits.Insert at cs) r) (edited_texts r g (edits.Insert at cs))
insert_remembers s r g at cs m i f =
    let c = m.copies in
    let x : Step = record { group = r.group; piece = Put (numbers_from r.next (length cs)) } in
    let shows = subst (λ (st : Steps). Shows st (copied c (Insertion at cs))) (sym (insert_steps s r at cs)) (move_shows (steps_over s r) c (Insertion at cs) m.shows (i, f)) in
    record {
      copies = copied c (Insertion at cs);
      shows = shows;
      now = ap (edited_text (edits.Insert at cs)) m.now;
      before = ap (λ (ys : List Step). group_texts ys (c.now ∷ c.before)) (reverse-append r.past (x ∷ [])) ∙ either (goes_on (first_group (reverse r.past)) r.group) _ _ c.now g.now m.before m.now;
      after = refl;
      idents = idents_there (edited s (edits.Insert at cs)) (recorded_on over s (edits.Insert at cs) r) (copied c (Insertion at cs)) (sym (ap (λ (E : Epochs). greatest E.top E.nodes) (insert_epochs s at cs))) shows;
      apart = λ n p q. cc;
    }

pub delete_remembers : (s : Seen) (r : Recorded) (g : Copies) (at count : ℕ) → Remembers s r g → IsEdit (edits.Delete at count) → edit_fault_over s (edits.Delete at count) ≡ None →
    Remembers (edited s (edits.Delete at count)) (recorded_on over s (edits.Delete at count) r) (edited_texts r g (edits.Delete at count))
delete_remembers s r g at count m i f =
    let c = m.copies in
    let h = (steps_over s r).held in
    let d = deletion_shows (steps_over s r) c at count m.shows (i, f) in
    let ps = parts (cut_piece (ready_over h at count) at count) in
    let zs = steps_of r.group ps in
    let out = without c at count d.0 in
    let past : (recorded_on over s (edits.Delete at count) r).past ≡ r.past ++ zs =
    ap (λ (z : Held Seen). r.past ++ steps_of r.group (parts (piece_on over z at count))) (on_ready h at count) ∙ ap (λ (p : Piece). r.past ++ steps_of r.group (parts p)) (on_piece (ready_over h at count) at count) in
    let long : length (reverse zs) ≡ suc (length d.0) = length-reverse zs ∙ (length-map (reverse ps) (λ (p : Piece). record { group = r.group; piece = p }) ∙ (length-reverse ps ∙ sym d.1)) in
    let shows = subst (λ (st : Steps). Shows st out) (sym (delete_steps s r at count)) d.2 in
    record {
      copies = out;
      shows = shows;
      now = ap (edited_text (edits.Delete at count)) m.now;
      before = ap (λ (ys : List Step). group_texts (reverse ys) out.before) past
          ∙ (ap (λ (ys : List Step). group_texts ys out.before) (reverse-append r.past zs)
          ∙ (run_texts r.group (reverse zs) (reverse r.past) d.0 c.now c.before (of_reverse r.group zs (are_of r.group (reverse ps))) long
          ∙ either (goes_on (first_group (reverse r.past)) r.group) _ _ c.now g.now m.before m.now));
      after = refl;
      idents = idents_there (edited s (edits.Delete at count)) (recorded_on over s (edits.Delete at count) r) out (sym (ap (λ (E : Epochs). greatest E.top E.nodes) (delete_epochs s at count))) shows;
      apart = λ n p q. cc;
    }

-- ---- renames, and what doesn't touch the text

renamed : (s : Seen) → IsSane s → edit_fault_over s edits.Rename ≡ None → IsRenamed s (edited s edits.Rename)
unfolding made_over
renamed s sane f = applied_renames s (made_over s edits.Rename) (idents_over s) sane (made_may s edits.Rename sane tt f) (made_range s edits.Rename sane) refl

pub rename_remembers : (s : Seen) (r : Recorded) (g : Copies) → IsSane s → edit_fault_over s edits.Rename ≡ None → IsTrue (keeps s r.epoch) → Remembers s r g → Remembers (edited s edits.Rename) r g
rename_remembers s r g sane f kept m =
    let n = edited s edits.Rename in
    let there = renaming_shows s n (settled s r) m.copies refl (subst (λ (st : Steps). Shows st m.copies) (sym (steps_settled s r)) m.shows) (renamed s sane f) in
    record {
      copies = m.copies;
      shows = subst (λ (ns : Names). Shows (record { held = held_by n r.next ns; past = pieces_of r.past; future = pieces_of r.future }) m.copies) (names_stay s sane f r.epoch r.names kept m.idents) there;
      now = m.now;
      before = m.before;
      after = m.after;
      idents = m.idents;
      apart = m.apart;
    }

-- where the names stay what they are
pub same_remembers : (s n : Seen) (r : Recorded) (g : Copies) → IsSane n → n.text ≡ s.text → names_over n r.epoch r.names ≡ names_over s r.epoch r.names → Remembers s r g → Remembers n r g
same_remembers s n r g sane text same m = record { copies = m.copies; shows = shows; now = m.now; before = m.before; after = m.after; idents = m.idents; apart = m.apart }
  where
    c : Copies
    c = m.copies

    ns : Names
    ns = names_over s r.epoch r.names

    x : Shows (steps_over s r) c
    x = m.shows

    here : Shows (record { held = held_by n r.next ns; past = pieces_of r.past; future = pieces_of r.future }) c
    here = record {
      labelled = record {
        sane = sane;
        given = (x.labelled).given;
        idents = (x.labelled).idents;
        distinct = subst (λ (es : Entries). AreDistinct (marks (marked_by (reverse ns) es))) (sym text) (x.labelled).distinct;
      };
      text = ap chars_in text ∙ x.text;
      back = record { given = (x.back).given; back = subst (λ (es : Entries). LeadBack (marked_by (reverse ns) es) (pieces_of r.past) c.before) (sym text) (x.back).back };
      forth = record { given = (x.forth).given; back = subst (λ (es : Entries). LeadBack (marked_by (reverse ns) es) (pieces_of r.future) c.after) (sym text) (x.forth).back };
    }

    shows : Shows (steps_over n r) c
    shows = subst (λ (names : Names). Shows (record { held = held_by n r.next names; past = pieces_of r.past; future = pieces_of r.future }) c) (sym same) here

-- as with the same epochs, and at the greatest epoch
pub same_names : (s n : Seen) (e : EpochName) (ns : Names) → n.epochs ≡ s.epochs → names_over n e ns ≡ names_over s e ns
same_names s n e ns epochs = ap names_at epochs
  where
    names_at : Epochs → Names
    names_at E = if name_eq e (greatest E.top E.nodes) then ns else map (λ x. (translate E.nodes e (greatest E.top E.nodes) x.0, x.1)) ns

pub settled_remembers : (s n : Seen) (r : Recorded) (g : Copies) → IsSane n → n.text ≡ s.text → greatest_over n ≡ greatest_over s → Remembers s r g → Remembers n (settled s r) g
settled_remembers s n r g sane text top m =
    let ns = names_over s r.epoch r.names in
    let here = settled_here s r g m in
    same_remembers s n (settled s r) g sane text (names_there n (greatest_over s) ns (sym top) ∙ sym (names_there s (greatest_over s) ns refl)) here

-- at first
pub first_remembers : (s : Seen) → IsSane s → Remembers s unused (record { now = text_over s; before = []; after = [] })
first_remembers s sane = record {
  copies = texts (text_over s) [] [];
  shows = subst (λ (names : Names). Shows (record { held = held_by s 0 names; past = []; future = [] }) (texts (text_over s) [] [])) (sym (names_none s Origin))
      (record {
        labelled = record { sane = sane; given = tt; idents = λ y p. absurd p; distinct = rises_distinct s.text (rises_of_increasing s.text sane.idents.1) };
        text = refl;
        back = record { given = tt; back = refl };
        forth = record { given = tt; back = refl };
      });
  now = refl;
  before = refl;
  after = refl;
  idents = tt;
  apart = λ n p q. cc;
}
