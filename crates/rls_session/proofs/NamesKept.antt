-- What is recorded over a history stays so that each name is of one character: after an edit, a group that is taken back, and a sweep.
use Rattle.std.proofs.Common.{◌≡◌, ◌∙◌, ◌+◌, ◌-◌, ◌/◌, ℕ, zero, suc, Bool, true, false, List, [], ◌∷◌, ◌++◌, map, take, drop, length, Option, Some, None, inl, inr, refl, sym, ap, subst}
use Rattle.std.specs.Prelude.{IsTrue, nat_le, reverse, zip, if◌then◌else◌}
use Rattle.std.proofs.lemmas.List.{reverse-append, reverse-reverse}
use Rattle.rls_ident.specs.declared.tuple.Tuple.{Tuple}
use Rattle.rls_ident.specs.declared.epoch_name.EpochName.{EpochName}
use Rattle.rls_ident.specs.declared.epoch_name.EpochName.TheVariants.{Origin}
use Rattle.rls_ident.specs.EpochNames.{name_eq}
use Rattle.rls_ident.specs.Lists.{IsIn}
use Rattle.rls_ident.proofs.Members.{in_drop, in_take}
use Rattle.rls_ident.proofs.Named.{name_eq_is}
use Rattle.rls_rename.specs.Tree.{is_kept}
use Rattle.rls_runs.specs.Runs.{run_idents}
use Rattle.rls_ops.specs.declared.op.Body.TheVariants as bodies
use Rattle.rls_model.specs.declared.edit.Edit.{Edit}
use Rattle.rls_model.specs.declared.edit.Edit.TheVariants as edits
use Rattle.rls_model.specs.declared.edit.EditError.{EditError}
use Rattle.rls_model.specs.Document.{idents}
use Rattle.rls_model.specs.Editing.{edit_fault, made}
use Rattle.rls_model.specs.Epochs.{epochs, greatest, translate}
use Rattle.rls_model.specs.History.{History}
use Rattle.rls_model.specs.Laws.{AreEdits, IsFront, edited}
use Rattle.rls_model.specs.Legal.{IsLegal}
use Rattle.rls_model.specs.Receiving.{State, accept}
use Rattle.rls_model.specs.WellFormed.{IsEdit}
use Rattle.rls_model.proofs.HistoryNumbers.{front_self}
use Rattle.rls_model.proofs.Made as making
use Rattle.rls_model.proofs.Named.{IsOfChar}
use Rattle.rls_model.proofs.SameOps.{top_kept}
use Rattle.rls_undo.specs.Undoing.{unless}
use Rattle.rls_steps.specs.declared.piece.Piece.{Piece}
use Rattle.rls_steps.specs.declared.piece.Piece.TheVariants.{Cut, Put}
use Rattle.rls_steps.specs.declared.piece.Step.{Step}
use Rattle.rls_steps.specs.Courses.{or_empty}
use Rattle.rls_steps.specs.Forgetting.{lightened, without_first, without_overfull}
use Rattle.rls_seen.specs.Seen.{Seen}
use Rattle.rls_seen.specs.Stands.{StandsFor}
use Rattle.rls_replica.specs.Names.{keeps}
use Rattle.rls_steps.proofs.Agreeing.{held_to}
use Rattle.rls_steps.proofs.Swept.{filter_back}
use Rattle.rls_steps.specs.Index.{AreApart}
use Rattle.rls_steps.specs.Grounds.{Held, begun_on, epoch_or, Left, back_edits, back_on, cut_edits, cut_on, cuts_on, held_on, kept_on, labelled_on, labels_on, names_on, piece_on, place_on, put_on, ranges_on, ready_on, recorded_on, settled_on, steps_edits, steps_on, taken_edits, taken_on, within}
use Rattle.rls_steps.specs.Groups.{group_size}
use Rattle.rls_steps.specs.Labelled.{Names, inserted_by, label_of}
use Rattle.rls_steps.specs.Marks.{numbers_from}
use Rattle.rls_steps.specs.Recorded.{Recorded, steps_of, steps_over, unused}
use Rattle.rls_steps.specs.Sweeping.{is_kept as is_name_kept, step_labels, swept}
use Rattle.rls_session.specs.Remembering.{AreNamed, NamesCharacters}
use Rattle.rls_session.proofs.NamesOnce.{front_chars, front_kept, label_named, less_named, moved_named, put_named, text_char}

abbrev pub H : State → History
H t = t.history

-- names at the greatest epoch
pub record NamedAt (h : Held State) : Type 0 where
  pub legal : IsLegal (H h.state)
  pub named : AreNamed (H h.state) (greatest (H h.state)) h.names

-- and after more has happened, which opens no epoch
pub record NamedOn (h z : Held State) : Type 0 where
  pub at : NamedAt z
  pub top : greatest (H z.state) ≡ greatest (H h.state)

on_self : (h : Held State) → NamedAt h → NamedOn h h
on_self h n = record { at = n; top = refl }

on_trans : (h k z : Held State) → NamedOn h k → NamedOn k z → NamedOn h z
on_trans h k z a b = record { at = b.at; top = b.top ∙ a.top }

-- ---- labels

record Readied (h z : Held State) : Type 0 where
  at : NamedAt z
  state : z.state ≡ h.state

labels_named : (xs : List (List Tuple)) (h : Held State) → ((x : List Tuple) → IsIn x xs → IsOfChar (H h.state) (greatest (H h.state)) x) → NamedAt h → Readied h (labels_on h xs)
labels_named [] h f n = record { at = n; state = refl }
labels_named (x ∷ xs) h f n = go (label_of h.names x) refl (λ k g m. labels_named xs k g m)
  where
    go : (o : Option ℕ) → label_of h.names x ≡ o → ((k : Held State) → ((y : List Tuple) → IsIn y xs → IsOfChar (H k.state) (greatest (H k.state)) y) → NamedAt k → Readied k (labels_on k xs)) → Readied h (labels_on (labelled_on o h x) xs)
    go (Some l) e rest = rest h (λ y p. f y (inr p)) n
    go None e rest =
        let k : Held State = labelled_on None h x in
        let r = rest k (λ y p. f y (inr p)) (record { legal = n.legal; named = label_named (H h.state) (greatest (H h.state)) h.names x h.next (f x (inl refl)) e n.named }) in
        record { at = r.at; state = r.state }

ready_named : (h : Held State) (at n : ℕ) → NamedAt h → Readied h (ready_on within h at n)
ready_named h at n k = labels_named (take (n + 2) (drop (at - 1) (idents (H h.state)))) h (λ x p. text_char (H h.state) x k.legal (in_drop (at - 1) x (idents (H h.state)) (in_take (n + 2) x (drop (at - 1) (idents (H h.state))) p))) k

-- ---- edits

top_insert : (G : History) (at : ℕ) (cs : List ℕ) → greatest (edited G (edits.Insert at cs)) ≡ greatest G
unfolding made greatest
top_insert G at cs = refl

top_delete : (G : History) (at n : ℕ) → greatest (edited G (edits.Delete at n)) ≡ greatest G
unfolding made greatest
top_delete G at n = refl

insert_body : (G : History) (at : ℕ) (cs : List ℕ) → (first : List Tuple) × ((made G (edits.Insert at cs)).body ≡ bodies.Insert first cs)
unfolding made
insert_body G at cs = (_, refl)

insert_epoch : (G : History) (at : ℕ) (cs : List ℕ) → (made G (edits.Insert at cs)).epoch ≡ greatest G
unfolding made
insert_epoch G at cs = refl

cut_named : (h : Held State) (at n : ℕ) → IsEdit (edits.Delete at n) → edit_fault (H h.state) (edits.Delete at n) ≡ None → NamedAt h → NamedOn h (cut_on within h at n)
cut_named h at n i f k =
    let G = H h.state in
    let edit = edits.Delete at n in
    let l = making.law G edit k.legal i f in
    let grown = front_chars G (edited G edit) (greatest G) h.names (inr (front_self G)) l (top_kept G) (k.named).chars in
    record {
      at = record { legal = l; named = subst (λ g. AreNamed (edited G edit) g h.names) (sym (top_delete G at n)) (record { chars = grown; apart = (k.named).apart }) };
      top = top_delete G at n;
    }

put_on_named : (h : Held State) (at : ℕ) (labels cs : List ℕ) → IsEdit (edits.Insert at cs) → edit_fault (H h.state) (edits.Insert at cs) ≡ None → NamedAt h → NamedOn h (put_on within h at labels cs)
put_on_named h at labels cs i f k =
    let G = H h.state in
    let edit = edits.Insert at cs in
    let l = making.law G edit k.legal i f in
    let b = insert_body G at cs in
    let named = put_named G (made G edit) b.0 cs labels (greatest G) h.names l b.1 (insert_epoch G at cs) (top_kept G) k.named in
    let same : inserted_by (made G edit).body ≡ run_idents b.0 (length cs) = ap inserted_by b.1 in
    record {
      at = record { legal = l; named = subst (λ g. AreNamed (edited G edit) g (put_on within h at labels cs).names) (sym (top_insert G at cs)) (subst (λ xs. AreNamed (edited G edit) (greatest G) (zip xs labels ++ h.names)) (sym same) named) };
      top = top_insert G at cs;
    }

-- ---- pieces, steps, groups

cuts_first : (h : Held State) (at n : ℕ) → IsEdit (edits.Delete at n) → edit_fault (H h.state) (edits.Delete at n) ≡ None → NamedAt h → NamedOn h (cut_on within (ready_on within h at n) at n)
cuts_first h at n i f k =
    let r = ready_named h at n k in
    let g = ready_on within h at n in
    let c = cut_named g at n i (ap (λ (t : State). edit_fault (H t) (edits.Delete at n)) r.state ∙ f) r.at in
    record { at = c.at; top = c.top ∙ ap (λ (t : State). greatest (H t)) r.state }

cuts_named : (rs : List (ℕ × ℕ)) (h : Held State) (qs : List Piece) → AreEdits (cut_edits within h rs) → NamedAt h → NamedOn h (cuts_on within h rs qs).held
cuts_named [] h qs e k = on_self h k
cuts_named (r ∷ rs) h qs e k =
    let g = ready_on within h r.0 r.1 in
    go (edit_fault (H h.state) (edits.Delete r.0 r.1)) refl e (λ x n. cuts_named rs (cut_on within g r.0 r.1) (piece_on within g r.0 r.1 ∷ qs) x n)
  where
    z : Held State
    z = cut_on within (ready_on within h r.0 r.1) r.0 r.1

    ps : List Piece
    ps = piece_on within (ready_on within h r.0 r.1) r.0 r.1 ∷ qs

    go : (f : Option EditError) → edit_fault (H h.state) (edits.Delete r.0 r.1) ≡ f → AreEdits (unless f [] (edits.Delete r.0 r.1 ∷ cut_edits within z rs)) → (AreEdits (cut_edits within z rs) → NamedAt z → NamedOn z (cuts_on within z rs ps).held)
        → NamedOn h (unless f (record { held = h; other = qs; fault = f }) (cuts_on within z rs ps)).held
    go (Some x) q e rest = on_self h k
    go None q e rest = let first = cuts_first h r.0 r.1 e.0 q k in on_trans h z _ first (rest e.1 first.at)

taken_named : (h : Held State) (p : Piece) → AreEdits (taken_edits within h p) → NamedAt h → NamedOn h (taken_on within h p).held
taken_named h (Put labels) e k = cuts_named (ranges_on within h labels) h (or_empty (ranges_on within h labels) []) e k
taken_named h (Cut labels cs left right) e k = go (edit_fault (H h.state) (edits.Insert at cs)) refl e
  where
    at : ℕ
    at = place_on within h left right

    go : (f : Option EditError) → edit_fault (H h.state) (edits.Insert at cs) ≡ f → AreEdits (unless f [] (edits.Insert at cs ∷ []))
        → NamedOn h (unless {A = Left State} f (record { held = h; other = []; fault = f }) (record { held = put_on within h at labels cs; other = Put labels ∷ []; fault = None })).held
    go (Some x) q e = on_self h k
    go None q e = put_on_named h at labels cs e.0 q k

edits_both : (es fs : List Edit) → AreEdits (es ++ fs) → AreEdits es × AreEdits fs
edits_both [] fs a = (tt, a)
edits_both (e ∷ es) fs a = let r = edits_both es fs a.1 in ((a.0, r.0), r.1)

steps_named : (k : ℕ) (h : Held State) (xs to : List Step) → AreEdits (steps_edits within k h xs) → NamedAt h → NamedOn h (steps_on within k h xs to).held
steps_named zero h xs to e n = on_self h n
steps_named (suc k) h [] to e n = on_self h n
steps_named (suc k) h (x ∷ xs) to e n =
    let t = taken_on within h x.piece in
    let both = edits_both (taken_edits within h x.piece) (unless t.fault [] (steps_edits within k t.held xs)) e in
    let first = taken_named h x.piece both.0 n in
    on_trans h t.held _ first (go t.fault both.1 first.at (λ y. steps_named k t.held xs (to ++ steps_of x.group t.other) y first.at))
  where
    s : Left State
    s = taken_on within h x.piece

    go : (f : Option EditError) → AreEdits (unless f [] (steps_edits within k s.held xs)) → NamedAt s.held → (AreEdits (steps_edits within k s.held xs) → NamedOn s.held (steps_on within k s.held xs (to ++ steps_of x.group s.other)).held)
        → NamedOn s.held (unless f (record { held = s.held; from = x ∷ xs; to = to ++ steps_of x.group s.other; fault = f }) (steps_on within k s.held xs (to ++ steps_of x.group s.other))).held
    go None e n rest = rest e
    go (Some y) e n rest = on_self s.held n

-- ---- what is recorded, in its own epoch
map_back : {A B : Type 0} (f : A → B) (xs : List A) → map f (reverse xs) ≡ reverse (map f xs)
map_back f [] = refl
map_back {A} f (x ∷ xs) = ap (map f) (reverse-append (x ∷ []) xs) ∙ (go (reverse xs) ∙ (ap (λ ys. ys ++ f x ∷ []) (map_back f xs) ∙ sym (reverse-append (f x ∷ []) (map f xs))))
  where
    go : (ys : List A) → map f (ys ++ x ∷ []) ≡ map f ys ++ f x ∷ []
    go [] = refl
    go (y ∷ ys) = ap (λ zs. f y ∷ zs) (go ys)

names_named : (t : State) (e : EpochName) (ns : Names) → IsLegal (H t) → AreNamed (H t) e (reverse ns) → AreNamed (H t) (greatest (H t)) (reverse (names_on within t e ns))
names_named t e ns l n = go (name_eq e (greatest (H t))) refl
  where
    F : Names → Names
    F ms = map (λ m. (translate (H t) e (greatest (H t)) m.0, m.1)) ms

    go : (b : Bool) → name_eq e (greatest (H t)) ≡ b → AreNamed (H t) (greatest (H t)) (reverse (if b then ns else F ns))
    go true q = subst (λ g. AreNamed (H t) g (reverse ns)) (name_eq_is e (greatest (H t)) q) n
    go false q = subst (AreNamed (H t) (greatest (H t))) (map_back (λ m. (translate (H t) e (greatest (H t)) m.0, m.1)) ns) (moved_named (H t) e (greatest (H t)) (reverse ns) l (top_kept (H t)) n)

pub held_named : (t : State) (r : Recorded) → IsLegal (H t) → NamesCharacters t r → NamedAt (held_on within t r)
held_named t r l n = record { legal = l; named = names_named t r.epoch r.names l n.named }

-- what is named after that is recorded in the epoch that was the greatest before
finished : (h z : Held State) → NamedOn h z → (is_kept Origin (epochs (H z.state)) (greatest (H h.state)) ≡ true) × AreNamed (H z.state) (greatest (H h.state)) (reverse (reverse z.names))
finished h z n = (
  subst (λ g. is_kept Origin (epochs (H z.state)) g ≡ true) n.top (top_kept (H z.state)),
  subst (λ g. AreNamed (H z.state) g (reverse (reverse z.names))) n.top (subst (AreNamed (H z.state) (greatest (H z.state))) (sym (reverse-reverse z.names)) (n.at).named),
)

pub insert_recorded : (t : State) (r : Recorded) (at : ℕ) (cs : List ℕ) → IsLegal (H t) → IsEdit (edits.Insert at cs) → edit_fault (H t) (edits.Insert at cs) ≡ None → NamesCharacters t r →
    NamesCharacters (accept t (made (H t) (edits.Insert at cs))) (recorded_on within t (edits.Insert at cs) r)
insert_recorded t r at cs l i f k =
    let h : Held State = record { state = t; next = length cs + r.next; names = (held_on within t r).names } in
    let labels = numbers_from r.next (length cs) in
    let e = finished h (put_on within h at labels cs) (put_on_named h at labels cs i f (record { legal = l; named = names_named t r.epoch r.names l k.named })) in
    record { kept = e.0; named = e.1 }

pub delete_recorded : (t : State) (r : Recorded) (at n : ℕ) → IsLegal (H t) → IsEdit (edits.Delete at n) → edit_fault (H t) (edits.Delete at n) ≡ None → NamesCharacters t r →
    NamesCharacters (accept t (made (H t) (edits.Delete at n))) (recorded_on within t (edits.Delete at n) r)
delete_recorded t r at n l i f k =
    let h = held_on within t r in
    let g = ready_on within h at n in
    let start = held_named t r l k in
    let e = finished h (cut_on within g at n) (cuts_first h at n i f start) in
    let same : g.state ≡ t = (ready_named h at n start).state in
    let after : State → State = λ u. accept u (made (H u) (edits.Delete at n)) in
    record {
      kept = subst (λ (u : State). is_kept Origin (epochs (H (after u))) (greatest (H t)) ≡ true) same e.0;
      named = subst (λ (u : State). AreNamed (H (after u)) (greatest (H t)) (reverse (reverse g.names))) same e.1;
    }

pub back_recorded : (t : State) (r : Recorded) → IsLegal (H t) → AreEdits (back_edits within t r) → NamesCharacters t r → IsLegal (H (back_on within t r).state) × NamesCharacters (back_on within t r).state (back_on within t r).recorded
back_recorded t r l e k =
    let h = held_on within t r in
    let z = (steps_on within (group_size r.past) h (reverse r.past) r.future).held in
    let n = steps_named (group_size r.past) h (reverse r.past) r.future e (held_named t r l k) in
    let q = finished h z n in
    ((n.at).legal, record { kept = q.0; named = q.1 })

pub kept_recorded : (t : State) (steps chars : ℕ) (r : Recorded) → IsLegal (H t) → NamesCharacters t r → NamesCharacters t (kept_on within t steps chars r)
kept_recorded t steps chars r l k = go (nat_le (length r.names / 2) r.after_sweep)
  where
    w : Recorded
    w = lightened steps chars (settled_on within t r)

    labels : List ℕ
    labels = step_labels w.past ++ step_labels w.future

    test : List Tuple × ℕ → Bool
    test = is_name_kept (idents (H t)) labels (reverse w.names)

    less : (b : Bool) → NamesCharacters t (if b then without_first (length r.past) r else r)
    less true = record { kept = k.kept; named = k.named }
    less false = k

    go : (b : Bool) → NamesCharacters t (if b then without_overfull r else swept (idents (H t)) w)
    go true = less r.overfull
    go false = record {
      kept = top_kept (H t);
      named = subst (AreNamed (H t) (greatest (H t))) (sym (filter_back test w.names)) (less_named test (H t) (greatest (H t)) (reverse w.names) (names_named t r.epoch r.names l k.named));
    }

pub begun_recorded : (t : State) (r : Recorded) → NamesCharacters t r → NamesCharacters t (begun_on within t r)
begun_recorded t r k = go r.names refl
  where
    go : (ns : Names) → r.names ≡ ns → NamesCharacters t (begun_on within t r)
    go [] e = record {
      kept = subst (λ (ms : Names). is_kept Origin (epochs (H t)) (epoch_or ms (greatest (H t)) r.epoch) ≡ true) (sym e) (top_kept (H t));
      named = subst (λ (ms : Names). AreNamed (H t) (epoch_or ms (greatest (H t)) r.epoch) (reverse ms)) (sym e) (record { chars = tt; apart = tt });
    }
    go (n ∷ ns) e = record {
      kept = subst (λ (ms : Names). is_kept Origin (epochs (H t)) (epoch_or ms (greatest (H t)) r.epoch) ≡ true) (sym e) k.kept;
      named = subst (λ (ms : Names). AreNamed (H t) (epoch_or ms (greatest (H t)) r.epoch) (reverse ms)) (sym e) (subst (λ (ms : Names). AreNamed (H t) r.epoch (reverse ms)) e k.named);
    }

pub later_recorded : (t u : State) (r : Recorded) → IsFront (H t) (H u) → IsLegal (H u) → NamesCharacters t r → NamesCharacters u r
later_recorded t u r f l k = record {
  kept = front_kept (H t) (H u) r.epoch f k.kept;
  named = record { chars = front_chars (H t) (H u) r.epoch (reverse r.names) f l k.kept (k.named).chars; apart = (k.named).apart };
}

-- ---- over a replica

pub once_over : (s : Seen) (t : State) (r : Recorded) → StandsFor s t → IsTrue (keeps s r.epoch) → NamesCharacters t r → AreApart ((steps_over s r).held).names
once_over s t r stands kept k = subst AreApart (ap (λ (h : Held State). h.names) (held_to s t r stands kept)) ((held_named t r stands.legal k).named).apart

-- taken to the greatest epoch
pub settled_recorded : (t : State) (r : Recorded) → IsLegal (H t) → NamesCharacters t r → NamesCharacters t (settled_on within t r)
settled_recorded t r l k = record { kept = top_kept (H t); named = names_named t r.epoch r.names l k.named }

-- where nothing is recorded
pub none_recorded : (t : State) → NamesCharacters t unused
none_recorded t = record { kept = refl; named = record { chars = tt; apart = tt } }
