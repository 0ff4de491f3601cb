-- What steps change that are taken back leads from the text before to the text after.
use Rattle.std.proofs.Common.{◌≡◌, ◌∙◌, ℕ, zero, suc, ◌+◌, ◌-◌, ◌<◌, List, [], ◌∷◌, ◌++◌, map, length, take, drop, append_assoc, length-append, length-drop, refl, sym, ap, subst, arith}
use Rattle.std.specs.Prelude.{replicate, slice_get, Option, Some}
use Rattle.std.proofs.lemmas.List.{append-nil, append_cancel_left, length-map, length-take-le, map-append, take-append-drop}
use Rattle.rls_model.specs.declared.edit.Edit.TheVariants as edits
use Rattle.rls_seen.specs.Edits.{edited}
use Rattle.rls_seen.specs.Sane.{IsSane}
use Rattle.rls_seen.specs.Seen.{Seen, idents_over, text_over}
use Rattle.rls_seen.proofs.EditedText.{delete_place}
use Rattle.rls_seen.proofs.Making.{edited_sane}
use Rattle.rls_replica.proofs.EditLaws.{text-edited}
use Rattle.rls_changes.specs.declared.change.Change.{Change}
use Rattle.rls_changes.specs.declared.change.Change.TheVariants.{Insert, Delete}
use Rattle.rls_changes.specs.Changes.{played, inserted_by, deleted_by}
use Rattle.rls_changes.proofs.Joining.{played_append}
use Rattle.rls_steps.specs.declared.piece.Step.{Step}
use Rattle.rls_steps.specs.Marks.{Piece, Put, Cut}
use Rattle.rls_steps.specs.Labelled.{Labelled, ready_over, cut_over, cut_piece}
use Rattle.rls_steps.specs.Courses.{Steps, Back, Fits, FitRanges, course, cut_ranges, moved, or_empty, place_over, ranges_over}
use Rattle.rls_steps.specs.Recorded.{pieces_of}
use Rattle.rls_steps.specs.StepChanges.{range_change, piece_changes, first_changes, back_changes, AreTold, PieceChanges}
use Rattle.rls_steps.proofs.Own.{label_seen}
use Rattle.rls_steps.proofs.Stacks.{pieces_more}
use Rattle.rls_steps.proofs.Tabling.{take_snoc}

-- ---- ranges

-- a range that is cut out
cut_seen : (h : Labelled) (at n : ℕ) → (cut_over (ready_over h at n) at n).seen ≡ edited h.seen (edits.Delete at n)
cut_seen h at n = ap (λ (s : Seen). edited s (edits.Delete at n)) (label_seen h (take (n + 2) (drop (at - 1) (idents_over h.seen))))

cut_text : (h : Labelled) (at n : ℕ) → IsSane h.seen → Fits h.seen (edits.Delete at n) → text_over (cut_over (ready_over h at n) at n).seen ≡ take at (text_over h.seen) ++ drop (at + n) (text_over h.seen)
cut_text h at n sane f = ap (λ (s : Seen). text_over s) (cut_seen h at n) ∙ text-edited h.seen (edits.Delete at n) sane f.0 f.1

cut_sane : (h : Labelled) (at n : ℕ) → IsSane h.seen → Fits h.seen (edits.Delete at n) → IsSane (cut_over (ready_over h at n) at n).seen
cut_sane h at n sane f = subst IsSane (sym (cut_seen h at n)) (edited_sane h.seen (edits.Delete at n) sane f.0 f.1)

ranges_play : (h : Labelled) (rs : List (ℕ × ℕ)) (qs : List Piece) → IsSane h.seen → FitRanges h rs → played (map range_change rs) (text_over h.seen) ≡ text_over (cut_ranges h rs qs).held.seen
ranges_play h [] qs sane f = refl
ranges_play h (r ∷ rs) qs sane f =
    let g = ready_over h r.0 r.1 in
    ap (played (map range_change rs)) (sym (cut_text h r.0 r.1 sane f.0)) ∙ ranges_play (cut_over g r.0 r.1) rs (cut_piece g r.0 r.1 ∷ qs) (cut_sane h r.0 r.1 sane f.0) f.1

ranges_insert : (rs : List (ℕ × ℕ)) → inserted_by (map range_change rs) ≡ []
ranges_insert [] = refl
ranges_insert (r ∷ rs) = ranges_insert rs

cut_size : (h : Labelled) (at n : ℕ) → IsSane h.seen → Fits h.seen (edits.Delete at n) → n + length (text_over (cut_over (ready_over h at n) at n).seen) ≡ length (text_over h.seen)
cut_size h at n sane f =
    let t = text_over h.seen in
    let e = ap length (cut_text h at n sane f) in
    let place = (delete_place h.seen at n f.1).0 in
    let i = length-map h.seen.text (λ y. y.0) in
    let j = length-map h.seen.text (λ y. y.1) in
    let l = length-append (take at t) (drop (at + n) t) in
    let front : length (take at t) ≡ at = length-take-le at t (omega arith) in
    let back = length-drop (at + n) t in
    omega arith

ranges_gone : (h : Labelled) (rs : List (ℕ × ℕ)) (qs : List Piece) → IsSane h.seen → FitRanges h rs → deleted_by (map range_change rs) + length (text_over (cut_ranges h rs qs).held.seen) ≡ length (text_over h.seen)
ranges_gone h [] qs sane f = omega arith
ranges_gone h (r ∷ rs) qs sane f =
    let g = ready_over h r.0 r.1 in
    let ih = ranges_gone (cut_over g r.0 r.1) rs (cut_piece g r.0 r.1 ∷ qs) (cut_sane h r.0 r.1 sane f.0) f.1 in
    let one = cut_size h r.0 r.1 sane f.0 in
    omega arith

put_labels : Piece → List ℕ → List ℕ
put_labels (Put labels) other = labels
put_labels (Cut labels cs left right) other = other

pub piece_changed : PieceChanges
unfolding put_labels
piece_changed h (Put labels) sane f = record {
  plays = let rs = ranges_over h labels in ranges_play h rs (or_empty rs []) sane f;
  put = λ ls e. let rs = ranges_over h labels in (ranges_insert rs, ranges_gone h rs (or_empty rs []) sane f);
}
piece_changed h (Cut labels cs left right) sane f = record {
  plays = sym (text-edited h.seen (edits.Insert (place_over h left right) cs) sane f.0 f.1);
  put = λ ls e. absurd (cc);
}

-- ---- one more range

pub record IsNextRange (rs : List (ℕ × ℕ)) (i : ℕ) (cs ds : List Change) (before after : List ℕ) : Type 0 where
  pub told : ds ≡ cs ++ map range_change (take i rs)
  pub leads : played (map range_change (take i rs)) before ≡ after

pub next_range : (s n : Seen) (rs : List (ℕ × ℕ)) (i : ℕ) (r : ℕ × ℕ) (cs ds es : List Change) (before : List ℕ) → slice_get rs i ≡ Some r → IsSane s → Fits s (edits.Delete r.0 r.1) → n ≡ edited s (edits.Delete r.0 r.1)
    → IsNextRange rs i cs ds before (text_over s) → es ≡ ds ++ Delete r.0 r.1 ∷ [] → IsNextRange rs (i + 1) cs es before (text_over n)
next_range s n rs i r cs ds es before g sane f q v e =
    let one : suc i ≡ i + 1 = omega arith in
    let more : take i rs ++ r ∷ [] ≡ take (i + 1) rs = sym (take_snoc rs i r g) ∙ ap (λ k. take k rs) one in
    let all : map range_change (take (i + 1) rs) ≡ map range_change (take i rs) ++ Delete r.0 r.1 ∷ [] = ap (map range_change) (sym more) ∙ map-append range_change (take i rs) (r ∷ []) in
    let text : text_over n ≡ take r.0 (text_over s) ++ drop (r.0 + r.1) (text_over s) = ap (λ (u : Seen). text_over u) q ∙ text-edited s (edits.Delete r.0 r.1) sane f.0 f.1 in
    record {
      told = e ∙ (ap (λ zs. zs ++ Delete r.0 r.1 ∷ []) v.told ∙ (append_assoc cs (map range_change (take i rs)) (Delete r.0 r.1 ∷ []) ∙ ap (λ zs. cs ++ zs) (sym all)));
      leads =
          ap (λ zs. played zs before) all
          ∙ (played_append (map range_change (take i rs)) (Delete r.0 r.1 ∷ []) before ∙ (ap (played (Delete r.0 r.1 ∷ [])) v.leads ∙ sym text));
    }

pub no_range : (s : Seen) (rs : List (ℕ × ℕ)) (cs : List Change) → IsNextRange rs 0 cs cs (text_over s) (text_over s)
no_range s rs cs = record { told = sym (append-nil cs); leads = refl }

-- those so far are the first ones
pub ranges_told : (rs : List (ℕ × ℕ)) (i : ℕ) (cs ds es : List Change) (before mid after : List ℕ) → IsNextRange rs i cs ds before mid → es ≡ ds → after ≡ mid → AreTold (map range_change rs) cs es before after
ranges_told rs i cs ds es before mid after v e f = record {
  fresh = map range_change (take i rs);
  rest = map range_change (drop i rs);
  are = ap (map range_change) (sym (take-append-drop i rs)) ∙ map-append range_change (take i rs) (drop i rs);
  added = e ∙ v.told;
  leads = v.leads ∙ sym f;
}

-- ---- a text that is back

-- it came in at its place
pub put_told : (h : Labelled) (n : Seen) (at : ℕ) (text cs : List ℕ) (left right : Option ℕ) (old new : List Change) → at ≡ place_over h left right → cs ≡ text → IsSane h.seen → Fits h.seen (edits.Insert at cs)
    → n ≡ edited h.seen (edits.Insert at cs) → new ≡ old ++ Insert at cs ∷ []
    → (new ≡ old ++ Insert (place_over h left right) text ∷ []) × AreTold (Insert (place_over h left right) text ∷ []) old new (text_over h.seen) (text_over n)
put_told h n at text cs left right old new p q sane f e a =
    let same : Insert at cs ∷ [] ≡ Insert (place_over h left right) text ∷ [] = ap (λ i. Insert i cs ∷ []) p ∙ ap (λ (ds : List ℕ). Insert (place_over h left right) ds ∷ []) q in
    let is : new ≡ old ++ Insert (place_over h left right) text ∷ [] = a ∙ ap (λ zs. old ++ zs) same in
    let plays : played (Insert at cs ∷ []) (text_over h.seen) ≡ text_over n = sym (ap (λ (u : Seen). text_over u) e ∙ text-edited h.seen (edits.Insert at cs) sane f.0 f.1) in (
      is,
      record { fresh = Insert (place_over h left right) text ∷ []; rest = []; are = refl; added = is; leads = ap (λ zs. played zs (text_over h.seen)) (sym same) ∙ plays },
    )

-- nothing came
pub none_told : (all old new : List Change) (s n : Seen) → new ≡ old → n ≡ s → AreTold all old new (text_over s) (text_over n)
none_told all old new s n e f = record { fresh = []; rest = all; are = refl; added = e ∙ sym (append-nil old); leads = ap (λ (u : Seen). text_over u) (sym f) }

-- ---- several pieces

pub first_piece : (h : Labelled) (from front : List Step) (x : Step) → from ≡ front ++ x ∷ [] → first_changes h (pieces_of from) ≡ piece_changes h x.piece
first_piece h from front x e = ap (first_changes h) (ap pieces_of e ∙ pieces_more front (x ∷ []))

back_split : (k j m : ℕ) (st : Steps) → m ≡ k + j → back_changes m st ≡ back_changes k st ++ back_changes j (course st (replicate k Back))
back_split zero j m st e = let f : m ≡ j = omega arith in ap (λ n. back_changes n st) f
back_split (suc k) j zero st e = absurd (omega (arith, e))
back_split (suc k) j (suc m) st e =
    let f : m ≡ k + j = omega arith in
    ap (λ zs. first_changes st.held st.past ++ zs) (back_split k j m (moved st Back) f)
    ∙ sym (append_assoc (first_changes st.held st.past) (back_changes k (moved st Back)) (back_changes j (course (moved st Back) (replicate k Back))))

-- what was added is all of it
whole_leads : (all cs ds : List Change) (before after : List ℕ) → AreTold all cs ds before after → ds ≡ cs ++ all → played all before ≡ after
whole_leads all cs ds before after t e =
    let same : t.fresh ≡ all = append_cancel_left cs t.fresh all (sym t.added ∙ e) in
    ap (λ zs. played zs before) (sym same) ∙ t.leads

pub record IsNextBack (st : Steps) (k : ℕ) (cs ds : List Change) (before after : List ℕ) : Type 0 where
  pub told : ds ≡ cs ++ back_changes k st
  pub leads : played (back_changes k st) before ≡ after

pub no_back : (st : Steps) (cs : List Change) (text : List ℕ) → IsNextBack st 0 cs cs text text
no_back st cs text = record { told = sym (append-nil cs); leads = refl }

-- one more piece
pub next_back : (st now : Steps) (k : ℕ) (cs ds es : List Change) (before mid after : List ℕ) → now ≡ course st (replicate k Back) → IsNextBack st k cs ds before mid
    → es ≡ ds ++ first_changes now.held now.past → AreTold (first_changes now.held now.past) ds es mid after → IsNextBack st (k + 1) cs es before after
next_back st now k cs ds es before mid after n v e t =
    let first = first_changes now.held now.past in
    let same : back_changes 1 (course st (replicate k Back)) ≡ first = ap (back_changes 1) (sym n) ∙ append-nil first in
    let all : back_changes (k + 1) st ≡ back_changes k st ++ first = back_split k 1 (k + 1) st refl ∙ ap (λ zs. back_changes k st ++ zs) same in
    record {
      told = e ∙ (ap (λ zs. zs ++ first) v.told ∙ (append_assoc cs (back_changes k st) first ∙ ap (λ zs. cs ++ zs) (sym all)));
      leads = ap (λ zs. played zs before) all ∙ (played_append (back_changes k st) first before ∙ (ap (played first) v.leads ∙ whole_leads first ds es mid after t e));
    }

-- all of them
pub all_back : (st : Steps) (k size : ℕ) (cs ds : List Change) (before after : List ℕ) → k ≡ size → IsNextBack st k cs ds before after → (ds ≡ cs ++ back_changes size st) × AreTold (back_changes size st) cs ds before after
all_back st k size cs ds before after e v =
    let is : ds ≡ cs ++ back_changes size st = v.told ∙ ap (λ n. cs ++ back_changes n st) e in (
      is,
      record { fresh = back_changes size st; rest = []; are = sym (append-nil (back_changes size st)); added = is; leads = ap (λ n. played (back_changes n st) before) (sym e) ∙ v.leads },
    )

-- up to some part of the next piece
pub part_back : (st now : Steps) (k size : ℕ) (cs ds es : List Change) (before mid after : List ℕ) → k < size → now ≡ course st (replicate k Back) → IsNextBack st k cs ds before mid
    → AreTold (first_changes now.held now.past) ds es mid after → AreTold (back_changes size st) cs es before after
part_back st now k size cs ds es before mid after l n v t =
    let there = course st (replicate k Back) in
    let first = first_changes now.held now.past in
    let later = back_changes (size - (k + 1)) (moved there Back) in
    let one : suc (size - (k + 1)) ≡ size - k = omega (arith, l) in
    let rest : back_changes (size - k) there ≡ first ++ later =
    ap (λ j. back_changes j there) (sym one) ∙ ap (λ (x : Steps). first_changes x.held x.past ++ later) (sym n) in
    let all : back_changes size st ≡ back_changes k st ++ (first ++ later) = back_split k (size - k) size st (omega (arith, l)) ∙ ap (λ zs. back_changes k st ++ zs) rest in
    record {
      fresh = back_changes k st ++ t.fresh;
      rest = t.rest ++ later;
      are = all
          ∙ (ap (λ zs. back_changes k st ++ (zs ++ later)) t.are
          ∙ (ap (λ zs. back_changes k st ++ zs) (append_assoc t.fresh t.rest later) ∙ sym (append_assoc (back_changes k st) t.fresh (t.rest ++ later))));
      added = t.added ∙ (ap (λ zs. zs ++ t.fresh) v.told ∙ append_assoc cs (back_changes k st) t.fresh);
      leads = played_append (back_changes k st) t.fresh before ∙ (ap (played t.fresh) v.leads ∙ t.leads);
    }
