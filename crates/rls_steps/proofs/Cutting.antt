-- Ranges that are cut out, one after another.
use Rattle.std.proofs.Common.{◌≡◌, ℕ, zero, suc, ◌+◌, List, [], ◌∷◌, ◌++◌, length, take, drop, refl, sym, ap, ◌∙◌, subst, append_assoc, arith}
use Rattle.std.specs.Prelude.{slice_get, Option, Some, None}
use Rattle.std.proofs.lemmas.List.{take-append-drop}
use Rattle.rls_ident.proofs.Loops.{drop_reads}
use Rattle.rls_model.specs.declared.edit.Edit.{Edit}
use Rattle.rls_model.specs.declared.edit.Edit.TheVariants as edits
use Rattle.rls_model.specs.WellFormed.{IsEdit}
use Rattle.rls_model.specs.declared.edit.EditError.{EditError}
use Rattle.rls_model.specs.declared.edit.EditError.TheVariants as faults
use Rattle.rls_model.specs.Editing.{or_fault}
use Rattle.rls_seen.specs.Edits.{edit_fault_over, IsFault}
use Rattle.rls_steps.specs.declared.piece.Step.{Step}
use Rattle.rls_steps.specs.Marks.{Piece, Put, Cut}
use Rattle.rls_steps.specs.Labelled.{Labelled, ready_over, cut_over, cut_piece, put_over}
use Rattle.rls_steps.specs.Courses.{Taken, cut_ranges, or_empty, place_over, ranges_over, taken_back, Fits, FitRanges, FitsBack}
use Rattle.rls_steps.specs.Recorded.{steps_of}
use Rattle.rls_steps.specs.Returning.{first_fault, ranges_fault, back_fault, IsPartCut}
use Rattle.rls_steps.proofs.Stacks.{cut_same, cut_more, fit_more, steps_more}
use Rattle.rls_steps.proofs.Tabling.{take_snoc}

-- ---- one more range

pub record IsNextCut (h : Labelled) (rs : List (ℕ × ℕ)) (i : ℕ) (group : ℕ) (base new : List Step) (k : Labelled) : Type 0 where
  pub fit : FitRanges h (take (i + 1) rs)
  pub held : k ≡ (cut_ranges h (take (i + 1) rs) []).held
  pub stack : new ≡ base ++ steps_of group (cut_ranges h (take (i + 1) rs) []).other

pub next_cut : (h g k : Labelled) (rs : List (ℕ × ℕ)) (i group : ℕ) (r : ℕ × ℕ) (base old new : List Step) → slice_get rs i ≡ Some r → FitRanges h (take i rs) → g ≡ (cut_ranges h (take i rs) []).held →
    old ≡ base ++ steps_of group (cut_ranges h (take i rs) []).other → Fits g.seen (edits.Delete r.0 r.1) → k ≡ cut_over (ready_over g r.0 r.1) r.0 r.1 →
    new ≡ old ++ record { group = group; piece = cut_piece (ready_over g r.0 r.1) r.0 r.1 } ∷ [] → IsNextCut h rs i group base new k
next_cut h g k rs i group r base old new e f q o w a b =
    let front = take i rs in
    let t = cut_ranges h front [] in
    let one : suc i ≡ i + 1 = omega arith in
    let more : front ++ r ∷ [] ≡ take (i + 1) rs = sym (take_snoc rs i r e) ∙ ap (λ n. take n rs) one in
    let cut = cut_more h front r [] in
    let all : cut_ranges h (take (i + 1) rs) [] ≡ record { held = cut_over (ready_over t.held r.0 r.1) r.0 r.1; other = cut_piece (ready_over t.held r.0 r.1) r.0 r.1 ∷ t.other } =
    ap (λ ss. cut_ranges h ss []) (sym more) ∙ cut in
    let p = cut_piece (ready_over t.held r.0 r.1) r.0 r.1 in
    let step : Piece → Step = λ x. record { group = group; piece = x } in
    record {
      fit = subst (λ ss. FitRanges h ss) more (fit_more h front r [] f (subst (λ (x : Labelled). Fits x.seen (edits.Delete r.0 r.1)) q w));
      held = a ∙ (ap (λ (x : Labelled). cut_over (ready_over x r.0 r.1) r.0 r.1) q ∙ sym (ap (λ (x : Taken). x.held) all));
      stack = b
          ∙ (ap (λ (x : Labelled). old ++ step (cut_piece (ready_over x r.0 r.1) r.0 r.1) ∷ []) q
          ∙ (ap (λ xs. xs ++ step p ∷ []) o
          ∙ (append_assoc base (steps_of group t.other) (step p ∷ [])
          ∙ (ap (λ xs. base ++ xs) (sym (steps_more group p t.other)) ∙ sym (ap (λ (x : Taken). base ++ steps_of group x.other) all)))));
    }

-- ---- a refusal

or_is : (e : EditError) (a b : Option EditError) → IsFault e a → IsFault e (or_fault a b)
or_is faults.OutOfMemory a b f = tt
or_is faults.Left a b f = ap (λ o. or_fault o b) f
or_is faults.EmptyEdit a b f = ap (λ o. or_fault o b) f
or_is (faults.Range at total) a b f = ap (λ o. or_fault o b) f
or_is faults.EmptyDocument a b f = ap (λ o. or_fault o b) f
or_is (faults.TooManyChars total) a b f = ap (λ o. or_fault o b) f
or_is faults.NumbersSpent a b f = ap (λ o. or_fault o b) f
or_is (faults.OpTooLarge bytes) a b f = ap (λ o. or_fault o b) f

pub fault_at : (h : Labelled) (rs : List (ℕ × ℕ)) (i : ℕ) (r : ℕ × ℕ) (e : EditError) → slice_get rs i ≡ Some r → FitRanges h (take i rs) →
    IsFault e (edit_fault_over (cut_ranges h (take i rs) []).held.seen (edits.Delete r.0 r.1)) → IsFault e (ranges_fault h rs)
fault_at h [] i r e g f k = absurd (cc)
fault_at h (x ∷ xs) zero r e g f k =
    let same : x ≡ r = cc in
    let n = cut_over (ready_over h x.0 x.1) x.0 x.1 in
    or_is e (edit_fault_over h.seen (edits.Delete x.0 x.1)) (ranges_fault n xs) (subst (λ (y : ℕ × ℕ). IsFault e (edit_fault_over h.seen (edits.Delete y.0 y.1))) (sym same) k)
fault_at h (x ∷ xs) (suc i) r e g f k =
    let j = ready_over h x.0 x.1 in
    let n = cut_over j x.0 x.1 in
    let same : (cut_ranges n (take i xs) (cut_piece j x.0 x.1 ∷ [])).held ≡ (cut_ranges n (take i xs) []).held = cut_same n (take i xs) (cut_piece j x.0 x.1 ∷ []) [] in
    let ih = fault_at n xs i r e g f.1 (subst (λ (y : Labelled). IsFault e (edit_fault_over y.seen (edits.Delete r.0 r.1))) same k) in
    subst (λ o. IsFault e (or_fault o (ranges_fault n xs))) (sym f.0.1) ih

pub part_cut : (h g : Labelled) (rs : List (ℕ × ℕ)) (i group : ℕ) (r : ℕ × ℕ) (e : EditError) (base other : List Step) → slice_get rs i ≡ Some r → FitRanges h (take i rs) → g ≡ (cut_ranges h (take i rs) []).held →
    IsFault e (edit_fault_over g.seen (edits.Delete r.0 r.1)) → other ≡ base ++ steps_of group (cut_ranges h (take i rs) []).other → IsPartCut e h rs g group base other
part_cut h g rs i group r e base other a f q m o = record {
  front = take i rs;
  rest = drop i rs;
  are = sym (take-append-drop i rs);
  fit = f;
  held = q;
  met = subst (λ (ss : List (ℕ × ℕ)). IsFault e (first_fault g ss)) (sym (drop_reads rs i r a)) m;
  others = o;
}

-- ---- what was put in is out

pub record IsOut (h : Labelled) (labels : List ℕ) (group : ℕ) (base new : List Step) (k : Labelled) : Type 0 where
  pub fits : FitsBack h (Put labels)
  pub held : k ≡ (taken_back h (Put labels) []).held
  pub stack : new ≡ base ++ steps_of group (taken_back h (Put labels) []).other

-- by its ranges
abbrev AreOut : Labelled → Labelled → ℕ → List Step → List Step → List (ℕ × ℕ) → Type 0
AreOut h k group base new rs = let t = cut_ranges h rs (or_empty rs []) in FitRanges h rs × (k ≡ t.held) × (new ≡ base ++ steps_of group t.other)

are_out : (h k : Labelled) (labels : List ℕ) (rs : List (ℕ × ℕ)) (group : ℕ) (base new : List Step) → rs ≡ ranges_over h labels → AreOut h k group base new rs → IsOut h labels group base new k
are_out h k labels rs group base new e a = let b = subst (AreOut h k group base new) e a in record { fits = b.0; held = b.1; stack = b.2 }

-- all were cut out
pub some_out : (h k : Labelled) (labels : List ℕ) (rs : List (ℕ × ℕ)) (group : ℕ) (base new : List Step) → rs ≡ ranges_over h labels → (length rs ≡ 0 → ⊥) → FitRanges h rs → k ≡ (cut_ranges h rs []).held →
    new ≡ base ++ steps_of group (cut_ranges h rs []).other → IsOut h labels group base new k
some_out h k labels [] group base new e some f q o = absurd (some refl)
some_out h k labels (r ∷ rs) group base new e some f q o = are_out h k labels (r ∷ rs) group base new e (f, q, o)

-- there was none
pub no_ranges : (h : Labelled) (labels : List ℕ) (rs : List (ℕ × ℕ)) → rs ≡ ranges_over h labels → length rs ≡ 0 → [] ≡ ranges_over h labels
no_ranges h labels [] e none = e
no_ranges h labels (r ∷ rs) e none = absurd (omega (arith, none))

pub none_out : (h : Labelled) (labels : List ℕ) (rs : List (ℕ × ℕ)) (group : ℕ) (base new : List Step) → rs ≡ ranges_over h labels → length rs ≡ 0 → new ≡ base ++ record { group = group; piece = Put [] } ∷ [] → IsOut h labels group base new h
none_out h labels rs group base new e none o = are_out h h labels [] group base new (no_ranges h labels rs e none) (tt, refl, o)

-- ---- what was cut out is back

pub record IsPutBack (h : Labelled) (labels text : List ℕ) (left right : Option ℕ) (group : ℕ) (base new : List Step) (k : Labelled) : Type 0 where
  pub fits : FitsBack h (Cut labels text left right)
  pub held : k ≡ (taken_back h (Cut labels text left right) []).held
  pub stack : new ≡ base ++ steps_of group (taken_back h (Cut labels text left right) []).other

pub put_done : (h k : Labelled) (at : ℕ) (ls cs labels text : List ℕ) (left right : Option ℕ) (group : ℕ) (base new : List Step) → at ≡ place_over h left right → ls ≡ labels → cs ≡ text → IsEdit (edits.Insert at cs) →
    edit_fault_over h.seen (edits.Insert at cs) ≡ None → k ≡ put_over h at ls cs → new ≡ base ++ record { group = group; piece = Put ls } ∷ [] → IsPutBack h labels text left right group base new k
put_done h k at ls cs labels text left right group base new e f g w none q o =
    let same : edits.Insert at cs ≡ edits.Insert (place_over h left right) text = ap (λ i. edits.Insert i cs) e ∙ ap (λ ds. edits.Insert (place_over h left right) ds) g in
    let step : List ℕ → Step = λ ms. record { group = group; piece = Put ms } in
    record {
      fits = (subst (λ (x : Edit). IsEdit x) same w, subst (λ (x : Edit). edit_fault_over h.seen x ≡ None) same none);
      held = q ∙ (ap (λ i. put_over h i ls cs) e ∙ (ap (λ ms. put_over h (place_over h left right) ms cs) f ∙ ap (λ ds. put_over h (place_over h left right) labels ds) g));
      stack = o ∙ ap (λ ms. base ++ step ms ∷ []) f;
    }

pub put_fault : (h : Labelled) (at : ℕ) (cs labels text : List ℕ) (left right : Option ℕ) (e : EditError) → at ≡ place_over h left right → cs ≡ text → IsFault e (edit_fault_over h.seen (edits.Insert at cs)) →
    IsFault e (back_fault h (Cut labels text left right))
put_fault h at cs labels text left right e p g f =
    let same : edits.Insert at cs ≡ edits.Insert (place_over h left right) text = ap (λ i. edits.Insert i cs) p ∙ ap (λ ds. edits.Insert (place_over h left right) ds) g in
    subst (λ (x : Edit). IsFault e (edit_fault_over h.seen x)) same f
