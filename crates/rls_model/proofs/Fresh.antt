-- What an operation uses was not used before, and a member's stems depend on its own operations alone.
use Rattle.std.proofs.Common.{◌≡◌, ℕ, suc, ◌+◌, ◌≤◌, ◌<◌, Bool, true, false, List, [], ◌∷◌, ◌++◌, length, refl, sym, ap, ◌∙◌, subst, arith, inl, inr, ◌⊎◌, ⊎_elim}
use Rattle.std.specs.Prelude.{if◌then◌else◌, cond, ◌==◌, filter, Option, Some, None, ℤ, pos, ◌+ℤ◌, ◌≤ℤ◌, ◌<ℤ◌, IsTrue}
use Rattle.std.proofs.lemmas.Int.{by_lt_z, ints}
use Rattle.std.proofs.lemmas.List.{append-nil}
use Rattle.std.proofs.lemmas.List.Elements.{filter-append}
use Rattle.rls_ident.specs.declared.tuple.Tuple.{Tuple}
use Rattle.rls_ident.specs.declared.tuple.Tuple.TheVariants.{Low, At, High}
use Rattle.rls_ident.specs.Lists.{IsIn}
use Rattle.rls_ident.specs.Tuples.{replica_of, seq_of, offset_of, is_at}
use Rattle.rls_ident.specs.Identifiers.{last_of, shifted}
use Rattle.rls_ident.proofs.Members.{bool_cases, eq_is, eq_not, not_true}
use Rattle.rls_ident.proofs.Vectors.{index-raise_le}
use Rattle.rls_ident.proofs.Shifted.{raised_replica, raised_seq, raised_offset, last_shifted, raised_at}
use Rattle.rls_ops.specs.declared.op.Op.{Op}
use Rattle.rls_ops.specs.declared.op.Body.{Body}
use Rattle.rls_ops.specs.declared.op.Body.TheVariants.{Insert, Delete, Rename, Leave}
use Rattle.rls_model.specs.declared.parts.Stem.{Stem}
use Rattle.rls_model.specs.Answers.{WrongStem}
use Rattle.rls_model.specs.History.{Accepted, Acknowledged, History, Then, ops, count, count_of}
use Rattle.rls_model.specs.History as history
use Rattle.rls_model.specs.Stems.{is_stem, stem_of, has_used, is_used, with_stem, new_stem, with_extended, extended, may_use, due_offset, stems_after, stems}
use Rattle.rls_model.specs.Document.{Character, chars_of, chars_from}
use Rattle.rls_model.specs.Fitting.{body_refusal}
use Rattle.rls_model.specs.Legal.{MayAccept, IsLegal}
use Rattle.rls_model.specs.Laws.{HasTriple, IsOfRename, IsUsedBy, MayBegin, ops_of, NoneUsed, AllUsed, OwnStems, Fresh}
use Rattle.rls_model.proofs.StemLists.{stem_is, stem_self, found_same, found_other}
use Rattle.rls_model.proofs.Grown.{use_of, AreEarlier, Grown, begun, Put, put_of}
use Rattle.rls_model.proofs.OneTree.{count_next, fits_body}

-- ---- the triples of an insertion's characters

is_at_of : (t : Tuple) → 0 < seq_of t → is_at t ≡ true
is_at_of Low h = absurd (omega arith)
is_at_of (At p r s o) h = refl
is_at_of High h = absurd (omega arith)

-- each stands in the range, and each offset of the range has one
pub in_range : (o : Op) (i : ℕ) (x : List Tuple) (cs : List ℕ) → is_at (last_of x) ≡ true → (c : Character) → IsIn c (chars_from o i x cs) → (a s : ℕ) (j : ℤ) → HasTriple c.ident a s j →
    (replica_of (last_of x) ≡ a) × (seq_of (last_of x) ≡ s) × (offset_of (last_of x) ≤ℤ j) × (j <ℤ (offset_of (last_of x) +ℤ pos (length cs)))
in_range o i x [] h c p a s j t = absurd p
in_range o i x (d ∷ cs) h c (inl e) a s j t =
    let f : x ≡ c.ident = ap (λ (c : Character). c.ident) e in
    let g = ap (λ y. offset_of (last_of y)) f in
    (ap (λ y. replica_of (last_of y)) f ∙ t.0, ap (λ y. seq_of (last_of y)) f ∙ t.1, (let k = t.2 in omega (arith, ints)), (let k = t.2 in omega (arith, ints)))
in_range o i x (d ∷ cs) h c (inr p) a s j t =
    let e = last_shifted (pos 1) x in
    let g = ap offset_of e ∙ raised_offset (pos 1) (last_of x) h in
    let r = in_range o (suc i) (shifted (pos 1) x) cs (ap is_at e ∙ raised_at (pos 1) (last_of x) h) c p a s j t in
    let l = r.2 in
    let m = r.3 in
    (sym (ap replica_of e ∙ raised_replica (pos 1) (last_of x)) ∙ r.0, sym (ap seq_of e ∙ raised_seq (pos 1) (last_of x)) ∙ r.1, omega (arith, ints), omega (arith, ints))

pub has_range : (o : Op) (i : ℕ) (x : List Tuple) (cs : List ℕ) → is_at (last_of x) ≡ true → (j : ℤ) → offset_of (last_of x) ≤ℤ j → j <ℤ (offset_of (last_of x) +ℤ pos (length cs)) →
    (c : Character) × IsIn c (chars_from o i x cs) × HasTriple c.ident (replica_of (last_of x)) (seq_of (last_of x)) j
has_range o i x [] h j l m = absurd (omega (arith, ints))
has_range o i x (d ∷ cs) h j l m =
    let e = last_shifted (pos 1) x in
    let g = ap offset_of e ∙ raised_offset (pos 1) (last_of x) h in
    by_lt_z (offset_of (last_of x)) j
    (λ k. let r = has_range o (suc i) (shifted (pos 1) x) cs (ap is_at e ∙ raised_at (pos 1) (last_of x) h) j (omega (arith, ints)) (omega (arith, ints)) in
    (r.0, inr r.1, (r.2.0 ∙ (ap replica_of e ∙ raised_replica (pos 1) (last_of x)), r.2.1 ∙ (ap seq_of e ∙ raised_seq (pos 1) (last_of x)), r.2.2)))
    (λ k. (record { author = o.author; seq = o.seq; place = i; epoch = o.epoch; ident = x; char = d }, inl refl, (refl, refl, omega (arith, ints))))

-- ---- what an operation changes

-- nothing, or the one stem of its author to which it adds what it uses
pub data Change (ss : List Stem) (o : Op) (b : Body) : Type 0 where
  Same : stems_after ss o.author o.seq b ≡ ss → ((a s : ℕ) (j : ℤ) → (((c : Character) × IsIn c (chars_of o b) × HasTriple c.ident a s j) ⊎ IsOfRename o b a s j) → ⊥) → Change ss o b
  Changed : (w : Stem) (q : ℕ) (k : ℤ) (n : ℕ) → stems_after ss o.author o.seq b ≡ with_stem w ss → 0 < q → q ≤ o.seq → Grown ss o.author q k n w →
      ((a s : ℕ) (j : ℤ) → (((c : Character) × IsIn c (chars_of o b) × HasTriple c.ident a s j) ⊎ IsOfRename o b a s j) → (o.author ≡ a) × (q ≡ s) × (k ≤ℤ j) × (j <ℤ (k +ℤ pos n))) →
      ((j : ℤ) → k ≤ℤ j → j <ℤ (k +ℤ pos n) → ((c : Character) × IsIn c (chars_of o b) × HasTriple c.ident o.author q j) ⊎ IsOfRename o b o.author q j) → Change ss o b

change_insert : (ss : List Stem) (o : Op) (first : List Tuple) (text : List ℕ) → Put ss o.author o.seq (last_of first) (length text) → Change ss o (Insert first text)
change_insert ss o first text p =
    let h = is_at_of (last_of first) p.some in
    Changed p.stem (seq_of (last_of first)) (offset_of (last_of first)) (length text) p.list p.some p.upto p.grown
    (λ a s j u. ⊎_elim (λ v. let r = in_range o 0 first text h v.0 v.1 a s j v.2 in (sym p.replica ∙ r.0, r.1, r.2, r.3)) (λ v. absurd v) u)
    (λ j l m. inl (let r = has_range o 0 first text h j l m in (r.0, r.1, (r.2.0 ∙ p.replica, r.2.1, r.2.2))))

pub change_of : (ss : List Stem) (o : Op) (b : Body) → AreEarlier ss o.author o.seq → 0 < o.seq →
    ((first : List Tuple) (text : List ℕ) → b ≡ Insert first text → IsTrue (may_use ss o.author o.seq (last_of first) (length text))) → Change ss o b
change_of ss o (Insert first text) h z m = change_insert ss o first text (put_of ss o.author o.seq (last_of first) (length text) h z (use_of ss o.author o.seq (last_of first) (length text) (m first text refl)))
change_of ss o (Delete targets) h z m = Same refl (λ a s j u. ⊎_elim (λ v. v.1) (λ v. v) u)
change_of ss o (Rename former) h z m =
    Changed (new_stem o.author o.seq (length former)) o.seq (pos 0) (length former) refl z (omega arith) (begun ss o.author o.seq (length former) h)
    (λ a s j u. ⊎_elim (λ v. absurd v.1) (λ v. (sym v.0, sym v.1, v.2, (let k = v.3 in omega (arith, ints)))) u)
    (λ j l m2. inr (refl, refl, l, omega (arith, ints)))
change_of ss o Leave h z m = Same refl (λ a s j u. ⊎_elim (λ v. v.1) (λ v. v) u)

-- ---- stems of a legal history

-- an operation that fits may begin with its first identifier
fits_begin : (G : History) (o : Op) → MayAccept G o → (first : List Tuple) (text : List ℕ) → o.body ≡ Insert first text → IsTrue (may_use (stems G) o.author o.seq (last_of first) (length text))
fits_begin G o m first text e = go (may_use (stems G) o.author o.seq (last_of first) (length text)) refl
  where
    go : (b : Bool) → may_use (stems G) o.author o.seq (last_of first) (length text) ≡ b → b ≡ true
    go true f = refl
    go false f =
        let k : body_refusal G o (Insert first text) ≡ None = ap (body_refusal G o) (sym e) ∙ fits_body G o m.fits in
        let g = sym (ap (λ b. if b then None else Some (WrongStem (due_offset (stems G) o.author o.seq (last_of first)))) f) ∙ k in
        absurd (cc)

pub numbers : (H : History) → IsLegal H → (a q : ℕ) (t : Stem) → stem_of (stems H) a q ≡ Some t → (0 < q) × (q ≤ count_of H a) × (t.low ≤ℤ pos 0)
numbers (history.Fresh group me members) l a q t e = absurd (cc)
numbers (Then G (Acknowledged b v)) l a q t e = numbers G l.0 a q t e
numbers (Then G (Accepted o)) l a q t e = go (change_of (stems G) o o.body (earlier (λ p u f. numbers G l.0 o.author p u f)) (omega (arith, l.2.next)) (fits_begin G o l.2)) (λ f. numbers G l.0 a q t f)
  where
    earlier : ((p : ℕ) (u : Stem) → stem_of (stems G) o.author p ≡ Some u → (0 < p) × (p ≤ count_of G o.author) × (u.low ≤ℤ pos 0)) → AreEarlier (stems G) o.author o.seq
    earlier h p u f = let r = h p u f in (r.0, omega (arith, l.2.next, r.1), r.2)

    old : (0 < q) × (q ≤ count_of G a) × (t.low ≤ℤ pos 0) → (0 < q) × (q ≤ count_of (Then G (Accepted o)) a) × (t.low ≤ℤ pos 0)
    old r = (r.0, omega (arith, r.1, index-raise_le (count G) o.author a), r.2)

    go : Change (stems G) o o.body → (stem_of (stems G) a q ≡ Some t → (0 < q) × (q ≤ count_of G a) × (t.low ≤ℤ pos 0)) → (0 < q) × (q ≤ count_of (Then G (Accepted o)) a) × (t.low ≤ℤ pos 0)
    go (Same f u) ih = old (ih (sym (ap (λ ss. stem_of ss a q) f) ∙ e))
    go (Changed w p k n f z y g u v) ih =
        bool_cases (is_stem a q w)
        (λ i. let r = stem_is a q w i in
        let c : o.author ≡ a = sym g.author ∙ r.0 in
        let d : p ≡ q = sym g.number ∙ r.1 in
        let s : stem_of (with_stem w (stems G)) a q ≡ Some w = subst (λ m. stem_of (with_stem w (stems G)) a m ≡ Some w) r.1 (subst (λ m. stem_of (with_stem w (stems G)) m w.s0 ≡ Some w) r.0 (found_same w (stems G))) in
        let x : Some w ≡ Some t = sym s ∙ (sym (ap (λ ss. stem_of ss a q) f) ∙ e) in
        let y2 : w ≡ t = cc in
        let P : Stem → Type 0 = λ m. m.low ≤ℤ pos 0 in
        let b : q ≤ count_of (Then G (Accepted o)) o.author = omega (arith, count_next G o l.2) in
        (omega arith, subst (λ m. q ≤ count_of (Then G (Accepted o)) m) c b, subst P y2 g.low))
        (λ i. old (ih (sym (found_other w (stems G) a q i) ∙ (sym (ap (λ ss. stem_of ss a q) f) ∙ e))))

pub earlier_of : (G : History) (o : Op) → IsLegal G → o.seq ≡ count_of G o.author + 1 → AreEarlier (stems G) o.author o.seq
earlier_of G o l e p u f = let r = numbers G l o.author p u f in (r.0, omega (arith, e, r.1), r.2)

begin_of : (G : History) (o : Op) (b : Body) → MayBegin G o b → (first : List Tuple) (text : List ℕ) → b ≡ Insert first text → IsTrue (may_use (stems G) o.author o.seq (last_of first) (length text))
begin_of G o b m first text e = subst (MayBegin G o) e m

-- the change that a member's next operation makes
pub next_change : (G : History) (o : Op) → IsLegal G → o.seq ≡ count_of G o.author + 1 → MayBegin G o o.body → Change (stems G) o o.body
next_change G o l e m = change_of (stems G) o o.body (earlier_of G o l e) (omega (arith, e)) (begin_of G o o.body m)

-- what may come next may begin with its first identifier
pub may_begin : (G : History) (o : Op) → MayAccept G o → MayBegin G o o.body
may_begin G o m = go o.body refl
  where
    go : (b : Body) → o.body ≡ b → MayBegin G o b
    go (Insert first text) e = fits_begin G o m first text e
    go (Delete targets) e = tt
    go (Rename xs) e = tt
    go Leave e = tt

-- ---- the three sentences

pub unused : (ss : List Stem) (o : Op) → Change ss o o.body → (a s : ℕ) (k : ℤ) → IsUsedBy o a s k → is_used ss a s k ≡ false
unused ss o (Same f n) a s k u = absurd (n a s k u)
unused ss o (Changed w q d n f z y g i c) a s k u =
    let r = i a s k u in
    let h : is_used ss o.author q k ≡ false = g.none k r.2 r.3 in
    subst (λ m. is_used ss a m k ≡ false) r.1 (subst (λ m. is_used ss m q k ≡ false) r.0 h)

pub none_used : NoneUsed
none_used G o l e m a s k u = unused (stems G) o (next_change G o l e m) a s k u

found_here : (w : Stem) (ss : List Stem) (a s : ℕ) → is_stem a s w ≡ true → stem_of (with_stem w ss) a s ≡ Some w
found_here w ss a s i =
    let r = stem_is a s w i in
    subst (λ m. stem_of (with_stem w ss) a m ≡ Some w) r.1 (subst (λ m. stem_of (with_stem w ss) m w.s0 ≡ Some w) r.0 (found_same w ss))

used_after : (ss : List Stem) (o : Op) → Change ss o o.body → (a s : ℕ) (k : ℤ) → is_used (stems_after ss o.author o.seq o.body) a s k ≡ true → (is_used ss a s k ≡ true) ⊎ IsUsedBy o a s k
used_after ss o (Same f n) a s k u = inl (sym (ap (λ t. is_used t a s k) f) ∙ u)
used_after ss o (Changed w q d n f z y g i c) a s k u =
    bool_cases (is_stem a s w)
    (λ j. let r = stem_is a s w j in
    let x : o.author ≡ a = sym g.author ∙ r.0 in
    let y2 : q ≡ s = sym g.number ∙ r.1 in
    let v : has_used (Some w) k ≡ true = sym (ap (λ t. has_used t k) (found_here w ss a s j)) ∙ (sym (ap (λ t. is_used t a s k) f) ∙ u) in
    ⊎_elim (λ p. inl (subst (λ m. is_used ss a m k ≡ true) y2 (subst (λ m. is_used ss m q k ≡ true) x p)))
    (λ p. inr (subst (λ m. IsUsedBy o a m k) y2 (subst (λ m. IsUsedBy o m q k) x (c k p.0 p.1))))
    (g.only k v))
    (λ j. inl (sym (ap (λ t. has_used t k) (found_other w ss a s j)) ∙ (sym (ap (λ t. is_used t a s k) f) ∙ u)))

pub still_used : (ss : List Stem) (o : Op) → Change ss o o.body → (a s : ℕ) (k : ℤ) → is_used ss a s k ≡ true → is_used (stems_after ss o.author o.seq o.body) a s k ≡ true
still_used ss o (Same f n) a s k u = ap (λ t. is_used t a s k) f ∙ u
still_used ss o (Changed w q d n f z y g i c) a s k u =
    ap (λ t. is_used t a s k) f
    ∙ bool_cases (is_stem a s w)
    (λ j. let r = stem_is a s w j in
    let x : o.author ≡ a = sym g.author ∙ r.0 in
    let y2 : q ≡ s = sym g.number ∙ r.1 in
    ap (λ t. has_used t k) (found_here w ss a s j) ∙ g.kept k (subst (λ m. is_used ss o.author m k ≡ true) (sym y2) (subst (λ m. is_used ss m s k ≡ true) (sym x) u)))
    (λ j. ap (λ t. has_used t k) (found_other w ss a s j) ∙ u)

pub now_used : (ss : List Stem) (o : Op) → Change ss o o.body → (a s : ℕ) (k : ℤ) → IsUsedBy o a s k → is_used (stems_after ss o.author o.seq o.body) a s k ≡ true
now_used ss o (Same f n) a s k u = absurd (n a s k u)
now_used ss o (Changed w q d n f z y g i c) a s k u =
    let r = i a s k u in
    let j = stem_self a s w (g.author ∙ r.0) (g.number ∙ r.1) in
    ap (λ t. is_used t a s k) f ∙ (ap (λ t. has_used t k) (found_here w ss a s j) ∙ g.more k r.2 r.3)

pub all_used : AllUsed
all_used G o l e m a s k =
    let c = next_change G o l e m in
    ((λ u. used_after (stems G) o c a s k u), (λ u. ⊎_elim (λ v. still_used (stems G) o c a s k v) (λ v. now_used (stems G) o c a s k v) u))

-- ---- a member's stems by its own operations

-- the stems after these operations, one after another
abbrev pub grow : List Stem → List Op → List Stem
grow ss [] = ss
grow ss (o ∷ os) = grow (stems_after ss o.author o.seq o.body) os

grow_append : (ss : List Stem) (os : List Op) (o : Op) → grow ss (os ++ (o ∷ [])) ≡ stems_after (grow ss os) o.author o.seq o.body
grow_append ss [] o = refl
grow_append ss (p ∷ os) o = grow_append (stems_after ss p.author p.seq p.body) os o

-- the same stems of this member
abbrev AgreeAt : ℕ → List Stem → List Stem → Type 0
AgreeAt a ss ts = (q : ℕ) → stem_of ss a q ≡ stem_of ts a q

with_agree : (w : Stem) (ss ts : List Stem) (a : ℕ) → AgreeAt a ss ts → AgreeAt a (with_stem w ss) (with_stem w ts)
with_agree w ss ts a h q =
    bool_cases (is_stem a q w)
    (λ i. found_here w ss a q i ∙ sym (found_here w ts a q i))
    (λ i. found_other w ss a q i ∙ (h q ∙ sym (found_other w ts a q i)))

extended_agree : (u v : Option Stem) (k : ℤ) (n : ℕ) (ss ts : List Stem) (a : ℕ) → u ≡ v → AgreeAt a ss ts → AgreeAt a (with_extended u k n ss) (with_extended v k n ts)
extended_agree None None k n ss ts a e h = h
extended_agree None (Some y) k n ss ts a e h = absurd (cc)
extended_agree (Some x) None k n ss ts a e h = absurd (cc)
extended_agree (Some x) (Some y) k n ss ts a e h =
    let f : x ≡ y = cc in
    subst (λ t. AgreeAt a (with_stem (extended x k n) ss) (with_stem (extended t k n) ts)) f (with_agree (extended x k n) ss ts a h)

insert_agree : (b c : Bool) (ss ts : List Stem) (a s : ℕ) (t : Tuple) (n : ℕ) → AgreeAt a ss ts →
    AgreeAt a (if b then (if c then with_stem (new_stem a s n) ss else with_extended (stem_of ss a (seq_of t)) (offset_of t) n ss) else ss)
    (if b then (if c then with_stem (new_stem a s n) ts else with_extended (stem_of ts a (seq_of t)) (offset_of t) n ts) else ts)
insert_agree true true ss ts a s t n h = with_agree (new_stem a s n) ss ts a h
insert_agree true false ss ts a s t n h = extended_agree (stem_of ss a (seq_of t)) (stem_of ts a (seq_of t)) (offset_of t) n ss ts a (h (seq_of t)) h
insert_agree false c ss ts a s t n h = h

after_agree : (ss ts : List Stem) (a s : ℕ) (b : Body) → AgreeAt a ss ts → AgreeAt a (stems_after ss a s b) (stems_after ts a s b)
after_agree ss ts a s (Insert first text) h = insert_agree (replica_of (last_of first) == a) (seq_of (last_of first) == s) ss ts a s (last_of first) (length text) h
after_agree ss ts a s (Delete targets) h = h
after_agree ss ts a s (Rename former) h = with_agree (new_stem a s (length former)) ss ts a h
after_agree ss ts a s Leave h = h

-- another member's operation leaves this member's stems
other_agree : (ss : List Stem) (o : Op) (a : ℕ) → Change ss o o.body → (o.author ≡ a → ⊥) → AgreeAt a (stems_after ss o.author o.seq o.body) ss
other_agree ss o a (Same f n) h q = ap (λ t. stem_of t a q) f
other_agree ss o a (Changed w p k n f z y g i c) h q =
    ap (λ t. stem_of t a q) f ∙ found_other w ss a q (not_true (is_stem a q w) (λ j. h (sym g.author ∙ (stem_is a q w j).0)))

pub own_grow : (H : History) (a : ℕ) → IsLegal H → AgreeAt a (stems H) (grow [] (ops_of H a))
own_grow (history.Fresh group me members) a l q = refl
own_grow (Then G (Acknowledged b v)) a l q = own_grow G a l.0 q
own_grow (Then G (Accepted o)) a l q = go (o.author == a) refl (own_grow G a l.0)
  where
    own : o.author ≡ a → AgreeAt a (stems G) (grow [] (ops_of G a)) → stem_of (stems_after (stems G) o.author o.seq o.body) a q ≡ stem_of (stems_after (grow [] (ops_of G a)) o.author o.seq o.body) a q
    own e h = subst (λ m. stem_of (stems_after (stems G) m o.seq o.body) a q ≡ stem_of (stems_after (grow [] (ops_of G a)) m o.seq o.body) a q) (sym e) (after_agree (stems G) (grow [] (ops_of G a)) a o.seq o.body h q)

    split : filter (λ (p : Op). p.author == a) (ops G ++ (o ∷ [])) ≡ ops_of G a ++ cond (o.author == a) (o ∷ []) []
    split = filter-append (λ (p : Op). p.author == a) (ops G) (o ∷ [])

    go : (b : Bool) → (o.author == a) ≡ b → AgreeAt a (stems G) (grow [] (ops_of G a)) →
        stem_of (stems_after (stems G) o.author o.seq o.body) a q ≡ stem_of (grow [] (filter (λ (p : Op). p.author == a) (ops G ++ (o ∷ [])))) a q
    go true e h =
        own (eq_is o.author a e) h
        ∙ sym (ap (λ os. stem_of (grow [] os) a q) (split ∙ ap (λ b. ops_of G a ++ cond b (o ∷ []) []) e) ∙ ap (λ ss. stem_of ss a q) (grow_append [] (ops_of G a) o))
    go false e h =
        other_agree (stems G) o a (change_of (stems G) o o.body (earlier_of G o l.0 l.2.next) (omega (arith, l.2.next)) (fits_begin G o l.2)) (eq_not o.author a e) q
        ∙ (h q ∙ sym (ap (λ os. stem_of (grow [] os) a q) (split ∙ (ap (λ b. ops_of G a ++ cond b (o ∷ []) []) e ∙ append-nil (ops_of G a)))))

pub own_stems : OwnStems
own_stems G H a s l m e = own_grow G a l s ∙ (ap (λ os. stem_of (grow [] os) a s) e ∙ sym (own_grow H a m s))

pub law : Fresh
law = (none_used, all_used, own_stems)
