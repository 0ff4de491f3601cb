-- Names, and what is kept of their labels and of their identifiers.
use Rattle.std.proofs.Common.{◌≡◌, ℕ, zero, suc, ◌+◌, ◌-◌, ◌<◌, ◌≤◌, Bool, List, [], ◌∷◌, ◌++◌, length, length-append, take, set, append_assoc, get_or, refl, sym, ap, ◌∙◌, subst, arith}
use Rattle.std.specs.Prelude.{reverse, slice_get, ◌==◌, nat_lt, Box, Option, Some, None, Result, Ok, Err, IfOk, if◌then◌else◌}
use Rattle.std.specs.BTreeMap.{is_at}
use Rattle.std.specs.declared.alloc.Global.{Global}
use Rattle.std.proofs.lemmas.Option.{slice_get-get_or, slice_get_read, slice_get_within}
use Rattle.std.proofs.lemmas.List.{reverse-append, reverse-reverse, length-reverse}
use Rattle.std.proofs.Math.Seq.{take-length}
use Rattle.rls_ident.specs.declared.tuple.Tuple.{Tuple}
use Rattle.rls_ident.specs.Identifiers.{ident_eq}
use Rattle.rls_ident.proofs.Ends.{eq_same}
use Rattle.rls_ident.proofs.Members.{bool_cases, lt_is, not_lt_is, eq_is, neq_test, some_is}
use Rattle.rls_runs.proofs.RunPlaces.{get_left, get_right}
use Rattle.rls_steps.specs.declared.key.Key.{Key}
use Rattle.rls_steps.specs.Labelled.{Names, label_of}
use Rattle.rls_steps.specs.NameRuns.{Stretch, IsStretch, AreSound, AreKept, name_at, names_by, names_of, named, starts_of, run_in, run_of, key_cmp}
use Rattle.rls_steps.specs.Index.{AreApart, tail_at}
use Rattle.rls_steps.specs.declared.bound.Bounds.{Bounds}
use Rattle.rls_steps.specs.declared.interval.Interval.{Interval}
use Rattle.rls_steps.specs.Bounds.{AreBounded, IsMore}
use Rattle.rls_steps.specs.Intervals.{AreNoted}
use Rattle.rls_steps.specs.Indexed.{IsIndexed}
use Rattle.rls_steps.specs.declared.height.Height.{Height}
use Rattle.rls_steps.specs.Heights.{AreUpTo}
use Rattle.rls_steps.proofs.Giving.{reverse_snoc, front_stays}
use Rattle.rls_steps.proofs.Stretches.{names_long, names_get, one_name, shorter, named_snoc, first_by, reverse_cons, one_run, run_there, sound_at}
use Rattle.rls_steps.proofs.Widths.{wide_same}
use Rattle.rls_steps.proofs.Bounded.{more_extended, less_shortened, bounded_fewer}
use Rattle.rls_steps.proofs.Intervals.{noted_fewer}
use Rattle.rls_steps.proofs.Heights.{up_to_less}

-- ---- all that is kept

-- one more name
pub indexed_more : (rs rs' : List Stretch) (ss ss' : List ℕ) (fs fs' : List (Key × ℕ)) (b b' : Bounds) (vs vs' : List (Option (Box Interval Global))) (n : ℕ) (h h' : Height) (x : List Tuple) (l : ℕ) → IsIndexed rs ss fs b vs n h → AreKept rs' ss' fs' → AreBounded rs' b' → AreNoted rs' vs' →
    named rs' ≡ named rs ++ (x, l) ∷ [] → label_of (reverse (named rs)) x ≡ None → AreUpTo h' (named rs') → IsIndexed rs' ss' fs' b' vs' (n + 1) h'
indexed_more rs rs' ss ss' fs fs' b b' vs vs' n h h' x l i kept bounded noted more none far =
    let whole : reverse (named rs') ≡ (x, l) ∷ reverse (named rs) = ap reverse more ∙ reverse_snoc (named rs) (x, l) in
    let size = ap length more ∙ length-append (named rs) ((x, l) ∷ []) in
    let count = i.count in
    record { kept = kept; apart = subst AreApart (sym whole) (none, i.apart); bounded = bounded; noted = noted; count = omega (arith, size, count); far = far }

-- one more run
pub indexed_run : (rs rs' : List Stretch) (ss ss' : List ℕ) (fs fs' : List (Key × ℕ)) (b b' : Bounds) (vs vs' : List (Option (Box Interval Global))) (n : ℕ) (h h' : Height) (r : Stretch) → IsIndexed rs ss fs b vs n h → AreKept rs' ss' fs' → AreBounded rs' b' → AreNoted rs' vs' → named rs' ≡ named rs ++ names_of r →
    AreApart (reverse (names_of r) ++ reverse (named rs)) → AreUpTo h' (named rs') → IsIndexed rs' ss' fs' b' vs' (n + r.len) h'
indexed_run rs rs' ss ss' fs fs' b b' vs vs' n h h' r i kept bounded noted more apart far =
    let whole : reverse (named rs') ≡ reverse (names_of r) ++ reverse (named rs) = ap reverse more ∙ reverse-append (named rs) (names_of r) in
    let size = ap length more ∙ length-append (named rs) (names_of r) in
    let long = names_long r.down r.first r.label 0 r.len in
    let count = i.count in
    record { kept = kept; apart = subst AreApart (sym whole) apart; bounded = bounded; noted = noted; count = omega (arith, size, long, count); far = far }

-- one less
pub indexed_less : (rs rs' : List Stretch) (ss ss' : List ℕ) (fs fs' : List (Key × ℕ)) (b : Bounds) (vs : List (Option (Box Interval Global))) (n : ℕ) (h : Height) → IsIndexed rs ss fs b vs n h → (AreApart (reverse (named rs)) → AreKept rs ss fs → AreKept rs' ss' fs') → IsMore rs rs' [] → length rs' ≤ length rs →
    (m : List Tuple × ℕ) × (named rs ≡ named rs' ++ m ∷ []) → IsIndexed rs' ss' fs' b vs (n - 1) h
indexed_less rs rs' ss ss' fs fs' b vs n h i kept fewer short w =
    let m = w.0 in
    let whole : reverse (named rs) ≡ m ∷ reverse (named rs') = ap reverse w.1 ∙ reverse_snoc (named rs') m in
    let both : AreApart (m ∷ reverse (named rs')) = subst AreApart whole i.apart in
    let size = ap length w.1 ∙ length-append (named rs') (m ∷ []) in
    let count = i.count in
    record { kept = kept i.apart i.kept; apart = both.1; bounded = bounded_fewer rs rs' b i.bounded fewer short; noted = noted_fewer rs rs' vs i.noted fewer short; count = omega (arith, size, count); far = up_to_less h (named rs) (named rs') m i.far w.1 }

pub some_runs : (rs : List Stretch) → 0 < length (named rs) → 0 < length rs
some_runs [] h = h
some_runs (r ∷ rs) h = omega arith

pub less_take : (ns ms : Names) (m : List Tuple × ℕ) → ns ≡ ms ++ m ∷ [] → ms ≡ take (length ns - 1) ns
less_take ns ms m e =
    let size = ap length e ∙ length-append ms (m ∷ []) in
    let less : length ns - 1 ≡ length ms = omega (arith, size) in
    sym (ap (λ k. take k ns) less ∙ (ap (take (length ms)) e ∙ front_stays ms ms (m ∷ []) (take-length ms)))

-- ---- the name at a place

pub tail_short : (ns : Names) (i : ℕ) (n : List Tuple × ℕ) (ms : Names) → tail_at ns i ≡ n ∷ ms → (i < length ns) × (length ms ≡ i)
tail_short [] i n ms t = absurd (cc)
tail_short (m ∷ ns) i n ms t = bool_cases (length ns == i)
    (λ b. let whole : (m ∷ ns) ≡ (n ∷ ms) = sym (ap (λ (c : Bool). if c then m ∷ ns else tail_at ns i) b) ∙ t in
    let same : ns ≡ ms = cc in
    let q = eq_is (length ns) i b in
    (omega (arith, q), ap length (sym same) ∙ q))
    (λ b. let r = tail_short ns i n ms (sym (ap (λ (c : Bool). if c then m ∷ ns else tail_at ns i) b) ∙ t) in
    let s = r.0 in
    (omega (arith, s), r.1))

pub tail_within : (ns : Names) (i : ℕ) (n : List Tuple × ℕ) (ms : Names) → tail_at ns i ≡ n ∷ ms → (j : ℕ) → j < i → tail_at ns j ≡ tail_at ms j
tail_within [] i n ms t j h = absurd (cc)
tail_within (m ∷ ns) i n ms t j h = bool_cases (length ns == i)
    (λ b. let whole : (m ∷ ns) ≡ (n ∷ ms) = sym (ap (λ (c : Bool). if c then m ∷ ns else tail_at ns i) b) ∙ t in
    let same : ns ≡ ms = cc in
    let q = eq_is (length ns) i b in
    ap (λ (c : Bool). if c then m ∷ ns else tail_at ns j) (neq_test (length ns) j (λ e. absurd (omega (arith, e, q, h)))) ∙ ap (λ (ks : Names). tail_at ks j) same)
    (λ b. let later = sym (ap (λ (c : Bool). if c then m ∷ ns else tail_at ns i) b) ∙ t in
    let s = (tail_short ns i n ms later).0 in
    ap (λ (c : Bool). if c then m ∷ ns else tail_at ns j) (neq_test (length ns) j (λ e. absurd (omega (arith, e, s, h)))) ∙ tail_within ns i n ms later j h)

tail_get : (ds : Names) (i : ℕ) (n : List Tuple × ℕ) (ms : Names) → tail_at ds i ≡ n ∷ ms → slice_get (reverse ds) i ≡ Some n
tail_get [] i n ms t = absurd (cc)
tail_get (d ∷ ds) i n ms t =
    let size = length-reverse ds in
    ap (λ (zs : Names). slice_get zs i) (reverse_cons d ds)
    ∙ bool_cases (length ds == i)
    (λ b. let whole : (d ∷ ds) ≡ (n ∷ ms) = sym (ap (λ (c : Bool). if c then d ∷ ds else tail_at ds i) b) ∙ t in
    let first : d ≡ n = cc in
    let q = eq_is (length ds) i b in
    let at : length (reverse ds) + 0 ≡ i = omega (arith, size, q) in
    ap (slice_get (reverse ds ++ d ∷ [])) (sym at) ∙ (get_right (reverse ds) (d ∷ []) 0 ∙ ap Some first))
    (λ b. let later = sym (ap (λ (c : Bool). if c then d ∷ ds else tail_at ds i) b) ∙ t in
    let s = (tail_short ds i n ms later).0 in
    get_left (reverse ds) (d ∷ []) i (omega (arith, size, s)) ∙ tail_get ds i n ms later)

-- the name at a place is the first of those that aren't newer
pub tail_name : (names : Names) (i : ℕ) (m n : List Tuple × ℕ) (ms : Names) → slice_get names i ≡ Some m → tail_at (reverse names) i ≡ n ∷ ms → m ≡ n
tail_name names i m n ms g t = some_is m n (sym g ∙ (ap (λ (zs : Names). slice_get zs i) (sym (reverse-reverse names)) ∙ tail_get (reverse names) i n ms t))

pub tail_ok : {E : Type 0} (names : Names) (i : ℕ) (r : Result (List Tuple × ℕ) E) → IfOk r (λ m. slice_get names i ≡ Some m) → IfOk r (λ m. (n : List Tuple × ℕ) (ns : Names) → tail_at (reverse names) i ≡ n ∷ ns → m ≡ n)
tail_ok names i (Ok m) w = λ n ns t. tail_name names i m n ns w t
tail_ok names i (Err e) w = tt

pub none_left : (ns : Names) (k : ℕ) → length ns ≡ 0 → ns ≡ take k ns
none_left [] zero e = refl
none_left [] (suc k) e = refl
none_left (n ∷ ns) k e = absurd (omega (arith, e))

-- ---- runs that change

pub starts_long : (n : ℕ) (rs : List Stretch) → length (starts_of n rs) ≡ length rs
starts_long n [] = refl
starts_long n (r ∷ rs) = ap suc (starts_long (n + r.len) rs)

sound_front : (rs : List Stretch) (r : Stretch) → AreSound (rs ++ r ∷ []) → AreSound rs
sound_front [] r s = tt
sound_front (q ∷ qs) r s = (s.0, sound_front qs r s.1)

sound_more : (rs : List Stretch) (r : Stretch) → AreSound rs → IsStretch r.first r.label r.down r.len → AreSound (rs ++ r ∷ [])
sound_more [] r s n = (n, tt)
sound_more (q ∷ qs) r s n = (s.0, sound_more qs r s.1 n)

starts_more : (n : ℕ) (rs : List Stretch) (r : Stretch) → starts_of n (rs ++ r ∷ []) ≡ starts_of n rs ++ (n + length (named rs)) ∷ []
starts_more n [] r = let e : n + 0 ≡ n = omega arith in ap (λ k. k ∷ []) (sym e)
starts_more n (q ∷ rs) r =
    let long = length-append (names_of q) (named rs) in
    let own = names_long q.down q.first q.label 0 q.len in
    let e : (n + q.len) + length (named rs) ≡ n + length (named (q ∷ rs)) = omega (arith, long, own) in
    ap (λ ks. n ∷ ks) (starts_more (n + q.len) rs r ∙ ap (λ k. starts_of (n + q.len) rs ++ k ∷ []) e)

-- the last run is longer or shorter
pub kept_last : (rs : List Stretch) (r s : Stretch) (starts : List ℕ) (firsts : List (Key × ℕ)) → IsStretch s.first s.label s.down s.len → s.first ≡ r.first → AreKept (rs ++ r ∷ []) starts firsts → AreKept (rs ++ s ∷ []) starts firsts
kept_last rs r s starts firsts n e k = record {
  sound = sound_more rs s (sound_front rs r k.sound) n;
  starts = k.starts ∙ (starts_more 0 rs r ∙ sym (starts_more 0 rs s));
  firsts = λ q. k.firsts q
      ∙ (ap (λ ds. run_of ds q.ident) (reverse_snoc rs r) ∙ (ap (λ y. if ident_eq y q.ident then Some (length (reverse rs)) else run_of (reverse rs) q.ident) (sym e) ∙ sym (ap (λ ds. run_of ds q.ident) (reverse_snoc rs s))));
}

-- one more run
pub kept_more : (rs : List Stretch) (r : Stretch) (starts : List ℕ) (firsts firsts' : List (Key × ℕ)) (k : Key) → IsStretch r.first r.label r.down r.len → k.ident ≡ r.first → AreKept rs starts firsts →
    ((q : Key) → run_in firsts' q ≡ (if is_at (key_cmp k) q then Some (length rs) else run_in firsts q)) → AreKept (rs ++ r ∷ []) (starts ++ length (named rs) ∷ []) firsts'
kept_more rs r starts firsts firsts' k n e h f = record {
  sound = sound_more rs r h.sound n;
  starts = ap (λ ks. ks ++ length (named rs) ∷ []) h.starts ∙ (let z : length (named rs) ≡ 0 + length (named rs) = omega arith in ap (λ m. starts_of 0 rs ++ m ∷ []) z ∙ sym (starts_more 0 rs r));
  firsts = λ q. f q
      ∙ (ap (λ (b : Bool). if b then Some (length rs) else run_in firsts q) (wide_same k.ident q.ident ∙ ap (λ y. ident_eq y q.ident) e)
      ∙ (ap (λ o. if ident_eq r.first q.ident then Some (length rs) else o) (h.firsts q)
      ∙ (ap (λ m. if ident_eq r.first q.ident then Some m else run_of (reverse rs) q.ident) (sym (length-reverse rs)) ∙ sym (ap (λ ds. run_of ds q.ident) (reverse_snoc rs r)))));
}

-- no other run begins with the identifier of a last one
last_alone : (rs : List Stretch) (r : Stretch) → AreApart (reverse (named (rs ++ r ∷ []))) → AreSound (rs ++ r ∷ []) → run_of (reverse rs) r.first ≡ None
last_alone rs r a s = go (run_of (reverse rs) r.first) refl
  where
    go : (o : Option ℕ) → run_of (reverse rs) r.first ≡ o → o ≡ None
    go None e = refl
    go (Some i) e =
        let w = run_there (reverse rs) r.first i e in
        let size = length-reverse rs in
        let short = w.3 in
        let all = rs ++ r ∷ [] in
        let there : slice_get all i ≡ Some w.0 = get_left rs (r ∷ []) i (omega (arith, size, short)) ∙ (ap (λ (zs : List Stretch). slice_get zs i) (sym (reverse-reverse rs)) ∙ w.1) in
        let z : length rs + 0 ≡ length rs = omega arith in
        let last : slice_get all (length rs) ≡ Some r = ap (slice_get all) (sym z) ∙ get_right rs (r ∷ []) 0 in
        let first : (name_at w.0 0).0 ≡ (name_at r 0).0 =
        ap (λ (n : List Tuple × ℕ). n.0) (first_by w.0.down w.0.first w.0.label) ∙ (w.2 ∙ sym (ap (λ (n : List Tuple × ℕ). n.0) (first_by r.down r.first r.label))) in
        let same = one_run all i (length rs) w.0 r 0 0 a there last (sound_at all i w.0 s there).some (sound_at all (length rs) r s last).some first in
        absurd (omega (arith, size, short, same))

-- one run less
pub kept_less : (rs : List Stretch) (r : Stretch) (ss ss' : List ℕ) (fs fs' : List (Key × ℕ)) (k : Key) → k.ident ≡ r.first → ss' ≡ take (length rs) ss → AreApart (reverse (named (rs ++ r ∷ []))) → AreKept (rs ++ r ∷ []) ss fs →
    ((q : Key) → run_in fs' q ≡ (if is_at (key_cmp k) q then None else run_in fs q)) → AreKept rs ss' fs'
kept_less rs r ss ss' fs fs' k e t a h f =
    let own = starts_of 0 rs in
    let last = (0 + length (named rs)) ∷ [] in
    record {
      sound = sound_front rs r h.sound;
      starts = t ∙ (ap (take (length rs)) (h.starts ∙ starts_more 0 rs r) ∙ (ap (λ n. take n (own ++ last)) (sym (starts_long 0 rs)) ∙ front_stays own own last (take-length own)));
      firsts = λ q. f q
          ∙ (ap (λ (b : Bool). if b then None else run_in fs q) (wide_same k.ident q.ident ∙ ap (λ y. ident_eq y q.ident) e)
          ∙ bool_cases (ident_eq r.first q.ident)
          (λ b. ap (λ (c : Bool). if c then None else run_in fs q) b ∙ sym (subst (λ y. run_of (reverse rs) y ≡ None) (eq_same r.first q.ident b) (last_alone rs r a h.sound)))
          (λ b. ap (λ (c : Bool). if c then None else run_in fs q) b
          ∙ (h.firsts q ∙ (ap (λ ds. run_of ds q.ident) (reverse_snoc rs r) ∙ ap (λ (c : Bool). if c then Some (length (reverse rs)) else run_of (reverse rs) q.ident) b))));
    }

-- ---- the last run

split_last : (rs : List Stretch) (m : ℕ) (r : Stretch) → length rs ≡ suc m → r ≡ get_or rs m r → (front : List Stretch) × (rs ≡ front ++ r ∷ []) × ((s : Stretch) → set rs m s ≡ front ++ s ∷ [])
split_last [] m r e g = absurd (omega (arith, e))
split_last (x ∷ []) zero r e g = ([], ap (λ z. z ∷ []) (sym g), λ s. refl)
split_last (x ∷ []) (suc m) r e g = absurd (omega (arith, e))
split_last (x ∷ (y ∷ ys)) zero r e g = absurd (omega (arith, e))
split_last (x ∷ (y ∷ ys)) (suc m) r e g =
    let w = split_last (y ∷ ys) m r (omega (arith, e)) g in
    (x ∷ w.0, ap (λ zs. x ∷ zs) w.1, λ s. ap (λ zs. x ∷ zs) (w.2 s))

pub last_split : (rs : List Stretch) (n : ℕ) (r : Stretch) → n ≡ length rs → 0 < length rs → r ≡ get_or rs (n - 1) r → (front : List Stretch) × (rs ≡ front ++ r ∷ []) × ((s : Stretch) → set rs (n - 1) s ≡ front ++ s ∷ [])
last_split rs n r e h g = split_last rs (n - 1) r (omega (arith, e, h)) g

pub last_more : (rs : List Stretch) (n : ℕ) (r s : Stretch) (x : List Tuple) (l : ℕ) → n ≡ length rs → 0 < length rs → r ≡ get_or rs (n - 1) r → names_of s ≡ names_of r ++ (x, l) ∷ [] → named (set rs (n - 1) s) ≡ named rs ++ (x, l) ∷ []
last_more rs n r s x l e h g w =
    let t = last_split rs n r e h g in
    let f = t.0 in
    ap named (t.2 s)
    ∙ (named_snoc f s
    ∙ (ap (λ (ns : Names). named f ++ ns) w
    ∙ (sym (append_assoc (named f) (names_of r) ((x, l) ∷ [])) ∙ (ap (λ (ns : Names). ns ++ (x, l) ∷ []) (sym (named_snoc f r)) ∙ ap (λ (zs : List Stretch). named zs ++ (x, l) ∷ []) (sym t.1)))))

pub last_kept : (rs : List Stretch) (n : ℕ) (r s : Stretch) (ss : List ℕ) (fs : List (Key × ℕ)) → n ≡ length rs → 0 < length rs → r ≡ get_or rs (n - 1) r → IsStretch s.first s.label s.down s.len → s.first ≡ r.first → AreKept rs ss fs → AreKept (set rs (n - 1) s) ss fs
last_kept rs n r s ss fs e h g i q k =
    let t = last_split rs n r e h g in
    subst (λ (zs : List Stretch). AreKept zs ss fs) (sym (t.2 s)) (kept_last t.0 r s ss fs i q (subst (λ (zs : List Stretch). AreKept zs ss fs) t.1 k))

pub same_last : (rs : List Stretch) (n : ℕ) (r q : Stretch) → n ≡ length rs → 0 < length rs → r ≡ get_or rs (n - 1) r → q ≡ get_or rs (n - 1) q → r ≡ q
same_last rs n r q e h g k =
    let short : n - 1 < length rs = omega (arith, e, h) in
    some_is r q (sym (slice_get_read rs (length rs) (n - 1) r refl short g) ∙ slice_get_read rs (length rs) (n - 1) q refl short k)

pub last_less : (rs : List Stretch) (n : ℕ) (q s : Stretch) → n ≡ length rs → 0 < length rs → q ≡ get_or rs (n - 1) q → 1 < q.len → s ≡ record { first = q.first; label = q.label; down = q.down; len = q.len - 1 } →
    (m : List Tuple × ℕ) × (named rs ≡ named (set rs (n - 1) s) ++ m ∷ [])
last_less rs n q s e h k more is =
    let t = last_split rs n q e h k in
    let f = t.0 in
    let m = name_at q (q.len - 1) in
    let names : names_of q ≡ names_of s ++ m ∷ [] = shorter q.down q.first q.label q.len (omega (arith, more)) ∙ ap (λ (u : Stretch). names_of u ++ m ∷ []) (sym is) in (
      m,
      ap named t.1
          ∙ (named_snoc f q
          ∙ (ap (λ (ns : Names). named f ++ ns) names
          ∙ (sym (append_assoc (named f) (names_of s) (m ∷ [])) ∙ (ap (λ (ns : Names). ns ++ m ∷ []) (sym (named_snoc f s)) ∙ ap (λ (zs : List Stretch). named zs ++ m ∷ []) (sym (t.2 s)))))),
    )

pub last_fewer : (rs : List Stretch) (n : ℕ) (q s : Stretch) → n ≡ length rs → 0 < length rs → q ≡ get_or rs (n - 1) q → 1 < q.len → s ≡ record { first = q.first; label = q.label; down = q.down; len = q.len - 1 } → IsMore rs (set rs (n - 1) s) []
last_fewer rs n q s e h k more is =
    let t = last_split rs n q e h k in
    let m = name_at q (q.len - 1) in
    let names : names_of q ≡ names_of s ++ m ∷ [] = shorter q.down q.first q.label q.len (omega (arith, more)) ∙ ap (λ (u : Stretch). names_of u ++ m ∷ []) (sym is) in
    subst (λ (zs : List Stretch). IsMore zs (set rs (n - 1) s) []) (sym t.1) (subst (λ (zs : List Stretch). IsMore (t.0 ++ q ∷ []) zs []) (sym (t.2 s)) (less_shortened t.0 q s m names))

pub last_longer : (rs : List Stretch) (n : ℕ) (r s : Stretch) (x : List Tuple) (l : ℕ) → n ≡ length rs → 0 < length rs → r ≡ get_or rs (n - 1) r → names_of s ≡ names_of r ++ (x, l) ∷ [] → IsMore rs (set rs (n - 1) s) ((x, l) ∷ [])
last_longer rs n r s x l e h g w =
    let t = last_split rs n r e h g in
    subst (λ (zs : List Stretch). IsMore zs (set rs (n - 1) s) ((x, l) ∷ [])) (sym t.1) (subst (λ (zs : List Stretch). IsMore (t.0 ++ r ∷ []) zs ((x, l) ∷ [])) (sym (t.2 s)) (more_extended t.0 r s ((x, l) ∷ []) w))

-- the last run, which has one name
pub alone_less : (rs zs : List Stretch) (n : ℕ) (r q : Stretch) → n ≡ length rs → 0 < length rs → r ≡ get_or rs (n - 1) r → rs ≡ zs ++ q ∷ [] → r.len ≤ 1 → 0 < r.len → (m : List Tuple × ℕ) × (named rs ≡ named zs ++ m ∷ [])
alone_less rs zs n r q e h g w one some =
    let short : n - 1 < length rs = omega (arith, e, h) in
    let all = ap length w ∙ length-append zs (q ∷ []) in
    let at : length zs + 0 ≡ n - 1 = omega (arith, e, all) in
    let here : slice_get rs (n - 1) ≡ Some q = ap (λ (ts : List Stretch). slice_get ts (n - 1)) w ∙ (ap (slice_get (zs ++ q ∷ [])) (sym at) ∙ get_right zs (q ∷ []) 0) in
    let same : r ≡ q = some_is r q (sym (slice_get_read rs (length rs) (n - 1) r refl short g) ∙ here) in
    let long : q.len ≡ 1 = let u = ap (λ (u : Stretch). u.len) same in omega (arith, u, one, some) in
    let names : names_of q ≡ (q.first, q.label) ∷ [] = ap (names_by q.down q.first q.label 0) long ∙ one_name q.down q.first q.label in
    ((q.first, q.label), ap named w ∙ (named_snoc zs q ∙ ap (λ (ns : Names). named zs ++ ns) names))

-- ---- the run at a place

pub placed_name : (n : ℕ) (rs : List Stretch) (k : ℕ) (r : Stretch) (s i : ℕ) → slice_get rs k ≡ Some r → slice_get (starts_of n rs) k ≡ Some s → s ≤ i → i - s < r.len → (n ≤ s) × (slice_get (named rs) (i - n) ≡ Some (name_at r (i - s)))
placed_name n [] k r s i g h w l = absurd (cc)
placed_name n (q ∷ qs) zero r s i g h w l =
    let same : q ≡ r = some_is q r g in
    let here : n ≡ s = some_is n s h in
    let short : i - n < r.len = omega (arith, here, l) in
    let long = names_long q.down q.first q.label 0 q.len in
    let size : q.len ≡ r.len = ap (λ (t : Stretch). t.len) same in
    let back : 0 + (i - n) ≡ i - s = omega (arith, here) in (
      omega (arith, here),
      get_left (names_of q) (named qs) (i - n) (omega (arith, long, size, short))
          ∙ (names_get q.down q.first q.label 0 q.len (i - n) (omega (arith, size, short)) ∙ (ap (λ m. Some (name_at q m)) back ∙ ap (λ (t : Stretch). Some (name_at t (i - s))) same)),
    )
placed_name n (q ∷ qs) (suc k) r s i g h w l =
    let ih = placed_name (n + q.len) qs k r s i g h w l in
    let low = ih.0 in
    let long = names_long q.down q.first q.label 0 q.len in
    let on : length (names_of q) + (i - (n + q.len)) ≡ i - n = omega (arith, long, low, w) in
    (omega (arith, low), ap (slice_get (names_of q ++ named qs)) (sym on) ∙ (get_right (names_of q) (named qs) (i - (n + q.len)) ∙ ih.1))

pub next_start : (n : ℕ) (rs : List Stretch) (k : ℕ) (r : Stretch) (s t : ℕ) → slice_get rs k ≡ Some r → slice_get (starts_of n rs) k ≡ Some s → slice_get (starts_of n rs) (suc k) ≡ Some t → t ≡ s + r.len
next_start n [] k r s t g h l = absurd (cc)
next_start n (q ∷ []) zero r s t g h l = absurd (cc)
next_start n (q ∷ (p ∷ qs)) zero r s t g h l =
    let same : q ≡ r = some_is q r g in
    let here : n ≡ s = some_is n s h in
    let there : n + q.len ≡ t = some_is (n + q.len) t l in
    let size : q.len ≡ r.len = ap (λ (u : Stretch). u.len) same in
    omega (arith, here, there, size)
next_start n (q ∷ qs) (suc k) r s t g h l = next_start (n + q.len) qs k r s t g h l

pub last_start : (n : ℕ) (rs : List Stretch) (k : ℕ) (r : Stretch) (s : ℕ) → slice_get rs k ≡ Some r → slice_get (starts_of n rs) k ≡ Some s → suc k ≡ length rs → n + length (named rs) ≡ s + r.len
last_start n [] k r s g h e = absurd (cc)
last_start n (q ∷ []) zero r s g h e =
    let same : q ≡ r = some_is q r g in
    let here : n ≡ s = some_is n s h in
    let size : q.len ≡ r.len = ap (λ (u : Stretch). u.len) same in
    let long = length-append (names_of q) [] in
    let own = names_long q.down q.first q.label 0 q.len in
    omega (arith, here, size, long, own)
last_start n (q ∷ (p ∷ qs)) zero r s g h e = absurd (omega (arith, e))
last_start n (q ∷ qs) (suc k) r s g h e =
    let ih = last_start (n + q.len) qs k r s g h (omega (arith, e)) in
    let long = length-append (names_of q) (named qs) in
    let own = names_long q.down q.first q.label 0 q.len in
    omega (arith, ih, long, own)

pub starts_begin : (rs : List Stretch) (ss : List ℕ) (i : ℕ) → ss ≡ starts_of 0 rs → i < length (named rs) → (0 < length ss) × (get_or ss 0 0 ≤ i)
starts_begin [] ss i e h = absurd (omega (arith, h))
starts_begin (r ∷ rs) ss i e h = (omega (arith, ap length e), omega (arith, ap (λ (ks : List ℕ). get_or ks 0 0) e))

-- a place among the starts is one among the runs, and what is read there is the run there
pub start_within : (rs : List Stretch) (ss : List ℕ) (k : ℕ) → ss ≡ starts_of 0 rs → k < length ss → k < length rs
start_within rs ss k e h = let long = ap length e ∙ starts_long 0 rs in omega (arith, long, h)

pub stretch_there : (rs : List Stretch) (ss : List ℕ) (k : ℕ) (r : Stretch) → ss ≡ starts_of 0 rs → k < length ss → r ≡ get_or rs k r → slice_get rs k ≡ Some r
stretch_there rs ss k r e h is = slice_get_read rs (length rs) k r refl (start_within rs ss k e h) is

pub place_short : (rs : List Stretch) (ss : List ℕ) (i k : ℕ) (r : Stretch) → ss ≡ starts_of 0 rs → i < length (named rs) → k < length ss → get_or ss k 0 ≤ i → (k + 1 < length ss → i < get_or ss (k + 1) 0) → slice_get rs k ≡ Some r → i - get_or ss k 0 < r.len
place_short rs ss i k r e w h low high g =
    let s = get_or ss k 0 in
    let at : slice_get (starts_of 0 rs) k ≡ Some s = ap (λ (ks : List ℕ). slice_get ks k) (sym e) ∙ slice_get-get_or ss k 0 h in
    let long = ap length e ∙ starts_long 0 rs in
    let one : k + 1 ≡ suc k = omega arith in
    bool_cases (nat_lt (k + 1) (length ss))
    (λ b. let more = lt_is (k + 1) (length ss) b in
    let next : slice_get (starts_of 0 rs) (suc k) ≡ Some (get_or ss (k + 1) 0) = ap (slice_get (starts_of 0 rs)) (sym one) ∙ (ap (λ (ks : List ℕ). slice_get ks (k + 1)) (sym e) ∙ slice_get-get_or ss (k + 1) 0 more) in
    let t = next_start 0 rs k r s (get_or ss (k + 1) 0) g at next in
    let over = high more in
    omega (arith, t, over, low))
    (λ b. let last = not_lt_is (k + 1) (length ss) b in
    let t = last_start 0 rs k r s g at (omega (arith, last, h, long)) in
    omega (arith, t, w, low))

-- the same of the run that was read there
pub short_there : (rs : List Stretch) (ss : List ℕ) (i k : ℕ) (r : Stretch) → ss ≡ starts_of 0 rs → i < length (named rs) → k < length ss → get_or ss k 0 ≤ i → (k + 1 < length ss → i < get_or ss (k + 1) 0) → r ≡ get_or rs k r → i - get_or ss k 0 < r.len
short_there rs ss i k r e w h low high is = place_short rs ss i k r e w h low high (stretch_there rs ss k r e h is)

pub place_name : (rs : List Stretch) (ss : List ℕ) (i k : ℕ) (r : Stretch) → ss ≡ starts_of 0 rs → k < length ss → get_or ss k 0 ≤ i → slice_get rs k ≡ Some r → i - get_or ss k 0 < r.len → slice_get (named rs) i ≡ Some (name_at r (i - get_or ss k 0))
place_name rs ss i k r e h low g short =
    let s = get_or ss k 0 in
    let at : slice_get (starts_of 0 rs) k ≡ Some s = ap (λ (ks : List ℕ). slice_get ks k) (sym e) ∙ slice_get-get_or ss k 0 h in
    let z : i ≡ i - 0 = omega arith in
    ap (slice_get (named rs)) z ∙ (placed_name 0 rs k r s i g at low short).1

-- a run ends among the names
pub run_ends : (rs : List Stretch) (ss : List ℕ) (k : ℕ) (r : Stretch) → ss ≡ starts_of 0 rs → k < length ss → slice_get rs k ≡ Some r → 0 < r.len → get_or ss k 0 + r.len ≤ length (named rs)
run_ends rs ss k r e h g some =
    let last = get_or ss k 0 + (r.len - 1) in
    let there = slice_get_within (named rs) last (name_at r (last - get_or ss k 0)) (place_name rs ss last k r e h (omega arith) g (omega (arith, some))) in
    omega (arith, there, some)
