-- Kept entries: what puts one after the others, takes the last away or lets go of the first ones.
use Rattle.std.proofs.Common.{◌≡◌, ◌∙◌, ℕ, zero, suc, ◌+◌, ◌-◌, ◌<◌, ◌≤◌, List, [], ◌∷◌, ◌++◌, map, length, take, drop, Option, Some, None, refl, sym, ap, subst, arith, true}
use Rattle.std.specs.Prelude.{ℤ, pos, ◌+ℤ◌, ◌-ℤ◌, ◌≤ℤ◌, slice_get, slice_index_or}
use Rattle.std.proofs.lemmas.Int.{ints}
use Rattle.std.specs.Prelude.{OnOk, OnErr, ◌&&◌, nat_lt, int_le}
use Rattle.std.specs.Option.{option_map}
use Rattle.std.proofs.Common.{Result, Ok, Err, to_z, of_z, w32}
use Rattle.std.proofs.lemmas.List.{map-append, drop-map, length-map, length-append}
use Rattle.std.proofs.lemmas.Option.{slice_get-map, slice_get_read}
use Rattle.rls_ident.specs.declared.epoch_name.EpochName.{EpochName}
use Rattle.rls_ident.specs.declared.tuple.Tuple.{Tuple}
use Rattle.rls_ident.specs.Tuples.{offset_of}
use Rattle.rls_ident.specs.Identifiers.{last_of, shifted, ident_eq, IsIdent}
use Rattle.rls_ident.proofs.Ends.{eq_same}
use Rattle.rls_ident.proofs.Shifted.{shifted_shifted, shifted_none, last_offset, ident_shifted}
use Rattle.rls_ident.specs.declared.tuple.Spot.{Spot}
use Rattle.rls_ident.specs.Tuples.{at_spot}
use Rattle.rls_ident.specs.Identifiers.{is_ident, is_bounded, is_last_bounded, least_offset, greatest_offset}
use Rattle.rls_ident.proofs.Members.{in_all, and_left, and_right, int_le_is}
use Rattle.rls_ident.proofs.Ends.{least_last}
use Rattle.rls_runs.specs.Runs.{run_idents, is_run, past_offsets, AreIdents}
use Rattle.rls_runs.proofs.RunEnds.{run_end}
use Rattle.rls_runs.proofs.RunOrder.{run_are_idents, run_ident, run_some}
use Rattle.rls_seen.proofs.TextLists.{ident_in}
use Rattle.rls_replica.specs.Names.{keeps}
use Rattle.rls_seen.specs.Seen.{Seen}
use Rattle.rls_undo.specs.declared.base.Base.{Base}
use Rattle.rls_undo.specs.declared.entry.Entry.{Entry}
use Rattle.rls_undo.specs.declared.entry.Entry.TheVariants.{Inserted, Removed}
use Rattle.rls_undo.specs.Plans.{epoch_in}
use Rattle.rls_undo.specs.Undoing.{dropped_or, first_dropped, last_entries, without_last}
use Rattle.rls_undo.specs.UndoLaws.{HasIdents}
use Rattle.rls_undo.specs.declared.kept.Kept.{Kept}
use Rattle.rls_undo.specs.declared.kept.Kept.TheVariants as kept
use Rattle.rls_undo.specs.Keeping.{with_offset, entry_of, bases_for, last_bases, inserted_by, removed_by, IsInRange, IsOf, IsOfBase, AreKept}

-- ---- identifiers by their last offsets

-- an identifier itself
pub with_own : (x : List Tuple) → with_offset (offset_of (last_of x)) x ≡ x
with_own x =
    let none : offset_of (last_of x) -ℤ offset_of (last_of x) ≡ pos 0 = omega (arith, ints) in
    ap (λ k. shifted k x) none ∙ shifted_none x

-- one that is further by as much as the offsets are apart
pub with_further : (base x : List Tuple) (k : ℕ) → pos k ≡ offset_of (last_of x) -ℤ offset_of (last_of base) → ident_eq x (shifted (pos k) base) ≡ true
    → with_offset (offset_of (last_of x)) base ≡ x
with_further base x k e h = ap (λ j. shifted j base) (sym e) ∙ sym (eq_same x (shifted (pos k) base) h)

-- one that is less far
pub with_nearer : (base x : List Tuple) (k : ℕ) → pos k ≡ offset_of (last_of base) -ℤ offset_of (last_of x) → ident_eq base (shifted (pos k) x) ≡ true
    → with_offset (offset_of (last_of x)) base ≡ x
with_nearer base x k e h =
    let at : base ≡ shifted (pos k) x = eq_same base (shifted (pos k) x) h in
    let back : offset_of (last_of x) -ℤ offset_of (last_of base) ≡ pos 0 -ℤ pos k = omega (arith, ints) in
    let none : pos k +ℤ (pos 0 -ℤ pos k) ≡ pos 0 = omega (arith, ints) in
    ap (λ j. shifted j base) back ∙ (ap (shifted (pos 0 -ℤ pos k)) at ∙ (shifted_shifted (pos 0 -ℤ pos k) (pos k) x ∙ (ap (λ j. shifted j x) none ∙ shifted_none x)))

-- the last offset of one
pub offset_with : (o : ℤ) (x : List Tuple) → IsIdent x → offset_of (last_of (with_offset o x)) ≡ o
offset_with o x i =
    let at = last_offset (o -ℤ offset_of (last_of x)) x i in
    let same : offset_of (last_of x) +ℤ (o -ℤ offset_of (last_of x)) ≡ o = omega (arith, ints) in
    at ∙ same

-- an offset of the program's range is the same after it was handed on
pub cast_same : (o : ℤ) → least_offset ≤ℤ o → o ≤ℤ greatest_offset → to_z w32 (of_z w32 o) ≡ o
cast_same o l g = omega (arith, ints)

pub cast_run : (o : ℤ) (n : ℕ) → (least_offset ≤ℤ o) × (0 < n) × ((o +ℤ pos n) ≤ℤ past_offsets) → to_z w32 (of_z w32 o) ≡ o
cast_run o n h =
    let some = h.1 in
    let end = h.2 in
    cast_same o h.0 (omega (arith, ints))

pub spot_range : (s : Spot) → is_last_bounded (at_spot s) ≡ true → (least_offset ≤ℤ s.offset) × (s.offset ≤ℤ greatest_offset)
spot_range s h = (int_le_is least_offset s.offset (and_left (int_le least_offset s.offset) (int_le s.offset greatest_offset) h), int_le_is s.offset greatest_offset (and_right (int_le least_offset s.offset) (int_le s.offset greatest_offset) h))

pub cast_spot : (s : Spot) → is_last_bounded (at_spot s) ≡ true → to_z w32 (of_z w32 s.offset) ≡ s.offset
cast_spot s h = let r = spot_range s h in cast_same s.offset r.0 r.1

-- ---- entries

pub kept_within : (a b : ℕ) (ks : List Kept) → AreKept a ks b → a ≤ b
kept_within a b [] h = h
kept_within a b (k ∷ ks) h = let l = kept_within (bases_for k) b ks h.2 in let m = h.1 in omega arith

pub kept_longer : (a b c : ℕ) (ks : List Kept) → AreKept a ks b → b ≤ c → AreKept a ks c
kept_longer a b c [] h l = omega (arith, h, l)
kept_longer a b c (k ∷ ks) h l = (h.0, h.1, kept_longer (bases_for k) b c ks h.2 l)

-- one more after them
pub kept_pushed : (a b c : ℕ) (ks : List Kept) (k : Kept) → AreKept a ks b → IsInRange k → b ≤ bases_for k → bases_for k ≤ c → AreKept a (ks ++ k ∷ []) c
kept_pushed a b c [] k h r l m = let n : a ≤ bases_for k = omega (arith, h, l) in (r, n, m)
kept_pushed a b c (j ∷ ks) k h r l m = (h.0, h.1, kept_pushed (bases_for j) b c ks k h.2 r l m)

-- without the last
pub kept_popped : (a b : ℕ) (ks : List Kept) (k : Kept) → AreKept a (ks ++ k ∷ []) b → AreKept a ks (last_bases a ks) × (last_bases a ks ≤ b)
kept_popped a b [] k h = let l = h.1 in let m = h.2 in (omega arith, omega arith)
kept_popped a b (j ∷ ks) k h = let p = kept_popped (bases_for j) b ks k h.2 in ((h.0, h.1, p.0), p.1)

-- without the first ones
kept_from : (a b c : ℕ) (ks : List Kept) → AreKept a ks b → c ≤ a → AreKept c ks b
kept_from a b c [] h l = omega (arith, h, l)
kept_from a b c (k ∷ ks) h l = let m : c ≤ bases_for k = omega (arith, h.1, l) in (h.0, m, h.2)

pub kept_dropped : (a b n : ℕ) (ks : List Kept) → AreKept a ks b → AreKept a (drop n ks) b
kept_dropped a b zero ks h = h
kept_dropped a b (suc n) [] h = h
kept_dropped a b (suc n) (k ∷ ks) h = kept_dropped a b n ks (kept_from (bases_for k) b a ks h.2 h.1)

-- one of them
pub kept_at : (a b i : ℕ) (ks : List Kept) (k : Kept) → AreKept a ks b → slice_get ks i ≡ Some k → IsInRange k × (bases_for k ≤ b)
kept_at a b i [] k h e = absurd cc
kept_at a b zero (j ∷ ks) k h e =
    let same : j ≡ k = cc in
    subst (λ (x : Kept). IsInRange x × (bases_for x ≤ b)) same (h.0, kept_within (bases_for j) b ks h.2)
kept_at a b (suc i) (j ∷ ks) k h e = kept_at (bases_for j) b i ks k h.2 e

-- bases that are alike at the places that an entry needs give the same entry
same_entry : (b : ℕ) (xs ys : List Base) (k : Kept) → ((i : ℕ) → i < b → slice_get ys i ≡ slice_get xs i) → bases_for k ≤ b → entry_of ys k ≡ entry_of xs k
same_entry b xs ys (kept.Inserted i o n) s l = ap (λ x. inserted_by x o n) (s i (omega (arith, l)))
same_entry b xs ys (kept.Removed i o text) s l = ap (λ x. removed_by x o text.value) (s i (omega (arith, l)))
same_entry b xs ys (kept.Scattered n ids) s l = refl

pub same_entries : (a b : ℕ) (xs ys : List Base) (ks : List Kept) → ((i : ℕ) → i < b → slice_get ys i ≡ slice_get xs i) → AreKept a ks b → map (entry_of ys) ks ≡ map (entry_of xs) ks
same_entries a b xs ys [] s h = refl
same_entries a b xs ys (k ∷ ks) s h =
    ap (λ e. e ∷ map (entry_of ys) ks) (same_entry b xs ys k s (kept_within (bases_for k) b ks h.2)) ∙ ap (λ es. entry_of xs k ∷ es) (same_entries (bases_for k) b xs ys ks s h.2)

-- the entries with one more after them
pub entries_pushed : (b : ℕ) (xs ys : List Base) (ks : List Kept) (k : Kept) (es : List Entry) (e : Entry) → ((i : ℕ) → i < b → slice_get ys i ≡ slice_get xs i) → AreKept 0 ks b → map (entry_of xs) ks ≡ es
    → entry_of ys k ≡ e → map (entry_of ys) (ks ++ k ∷ []) ≡ es ++ e ∷ []
entries_pushed b xs ys ks k es e s h v is =
    map-append (entry_of ys) ks (k ∷ []) ∙ (ap (λ zs. zs ++ entry_of ys k ∷ []) (same_entries 0 b xs ys ks s h ∙ v) ∙ ap (λ x. es ++ x ∷ []) is)

-- ---- what a proof asks of one entry

-- an element by its index
pub at_index : {X : Type 0} (xs : List X) (i : ℕ) (x : X) → i < length xs → x ≡ slice_index_or xs i x → slice_get xs i ≡ Some x
at_index xs i x l h = slice_get_read xs (length xs) i x refl l h

-- one of them, by its index
pub got : (bs : List Base) (ks : List Kept) (es : List Entry) (i : ℕ) (k : Kept) → map (entry_of bs) ks ≡ es → AreKept 0 ks (length bs) → i < length es → k ≡ slice_index_or ks i k
    → IsInRange k × (bases_for k ≤ length bs) × (slice_get es i ≡ Some (entry_of bs k))
got bs ks es i k e h l x =
    let n : length es ≡ length ks = ap length (sym e) ∙ length-map ks (entry_of bs) in
    let g : slice_get ks i ≡ Some k = at_index ks i k (omega (arith, n, l)) x in
    let p = kept_at 0 (length bs) i ks k h g in
    (p.0, p.1, ap (λ y. slice_get y i) (sym e) ∙ (slice_get-map (entry_of bs) ks i ∙ ap (option_map (entry_of bs)) g))

pub made_inserted : (e : Entry) (b : Option Base) (x : Base) (o : ℤ) (n : ℕ) (ids : List (List Tuple)) (r : List Tuple × ℕ) → e ≡ inserted_by b o n → b ≡ Some x → ids ≡ run_idents r.0 r.1
    → r ≡ (with_offset o x.id, n) → Inserted x.epoch ids ≡ e
made_inserted e b x o n ids r is g i q = ap (Inserted x.epoch) (i ∙ ap (λ (p : List Tuple × ℕ). run_idents p.0 p.1) q) ∙ sym (is ∙ ap (λ y. inserted_by y o n) g)

pub made_removed : (e : Entry) (b : Option Base) (x : Base) (o : ℤ) (cs ds : List ℕ) (y : List Tuple) → e ≡ removed_by b o cs → b ≡ Some x → y ≡ with_offset o x.id → ds ≡ cs
    → Removed x.epoch y ds ≡ e
made_removed e b x o cs ds y is g i q = ap (λ z. Removed x.epoch z ds) i ∙ (ap (Removed x.epoch (with_offset o x.id)) q ∙ sym (is ∙ ap (λ z. removed_by z o cs) g))

pub whole_inserted : (e : Entry) (b : Option Base) (x : Base) (o : ℤ) (n : ℕ) → e ≡ inserted_by b o n → b ≡ Some x → IsIdent x.id → HasIdents e
whole_inserted e b x o n is g i =
    subst HasIdents (sym (is ∙ ap (λ y. inserted_by y o n) g))
    (λ y p. in_all is_ident y (run_idents (with_offset o x.id) n) (run_are_idents (with_offset o x.id) n (ident_shifted (o -ℤ offset_of (last_of x.id)) x.id i)) p)

pub whole_removed : (e : Entry) (b : Option Base) (x : Base) (o : ℤ) (cs : List ℕ) → e ≡ removed_by b o cs → b ≡ Some x → IsIdent x.id → HasIdents e
whole_removed e b x o cs is g i = subst HasIdents (sym (is ∙ ap (λ y. removed_by y o cs) g)) (ident_shifted (o -ℤ offset_of (last_of x.id)) x.id i)

pub whole_list : (e : Entry) (n : EpochName) (xs : List (List Tuple)) → e ≡ Inserted n xs → AreIdents xs → HasIdents e
whole_list e n xs is h = subst HasIdents (sym is) (λ x p. ident_in xs h x p)

-- the run of an insertion, by its base
run_bounded : (r : List Tuple × ℕ) → is_run r ≡ true → is_bounded r.0 ≡ true
run_bounded r h =
    let a = is_ident r.0 in
    let b = is_bounded r.0 in
    and_right a b (and_left (a && b) (nat_lt 0 r.1) (and_left (a && b && nat_lt 0 r.1) (int_le (offset_of (last_of r.0) +ℤ pos r.1) past_offsets) h))

pub run_range : (r : List Tuple × ℕ) (x : List Tuple) (o : ℤ) (n : ℕ) → is_run r ≡ true → x ≡ r.0 → offset_of (last_of x) ≡ o → n ≡ r.1 → (least_offset ≤ℤ o) × (0 < n) × ((o +ℤ pos n) ≤ℤ past_offsets)
run_range r x o n h e l m =
    let at : offset_of (last_of r.0) ≡ o = ap (λ y. offset_of (last_of y)) (sym e) ∙ l in
    let end = run_end r h in
    let some = run_some r h in
    let least = least_last r.0 (run_ident r h) (run_bounded r h) in
    (omega (arith, ints), omega arith, omega (arith, ints))

pub run_entry : (b : Option Base) (e : EpochName) (x y : List Tuple) (o : ℤ) (n m : ℕ) → IsOfBase b e x → offset_of (last_of x) ≡ o → x ≡ y → n ≡ m → inserted_by b o n ≡ Inserted e (run_idents y m)
run_entry None e x y o n m h l s q = absurd h
run_entry (Some b) e x y o n m h l s q =
    let id : with_offset o b.id ≡ y = ap (λ p. with_offset p b.id) (sym l) ∙ (h.ident ∙ s) in
    ap (λ z. Inserted z (run_idents (with_offset o b.id) n)) h.epoch ∙ (ap (λ z. Inserted e (run_idents z n)) id ∙ ap (λ z. Inserted e (run_idents y z)) q)

pub removed_entry : (b : Option Base) (e : EpochName) (x : List Tuple) (o : ℤ) (cs : List ℕ) → IsOfBase b e x → offset_of (last_of x) ≡ o → removed_by b o cs ≡ Removed e x cs
removed_entry None e x o cs h l = absurd h
removed_entry (Some b) e x o cs h l =
    let id : with_offset o b.id ≡ x = ap (λ p. with_offset p b.id) (sym l) ∙ h.ident in
    ap (λ z. Removed z (with_offset o b.id) cs) h.epoch ∙ ap (λ z. Removed e z cs) id

-- ---- the last one, and the first ones

pub last_bases_at : (a : ℕ) (ks : List Kept) (k : Kept) → slice_get ks (length ks - 1) ≡ Some k → last_bases a ks ≡ bases_for k
last_bases_at a [] k h = absurd cc
last_bases_at a (j ∷ []) k h = let e : j ≡ k = cc in ap bases_for e
last_bases_at a (j ∷ (i ∷ ks)) k h =
    let e : length (j ∷ (i ∷ ks)) - 1 ≡ suc (length (i ∷ ks) - 1) = omega arith in
    last_bases_at (bases_for j) (i ∷ ks) k (subst (λ n. slice_get (j ∷ (i ∷ ks)) n ≡ Some k) e h)

pub take_below : {X : Type 0} (n : ℕ) (xs : List X) (i : ℕ) → i < n → slice_get (take n xs) i ≡ slice_get xs i
take_below zero xs i l = absurd (omega (arith, l))
take_below (suc n) [] i l = refl
take_below (suc n) (x ∷ xs) zero l = refl
take_below (suc n) (x ∷ xs) (suc i) l = take_below n xs i (omega (arith, l))

take_length : {X : Type 0} (n : ℕ) (xs : List X) → n ≤ length xs → length (take n xs) ≡ n
take_length zero xs l = refl
take_length (suc n) [] l = absurd (omega (arith, l))
take_length (suc n) (x ∷ xs) l = ap suc (take_length n xs (omega (arith, l)))

pub take_front : {X : Type 0} (xs ys : List X) → take (length xs) (xs ++ ys) ≡ xs
take_front [] ys = refl
take_front (x ∷ xs) ys = ap (λ zs. x ∷ zs) (take_front xs ys)

pub popped_kept : (bs cs : List Base) (ks new : List Kept) (k : Kept) (n : ℕ) → ks ≡ new ++ k ∷ [] → AreKept 0 ks (length bs) → n ≡ last_bases 0 new → cs ≡ take n bs → AreKept 0 new (length cs)
popped_kept bs cs ks new k n e h l t =
    let p = kept_popped 0 (length bs) new k (subst (λ (x : List Kept). AreKept 0 x (length bs)) e h) in
    let m : length cs ≡ last_bases 0 new = ap length t ∙ (take_length n bs (omega (arith, l, p.1)) ∙ l) in
    subst (λ j. AreKept 0 new j) (sym m) p.0

pub popped_view : (bs cs : List Base) (ks new : List Kept) (k : Kept) (n : ℕ) (es : List Entry) → ks ≡ new ++ k ∷ [] → AreKept 0 ks (length bs) → n ≡ last_bases 0 new → cs ≡ take n bs
    → map (entry_of bs) ks ≡ es → map (entry_of cs) new ≡ without_last es
popped_view bs cs ks new k n es e h l t v =
    let p = kept_popped 0 (length bs) new k (subst (λ (x : List Kept). AreKept 0 x (length bs)) e h) in
    let agree : (i : ℕ) → i < last_bases 0 new → slice_get cs i ≡ slice_get bs i = λ i m. ap (λ x. slice_get x i) t ∙ take_below n bs i (omega (arith, l, m)) in
    let front : List Entry = map (entry_of bs) new in
    let whole : es ≡ front ++ entry_of bs k ∷ [] = sym v ∙ (ap (map (entry_of bs)) e ∙ map-append (entry_of bs) new (k ∷ [])) in
    let count : length (front ++ entry_of bs k ∷ []) - 1 ≡ length front = omega (arith, length-append front (entry_of bs k ∷ [])) in
    same_entries 0 (last_bases 0 new) bs cs new agree p.0
    ∙ sym (ap without_last whole ∙ (ap (λ j. take j (front ++ entry_of bs k ∷ [])) count ∙ take_front front (entry_of bs k ∷ [])))

pub last_view : (bs : List Base) (ks : List Kept) (es : List Entry) (n : ℕ) → map (entry_of bs) ks ≡ es → map (entry_of bs) (drop (length ks - n) ks) ≡ last_entries n es
last_view bs ks es n v =
    let m : length ks ≡ length es = sym (length-map ks (entry_of bs)) ∙ ap length v in
    sym (drop-map (entry_of bs) (length ks - n) ks) ∙ (ap (drop (length ks - n)) v ∙ ap (λ j. drop (j - n) es) m)

-- the first dropped epoch from a place on
pub dropped_here : (s : Seen) (es : List Entry) (i : ℕ) (e : EpochName) → slice_get (map epoch_in es) i ≡ Some e → first_dropped s (drop i es) ≡ dropped_or (keeps s e) e (first_dropped s (drop (i + 1) es))
dropped_here s [] i e h = absurd cc
dropped_here s (x ∷ es) zero e h =
    let q : epoch_in x ≡ e = cc in
    ap (λ z. dropped_or (keeps s z) z (first_dropped s es)) q
dropped_here s (x ∷ es) (suc i) e h =
    let n : suc i + 1 ≡ suc (i + 1) = omega arith in
    dropped_here s es i e h ∙ ap (λ j. dropped_or (keeps s e) e (first_dropped s (drop j (x ∷ es)))) (sym n)

-- ---- a base after the others

get_front : {X : Type 0} (xs ys : List X) (i : ℕ) → i < length xs → slice_get (xs ++ ys) i ≡ slice_get xs i
get_front [] ys i l = absurd (omega (arith, l))
get_front (x ∷ xs) ys zero l = refl
get_front (x ∷ xs) ys (suc i) l = get_front xs ys i (omega (arith, l))

get_seam : {X : Type 0} (xs : List X) (y : X) → slice_get (xs ++ y ∷ []) (length xs) ≡ Some y
get_seam [] y = refl
get_seam (x ∷ xs) y = get_seam xs y

pub base_others : (bs cs : List Base) (b : Base) → cs ≡ bs ++ b ∷ [] → (i : ℕ) → i < length bs → slice_get cs i ≡ slice_get bs i
base_others bs cs b e i l = ap (λ xs. slice_get xs i) e ∙ get_front bs (b ∷ []) i l

pub base_put : (bs cs : List Base) (e : EpochName) (y x : List Tuple) (i : ℕ) → cs ≡ bs ++ record { epoch = e; id = y } ∷ [] → i + 1 ≡ length cs → y ≡ x → IsOfBase (slice_get cs i) e x
base_put bs cs e y x i h l s =
    let b : Base = record { epoch = e; id = y } in
    let n : i ≡ length bs = omega (arith, l, ap length h, length-append bs (b ∷ [])) in
    let g : slice_get cs i ≡ Some b = ap (λ xs. slice_get xs i) h ∙ (ap (slice_get (bs ++ b ∷ [])) n ∙ get_seam bs b) in
    let of : IsOf b e x = record { epoch = refl; ident = ap (with_offset (offset_of (last_of x))) s ∙ with_own x } in
    subst (λ o. IsOfBase o e x) (sym g) of

-- ---- a loop over entries

pub map_taken : {X Y : Type 0} (f : X → Y) (xs : List X) (i : ℕ) (x : X) → slice_get xs i ≡ Some x → map f (take (i + 1) xs) ≡ map f (take i xs) ++ f x ∷ []
map_taken f [] i x h = absurd cc
map_taken f (y ∷ xs) zero x h = let e : y ≡ x = cc in ap (λ z. f z ∷ []) e
map_taken f (y ∷ xs) (suc i) x h =
    let n : suc i + 1 ≡ suc (i + 1) = omega arith in
    ap (λ j. map f (take j (y ∷ xs))) n ∙ ap (λ zs. f y ∷ zs) (map_taken f xs i x h)

-- ---- results

-- what holds is so after any error
pub on_err : {T E : Type 0} (r : Result T E) (P : Type 0) → P → OnErr r P
on_err (Ok x) P p = tt
on_err (Err x) P p = p

-- what follows from what holds where it goes well
pub on_ok : {T E : Type 0} (r : Result T E) (P Q : Type 0) → (P → Q) → OnOk r P → OnOk r Q
on_ok (Ok x) P Q f p = f p
on_ok (Err x) P Q f p = tt
