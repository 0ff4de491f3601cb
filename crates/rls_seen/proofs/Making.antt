-- What an edit makes may be applied, and a replica stays sane where it edits.
use Rattle.std.proofs.Common.{◌≡◌, ℕ, ◌+◌, ◌-◌, ◌^◌, ◌<◌, ◌≤◌, ◌==◌, ◌&&◌, nat_lt, slice_index, slice_get, Bool, true, false, cond, List, [], ◌∷◌, length, take, drop, get_or, refl, sym, ap, ◌∙◌, subst, arith, inl, inr, Option, Some, None, if◌then◌else◌}
use Rattle.std.specs.Prelude.{pos, ◌+ℤ◌, ◌-ℤ◌, ◌≤ℤ◌}
use Rattle.std.specs.Int.RustNames.{int_le}
use Rattle.std.specs.List.{list_any}
use Rattle.std.specs.Ordering.{int_eq, is_eq}
use Rattle.std.proofs.lemmas.Cmp.{lists_total, tied_itself}
use Rattle.std.proofs.lemmas.Int.{ints}
use Rattle.std.proofs.lemmas.List.{length-take, length-drop}
use Rattle.rls_ident.specs.declared.limits.TheConstants.{CHARACTERS, IDENTIFIERS, GREATEST_NUMBER}
use Rattle.rls_ident.specs.declared.tuple.Tuple.{Tuple}
use Rattle.rls_ident.specs.declared.epoch_name.EpochName.{EpochName}
use Rattle.rls_ident.specs.declared.epoch_name.EpochName.TheVariants.{Origin, Of}
use Rattle.rls_ident.specs.Between.{between}
use Rattle.rls_ident.specs.EpochNames.{name_eq, is_within}
use Rattle.rls_ident.specs.Identifiers.{ident_eq, last_of, shifted, least_offset, greatest_offset}
use Rattle.rls_ident.specs.Lists.{IsIn}
use Rattle.rls_ident.specs.Tuples.{offset_of}
use Rattle.rls_ident.specs.Vectors.{at_most}
use Rattle.rls_ident.proofs.Members.{and_left, and_right, and_true, any_in, eq_test, eq_refl, eq_not, in_drop, in_map, in_take, int_is, le_test, lt_test, not_lt_is, or_left, or_right, int_le_is, not_int_lt_test}
use Rattle.rls_ident.proofs.Tuples.{tuple_total}
use Rattle.rls_ident.proofs.Vectors.{at_most_refl}
use Rattle.rls_ident.proofs.Shifted.{raised_offset, last_shifted, last_at}
use Rattle.rls_runs.specs.Places.{is_above}
use Rattle.rls_rename.specs.Tree.{has_node, names}
use Rattle.rls_rename.specs.Tree as tree
use Rattle.rls_rename.proofs.Growth.{translate_same}
use Rattle.rls_rename.proofs.Kept.{greatest_kept}
use Rattle.rls_rename.proofs.Paths.{name_eq_refl}
use Rattle.rls_ops.specs.declared.op.Op.{Op}
use Rattle.rls_ops.specs.declared.op.Body.{Body}
use Rattle.rls_ops.specs.declared.op.Body.TheVariants.{Insert, Delete, Rename, Leave}
use Rattle.rls_ops.specs.declared.op.Shape.TheVariants.{Author, Context, EmptyBody, TooLong, OffsetEnd}
use Rattle.rls_ops.specs.Rows.{left, row_of}
use Rattle.rls_ops.specs.Shapes.{shape_fault, is_next_of, is_empty, body_len, body_limit, passes_end}
use Rattle.rls_model.specs.declared.edit.Edit.{Edit}
use Rattle.rls_model.specs.declared.edit.Edit.TheVariants as edits
use Rattle.rls_model.specs.declared.edit.EditError.TheVariants as faults
use Rattle.rls_model.specs.declared.parts.Stem.{Stem}
use Rattle.rls_model.specs.Answers.{Left, Backward, WrongEpoch, WrongStem, UnknownTarget}
use Rattle.rls_model.specs.Editing.{own_stem, ends_below, may_append, may_prepend, or_missing, first_before, first_between, get_before, range_fault, or_fault}
use Rattle.rls_model.specs.Stems.{due_offset}
use Rattle.rls_model.specs.WellFormed.{IsSmall, IsName, IsBody, IsEdit}
use Rattle.rls_model.proofs.Began.{Began, IsNeighbour, began, between_ends}
use Rattle.rls_model.proofs.Made.{all_within, in_names, shape_chain, fit_chain, or_none, neighbour, neighbour_before}
use Rattle.rls_model.proofs.OneTree.{none_else}
use Rattle.rls_model.proofs.Ranges.{good_take, good_drop}
use Rattle.rls_seen.specs.Seen.{Seen, vector, members, own_count, greatest_over, due_over, translate_over, idents_over}
use Rattle.rls_seen.specs.Over.{is_known_over, first_unknown_over, body_refusal_over, refusal_over}
use Rattle.rls_seen.specs.Edits.{made_body, made_over, op_fault_over, edit_fault_over, edited}
use Rattle.rls_seen.specs.Sane.{IsSane, IsCounted, IsInRange, MayApply}
use Rattle.rls_seen.proofs.Applied.{accepted_sane}
use Rattle.rls_seen.proofs.StemNumbers.{earlier}
use Rattle.rls_seen.proofs.TextLists.{ident_in}

-- ---- an own operation with this body

own : Seen → Body → Op
own s b = record { author = s.acks.me; seq = own_count s + 1; context = vector s; epoch = greatest_over s; body = b }

own_shape : (s : Seen) (b : Body) → IsSane s → is_empty b ≡ false → nat_lt (body_limit b) (body_len b) ≡ false → passes_end b ≡ false → shape_fault (members s) (own s b) ≡ None
unfolding own
own_shape s b sane e3 e4 e5 =
    let n = own_count s in
    let e1 = lt_test s.acks.me (members s) sane.rows.member in
    let p = lt_test 0 (n + 1) (omega arith) in
    let q = eq_refl (members s) in
    let r = eq_test n (n + 1 - 1) (omega arith) in
    let e2 : is_next_of (own s b) (members s) ≡ true = and_true (nat_lt 0 (n + 1) && (members s == members s)) (n == n + 1 - 1) (and_true (nat_lt 0 (n + 1)) (members s == members s) p q) r in
    shape_chain (nat_lt s.acks.me (members s)) (is_next_of (own s b) (members s)) (is_empty b) (nat_lt (body_limit b) (body_len b)) (passes_end b) Author Context EmptyBody (TooLong (body_len b)) OffsetEnd e1 e2 e3 e4 e5

-- every kept epoch is within the vector
pub within_of : (v : List ℕ) (e : EpochName) → IsCounted v e → is_within e v ≡ true
within_of v Origin c = refl
within_of v (Of r q) c = le_test q (slice_index v r) c.2

own_due : (s : Seen) → IsSane s → due_over s (vector s) ≡ greatest_over s
unfolding tree.greatest tree.greatest_within
own_due s sane =
    ap (tree.greatest_from s.epochs.nodes s.epochs.top)
    (all_within (names s.epochs.nodes) (vector s) (λ e p.
    let r = in_names s.epochs.nodes e p in
    within_of (vector s) e (subst (IsCounted (vector s)) (sym r.2) (sane.epochs.counted (Of r.0 r.1) (or_right (name_eq (Of r.0 r.1) s.epochs.top) (has_node s.epochs.nodes (Of r.0 r.1)) r.3)))))

small_of : (s : Seen) → IsSane s → (a : ℕ) → a < members s → IsSmall (slice_index (vector s) a)
small_of s sane a l = sane.small a 0 l

name_of_counted : (s : Seen) → IsSane s → (e : EpochName) → IsCounted (vector s) e → IsName e
name_of_counted s sane Origin c = tt
name_of_counted s sane (Of r q) c =
    let few = sane.few in
    let l = c.0 in
    let m = c.2 in
    let k = small_of s sane r c.0 in
    (omega arith, omega arith)

-- it may be applied
own_may : (s : Seen) (b : Body) → IsSane s → left s.acks s.acks.me ≡ false → (own_count s ≡ GREATEST_NUMBER → ⊥) → IsBody b → is_empty b ≡ false → nat_lt (body_limit b) (body_len b) ≡ false → passes_end b ≡ false
    → body_refusal_over s (own s b) b ≡ None → MayApply s (own s b)
unfolding own refusal_over
own_may s b sane h n i e3 e4 e5 r =
    let me = s.acks.me in
    let few = sane.few in
    let inside = sane.rows.member in
    let small = small_of s sane me inside in
    let row : row_of s.acks me ≡ vector s = ap (λ c. cond c s.acks.mine (get_or s.acks.others me [])) (eq_refl me) in
    let e2 : at_most (row_of s.acks me) (vector s) ≡ true = ap (λ v. at_most v (vector s)) row ∙ at_most_refl (vector s) in
    let d : name_eq (greatest_over s) (due_over s (vector s)) ≡ true = ap (name_eq (greatest_over s)) (own_due s sane) ∙ name_eq_refl (greatest_over s) in
    record {
      whole = record {
        author = omega arith;
        seq = next_small (own_count s) small n;
        context = sane.small;
        epoch = name_of_counted s sane (greatest_over s) (sane.epochs.counted (greatest_over s) (greatest_kept s.epochs.top s.epochs.nodes));
        body = i;
      };
      shape = own_shape s b sane e3 e4 e5;
      above = omega arith;
      causes = at_most_refl (vector s);
      fits = fit_chain (left s.acks me) (at_most (row_of s.acks me) (vector s)) (name_eq (greatest_over s) (due_over s (vector s))) (Left (own_count s)) (Backward (row_of s.acks me)) (WrongEpoch (due_over s (vector s)))
          (body_refusal_over s (own s b) b) h e2 d r;
    }
  where
    next_small : (m : ℕ) → m < 2 ^ 32 → (m ≡ GREATEST_NUMBER → ⊥) → m + 1 < 2 ^ 32
    next_small m k q = omega arith

-- ---- the bodies

fault_split : (s : Seen) (edit : Edit) → edit_fault_over s edit ≡ None → (left s.acks s.acks.me ≡ false) × (range_fault (length (idents_over s)) edit ≡ None) × (op_fault_over s edit ≡ None)
unfolding edit_fault_over
fault_split s edit h =
    let p = none_else (left s.acks s.acks.me) faults.Left (or_fault (range_fault (length (idents_over s)) edit) (op_fault_over s edit)) h in
    let q = or_none (range_fault (length (idents_over s)) edit) (op_fault_over s edit) p.1 in
    (p.0, q.0, q.1)

unspent : (s : Seen) (edit : Edit) → op_fault_over s edit ≡ None → own_count s ≡ GREATEST_NUMBER → ⊥
unspent s edit h = let p = none_else (own_count s == GREATEST_NUMBER) faults.NumbersSpent _ h in eq_not (own_count s) GREATEST_NUMBER p.0

-- targets of the text are known
text_known : (s : Seen) → IsSane s → (x : List Tuple) → IsIn x (idents_over s) → is_known_over s (greatest_over s) x ≡ true
unfolding is_known_over
text_known s sane x p =
    let g = greatest_over s in
    let y = translate_over s g g x in
    let r = in_map (λ (e : List Tuple × ℕ). e.0) x s.text p in
    let e : r.0.0 ≡ y = r.2 ∙ sym (translate_same s.epochs.nodes g x sane.epochs.nodes (ident_in (idents_over s) sane.idents x p)) in
    let t : ident_eq r.0.0 y ≡ true = ap (λ z. ident_eq z y) e ∙ ap is_eq (tied_itself (lists_total tuple_total) y) in
    or_left (list_any (λ z. ident_eq z.0 y) s.text) _ (any_in (λ (z : List Tuple × ℕ). ident_eq z.0 y) r.0 s.text r.1 t)

none_unknown : (s : Seen) (e : EpochName) (xs : List (List Tuple)) → ((x : List Tuple) → IsIn x xs → is_known_over s e x ≡ true) → first_unknown_over s e xs ≡ None
none_unknown s e [] f = refl
none_unknown s e (x ∷ xs) f = ap (λ b. if b then first_unknown_over s e xs else Some (UnknownTarget x)) (f x (inl refl)) ∙ none_unknown s e xs (λ y p. f y (inr p))

-- the first identifier of an insertion
first_of_insert : Seen → ℕ → ℕ → List Tuple
first_of_insert s at n = first_between s.stems s.acks.me (own_count s + 1) (get_before (idents_over s) at) (slice_get (idents_over s) at) n

first_began : (s : Seen) (at n : ℕ) → IsSane s → n ≤ CHARACTERS → Began s.stems s.acks.me (own_count s + 1) n (first_of_insert s at n)
unfolding first_of_insert
first_began s at n sane l =
    began s.stems s.acks.me (own_count s + 1) (get_before (idents_over s) at) (slice_get (idents_over s) at) n (earlier (vector s) s.stems s.acks.me (own_count s + 1) sane.stems refl) l
    (neighbour_before (idents_over s) sane.idents.0 at) (neighbour (idents_over s) sane.idents.0 at)

insert_may : (s : Seen) (at : ℕ) (cs : List ℕ) → IsSane s → IsEdit (edits.Insert at cs) → edit_fault_over s (edits.Insert at cs) ≡ None → MayApply s (own s (made_body s (edits.Insert at cs)))
unfolding own first_of_insert
insert_may s at cs sane i h =
    let f = fault_split s (edits.Insert at cs) h in
    let p = none_else (length cs == 0) faults.EmptyEdit _ f.1 in
    let q = none_else (nat_lt (length (idents_over s)) at) (faults.Range at (length (idents_over s))) _ p.1 in
    let r = none_else (nat_lt CHARACTERS (length cs)) (faults.TooManyChars (length cs)) None q.1 in
    let x = first_of_insert s at (length cs) in
    let b = first_began s at (length cs) sane (not_lt_is CHARACTERS (length cs) r.0) in
    own_may s (Insert x cs) sane f.0 (unspent s (edits.Insert at cs) f.2) (b.ident, i.1) p.0 r.0
    (not_int_lt_test (greatest_offset +ℤ pos 1) (offset_of (last_of x) +ℤ pos (length cs)) b.room)
    (ap (λ c. if c then None else Some (WrongStem (due_offset s.stems s.acks.me (own_count s + 1) (last_of x)))) b.used)

delete_may : (s : Seen) (at n : ℕ) → IsSane s → edit_fault_over s (edits.Delete at n) ≡ None → MayApply s (own s (made_body s (edits.Delete at n)))
unfolding own
delete_may s at n sane h =
    let ids = idents_over s in
    let f = fault_split s (edits.Delete at n) h in
    let p = none_else (n == 0) faults.EmptyEdit _ f.1 in
    let q = none_else (nat_lt (length ids) (at + n)) (faults.Range at (length ids)) _ p.1 in
    let r = none_else (nat_lt IDENTIFIERS n) (faults.TooManyChars n) None q.1 in
    let m = not_lt_is (length ids) (at + n) q.0 in
    let xs = take n (drop at ids) in
    let len : length xs ≡ n = omega (arith, length-take n (drop at ids), length-drop at ids) in
    own_may s (Delete xs) sane f.0 (unspent s (edits.Delete at n) f.2) (good_take n (drop at ids) (good_drop at ids sane.idents))
    (ap (λ k. k == 0) len ∙ p.0) (ap (nat_lt IDENTIFIERS) len ∙ r.0) refl
    (none_unknown s (greatest_over s) xs (λ x u. text_known s sane x (in_drop at x ids (in_take n x (drop at ids) u))))

rename_may : (s : Seen) → IsSane s → edit_fault_over s edits.Rename ≡ None → MayApply s (own s (made_body s edits.Rename))
unfolding own
rename_may s sane h =
    let f = fault_split s edits.Rename h in
    let n = length (idents_over s) in
    let p = none_else (n == 0) faults.EmptyDocument _ f.1 in
    let q = none_else (nat_lt IDENTIFIERS n) (faults.TooManyChars n) None p.1 in
    own_may s (Rename (idents_over s)) sane f.0 (unspent s edits.Rename f.2) sane.idents p.0 q.0 refl refl

leave_may : (s : Seen) → IsSane s → edit_fault_over s edits.Leave ≡ None → MayApply s (own s (made_body s edits.Leave))
unfolding own
leave_may s sane h = let f = fault_split s edits.Leave h in own_may s Leave sane f.0 (unspent s edits.Leave f.2) tt refl refl refl refl

-- what an edit makes may be applied
pub made_may : (s : Seen) (edit : Edit) → IsSane s → IsEdit edit → edit_fault_over s edit ≡ None → MayApply s (made_over s edit)
unfolding made_over own
made_may s (edits.Insert at cs) sane i h = insert_may s at cs sane i h
made_may s (edits.Delete at n) sane i h = delete_may s at n sane h
made_may s edits.Rename sane i h = rename_may s sane h
made_may s edits.Leave sane i h = leave_may s sane h

-- ---- the range of its first offset

abbrev IsLow : List Tuple → Type 0
IsLow x = least_offset ≤ℤ offset_of (last_of x)

between_low : (lo hi : List Tuple) (a s : ℕ) → IsLow (between lo hi a s)
between_low lo hi a s = let e = (between_ends lo hi a s).3 in omega (arith, ints)

before_low : (ss : List Stem) (a s : ℕ) (left right : Option (List Tuple)) (n : ℕ) → IsNeighbour right → IsLow (first_before ss a s left right n)
before_low ss a s left None n j = between_low (or_missing left) [] a s
before_low ss a s left (Some x) n j = go (own_stem ss a (last_of x))
  where
    pick : (b : Bool) → (b ≡ true → IsLow (shifted (pos 0 -ℤ pos n) x)) → IsLow (if b then shifted (pos 0 -ℤ pos n) x else between (or_missing left) x a s)
    pick true f = f refl
    pick false f = between_low (or_missing left) x a s

    go : (o : Option Stem) → IsLow (if may_prepend o left x n then shifted (pos 0 -ℤ pos n) x else between (or_missing left) x a s)
    go None = between_low (or_missing left) x a s
    go (Some u) = pick (may_prepend (Some u) left x n)
        (λ k. let b = int_eq (offset_of (last_of x)) u.low in
        let c = int_le least_offset (offset_of (last_of x) -ℤ pos n) in
        let l = int_le_is least_offset (offset_of (last_of x) -ℤ pos n) (and_right b c (and_left (b && c) (is_above left (shifted (pos 0 -ℤ pos n) x)) k)) in
        let e : offset_of (last_of (shifted (pos 0 -ℤ pos n) x)) ≡ offset_of (last_of x) +ℤ (pos 0 -ℤ pos n) = ap offset_of (last_shifted (pos 0 -ℤ pos n) x) ∙ raised_offset (pos 0 -ℤ pos n) (last_of x) (last_at x j) in
        omega (arith, ints))

between_range : (ss : List Stem) (a s : ℕ) (left right : Option (List Tuple)) (n : ℕ) → IsNeighbour left → IsNeighbour right → IsLow (first_between ss a s left right n)
between_range ss a s None right n i j = before_low ss a s None right n j
between_range ss a s (Some x) right n i j = go (own_stem ss a (last_of x))
  where
    pick : (b : Bool) → (b ≡ true → IsLow (shifted (pos 1) x)) → IsLow (if b then shifted (pos 1) x else first_before ss a s (Some x) right n)
    pick true f = f refl
    pick false f = before_low ss a s (Some x) right n j

    go : (o : Option Stem) → IsLow (if may_append o x right n then shifted (pos 1) x else first_before ss a s (Some x) right n)
    go None = before_low ss a s (Some x) right n j
    go (Some u) = pick (may_append (Some u) x right n)
        (λ k. let b = int_eq (offset_of (last_of x) +ℤ pos 1) (pos u.next) in
        let c = int_le (offset_of (last_of x) +ℤ pos n) greatest_offset in
        let q = int_is (offset_of (last_of x) +ℤ pos 1) (pos u.next) (and_left b c (and_left (b && c) (ends_below (shifted (pos n) x) right) k)) in
        let e : offset_of (last_of (shifted (pos 1) x)) ≡ offset_of (last_of x) +ℤ pos 1 = ap offset_of (last_shifted (pos 1) x) ∙ raised_offset (pos 1) (last_of x) (last_at x i) in
        omega (arith, ints))

pub made_range : (s : Seen) (edit : Edit) → IsSane s → IsInRange (made_over s edit).body
unfolding made_over
made_range s (edits.Insert at cs) sane =
    between_range s.stems s.acks.me (own_count s + 1) (get_before (idents_over s) at) (slice_get (idents_over s) at) (length cs) (neighbour_before (idents_over s) sane.idents.0 at) (neighbour (idents_over s) sane.idents.0 at)
made_range s (edits.Delete at n) sane = tt
made_range s edits.Rename sane = tt
made_range s edits.Leave sane = tt

-- a replica stays sane where it edits
pub edited_sane : (s : Seen) (edit : Edit) → IsSane s → IsEdit edit → edit_fault_over s edit ≡ None → IsSane (edited s edit)
edited_sane s edit sane i h = accepted_sane s (made_over s edit) sane (made_may s edit sane i h) (made_range s edit sane)
