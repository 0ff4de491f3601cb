-- Operations kept as bytes.
use Rattle.std.proofs.Common.{◌≡◌, ◌∙◌, ℕ, ◌+◌, ◌-◌, ◌^◌, zero, suc, ◌<◌, ◌≤◌, Bool, true, false, not, List, [], ◌∷◌, ◌++◌, length, take, drop, Some, None, Ok, Err, refl, sym, ap, subst, arith}
use Rattle.std.specs.Prelude.{All, slice_get, slice_index, option_map, nat_le, if◌then◌else◌}
use Rattle.std.specs.List.{filter}
use Rattle.std.proofs.lemmas.List.{append-nil, take_at, drop_at, map-append, length-append, length-drop, length-take, take-append-le, drop-append-le, take-append-drop, take_all, drop-drop}
use Rattle.std.proofs.lemmas.List.Elements.{All-head, All-tail, All-cons, All-nil, All-push, All-weaker}
use Rattle.std.proofs.lemmas.Option.{slice_get-map}
use Rattle.rls_ident.proofs.Members.{some_is}
use Rattle.rls_ops.specs.declared.op.Op.{Op}
use Rattle.rls_ops.specs.Rows.{is_covered, missing_for}
use Rattle.rls_ops.specs.Spelling.{op_bytes, vector_bytes, name_bytes, kind_of, body_bytes}
use Rattle.rls_ops.specs.WellFormed.{IsOp, IsInRange}
use Rattle.rls_codec.specs.CodecLaws.{IsBytes}
use Rattle.rls_codec.specs.Reading.{Read, chain_at, op_fields_at, op_at, vector_at}
use Rattle.rls_codec.proofs.Loop.{with_front, goes_on_many, is_done}
use Rattle.rls_codec.specs.Spelled.{FieldsFit, IsSpelledIfFit}
use Rattle.rls_codec.proofs.MessageFormats.{op_fields, op_takes}
use Rattle.rls_codec.proofs.PartFormats.{vector}
use Rattle.rls_codec.proofs.SizeLaws.{op_length}
use Rattle.rls_codec.proofs.SpelledSound.{fits_name, fits_body, chain_small, in_range}
use Rattle.rls_log.specs.declared.entry.Entry.{Entry}
use Rattle.rls_log.specs.declared.head.OpHead.{OpHead}
use Rattle.rls_log.specs.Heads.{is_head_covered, IsHeadOf}
use Rattle.rls_log.specs.Fitting.{AreFit}
use Rattle.rls_log.specs.Encoded.{op_or_none, op_spelled, SpellOne, part_of, op_in, ops_in, IsEntry, AreEntries, EntryFound, EntriesFound}

-- ---- one operation

-- the bytes of an operation are read as it
pub fields_again : (members : ℕ) (o : Op) → FieldsFit members o → op_fields_at members (op_bytes o) ≡ Ok (o, [])
fields_again members o f = ap (op_fields_at members) (sym (append-nil (op_bytes o))) ∙ (op_fields members).again o [] f

pub spelled_is : (members : ℕ) (bytes : List ℕ) (o : Op) → FieldsFit members o → bytes ≡ op_bytes o → op_spelled members bytes ≡ o
unfolding op_spelled
spelled_is members bytes o f e = ap (λ b. op_or_none (op_fields_at members b)) e ∙ ap op_or_none (fields_again members o f)

pub spell_one : (members : ℕ) (bytes : List ℕ) (o : Op) → FieldsFit members o → bytes ≡ op_bytes o → SpellOne members bytes
spell_one members bytes o f e = let is = spelled_is members bytes o f e in record { fits = subst (FieldsFit members) (sym is) f; bytes_are = e ∙ ap op_bytes (sym is) }

-- what is read of the bytes of one operation
pub read_one : (members : ℕ) (bytes : List ℕ) → SpellOne members bytes → op_fields_at members bytes ≡ Ok (op_spelled members bytes, [])
read_one members bytes s = ap (op_fields_at members) s.bytes_are ∙ fields_again members (op_spelled members bytes) s.fits

pub never_fails : (members : ℕ) (bytes : List ℕ) (left : ℕ) → SpellOne members bytes → op_fields_at members bytes ≡ Err left → ⊥
never_fails members bytes left s e = let h = sym (read_one members bytes s) ∙ e in absurd cc

pub read_is : (members : ℕ) (bytes : List ℕ) (o : Op) (rest : List ℕ) → op_fields_at members bytes ≡ Ok (o, rest) → o ≡ op_spelled members bytes
unfolding op_spelled
read_is members bytes o rest e = sym (ap op_or_none e)

-- its context stands after eight bytes
pub context_after : (o : Op) → (rest : List ℕ) × (drop 8 (op_bytes o) ≡ vector_bytes o.context ++ rest)
unfolding op_bytes
context_after o = (name_bytes o.epoch ++ ((kind_of o.body ∷ []) ++ (body_bytes o.body ++ [])), refl)

pub context_read : (members : ℕ) (bytes : List ℕ) → SpellOne members bytes → (rest : List ℕ) × (vector_at members (drop 8 bytes) ≡ Ok ((op_spelled members bytes).context, rest))
context_read members bytes s =
    let o = op_spelled members bytes in
    let a = context_after o in
    (a.0, ap (λ b. vector_at members (drop 8 b)) s.bytes_are ∙ ap (vector_at members) a.1 ∙ (vector members).again o.context a.0 s.fits.2)

pub long_enough : (members : ℕ) (bytes : List ℕ) → SpellOne members bytes → 8 ≤ length bytes
long_enough members bytes s = let l = ap length s.bytes_are in let n = op_length (op_spelled members bytes) in omega arith

-- ---- entries

pub entry_is : (bytes : List ℕ) (e : Entry) (o : Op) → e.start + e.len ≤ length bytes → part_of bytes e ≡ op_bytes o → FieldsFit e.head.members o → IsHeadOf e.head o → IsEntry bytes e × (op_in bytes e ≡ o)
entry_is bytes e o w p f h =
    let is = spelled_is e.head.members (part_of bytes e) o f p in
    (record { within = w; spelled = spell_one e.head.members (part_of bytes e) o f p; head = subst (IsHeadOf e.head) (sym is) h }, is)

-- an entry in other bytes in which its own are the same
pub moved : (bytes other : List ℕ) (e : Entry) → IsEntry bytes e → e.start + e.len ≤ length other → part_of other e ≡ part_of bytes e → IsEntry other e × (op_in other e ≡ op_in bytes e)
moved bytes other e h w p = entry_is other e (op_in bytes e) w (p ∙ h.spelled.bytes_are) h.spelled.fits h.head

all_moved : (bytes other : List ℕ) (es : List Entry) → AreEntries bytes es → ((e : Entry) → IsEntry bytes e → IsEntry other e × (op_in other e ≡ op_in bytes e)) → AreEntries other es × (ops_in other es ≡ ops_in bytes es)
all_moved bytes other [] h go = (All-nil (IsEntry other), refl)
all_moved bytes other (e ∷ es) h go =
    let one = go e (All-head (IsEntry bytes) e es h) in
    let rest = all_moved bytes other es (All-tail (IsEntry bytes) e es h) go in
    (All-cons (IsEntry other) e es one.0 rest.0, ap (λ o. o ∷ ops_in other es) one.1 ∙ ap (λ os. op_in bytes e ∷ os) rest.1)

-- more bytes after these
slice_more : (bytes more : List ℕ) (a b : ℕ) → a ≤ b → b ≤ length bytes → take (b - a) (drop a (bytes ++ more)) ≡ take (b - a) (drop a bytes)
slice_more bytes more a b l h =
    let e : drop a (bytes ++ more) ≡ drop a bytes ++ more = drop-append-le a bytes more (omega (arith, l, h)) in
    ap (take (b - a)) e ∙ take-append-le (b - a) (drop a bytes) more (omega (arith, h, length-drop a bytes))

pub one_after : (bytes more : List ℕ) (e : Entry) → IsEntry bytes e → IsEntry (bytes ++ more) e × (op_in (bytes ++ more) e ≡ op_in bytes e)
one_after bytes more e k = moved bytes (bytes ++ more) e k (omega (arith, k.within, length-append bytes more)) (slice_more bytes more e.start (e.start + e.len) (omega arith) k.within)

pub more_after : (bytes more : List ℕ) (es : List Entry) → AreEntries bytes es → AreEntries (bytes ++ more) es × (ops_in (bytes ++ more) es ≡ ops_in bytes es)
more_after bytes more es h =
    all_moved bytes (bytes ++ more) es h (one_after bytes more)

-- only the first bytes
pub one_within : (bytes : List ℕ) (n : ℕ) (e : Entry) → n ≤ length bytes → IsEntry bytes e → e.start + e.len ≤ n → IsEntry (take n bytes) e × (op_in (take n bytes) e ≡ op_in bytes e)
one_within bytes n e w k end =
    let first = take n bytes in
    let len : length first ≡ n = omega (arith, length-take n bytes, w) in
    let same : part_of bytes e ≡ part_of first e =
    ap (λ bs. take ((e.start + e.len) - e.start) (drop e.start bs)) (sym (take-append-drop n bytes)) ∙ slice_more first (drop n bytes) e.start (e.start + e.len) (omega arith) (omega (arith, end, len)) in
    moved bytes first e k (omega (arith, end, len)) (sym same)

pub fewer : (bytes : List ℕ) (n : ℕ) (es : List Entry) → n ≤ length bytes → AreEntries bytes es → All (λ (e : Entry). e.start + e.len ≤ n) es → AreEntries (take n bytes) es × (ops_in (take n bytes) es ≡ ops_in bytes es)
fewer bytes n [] w h ends = (All-nil (IsEntry (take n bytes)), refl)
fewer bytes n (e ∷ es) w h ends =
    let first = take n bytes in
    let one = one_within bytes n e w (All-head (IsEntry bytes) e es h) (All-head (λ (f : Entry). f.start + f.len ≤ n) e es ends) in
    let rest = fewer bytes n es w (All-tail (IsEntry bytes) e es h) (All-tail (λ (f : Entry). f.start + f.len ≤ n) e es ends) in
    (All-cons (IsEntry first) e es one.0 rest.0, ap (λ o. o ∷ ops_in first es) one.1 ∙ ap (λ os. op_in bytes e ∷ os) rest.1)

-- an operation that is put after the others
pub pushed : (bytes : List ℕ) (es : List Entry) (o : Op) (e : Entry) → AreEntries bytes es → FieldsFit (length o.context) o → IsHeadOf e.head o → e.start ≡ length bytes → e.len ≡ length (op_bytes o)
    → AreEntries (bytes ++ op_bytes o) (es ++ e ∷ []) × (ops_in (bytes ++ op_bytes o) (es ++ e ∷ []) ≡ ops_in bytes es ++ o ∷ [])
pushed bytes es o e h f head start len =
    let all = bytes ++ op_bytes o in
    let before = more_after bytes (op_bytes o) es h in
    let from : drop e.start all ≡ op_bytes o = drop_at bytes (op_bytes o) e.start (sym start) in
    let part : part_of all e ≡ op_bytes o = ap (take ((e.start + e.len) - e.start)) from ∙ take_all ((e.start + e.len) - e.start) (op_bytes o) (omega (arith, len)) in
    let one = entry_is all e o (omega (arith, start, len, length-append bytes (op_bytes o))) part (subst (λ n. FieldsFit n o) (sym head.members) f) head in
    (All-push (IsEntry all) es e before.0 one.0, map-append (op_in all) es (e ∷ []) ∙ ap (λ os. os ++ op_in all e ∷ []) before.1 ∙ ap (λ p. ops_in bytes es ++ p ∷ []) one.1)

-- one that is copied from elsewhere
pub copied : (bytes : List ℕ) (es : List Entry) (from : List ℕ) (d e : Entry) → AreEntries bytes es → IsEntry from d → e.head ≡ d.head → e.start ≡ length bytes → e.len ≡ d.len
    → AreEntries (bytes ++ part_of from d) (es ++ e ∷ []) × (ops_in (bytes ++ part_of from d) (es ++ e ∷ []) ≡ ops_in bytes es ++ op_in from d ∷ [])
copied bytes es from d e h k head start len =
    let o = op_in from d in
    let part : length (part_of from d) ≡ d.len = omega (arith, length-take ((d.start + d.len) - d.start) (drop d.start from), length-drop d.start from, k.within) in
    let f : FieldsFit (length o.context) o = subst (λ n. FieldsFit n o) k.head.members k.spelled.fits in
    let p = pushed bytes es o e h f (subst (λ (t : OpHead). IsHeadOf t o) (sym head) k.head) start (omega (arith, len, part, ap length k.spelled.bytes_are)) in
    subst (λ (b : List ℕ). AreEntries (bytes ++ b) (es ++ e ∷ []) × (ops_in (bytes ++ b) (es ++ e ∷ []) ≡ ops_in bytes es ++ o ∷ [])) (sym k.spelled.bytes_are) p

-- the operation at a place
pub at_place : (bytes : List ℕ) (es : List Entry) (i : ℕ) (e : Entry) → slice_get es i ≡ Some e → slice_get (ops_in bytes es) i ≡ Some (op_in bytes e)
at_place bytes es i e h = slice_get-map (op_in bytes) es i ∙ ap (option_map (op_in bytes)) h

pub entry_at_place : (bytes : List ℕ) (es : List Entry) (i : ℕ) (e : Entry) → slice_get es i ≡ Some e → AreEntries bytes es → IsEntry bytes e
entry_at_place bytes [] i e h a = absurd cc
entry_at_place bytes (d ∷ es) zero e h a = subst (IsEntry bytes) (some_is d e h) (All-head (IsEntry bytes) d es a)
entry_at_place bytes (d ∷ es) (suc i) e h a = entry_at_place bytes es i e h (All-tail (IsEntry bytes) d es a)

pub covers : (bytes : List ℕ) (v : List ℕ) (e : Entry) → IsEntry bytes e → is_head_covered v e.head ≡ is_covered v (op_in bytes e)
covers bytes v e k = ap (λ n. nat_le n (slice_index v e.head.author)) k.head.seq ∙ ap (λ a. nat_le (op_in bytes e).seq (slice_index v a)) k.head.author

-- the operations of the entries that a vector doesn't cover
pub uncovered : (bytes : List ℕ) (v : List ℕ) (p : Entry → Bool) (es : List Entry) → AreEntries bytes es → ((e : Entry) → IsEntry bytes e → p e ≡ is_covered v (op_in bytes e))
    → ops_in bytes (filter (λ e. not (p e)) es) ≡ missing_for v (ops_in bytes es)
uncovered bytes v p [] a h = refl
uncovered bytes v p (e ∷ es) a h =
    let rest = uncovered bytes v p es (All-tail (IsEntry bytes) e es a) h in
    let o = op_in bytes e in
    let one : (b : Bool) → ops_in bytes (if not b then e ∷ filter (λ e. not (p e)) es else filter (λ e. not (p e)) es) ≡ (if not b then o ∷ missing_for v (ops_in bytes es) else missing_for v (ops_in bytes es)) =
    λ b. elim b as (λ b. ops_in bytes (if not b then e ∷ filter (λ e. not (p e)) es else filter (λ e. not (p e)) es) ≡ (if not b then o ∷ missing_for v (ops_in bytes es) else missing_for v (ops_in bytes es))) [
      | true ↦ rest
      | false ↦ ap (λ os. o ∷ os) rest
    ] in
    one (p e) ∙ ap (λ b. if not b then o ∷ missing_for v (ops_in bytes es) else missing_for v (ops_in bytes es)) (h e (All-head (IsEntry bytes) e es a))

-- ---- an operation that was read

slice_at : (all bytes front rest : List ℕ) (e : Entry) → drop e.start all ≡ bytes → bytes ≡ front ++ rest → e.len ≡ length front → part_of all e ≡ front
slice_at all bytes front rest e d b l = ap (take ((e.start + e.len) - e.start)) (d ∙ b) ∙ take_at front rest ((e.start + e.len) - e.start) (omega (arith, l))

pub entry_found : (all bytes : List ℕ) (members : ℕ) (o : Op) (rest : List ℕ) (e : Entry) → IsBytes bytes → length bytes ≤ length all → drop (length all - length bytes) all ≡ bytes
    → op_at members bytes ≡ Ok (o, rest) → IsHeadOf e.head o → e.head.members ≡ members → e.start ≡ length all - length bytes → e.len ≡ length bytes - length rest → EntryFound all bytes members e rest
entry_found all bytes members o rest e small short back read head same start len =
    let t = op_takes members bytes o rest small read in
    let cut : length bytes ≡ length (op_bytes o) + length rest = ap length t.0 ∙ length-append (op_bytes o) rest in
    let n : e.len ≡ length (op_bytes o) = omega (arith, len, cut) in
    let from : drop e.start all ≡ bytes = ap (λ k. drop k all) start ∙ back in
    let part : part_of all e ≡ op_bytes o = slice_at all bytes (op_bytes o) rest e from t.0 n in
    let s = t.1 in
    let f : FieldsFit members o = (s.author, s.seq, s.context, s.epoch, s.body) in
    let is = entry_is all e o (omega (arith, start, n, cut, short)) part (subst (λ m. FieldsFit m o) (sym same) f) head in
    let after : length all - length rest ≡ e.start + length (op_bytes o) = omega (arith, start, cut, short) in
    record {
      read = read ∙ ap (λ p. Ok (p, rest)) (sym is.1);
      entry = is.0;
      end = omega (arith, start, n, cut, short);
      short = omega (arith, cut, short);
      cut = omega (arith, cut);
      back = ap (λ k. drop k all) after ∙ sym (drop-drop (length (op_bytes o)) e.start all) ∙ ap (drop (length (op_bytes o))) (from ∙ t.0) ∙ drop_at (op_bytes o) rest (length (op_bytes o)) refl;
    }

pub members_are : (members : ℕ) (bytes : List ℕ) (o : Op) (rest : List ℕ) → IsBytes bytes → op_at members bytes ≡ Ok (o, rest) → members ≡ length o.context
members_are members bytes o rest small read = sym (op_takes members bytes o rest small read).1.context.0

pub few_bytes : (members : ℕ) (bytes : List ℕ) (o : Op) (rest : List ℕ) → IsBytes bytes → op_at members bytes ≡ Ok (o, rest) → length bytes - length rest < 2 ^ 32
few_bytes members bytes o rest small read =
    let t = op_takes members bytes o rest small read in
    omega (arith, ap length t.0, length-append (op_bytes o) rest, t.1.limit)

-- the entries so far, and what is still to be read
pub record SoFar (bytes : List ℕ) (members left : ℕ) (total : Read (List Op)) (es : List Entry) (rest : List ℕ) : Type 0 where
  pub read : with_front (ops_in bytes es) (chain_at (λ before. op_at members) None left rest) ≡ total
  pub entries : AreEntries bytes es
  pub ends : All (λ (e : Entry). e.start + e.len ≤ length bytes - length rest) es
  pub short : length rest ≤ length bytes
  pub back : drop (length bytes - length rest) bytes ≡ rest

pub none_yet : (bytes : List ℕ) (members count : ℕ) → SoFar bytes members count (chain_at (λ before. op_at members) None count bytes) [] bytes
none_yet bytes members count = record {
  read = front_none (chain_at (λ before. op_at members) None count bytes);
  entries = All-nil (IsEntry bytes);
  ends = All-nil (λ (e : Entry). e.start + e.len ≤ length bytes - length bytes);
  short = omega arith;
  back = (let n : length bytes - length bytes ≡ 0 = omega arith in ap (λ k. drop k bytes) n);
}
  where
    front_none : (r : Read (List Op)) → with_front [] r ≡ r
    front_none (Ok x) = refl
    front_none (Err left) = refl

pub one_more : (bytes : List ℕ) (members count i : ℕ) (total : Read (List Op)) (es ds : List Entry) (rest after : List ℕ) (e : Entry) → i < count → SoFar bytes members (count - i) total es rest → EntryFound bytes rest members e after → ds ≡ es ++ e ∷ []
    → SoFar bytes members (count - (i + 1)) total ds after
one_more bytes members count i total es ds rest after e l h f is =
    let less : length bytes - length rest ≤ length bytes - length after = omega (arith, f.cut, h.short) in
    let ops : ops_in bytes ds ≡ ops_in bytes es ++ op_in bytes e ∷ [] = ap (ops_in bytes) is ∙ map-append (op_in bytes) es (e ∷ []) in
    let P : Entry → Type 0 = λ d. d.start + d.len ≤ length bytes - length after in
    record {
      read = ap (λ os. with_front os (chain_at (λ before. op_at members) None (count - (i + 1)) after)) ops ∙ goes_on_many (op_at members) (ops_in bytes es) count i rest (op_in bytes e) after total l f.read h.read;
      entries = subst (AreEntries bytes) (sym is) (All-push (IsEntry bytes) es e h.entries f.entry);
      ends = subst (All P) (sym is) (All-push P es e (All-weaker (λ (d : Entry). d.start + d.len ≤ length bytes - length rest) P (λ d k. omega (arith, k, less)) es h.ends) (omega (arith, f.end)));
      short = f.short;
      back = f.back;
    }

pub no_more : (bytes : List ℕ) (members count i : ℕ) (es : List Entry) (rest : List ℕ) → count ≤ i → SoFar bytes members (count - i) (chain_at (λ before. op_at members) None count bytes) es rest → EntriesFound bytes members count es rest
no_more bytes members count i es rest l h = record {
  read = is_done (λ before. op_at members) (ops_in bytes es) None count i rest (chain_at (λ before. op_at members) None count bytes) l h.read;
  entries = h.entries;
  ends = h.ends;
  short = h.short;
}

-- ---- what fits

fields_sound : (members : ℕ) (o : Op) → FieldsFit members o → IsOp o × IsInRange o.body
fields_sound members o f = (record { author = f.0; seq = f.1; context = chain_small None o.context f.2.1; epoch = fits_name o.epoch f.3; body = fits_body o.body f.4 }, in_range o.body f.4)

-- what is put of a log has a spelling in messages and files where it keeps the limit
spelled_if_fit : (members : ℕ) (o : Op) → FieldsFit members o → IsSpelledIfFit o
spelled_if_fit members o f body few = record { author = f.0; seq = f.1; context = (refl, f.2.1); epoch = f.3; body = f.4; limit = omega (arith, op_length o, few) }

pub all_spelled : (bytes : List ℕ) (es : List Entry) → AreEntries bytes es → All IsSpelledIfFit (ops_in bytes es)
all_spelled bytes [] a = All-nil IsSpelledIfFit
all_spelled bytes (e ∷ es) a =
    All-cons IsSpelledIfFit (op_in bytes e) (ops_in bytes es) (spelled_if_fit e.head.members (op_in bytes e) (All-head (IsEntry bytes) e es a).spelled.fits) (all_spelled bytes es (All-tail (IsEntry bytes) e es a))

pub all_fit : (bytes : List ℕ) (es : List Entry) → AreEntries bytes es → AreFit (ops_in bytes es)
all_fit bytes [] a = tt
all_fit bytes (e ∷ es) a =
    let one = fields_sound e.head.members (op_in bytes e) (All-head (IsEntry bytes) e es a).spelled.fits in
    (one.0, one.1, all_fit bytes es (All-tail (IsEntry bytes) e es a))
