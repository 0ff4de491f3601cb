-- One entry more, and a loop over entries.
use Rattle.std.proofs.Common.{◌≡◌, ℕ, zero, suc, ◌+◌, ◌-◌, ◌<◌, ◌≤◌, Bool, true, false, cond, List, [], ◌∷◌, length, Option, Some, Result, Ok, Err, refl, sym, ap, ◌∙◌, subst, arith}
use Rattle.std.specs.Prelude.{nat_le}
use Rattle.rls_ops.specs.declared.op.Op.{Op}
use Rattle.rls_codec.specs.declared.fault.ReadError.{ReadError}
use Rattle.rls_codec.specs.declared.fault.ReadError.TheVariants.{Fault, OutOfMemory}
use Rattle.rls_codec.specs.Gives.{Fails}
use Rattle.rls_codec.specs.Reading.{Read, ◌>>=◌, with_rule, byte_at, chain_at, op_at}
use Rattle.rls_codec.proofs.Formats.{bind_ok, ok_is}
use Rattle.rls_model.specs.History.{Entry, Accepted, Acknowledged, History, Then, me_of, members_of}
use Rattle.rls_model.specs.Receiving.{replay}
use Rattle.rls_model.specs.Stability.{is_counted}
use Rattle.rls_file.specs.ReadingFiles.{steps_at, applies, may_be_next, is_new, entry_of_kind, entry_at}
use Rattle.rls_file.specs.ReadingJournals.{acknowledgement_at, grown, next_at}

-- a part that fails lets all fail that is read by it
pub fails_then : {A B : Type 0} (e : ReadError) (r : Result A ℕ) (f : A → Result B ℕ) → Fails e r → Fails e (r >>= f)
fails_then OutOfMemory r f h = tt
fails_then (Fault left) r f h = ap (λ x. x >>= f) h

abbrev err_of : (B : Type 0) → ℕ → Result B ℕ
err_of B n = Err n

abbrev pub op_ok : Op → List ℕ → Read Op
op_ok o rest = Ok (o, rest)

abbrev pub entry_ok : Entry → List ℕ → Read Entry
entry_ok e rest = Ok (e, rest)

abbrev pub history_ok : History → List ℕ → Read History
history_ok H rest = Ok (H, rest)

abbrev pub kind_ok : ℕ → List ℕ → Read ℕ
kind_ok k rest = Ok (k, rest)

abbrev kind_at : List ℕ → Read ℕ
kind_at bytes = with_rule (λ k. nat_le k 1) byte_at bytes

-- ---- accepted operations

pub op_fails : (e : ReadError) (H : History) (n : ℕ) (bytes : List ℕ) → n ≡ members_of H → Fails e (op_at n bytes) → Fails e (grown H (entry_of_kind H 0 bytes))
op_fails e H n bytes m h =
    let here : Fails e (op_at (members_of H) bytes) = subst (λ k. Fails e (op_at k bytes)) m h in
    fails_then e (entry_of_kind H 0 bytes) _ (fails_then e (with_rule (may_be_next H) (op_at (members_of H)) bytes) _ (fails_then e (op_at (members_of H) bytes) _ here))

op_read : (H : History) (n : ℕ) (bytes rest : List ℕ) (o : Op) (b : Bool) → n ≡ members_of H → op_at n bytes ≡ Ok (o, rest) → may_be_next H o ≡ b
    → grown H (entry_of_kind H 0 bytes) ≡ cond b (history_ok (Then H (Accepted o)) rest) (Err (length bytes))
op_read H n bytes rest o b m h e =
    let here : op_at (members_of H) bytes ≡ Ok (o, rest) = ap (λ k. op_at k bytes) (sym m) ∙ h in
    ap (λ r. grown H ((r >>= λ x. cond (may_be_next H x.0) (Ok x) (Err (length bytes))) >>= λ x. Ok (Accepted x.0, x.1))) here ∙ go (may_be_next H o) b e
  where
    go : (a b : Bool) → a ≡ b → grown H (cond a (op_ok o rest) (Err (length bytes)) >>= λ x. Ok (Accepted x.0, x.1)) ≡ cond b (history_ok (Then H (Accepted o)) rest) (Err (length bytes))
    go true true e = refl
    go false false e = refl
    go true false e = absurd cc
    go false true e = absurd cc

pub op_applied : (H : History) (n : ℕ) (bytes rest : List ℕ) (o : Op) → n ≡ members_of H → op_at n bytes ≡ Ok (o, rest) → applies (replay (record { history = H; waiting = [] }) o) ≡ true
    → grown H (entry_of_kind H 0 bytes) ≡ Ok (Then H (Accepted o), rest)
op_applied H n bytes rest o m h e = op_read H n bytes rest o true m h e

pub op_refused : (H : History) (n : ℕ) (bytes rest : List ℕ) (o : Op) → n ≡ members_of H → op_at n bytes ≡ Ok (o, rest) → applies (replay (record { history = H; waiting = [] }) o) ≡ false
    → grown H (entry_of_kind H 0 bytes) ≡ Err (length bytes)
op_refused H n bytes rest o m h e = op_read H n bytes rest o false m h e

-- ---- by the kind

pub kind_fails : (e : ReadError) (H : History) (bytes : List ℕ) → Fails e (kind_at bytes) → Fails e (next_at H bytes)
unfolding next_at entry_at
kind_fails e H bytes h = fails_then e (entry_at H bytes) _ (fails_then e (kind_at bytes >>= λ k. entry_of_kind H k.0 k.1) _ (fails_then e (kind_at bytes) _ h))

abbrev ruled : History → ℕ → Read Entry → Read History
ruled H left r = grown H (r >>= λ x. cond (is_new H x.0) (Ok x) (Err left))

kind_is : (H : History) (bytes rest : List ℕ) (k : ℕ) → kind_at bytes ≡ Ok (k, rest) → next_at H bytes ≡ ruled H (length bytes) (entry_of_kind H k rest)
unfolding next_at entry_at
kind_is H bytes rest k h = ap (λ r. ruled H (length bytes) (r >>= λ x. entry_of_kind H x.0 x.1)) h

-- an accepted operation
pub kind_zero : (H : History) (bytes rest : List ℕ) → kind_at bytes ≡ Ok (0, rest) → next_at H bytes ≡ grown H (entry_of_kind H 0 rest)
kind_zero H bytes rest h = kind_is H bytes rest 0 h ∙ go (with_rule (may_be_next H) (op_at (members_of H)) rest)
  where
    go : (r : Read Op) → ruled H (length bytes) (r >>= λ o. Ok (Accepted o.0, o.1)) ≡ grown H (r >>= λ o. Ok (Accepted o.0, o.1))
    go (Ok x) = refl
    go (Err e) = refl

-- an acknowledgement
abbrev IsOther : ℕ → Type 0
IsOther k = k ≡ 0 → ⊥

other_fails : (e : ReadError) (H : History) (left k n : ℕ) (rest : List ℕ) → IsOther k → n ≡ members_of H → Fails e (acknowledgement_at n rest) → Fails e (ruled H left (entry_of_kind H k rest))
other_fails e H left zero n rest o m h = absurd (o refl)
other_fails e H left (suc k) n rest o m h =
    let here : Fails e (acknowledgement_at (members_of H) rest) = subst (λ j. Fails e (acknowledgement_at j rest)) m h in
    fails_then e (acknowledgement_at (members_of H) rest >>= λ x. cond (is_new H x.0) (Ok x) (Err left)) _ (fails_then e (acknowledgement_at (members_of H) rest) _ here)

pub noted_fails : (e : ReadError) (H : History) (bytes rest : List ℕ) (k n : ℕ) → kind_at bytes ≡ Ok (k, rest) → IsOther k → n ≡ members_of H → Fails e (acknowledgement_at n rest) → Fails e (next_at H bytes)
noted_fails e H bytes rest k n h o m f = subst (λ r. Fails e r) (sym (kind_is H bytes rest k h)) (other_fails e H (length bytes) k n rest o m f)

other_read : (H : History) (left k n a : ℕ) (v rest after : List ℕ) → IsOther k → n ≡ members_of H → acknowledgement_at n rest ≡ Ok (Acknowledged a v, after)
    → ruled H left (entry_of_kind H k rest) ≡ cond (is_counted H a v) (history_ok (Then H (Acknowledged a v)) after) (Err left)
other_read H left zero n a v rest after o m h = absurd (o refl)
other_read H left (suc k) n a v rest after o m h =
    let here : acknowledgement_at (members_of H) rest ≡ Ok (Acknowledged a v, after) = ap (λ j. acknowledgement_at j rest) (sym m) ∙ h in
    ap (ruled H left) here ∙ go (is_counted H a v)
  where
    go : (b : Bool) → grown H (cond b (entry_ok (Acknowledged a v) after) (Err left)) ≡ cond b (history_ok (Then H (Acknowledged a v)) after) (Err left)
    go true = refl
    go false = refl

pub noted_read : (H : History) (bytes rest after : List ℕ) (k n a : ℕ) (v : List ℕ) (b : Bool) → kind_at bytes ≡ Ok (k, rest) → IsOther k → n ≡ members_of H → acknowledgement_at n rest ≡ Ok (Acknowledged a v, after) → b ≡ is_counted H a v
    → next_at H bytes ≡ cond b (history_ok (Then H (Acknowledged a v)) after) (Err (length bytes))
noted_read H bytes rest after k n a v b h o m r e =
    kind_is H bytes rest k h ∙ other_read H (length bytes) k n a v rest after o m r ∙ ap (λ x. cond x (history_ok (Then H (Acknowledged a v)) after) (Err (length bytes))) (sym e)

-- ---- one after another

more_left : (count i : ℕ) → i < count → count - i ≡ suc (count - (i + 1))
more_left count i lt = omega arith

pub events_on : (H K : History) (count i : ℕ) (bytes after : List ℕ) (total : Read History) → i < count → next_at H bytes ≡ Ok (K, after) → steps_at entry_at Then H (count - i) bytes ≡ total
    → steps_at entry_at Then K (count - (i + 1)) after ≡ total
unfolding steps_at next_at
events_on H K count i bytes after total lt h so_far =
    let m : ℕ = count - (i + 1) in
    let b = bind_ok (entry_at H bytes) (λ e. Ok (Then H e.0, e.1)) (K, after) h in
    let pair = ok_is (Then H b.0.0, b.0.1) (K, after) b.2 in
    ap (λ (q : History × List ℕ). steps_at entry_at Then q.0 m q.1) (sym pair)
    ∙ sym (ap (λ r. r >>= λ first. steps_at entry_at Then (Then H first.0) m first.1) b.1)
    ∙ ap (λ n. steps_at entry_at Then H n bytes) (sym (more_left count i lt))
    ∙ so_far

left_is : {B : Type 0} (d left : ℕ) → err_of B d ≡ err_of B left → d ≡ left
left_is d left h = cc

pub fails_before : {A B C : Type 0} (e : ReadError) (r : Result A ℕ) (f : A → Result B ℕ) (g : A → Result C ℕ) → ((x : A) (left : ℕ) → f x ≡ Err left → ⊥) → Fails e (r >>= f) → Fails e (r >>= g)
fails_before OutOfMemory r f g never h = tt
fails_before (Fault left) (Ok x) f g never h = absurd (never x left h)
fails_before {B = B} (Fault left) (Err d) f g never h = ap (λ n. Err n) (left_is {B = B} d left h)

pub events_fail : (e : ReadError) (H : History) (count i : ℕ) (bytes : List ℕ) (total : Read History) → i < count → Fails e (next_at H bytes) → steps_at entry_at Then H (count - i) bytes ≡ total → Fails e total
unfolding steps_at next_at
events_fail e H count i bytes total lt h so_far =
    let m : ℕ = count - (i + 1) in
    let here = fails_before e (entry_at H bytes) (λ x. Ok (Then H x.0, x.1)) (λ first. steps_at entry_at Then (Then H first.0) m first.1) (λ x left q. absurd cc) h in
    subst (λ r. Fails e r) (ap (λ n. steps_at entry_at Then H n bytes) (sym (more_left count i lt)) ∙ so_far) here

pub events_done : (H : History) (count i : ℕ) (bytes : List ℕ) (total : Read History) → count ≤ i → steps_at entry_at Then H (count - i) bytes ≡ total → total ≡ Ok (H, bytes)
unfolding steps_at
events_done H count i bytes total le so_far =
    let n : count - i ≡ 0 = omega arith in
    sym so_far ∙ ap (λ k. steps_at entry_at Then H k bytes) n

-- the numbers of the head stay
steps_keep : (f : History → ℕ) → ((H : History) (e : Entry) → f (Then H e) ≡ f H) → (n : ℕ) (H K : History) (bytes rest : List ℕ) → steps_at entry_at Then H n bytes ≡ Ok (K, rest) → f K ≡ f H
unfolding steps_at
steps_keep f same zero H K bytes rest h = ap (λ (q : History × List ℕ). f q.0) (sym (ok_is (H, bytes) (K, rest) h))
steps_keep f same (suc n) H K bytes rest h =
    let b = bind_ok (entry_at H bytes) (λ first. steps_at entry_at Then (Then H first.0) n first.1) (K, rest) h in
    steps_keep f same n (Then H b.0.0) K b.0.1 rest b.2 ∙ same H b.0.0

pub steps_members : (n : ℕ) (H K : History) (bytes rest : List ℕ) → steps_at entry_at Then H n bytes ≡ Ok (K, rest) → members_of K ≡ members_of H
steps_members n H K bytes rest h = steps_keep members_of (λ G e. refl) n H K bytes rest h

pub steps_me : (n : ℕ) (H K : History) (bytes rest : List ℕ) → steps_at entry_at Then H n bytes ≡ Ok (K, rest) → me_of K ≡ me_of H
steps_me n H K bytes rest h = steps_keep me_of (λ G e. refl) n H K bytes rest h

-- so many parts were read
pub length-chain : {A : Type 0} (part : Option A → List ℕ → Read A) (before : Option A) (n : ℕ) (bytes : List ℕ) (xs : List A) (rest : List ℕ) → chain_at part before n bytes ≡ Ok (xs, rest) → length xs ≡ n
unfolding chain_at
length-chain part before zero bytes xs rest h = ap (λ q. length q.0) (sym (ok_is ([], bytes) (xs, rest) h))
length-chain part before (suc n) bytes xs rest h =
    let b = bind_ok (part before bytes) (λ first. chain_at part (Some first.0) n first.1 >>= λ others. Ok (first.0 ∷ others.0, others.1)) (xs, rest) h in
    let d = bind_ok (chain_at part (Some b.0.0) n b.0.1) (λ others. Ok (b.0.0 ∷ others.0, others.1)) (xs, rest) b.2 in
    ap (λ q. length q.0) (sym (ok_is (b.0.0 ∷ d.0.0, d.0.1) (xs, rest) d.2)) ∙ ap suc (length-chain part (Some b.0.0) n b.0.1 d.0.0 d.0.1 d.1)
