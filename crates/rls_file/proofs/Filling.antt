-- A journal after its head, part by part.
use Rattle.std.proofs.Common.{◌≡◌, ℕ, List, Option, None, Ok, Err, refl, sym, ap, ◌∙◌, subst}
use Rattle.std.specs.Prelude.{nat_lt}
use Rattle.std.specs.Int.{w32, w64}
use Rattle.rls_ops.specs.declared.op.Op.{Op}
use Rattle.rls_codec.specs.declared.fault.ReadError.{ReadError}
use Rattle.rls_codec.specs.Gives.{Fails}
use Rattle.rls_codec.specs.Reading.{Read, ◌>>=◌, with_rule, number_at, chain_at, counted_at, op_at, is_member_count}
use Rattle.rls_model.specs.History.{History, Fresh, Then, me_of, members_of}
use Rattle.rls_model.specs.History.{count as count_in}
use Rattle.rls_model.specs.Receiving.{State}
use Rattle.rls_parts.specs.Rules.{may_wait}
use Rattle.rls_file.specs.Files.{Content, Journal}
use Rattle.rls_file.specs.ReadingFiles.{steps_at, entry_at, journal_at}
use Rattle.rls_file.specs.ReadingJournals.{waiting_at, filled_at, after_form_at}
use Rattle.rls_file.proofs.Events.{fails_then, steps_members, steps_me}

abbrev state_ok : History → List Op → List ℕ → Read State
state_ok H W rest = Ok (record { history = H; waiting = W }, rest)

abbrev with_waiting : History → Read (List Op) → Read State
with_waiting H r = r >>= λ W. state_ok H W.0 W.1

abbrev behind_events : Read History → Read State
behind_events r = r >>= λ H. with_waiting H.0 (counted_at (waiting_at H.0) H.1)

pub fill_fails : (e : ReadError) (H : History) (bytes : List ℕ) → Fails e (number_at w32 bytes) → Fails e (filled_at H bytes)
unfolding filled_at
fill_fails e H bytes h = fails_then e (number_at w32 bytes) _ h

counted_is : (H : History) (bytes rest : List ℕ) (n : ℕ) → number_at w32 bytes ≡ Ok (n, rest) → filled_at H bytes ≡ behind_events (steps_at entry_at Then H n rest)
unfolding filled_at
counted_is H bytes rest n h = ap (λ r. r >>= λ c. behind_events (steps_at entry_at Then H c.0 c.1)) h

pub fill_stops : (e : ReadError) (H : History) (bytes rest : List ℕ) (n : ℕ) → number_at w32 bytes ≡ Ok (n, rest) → Fails e (steps_at entry_at Then H n rest) → Fails e (filled_at H bytes)
fill_stops e H bytes rest n h f = subst (λ r. Fails e r) (sym (counted_is H bytes rest n h)) (fails_then e (steps_at entry_at Then H n rest) _ f)

events_is : (H K : History) (bytes rest middle : List ℕ) (n : ℕ) → number_at w32 bytes ≡ Ok (n, rest) → steps_at entry_at Then H n rest ≡ Ok (K, middle) → filled_at H bytes ≡ with_waiting K (counted_at (waiting_at K) middle)
events_is H K bytes rest middle n h s = counted_is H bytes rest n h ∙ ap behind_events s

pub fill_uncounted : (e : ReadError) (H K : History) (bytes rest middle : List ℕ) (n : ℕ) → number_at w32 bytes ≡ Ok (n, rest) → steps_at entry_at Then H n rest ≡ Ok (K, middle) → Fails e (number_at w32 middle) → Fails e (filled_at H bytes)
fill_uncounted e H K bytes rest middle n h s f =
    subst (λ r. Fails e r) (sym (events_is H K bytes rest middle n h s)) (fails_then e (counted_at (waiting_at K) middle) _ (fails_then e (number_at w32 middle) _ f))

all_is : (H K : History) (bytes rest middle later : List ℕ) (n m : ℕ) → number_at w32 bytes ≡ Ok (n, rest) → steps_at entry_at Then H n rest ≡ Ok (K, middle) → number_at w32 middle ≡ Ok (m, later)
    → filled_at H bytes ≡ with_waiting K (chain_at (waiting_at K) None m later)
all_is H K bytes rest middle later n m h s c = events_is H K bytes rest middle n h s ∙ ap (λ r. with_waiting K (r >>= λ x. chain_at (waiting_at K) None x.0 x.1)) c

pub fill_ends : (e : ReadError) (H K : History) (bytes rest middle later : List ℕ) (n m : ℕ) → number_at w32 bytes ≡ Ok (n, rest) → steps_at entry_at Then H n rest ≡ Ok (K, middle) → number_at w32 middle ≡ Ok (m, later)
    → Fails e (chain_at (waiting_at K) None m later) → Fails e (filled_at H bytes)
fill_ends e H K bytes rest middle later n m h s c f = subst (λ r. Fails e r) (sym (all_is H K bytes rest middle later n m h s c)) (fails_then e (chain_at (waiting_at K) None m later) _ f)

pub fill_done : (H K : History) (W : List Op) (bytes rest middle later end : List ℕ) (n m : ℕ) → number_at w32 bytes ≡ Ok (n, rest) → steps_at entry_at Then H n rest ≡ Ok (K, middle) → number_at w32 middle ≡ Ok (m, later)
    → chain_at (waiting_at K) None m later ≡ Ok (W, end) → filled_at H bytes ≡ state_ok K W end
fill_done H K W bytes rest middle later end n m h s c w = all_is H K bytes rest middle later n m h s c ∙ ap (with_waiting K) w

-- ---- after the head

abbrev journal_waiting : ℕ → ℕ → History → Option Op → List ℕ → Read Op
journal_waiting members me K before bytes = with_rule (may_wait members me (count_in K) before) (op_at members) bytes

abbrev behind_read : ℕ → ℕ → Read History → Read State
behind_read members me r = r >>= λ K. with_waiting K.0 (counted_at (journal_waiting members me K.0) K.1)

same_waiting : (members me : ℕ) (r : Read History) → ((K : History) (rest : List ℕ) → r ≡ Ok (K, rest) → (members_of K ≡ members) × (me_of K ≡ me)) → behind_events r ≡ behind_read members me r
same_waiting members me (Ok x) keeps =
    let k = keeps x.0 x.1 refl in
    ap (λ n. with_waiting x.0 (counted_at (journal_waiting n (me_of x.0) x.0) x.1)) k.0 ∙ ap (λ a. with_waiting x.0 (counted_at (journal_waiting members a x.0) x.1)) k.1
same_waiting members me (Err e) keeps = refl

pub filled_is : (group me members : ℕ) (bytes : List ℕ) → filled_at (Fresh group me members) bytes ≡ journal_at group members me bytes
unfolding filled_at journal_at
filled_is group me members bytes = go (number_at w32 bytes)
  where
    go : (r : Read ℕ) → (r >>= λ c. behind_events (steps_at entry_at Then (Fresh group me members) c.0 c.1)) ≡ (r >>= λ c. behind_read members me (steps_at entry_at Then (Fresh group me members) c.0 c.1))
    go (Ok x) = same_waiting members me (steps_at entry_at Then (Fresh group me members) x.0 x.1)
        (λ K rest h. (steps_members x.0 (Fresh group me members) K x.1 rest h, steps_me x.0 (Fresh group me members) K x.1 rest h))
    go (Err e) = refl

-- as a content
abbrev pub as_content : Read State → Read Content
as_content r = r >>= λ s. Ok (Journal s.0, s.1)

pub content_fails : (e : ReadError) (group me members : ℕ) (bytes : List ℕ) → Fails e (filled_at (Fresh group me members) bytes) → Fails e (as_content (journal_at group members me bytes))
content_fails e group me members bytes h = fails_then e (journal_at group members me bytes) _ (subst (λ r. Fails e r) (filled_is group me members bytes) h)

pub content_done : (group me members : ℕ) (bytes rest : List ℕ) (t : State) → filled_at (Fresh group me members) bytes ≡ Ok (t, rest) → as_content (journal_at group members me bytes) ≡ Ok (Journal t, rest)
content_done group me members bytes rest t h = ap as_content (sym (filled_is group me members bytes) ∙ h)

head_is : (group me members : ℕ) (bytes one two three : List ℕ) → number_at w64 bytes ≡ Ok (group, one) → with_rule is_member_count (number_at w32) one ≡ Ok (members, two)
    → with_rule (λ n. nat_lt n members) (number_at w32) two ≡ Ok (me, three) → after_form_at bytes ≡ as_content (journal_at group members me three)
unfolding after_form_at
head_is group me members bytes one two three g n m =
    ap (λ r. r >>= λ x. with_rule is_member_count (number_at w32) x.1 >>= λ y. with_rule (λ k. nat_lt k y.0) (number_at w32) y.1 >>= λ z. as_content (journal_at x.0 y.0 z.0 z.1)) g
    ∙ ap (λ r. r >>= λ y. with_rule (λ k. nat_lt k y.0) (number_at w32) y.1 >>= λ z. as_content (journal_at group y.0 z.0 z.1)) n
    ∙ ap (λ r. r >>= λ z. as_content (journal_at group members z.0 z.1)) m

pub journal_fails : (e : ReadError) (group me members : ℕ) (bytes one two three : List ℕ) → number_at w64 bytes ≡ Ok (group, one) → with_rule is_member_count (number_at w32) one ≡ Ok (members, two)
    → with_rule (λ n. nat_lt n members) (number_at w32) two ≡ Ok (me, three) → Fails e (filled_at (Fresh group me members) three) → Fails e (after_form_at bytes)
journal_fails e group me members bytes one two three g n m f = subst (λ r. Fails e r) (sym (head_is group me members bytes one two three g n m)) (content_fails e group me members three f)

pub journal_done : (group me members : ℕ) (bytes one two three rest : List ℕ) (t : State) → number_at w64 bytes ≡ Ok (group, one) → with_rule is_member_count (number_at w32) one ≡ Ok (members, two)
    → with_rule (λ n. nat_lt n members) (number_at w32) two ≡ Ok (me, three) → filled_at (Fresh group me members) three ≡ Ok (t, rest) → after_form_at bytes ≡ Ok (Journal t, rest)
journal_done group me members bytes one two three rest t g n m f = head_is group me members bytes one two three g n m ∙ content_done group me members three rest t f
