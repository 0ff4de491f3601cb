-- The formats of the parts of a snapshot, and of a snapshot after its head.
use Rattle.std.proofs.Common.{◌≡◌, ℕ, zero, suc, ◌-◌, ◌≤◌, Bool, true, false, cond, List, [], ◌∷◌, ◌++◌, length, Option, Some, None, Ok, refl, sym, ap, subst, ◌∙◌, arith}
use Rattle.std.specs.Prelude.{pos, FitsSigned, MatchBool, ◌==◌, ◌&&◌, nat_lt}
use Rattle.std.specs.List.{concat, flat_map}
use Rattle.std.specs.Int.{w32}
use Rattle.std.proofs.lemmas.List.{append-nil}
use Rattle.std.proofs.lemmas.Bool.{ne_eqb, eq-eqb}
use Rattle.rls_ops.specs.Spelling.{four_bytes, signed_bytes, counted, runs_bytes, name_bytes, vector_bytes, op_bytes}
use Rattle.rls_ops.specs.WellFormed.{IsSmall}
use Rattle.rls_codec.specs.Reading.{signed_at, counted_at, vector_at, op_at}
use Rattle.rls_codec.specs.Spelled.{Chained, FitsVector, IsSpelled}
use Rattle.rls_codec.proofs.Formats.{Spells, done, field, fitting, spelling, seen, ruled, chain, counted_parts}
use Rattle.rls_codec.proofs.PartFormats.{small, signed, next_run, vector, name, text}
use Rattle.rls_codec.proofs.MessageFormats.{runs, op}
use Rattle.rls_model.specs.declared.parts.Stem.{Stem}
use Rattle.rls_model.specs.declared.parts.EpochPart.{EpochPart}
use Rattle.rls_model.specs.declared.parts.TextRun.{TextRun}
use Rattle.rls_model.specs.declared.parts.Parts.{Parts}
use Rattle.rls_file.specs.Files.{stem_bytes, rest_of_epoch, epoch_bytes, text_run_bytes, own_of, others_of, stems_bytes}
use Rattle.rls_file.specs.ReadingFiles.{is_above, left_at, stem_at, stems_at, snapshot_at, epoch_at, run_before, text_run_at, ops_at}
use Rattle.rls_file.specs.SpelledFiles.{FitLefts, FitsStem, AreOwn, Grouped, FitsEpoch, FitsTextRun, FitOps, IsSpelledParts}

-- a member that has left
left : (members : ℕ) (before : Option ℕ) → Spells (left_at members before) four_bytes (λ n. IsSmall n × ((nat_lt n members && is_above before n) ≡ true))
left members before = ruled (λ n. nat_lt n members && is_above before n) small

pub lefts : (members : ℕ) → Spells (counted_at (left_at members)) (counted four_bytes) (FitLefts members)
lefts members = counted_parts (left_at members) four_bytes (λ before n. IsSmall n × ((nat_lt n members && is_above before n) ≡ true)) (left members)

-- a low, which form 2 leaves out
low_by : (without : Bool) → Spells (λ bytes. cond without (Ok (pos 0, bytes)) (signed_at bytes)) (λ z. cond without [] (signed_bytes z)) (λ z. MatchBool without (z ≡ pos 0) (FitsSigned w32 z))
low_by true = done (pos 0)
low_by false = signed

pub stem : (form author : ℕ) → Spells (stem_at form author) (stem_bytes form) (FitsStem form author)
unfolding stem_at
stem form author = fitting (FitsStem form author)
    (field (λ s. s.s0) small (λ s0 h0. field (λ s. s.low) (low_by (form == 2)) (λ low h1. field (λ s. s.next) small (λ next h2. done (record { author = author; s0 = s0; low = low; next = next }))
    (λ next s h f. ap (λ (y : Stem). y.next) f)) (λ low s h f. ap (λ (y : Stem). y.low) f.1)) (λ s0 s h f. ap (λ (y : Stem). y.s0) f.1.1))
    (λ s f. (ap (λ (y : Stem). y.author) f.1.1.1, f.0, f.1.0, f.1.1.0))
    (λ s f. (f.1, (f.2, (f.3, ap (λ a. record s { author = a }) f.0))))

-- ---- epochs

abbrev parent_of : Option ℕ → ℕ
parent_of None = 0
parent_of (Some k) = k

pub epoch : (before : Option EpochPart) → Spells (epoch_at before) epoch_bytes (FitsEpoch before)
unfolding epoch_at
epoch None = spelling epoch_bytes
    (fitting (FitsEpoch None) (field (λ e. e.name) name (λ n h. done (record { name = n; parent = None; former = [] })) (λ n e h f. ap (λ (y : EpochPart). y.name) f))
    (λ e f. (f.0, ap (λ (y : EpochPart). y.parent) f.1, ap (λ (y : EpochPart). y.former) f.1))
    (λ e f. (f.0, made e f.1 f.2)))
    (λ e f. ap (λ p. concat (name_bytes e.name ∷ rest_of_epoch e p ∷ [])) (sym f.1))
  where
    made : (e : EpochPart) → e.parent ≡ None → e.former ≡ [] → e ≡ record { name = e.name; parent = None; former = [] }
    made e p q = ap (λ k. record e { parent = k }) p ∙ ap (λ xs. record { name = e.name; parent = None; former = xs }) q
epoch (Some before) = spelling epoch_bytes
    (fitting (FitsEpoch (Some before))
    (field (λ e. e.name) name (λ n h0. field (λ e. parent_of e.parent) small (λ k h1. field (λ e. e.former) runs (λ xs h2. done (record { name = n; parent = Some k; former = xs }))
    (λ xs e h f. ap (λ (y : EpochPart). y.former) f)) (λ k e h f. ap (λ (y : EpochPart). parent_of y.parent) f.1)) (λ n e h f. ap (λ (y : EpochPart). y.name) f.1.1))
    (λ e f. (f.0, (parent_of e.parent, ap (λ (y : EpochPart). y.parent) f.1.1.1, f.1.0), f.1.1.0))
    (λ e f. let is : parent_of e.parent ≡ f.1.0 = ap parent_of f.1.1 in (f.0, (subst IsSmall (sym is) f.1.2, (f.2, made e f.1.0 f.1.1 is)))))
    (λ e f. let is : parent_of e.parent ≡ f.1.0 = ap parent_of f.1.1 in same e f.1.0 f.1.1 is)
  where
    made : (e : EpochPart) (k : ℕ) → e.parent ≡ Some k → parent_of e.parent ≡ k → e ≡ record { name = e.name; parent = Some (parent_of e.parent); former = e.former }
    made e k p is = ap (λ q. record e { parent = q }) (p ∙ ap (λ j. Some j) (sym is))

    same : (e : EpochPart) (k : ℕ) → e.parent ≡ Some k → parent_of e.parent ≡ k → name_bytes e.name ++ (four_bytes (parent_of e.parent) ++ (runs_bytes e.former ++ [])) ≡ epoch_bytes e
    same e k p is = ap (λ w. name_bytes e.name ++ w) (ap (λ j. four_bytes j ++ (runs_bytes e.former ++ [])) is ∙ sym (append-nil (four_bytes k ++ (runs_bytes e.former ++ []))) ∙ ap (λ q. rest_of_epoch e q ++ []) (sym p))

-- ---- text runs

pub text_run : (before : Option TextRun) → Spells (text_run_at before) text_run_bytes (FitsTextRun before)
unfolding text_run_at
text_run before = fitting (FitsTextRun before)
    (field (λ r. r.run) (next_run (run_before before)) (λ x h0. field (λ r. r.text) (ruled (λ cs. length cs == x.1) text) (λ cs h1. done (record { run = x; text = cs }))
    (λ cs r h f. ap (λ (y : TextRun). y.text) f)) (λ x r h f. ap (λ (y : TextRun). y.run) f.1))
    (λ r f. (f.0, f.1.0.0, f.1.0.1)) (λ r f. (f.0, ((f.1, f.2), refl)))

pub text_runs : Spells (counted_at text_run_at) (counted text_run_bytes) (λ rs. IsSmall (length rs) × Chained FitsTextRun None rs)
text_runs = counted_parts text_run_at text_run_bytes FitsTextRun text_run

pub operations : (members : ℕ) → Spells (ops_at members) (counted op_bytes) (FitOps members)
operations members = counted_parts (λ before. op_at members) op_bytes (λ before. IsSpelled members) (λ before. op members)

-- ---- the stems of all members

abbrev FromOn : ℕ → List Stem → Type 0
FromOn a [] = Unit {0}
FromOn a (s ∷ ss) = (a ≤ s.author) × FromOn a ss

from_on_join : (a : ℕ) (xs ys : List Stem) → FromOn a xs → FromOn a ys → FromOn a (xs ++ ys)
from_on_join a [] ys f g = g
from_on_join a (x ∷ xs) ys f g = (f.0, from_on_join a xs ys f.1 g)

from_on_own : (form a : ℕ) (before : Option Stem) (ss : List Stem) → Chained (λ before. FitsStem form a) before ss → FromOn a ss
from_on_own form a before [] c = tt
from_on_own form a before (s ∷ ss) c = (omega (arith, c.0.0), from_on_own form a (Some s) ss c.1)

from_on_less : (a : ℕ) (ss : List Stem) → FromOn (suc a) ss → FromOn a ss
from_on_less a [] f = tt
from_on_less a (s ∷ ss) f = (omega (arith, f.0), from_on_less a ss f.1)

grouped_from : (form a n : ℕ) (ss : List Stem) → Grouped form a n ss → FromOn a ss
grouped_from form a zero ss g = subst (FromOn a) (sym g) tt
grouped_from form a (suc n) ss g = subst (FromOn a) (sym g.1) (from_on_join a (own_of a ss) (others_of a ss) (from_on_own form a None (own_of a ss) g.0.1) (from_on_less a (others_of a ss) (grouped_from form (suc a) n (others_of a ss) g.2)))

none_own : (a : ℕ) (ss : List Stem) → FromOn (suc a) ss → (own_of a ss ≡ []) × (others_of a ss ≡ ss)
none_own a [] f = (refl, refl)
none_own a (s ∷ ss) f =
    let e : (s.author == a) ≡ false = ne_eqb s.author a (λ h. omega (arith, h, f.0)) in
    let r = none_own a ss f.1 in
    (rw e r.0, rw e (ap (λ xs. s ∷ xs) r.1))

split_own : (form a : ℕ) (before : Option Stem) (own ys : List Stem) → Chained (λ before. FitsStem form a) before own → FromOn (suc a) ys → (own_of a (own ++ ys) ≡ own) × (others_of a (own ++ ys) ≡ ys)
split_own form a before [] ys c f = none_own a ys f
split_own form a before (s ∷ own) ys c f =
    let e : (s.author == a) ≡ true = eq-eqb s.author a c.0.0 in
    let r = split_own form a (Some s) own ys c.1 f in
    (rw e (ap (λ xs. s ∷ xs) r.0), rw e r.1)

pub stems : (form a n : ℕ) → Spells (stems_at form a n) (stems_bytes form a n) (Grouped form a n)
unfolding stems_at
stems form a zero = done []
stems form a (suc n) = fitting (Grouped form a (suc n))
    (field (own_of a) (counted_parts (λ before. stem_at form a) (stem_bytes form) (λ before. FitsStem form a) (λ before. stem form a))
    (λ own h. seen (λ ss. (own_of a ss ≡ own) × (ss ≡ own ++ others_of a ss) × Grouped form (suc a) n (others_of a ss)) (λ others. own ++ others) (others_of a) (stems form (suc a) n) (there own h) (back own)) (λ own ss h f. f.0))
    (λ ss f. (f.0, f.1.1, f.1.2)) (λ ss f. (f.0, (refl, f.1, f.2)))
  where
    there : (own : List Stem) → AreOwn form a own → (others : List Stem) → Grouped form (suc a) n others → (others_of a (own ++ others) ≡ others) × ((own_of a (own ++ others) ≡ own) × (own ++ others ≡ own ++ others_of a (own ++ others)) × Grouped form (suc a) n (others_of a (own ++ others)))
    there own h others g =
        let r = split_own form a None own others h.1 (grouped_from form (suc a) n others g) in
        (r.1, (r.0, ap (λ xs. own ++ xs) (sym r.1), subst (Grouped form (suc a) n) (sym r.1) g))

    back : (own : List Stem) (ss : List Stem) → (own_of a ss ≡ own) × (ss ≡ own ++ others_of a ss) × Grouped form (suc a) n (others_of a ss) → (own ++ others_of a ss ≡ ss) × Grouped form (suc a) n (others_of a ss)
    back own ss f = (sym f.1, f.2)

-- ---- snapshots after their head

-- the members that have left, which form 4 alone has
lefts_by : (members : ℕ) (has : Bool) → Spells (λ bytes. cond has (counted_at (left_at members) bytes) (Ok ([], bytes))) (λ ns. cond has (counted four_bytes ns) []) (λ ns. MatchBool has (FitLefts members ns) (ns ≡ []))
lefts_by members true = lefts members
lefts_by members false = done []

-- the bytes after the head
abbrev pub rest_bytes : ℕ → ℕ → Parts → List ℕ
rest_bytes form members p = concat (vector_bytes p.vector ∷ flat_map vector_bytes p.rows ∷ cond (form == 4) (counted four_bytes p.left) []
    ∷ stems_bytes form 0 members p.stems ∷ four_bytes (length p.epochs) ∷ flat_map epoch_bytes p.epochs ∷ counted text_run_bytes p.text ∷ counted op_bytes p.log ∷ counted op_bytes p.held ∷ [])

abbrev pub Head : ℕ → ℕ → ℕ → Parts → Type 0
Head group members me p = (p.group ≡ group) × (p.members ≡ members) × (p.me ≡ me)

pub snapshot : (form group members me : ℕ) → Spells (snapshot_at form group members me) (rest_bytes form members) (λ p. Head group members me p × IsSpelledParts form members p)
unfolding snapshot_at
snapshot form group members me = fitting (λ p. Head group members me p × IsSpelledParts form members p)
    (field (λ p. p.vector) (vector members) (λ v h0. field (λ p. p.rows) (chain (λ before. vector_at members) vector_bytes (λ before. FitsVector members) (λ before. vector members) None (members - 1)) (λ rows h1. field (λ p. p.left) (lefts_by members (form == 4)) (λ ls h2. field (λ p. p.stems) (stems form 0 members) (λ ss h3. field (λ p. length p.epochs) (ruled (nat_lt 0) small) (λ n h4. field (λ p. p.epochs) (chain epoch_at epoch_bytes FitsEpoch epoch None n) (λ es h5. field (λ p. p.text) text_runs (λ ts h6. field (λ p. p.log) (operations members) (λ log h7. field (λ p. p.held) (operations members) (λ held h8.
    done (record { group = group; members = members; me = me; vector = v; rows = rows; stems = ss; epochs = es; text = ts; log = log; held = held; left = ls }))
    (λ x p h f. ap (λ (y : Parts). y.held) f)) (λ x p h f. ap (λ (y : Parts). y.log) f.1)) (λ x p h f. ap (λ (y : Parts). y.text) f.1.1)) (λ x p h f. ap (λ (y : Parts). y.epochs) f.1.1.1)) (λ n p h f. f.0.0)) (λ x p h f. ap (λ (y : Parts). y.stems) f.1.1.1.1.1)) (λ x p h f. ap (λ (y : Parts). y.left) f.1.1.1.1.1.1)) (λ x p h f. ap (λ (y : Parts). y.rows) f.1.1.1.1.1.1.1)) (λ x p h f. ap (λ (y : Parts). y.vector) f.1.1.1.1.1.1.1.1))
    (λ p f. let e = f.1.1.1.1.1.1.1.1.1 in (
      (ap (λ (y : Parts). y.group) e, ap (λ (y : Parts). y.members) e, ap (λ (y : Parts). y.me) e),
      record { vector = f.0; rows = f.1.0; left = f.1.1.0; stems = f.1.1.1.0; epoch_count = f.1.1.1.1.0; epochs = f.1.1.1.1.1.0.1; text = f.1.1.1.1.1.1.0; log = f.1.1.1.1.1.1.1.0; held = f.1.1.1.1.1.1.1.1.0 },
    ))
    (λ p f. (f.1.vector, (f.1.rows, (f.1.left, (f.1.stems, (f.1.epoch_count, ((refl, f.1.epochs), (f.1.text, (f.1.log, (f.1.held, made p f.0))))))))))
  where
    made : (p : Parts) → Head group members me p → p ≡ record p { group = group; members = members; me = me }
    made p h = ap (λ g. record p { group = g }) h.0 ∙ ap (λ m. record p { group = group; members = m }) h.1 ∙ ap (λ a. record p { group = group; members = members; me = a }) h.2
