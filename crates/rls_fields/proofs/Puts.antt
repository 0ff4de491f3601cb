-- Parts that are put one after another.
use Rattle.std.proofs.Common.{◌≡◌, ℕ, zero, suc, ◌+◌, ◌-◌, ◌*◌, ◌<◌, ◌≤◌, ◌^◌, true, false, List, [], ◌∷◌, ◌++◌, length, map, get_or, drop, Option, Some, None, refl, sym, ap, subst, ◌∙◌, append_assoc, arith}
use Rattle.std.specs.Prelude.{All, sum_by, ◌==◌, if◌then◌else◌}
use Rattle.std.specs.List.{flat_map, concat}
use Rattle.std.specs.Option.{option_map}
use Rattle.std.proofs.lemmas.List.{append-nil, drop_all, length-append, map-append}
use Rattle.std.proofs.lemmas.List.Elements.{All-append, All-cons, All-nil}
use Rattle.std.proofs.lemmas.List.Sums.{sum_by-cons}
use Rattle.std.proofs.lemmas.Bool.{ne_eqb}
use Rattle.rls_ident.proofs.Members.{bool_cases, eq_is, some_is}
use Rattle.rls_ident.specs.declared.epoch_name.EpochName.{EpochName}
use Rattle.rls_ident.specs.declared.epoch_name.EpochName.TheVariants.{Origin, Of}
use Rattle.rls_ident.specs.declared.tuple.Tuple.{Tuple}
use Rattle.rls_rename.specs.Tree.{Node}
use Rattle.rls_ops.specs.Rows.{AcksSeen, row_of, left}
use Rattle.rls_ops.specs.Sizes.{name_size, runs_size}
use Rattle.rls_ops.specs.Spelling.{four_bytes, counted}
use Rattle.rls_model.specs.declared.parts.Stem.{Stem}
use Rattle.rls_model.specs.declared.parts.EpochPart.{EpochPart}
use Rattle.rls_model.specs.declared.parts.TextRun.{TextRun}
use Rattle.rls_model.specs.Parts.{epoch_part, epoch_parts, node_of, top_part}
use Rattle.rls_blocks.specs.Trees.{Piece}
use Rattle.rls_codec.proofs.Appending.{flat_map_pushed}
use Rattle.rls_seen.specs.Kept.{other_rows, left_below}
use Rattle.rls_parts.specs.Blocks.{run_with_text, runs_with_texts}
use Rattle.rls_fields.specs.FieldSizes.{epoch_size, rest_size, opening, text_run_size}
use Rattle.rls_fields.specs.Fields.{stem_bytes, own_of, others_of, stems_bytes}
use Rattle.rls_fields.specs.Written.{FitsChars, FitsFormer}

pub sum_pushed : {A : Type 0} (f : A → ℕ) (xs : List A) (x : A) → sum_by f (xs ++ x ∷ []) ≡ sum_by f xs + f x
sum_pushed f [] x = omega (arith, sum_by-cons f x [])
sum_pushed f (y ∷ ys) x = omega (arith, sum_by-cons f y (ys ++ x ∷ []), sum_by-cons f y ys, sum_pushed f ys x)

-- one more part is put
pub put_one : {A : Type 0} (f : A → List ℕ) (xs ys : List A) (x : A) (out before after : List ℕ) → ys ≡ xs ++ x ∷ [] → before ≡ out ++ flat_map f xs → after ≡ before ++ f x → after ≡ out ++ flat_map f ys
put_one f xs ys x out before after e h g =
    g ∙ ap (λ w. w ++ f x) h ∙ append_assoc out (flat_map f xs) (f x) ∙ ap (λ w. out ++ w) (sym (ap (flat_map f) e ∙ flat_map_pushed f xs x))

-- ---- members

-- the row of the next member, unless it is the own one
pub row_more : (acks : AcksSeen) (n : ℕ) → (n ≡ acks.me → ⊥) → other_rows acks (n + 1) ≡ other_rows acks n ++ row_of acks n ∷ []
row_more acks n d = let s : n + 1 ≡ suc n = omega arith in ap (other_rows acks) s ∙ rw (ne_eqb n acks.me d) refl

pub left_more : (acks : AcksSeen) (n : ℕ) → left acks n ≡ true → left_below acks (n + 1) ≡ left_below acks n ++ n ∷ []
left_more acks n e = let s : n + 1 ≡ suc n = omega arith in ap (left_below acks) s ∙ rw e refl

-- ---- what is left of a list

-- a part is put, and the others follow
pub put_next : {A : Type 0} (f : A → List ℕ) (x : A) (xs ys : List A) (before after total : List ℕ) → ys ≡ x ∷ xs → after ≡ before ++ f x → before ++ flat_map f ys ≡ total → after ++ flat_map f xs ≡ total
put_next f x xs ys before after total e g h = ap (λ w. w ++ flat_map f xs) g ∙ append_assoc before (f x) (flat_map f xs) ∙ ap (λ zs. before ++ flat_map f zs) (sym e) ∙ h

pub sum_next : {A : Type 0} (f : A → ℕ) (x : A) (xs ys : List A) → ys ≡ x ∷ xs → sum_by f ys ≡ f x + sum_by f xs
sum_next f x xs ys e = ap (sum_by f) e ∙ sum_by-cons f x xs

-- a part fits, and the others do that follow
pub fit_next : {A : Type 0} (F : A → Type 0) (x : A) (xs ys : List A) {T : Type 0} → ys ≡ x ∷ xs → F x → (All F ys → T) → All F xs → T
fit_next F x xs ys e f h k = h (subst (All F) (sym e) (All-cons F x xs f k))

pub none_left : {A : Type 0} (F : A → Type 0) (i : ℕ) (xs : List A) → length xs ≤ i → All F (drop i xs)
none_left F i xs le = subst (All F) (sym (drop_all i xs le)) (All-nil F)

-- ---- stems, author by author

-- what others have isn't touched by leaving an author out
others_own : (a b : ℕ) (ss : List Stem) → (b ≡ a → ⊥) → own_of b (others_of a ss) ≡ own_of b ss
others_own a b [] d = refl
others_own a b (s ∷ ss) d =
    let rest = others_own a b ss d in
    bool_cases (s.author == a)
    (λ e. let f : (s.author == b) ≡ false = ne_eqb s.author b (λ h. d (sym h ∙ eq_is s.author a e)) in rw (e, f) rest)
    (λ e. rw e (ap (λ xs. if s.author == b then s ∷ xs else xs) rest))

-- the stems of n authors from this one on
abbrev pub by_author : ℕ → ℕ → List Stem → List ℕ
by_author a zero ss = []
by_author a (suc n) ss = counted (stem_bytes 4) (own_of a ss) ++ by_author (suc a) n ss

authors_are : (a n : ℕ) (ss all : List Stem) → ((b : ℕ) → a ≤ b → own_of b ss ≡ own_of b all) → stems_bytes 4 a n ss ≡ by_author a n all
authors_are a zero ss all h = refl
authors_are a (suc n) ss all h =
    ap (λ own. counted (stem_bytes 4) own ++ stems_bytes 4 (suc a) n (others_of a ss)) (h a (omega arith))
    ∙ ap (λ w. counted (stem_bytes 4) (own_of a all) ++ w) (authors_are (suc a) n (others_of a ss) all (λ b l. others_own a b ss (λ e. omega (arith, e, l)) ∙ h b (omega arith)))

pub stems_are : (n : ℕ) (ss : List Stem) → stems_bytes 4 0 n ss ≡ by_author 0 n ss
stems_are n ss = authors_are 0 n ss ss (λ b l. refl)

-- one more author's are put
pub author_next : (n i : ℕ) (ss : List Stem) (before after total : List ℕ) → i < n → after ≡ before ++ counted (stem_bytes 4) (own_of i ss) → before ++ by_author i (n - i) ss ≡ total → after ++ by_author (i + 1) (n - (i + 1)) ss ≡ total
author_next n i ss before after total lt g h =
    let k : n - i ≡ suc (n - (i + 1)) = omega arith in
    let next : suc i ≡ i + 1 = omega arith in
    let own = counted (stem_bytes 4) (own_of i ss) in
    ap (λ w. w ++ by_author (i + 1) (n - (i + 1)) ss) g
    ∙ append_assoc before own (by_author (i + 1) (n - (i + 1)) ss)
    ∙ ap (λ a. before ++ (own ++ by_author a (n - (i + 1)) ss)) (sym next)
    ∙ ap (λ m. before ++ by_author i m ss) (sym k)
    ∙ h

pub authors_end : (n i : ℕ) (ss : List Stem) (before total : List ℕ) → n ≤ i → before ++ by_author i (n - i) ss ≡ total → before ≡ total
authors_end n i ss before total le h =
    let k : n - i ≡ 0 = omega arith in
    sym (append-nil before) ∙ ap (λ m. before ++ by_author i m ss) (sym k) ∙ h

-- ---- sizes of stems

own_total : (ss : List Stem) → length (flat_map (stem_bytes 4) ss) ≡ 12 * length ss
own_total [] = refl
own_total (s ∷ ss) = omega (arith, length-append (stem_bytes 4 s) (flat_map (stem_bytes 4) ss), own_total ss)

pub author_total : (n i : ℕ) (ss : List Stem) → i < n → length (by_author i (n - i) ss) ≡ 4 + 12 * length (own_of i ss) + length (by_author (i + 1) (n - (i + 1)) ss)
author_total n i ss lt =
    let k : n - i ≡ suc (n - (i + 1)) = omega arith in
    let next : suc i ≡ i + 1 = omega arith in
    let own = counted (stem_bytes 4) (own_of i ss) in
    let all : length (by_author i (n - i) ss) ≡ length (own ++ by_author (i + 1) (n - (i + 1)) ss) = ap (λ m. length (by_author i m ss)) k ∙ ap (λ a. length (own ++ by_author a (n - (i + 1)) ss)) next in
    omega (arith, all, length-append own (by_author (i + 1) (n - (i + 1)) ss), length-append (four_bytes (length (own_of i ss))) (flat_map (stem_bytes 4) (own_of i ss)), own_total (own_of i ss))

pub author_none : (n i : ℕ) (ss : List Stem) → n ≤ i → length (by_author i (n - i) ss) ≡ 0
author_none n i ss le = let k : n - i ≡ 0 = omega arith in ap (λ m. length (by_author i m ss)) k

own_fewer : (a : ℕ) (ss : List Stem) → length (own_of a ss) ≤ length ss
own_fewer a [] = omega arith
own_fewer a (s ∷ ss) =
    let rest = own_fewer a ss in
    bool_cases (s.author == a) (λ e. rw e (omega (arith, rest))) (λ e. rw e (omega (arith, rest)))

pub few_own : (a : ℕ) (ss : List Stem) → length ss < 2 ^ 32 → length (own_of a ss) < 2 ^ 32
few_own a ss h = omega (arith, own_fewer a ss)

-- ---- numbers before lists

pub counted_put : {A : Type 0} (f : A → List ℕ) (xs : List A) (n : ℕ) (out before after : List ℕ) → n ≡ length xs → before ≡ out ++ four_bytes n → after ≡ before ++ flat_map f xs → after ≡ out ++ counted f xs
counted_put f xs n out before after e g h =
    h ∙ ap (λ w. w ++ flat_map f xs) g ∙ append_assoc out (four_bytes n) (flat_map f xs) ∙ ap (λ m. out ++ (four_bytes m ++ flat_map f xs)) e

pub three_puts : (o p q r a b c : List ℕ) → p ≡ o ++ a → q ≡ p ++ b → r ≡ q ++ c → r ≡ o ++ concat (a ∷ b ∷ c ∷ [])
three_puts o p q r a b c h1 h2 h3 = rw (h3, h2, h1) (simp (append_assoc, append-nil))

-- ---- epochs

name_some : (e : EpochName) → 1 ≤ name_size e
name_some Origin = omega arith
name_some (Of r s) = omega arith

epochs_within : (es : List EpochPart) → length es ≤ sum_by epoch_size es
epochs_within [] = omega arith
epochs_within (e ∷ es) = omega (arith, sum_by-cons epoch_size e es, name_some e.name, epochs_within es)

pub map_length : {A B : Type 0} (f : A → B) (xs : List A) → length (map f xs) ≡ length xs
map_length f [] = refl
map_length f (x ∷ xs) = ap suc (map_length f xs)

pub parts_count : (nodes : List Node) (names : List EpochName) → length (epoch_parts nodes names) ≡ length names
parts_count nodes [] = refl
parts_count nodes (top ∷ es) = ap suc (map_length (λ e. epoch_part (top ∷ es) e (node_of nodes e)) es)

pub few_names : (nodes : List Node) (names : List EpochName) → sum_by epoch_size (epoch_parts nodes names) < 2 ^ 32 → length names < 2 ^ 32
few_names nodes names h = omega (arith, h, epochs_within (epoch_parts nodes names), parts_count nodes names)

-- the topmost epoch, and the others
pub list_is : (nodes : List Node) (names others : List EpochName) (top : EpochName) → names ≡ top ∷ others → epoch_parts nodes names ≡ top_part top ∷ map (λ e. epoch_part names e (node_of nodes e)) others
list_is nodes names others top e = ap (epoch_parts nodes) e ∙ ap (λ xs. top_part top ∷ map (λ f. epoch_part xs f (node_of nodes f)) others) (sym e)

-- the topmost epoch keeps no former identifiers
pub top_fits : (top : EpochName) → FitsFormer (top_part top)
top_fits top k e = absurd cc

pub map_next : {A B : Type 0} (f : A → B) (xs : List A) (i : ℕ) (d : A) → i < length xs → drop i (map f xs) ≡ f (get_or xs i d) ∷ drop (i + 1) (map f xs)
map_next {A} f xs i d h = go xs i h ∙ (let e : suc i ≡ i + 1 = omega arith in ap (λ k. f (get_or xs i d) ∷ drop k (map f xs)) e)
  where
    go : (ys : List A) (k : ℕ) → k < length ys → drop k (map f ys) ≡ f (get_or ys k d) ∷ drop (suc k) (map f ys)
    go [] k l = absurd (omega arith)
    go (y ∷ ys) zero l = refl
    go (y ∷ ys) (suc k) l = go ys k (omega arith)

pub small_opening : (e : EpochPart) (k : ℕ) (f : List (List Tuple)) → opening e ≡ Some (k, f) → epoch_size e < 2 ^ 32 → runs_size f < 2 ^ 32
small_opening e k f h l = go e.parent h l
  where
    go : (o : Option ℕ) → option_map {U = ℕ × List (List Tuple)} (λ j. (j, e.former)) o ≡ Some (k, f) → name_size e.name + rest_size e o < 2 ^ 32 → runs_size f < 2 ^ 32
    go None p q = absurd cc
    go (Some j) p q = let same : e.former ≡ f = ap (λ (x : ℕ × List (List Tuple)). x.1) (some_is (j, e.former) (k, f) p) in omega (arith, ap runs_size same, q)

-- ---- runs of the text

pub runs_within : (rs : List TextRun) → length rs ≤ sum_by text_run_size rs
runs_within [] = omega arith
runs_within (r ∷ rs) = omega (arith, sum_by-cons text_run_size r rs, runs_within rs)

pub blocks_count : (bs : List Piece) → length (runs_with_texts bs) ≡ length bs
blocks_count bs = map_length run_with_text bs

-- those of a node, and those of both its sides
pub blocks_fit : (bs ls rs : List Piece) (b : Piece) → bs ≡ ls ++ b ∷ rs → All FitsChars (runs_with_texts ls) → FitsChars (run_with_text b) → All FitsChars (runs_with_texts rs) → All FitsChars (runs_with_texts bs)
blocks_fit bs ls rs b e f g h =
    subst (λ (xs : List Piece). All FitsChars (runs_with_texts xs)) (sym e)
    (subst (All FitsChars) (sym (map-append run_with_text ls (b ∷ rs))) (All-append FitsChars (runs_with_texts ls) (runs_with_texts (b ∷ rs)) f (All-cons FitsChars (run_with_text b) (runs_with_texts rs) g h)))
