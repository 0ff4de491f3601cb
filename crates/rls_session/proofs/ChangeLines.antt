-- Lines of changes, one after another, and what a script reads of them.
use Rattle.std.proofs.Common.{◌≡◌, ◌∙◌, ◌+◌, ◌++◌, ◌<◌, ℕ, Bool, true, false, cond, List, [], ◌∷◌, length, take, get_or, Some, refl, sym, ap, add-one, append-nil, append_assoc}
use Rattle.std.specs.Prelude.{◌==◌, encode_utf8_all}
use Rattle.std.proofs.lemmas.Bool.{eqb-true}
use Rattle.std.proofs.Math.Seq.{take-suc}
use Rattle.rls_changes.specs.declared.change.Change.{Change}
use Rattle.rls_script.specs.Scripts.{put_meaning, text_behind, text_of}
use Rattle.rls_session.specs.ChangeLines.{change_lines, change_text, escaped, escaped_char}

-- ---- one after another

escaped_more : (cs ds : List ℕ) → escaped (cs ++ ds) ≡ escaped cs ++ escaped ds
escaped_more [] ds = refl
escaped_more (c ∷ cs) ds = ap (λ (x : List ℕ). escaped_char c ++ x) (escaped_more cs ds) ∙ sym (append_assoc (escaped_char c) (escaped cs) (escaped ds))

lines_more : (cs ds : List Change) → change_lines (cs ++ ds) ≡ change_lines cs ++ change_lines ds
lines_more [] ds = refl
lines_more (c ∷ cs) ds = ap (λ (x : List ℕ). change_text c ++ x) (lines_more cs ds) ∙ sym (append_assoc (change_text c) (change_lines cs) (change_lines ds))

-- one more
pub next_char : (cs : List ℕ) (c i : ℕ) (xs ys zs : List ℕ) → i < length cs → c ≡ get_or cs i c → ys ≡ xs ++ escaped (take i cs) → zs ≡ ys ++ escaped_char c → zs ≡ xs ++ escaped (take (i + 1) cs)
next_char cs c i xs ys zs l is h k =
    let m : take (i + 1) cs ≡ take i cs ++ c ∷ [] = rw add-one (take-suc cs i c l ∙ ap (λ x. take i cs ++ x ∷ []) (sym is)) in
    let a : escaped (take i cs ++ c ∷ []) ≡ escaped (take i cs) ++ escaped_char c = escaped_more (take i cs) (c ∷ []) ∙ ap (λ (x : List ℕ). escaped (take i cs) ++ x) (append-nil (escaped_char c)) in
    k ∙ (ap (λ (x : List ℕ). x ++ escaped_char c) h ∙ (append_assoc xs (escaped (take i cs)) (escaped_char c) ∙ ap (λ (x : List ℕ). xs ++ x) (sym a ∙ sym (ap escaped m))))

pub next_line : (cs : List Change) (c : Change) (i : ℕ) (xs ys zs : List ℕ) → i < length cs → c ≡ get_or cs i c → ys ≡ xs ++ change_lines (take i cs) → zs ≡ ys ++ change_text c → zs ≡ xs ++ change_lines (take (i + 1) cs)
next_line cs c i xs ys zs l is h k =
    let m : take (i + 1) cs ≡ take i cs ++ c ∷ [] = rw add-one (take-suc cs i c l ∙ ap (λ x. take i cs ++ x ∷ []) (sym is)) in
    let a : change_lines (take i cs ++ c ∷ []) ≡ change_lines (take i cs) ++ change_text c = lines_more (take i cs) (c ∷ []) ∙ ap (λ (x : List ℕ). change_lines (take i cs) ++ x) (append-nil (change_text c)) in
    k ∙ (ap (λ (x : List ℕ). x ++ change_text c) h ∙ (append_assoc xs (change_lines (take i cs)) (change_text c) ∙ ap (λ (x : List ℕ). xs ++ x) (sym a ∙ sym (ap change_lines m))))

-- in two parts
pub in_parts : (cs ds all : List ℕ) (xs ys zs bytes : List ℕ) → cs ++ ds ≡ all → xs ≡ [] → ys ≡ xs ++ escaped cs → zs ≡ ys ++ escaped ds → bytes ≡ encode_utf8_all zs → bytes ≡ encode_utf8_all (escaped all)
in_parts cs ds all xs ys zs bytes is none first second text =
    let a : ys ≡ escaped cs = first ∙ ap (λ (x : List ℕ). x ++ escaped cs) none in
    text ∙ ap encode_utf8_all (second ∙ (ap (λ (x : List ℕ). x ++ escaped ds) a ∙ (sym (escaped_more cs ds) ∙ ap escaped is)))

-- ---- what a script reads

-- each character is read as itself
one_read : (c : ℕ) (cs : List ℕ) → text_behind false (escaped_char c ++ cs) ≡ put_meaning (Some c) (text_behind false cs)
one_read c cs = go (c == 10) (c == 13) (c == 92) refl refl refl
  where
    go : (x y z : Bool) → (c == 10) ≡ x → (c == 13) ≡ y → (c == 92) ≡ z
        → text_behind false (cond x (92 ∷ 110 ∷ []) (cond y (92 ∷ 114 ∷ []) (cond z (92 ∷ 92 ∷ []) (c ∷ []))) ++ cs) ≡ put_meaning (Some c) (text_behind false cs)
    go true y z e f g = let is : c ≡ 10 = eqb-true c 10 e in rw is refl
    go false true z e f g = let is : c ≡ 13 = eqb-true c 13 f in rw is refl
    go false false true e f g = let is : c ≡ 92 = eqb-true c 92 g in rw is refl
    go false false false e f g = rw g refl

all_read : (cs : List ℕ) → text_behind false (escaped cs) ≡ Some cs
all_read [] = refl
all_read (c ∷ cs) = one_read c (escaped cs) ∙ ap (put_meaning (Some c)) (all_read cs)

pub escaped_read : (cs : List ℕ) → text_of (escaped cs) ≡ Some cs
unfolding text_of
escaped_read cs = all_read cs
