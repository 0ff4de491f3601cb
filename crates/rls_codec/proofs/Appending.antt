-- Lists of bytes that are put one after another.
use Rattle.std.proofs.Common.{◌≡◌, ℕ, ◌+◌, ◌≤◌, ◌<◌, List, [], ◌∷◌, ◌++◌, length, take, drop, refl, sym, ap, ◌∙◌, append_assoc, arith, get_or}
use Rattle.std.specs.Prelude.{encode_utf8_all}
use Rattle.std.specs.List.{flat_map, concat}
use Rattle.std.proofs.lemmas.List.{append-nil, take_more, take_all, take_at, drop_at, take-take, length-take, length-append}
use Rattle.std.proofs.lemmas.Str.{encodes-append, encode_ascii}
use Rattle.rls_ident.specs.declared.tuple.Tuple.{Tuple}
use Rattle.rls_codec.specs.Gives.{IsFrontOf}
use Rattle.rls_ops.specs.Spelling.{tuple_bytes, four_bytes, ident_bytes, text_bytes}

pub flat_map_pushed : {A : Type 0} (f : A → List ℕ) (xs : List A) (x : A) → flat_map f (xs ++ x ∷ []) ≡ flat_map f xs ++ f x
flat_map_pushed f [] x = append-nil (f x)
flat_map_pushed f (y ∷ ys) x = ap (λ w. f y ++ w) (flat_map_pushed f ys x) ∙ sym (append_assoc (f y) (flat_map f ys) (f x))

-- an identifier is its front and its last tuple
pub ident_parts : (x front : List Tuple) (t : Tuple) → x ≡ front ++ t ∷ [] → ident_bytes x ≡ four_bytes (length front + 1) ++ (flat_map tuple_bytes front ++ tuple_bytes t)
ident_parts x front t e = ap ident_bytes e ∙ ap (λ n. four_bytes n ++ flat_map tuple_bytes (front ++ t ∷ [])) (length-append front (t ∷ [])) ∙ ap (λ w. four_bytes (length front + 1) ++ w) (flat_map_pushed tuple_bytes front t)

-- five parts, put one after another
pub five_puts : (o p q r s t a b c d e : List ℕ) → p ≡ o ++ a → q ≡ p ++ b → r ≡ q ++ c → s ≡ r ++ d → t ≡ s ++ e → t ≡ o ++ concat (a ∷ b ∷ c ∷ d ∷ e ∷ [])
five_puts o p q r s t a b c d e h1 h2 h3 h4 h5 = rw (h5, h4, h3, h2, h1) (simp (append_assoc, append-nil))

-- six
pub six_puts : (o p q r s t u a b c d e f : List ℕ) → p ≡ o ++ a → q ≡ p ++ b → r ≡ q ++ c → s ≡ r ++ d → t ≡ s ++ e → u ≡ t ++ f → u ≡ o ++ concat (a ∷ b ∷ c ∷ d ∷ e ∷ f ∷ [])
six_puts o p q r s t u a b c d e f h1 h2 h3 h4 h5 h6 = rw (h6, h5, h4, h3, h2, h1) (simp (append_assoc, append-nil))

-- what stands at the front
pub front_same : (a b : List ℕ) → b ≡ a → IsFrontOf a b
front_same a b e = record { front = rw e (take_all (length a) a (omega arith)) }

pub front_append : (a b c : List ℕ) → b ≡ a ++ c → IsFrontOf a b
front_append a b c e = record { front = rw e (take_at a c (length a) refl) }

pub front_then : (a b c : List ℕ) → IsFrontOf a b → IsFrontOf b c → IsFrontOf a c
front_then a b c p q =
    let le : length a ≤ length b = omega (arith, ap length p.front, length-take (length a) b) in
    record { front = sym (ap (take (length a)) (sym q.front) ∙ take-take (length a) (length b) c le) ∙ p.front }

-- a text in two parts
pub encodes_parts : (front back text : List ℕ) → front ++ back ≡ text → encode_utf8_all text ≡ encode_utf8_all front ++ encode_utf8_all back
encodes_parts front back text e = ap encode_utf8_all (sym e) ∙ encodes-append front back

-- a text of one ASCII character
pub ascii_text : (front back text : List ℕ) (c : ℕ) → front ++ back ≡ text → front ≡ c ∷ [] → back ≡ [] → c < 128 → text_bytes text ≡ 0 ∷ 0 ∷ 0 ∷ 1 ∷ c ∷ []
ascii_text front back text c e f b small =
    ap text_bytes (sym e ∙ ap (λ w. w ++ back) f ∙ ap (λ w. c ∷ w) b)
    ∙ ap (λ w. four_bytes (length (w ++ [])) ++ (w ++ [])) (encode_ascii c small)

-- the number of bytes is written over four that stand before them
pub counted_after : (o q body new : List ℕ) → q ≡ (o ++ four_bytes 0) ++ body → new ≡ take (length o) q ++ (four_bytes (length (drop (length o + 4) q)) ++ drop (length o + 4) q) → new ≡ o ++ (four_bytes (length body) ++ body)
counted_after o q body new e h =
    let whole : q ≡ o ++ (four_bytes 0 ++ body) = e ∙ append_assoc o (four_bytes 0) body in
    let front : take (length o) q ≡ o = ap (take (length o)) whole ∙ take_at o (four_bytes 0 ++ body) (length o) refl in
    let rest : drop (length o + 4) q ≡ body = ap (drop (length o + 4)) e ∙ drop_at (o ++ four_bytes 0) body (length o + 4) (length-append o (four_bytes 0)) in
    h ∙ ap (λ w. w ++ (four_bytes (length (drop (length o + 4) q)) ++ drop (length o + 4) q)) front ∙ ap (λ w. o ++ (four_bytes (length w) ++ w)) rest

pub puts_parts : (o p q front back text : List ℕ) → front ++ back ≡ text → p ≡ o ++ encode_utf8_all front → q ≡ p ++ encode_utf8_all back → q ≡ o ++ encode_utf8_all text
puts_parts o p q front back text e f h = h ∙ ap (λ w. w ++ encode_utf8_all back) f ∙ append_assoc o (encode_utf8_all front) (encode_utf8_all back) ∙ ap (λ w. o ++ w) (sym (encodes_parts front back text e))

-- one more part
pub part_more : {A : Type 0} (part : A → List ℕ) (xs : List A) (i : ℕ) (d : A) (o p q : List ℕ) → i < length xs → p ≡ o ++ flat_map part (take i xs) → q ≡ p ++ part (get_or xs i d) → q ≡ o ++ flat_map part (take (i + 1) xs)
part_more part xs i d o p q lt e h =
    h
    ∙ ap (λ w. w ++ part (get_or xs i d)) e
    ∙ append_assoc o (flat_map part (take i xs)) (part (get_or xs i d))
    ∙ ap (λ w. o ++ w) (sym (ap (flat_map part) (take_more xs i d lt) ∙ flat_map_pushed part (take i xs) (get_or xs i d)))
