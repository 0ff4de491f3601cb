-- The place that is told as a word is found by that word.
use Rattle.std.proofs.Common.{◌≡◌, ◌∙◌, ℕ, zero, suc, List, [], ◌∷◌, ◌++◌, refl, sym, ap, arith}
use Rattle.std.specs.Prelude.{codes, if◌then◌else◌}
use Rattle.std.specs.Str.{IsAscii}
use Rattle.std.proofs.lemmas.Str.{IsUtf8-from_ascii}
use Rattle.rls_runs.proofs.Texts.{utf8_from_text}
use Rattle.rls_script.specs.Scripts.{is_space}
use Rattle.rls_anchor.specs.declared.anchor.Anchor.{Anchor}
use Rattle.rls_anchor.specs.Anchors.{anchor_over}
use Rattle.rls_anchor.proofs.Elsewhere.{located_there}
use Rattle.rls_places.specs.PlacesLaws.{FitsPlace, IsOneWord}
use Rattle.rls_places.specs.Words.{place_word}
use Rattle.rls_places.proofs.Cuts.{parts_there}
use Rattle.rls_places.proofs.OneWord.{are_one_word}
use Rattle.rls_places.proofs.ReadBack.{read_back}
use Rattle.rls_session.specs.declared.orders.Order.TheVariants.{Bad, Locate}
use Rattle.rls_session.specs.Orders.{order_of, order_of_text, order_of_words, order_or_bad}
use Rattle.rls_session.specs.Replies.{anchor_text, located_text}
use Rattle.rls_session.specs.SessionLaws.{ToldIsFound}
use Rattle.rls_session.proofs.Answered.{spelled_there}

word_ascii : (cs : List ℕ) → IsOneWord cs → IsAscii cs
word_ascii [] h i = omega arith
word_ascii (c ∷ cs) h zero = let most = h.1 in omega (arith, most)
word_ascii (c ∷ cs) h (suc i) = word_ascii cs h.2 i

-- the line that asks for it
line_ascii : (cs : List ℕ) → IsOneWord cs → IsAscii (codes "l " ++ cs)
line_ascii cs h zero = omega arith
line_ascii cs h (suc zero) = omega arith
line_ascii cs h (suc (suc i)) = word_ascii cs h i

asked : (a : Anchor) → FitsPlace a → order_of (codes "l " ++ place_word a) ≡ Locate a
unfolding order_of
asked a fits =
    let line = codes "l " ++ place_word a in
    let text = utf8_from_text line (IsUtf8-from_ascii line (line_ascii (place_word a) (are_one_word a fits))) in
    ap (λ b. if b then order_of_text line else Bad) text
    ∙ (ap (order_of_words line) (parts_there is_space (codes "l") 32 (place_word a) (refl, tt) refl) ∙ ap (order_or_bad Locate) (read_back a fits))

pub told_is_found : ToldIsFound
told_is_found s at sane within fits = (sym (spelled_there s at (anchor_over s at) (anchor_text (anchor_over s at)) within refl refl), asked (anchor_over s at) fits, ap located_text (located_there s at sane within).0)
