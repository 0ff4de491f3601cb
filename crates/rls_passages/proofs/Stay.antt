-- A passage stays one, whatever else is known.
use Rattle.std.proofs.Common.{◌≡◌, List, [], ◌∷◌, refl, sym, ap, ◌∙◌, inl, inr}
use Rattle.std.specs.Prelude.{pos}
use Rattle.rls_ident.specs.declared.epoch_name.EpochName.TheVariants.{Origin}
use Rattle.rls_ident.specs.Lists.{IsIn}
use Rattle.rls_ident.specs.Identifiers.{last_of, shifted}
use Rattle.rls_rename.proofs.SameNodes.{kept_within}
use Rattle.rls_model.specs.History.{History}
use Rattle.rls_model.specs.Epochs.{epochs}
use Rattle.rls_model.specs.Document.{Character, chars, ident_in}
use Rattle.rls_model.specs.Legal.{IsLegal}
use Rattle.rls_model.specs.Laws.{IsPartOf}
use Rattle.rls_model.proofs.SameOps.{same_chars, same_epochs, same_ident}
use Rattle.rls_passages.specs.Passages.{Follows, IsPassage, PassagesStay}

follows_stays : (H M : History) (c d : Character) → IsLegal H → IsLegal M → IsPartOf H M → IsIn c (chars H) → IsIn d (chars H) → Follows H d c → Follows M d c
follows_stays H M c d h m part p q f =
    let g = f.0 in
    let a : ident_in M g c ≡ ident_in H g c = sym (same_ident H M h m part c p g f.1) in
    let b : ident_in M g d ≡ ident_in H g d = sym (same_ident H M h m part d q g f.1) in
    (g, kept_within Origin (epochs H) (epochs M) (same_epochs H M part) g f.1, ap last_of a ∙ f.2, ap last_of b ∙ f.3, b ∙ (f.4 ∙ ap (shifted (pos 1)) (sym a)))

passage_stays : (H M : History) (cs : List Character) → IsLegal H → IsLegal M → IsPartOf H M → ((c : Character) → IsIn c cs → IsIn c (chars H)) → IsPassage H cs → IsPassage M cs
passage_stays H M [] h m part f k = tt
passage_stays H M (c ∷ []) h m part f k = tt
passage_stays H M (c ∷ (d ∷ cs)) h m part f k =
    (follows_stays H M c d h m part (f c (inl refl)) (f d (inr (inl refl))) k.0, passage_stays H M (d ∷ cs) h m part (λ e p. f e (inr p)) k.1)

pub law : PassagesStay
law H M cs h m part k = (passage_stays H M cs h m part k.1 k.0, λ c p. same_chars H M part c (k.1 c p))
