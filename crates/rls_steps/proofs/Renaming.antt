-- Labels stay through renames.
use Rattle.std.proofs.Common.{◌≡◌, ℕ, List, [], ◌∷◌, map, inl, inr, refl, sym, ap, ◌∙◌, subst}
use Rattle.std.specs.Prelude.{Bool, Option, Some, None, if◌then◌else◌}
use Rattle.rls_ident.specs.declared.tuple.Tuple.{Tuple}
use Rattle.rls_ident.specs.declared.epoch_name.EpochName.{EpochName}
use Rattle.rls_ident.specs.Identifiers.{ident_eq, IsIdent}
use Rattle.rls_ident.specs.Lists.{IsIn}
use Rattle.rls_ident.proofs.Ends.{eq_same, same_eq}
use Rattle.rls_ident.proofs.Members.{same_bool}
use Rattle.rls_rename.specs.Tree.{translate}
use Rattle.rls_rename.proofs.Growth.{translate_back}
use Rattle.rls_rename.proofs.Paths.{translate_ident}
use Rattle.rls_runs.specs.Entries.{Entries, chars_in, with_idents}
use Rattle.rls_seen.specs.Over.{placed_over}
use Rattle.rls_seen.specs.Sane.{IsSane}
use Rattle.rls_seen.specs.Seen.{Seen, greatest_over, idents_over}
use Rattle.rls_seen.proofs.TextLists.{ident_in}
use Rattle.rls_steps.specs.Marks.{Mark, Known, Unknown, Marked, marks, remarked}
use Rattle.rls_steps.specs.Back.{AreDistinct, AreGiven, LeadBack, Exchanges}
use Rattle.rls_steps.specs.Labelled.{Names, label_of, mark_by, mark, marked_by, marked, renamed_over}
use Rattle.rls_steps.specs.StepLaws.{RenamingLeads}
use Rattle.rls_steps.proofs.Exchanging.{exchanged_among, distinct_marks}

-- f takes identifiers to identifiers, one for one
record IsOneForOne (f : List Tuple → List Tuple) : Type 0 where
  pub apart : (x y : List Tuple) → IsIdent x → IsIdent y → f x ≡ f y → x ≡ y

unfoldable pub renamed_names : (List Tuple → List Tuple) → Names → Names
renamed_names f names = map (λ n. (f n.0, n.1)) names

-- a mark with another identifier
renamed_mark : (List Tuple → List Tuple) → Mark → Mark
renamed_mark f (Known n) = Known n
renamed_mark f (Unknown x) = Unknown (f x)

label_same : (f : List Tuple → List Tuple) → IsOneForOne f → (names : Names) (y : List Tuple) → ((x : List Tuple) → IsIn x (map (λ n. n.0) names) → IsIdent x) → IsIdent y → label_of (renamed_names f names) (f y) ≡ label_of names y
unfolding renamed_names
label_same f w [] y i j = refl
label_same f w (n ∷ ns) y i j =
    let same = same_bool (ident_eq (f n.0) (f y)) (ident_eq n.0 y) (λ t. same_eq n.0 y (w.apart n.0 y (i n.0 (inl refl)) j (eq_same (f n.0) (f y) t))) (λ t. same_eq (f n.0) (f y) (ap f (eq_same n.0 y t))) in
    let rest = label_same f w ns y (λ x p. i x (inr p)) j in
    ap (λ (b : Bool). if b then Some n.1 else label_of (renamed_names f ns) (f y)) same ∙ ap (λ o. if ident_eq n.0 y then Some n.1 else o) rest

mark_same : (f : List Tuple → List Tuple) (o : Option ℕ) (y : List Tuple) → mark_by (f y) o ≡ renamed_mark f (mark_by y o)
unfolding renamed_mark
mark_same f None y = refl
mark_same f (Some n) y = refl

marked_same : (f : List Tuple → List Tuple) → IsOneForOne f → (names : Names) (es : Entries) → ((x : List Tuple) → IsIn x (map (λ n. n.0) names) → IsIdent x) → ((x : List Tuple) → IsIn x (map (λ e. e.0) es) → IsIdent x) →
    marked_by (renamed_names f names) (with_idents f es) ≡ remarked (renamed_mark f) (marked_by names es)
marked_same f w names [] i j = refl
marked_same f w names (e ∷ es) i j =
    let here : mark (renamed_names f names) (f e.0) ≡ renamed_mark f (mark names e.0) = ap (mark_by (f e.0)) (label_same f w names e.0 i (j e.0 (inl refl))) ∙ mark_same f (label_of names e.0) e.0 in
    let rest = marked_same f w names es i (λ x p. j x (inr p)) in
    ap (λ k. (k, e.1) ∷ marked_by (renamed_names f names) (with_idents f es)) here ∙ ap (λ m. (renamed_mark f (mark names e.0), e.1) ∷ m) rest

-- a label, or an identifier
Right : Mark → Type 0
Right (Known n) = Unit {0}
Right (Unknown x) = IsIdent x

renames : (next : ℕ) (f : List Tuple → List Tuple) → IsOneForOne f → Exchanges next Right (renamed_mark f)
unfolding Right renamed_mark
renames next f w = record {
  apart = apart;
  given = λ n h. tt;
  same = λ n h. refl;
}
  where
    unknown : (x y : List Tuple) → Unknown x ≡ Unknown y → x ≡ y
    unknown x y e = cc

    apart : (a b : Mark) → Right a → Right b → renamed_mark f a ≡ renamed_mark f b → a ≡ b
    apart (Known n) (Known k) p q e = e
    apart (Known n) (Unknown y) p q e = absurd (cc)
    apart (Unknown x) (Known k) p q e = absurd (cc)
    apart (Unknown x) (Unknown y) p q e = ap Unknown (w.apart x y p q (unknown (f x) (f y) e))

right_marks : (names : Names) (es : Entries) → ((x : List Tuple) → IsIn x (map (λ e. e.0) es) → IsIdent x) → (k : Mark) → IsIn k (marks (marked_by names es)) → Right k
unfolding Right
right_marks names [] j k p = absurd p
right_marks names (e ∷ es) j k (inl q) = subst Right q (go (label_of names e.0))
  where
    go : (o : Option ℕ) → Right (mark_by e.0 o)
    go None = j e.0 (inl refl)
    go (Some n) = tt
right_marks names (e ∷ es) j k (inr p) = right_marks names es (λ x q. j x (inr q)) k p

chars_same : (f : List Tuple → List Tuple) (es : Entries) → chars_in (with_idents f es) ≡ chars_in es
chars_same f [] = refl
chars_same f (e ∷ es) = ap (λ cs. e.1 ∷ cs) (chars_same f es)

given_same : (f : List Tuple → List Tuple) (next : ℕ) (names : Names) → AreGiven next (map (λ n. n.1) names) → AreGiven next (map (λ n. n.1) (renamed_names f names))
unfolding renamed_names
given_same f next [] g = tt
given_same f next (n ∷ ns) g = (g.0, given_same f next ns g.1)

idents_same : (f : List Tuple → List Tuple) → ((x : List Tuple) → IsIdent x → IsIdent (f x)) → (names : Names) → ((x : List Tuple) → IsIn x (map (λ n. n.0) names) → IsIdent x) → (x : List Tuple) → IsIn x (map (λ n. n.0) (renamed_names f names)) → IsIdent x
unfolding renamed_names
idents_same f w [] i x p = absurd p
idents_same f w (n ∷ ns) i x (inl e) = subst IsIdent e (w n.0 (i n.0 (inl refl)))
idents_same f w (n ∷ ns) i x (inr p) = idents_same f w ns (λ y q. i y (inr q)) x p

-- translation is one for one
placed_apart : (s : Seen) (e : EpochName) → IsSane s → IsOneForOne (placed_over s e)
placed_apart s e sane = record {
  apart = λ x y i j same.
      sym (translate_back s.epochs.nodes e (greatest_over s) x sane.epochs.nodes i)
      ∙ (ap (λ z. translate s.epochs.nodes (greatest_over s) e z) same ∙ translate_back s.epochs.nodes e (greatest_over s) y sane.epochs.nodes j);
}

pub renaming_leads : RenamingLeads
unfolding renamed_names
renaming_leads h s ps ts i l r =
    let e = greatest_over h.seen in
    let f = placed_over s e in
    let w = placed_apart s e r.sane in
    let j = ident_in (idents_over h.seen) i.sane.idents in
    let same : marked (renamed_over h e s) ≡ remarked (renamed_mark f) (marked h) =
    ap (marked_by (renamed_names f h.names)) r.text ∙ marked_same f w h.names h.seen.text i.idents j in
    let x = renames h.next f w in
    let right = right_marks h.names h.seen.text j in (
      record {
        sane = r.sane;
        given = given_same f h.next h.names i.given;
        idents = idents_same f (λ y k. translate_ident s.epochs.nodes e (greatest_over s) y r.sane.epochs.nodes k) h.names i.idents;
        distinct = subst (λ (m : Marked). AreDistinct (marks m)) (sym same) (distinct_marks (renamed_mark f) Right x.apart (marked h) right i.distinct);
      },
      ap chars_in r.text ∙ chars_same f h.seen.text,
      record {
        given = l.given;
        back = subst (λ (m : Marked). LeadBack m ps ts) (sym same) (exchanged_among h.next Right (renamed_mark f) x (marked h) ps ts right l.given l.back);
      },
    )
