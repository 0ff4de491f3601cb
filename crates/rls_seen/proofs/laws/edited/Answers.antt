use Rattle.rls_seen.proofs.Editing.{edit_faults_alike, made_alike, edited_stands}
use Rattle.rls_seen.proofs.Making.{made_may, edited_sane}
use Rattle.rls_seen.proofs.laws.edited.Goals as goal

pub returns : goal.returns
returns c = record {
  stands = λ s t edit h. (edit_faults_alike s t edit h, made_alike s t edit h, λ w f. edited_stands s t edit w f h);
  sane = λ s edit h w f. (made_may s edit h w f, edited_sane s edit h w f);
}
