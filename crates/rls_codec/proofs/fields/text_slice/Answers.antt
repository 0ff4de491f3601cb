use Rattle.std.proofs.Common.{arith, ap, sym}
use Rattle.std.specs.Str.{chars}
use Rattle.rls_runs.proofs.Texts.{utf8_from_text}
use Rattle.rls_codec.proofs.Utf8.{text_reads}
use Rattle.rls_codec.proofs.fields.text_slice.Goals as goal

pub returns-in-Ok : goal.returns-in-Ok
returns-in-Ok c =
    let front = c.split_at.result.0.now in
    record {
      read = text_reads c.args.bytes.now c.in_ok-len.rest.now front c.split_at.result.1.now _ c.in_ok-len.len c.in_ok-len.ensures.read (omega (arith, c.if-rest-len.false)) c.split_at.ensures.front c.split_at.ensures.back
          (utf8_from_text front c.in-Ok.ensures.cases.1) (ap chars (sym c.in-Ok.ensures.cases.0));
    }
