-- What the code's answers to a release tell.
use Rattle.std.specs.Prelude.{Option, Some, None}
use Rattle.rls_model.specs.declared.receipt.Release.{Release}
use Rattle.rls_model.specs.Answers.{reason_in, Released}

-- what was released, if anything was
abbrev pub release_in : Option Release → Option Released
release_in None = None
release_in (Some r) = Some (record { author = r.author; seq = r.seq; refusal = reason_in r.refusal })
