use Rattle.std.proofs.Common.{refl}
use Rattle.std.proofs.lemmas.Bool.{false≢true}
use Rattle.dl_lex.proofs.Tokens.{no_iri}
use Rattle.dl_lex.proofs.Ends.{iri_at, no_iri_at}
use Rattle.dl_lex.proofs.scan.iri.Goals as goal

pub returns-then-not-has_byte : goal.returns-then-not-has_byte
returns-then-not-has_byte c = no_iri c.args.bytes.now c.args.at c.requires.in_bounds c.requires.opens (no_iri_at c.args.bytes.now c.args.at c.run_end-end.result c.run_end-end.ensures (λ h. false≢true (c.if-not-has_byte.ensures.1 h)))

pub returns : goal.returns
returns c =
    rw c.found.ensures
    (record {
      starts = refl;
      stands = iri_at c.args.bytes.now c.args.at c.run_end-end.result c.run_end-end.ensures c.requires.in_bounds c.requires.opens
          (c.if-not-has_byte.ensures.0 refl);
    })
