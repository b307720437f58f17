use Rattle.std.proofs.Common.{sym, subst, slice_range}
use Rattle.dl_lex.specs.declared.keyword.Keyword.TheVariants.{ObjectPropertyChain}
use Rattle.dl_owl.specs.declared.fault.Construct.TheVariants as construct
use Rattle.dl_owl.specs.declared.fault.OwlFault.TheVariants as fault
use Rattle.dl_owl.specs.Causes.{not_ql}
use Rattle.dl_owl.specs.Expected.{role_then, first_role}
use Rattle.dl_owl.specs.Walk.{here, Faults}
use Rattle.dl_owl.proofs.WalkLemmas.{faults-refused}
use Rattle.dl_owl.proofs.CursorLemmas.{not_kind}
use Rattle.dl_owl.proofs.SeriesLemmas.{reads_alike}
use Rattle.dl_owl.proofs.PairLemmas.{chain_refused, first_plain}
use Rattle.dl_owl.proofs.pair.first_role.Goals as goal

pub returns-then-is_word : goal.returns-then-is_word
returns-then-is_word c =
    λ k.
    subst
    (λ n.
    Faults (first_role k) (here c.args.at.now c.args.prefixes.now c.args.names.now) c.args.names.now
    (fault.NotQl n (construct.Keyword ObjectPropertyChain)))
    (sym c.start-start.ensures)
    (faults-refused (first_role k) c.args.at.now c.args.prefixes.now c.args.names.now (not_ql ObjectPropertyChain)
    (chain_refused c.args.at.now.token.kind
    (slice_range c.args.at.now.bytes c.args.at.now.token.start c.args.at.now.token.end) c.args.prefixes.now k
    (c.is_word.ensures.0 c.if-is_word.true)))

pub returns : goal.returns
returns c =
    reads_alike first_role role_then (here c.args.at.now c.args.prefixes.now c.args.names.now)
    (here c.role.new.at c.args.prefixes.now c.role.new.names) c.role.result
    (λ k.
    first_plain c.args.at.now.token.kind
    (slice_range c.args.at.now.bytes c.args.at.now.token.start c.args.at.now.token.end) c.args.prefixes.now k
    (not_kind c.is_word.result _ c.is_word.ensures c.if-is_word.false))
    c.role.ensures
