-- Why a token is refused, and the faults that tell it.
use Rattle.std.specs.Prelude.{ℕ, List, codes}
use Rattle.dl_lex.specs.declared.keyword.Keyword.{Keyword}
use Rattle.dl_lex.specs.Keywords.{keyword_text}
use Rattle.dl_owl.specs.declared.fault.Construct.{Construct}
use Rattle.dl_owl.specs.declared.fault.Construct.TheVariants as construct
use Rattle.dl_owl.specs.declared.fault.OwlFault.{OwlFault}
use Rattle.dl_owl.specs.declared.fault.OwlFault.TheVariants.{Syntax, TooDeep, PrefixUnknown, NotQl, LeftOut, Reserved, TooManyNames}

pub data Cause : Type 0 where
  syntax : Cause
  too_deep : Cause
  prefix_unknown : Cause
  not_ql : Keyword → Cause
  left_out : Construct → Cause
  reserved : Cause
  too_many_names : Cause

-- the fault of a cause, at a token's offset
abbrev pub fault_of : Cause → ℕ → OwlFault
fault_of syntax at = Syntax at
fault_of too_deep at = TooDeep at
fault_of prefix_unknown at = PrefixUnknown at
fault_of (not_ql k) at = NotQl at (construct.Keyword k)
fault_of (left_out c) at = LeftOut at c
fault_of reserved at = Reserved at
fault_of too_many_names at = TooManyNames at

-- the words in which a construct is reported
abbrev pub construct_words : Construct → List ℕ
construct_words (construct.Keyword k) = keyword_text k
construct_words construct.Thing = codes "owl:Thing"
construct_words construct.AnonymousIndividual = codes "anonymous individual"
