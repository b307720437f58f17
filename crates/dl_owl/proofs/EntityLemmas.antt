-- The keyword of an entity that is declared.
use Rattle.std.proofs.Common.{◌≡◌, ℕ, List, refl, sym, ap, ◌∙◌, slice_range}
use Rattle.dl_lex.specs.declared.keyword.Keyword.{Keyword}
use Rattle.dl_lex.specs.declared.token.TokenKind.{TokenKind}
use Rattle.dl_lex.specs.declared.token.TokenKind.TheVariants.{Word}
use Rattle.dl_names.specs.NameList as name_list
use Rattle.dl_owl.specs.declared.fault.OwlFault.{OwlFault}
use Rattle.dl_owl.specs.declared.item.Item.{Item}
use Rattle.dl_owl.specs.Symbols.{keyword, symbol_of}
use Rattle.dl_owl.specs.Prefixes.{Prefixes}
use Rattle.dl_owl.specs.Expected.{Expected, entity_then, goes}
use Rattle.dl_owl.specs.Steps.{entity_next}
use Rattle.dl_owl.specs.Walk.{Spot, symbol_at, here, Goes, Faults, Moved, NoneNext}
use Rattle.dl_owl.proofs.ReaderLemmas.{keyword-goes, keyword-faults}

-- what fits is a keyword
a_word : (kind : TokenKind) (bytes : List ℕ) (k : Item → Expected) (next : Expected)
    → entity_next k (symbol_of kind bytes) ≡ goes next
    → (w : Keyword) × (kind ≡ Word w)
a_word (Word w) bytes k next is = (w, refl)
a_word kind bytes k next is = absurd (cc)

module _ (k : Item → Expected) (next : Expected) (s : Spot) (p : Prefixes) (names : List name_list.Text)
    (is : entity_next k (symbol_at s) ≡ goes next) where
  word : (w : Keyword) × (s.token.kind ≡ Word w)
  word = a_word s.token.kind (slice_range s.bytes s.token.start s.token.end) k next is

  fits : entity_next k (keyword word.0) ≡ goes next
  fits =
      ap (λ kind. entity_next k (symbol_of kind (slice_range s.bytes s.token.start s.token.end))) (sym word.1) ∙ is

  pub entity-goes : (new : Spot) → Moved s new → Goes (entity_then k) (here s p names) next (here new p names)
  entity-goes new m = keyword-goes word.0 (entity_then k) next s p names word.1 fits new m

  pub entity-faults : (fault : OwlFault) → NoneNext s fault → Faults (entity_then k) (here s p names) names fault
  entity-faults fault none = keyword-faults word.0 (entity_then k) next s p names word.1 fits fault none
