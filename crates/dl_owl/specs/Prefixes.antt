-- Prefixes and the IRIs that short ones stand for (OWL 2 Functional-Style Syntax, 5.1 and 3.7).
use Rattle.std.specs.Prelude.{Option, Some, None, List, [], ◌∷◌, ◌++◌, ◌==◌, codes, find}
use Rattle.std.specs.List.{before_first, after_first}
use Rattle.std.specs.Option.{option_map}
use Rattle.std.specs.Str.{bytes_eq}
use Rattle.dl_names.specs.NameList.{Text}
use Rattle.dl_owl.specs.Symbols.{Symbol, full_iri, short_iri}

-- the prefix names that are declared, each without its colon, with the IRIs that they stand for
abbrev pub Prefixes : Type 0
Prefixes = List (Text × Text)

abbrev pub predefined : Prefixes
predefined =
    (codes "owl", codes "http://www.w3.org/2002/07/owl#")
    ∷ (codes "rdf", codes "http://www.w3.org/1999/02/22-rdf-syntax-ns#")
    ∷ (codes "rdfs", codes "http://www.w3.org/2000/01/rdf-schema#")
    ∷ (codes "xsd", codes "http://www.w3.org/2001/XMLSchema#") ∷ []

-- the parts of a short IRI before and behind its first colon
abbrev pub prefix_of : Text → Text
prefix_of short = before_first (λ c. c == 58) short

abbrev pub local_of : Text → Text
local_of short = after_first (λ c. c == 58) short

-- the IRI that a prefix name stands for, where it is declared
abbrev pub declared_iri : Prefixes → Text → Option Text
declared_iri p name = option_map (λ e. e.1) (find (λ e. bytes_eq name e.0) p)

-- the IRI that a short one stands for, where its prefix is declared
abbrev pub expanded : Prefixes → Text → Option Text
expanded p short = option_map (λ iri. iri ++ local_of short) (declared_iri p (prefix_of short))

-- the IRI that a token stands for, if it stands for one
abbrev pub iri_of : Prefixes → Symbol → Option Text
iri_of p (full_iri text) = Some text
iri_of p (short_iri short) = expanded p short
iri_of p _ = None
