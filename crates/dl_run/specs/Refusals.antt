-- The texts of refusals, with their numbers and the limits that these pass; they are this project's own.
use Rattle.std.specs.Prelude.{ℕ, List, ◌++◌, codes}
use Rattle.std.specs.Fmt.{decimal}
use Rattle.dl_io.specs.Files.{max_bytes}
use Rattle.dl_names.specs.NameList.{max_names}
use Rattle.dl_hier.specs.Predicates.{max_predicates}
use Rattle.dl_epoch.specs.Known.{max_weight}
use Rattle.dl_row.specs.Shards.{max_rows}
use Rattle.dl_owl.specs.Causes.{construct_words}
use Rattle.dl_run.specs.declared.stop.InputFile.{InputFile}
use Rattle.dl_run.specs.declared.stop.InputFile.TheVariants as file
use Rattle.dl_run.specs.declared.stop.Refusal.{Refusal}
use Rattle.dl_run.specs.declared.stop.Refusal.TheVariants.{TooLong, OntologySyntax, TooDeep, PrefixUnknown, NotQl, LeftOut, OntologyReserved, NoTriple, BlankNode, DataReserved, QuerySyntax, QueryReserved, Unsafe, TooLarge, TooManyNames, TooHeavy, TooManyPredicates, TooManyFacts, TooMany}
use Rattle.dl_run.specs.Texts.{line}

abbrev pub file_word : InputFile → List ℕ
file_word file.Ontology = codes "ontology"
file_word file.Data = codes "data"
file_word file.Query = codes "query"

-- what is refused, in words. Bytes are counted from 0, lines and places from 1
abbrev pub refusal_words : Refusal → List ℕ
refusal_words (TooLong which) = file_word which ++ (codes " longer than " ++ (decimal max_bytes ++ codes " bytes"))
refusal_words (OntologySyntax at) = codes "ontology byte " ++ (decimal at ++ codes ": syntax")
refusal_words (TooDeep at) = codes "ontology byte " ++ (decimal at ++ codes ": too deep")
refusal_words (PrefixUnknown at) = codes "ontology byte " ++ (decimal at ++ codes ": unknown prefix")
refusal_words (NotQl at what) =
    codes "ontology byte " ++ (decimal at ++ (codes ": not in OWL 2 QL: " ++ construct_words what))
refusal_words (LeftOut at what) =
    codes "ontology byte " ++ (decimal at ++ (codes ": left out: " ++ construct_words what))
refusal_words (OntologyReserved at) = codes "ontology byte " ++ (decimal at ++ codes ": reserved name")
refusal_words (NoTriple n) = codes "data line " ++ (decimal n ++ codes ": not a triple")
refusal_words (BlankNode n) = codes "data line " ++ (decimal n ++ codes ": blank node")
refusal_words (DataReserved n) = codes "data line " ++ (decimal n ++ codes ": reserved name")
refusal_words (QuerySyntax at) = codes "query byte " ++ (decimal at ++ codes ": syntax")
refusal_words (QueryReserved at) = codes "query byte " ++ (decimal at ++ codes ": reserved name")
refusal_words (Unsafe place) = codes "query head place " ++ (decimal place ++ codes " not in the body")
refusal_words (TooLarge atoms existential head) =
    codes "query has "
    ++ (decimal atoms
    ++ (codes " atoms, "
    ++ (decimal existential ++ (codes " existential variables, " ++ (decimal head ++ codes " head places")))))
refusal_words TooManyNames = codes "more than " ++ (decimal max_names ++ codes " names")
refusal_words (TooHeavy weight) = codes "axiom weight " ++ (decimal weight ++ (codes " over " ++ decimal max_weight))
refusal_words (TooManyPredicates count) = decimal count ++ (codes " predicates over " ++ decimal max_predicates)
refusal_words (TooManyFacts count) = decimal count ++ (codes " facts over " ++ decimal max_rows)
refusal_words (TooMany limit) = codes "more than " ++ (decimal limit ++ codes " answers")

-- the line that says so
abbrev pub refusal_text : Refusal → List ℕ
refusal_text refusal = codes "refused: " ++ line (refusal_words refusal)
