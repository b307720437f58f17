-- What a fault of a file or of a load means for the command.
use Rattle.dl_io.specs.declared.whole.FileFault.{FileFault}
use Rattle.dl_io.specs.declared.whole.FileFault.TheVariants as file
use Rattle.dl_owl.specs.declared.fault.OwlFault.{OwlFault}
use Rattle.dl_owl.specs.declared.fault.OwlFault.TheVariants as owl
use Rattle.dl_triples.specs.declared.fault.TripleFault.{TripleFault}
use Rattle.dl_triples.specs.declared.fault.TripleFault.TheVariants as triples
use Rattle.dl_query.specs.declared.fault.QueryFault.{QueryFault}
use Rattle.dl_query.specs.declared.fault.QueryFault.TheVariants as query
use Rattle.dl_core.specs.declared.fault.LoadFault.{LoadFault}
use Rattle.dl_core.specs.declared.fault.LoadFault.TheVariants as load
use Rattle.dl_run.specs.declared.stop.InputFile.{InputFile}
use Rattle.dl_run.specs.declared.stop.Refusal.TheVariants as refusal
use Rattle.dl_run.specs.declared.stop.Stop.{Stop}
use Rattle.dl_run.specs.declared.stop.Stop.TheVariants.{Refused, ReadFault, NoMemory}

abbrev pub stop_of_ontology : OwlFault → Stop
stop_of_ontology (owl.Syntax at) = Refused (refusal.OntologySyntax at)
stop_of_ontology (owl.TooDeep at) = Refused (refusal.TooDeep at)
stop_of_ontology (owl.PrefixUnknown at) = Refused (refusal.PrefixUnknown at)
stop_of_ontology (owl.NotQl at what) = Refused (refusal.NotQl at what)
stop_of_ontology (owl.LeftOut at what) = Refused (refusal.LeftOut at what)
stop_of_ontology (owl.Reserved at) = Refused (refusal.OntologyReserved at)
stop_of_ontology (owl.TooManyNames at) = Refused refusal.TooManyNames
stop_of_ontology owl.NoMemory = NoMemory

abbrev pub stop_of_data : TripleFault → Stop
stop_of_data (triples.Line n) = Refused (refusal.NoTriple n)
stop_of_data (triples.Blank n) = Refused (refusal.BlankNode n)
stop_of_data (triples.Reserved n) = Refused (refusal.DataReserved n)
stop_of_data (triples.TooManyNames n) = Refused refusal.TooManyNames
stop_of_data triples.NoMemory = NoMemory

abbrev pub stop_of_query : QueryFault → Stop
stop_of_query (query.Syntax at) = Refused (refusal.QuerySyntax at)
stop_of_query (query.Reserved at) = Refused (refusal.QueryReserved at)
stop_of_query (query.TooManyNames at) = Refused refusal.TooManyNames
stop_of_query (query.Unsafe place) = Refused (refusal.Unsafe place)
stop_of_query (query.TooLarge atoms existential head) = Refused (refusal.TooLarge atoms existential head)
stop_of_query query.NoMemory = NoMemory

abbrev pub stop_of_file : InputFile → FileFault → Stop
stop_of_file which file.Failed = ReadFault
stop_of_file which file.TooLong = Refused (refusal.TooLong which)
stop_of_file which file.NoMemory = NoMemory

abbrev pub stop_of_load : LoadFault → Stop
stop_of_load (load.TooManyAxioms weight) = Refused (refusal.TooHeavy weight)
stop_of_load (load.TooManyPredicates count) = Refused (refusal.TooManyPredicates count)
stop_of_load (load.Full rows) = Refused (refusal.TooManyFacts rows)
stop_of_load load.NoMemory = NoMemory
