use Rattle.std.proofs.Common.{length, refl}
use Rattle.dl_terms.specs.Occurring.{atom_names, query_names}
use Rattle.dl_names.proofs.RankLemmas.{items_below}
use Rattle.dl_names.proofs.frozen.Ranks.rank_query.Goals as goal

pub rank_atoms-requires : goal.rank_atoms-requires
rank_atoms-requires c =
    items_below atom_names (length c.args.self.now) (query_names c.args.query.now) c.args.query.now.atoms c.as_mut_slice.result.now refl c.as_mut_slice.ensures.items c.requires
