mod EpochLemmas
