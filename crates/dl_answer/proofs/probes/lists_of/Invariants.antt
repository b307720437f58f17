use Rattle.std.proofs.Common.{◌≡◌, length}
use Rattle.dl_answer.specs.Searches.{AreRead, AreFirstLists, GoesOn}
use Rattle.dl_answer.proofs.probes.lists_of.Given as goal

abbrev pub invariant-loop-probe : goal.invariant-loop-probe
invariant-loop-probe g l = record {
  count : length l.lists ≡ l.probe-index;
  lists : AreFirstLists
      (AreRead (g.R.Reads.stands l.initial.reads) l.version l.hier l.initial.kept)
      l.probes l.lists;
  goes : GoesOn l.version l.hier (g.R.Reads.stands l.initial.reads) (g.R.Reads.reader l.initial.reads) l.initial.kept
      (g.R.Reads.stands l.reads) (g.R.Reads.reader l.reads) l.kept;
}
