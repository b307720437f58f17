use Rattle.std.proofs.Common.{ℕ, ◌+◌, ◌≤◌, List, drop}
use Rattle.dl_names.specs.NameList.{Text}
use Rattle.dl_triples.specs.Progress.{AreCut, Read}
use Rattle.dl_triples.proofs.TextLemmas.{ReadsOn}
use Rattle.dl_triples.proofs.reading.read_ahead.Given as goal

abbrev pub invariant-loop-index : goal.invariant-loop-index
invariant-loop-index l =
    ((bytes rest behind : List ℕ) (before : List Text) → Read bytes rest before l.fn.names l.n l.fn.triples.facts l.fn.triples.skipped → AreCut rest l.ahead.forms.items behind
    → ReadsOn bytes (drop l.index l.ahead.forms.items) behind before l.names (l.n + l.index) l.triples.facts l.triples.skipped)
    × (l.triples.skipped ≤ l.fn.triples.skipped + l.index)
