use Rattle.std.proofs.Common.{◌≡◌, ℕ, take, vec_len}
use Rattle.std.specs.List.{list_any}
use Rattle.dl_scan.specs.Sieves.{passes, has_remainder}
use Rattle.dl_scan.proofs.sieve.Sieve.of.Given as goal

abbrev pub invariant-loop-pair : goal.invariant-loop-pair
invariant-loop-pair l = record {
  long : vec_len l.marks ≡ 65536;
  exact : (name : ℕ) → passes l.marks.items name ≡ list_any (has_remainder name) (take l.pair-index l.pairs);
}
