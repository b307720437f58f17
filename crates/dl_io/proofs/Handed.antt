-- A sink that gathers hands on what is gathered: as a sink it got nothing more.
use Rattle.std.proofs.Common.{◌≡◌, ◌≤◌, ℕ, List, [], Option, Result, Ok, Err, OnErr, arith}
use Rattle.dl_io.specs.Count.{HasRisen}
use Rattle.dl_io.specs.Gathering.{Takes, state_of, all_got, lender_of}
use Rattle.dl_io.specs.Printing.{Prints}
use Rattle.dl_io.specs.declared.gathering.GatheringSink.{GatheringSink}
use Rattle.dl_io.proofs.Lent.{grown-prefix}

pub prints_nothing : {S A E : Type 0} (got : S → Option (List ℕ)) (faults : S → ℕ) (before now : GatheringSink S) (result : Result A E) → now.sink.ghost_name ≡ before.sink.ghost_name
    → Takes (state_of got before) (state_of got now) [] → faults before.sink.now ≤ faults now.sink.now
    → OnErr result (HasRisen (faults before.sink.now) (faults now.sink.now))
    → Prints (all_got got) (λ sink. faults sink.sink.now) (lender_of got) result before now []
prints_nothing got faults before now (Ok value) same takes count failed = record {
  all = takes.all;
  prefix = tt;
  count = count;
  failed = tt;
  lent = record { same = same; more = grown-prefix _ _ _ takes.handed };
}
prints_nothing got faults before now (Err error) same takes count failed = record {
  all = tt;
  prefix = (0, omega arith, takes.all);
  count = count;
  failed = failed;
  lent = record { same = same; more = grown-prefix _ _ _ takes.handed };
}
