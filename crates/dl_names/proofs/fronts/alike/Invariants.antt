use Rattle.std.proofs.Common.{◌≡◌, All, take, string_bytes}
use Rattle.dl_names.proofs.fronts.alike.Given as goal

abbrev pub invariant-loop-text : goal.invariant-loop-text
invariant-loop-text l = All (λ text. take l.count (string_bytes text) ≡ take l.count l.first) (take l.text-index l.texts)
