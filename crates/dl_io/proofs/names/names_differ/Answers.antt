use Rattle.std.proofs.Common.{◌≡◌, true, false, ◌∷◌, refl, sym, true≢false, string_bytes, rules}
use Rattle.std.specs.List.{list_any}
use Rattle.std.specs.Str.{bytes_eq}
use Rattle.dl_io.proofs.Different.{goes_on, ends_early, all_seen}
use Rattle.dl_io.proofs.names.names_differ.Goals as goal

pub returns-then-has_name : goal.returns-then-has_name
returns-then-has_name c =
    let first = c.in-Some.first.now in
    let others = c.in-Some.others.now in
    let split : c.loop-first.rest.now ≡ first ∷ others = search rules in
    let some : list_any (λ file. bytes_eq (string_bytes first.0) (string_bytes file.0)) others ≡ true = search rules in
    (λ no. absurd (true≢false (sym no)), λ different. absurd (ends_early c.args.files.now _ others first split some c.loop-first.invariant different))

pub loop-first-preserved : goal.loop-first-preserved
loop-first-preserved c =
    let first = c.in-Some.first.now in
    let others = c.in-Some.others.now in
    let split : c.loop-first.rest.now ≡ first ∷ others = search rules in
    let none : list_any (λ file. bytes_eq (string_bytes first.0) (string_bytes file.0)) others ≡ false = search rules in
    goes_on c.args.files.now _ others first split none c.loop-first.invariant

pub returns : goal.returns
returns c =
    (λ _. all_seen c.args.files.now c.loop-first.rest.now c.in_default.ensures.cases c.loop-first.invariant, λ _. refl)
