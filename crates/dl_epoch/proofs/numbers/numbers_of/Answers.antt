use Rattle.std.proofs.Common.{◌+◌, ◌++◌, ◌∷◌, [], get_or, take, sym, subst, ◌∙◌}
use Rattle.std.proofs.lemmas.List.{take_more}
use Rattle.dl_epoch.proofs.EpochLemmas.{Gathers, Gathers-skip, Gathers-more}
use Rattle.dl_epoch.proofs.numbers.numbers_of.Goals as goal
use Rattle.dl_epoch.proofs.numbers.numbers_of.Goals.{in-Some+in_ok-push-in-Some, in-None}

pub loop-name-preserved : goal.loop-name-preserved
loop-name-preserved c =
    let numbered = c.args.numbering.now in
    let members = c.args.members.now in
    let numbers = c.loop-name.numbers in
    let i = c.loop-name.name-index in
    let name = get_or members i 0 in
    let more = take_more members i 0 c.loop-name-test.true in
    elim c.match-number.branch [
      | in-Some+in_ok-push-in-Some w ↦
          (let n = w.in-Some.number in
          subst (Gathers numbered (take (i + 1) members)) (sym (w.numbers-is ∙ w.in_ok-push-in-Some.ensures.ok))
          (subst (λ ms. Gathers numbered ms (numbers ++ n ∷ [])) (sym more)
          (Gathers-more numbered (take i members) numbers name c.loop-name.invariant n w.in-Some.ensures.number w.in-Some.ensures.only w.in-Some.ensures.few)))
      | in-None w ↦
          subst (Gathers numbered (take (i + 1) members)) (sym w.numbers-is)
          (subst (λ ms. Gathers numbered ms numbers) (sym more) (Gathers-skip numbered (take i members) numbers name c.loop-name.invariant w.in-None.ensures.number))
    ]
