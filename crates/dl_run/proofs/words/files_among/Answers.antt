use Rattle.std.proofs.Common.{◌≡◌, ◌+◌, ◌++◌, map, string_bytes, length, arith, sym, ◌∙◌, refl}
use Rattle.std.proofs.lemmas.Bool.{false≢true}
use Rattle.std.proofs.lemmas.List.{length-append, length-map}
use Rattle.dl_run.proofs.OptionLemmas.{found_at, files_at, no_files_at}
use Rattle.dl_run.proofs.WordLemmas.{three_from}
use Rattle.dl_run.proofs.words.files_among.Goals as goal

pub returns-in_err-given : goal.returns-in_err-given
returns-in_err-given c = rw c.from_residual.ensures (λ files given are three.
    let found = found_at c.args.option.now c.args.most c.requires string_bytes c.args.words.now c.split_at.result.0.now c.split_at.result.1.now c.names_len.result
    c.names_len.ensures.value c.split_at.ensures.front c.split_at.ensures.back files given are in
    c.in_err-given.ensures given found.after found.option_then)

pub returns-then-names_len-after : goal.returns-then-names_len-after
returns-then-names_len-after c = λ files given are three.
    let no = no_files_at c.args.option.now c.args.most c.requires string_bytes c.args.words.now c.split_at.result.0.now c.split_at.result.1.now c.names_len.result
    c.names_len.ensures.value c.split_at.ensures.front c.split_at.ensures.back c.in_ok-given.after.now c.in_ok-given.given c.in_ok-given.ensures files given are in
    omega (arith, no.0, c.names_len-2.ensures.value, c.if-names_len-after.true)

pub returns-then-not-are_three : goal.returns-then-not-are_three
returns-then-not-are_three c = λ files given are three.
    let no = no_files_at c.args.option.now c.args.most c.requires string_bytes c.args.words.now c.split_at.result.0.now c.split_at.result.1.now c.names_len.result
    c.names_len.ensures.value c.split_at.ensures.front c.split_at.ensures.back c.in_ok-given.after.now c.in_ok-given.given c.in_ok-given.ensures files given are in
    false≢true (c.if-not-are_three.ensures.1 (sym no.1 ∙ three))

pub returns : goal.returns
returns c =
    let before = map string_bytes c.split_at.result.0.now in
    let after = map string_bytes c.in_ok-given.after.now in
    let long : length (before ++ after) ≡ 3 =
    length-append before after ∙ (λ i. length-map c.split_at.result.0.now string_bytes i + length-map c.in_ok-given.after.now string_bytes i)
    ∙ c.if-not-are_three.ensures.0 refl in
    files_at c.args.option.now c.args.most c.requires string_bytes c.args.words.now c.split_at.result.0.now c.split_at.result.1.now c.names_len.result
    c.names_len.ensures.value c.split_at.ensures.front c.split_at.ensures.back c.in_ok-given.after.now c.in_ok-given.given c.in_ok-given.ensures
    (omega (arith, c.names_len-2.ensures.value, c.if-names_len-after.false)) _
    (three_from (before ++ after) c.name_at.result.now c.name_at-2.result.now c.name_at-3.result.now long c.name_at.ensures c.name_at-2.ensures c.name_at-3.ensures)
