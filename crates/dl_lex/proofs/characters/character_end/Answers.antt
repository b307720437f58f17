use Rattle.std.proofs.Common.{◌≡◌, ◌+◌, ◌-◌, ℕ, take, drop, ap, subst, sym, ◌∙◌, arith}
use Rattle.std.specs.Str.{IsUtf8}
use Rattle.std.proofs.lemmas.Str.{IsUtf8-encode}
use Rattle.dl_lex.proofs.Standing.{character_width, window_of_character, character_of_window}
use Rattle.dl_lex.proofs.characters.character_end.Goals as goal

pub returns-then-bytes-at : goal.returns-then-bytes-at
returns-then-bytes-at c = λ j h.
    let width = character_width c.args.bytes.now c.args.at j h.character h.stands in
    let inside = h.stands.in_range in
    omega arith

pub returns-in-Ok : goal.returns-in-Ok
returns-in-Ok c =
    let w = c.width-width.result in
    let size : (c.args.at + w) - c.args.at ≡ w = omega arith in
    let text = subst (λ (n : ℕ). IsUtf8 (take n (drop c.args.at c.args.bytes.now))) size c.in-Ok.ensures.cases.1 in
    character_of_window c.args.bytes.now c.args.at w (omega arith) c.width-width.ensures text

pub returns-in-Err : goal.returns-in-Err
returns-in-Err c = λ j h.
    let w = c.width-width.result in
    let size : (c.args.at + w) - c.args.at ≡ w = omega arith in
    let ends : j ≡ c.args.at + w = character_width c.args.bytes.now c.args.at j h.character h.stands ∙ ap (λ n. c.args.at + n) (sym c.width-width.ensures) in
    let window = window_of_character c.args.bytes.now c.args.at j h.character w h.stands ends in
    c.in-Err.ensures.cases.0 (rw (size, window) (IsUtf8-encode h.character h.scalar))
