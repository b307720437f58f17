use Rattle.std.proofs.Common.{[], ◌<◌, refl, arith}
use Rattle.dl_lex.specs.declared.keyword.Keyword.TheVariants.{ObjectIntersectionOf}
use Rattle.dl_terms.specs.declared.axiom.Part.{Part}
use Rattle.dl_owl.specs.Expected.{prologue, sup_then, sups_close}
use Rattle.dl_owl.specs.Walk.{here, left}
use Rattle.dl_owl.specs.Series.{Appends}
use Rattle.dl_owl.proofs.AheadLemmas.{moved_ahead, word_some}
use Rattle.dl_owl.proofs.CursorLemmas.{not_kind}
use Rattle.dl_owl.proofs.ReaderLemmas.{keyword-goes, keyword-faults}
use Rattle.dl_owl.proofs.SeriesLemmas.{exit_by, appends_behind, series_start, series_next, series_next_faults, series_again, series_again_faults, series_closes, parts_behind, sups_series}
use Rattle.dl_owl.proofs.right.+parts.Goals as goal

pub add_parts-returns-then-not-is_word : goal.add_parts-returns-then-not-is_word
add_parts-returns-then-not-is_word t c =
    c.add_part.ensures (not_kind c.is_word.result _ c.is_word.ensures c.if-not-is_word.true)

pub add_parts-returns-in_err-advance : goal.add_parts-returns-in_err-advance
add_parts-returns-in_err-advance t c =
    exit_by (Appends sup_then (here c.args.at.now c.args.prefixes.now c.args.names.now)
    (here c.advance.new.self c.args.prefixes.now c.args.names.now) c.args.parts.now c.args.parts.now)
    c.from_residual.result c.in_err-advance.field-0.0 c.from_residual.ensures.1
    (λ k.
    keyword-faults ObjectIntersectionOf (sup_then k) (parts_behind k) c.args.at.now c.args.prefixes.now
    c.args.names.now (c.is_word.ensures.0 c.if-not-is_word.false) refl c.in_err-advance.field-0.0
    c.in_err-advance.ensures)

pub add_parts-intersection-requires : goal.add_parts-intersection-requires
add_parts-intersection-requires t c =
    let next : left c.advance.new.self < left c.args.at.now =
    moved_ahead c.args.at.now c.advance.new.self c.in_ok-advance.ensures
    (word_some ObjectIntersectionOf c.args.at.now.token.kind
    (c.is_word.ensures.0 c.if-not-is_word.false)) in
    let fall : left c.advance.new.self < t = omega (arith, c.decreases, next) in (fall, tt)

pub add_parts-returns : goal.add_parts-returns
add_parts-returns t c =
    appends_behind sup_then parts_behind (here c.args.at.now c.args.prefixes.now c.args.names.now)
    (here c.advance.new.self c.args.prefixes.now c.args.names.now)
    (here c.intersection.new.at c.args.prefixes.now c.intersection.new.names) c.args.parts.now
    c.intersection.new.parts
    c.intersection.result
    (λ k.
    keyword-goes ObjectIntersectionOf (sup_then k) (parts_behind k) c.args.at.now c.args.prefixes.now
    c.args.names.now (c.is_word.ensures.0 c.if-not-is_word.false) refl c.advance.new.self
    c.in_ok-advance.ensures)
    c.intersection.ensures

pub intersection-add_parts-requires : goal.intersection-add_parts-requires
intersection-add_parts-requires t c =
    let first = (c.in_ok-open.ensures c.args.prefixes.now c.args.names.now prologue).ahead in
    let fall : left c.open.new.at < t = omega (arith, c.decreases, first) in (fall, tt)

pub intersection-returns-in_err-add_parts : goal.intersection-returns-in_err-add_parts
intersection-returns-in_err-add_parts t c =
    exit_by (Appends parts_behind (here c.args.at.now c.args.prefixes.now c.args.names.now)
    (here c.add_parts.new.at c.args.prefixes.now c.add_parts.new.names) c.args.parts.now c.add_parts.new.parts)
    c.from_residual-in_err-add_parts.result c.in_err-add_parts.field-0.0 c.from_residual-in_err-add_parts.ensures.1
    (series_next_faults Part sups_close sup_then sups_series parts_behind c.args.parts.now c.args.parts.now
    c.add_parts.new.parts (here c.args.at.now c.args.prefixes.now c.args.names.now)
    (here c.open.new.at c.args.prefixes.now c.args.names.now) (here c.add_parts.new.at c.args.prefixes.now
    c.add_parts.new.names) 1 c.in_err-add_parts.field-0.0
    (series_start Part sups_close sup_then sups_series parts_behind 2 c.args.parts.now
    (here c.args.at.now c.args.prefixes.now c.args.names.now) (here c.open.new.at c.args.prefixes.now
    c.args.names.now)
    (λ k. c.in_ok-open.ensures c.args.prefixes.now c.args.names.now (sups_close 2 [] k)))
    c.in_err-add_parts.ensures)

pub intersection-add_parts-requires-2 : goal.intersection-add_parts-requires-2
intersection-add_parts-requires-2 t c =
    let first = (c.in_ok-open.ensures c.args.prefixes.now c.args.names.now prologue).ahead in
    let second = (c.in_ok-add_parts.ensures.2 (λ _. prologue)).ahead in
    let fall : left c.add_parts.new.at < t = omega (arith, c.decreases, first, second) in (fall, tt)

pub intersection-returns-in_err-add_parts-2 : goal.intersection-returns-in_err-add_parts-2
intersection-returns-in_err-add_parts-2 t c =
    exit_by (Appends parts_behind (here c.args.at.now c.args.prefixes.now c.args.names.now)
    (here c.add_parts-2.new.at c.args.prefixes.now c.add_parts-2.new.names) c.args.parts.now c.add_parts-2.new.parts)
    c.from_residual-in_err-add_parts-2.result c.in_err-add_parts-2.field-0.0
    c.from_residual-in_err-add_parts-2.ensures.1
    (series_next_faults Part sups_close sup_then sups_series parts_behind c.args.parts.now c.add_parts.new.parts
    c.add_parts-2.new.parts (here c.args.at.now c.args.prefixes.now c.args.names.now)
    (here c.add_parts.new.at c.args.prefixes.now c.add_parts.new.names) (here c.add_parts-2.new.at c.args.prefixes.now
    c.add_parts-2.new.names) 0 c.in_err-add_parts-2.field-0.0
    (series_next Part sups_close sup_then sups_series parts_behind c.args.parts.now c.args.parts.now
    c.add_parts.new.parts (here c.args.at.now c.args.prefixes.now c.args.names.now)
    (here c.open.new.at c.args.prefixes.now c.args.names.now) (here c.add_parts.new.at c.args.prefixes.now
    c.add_parts.new.names) 1
    (series_start Part sups_close sup_then sups_series parts_behind 2 c.args.parts.now
    (here c.args.at.now c.args.prefixes.now c.args.names.now) (here c.open.new.at c.args.prefixes.now
    c.args.names.now)
    (λ k. c.in_ok-open.ensures c.args.prefixes.now c.args.names.now (sups_close 2 [] k)))
    c.in_ok-add_parts.ensures)
    c.in_err-add_parts-2.ensures)

pub intersection-loop-at-init : goal.intersection-loop-at-init
intersection-loop-at-init t c =
    series_next Part sups_close sup_then sups_series parts_behind c.args.parts.now c.add_parts.new.parts
    c.add_parts-2.new.parts (here c.args.at.now c.args.prefixes.now c.args.names.now)
    (here c.add_parts.new.at c.args.prefixes.now c.add_parts.new.names) (here c.add_parts-2.new.at c.args.prefixes.now
    c.add_parts-2.new.names) 0
    (series_next Part sups_close sup_then sups_series parts_behind c.args.parts.now c.args.parts.now
    c.add_parts.new.parts (here c.args.at.now c.args.prefixes.now c.args.names.now)
    (here c.open.new.at c.args.prefixes.now c.args.names.now) (here c.add_parts.new.at c.args.prefixes.now
    c.add_parts.new.names) 1
    (series_start Part sups_close sup_then sups_series parts_behind 2 c.args.parts.now
    (here c.args.at.now c.args.prefixes.now c.args.names.now) (here c.open.new.at c.args.prefixes.now
    c.args.names.now)
    (λ k. c.in_ok-open.ensures c.args.prefixes.now c.args.names.now (sups_close 2 [] k)))
    c.in_ok-add_parts.ensures)
    c.in_ok-add_parts-2.ensures

pub intersection-add_parts-requires-in-loop-at : goal.intersection-add_parts-requires-in-loop-at
intersection-add_parts-requires-in-loop-at t c =
    let before = (c.loop-at.invariant.on (λ _. prologue)).ahead in
    let fall : left c.loop-at.at < t = omega (arith, c.decreases, before) in (fall, tt)

pub intersection-loop-at-smaller : goal.intersection-loop-at-smaller
intersection-loop-at-smaller t c = (c.in_ok-add_parts-3.ensures.2 (λ _. prologue)).ahead

pub intersection-loop-at-preserved : goal.intersection-loop-at-preserved
intersection-loop-at-preserved t c =
    series_again Part sups_close sup_then sups_series parts_behind c.args.parts.now c.loop-at.parts
    c.add_parts-in-loop-at.new.parts (here c.args.at.now c.args.prefixes.now c.args.names.now)
    (here c.loop-at.at c.args.prefixes.now c.loop-at.names) (here c.add_parts-in-loop-at.new.at c.args.prefixes.now
    c.add_parts-in-loop-at.new.names) c.loop-at.invariant
    (not_kind c.is_close.result _ c.is_close.ensures c.loop-at-test.true) c.in_ok-add_parts-3.ensures

pub intersection-returns-in_err-add_parts-3 : goal.intersection-returns-in_err-add_parts-3
intersection-returns-in_err-add_parts-3 t c =
    exit_by (Appends parts_behind (here c.args.at.now c.args.prefixes.now c.args.names.now)
    (here c.add_parts-in-loop-at.new.at c.args.prefixes.now c.add_parts-in-loop-at.new.names) c.args.parts.now
    c.add_parts-in-loop-at.new.parts)
    c.from_residual-in_err-add_parts-3.result c.in_err-add_parts-3.field-0.0
    c.from_residual-in_err-add_parts-3.ensures.1
    (series_again_faults Part sups_close sup_then sups_series parts_behind c.args.parts.now c.loop-at.parts
    c.add_parts-in-loop-at.new.parts (here c.args.at.now c.args.prefixes.now c.args.names.now)
    (here c.loop-at.at c.args.prefixes.now c.loop-at.names) (here c.add_parts-in-loop-at.new.at c.args.prefixes.now
    c.add_parts-in-loop-at.new.names) c.in_err-add_parts-3.field-0.0 c.loop-at.invariant
    (not_kind c.is_close.result _ c.is_close.ensures c.loop-at-test.true) c.in_err-add_parts-3.ensures)

pub intersection-returns : goal.intersection-returns
intersection-returns t c =
    series_closes Part sups_close sup_then sups_series parts_behind c.args.parts.now c.loop-at.parts
    (here c.args.at.now c.args.prefixes.now c.args.names.now)
    (here c.loop-at.at c.args.prefixes.now c.loop-at.names) (here c.close.new.at c.args.prefixes.now c.loop-at.names)
    c.close.result
    c.loop-at.invariant (c.is_close.ensures.0 c.loop-at-test.false)
    (c.close.ensures c.args.prefixes.now c.loop-at.names)
