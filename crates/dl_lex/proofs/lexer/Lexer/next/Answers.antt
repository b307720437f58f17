use Rattle.std.proofs.Common.{◌≤◌, refl, sym, subst, arith}
use Rattle.dl_lex.proofs.Ranges.{skips_forward, token_in_range}
use Rattle.dl_lex.proofs.lexer.Lexer.next.Goals as goal

pub token_at-requires : goal.token_at-requires
token_at-requires c = (skips_forward c.self.inside.bytes.now c.self.inside.at c.skip-start.result c.skip-start.ensures).1

pub returns-in-Some-clause-in_order : goal.returns-in-Some-clause-in_order
returns-in-Some-clause-in_order c =
    let bytes = c.self.inside.bytes.now in
    let found = c.in-Some.ensures in
    let forward = skips_forward bytes c.self.inside.at c.skip-start.result c.skip-start.ensures in
    let starts = found.starts in
    let stands = subst (λ n. n ≤ c.in-Some.token.end) (sym starts) (token_in_range bytes c.in-Some.token.kind c.skip-start.result c.in-Some.token.end found.stands).forward in
    rw (← c.self.view_is) (omega arith, stands)

pub returns-in-Some-clause-in_bounds : goal.returns-in-Some-clause-in_bounds
returns-in-Some-clause-in_bounds c =
    let bytes = c.self.inside.bytes.now in
    let found = c.in-Some.ensures in
    let within = token_in_range bytes c.in-Some.token.kind c.skip-start.result c.in-Some.token.end found.stands in
    rw (← c.self.view_is) within.in_range

pub returns-in-Some-clause-text : goal.returns-in-Some-clause-text
returns-in-Some-clause-text c =
    let bytes = c.self.inside.bytes.now in
    let found = c.in-Some.ensures in
    let within = token_in_range bytes c.in-Some.token.kind c.skip-start.result c.in-Some.token.end found.stands in
    rw (← c.self.view_is, found.starts) within.utf8

pub returns-in-None-clause-stays : goal.returns-in-None-clause-stays
returns-in-None-clause-stays c = refl
