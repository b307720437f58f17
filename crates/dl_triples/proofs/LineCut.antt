-- The cut of bytes into lines: there is one, and reading line by line finds it.
use Rattle.std.proofs.Common.{◌≡◌, ℕ, Bool, true, false, List, [], ◌∷◌, ◌++◌, refl, sym, ap, ◌∙◌, subst, append-nil, nat_eq, true≢false}
use borrow.Author.Tests.{eqb-true}
use Rattle.dl_triples.specs.Lines.{is_line_byte, IsLine, IsLineEnd, cr_lf, lf, cr, AreLines, last, ended}
use Rattle.dl_triples.specs.Runs.{begins, IsSplit}
use Rattle.dl_triples.specs.Parts.{LineThen}
use Rattle.dl_triples.proofs.RunLemmas.{one_run}

-- no line goes on at a line end
pub end_stops : (end rest : List ℕ) → IsLineEnd end rest → begins is_line_byte (end ++ rest) ≡ false
end_stops _ rest cr_lf = refl
end_stops _ rest lf = refl
end_stops _ rest (cr none) = refl

-- a line end and what stands behind it are determined
pub one_end : (end rest end' rest' : List ℕ) → IsLineEnd end rest → IsLineEnd end' rest' → end ++ rest ≡ end' ++ rest' → rest ≡ rest'
one_end _ rest _ rest' cr_lf cr_lf same = cc
one_end _ rest _ rest' cr_lf lf same = absurd (cc)
one_end _ rest _ rest' cr_lf (cr none) same = absurd (none rest (cc))
one_end _ rest _ rest' lf cr_lf same = absurd (cc)
one_end _ rest _ rest' lf lf same = cc
one_end _ rest _ rest' lf (cr none) same = absurd (cc)
one_end _ rest _ rest' (cr none) cr_lf same = absurd (none rest' (cc))
one_end _ rest _ rest' (cr none) lf same = absurd (cc)
one_end _ rest _ rest' (cr none) (cr none') same = cc

-- a line that the end of the bytes ends is no other's front
pub no_end : (line line' end rest : List ℕ) → IsLine line → IsLine line' → IsLineEnd end rest → line ≡ line' ++ (end ++ rest) → ⊥
no_end line line' end rest whole part is same =
    let one = one_run is_line_byte line [] line' (end ++ rest) whole refl part (end_stops end rest is) (append-nil line ∙ same) in
    by end rest is one.1
  where
    by : (end rest : List ℕ) → IsLineEnd end rest → [] ≡ end ++ rest → ⊥
    by _ rest cr_lf empty = cc
    by _ rest lf empty = cc
    by _ rest (cr none) empty = cc

-- the lines are determined
pub one_cut : {bytes : List ℕ} {lines lines' : List (List ℕ)} → AreLines bytes lines → AreLines bytes lines' → lines ≡ lines'
one_cut (last whole) (last whole') = refl
one_cut (last whole) (ended part is stands more) = absurd (no_end _ _ _ _ whole part is stands)
one_cut (ended part is stands more) (last whole) = absurd (no_end _ _ _ _ whole part is stands)
one_cut (ended {line = line} {end = end} {rest = rest} {lines = lines} part is stands more) (ended {line = line'} {end = end'} {rest = rest'} part' is' stands' more') =
    let one = one_run is_line_byte line (end ++ rest) line' (end' ++ rest') part (end_stops end rest is) part' (end_stops end' rest' is') (sym stands ∙ stands') in
    let behind : rest ≡ rest' = one_end end rest end' rest' is is' one.1 in
    let tails = one_cut (subst (λ l. AreLines l lines) behind more) more' in
    λ i. one.0 i ∷ tails i

-- behind a line stands its end
pub line_ends : (bytes line rest : List ℕ) → IsSplit is_line_byte bytes line rest → (b : ℕ) (more : List ℕ) → rest ≡ b ∷ more
    → ((further : List ℕ) → rest ≡ 13 ∷ 10 ∷ further → ⊥) → LineThen bytes line more
line_ends bytes line rest split b more is no_pair = by (nat_eq b 13) refl (nat_eq b 10) refl
  where
    by : (r : Bool) → nat_eq b 13 ≡ r → (n : Bool) → nat_eq b 10 ≡ n → LineThen bytes line more
    by true at n _ =
        let here : rest ≡ 13 ∷ more = is ∙ ap (λ c. c ∷ more) (eqb-true b 13 at) in
        record {
          end = 13 ∷ [];
          is = cr (λ further then. no_pair further (here ∙ ap (λ l. 13 ∷ l) then));
          stands = split.parts ∙ ap (λ l. line ++ l) here;
        }
    by false _ true at =
        record {
          end = 10 ∷ [];
          is = lf;
          stands = split.parts ∙ ap (λ l. line ++ l) (is ∙ ap (λ c. c ∷ more) (eqb-true b 10 at));
        }
    by false no_cr false no_lf =
        let stops : is_line_byte b ≡ false = ap (begins is_line_byte) (sym is) ∙ split.ends in
        let goes : is_line_byte b ≡ true = rw (no_cr, no_lf) refl in
        absurd (true≢false (sym goes ∙ stops))
