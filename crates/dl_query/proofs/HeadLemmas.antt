-- Reading a head.
use Rattle.std.proofs.Common.{◌≡◌, ℕ, ◌<◌, ◌≤◌, false, List, [], length, sym, ap, subst, ◌∙◌, arith, Result, Ok, Err, IfOk, IfErr}
use Rattle.dl_names.specs.NameList.{Text}
use Rattle.dl_query.specs.declared.token.Mark.TheVariants.{QueryWord, Opening, Closing, Comma}
use Rattle.dl_query.specs.declared.tokens.Tokens.{Tokens}
use Rattle.dl_query.specs.Symbols.{mark, variable, is_last, is_blank, behind}
use Rattle.dl_query.specs.Grammar.{Met, met, with_head, nothing_met}
use Rattle.dl_query.specs.Steps.{Expected, query_word, head_opening, head_first, head_variable, head_more, head_end, move_of}
use Rattle.dl_query.specs.Parts.{Passes, next_symbol, Leads, AreNumbers, Adds}
use Rattle.dl_query.proofs.ReadingLemmas.{next-shorter, length-behind}
use Rattle.dl_query.proofs.TokenLemmas.{rest-le}
use Rattle.dl_query.proofs.StepLemmas.{Leads-goes, Leads-then}

pub Leads-same : (e : Expected) (m : Met) (tokens : Tokens) → Leads e m tokens e m tokens
Leads-same e m tokens = record { onward = λ o has. has }

-- a token that is not the last one makes what is left shorter
pub Passes-shorter : (old new : Tokens) → Passes old new → is_last (next_symbol old) ≡ false → length new.rest.now < length old.rest.now
Passes-shorter old new passes l = subst (λ r. length r < length old.rest.now) (sym passes.rest) (next-shorter old.rest.now l)

-- and none makes it longer
pub Passes-no-longer : (old new : Tokens) → Passes old new → length new.rest.now ≤ length old.rest.now
Passes-no-longer old new passes =
    subst (λ r. length r ≤ length old.rest.now) (sym passes.rest)
    (omega (arith, rest-le (behind is_blank old.rest.now), length-behind is_blank old.rest.now))

-- with a variable more
pub Adds-met : {head head' : List ℕ} {variables variables' : List Text} {x : Text} (names : List Text) → Adds head variables x head' variables'
    → with_head (met variables names head []) x ≡ met variables' names head' []
Adds-met names adds = λ i. met (sym adds.met i) names (sym adds.added i) []

-- the variables behind a first one, as far as they are read
pub record FurtherReads (head : List ℕ) (variables : List Text) (tokens : Tokens) (head' : List ℕ) (variables' : List Text) (tokens' : Tokens) : Type 0 where
  pub leads : (names : List Text) → Leads head_more (met variables names head []) tokens head_more (met variables' names head' []) tokens'
  pub numbers : AreNumbers head' (length variables')

-- a comma and a variable more
pub FurtherReads-more : {head head' head'' : List ℕ} {variables variables' variables'' : List Text} {x : Text} {tokens t1 t2 t3 : Tokens}
    → FurtherReads head variables tokens head' variables' t1 → next_symbol t1 ≡ mark Comma → Passes t1 t2 → next_symbol t2 ≡ variable x → Passes t2 t3
    → Adds head' variables' x head'' variables'' → AreNumbers head'' (length variables'') → FurtherReads head variables tokens head'' variables'' t3
FurtherReads-more {head} {head'} {head''} {variables} {variables'} {variables''} {x} {tokens} {t1} {t2} {t3} reads comma p1 is_x p2 adds numbers = record {
  leads = λ names.
      let m = met variables' names head' [] in
      subst (λ after. Leads head_more (met variables names head []) tokens head_more after t3) (Adds-met names adds)
      (Leads-then (reads.leads names)
      (Leads-then (Leads-goes head_more m t1 {e' = head_variable} {m' = m} {new = t2} (ap (move_of head_more m) comma) p1)
      (Leads-goes head_variable m t2 {e' = head_more} {m' = with_head m x} {new = t3} (ap (move_of head_variable m) is_x) p2)));
  numbers = numbers;
}

-- the two tokens before the first variable
pub head-opened : (names : List Text) (t0 t1 t2 : Tokens) → next_symbol t0 ≡ mark QueryWord → Passes t0 t1 → next_symbol t1 ≡ mark Opening → Passes t1 t2
    → Leads query_word (nothing_met names) t0 head_first (nothing_met names) t2
head-opened names t0 t1 t2 first p0 second p1 =
    let m = nothing_met names in
    Leads-then (Leads-goes query_word m t0 {e' = head_opening} {m' = m} {new = t1} (ap (move_of query_word m) first) p0)
    (Leads-goes head_opening m t1 {e' = head_first} {m' = m} {new = t2} (ap (move_of head_opening m) second) p1)

-- ---- a whole head

module _ (names : List Text) (t0 t1 t2 t3 : Tokens) (first : next_symbol t0 ≡ mark QueryWord) (p0 : Passes t0 t1) (second : next_symbol t1 ≡ mark Opening) (p1 : Passes t1 t2) (p2 : Passes t2 t3) where
  -- one without variables
  pub head-none : (variables : List Text) (head : List ℕ) → variables ≡ [] → head ≡ [] → next_symbol t2 ≡ mark Closing
      → Leads query_word (nothing_met names) t0 head_end (met variables names head []) t3
  head-none variables head no_variables no_head closing =
      let m = nothing_met names in
      subst (λ after. Leads query_word m t0 head_end after t3) (λ i. met (sym no_variables i) names (sym no_head i) [])
      (Leads-then (head-opened names t0 t1 t2 first p0 second p1)
      (Leads-goes head_first m t2 {e' = head_end} {m' = m} {new = t3} (ap (move_of head_first m) closing) p2))

  -- the first variable
  pub head-some : {variables variables' : List Text} {head head' : List ℕ} {x : Text} → variables ≡ [] → head ≡ [] → next_symbol t2 ≡ variable x
      → Adds head variables x head' variables' → Leads query_word (nothing_met names) t0 head_more (met variables' names head' []) t3
  head-some {variables} {variables'} {head} {head'} {x} no_variables no_head is_x adds =
      let m = nothing_met names in
      let after : with_head m x ≡ met variables' names head' [] =
      (λ i. with_head (met (sym no_variables i) names (sym no_head i) []) x) ∙ Adds-met names adds
      in
      subst (λ after. Leads query_word m t0 head_more after t3) after
      (Leads-then (head-opened names t0 t1 t2 first p0 second p1)
      (Leads-goes head_first m t2 {e' = head_more} {m' = with_head m x} {new = t3} (ap (move_of head_first m) is_x) p2))

-- ---- results

pub IfOk-map : {T E : Type 0} (P Q : T → Type 0) (r : Result T E) → ((v : T) → P v → Q v) → IfOk r P → IfOk r Q
IfOk-map P Q (Ok v) f h = f v h
IfOk-map P Q (Err e) f h = tt

pub IfErr-map : {T E : Type 0} (P Q : E → Type 0) (r : Result T E) → ((e : E) → P e → Q e) → IfErr r P → IfErr r Q
IfErr-map P Q (Ok v) f h = tt
IfErr-map P Q (Err e) f h = f e h
