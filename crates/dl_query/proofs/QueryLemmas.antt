-- A whole text is read.
use Rattle.std.proofs.Common.{◌≡◌, ℕ, ◌≤◌, List, [], length, refl, sym, ap, subst, ◌∙◌, arith}
use Rattle.dl_names.specs.NameList.{Text, max_names, Extends}
use Rattle.dl_names.proofs.NameListLemmas.{length-Extends}
use Rattle.dl_terms.specs.declared.query.Query.{Query}
use Rattle.dl_terms.specs.Queries.{IsWellFormed}
use Rattle.dl_query.specs.declared.fault.QueryFault.{QueryFault}
use Rattle.dl_query.specs.declared.token.Mark.TheVariants.{Turnstile}
use Rattle.dl_query.specs.declared.tokens.Tokens.{Tokens}
use Rattle.dl_query.specs.declared.body.Body.{Body}
use Rattle.dl_query.specs.Symbols.{mark}
use Rattle.dl_query.specs.Grammar.{Met, met, nothing_met, query_of}
use Rattle.dl_query.specs.Steps.{query_word, head_end, predicate, move_of}
use Rattle.dl_query.specs.Reading.{Outcome, gives, HasOutcome, TextHasOutcome}
use Rattle.dl_query.specs.Queries.{IsValue, QueryHasFault, HasFault, of_query}
use Rattle.dl_query.specs.Parts.{Passes, next_symbol, Gives, Leads, ReadsBody, Judges, Keeps}
use Rattle.dl_query.proofs.StepLemmas.{Leads-goes, Leads-then}
use Rattle.dl_query.proofs.ResultLemmas.{Texts, gives-text, text-numbered}

-- the tokens are those of the whole text
pub text-outcome : (bytes : List ℕ) (names : List Text) (t0 : Tokens) (o : Outcome) → t0.len ≡ length bytes → t0.rest.now ≡ bytes
    → Gives query_word (nothing_met names) t0 o → TextHasOutcome bytes names o
text-outcome bytes names t0 o len rest has =
    subst (λ l. HasOutcome l query_word (nothing_met names) bytes o) len (subst (λ r. HasOutcome t0.len query_word (nothing_met names) r o) rest has)

-- from the head to the body
pub to-body : {names variables : List Text} {head : List ℕ} {t0 t1 t2 : Tokens} → Leads query_word (nothing_met names) t0 head_end (met variables names head []) t1
    → next_symbol t1 ≡ mark Turnstile → Passes t1 t2 → Leads query_word (nothing_met names) t0 predicate (met variables names head []) t2
to-body {names} {variables} {head} {t0} {t1} {t2} leads turnstile passes =
    let m = met variables names head [] in
    Leads-then leads (Leads-goes head_end m t1 {e' = predicate} {m' = m} {new = t2} (ap (move_of head_end m) turnstile) passes)

module _ (bytes : List ℕ) (names names' variables variables' : List Text) (head : List ℕ) (body : Body) (t0 t2 : Tokens) (len : t0.len ≡ length bytes) (rest : t0.rest.now ≡ bytes)
    (leads : Leads query_word (nothing_met names) t0 predicate (met variables names head []) t2) (reads : ReadsBody t2 variables names variables' names' body)
    (grows : Extends names names') (fits : length names' ≤ max_names) (heads count : ℕ) (heads_is : heads ≡ length variables) (count_is : count ≡ length variables')
    (head' : List ℕ) (head_is : head' ≡ head) where
  texts : Texts bytes names (met variables' names' head reads.atoms)
  texts =
      gives-text bytes names (met variables' names' head reads.atoms) (omega (arith, fits, length-Extends names names' grows))
      (text-outcome bytes names t0 (gives (met variables' names' head reads.atoms)) len rest
      (leads.onward (gives (met variables' names' head reads.atoms)) (reads.reads head)))

  judges : Judges (met variables' names' head reads.atoms) head' body heads count
  judges = record {
    numbered = text-numbered bytes names (met variables' names' head reads.atoms) texts.text;
    in_head = head_is;
    in_all = count_is;
    keeps = subst (λ n. Keeps body reads.atoms n heads) (sym count_is) (subst (λ n. Keeps body reads.atoms (length variables') n) (sym heads_is) reads.keeps);
  }

  -- it has this value
  pub judged-value : (q : Query) → ((m : Met) → Judges m head' body heads count → (q ≡ query_of m) × IsWellFormed q) → IsValue bytes names q names'
  judged-value q judged =
      let both = judged (met variables' names' head reads.atoms) judges in
      record {
        m = met variables' names' head reads.atoms;
        text = texts.text;
        fits = texts.fits;
        is = both.0;
        named = refl;
        well_formed = both.1;
      }

  -- or this fault
  pub judged-fault : (f : QueryFault) → ((m : Met) → Judges m head' body heads count → QueryHasFault (query_of m) f) → HasFault bytes names f names'
  judged-fault f judged = of_query texts.text texts.fits (judged (met variables' names' head reads.atoms) judges)

  -- the marks are as many as the variables of the head
  pub marks-are : length body.bound.items ≡ heads
  marks-are = reads.keeps.marks ∙ sym heads_is
