-- Steps of a reader of ontology documents: tokens that fit, prefixes that are declared, and loops over what is next.
use Rattle.std.proofs.Common.{◌≡◌, ◌≢◌, ℕ, false, cond, Result, Ok, Err, IsErrAnd, List, [], ◌∷◌, ◌++◌, refl, sym, ap, ◌∙◌, subst, slice_range}
use Rattle.std.proofs.lemmas.Result.{err_from_is_err_and}
use Rattle.dl_lex.specs.declared.token.TokenKind.{TokenKind}
use Rattle.dl_lex.specs.declared.token.TokenKind.TheVariants.{Iri, Short, Equals, End}
use Rattle.dl_names.specs.NameList as name_list
use Rattle.dl_names.proofs.NameListLemmas.{Extends-same}
use Rattle.dl_owl.specs.declared.fault.OwlFault.{OwlFault}
use Rattle.dl_owl.specs.declared.fault.OwlFault.TheVariants.{Syntax}
use Rattle.dl_owl.specs.Symbols as symbols
use Rattle.dl_owl.specs.Symbols.{Symbol, equals, no_token, Placed, placed, symbol_of}
use Rattle.dl_owl.specs.Prefixes.{Prefixes}
use Rattle.dl_owl.specs.Causes.{syntax, too_deep}
use Rattle.dl_owl.specs.Documents.{Leads}
use Rattle.dl_owl.specs.Expected.{Expected, goes, declares}
use Rattle.dl_owl.specs.Steps.{move_of}
use Rattle.dl_owl.specs.Reading.{fails, depth_after, is_too_deep, outcome_of, outcome}
use Rattle.dl_owl.specs.Walk as walk
use Rattle.dl_owl.specs.Walk.{Spot, symbol_at, Here, here, met_of, Goes, Faults, Moved, NoneNext, Passes}
use Rattle.dl_owl.proofs.AheadLemmas.{moved_ahead}
use Rattle.dl_owl.proofs.WalkLemmas.{goes_tokens, faults_here, goes-then, goes-faults, no_token_refused}
use Rattle.dl_owl.proofs.CursorLemmas.{advance-goes, advance-faults}
use Rattle.dl_owl.proofs.AnnotationLemmas.{Says}

-- ---- one after another

pub exit_leads : (e later : Expected) (a b : Here) (r : Result (Unit {0}) OwlFault) (fault : OwlFault)
    → IsErrAnd r (λ y. y ≡ fault) → Faults e a b.names fault → Leads e later a b r
exit_leads e later a b r fault is h =
    let found = err_from_is_err_and r is in
    subst (Leads e later a b) (sym found.1) (subst (Faults e a b.names) (sym found.2) h)

pub leads_behind : (e f later : Expected) (a b c : Here) (r : Result (Unit {0}) OwlFault)
    → Goes e a f b → Leads f later b c r → Leads e later a c r
leads_behind e f later a b c (Ok v) first h = goes-then e a f b later c first h
leads_behind e f later a b c (Err fault) first h = goes-faults e a f b fault first h

pub passes_lead : (e : Expected → Expected) (later : Expected) (a b : Here) (r : Result (Unit {0}) OwlFault)
    → Passes e a b r → Leads (e later) later a b r
passes_lead e later a b (Ok v) h = h later
passes_lead e later a b (Err fault) h = h later

-- ---- over and over: what comes from there comes from here

pub record Behind (e : Expected) (from : Here) (later : Expected) (to : Here) : Type 0 where
  pub goes_on : (f : Expected) (c : Here) → Goes later to f c → Goes e from f c
  pub faults : (after : List name_list.Text) (fault : OwlFault) → Faults later to after fault → Faults e from after fault

pub behind_start : (e : Expected) (a : Here) → Behind e a e a
behind_start e a = record { goes_on = λ f c h. h; faults = λ after fault h. h }

pub behind_then : (e : Expected) (a : Here) (f : Expected) (b : Here) (g : Expected) (c : Here)
    → Behind e a f b → Goes f b g c → Behind e a g c
behind_then e a f b g c front step = record {
  goes_on = λ h d later. front.goes_on h d (goes-then f b g c h d step later);
  faults = λ after fault later. front.faults after fault (goes-faults f b g c fault step later);
}

-- ---- a token that fits and is no parenthesis

pub record Plain (kind : TokenKind) : Type 0 where
  pub flat : (text : List ℕ) (depth : ℕ) → is_too_deep (symbol_of kind text) depth ≡ false
  pub level : (text : List ℕ) (depth : ℕ) → depth_after (symbol_of kind text) depth ≡ depth
  pub some : kind ≢ End

pub iri_plain : Plain Iri
iri_plain = record { flat = λ text d. refl; level = λ text d. refl; some = λ end. cc }

pub short_plain : Plain Short
short_plain = record { flat = λ text d. refl; level = λ text d. refl; some = λ end. cc }

pub equals_says : Says Equals equals
equals_says = record { says = λ text. refl; flat = λ d. refl; level = λ d. refl; some = λ end. cc }

module _ (kind : TokenKind) (plain : Plain kind) (e : Expected) (s : Spot) (p : Prefixes) (names : List name_list.Text)
    (is : s.token.kind ≡ kind) where
  abbrev text : List ℕ
  text = slice_range s.bytes s.token.start s.token.end

  flat : (d : ℕ) → is_too_deep (symbol_at s) d ≡ false
  flat d = ap (λ k. is_too_deep (symbol_of k text) d) is ∙ plain.flat text d

  level : (d : ℕ) → depth_after (symbol_at s) d ≡ d
  level d = ap (λ k. depth_after (symbol_of k text) d) is ∙ plain.level text d

  some : s.token.kind ≢ End
  some end = plain.some (sym is ∙ end)

  module _ (next : Expected) (fits : move_of p e (symbol_at s) ≡ goes next) where
    pub plain-goes : (new : Spot) → Moved s new → Goes e (here s p names) next (here new p names)
    plain-goes new m =
        advance-goes e next s p names fits (flat s.depth) some new new m
        (ap (λ d. let u : Spot = record { bytes = new.bytes; token = new.token; depth = d } in u) (sym (level
        new.depth)))

    pub plain-faults : (fault : OwlFault) → NoneNext s fault → Faults e (here s p names) names fault
    plain-faults fault none = advance-faults e next s p names fits (flat s.depth) some fault none

  -- a prefix that is declared
  module _ (name iri : name_list.Text) (next : Expected) (fits : move_of p e (symbol_at s) ≡ declares name iri next)
    where
      declared : (rest : List Placed)
          → outcome e (met_of (here s p names)) (placed s.bytes s.token ∷ rest)
          ≡ outcome next (record { prefixes = p ++ (name, iri) ∷ []; names = names; depth = s.depth }) rest
      declared rest =
          ap (outcome_of (met_of (here s p names)) (placed s.bytes s.token) (λ f later. outcome f later rest)) fits
          ∙ ap (λ b. cond b (fails too_deep s.token.start)
          (outcome next (record {
            prefixes = p ++ (name, iri) ∷ [];
            names = names;
            depth = depth_after (symbol_at s)
                s.depth;
          })
          rest)) (flat s.depth)
          ∙ ap (λ d. outcome next (record { prefixes = p ++ (name, iri) ∷ []; names = names; depth = d }) rest)
          (level s.depth)

      pub declares-goes : (new : Spot) → Moved s new
          → Goes e (here s p names) next (here new (p ++ (name, iri) ∷ []) names)
      declares-goes new m = record {
        same = m.bytes;
        ahead = moved_ahead s new m some;
        grows = Extends-same names;
        on = λ all rest from. (
          placed s.bytes s.token ∷ rest,
          (
            walk.FromToken.more some (goes_tokens s.bytes all s.token.end new.token rest m.next from),
            declared rest
                ∙ ap (λ d. outcome next (record { prefixes = p ++ (name, iri) ∷ []; names = names; depth = d }) rest)
                (sym m.depth),
          ),
        );
      }

      pub declares-faults : (fault : OwlFault) → NoneNext s fault → Faults e (here s p names) names fault
      declares-faults fault none =
          subst (Faults e (here s p names) names) (sym none.is)
          (faults_here e (here s p names) (Syntax none.at)
          (record {
            cause = syntax;
            at = none.at;
            tokens = placed s.bytes s.token ∷ record { symbol = no_token; at = none.at } ∷ [];
            is = refl;
            are = walk.FromToken.more some (symbols.AreTokens.fault none.at none.none);
            comes =
                declared (record { symbol = no_token; at = none.at } ∷ [])
                ∙ ap
                (outcome_of (record { prefixes = p ++ (name, iri) ∷ []; names = names; depth = s.depth })
                (record { symbol = no_token; at = none.at }) (λ f later. outcome f later []))
                (no_token_refused (p ++ (name, iri) ∷ []) next);
          }))
