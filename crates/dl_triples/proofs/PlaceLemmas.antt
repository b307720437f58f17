-- The places that facts name are within the names.
use Rattle.std.proofs.Common.{ℕ, ◌<◌, List, [], ◌∷◌, length, Option, Some, None, All, sym, subst, arith}
use Rattle.std.proofs.lemmas.List.Elements.{All-nil, All-append, All-push}
use Rattle.dl_names.specs.NameList.{Text, names_after, place_of, Extends}
use Rattle.dl_names.proofs.NameListLemmas.{Extends-same, Extends-trans, has_name-names_after, has_name-Extends, place_of-lt, length-Extends}
use Rattle.dl_terms.specs.declared.axiom.Fact.{Fact}
use Rattle.dl_terms.specs.Occurring.{fact_names}
use Rattle.dl_triples.specs.declared.meaning.Meaning.{Meaning}
use Rattle.dl_triples.specs.declared.meaning.Meaning.TheVariants as meanings
use Rattle.dl_triples.specs.Meaning.{meaning_of, names_of, facts_of, all_named}
use Rattle.dl_triples.specs.Reading.{Gives, nothing, triple, AreRead, none, line}
use Rattle.dl_triples.proofs.AddLemmas.{Extends-all_named}

-- all places that the fact names are below the bound
abbrev pub IsWithin : ℕ → Fact → Type 0
IsWithin bound fact = All (λ place. place < bound) (fact_names fact)

single : {X : Type 0} (P : X → Type 0) (x : X) → P x → All P (x ∷ [])
single P x p = All-push P [] x (All-nil P) p

double : {X : Type 0} (P : X → Type 0) (x y : X) → P x → P y → All P (x ∷ y ∷ [])
double P x y p q = All-push P (x ∷ []) y (single P x p) q

triple_of : {X : Type 0} (P : X → Type 0) (x y z : X) → P x → P y → P z → All P (x ∷ y ∷ z ∷ [])
triple_of P x y z p q r = All-push P (x ∷ y ∷ []) z (double P x y p q) r

-- a text that is named is among the names, whatever is named behind it
kept_in : (names : List Text) (text : Text) (texts : List Text) → place_of (all_named (names_after names text) texts) text < length (all_named (names_after names text) texts)
kept_in names text texts =
    let after = all_named (names_after names text) texts in
    place_of-lt after text (has_name-Extends (names_after names text) after (Extends-all_named (names_after names text) texts) text (has_name-names_after names text))

within_by : (names : List Text) (m : Meaning) (s p : Text) (o : Option Text) → let after = all_named names (names_of m s p o) in All (IsWithin (length after)) (facts_of m s p o after)
within_by names meanings.Skipped s p o = All-nil _
within_by names meanings.NoEffect s p o = All-nil _
within_by names meanings.Reserved s p o = All-nil _
within_by names meanings.Class s p None = All-nil _
within_by names meanings.Link s p None = All-nil _
within_by names meanings.Class s p (Some o) =
    let after = all_named names (s ∷ o ∷ []) in
    single (IsWithin (length after)) _ (double (λ n. n < length after) (place_of after o) (place_of after s) (kept_in (names_after names s) o []) (kept_in names s (o ∷ [])))
within_by names meanings.Link s p (Some o) =
    let after = all_named names (s ∷ p ∷ o ∷ []) in
    single (IsWithin (length after)) _
    (triple_of (λ n. n < length after) (place_of after p) (place_of after s) (place_of after o) (kept_in (names_after names s) p (o ∷ [])) (kept_in names s (p ∷ o ∷ [])) (kept_in (names_after (names_after names s) p) o []))

pub gives_within : {one : List ℕ} {names after : List Text} {facts : List Fact} {skipped : ℕ} → Gives one names facts skipped after → All (IsWithin (length after)) facts
gives_within (nothing _) = All-nil _
gives_within {names = names} {after = after} {facts = facts} (triple g) =
    let m = meaning_of g.subject g.predicate g.object in
    let here = within_by names m g.subject g.predicate g.object in
    subst (λ l. All (IsWithin (length after)) l) (sym g.is)
    (subst (λ l. All (IsWithin (length l)) (facts_of m g.subject g.predicate g.object l)) (sym g.named) here)

pub gives_grows : {one : List ℕ} {names after : List Text} {facts : List Fact} {skipped : ℕ} → Gives one names facts skipped after → Extends names after
gives_grows {names = names} (nothing _) = Extends-same names
gives_grows {names = names} (triple g) = subst (Extends names) (sym g.named) (Extends-all_named names (names_of (meaning_of g.subject g.predicate g.object) g.subject g.predicate g.object))

pub read_grows : {lines : List (List ℕ)} {names after : List Text} {facts : List Fact} {skipped : ℕ} → AreRead lines names facts skipped after → Extends names after
read_grows {names = names} none = Extends-same names
read_grows (line {names = names} {middle = middle} {after = after} g r) = Extends-trans names middle after (gives_grows g) (read_grows r)

pub read_within : {lines : List (List ℕ)} {names after : List Text} {facts : List Fact} {skipped : ℕ} → AreRead lines names facts skipped after → All (IsWithin (length after)) facts
read_within none = All-nil _
read_within (line {middle = middle} {after = after} {facts = facts} {more = more} g r) =
    let longer = length-Extends middle after (read_grows r) in
    All-append (IsWithin (length after)) facts more (λ k d k_in j e j_in. let was = gives_within g k d k_in j e j_in in omega (arith, was, longer)) (read_within r)
