-- Naming the names of a fact one after the other.
use Rattle.std.proofs.Common.{◌≡◌, ℕ, true, List, [], ◌∷◌, ◌++◌, Some, Result, Ok, Err, sym, ap, ◌∙◌, subst}
use Rattle.std.specs.Result.{OnErr}
use Rattle.dl_names.specs.NameList.{Text, names_after, place_of, has_name, Extends}
use Rattle.dl_names.proofs.NameListLemmas.{Extends-same, Extends-trans, Extends-names_after, place_of-Extends, has_name-names_after}
use Rattle.dl_terms.specs.declared.axiom.Fact.{Fact}
use Rattle.dl_terms.specs.declared.axiom.Fact.TheVariants.{Is, Link}
use Rattle.dl_triples.specs.declared.meaning.Meaning.TheVariants as meanings
use Rattle.dl_triples.specs.Meaning.{all_named}
use Rattle.dl_triples.specs.Adding.{AddsFact}

-- what holds whatever the result is
pub on_err_always : {T E P : Type 0} (r : Result T E) → P → OnErr r P
on_err_always (Ok x) p = tt
on_err_always (Err e) p = p

-- names only grow
pub Extends-all_named : (names texts : List Text) → Extends names (all_named names texts)
Extends-all_named names [] = Extends-same names
Extends-all_named names (text ∷ texts) = Extends-trans names (names_after names text) (all_named (names_after names text) texts) (Extends-names_after names text) (Extends-all_named (names_after names text) texts)

-- a place stays when further texts are named
pub stays : (names now after : List Text) (text : Text) → now ≡ names_after names text → Extends now after → place_of after text ≡ place_of now text
stays names now after text is grows =
    place_of-Extends now after grows text (subst (λ l. has_name l text ≡ true) (sym is) (has_name-names_after names text))

grown : (now after : List Text) (text : Text) → after ≡ names_after now text → Extends now after
grown now after text is = subst (Extends now) (sym is) (Extends-names_after now text)

pub class_added : (names one two : List Text) (s p o : Text) (who class : ℕ) (facts added : List Fact) → one ≡ names_after names s → who ≡ place_of one s → two ≡ names_after one o → class ≡ place_of two o
    → added ≡ facts ++ Is class who ∷ [] → AddsFact meanings.Class s p (Some o) names two facts added
class_added names one two s p o who class facts added first at second at' is = record {
  named = second ∙ ap (λ l. names_after l o) first;
  is =
      let who_stays : who ≡ place_of two s = at ∙ sym (stays names one two s first (grown one two o second)) in
      is ∙ (λ i. facts ++ Is (at' i) (who_stays i) ∷ []);
}

pub link_added : (names one two three : List Text) (s p o : Text) (from role to : ℕ) (facts added : List Fact) → one ≡ names_after names s → from ≡ place_of one s → two ≡ names_after one p → role ≡ place_of two p
    → three ≡ names_after two o → to ≡ place_of three o → added ≡ facts ++ Link role from to ∷ [] → AddsFact meanings.Link s p (Some o) names three facts added
link_added names one two three s p o from role to facts added first at second at' third at'' is = record {
  named = third ∙ ap (λ l. names_after l o) (second ∙ ap (λ l. names_after l p) first);
  is =
      let later = grown two three o third in
      let from_stays : from ≡ place_of three s = at ∙ sym (stays names one three s first (Extends-trans one two three (grown one two p second) later)) in
      let role_stays : role ≡ place_of three p = at' ∙ sym (stays one two three p second later) in
      is ∙ (λ i. facts ++ Link (role_stays i) (from_stays i) (at'' i) ∷ []);
}
