-- The names of a query that is read have places in the list of names.
use Rattle.std.proofs.Common.{◌≡◌, ℕ, ◌<◌, ◌≤◌, List, [], ◌∷◌, ◌++◌, length, All, append-nil, refl, sym, ap, subst, ◌∙◌, arith}
use Rattle.std.specs.List.{flat_map, AllByRecursion}
use Rattle.std.proofs.lemmas.Grind.{flat_map-append}
use Rattle.std.proofs.lemmas.List.Elements.{All-from_recursion}
use Rattle.dl_names.specs.NameList.{Text}
use Rattle.dl_terms.specs.declared.query.Term.{Term}
use Rattle.dl_terms.specs.declared.query.Atom.{Atom}
use Rattle.dl_terms.specs.declared.query.Atom.TheVariants.{Is, Link}
use Rattle.dl_terms.specs.declared.query.Query.{Query}
use Rattle.dl_terms.specs.Occurring.{term_names, atom_names, query_names}
use Rattle.dl_query.specs.Symbols.{Symbol, symbols_of}
use Rattle.dl_query.specs.Grammar.{Met, with_name, name_at, with_atom, IsTerm, variable_term, name_term, AtomThen, class_atom, role_atom, IsBody, last_atom, more_atoms, IsQuery, query_of}
use Rattle.dl_query.specs.Queries.{IsValue}
use Rattle.dl_query.proofs.NumberLemmas.{each-append, each-below, number-below, variables-grow, head-atoms}

-- places of what is met now: the atoms stay, and names only grow
record Names (m : Met) (places : List ℕ) (after : Met) : Type 0 where
  atoms : after.atoms ≡ m.atoms
  grows : length m.names ≤ length after.names
  below : AllByRecursion (λ p. p < length after.names) places

term-names : {m after : Met} {s : Symbol} {t : Term} → IsTerm m s t after → Names m (term_names t) after
term-names variable_term = record { atoms = refl; grows = omega arith; below = tt }
term-names {m} (name_term {text = text} free) = record {
  atoms = refl;
  grows = variables-grow m.names text;
  below = (number-below m.names text, tt);
}

Names-then : {m one two : Met} (xs ys : List ℕ) → Names m xs one → Names one ys two → Names m (xs ++ ys) two
Names-then {m} {one} {two} xs ys first second = record {
  atoms = second.atoms ∙ first.atoms;
  grows = omega (arith, first.grows, second.grows);
  below =
      each-append (λ p. p < length two.names) xs ys
      (each-below (length one.names) (length two.names) second.grows xs first.below) second.below;
}

-- a predicate is met before the terms
named-then : (m after : Met) (c : Text) (xs : List ℕ) → Names (with_name m c) xs after → Names m (name_at m c ∷ xs) after
named-then m after c xs h = record {
  atoms = h.atoms;
  grows = omega (arith, variables-grow m.names c, h.grows);
  below = (omega (arith, number-below m.names c, h.grows), h.below);
}

abbrev AllPlaced : Met → Type 0
AllPlaced m = AllByRecursion (λ p. p < length m.names) (flat_map atom_names m.atoms)

-- an atom is added whose names are met
atom-placed : {m one : Met} (a : Atom) → Names m (atom_names a) one → AllPlaced m → AllPlaced (with_atom one a)
atom-placed {m} {one} a names all =
    subst (AllByRecursion (λ p. p < length one.names)) (sym places)
    (each-append (λ p. p < length one.names) (flat_map atom_names m.atoms) (atom_names a)
    (each-below _ _ names.grows (flat_map atom_names m.atoms) all) names.below)
  where
    places : flat_map atom_names (with_atom one a).atoms ≡ flat_map atom_names m.atoms ++ atom_names a
    places =
        flat_map-append atom_names one.atoms (a ∷ [])
        ∙ (λ i. flat_map atom_names (names.atoms i) ++ append-nil (atom_names a) i)

then-placed : {m after : Met} {symbols rest : List Symbol} → AtomThen m symbols rest after → AllPlaced m → AllPlaced after
then-placed {m} (class_atom {c = c} {t = t} {one} may is_t) all =
    atom-placed {m = m} {one = one} (Is (name_at m c) t) (named-then m one c (term_names t) (term-names is_t)) all
then-placed {m} (role_atom {p = p} {t = t} {u} {one} {two} free is_t is_u) all =
    atom-placed {m = m} {one = two} (Link (name_at m p) t u)
    (Names-then (name_at m p ∷ term_names t) (term_names u) (named-then m one p (term_names t) (term-names is_t)) (term-names is_u)) all

body-placed : {m after : Met} {symbols : List Symbol} → IsBody m symbols after → AllPlaced m → AllPlaced after
body-placed (last_atom a) all = then-placed a all
body-placed (more_atoms a others) all = body-placed others (then-placed a all)

query-placed : (names : List Text) (symbols : List Symbol) (m : Met) → IsQuery names symbols m → AllPlaced m
query-placed names symbols m q =
    let no_atoms : flat_map atom_names q.middle.atoms ≡ [] = ap (flat_map atom_names) (head-atoms q.in_head) in
    body-placed q.in_body (subst (AllByRecursion (λ p. p < length q.middle.names)) (sym no_atoms) tt)

-- each name of a value has its place
pub value-placed : {bytes : List ℕ} {names after : List Text} (q : Query) → IsValue bytes names q after
    → All (λ place. place < length after) (query_names q)
value-placed {names = names} {after} q v =
    let placed : All (λ p. p < length v.m.names) (query_names (query_of v.m)) =
    All-from_recursion (λ p. p < length v.m.names) (query_names (query_of v.m))
    (query-placed names (symbols_of v.text.tokens) v.m v.text.query)
    in
    subst (λ x. All (λ p. p < length after) (query_names x)) (sym v.is)
    (subst (λ l. All (λ p. p < length l) (query_names (query_of v.m))) (sym v.named) placed)
