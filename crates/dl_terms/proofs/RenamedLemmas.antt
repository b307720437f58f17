-- Renaming changes no variables.
use Rattle.std.proofs.Common.{◌≡◌, ℕ, ◌<◌, ◌&&◌, not, List, [], ◌∷◌, ◌++◌, map, length, flat_map, filter, nat_eq, All, Contains, refl, sym, ap, ap₂, subst, arith}
use Rattle.std.specs.List.{list_any, range_with_len}
use Rattle.std.proofs.lemmas.List.{length-map}
use Rattle.dl_terms.specs.declared.query.Term.{Term}
use Rattle.dl_terms.specs.declared.query.Term.TheVariants.{Var, Name}
use Rattle.dl_terms.specs.declared.query.Atom.{Atom}
use Rattle.dl_terms.specs.declared.query.Atom.TheVariants as atom
use Rattle.dl_terms.specs.declared.query.Query.{Query}
use Rattle.dl_terms.specs.Queries.{term_variables, atom_variables, body_variables, IsWellFormed}
use Rattle.dl_terms.specs.Renamed.{renamed_term, renamed_atom, renamed_query}

module _ (to : ℕ → ℕ) where
  term_same : (t : Term) → term_variables (renamed_term to t) ≡ term_variables t
  term_same (Var v) = refl
  term_same (Name a) = refl

  atom_same : (a : Atom) → atom_variables (renamed_atom to a) ≡ atom_variables a
  atom_same (atom.Is c t) = term_same t
  atom_same (atom.Link p t u) = ap₂ (λ l m. l ++ m) (term_same t) (term_same u)

  body_same : (atoms : List Atom) → flat_map atom_variables (map (renamed_atom to) atoms) ≡ flat_map atom_variables atoms
  body_same [] = refl
  body_same (a ∷ atoms) = ap₂ (λ l m. l ++ m) (atom_same a) (body_same atoms)

  abbrev existential_of : (body head : List ℕ) (vars : ℕ) → List ℕ
  existential_of body head vars = filter (λ v. list_any (nat_eq v) body && not (list_any (nat_eq v) head)) (range_with_len 0 vars)

  -- a query stays well formed
  pub well_formed_renamed : (q : Query) → IsWellFormed q → IsWellFormed (renamed_query to q)
  well_formed_renamed q formed =
      let same : body_variables (renamed_query to q) ≡ body_variables q = body_same q.atoms in
      let as_many : length (map (renamed_atom to) q.atoms) ≡ length q.atoms = length-map q.atoms (renamed_atom to) in
      record {
        variables = subst (All (λ v. v < q.vars)) (sym same) formed.variables;
        head_in_body = subst (λ body. All (Contains body) q.head) (sym same) formed.head_in_body;
        some_atom = omega (arith, as_many, formed.some_atom);
        atoms = omega (arith, as_many, formed.atoms);
        existential = omega (arith, formed.existential, ap (λ body. length (existential_of body q.head q.vars)) same);
        head = formed.head;
      }
