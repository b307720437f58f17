-- What is kept of a body.
use Rattle.std.proofs.Common.{◌≡◌, ℕ, ◌+◌, ◌<◌, ◌≤◌, Bool, true, false, ◌||◌, nat_eq, List, [], ◌∷◌, ◌++◌, length, get_or, refl, sym, ap, subst, ◌∙◌, arith, append-nil}
use Rattle.std.specs.List.{list_any, flat_map}
use Rattle.std.proofs.lemmas.List.{length-append}
use Rattle.std.proofs.lemmas.List.Folds.{list_any-append}
use Rattle.std.proofs.lemmas.Grind.{flat_map-append}
use Rattle.dl_names.specs.NameList.{Text, names_after, place_of, Extends}
use Rattle.dl_names.proofs.NameListLemmas.{length-names_after, Extends-same, Extends-trans}
use Rattle.dl_terms.specs.declared.query.Atom.{Atom}
use Rattle.dl_terms.specs.Queries.{atom_variables}
use Rattle.dl_query.specs.declared.body.Body.{Body}
use Rattle.dl_query.specs.declared.statement.Reference.{Reference}
use Rattle.dl_query.specs.declared.statement.Reference.TheVariants as references
use Rattle.dl_query.specs.declared.statement.Statement.{Statement}
use Rattle.dl_query.specs.declared.statement.Statement.TheVariants as statements
use Rattle.dl_query.specs.declared.token.Mark.TheVariants.{Comma, Ending}
use Rattle.dl_query.specs.declared.tokens.Tokens.{Tokens}
use Rattle.dl_query.specs.Symbols.{mark, is_last}
use Rattle.dl_query.specs.Grammar.{met, with_atom}
use Rattle.dl_query.specs.Steps.{predicate, body_more, move_of}
use Rattle.dl_query.specs.Reading.{gives}
use Rattle.dl_query.specs.Parts.{AreNumbers, Adds, IsBelow, AreBelow, Marks, Keeps, Passes, next_symbol, Leads, ReadsBody}
use Rattle.dl_query.proofs.StepLemmas.{Leads-goes, Leads-then, Gives-ends}
use Rattle.dl_query.proofs.HeadLemmas.{Leads-same, Passes-shorter}
use Rattle.dl_query.proofs.NumberLemmas.{number-added, number-below, variables-grow, each-append, each-below}

-- ---- the head

-- a variable more
pub AreNumbers-added : (head : List ℕ) (variables : List Text) (x : Text) → AreNumbers head (length variables)
    → AreNumbers (head ++ place_of (names_after variables x) x ∷ []) (length (names_after variables x))
AreNumbers-added head variables x numbers =
    let n = place_of (names_after variables x) x in
    record {
      below =
          each-append (λ v. v < length (names_after variables x)) head (n ∷ [])
          (each-below (length variables) (length (names_after variables x)) (variables-grow variables x) head numbers.below)
          (number-below variables x, tt);
      each = number-added head variables x numbers.each;
      fits = omega (arith, numbers.fits, length-names_after variables x, length-append head (n ∷ []));
    }

pub AreNumbers-none : AreNumbers [] 0
AreNumbers-none = record { below = tt; each = λ v h. absurd (omega (arith, h)); fits = omega arith }

-- ---- marks

pub Marks-then : (one two three : List Bool) (xs ys : List ℕ) → Marks one xs two → Marks two ys three → Marks one (xs ++ ys) three
Marks-then one two three xs ys first second = record {
  as_many = second.as_many ∙ first.as_many;
  marked = λ v h.
      second.marked v (omega (arith, h, first.as_many))
      ∙ ap (λ b. b || list_any (nat_eq v) ys) (first.marked v h)
      ∙ or-assoc (get_or one v false) (list_any (nat_eq v) xs) (list_any (nat_eq v) ys)
      ∙ ap (λ b. get_or one v false || b) (sym (list_any-append (nat_eq v) xs ys));
}
  where
    or-assoc : (a b c : Bool) → ((a || b) || c) ≡ (a || (b || c))
    or-assoc true b c = refl
    or-assoc false b c = refl

-- ---- an atom more

pub Keeps-added : (old new : Body) (atoms : List Atom) (a : Atom) (before variables heads : ℕ) → before ≤ variables → Keeps old atoms before heads
    → new.count ≡ old.count + 1 → Marks old.bound.items (atom_variables a) new.bound.items
    → (new.count ≤ 16 → variables ≤ 256 → new.kept ≡ old.kept ++ a ∷ []) → Keeps new (atoms ++ a ∷ []) variables heads
Keeps-added old new atoms a before variables heads grows keeps count marks kept =
    let longer : length (atoms ++ a ∷ []) ≡ length atoms + 1 = length-append atoms (a ∷ []) in
    let numbers : flat_map atom_variables (atoms ++ a ∷ []) ≡ flat_map atom_variables atoms ++ atom_variables a =
    flat_map-append atom_variables atoms (a ∷ []) ∙ ap (λ l. flat_map atom_variables atoms ++ l) (append-nil (atom_variables a))
    in
    record {
      counted = omega (arith, count, keeps.counted, longer);
      kept = λ few short.
          kept (omega (arith, count, keeps.counted, longer, short)) few
          ∙ ap (λ l. l ++ a ∷ []) (keeps.kept (omega (arith, grows, few)) (omega (arith, longer, short)));
      marks = marks.as_many ∙ keeps.marks;
      marked = λ v h.
          marks.marked v (omega (arith, h, keeps.marks))
          ∙ ap (λ b. b || list_any (nat_eq v) (atom_variables a)) (keeps.marked v h)
          ∙ sym (list_any-append (nat_eq v) (flat_map atom_variables atoms) (atom_variables a))
          ∙ ap (list_any (nat_eq v)) (sym numbers);
    }

-- a number below one count is below a greater one
pub IsBelow-more : (a b : ℕ) (r : Reference) → a ≤ b → IsBelow a r → IsBelow b r
IsBelow-more a b (references.Variable n) l h = omega (arith, l, h)
IsBelow-more a b (references.Name place) l h = tt

-- ---- the atoms of a body, as far as they are read

pub record BodyReads (tokens : Tokens) (variables names : List Text) (tokens' : Tokens) (variables' names' : List Text) (body : Body) : Type 0 where
  pub atoms : List Atom
  pub leads : (head : List ℕ) → Leads predicate (met variables names head []) tokens predicate (met variables' names' head atoms) tokens'
  pub keeps : Keeps body atoms (length variables') (length variables)
  pub room : body.count + length tokens'.rest.now ≤ length tokens.rest.now
  pub grows : Extends names names'
  pub more : length variables ≤ length variables'

-- none yet
pub BodyReads-none : (tokens : Tokens) (variables names : List Text) (body : Body) → Keeps body [] (length variables) (length variables)
    → BodyReads tokens variables names tokens variables names body
BodyReads-none tokens variables names body keeps = record {
  atoms = [];
  leads = λ head. Leads-same predicate (met variables names head []) tokens;
  keeps = keeps;
  room = omega (arith, keeps.counted);
  grows = Extends-same names;
  more = omega arith;
}

-- one more, and the comma behind it
pub BodyReads-more : {t0 t1 t2 t3 : Tokens} {variables names variables' names' variables'' names'' : List Text} {body body' : Body} {a : Atom}
    → (reads : BodyReads t0 variables names t1 variables' names' body)
    → ((head : List ℕ) (atoms : List Atom) → Leads predicate (met variables' names' head atoms) t1 body_more (with_atom (met variables'' names'' head atoms) a) t2)
    → length t2.rest.now < length t1.rest.now → Extends names' names'' → length variables' ≤ length variables''
    → Keeps body' (reads.atoms ++ a ∷ []) (length variables'') (length variables)
    → next_symbol t2 ≡ mark Comma → Passes t2 t3 → BodyReads t0 variables names t3 variables'' names'' body'
BodyReads-more {t0} {t1} {t2} {t3} {variables} {names} {variables'} {names'} {variables''} {names''} {body} {body'} {a} reads leads shorter grows more keeps comma passes = record {
  atoms = reads.atoms ++ a ∷ [];
  leads = λ head.
      let m = met variables'' names'' head (reads.atoms ++ a ∷ []) in
      Leads-then (reads.leads head)
      (Leads-then (leads head reads.atoms) (Leads-goes body_more m t2 {e' = predicate} {m' = m} {new = t3} (ap (move_of body_more m) comma) passes));
  keeps = keeps;
  room =
      let now = Passes-shorter t2 t3 passes (ap is_last comma) in
      omega (arith, reads.room, reads.keeps.counted, keeps.counted, length-append reads.atoms (a ∷ []), now, shorter);
  grows = Extends-trans names names' names'' reads.grows grows;
  more = omega (arith, reads.more, more);
}

-- one more, and the end behind it
pub BodyReads-all : {t0 t1 t2 : Tokens} {variables names variables' names' variables'' names'' : List Text} {body body' : Body} {a : Atom}
    → (reads : BodyReads t0 variables names t1 variables' names' body)
    → ((head : List ℕ) (atoms : List Atom) → Leads predicate (met variables' names' head atoms) t1 body_more (with_atom (met variables'' names'' head atoms) a) t2)
    → Keeps body' (reads.atoms ++ a ∷ []) (length variables'') (length variables) → next_symbol t2 ≡ mark Ending
    → ReadsBody t0 variables names variables'' names'' body'
BodyReads-all {t0} {t1} {t2} {variables} {names} {variables'} {names'} {variables''} {names''} {body} {body'} {a} reads leads keeps ending = record {
  atoms = reads.atoms ++ a ∷ [];
  reads = λ head.
      let m = met variables'' names'' head (reads.atoms ++ a ∷ []) in
      (reads.leads head).onward (gives m) ((leads head reads.atoms).onward (gives m) (Gives-ends body_more m t2 (ap (move_of body_more m) ending)));
  keeps = keeps;
}

-- the head with a variable more
pub AreNumbers-adds : (head head' : List ℕ) (variables variables' : List Text) (x : Text) → AreNumbers head (length variables)
    → Adds head variables x head' variables' → AreNumbers head' (length variables')
AreNumbers-adds head head' variables variables' x numbers adds =
    subst (λ l. AreNumbers l (length variables')) (sym adds.added)
    (subst (λ l. AreNumbers (head ++ place_of (names_after variables x) x ∷ []) (length l)) (sym adds.met) (AreNumbers-added head variables x numbers))

pub AreNumbers-empty : (head : List ℕ) (variables : List Text) → head ≡ [] → variables ≡ [] → AreNumbers head (length variables)
AreNumbers-empty head variables no_head no_variables =
    subst (λ l. AreNumbers l (length variables)) (sym no_head) (subst (λ v. AreNumbers [] (length v)) (sym no_variables) AreNumbers-none)

pub AreBelow-more : (a b : ℕ) (s : Statement) → a ≤ b → AreBelow a s → AreBelow b s
AreBelow-more a b (statements.Is c t) l h = IsBelow-more a b t l h
AreBelow-more a b (statements.Link p t u) l h = (IsBelow-more a b t l h.0, IsBelow-more a b u l h.1)

-- what is kept with an atom more, by the count of the variables
pub added-keeps : {t0 t1 : Tokens} {variables names variables' names' : List Text} (variables'' : List Text) {body body' : Body} {a : Atom}
    → (reads : BodyReads t0 variables names t1 variables' names' body) (n : ℕ) → length variables' ≤ length variables'' → n ≡ length variables''
    → ((atoms : List Atom) (before heads : ℕ) → before ≤ n → Keeps body atoms before heads → Keeps body' (atoms ++ a ∷ []) n heads)
    → Keeps body' (reads.atoms ++ a ∷ []) (length variables'') (length variables)
added-keeps {variables = variables} {variables' = variables'} variables'' {body' = body'} {a} reads n grows is added =
    subst (λ k. Keeps body' (reads.atoms ++ a ∷ []) k (length variables)) is
    (added reads.atoms (length variables') (length variables) (omega (arith, grows, is)) reads.keeps)
