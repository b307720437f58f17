-- The text of a query that was read is read as this query.
use Rattle.std.proofs.Common.{◌≡◌, ℕ, suc, nat_eq, not, codes, take, ◌+◌, ◌<◌, ◌≤◌, ◌^◌, Bool, true, false, ◌&&◌, ◌==◌, cond, List, [], ◌∷◌, ◌++◌, All, Contains, length, map, slice_get, refl, sym, ap, ap₂, subst, ◌∙◌, arith}
use Rattle.std.specs.List.{AllByRecursion, flat_map, list_all}
use Rattle.std.specs.Str.{is_utf8}
use Rattle.std.proofs.lemmas.List.Elements.{recursion_from_All, All-contains, All-weaker}
use Rattle.std.proofs.lemmas.Str.{IsUtf8-from_is_utf8}
use Rattle.dl_names.specs.NameList.{Text, HasNoRepeats, max_names, Extends}
use Rattle.dl_names.specs.Iris.{is_iri_byte}
use Rattle.dl_names.proofs.NameListLemmas.{Extends-same}
use Rattle.dl_terms.specs.declared.query.Query.{Query}
use Rattle.dl_terms.specs.Occurring.{atom_names, query_names}
use Rattle.dl_terms.specs.Queries.{atom_variables, body_variables, IsWellFormed}
use Rattle.dl_terms.specs.Renamed.{renamed_atom, renamed_query}
use Rattle.dl_terms.proofs.RenamedLemmas.{well_formed_renamed}
use Rattle.dl_query.specs.Symbols.{iri, no_token, Front, front, run_len, run, behind, is_variable_byte, variable_of, iri_of, turnstile_of, front_of, Placed, AreTokens, last, more, symbols_of, is_blank}
use Rattle.dl_query.specs.Grammar.{Met, IsQuery, query_of}
use Rattle.dl_query.specs.Queries.{IsText, IsValue}
use Rattle.dl_text.specs.NameText.{comma_joined}
use Rattle.dl_text.specs.QueryText.{variable_text, atom_text, query_text}
use Rattle.dl_stream.proofs.QueryBack.{IsSound, IsIriAt, query_word, opening, turnstile, head_symbols, bodies_symbols, query_symbols, QueryIsBack, query_back}
use Rattle.dl_stream.proofs.QueryTokens.{as_text, query_then}

-- ---- the IRIs of tokens

run_passes : (p : ℕ → Bool) (xs : List ℕ) → list_all p (run p xs) ≡ true
run_passes p [] = refl
run_passes p (x ∷ xs) = by (p x) refl (run_passes p xs)
  where
    by : (b : Bool) → p x ≡ b → list_all p (run p xs) ≡ true → list_all p (run p (x ∷ xs)) ≡ true
    by true e rest =
        let n = run_len p xs in
        let longer : run_len p (x ∷ xs) ≡ suc n = ap (λ c. cond (not (not c)) (1 + n) 0) e ∙ omega arith in
        ap (λ k. list_all p (take k (x ∷ xs))) longer ∙ ap₂ (λ b c. b && c) e rest
    by false e rest =
        let none : run_len p (x ∷ xs) ≡ 0 = ap (λ c. cond (not (not c)) (1 + run_len p xs) 0) e in
        ap (λ k. list_all p (take k (x ∷ xs))) none

sound_if : (c : Bool) (x y : Front) → IsSound x.symbol → IsSound y.symbol → IsSound (cond c x y).symbol
sound_if true x y h g = h
sound_if false x y h g = g

iri_sound : (text : Text) (rest : List ℕ) → list_all is_iri_byte text ≡ true → IsSound (iri_of text rest).symbol
iri_sound text [] all = tt
iri_sound text (b ∷ rest) all = by (b == 62) (is_utf8 text) refl
  where
    by : (c u : Bool) → is_utf8 text ≡ u → IsSound (cond (c && u) (front (iri text) rest) (front no_token rest)).symbol
    by true true e = record { utf8 = IsUtf8-from_is_utf8 text e; characters = all }
    by true false e = tt
    by false u e = tt

variable_sound : (text : Text) (rest : List ℕ) → IsSound (variable_of text rest).symbol
variable_sound [] [] = tt
variable_sound [] (b ∷ rest) = tt
variable_sound (b ∷ text) rest = tt

turnstile_sound : (rest : List ℕ) → IsSound (turnstile_of rest).symbol
turnstile_sound [] = tt
turnstile_sound (b ∷ rest) = sound_if (b == 45) _ _ tt tt

front_sound : (bytes : List ℕ) → IsSound (front_of bytes).symbol
front_sound [] = tt
front_sound (b ∷ rest) =
    sound_if (b == 113) _ _ tt (sound_if (b == 40) _ _ tt (sound_if (b == 41) _ _ tt (sound_if (b == 44) _ _ tt
    (sound_if (b == 58) _ _ (turnstile_sound rest)
    (sound_if (b == 63) _ _ (variable_sound (run is_variable_byte rest) (behind is_variable_byte rest))
    (sound_if (b == 60) _ _ (iri_sound (run is_iri_byte rest) (behind is_iri_byte rest) (run_passes is_iri_byte rest)) tt))))))

tokens_sound : {len : ℕ} {bytes : List ℕ} {tokens : List Placed} → AreTokens len bytes tokens → AllByRecursion IsSound (symbols_of tokens)
tokens_sound (last {bytes = bytes} e) = (front_sound (behind is_blank bytes), tt)
tokens_sound (more {bytes = bytes} e others) = (front_sound (behind is_blank bytes), tokens_sound others)

-- ---- the law

few_variables : (q : Query) → IsWellFormed q → q.vars ≤ 256 → All (λ v. v < 2 ^ 64) (body_variables q)
few_variables q formed few = All-weaker (λ v. v < q.vars) (λ v. v < 2 ^ 64) (λ v h. omega (arith, h, few)) (body_variables q) formed.variables

module _ (held names : List Text) (distinct : HasNoRepeats held) (number : ℕ → ℕ) (q : Query) where
  few_head : IsWellFormed q → q.vars ≤ 256 → All (λ v. v < 2 ^ 64) q.head
  few_head formed few =
      All-weaker (Contains (body_variables q)) (λ v. v < 2 ^ 64)
      (λ v h. All-contains (λ v. v < 2 ^ 64) (body_variables q) v (few_variables q formed few) h) q.head formed.head_in_body

  -- it has these tokens
  text_back : (m : Met) → q ≡ query_of m → IsWellFormed q → q.vars ≤ 256 → (back : QueryIsBack held distinct number names m)
      → (t : IsText (query_text held (renamed_query number q)) held back.after) × (q ≡ query_of m)
  text_back m is formed few back =
      let text = query_text held (renamed_query number q) in
      let atoms_are : map (renamed_atom number) q.atoms ≡ back.some ∷ back.others = ap (λ q. map (renamed_atom number) q.atoms) is ∙ back.atoms in
      let iris = subst (AllByRecursion (λ a. AllByRecursion (IsIriAt held) (atom_names a))) back.atoms back.iris in
      let body_few : AllByRecursion (λ v. v < 2 ^ 64) (flat_map atom_variables (back.some ∷ back.others)) =
      subst (λ l. AllByRecursion (λ v. v < 2 ^ 64) (flat_map atom_variables l)) atoms_are
      (recursion_from_All (λ v. v < 2 ^ 64) (body_variables (renamed_query number q))
      (few_variables (renamed_query number q) (well_formed_renamed number q formed) few))
      in
      let head_few = recursion_from_All (λ v. v < 2 ^ 64) q.head (few_head formed few) in
      let written = query_then held (length text) q.head back.some back.others head_few body_few iris in
      let text_is : text ≡ codes "q(" ++ (comma_joined (map variable_text q.head) ++ (codes ") :- " ++ comma_joined (map (atom_text held) (back.some ∷ back.others)))) =
      ap (λ l. codes "q(" ++ (comma_joined (map variable_text q.head) ++ (codes ") :- " ++ comma_joined (map (atom_text held) l)))) atoms_are
      in
      let tokens = as_text text _ text_is written in
      let symbols_are : query_symbols held (renamed_query number (query_of m)) ≡ symbols_of tokens.tokens =
      ap (λ q. query_symbols held (renamed_query number q)) (sym is)
      ∙ ap (λ l. query_word ∷ opening ∷ head_symbols q.head (turnstile ∷ bodies_symbols held l)) atoms_are ∙ sym tokens.is
      in (
        record {
          tokens = tokens.tokens;
          are = tokens.are;
          query = subst (λ s. IsQuery held s back.after) symbols_are back.query;
        },
        is,
      )

  pub query_is_read_back : (bytes : List ℕ) (before : List Text) → IsValue bytes before q names → length held ≤ max_names → q.vars ≤ 256
      → All (λ n. slice_get held (number n) ≡ slice_get names n) (query_names q)
      → IsValue (query_text held (renamed_query number q)) held (renamed_query number q) held
  query_is_read_back bytes before v room few stands =
      let m = v.m in
      let grows : Extends m.names names = subst (λ l. Extends m.names l) (sym v.named) (Extends-same m.names) in
      let few_m : length m.variables ≤ 256 = omega (arith, few, ap (λ (q : Query). q.vars) v.is) in
      let stands_m = subst (λ q. AllByRecursion (λ n. slice_get held (number n) ≡ slice_get names n) (query_names q)) v.is
      (recursion_from_All (λ n. slice_get held (number n) ≡ slice_get names n) (query_names q) stands)
      in
      let back = query_back held distinct number names before (symbols_of v.text.tokens) m v.text.query grows few_m stands_m (tokens_sound v.text.are) in
      record {
        m = back.after;
        text = (text_back m v.is v.well_formed few back).0;
        fits = subst (λ l. length l ≤ max_names) (sym back.named) room;
        is = ap (renamed_query number) v.is ∙ sym back.is;
        named = sym back.named;
        well_formed = well_formed_renamed number q v.well_formed;
      }
