-- What a text's tokens are depends on the bytes up to their ends.
use Rattle.std.proofs.Common.{◌≡◌, ℕ, suc, ◌+◌, Bool, true, false, cond, not, ◌&&◌, ◌==◌, List, [], ◌∷◌, ◌++◌, take, drop, refl, sym, ap, subst, ◌∙◌, true≢false, arith, append_assoc, append-nil}
use Rattle.std.proofs.Math.Path.{fun_ext}
use Rattle.std.specs.Str.{is_utf8}
use Rattle.std.specs.List.{AllByRecursion}
use Rattle.std.proofs.lemmas.Bool.{eqb-true}
use Rattle.dl_names.specs.NameList.{Text}
use Rattle.dl_names.specs.Iris.{is_iri_byte}
use Rattle.dl_query.specs.declared.token.Mark.{Mark}
use Rattle.dl_query.specs.declared.token.Mark.TheVariants.{QueryWord, Opening, Closing, Comma, Turnstile}
use Rattle.dl_query.specs.Symbols.{Symbol, mark, variable, iri, no_token, Front, front, no_front, turnstile_of, variable_of, iri_of, token_of, front_of, next_front, is_last, is_blank, is_variable_byte, run, run_len, behind}

-- ---- runs

pub record Cut (p : ℕ → Bool) (bytes ys rest : List ℕ) : Type 0 where
  pub is : bytes ≡ ys ++ rest
  pub pass : AllByRecursion (λ b. p b ≡ true) ys
  pub stop : (b : ℕ) (more : List ℕ) → rest ≡ b ∷ more → p b ≡ false

module _ (p : ℕ → Bool) where
  -- a run and what stands behind it
  pub run-cut : (bytes : List ℕ) → Cut p bytes (run p bytes) (behind p bytes)
  run-cut [] = record { is = refl; pass = tt; stop = λ b more h. absurd (cc) }
  run-cut (b ∷ bytes) = by (p b) refl (run-cut bytes)
    where
      by : (c : Bool) → p b ≡ c → Cut p bytes (run p bytes) (behind p bytes) → Cut p (b ∷ bytes) (run p (b ∷ bytes)) (behind p (b ∷ bytes))
      by true e rest =
          let longer : run_len p (b ∷ bytes) ≡ suc (run_len p bytes) = ap (λ c. cond (not (not c)) (1 + run_len p bytes) 0) e ∙ omega arith in
          subst (λ n. Cut p (b ∷ bytes) (take n (b ∷ bytes)) (drop n (b ∷ bytes))) (sym longer)
          (record { is = ap (λ l. b ∷ l) rest.is; pass = (e, rest.pass); stop = rest.stop })
      by false e rest =
          let none : run_len p (b ∷ bytes) ≡ 0 = ap (λ c. cond (not (not c)) (1 + run_len p bytes) 0) e in
          subst (λ n. Cut p (b ∷ bytes) (take n (b ∷ bytes)) (drop n (b ∷ bytes))) (sym none)
          (record { is = refl; pass = tt; stop = λ c more h. ap p (head-of b bytes c more (sym h)) ∙ e })
        where
          head-of : (x : ℕ) (xs : List ℕ) (y : ℕ) (ys : List ℕ) → y ∷ ys ≡ x ∷ xs → y ≡ x
          head-of x xs y ys h = cc

  -- there is one way to cut
  pub cut-run : (ys rest : List ℕ) → AllByRecursion (λ b. p b ≡ true) ys → ((b : ℕ) (more : List ℕ) → rest ≡ b ∷ more → p b ≡ false)
      → (run p (ys ++ rest) ≡ ys) × (behind p (ys ++ rest) ≡ rest)
  cut-run [] [] pass stop = (refl, refl)
  cut-run [] (b ∷ rest) pass stop =
      let none : run_len p (b ∷ rest) ≡ 0 = ap (λ c. cond (not (not c)) (1 + run_len p rest) 0) (stop b rest refl) in
      (ap (λ n. take n (b ∷ rest)) none, ap (λ n. drop n (b ∷ rest)) none)
  cut-run (y ∷ ys) rest pass stop =
      let longer : run_len p (y ∷ (ys ++ rest)) ≡ suc (run_len p (ys ++ rest)) = ap (λ c. cond (not (not c)) (1 + run_len p (ys ++ rest)) 0) pass.0 ∙ omega arith in
      let both = cut-run ys rest pass.1 stop in
      (ap (λ n. take n (y ∷ (ys ++ rest))) longer ∙ ap (λ l. y ∷ l) both.0, ap (λ n. drop n (y ∷ (ys ++ rest))) longer ∙ both.1)

-- ---- tokens

-- the same token, or two variables
pub data AreAlike : Symbol → Symbol → Type 0 where
  alike : {s : Symbol} → AreAlike s s
  two_variables : {x y : Text} → AreAlike (variable x) (variable y)

AreAlike-same : {s s' : Symbol} → s ≡ s' → AreAlike s s'
AreAlike-same {s} h = subst (λ x. AreAlike s x) h alike

-- a token is found, and behind its bytes others may stand
pub record Found (F : List ℕ → Front) (xs : List ℕ) : Type 0 where
  pub s : Symbol
  pub r : List ℕ
  pub c : List ℕ
  pub found : F xs ≡ front s r
  pub is : xs ≡ c ++ r
  -- the same token stands there where the first byte behind it is the same
  pub same : is_last s ≡ false → (x : ℕ) (old new : List ℕ) → r ≡ x ∷ old → F (c ++ x ∷ new) ≡ front s (x ∷ new)
  -- and one like it whatever stands behind it
  pub kept : (others : List ℕ) → (is_last s ≡ true → r ≡ [] → others ≡ []) → AreAlike s (F (c ++ others)).symbol

found-plain : (k : Mark) (xs : List ℕ) → is_last (mark k) ≡ false → Found (λ r. front (mark k) r) xs
found-plain k xs l = record {
  s = mark k;
  r = xs;
  c = [];
  found = refl;
  is = refl;
  same = λ h x old new e. refl;
  kept = λ others h. alike;
}

found-none : (xs : List ℕ) → Found no_front xs
found-none xs = record {
  s = no_token;
  r = xs;
  c = [];
  found = refl;
  is = refl;
  same = λ h. absurd (true≢false h);
  kept = λ others h. alike;
}

found-turnstile : (xs : List ℕ) → Found turnstile_of xs
found-turnstile [] = record {
  s = no_token;
  r = [];
  c = [];
  found = refl;
  is = refl;
  same = λ h. absurd (true≢false h);
  kept = λ others h. AreAlike-same (ap (λ l. (turnstile_of l).symbol) (sym (h refl refl)));
}
found-turnstile (b ∷ xs) = by (b == 45) refl
  where
    either : List ℕ → Bool → Front
    either r t = cond t (front (mark Turnstile) r) (no_front r)

    by : (t : Bool) → (b == 45) ≡ t → Found turnstile_of (b ∷ xs)
    by true e = record {
      s = mark Turnstile;
      r = xs;
      c = b ∷ [];
      found = (λ i. cond (e i) (front (mark Turnstile) xs) (no_front xs));
      is = refl;
      same = λ h x old new o. (λ i. cond (e i) (front (mark Turnstile) (x ∷ new)) (no_front (x ∷ new)));
      kept = λ others h. AreAlike-same (λ i. (cond (sym e i) (front (mark Turnstile) others) (no_front others)).symbol);
    }
    by false e = record {
      s = no_token;
      r = xs;
      c = b ∷ [];
      found = (λ i. cond (e i) (front (mark Turnstile) xs) (no_front xs));
      is = refl;
      same = λ h. absurd (true≢false h);
      kept = λ others h. AreAlike-same (λ i. (cond (sym e i) (front (mark Turnstile) others) (no_front others)).symbol);
    }

abbrev variable_front : List ℕ → Front
variable_front xs = variable_of (run is_variable_byte xs) (behind is_variable_byte xs)

found-variable : (xs : List ℕ) → Found variable_front xs
found-variable xs = by (run is_variable_byte xs) (behind is_variable_byte xs) refl refl (run-cut is_variable_byte xs)
  where
    by : (ys rest : List ℕ) → run is_variable_byte xs ≡ ys → behind is_variable_byte xs ≡ rest
        → Cut is_variable_byte xs (run is_variable_byte xs) (behind is_variable_byte xs) → Found variable_front xs
    by [] [] e f cut = record {
      s = no_token;
      r = [];
      c = [];
      found = λ i. variable_of (e i) (f i);
      is = cut.is ∙ (λ i. e i ++ f i);
      same = λ h. absurd (true≢false h);
      kept = λ others h. AreAlike-same (ap (λ l. (variable_front l).symbol) (sym (h refl refl)));
    }
    by [] (b ∷ rest) e f cut = record {
      s = no_token;
      r = rest;
      c = b ∷ [];
      found = λ i. variable_of (e i) (f i);
      is = cut.is ∙ (λ i. e i ++ f i);
      same = λ h. absurd (true≢false h);
      kept = λ others h.
          let stop : (x : ℕ) (more : List ℕ) → b ∷ others ≡ x ∷ more → is_variable_byte x ≡ false =
          λ x more o. ap is_variable_byte (first-of x more b others (sym o)) ∙ cut.stop b rest f
          in
          let both = cut-run is_variable_byte [] (b ∷ others) tt stop in
          AreAlike-same (λ i. (variable_of (sym both.0 i) (sym both.1 i)).symbol);
    }
      where
        first-of : (x : ℕ) (xs : List ℕ) (y : ℕ) (ys : List ℕ) → x ∷ xs ≡ y ∷ ys → x ≡ y
        first-of x xs y ys h = cc
    by (y ∷ ys) rest e f cut = record {
      s = variable (y ∷ ys);
      r = rest;
      c = y ∷ ys;
      found = λ i. variable_of (e i) (f i);
      is = cut.is ∙ (λ i. e i ++ f i);
      same = λ h x old new o.
          let stop : (b : ℕ) (more : List ℕ) → x ∷ new ≡ b ∷ more → is_variable_byte b ≡ false =
          λ b more q. ap is_variable_byte (first-of b more x new (sym q)) ∙ cut.stop x old (f ∙ o)
          in
          let both = cut-run is_variable_byte (y ∷ ys) (x ∷ new) passes stop in
          (λ i. variable_of (both.0 i) (both.1 i));
      kept = λ others h. longer (ys ++ others);
    }
      where
        passes : AllByRecursion (λ b. is_variable_byte b ≡ true) (y ∷ ys)
        passes = subst (AllByRecursion (λ b. is_variable_byte b ≡ true)) e cut.pass

        first-of : (x : ℕ) (xs : List ℕ) (y : ℕ) (ys : List ℕ) → x ∷ xs ≡ y ∷ ys → x ≡ y
        first-of x xs y ys h = cc

        -- a variable begins with such a byte
        longer : (zs : List ℕ) → AreAlike (variable (y ∷ ys)) (variable_front (y ∷ zs)).symbol
        longer zs =
            let len : run_len is_variable_byte (y ∷ zs) ≡ suc (run_len is_variable_byte zs) =
            ap (λ c. cond (not (not c)) (1 + run_len is_variable_byte zs) 0) passes.0 ∙ omega arith
            in
            subst (λ n. AreAlike (variable (y ∷ ys)) (variable_of (take n (y ∷ zs)) (drop n (y ∷ zs))).symbol) (sym len) two_variables

abbrev iri_front : List ℕ → Front
iri_front xs = iri_of (run is_iri_byte xs) (behind is_iri_byte xs)

found-iri : (xs : List ℕ) → Found iri_front xs
found-iri xs = by (behind is_iri_byte xs) refl (run-cut is_iri_byte xs)
  where
    ys : List ℕ
    ys = run is_iri_byte xs

    by : (rest : List ℕ) → behind is_iri_byte xs ≡ rest → Cut is_iri_byte xs (run is_iri_byte xs) (behind is_iri_byte xs) → Found iri_front xs
    by [] f cut = record {
      s = no_token;
      r = [];
      c = xs;
      found = ap (iri_of (run is_iri_byte xs)) f;
      is = sym (append-nil xs);
      same = λ h. absurd (true≢false h);
      kept = λ others h.
          AreAlike-same (sym (ap (λ l. (iri_front (xs ++ l)).symbol) (h refl refl) ∙ ap (λ l. (iri_front l).symbol) (append-nil xs) ∙ ap (λ l. (iri_of (run is_iri_byte xs) l).symbol) f));
    }
    by (b ∷ rest) f cut = test (b == 62 && is_utf8 (run is_iri_byte xs)) refl
      where
        first-of : (x : ℕ) (xs : List ℕ) (y : ℕ) (ys : List ℕ) → x ∷ xs ≡ y ∷ ys → x ≡ y
        first-of x xs y ys h = cc

        other : (others : List ℕ) → iri_front ((run is_iri_byte xs ++ b ∷ []) ++ others) ≡ iri_of (run is_iri_byte xs) (b ∷ others)
        other others =
            let stop : (x : ℕ) (more : List ℕ) → b ∷ others ≡ x ∷ more → is_iri_byte x ≡ false =
            λ x more o. ap is_iri_byte (first-of x more b others (sym o)) ∙ cut.stop b rest f
            in
            let both = cut-run is_iri_byte (run is_iri_byte xs) (b ∷ others) cut.pass stop in
            ap iri_front (append_assoc (run is_iri_byte xs) (b ∷ []) others) ∙ (λ i. iri_of (both.0 i) (both.1 i))

        whole : xs ≡ (run is_iri_byte xs ++ b ∷ []) ++ rest
        whole = cut.is ∙ ap (λ l. run is_iri_byte xs ++ l) f ∙ sym (append_assoc (run is_iri_byte xs) (b ∷ []) rest)

        test : (t : Bool) → (b == 62 && is_utf8 (run is_iri_byte xs)) ≡ t → Found iri_front xs
        test true e = record {
          s = iri (run is_iri_byte xs);
          r = rest;
          c = run is_iri_byte xs ++ b ∷ [];
          found = ap (iri_of (run is_iri_byte xs)) f ∙ ap (λ t. cond t (front (iri (run is_iri_byte xs)) rest) (no_front rest)) e;
          is = whole;
          same = λ h x old new o. other (x ∷ new) ∙ ap (λ t. cond t (front (iri (run is_iri_byte xs)) (x ∷ new)) (no_front (x ∷ new))) e;
          kept = λ others h. AreAlike-same (sym (ap (λ l. l.symbol) (other others ∙ ap (λ t. cond t (front (iri (run is_iri_byte xs)) others) (no_front others)) e)));
        }
        test false e = record {
          s = no_token;
          r = rest;
          c = run is_iri_byte xs ++ b ∷ [];
          found = ap (iri_of (run is_iri_byte xs)) f ∙ ap (λ t. cond t (front (iri (run is_iri_byte xs)) rest) (no_front rest)) e;
          is = whole;
          same = λ h. absurd (true≢false h);
          kept = λ others h. AreAlike-same (sym (ap (λ l. l.symbol) (other others ∙ ap (λ t. cond t (front (iri (run is_iri_byte xs)) others) (no_front others)) e)));
        }

-- ---- the token that begins with a byte

found-by : (b : ℕ) (xs : List ℕ) (F : List ℕ → Front) → ((r : List ℕ) → token_of b r ≡ F r) → Found F xs → Found (token_of b) xs
found-by b xs F same f = subst (λ G. Found G xs) (sym (fun_ext same)) f

pub found-token : (b : ℕ) (xs : List ℕ) → Found (token_of b) xs
found-token b xs = query (b == 113) refl
  where
    -- where the byte is known, the token is
    at : (k : ℕ) → b ≡ k → Found (token_of k) xs → Found (token_of b) xs
    at k same f = subst (λ n. Found (token_of n) xs) (sym same) f

    tests : (a c d e f g h : Bool) → (b == 113) ≡ a → (b == 40) ≡ c → (b == 41) ≡ d → (b == 44) ≡ e → (b == 58) ≡ f → (b == 63) ≡ g → (b == 60) ≡ h
        → (r : List ℕ) → token_of b r
        ≡ cond a (front (mark QueryWord) r) (cond c (front (mark Opening) r) (cond d (front (mark Closing) r) (cond e (front (mark Comma) r)
        (cond f (turnstile_of r) (cond g (variable_front r) (cond h (iri_front r) (no_front r)))))))
    tests a c d e f g h qa qc qd qe qf qg qh r i =
        cond (qa i) (front (mark QueryWord) r) (cond (qc i) (front (mark Opening) r) (cond (qd i) (front (mark Closing) r) (cond (qe i) (front (mark Comma) r)
        (cond (qf i) (turnstile_of r) (cond (qg i) (variable_front r) (cond (qh i) (iri_front r) (no_front r)))))))

    less : (h : Bool) → (b == 60) ≡ h → (b == 113) ≡ false → (b == 40) ≡ false → (b == 41) ≡ false → (b == 44) ≡ false → (b == 58) ≡ false → (b == 63) ≡ false → Found (token_of b) xs
    less true e q1 q2 q3 q4 q5 q6 = at 60 (eqb-true b 60 e) (found-by 60 xs iri_front (λ r. refl) (found-iri xs))
    less false e q1 q2 q3 q4 q5 q6 = found-by b xs no_front (tests false false false false false false false q1 q2 q3 q4 q5 q6 e) (found-none xs)

    question : (h : Bool) → (b == 63) ≡ h → (b == 113) ≡ false → (b == 40) ≡ false → (b == 41) ≡ false → (b == 44) ≡ false → (b == 58) ≡ false → Found (token_of b) xs
    question true e q1 q2 q3 q4 q5 = at 63 (eqb-true b 63 e) (found-by 63 xs variable_front (λ r. refl) (found-variable xs))
    question false e q1 q2 q3 q4 q5 = less (b == 60) refl q1 q2 q3 q4 q5 e

    colon : (h : Bool) → (b == 58) ≡ h → (b == 113) ≡ false → (b == 40) ≡ false → (b == 41) ≡ false → (b == 44) ≡ false → Found (token_of b) xs
    colon true e q1 q2 q3 q4 = at 58 (eqb-true b 58 e) (found-by 58 xs turnstile_of (λ r. refl) (found-turnstile xs))
    colon false e q1 q2 q3 q4 = question (b == 63) refl q1 q2 q3 q4 e

    comma : (h : Bool) → (b == 44) ≡ h → (b == 113) ≡ false → (b == 40) ≡ false → (b == 41) ≡ false → Found (token_of b) xs
    comma true e q1 q2 q3 = at 44 (eqb-true b 44 e) (found-by 44 xs (λ r. front (mark Comma) r) (λ r. refl) (found-plain Comma xs refl))
    comma false e q1 q2 q3 = colon (b == 58) refl q1 q2 q3 e

    closing : (h : Bool) → (b == 41) ≡ h → (b == 113) ≡ false → (b == 40) ≡ false → Found (token_of b) xs
    closing true e q1 q2 = at 41 (eqb-true b 41 e) (found-by 41 xs (λ r. front (mark Closing) r) (λ r. refl) (found-plain Closing xs refl))
    closing false e q1 q2 = comma (b == 44) refl q1 q2 e

    opening : (h : Bool) → (b == 40) ≡ h → (b == 113) ≡ false → Found (token_of b) xs
    opening true e q1 = at 40 (eqb-true b 40 e) (found-by 40 xs (λ r. front (mark Opening) r) (λ r. refl) (found-plain Opening xs refl))
    opening false e q1 = closing (b == 41) refl q1 e

    query : (h : Bool) → (b == 113) ≡ h → Found (token_of b) xs
    query true e = at 113 (eqb-true b 113 e) (found-by 113 xs (λ r. front (mark QueryWord) r) (λ r. refl) (found-plain QueryWord xs refl))
    query false e = opening (b == 40) refl e

-- ---- the next token

-- behind white space a token is found
pub record FindsNext (left : List ℕ) (b : ℕ) (xs : List ℕ) : Type 0 where
  pub white : List ℕ
  pub f : Found (token_of b) xs
  pub is : left ≡ white ++ b ∷ xs
  pub blank : AllByRecursion (λ b. is_blank b ≡ true) white
  pub first : is_blank b ≡ false

-- the bytes up to its end
abbrev pub seen_of : {left xs : List ℕ} {b : ℕ} → FindsNext left b xs → List ℕ
seen_of {b = b} n = n.white ++ b ∷ n.f.c

module _ {left xs : List ℕ} {b : ℕ} (n : FindsNext left b xs) where
  pub next-is : left ≡ seen_of n ++ n.f.r
  next-is = n.is ∙ ap (λ l. n.white ++ b ∷ l) n.f.is ∙ sym (append_assoc n.white (b ∷ n.f.c) n.f.r)

  -- other bytes behind it
  pub text-behind : (others : List ℕ) → behind is_blank (seen_of n ++ others) ≡ b ∷ (n.f.c ++ others)
  text-behind others =
      let stop : (x : ℕ) (more : List ℕ) → b ∷ (n.f.c ++ others) ≡ x ∷ more → is_blank x ≡ false = λ x more h. ap is_blank (first-of x more b (n.f.c ++ others) (sym h)) ∙ n.first in
      ap (behind is_blank) (append_assoc n.white (b ∷ n.f.c) others) ∙ (cut-run is_blank n.white (b ∷ (n.f.c ++ others)) n.blank stop).1
    where
      first-of : (x : ℕ) (xs : List ℕ) (y : ℕ) (ys : List ℕ) → x ∷ xs ≡ y ∷ ys → x ≡ y
      first-of x xs y ys h = cc

  pub next-front : (others : List ℕ) → next_front (seen_of n ++ others) ≡ token_of b (n.f.c ++ others)
  next-front others = ap front_of (text-behind others)

  pub next-found : next_front left ≡ front n.f.s n.f.r
  next-found = ap next_front next-is ∙ next-front n.f.r ∙ ap (token_of b) (sym n.f.is) ∙ n.f.found

pub finds-next : (left : List ℕ) (b : ℕ) (xs : List ℕ) → behind is_blank left ≡ b ∷ xs → FindsNext left b xs
finds-next left b xs h =
    let cut = run-cut is_blank left in
    record {
      white = run is_blank left;
      f = found-token b xs;
      is = cut.is ∙ ap (λ l. run is_blank left ++ l) h;
      blank = cut.pass;
      first = cut.stop b xs h;
    }
