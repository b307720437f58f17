-- Words have one form at most: where the positional ones end is determined, and then what the option is.
use Rattle.std.proofs.Common.{◌≡◌, ℕ, ◌+◌, ◌≤◌, Bool, true, false, not, cond, List, [], ◌∷◌, ◌++◌, length, map, take, drop, get_or, suc, position, unwrap_or, ltb, Option, Some, None, refl, sym, ap, ◌∙◌, subst, true≢false, arith, append-nil}
use Rattle.std.specs.List.{list_all, position_or_len}
use Rattle.std.specs.Str.Parse.{digits_value}
use Rattle.std.proofs.lemmas.Bool.{and_parts, and_from, cond_both, ltb-false}
use Rattle.std.proofs.lemmas.List.{length-append, append_cancel_left, take-append-drop, take_all, map-append, length-map}
use Rattle.std.proofs.lemmas.List.Sums.{prefix_len-le-length}
use Rattle.dl_names.specs.NameList.{Text}
use Rattle.dl_run.specs.Words.{is_positional, IsNumber, IsOption, AreWords}
use Rattle.dl_run.specs.Words.IsOption.{absent, apart, joined}
use Rattle.dl_run.specs.Options.{OptionThen, ends_positional}
use Rattle.dl_run.specs.Options.OptionThen.{absent as none_then, apart as apart_then, joined as joined_then}

-- ---- where positional words end

module _ {A : Type 0} (f : A → Text) where
  abbrev pub names_len : List A → ℕ
  names_len words = position_or_len (λ w. not (is_positional (f w))) words

  pub names_parts : (words : List A) → (list_all is_positional (map f (take (names_len words) words)) ≡ true)
      × (ends_positional (map f (drop (names_len words) words)) ≡ true)
  names_parts [] = (refl, refl)
  names_parts (w ∷ words) = by (is_positional (f w)) refl (names_parts words)
    where
      by : (t : Bool) → is_positional (f w) ≡ t
          → (list_all is_positional (map f (take (names_len words) words)) ≡ true) × (ends_positional (map f (drop (names_len words) words)) ≡ true)
          → (list_all is_positional (map f (take (names_len (w ∷ words)) (w ∷ words))) ≡ true)
          × (ends_positional (map f (drop (names_len (w ∷ words)) (w ∷ words))) ≡ true)
      by true e more =
          let next : names_len (w ∷ words) ≡ suc (names_len words) = rw e (omega arith) in
          subst (λ n. (list_all is_positional (map f (take n (w ∷ words))) ≡ true) × (ends_positional (map f (drop n (w ∷ words))) ≡ true)) (sym next)
          (and_from _ _ e more.0, more.1)
      by false e more =
          let next : names_len (w ∷ words) ≡ 0 = ap (λ t. cond (not (not t)) (1 + names_len words) 0) e in
          subst (λ n. (list_all is_positional (map f (take n (w ∷ words))) ≡ true) × (ends_positional (map f (drop n (w ∷ words))) ≡ true)) (sym next)
          (refl, ap not e)

  pub names_len-le : (words : List A) → names_len words ≤ length words
  names_len-le words = prefix_len-le-length (λ w. not (not (is_positional (f w)))) words

  pub names_len_is : (words : List A) → unwrap_or (position (λ w. not (is_positional (f w))) words) (length words) ≡ names_len words
  names_len_is words =
      cond_both (ltb (names_len words) (length words)) (Some (names_len words)) None (λ o. unwrap_or o (length words) ≡ names_len words)
      (λ _. refl) (λ e. omega (arith, ltb-false _ _ e, names_len-le words))

  -- all words are positional exactly where none ends them
  pub all_from_len : (words : List A) → length words ≤ names_len words → list_all is_positional (map f words) ≡ true
  all_from_len words whole =
      subst (λ l. list_all is_positional (map f l) ≡ true) (take_all (names_len words) words whole) (names_parts words).0

  pub len_from_all : (words : List A) → list_all is_positional (map f words) ≡ true → names_len words ≡ length words
  len_from_all [] h = refl
  len_from_all (w ∷ words) h =
      let parts = and_parts (is_positional (f w)) (list_all is_positional (map f words)) h in
      let more : names_len words ≡ length words = len_from_all words parts.1 in
      ap (λ t. cond (not (not t)) (1 + names_len words) 0) parts.0 ∙ omega (arith, more)

all_left : (xs ys : List Text) → list_all is_positional (xs ++ ys) ≡ true → list_all is_positional xs ≡ true
all_left [] ys h = refl
all_left (x ∷ xs) ys h =
    let parts = and_parts (is_positional x) (list_all is_positional (xs ++ ys)) h in
    and_from _ _ parts.0 (all_left xs ys parts.1)

all_right : (xs ys : List Text) → list_all is_positional (xs ++ ys) ≡ true → list_all is_positional ys ≡ true
all_right [] ys h = h
all_right (x ∷ xs) ys h = all_right xs ys (and_parts (is_positional x) (list_all is_positional (xs ++ ys)) h).1

pub all_both : (xs ys : List Text) → list_all is_positional xs ≡ true → list_all is_positional ys ≡ true → list_all is_positional (xs ++ ys) ≡ true
all_both [] ys h k = k
all_both (x ∷ xs) ys h k =
    let parts = and_parts (is_positional x) (list_all is_positional xs) h in
    and_from _ _ parts.0 (all_both xs ys parts.1 k)

-- the words before one that is not positional are one list
cut : (xs xs' ys : List Text) (y : Text) (ys' : List Text) → xs ++ ys ≡ xs' ++ y ∷ ys' → list_all is_positional xs ≡ true → list_all is_positional xs' ≡ true
    → ends_positional ys ≡ true → is_positional y ≡ false → (xs ≡ xs') × (ys ≡ y ∷ ys')
cut [] [] ys y ys' is h h' end dash = (refl, is)
cut [] (x' ∷ xs') [] y ys' is h h' end dash = absurd (cc)
cut [] (x' ∷ xs') (z ∷ ys) y ys' is h h' end dash =
    let same : z ≡ x' = cc in
    absurd (true≢false (sym end ∙ ap not (ap is_positional same ∙ (and_parts (is_positional x') (list_all is_positional xs') h').0)))
cut (x ∷ xs) [] ys y ys' is h h' end dash =
    let same : x ≡ y = cc in
    absurd (true≢false (sym (and_parts (is_positional x) (list_all is_positional xs) h).0 ∙ ap is_positional same ∙ dash))
cut (x ∷ xs) (x' ∷ xs') ys y ys' is h h' end dash =
    let head : x ≡ x' = cc in
    let tail : xs ++ ys ≡ xs' ++ y ∷ ys' = cc in
    let more =
    cut xs xs' ys y ys' tail (and_parts (is_positional x) (list_all is_positional xs) h).1
    (and_parts (is_positional x') (list_all is_positional xs') h').1 end dash
    in
    ((λ i. head i ∷ more.0 i), more.1)

-- positional words to the end leave nothing
no_more : (xs ys : List Text) → list_all is_positional (xs ++ ys) ≡ true → ends_positional ys ≡ true → ys ≡ []
no_more xs [] h end = refl
no_more xs (y ∷ ys) h end =
    let first = (and_parts (is_positional y) (list_all is_positional ys) (all_right xs (y ∷ ys) h)).0 in
    absurd (true≢false (sym end ∙ ap not first))

-- ---- one option

-- a word spells one number
pub same_number : {word word' : Text} {least most n m : ℕ} → word ≡ word' → IsNumber word least most n → IsNumber word' least most m → n ≡ m
same_number is one two = one.is ∙ ap (digits_value 10) is ∙ sym two.is

longer : (name word : Text) → name ≡ name ++ 61 ∷ word → ⊥
longer name word is = omega (arith, ap length is, length-append name (61 ∷ word))

module _ {name : Text} {most : ℕ} where
  pub OptionThen-unique : {words : List Text} {g g' : Option ℕ} {r r' : List Text} → OptionThen name most words g r → OptionThen name most words g' r'
      → (g ≡ g') × (r ≡ r')
  OptionThen-unique (none_then is g r) (none_then is' g' r') = (g ∙ sym g', r ∙ sym r')
  OptionThen-unique (none_then is g r) (apart_then is' n' g') = absurd (cc)
  OptionThen-unique (none_then is g r) (joined_then is' n' g') = absurd (cc)
  OptionThen-unique (apart_then is n g) (none_then is' g' r') = absurd (cc)
  OptionThen-unique {r = r} {r' = r'} (apart_then {word} is n g) (apart_then {word = word'} is' n' g') =
      let both : name ∷ word ∷ r ≡ name ∷ word' ∷ r' = sym is ∙ is' in
      let same : word ≡ word' = cc in
      let rest : r ≡ r' = cc in
      (g ∙ ap Some (same_number same n n') ∙ sym g', rest)
  OptionThen-unique {r = r} {r' = r'} (apart_then {word} is n g) (joined_then {word = word'} is' n' g') =
      let both : name ∷ word ∷ r ≡ (name ++ 61 ∷ word') ∷ r' = sym is ∙ is' in
      let same : name ≡ name ++ 61 ∷ word' = cc in
      absurd (longer name word' same)
  OptionThen-unique (joined_then is n g) (none_then is' g' r') = absurd (cc)
  OptionThen-unique {r = r} {r' = r'} (joined_then {word} is n g) (apart_then {word = word'} is' n' g') =
      let both : name ∷ word' ∷ r' ≡ (name ++ 61 ∷ word) ∷ r = sym is' ∙ is in
      let same : name ≡ name ++ 61 ∷ word = cc in
      absurd (longer name word same)
  OptionThen-unique {r = r} {r' = r'} (joined_then {word} is n g) (joined_then {word = word'} is' n' g') =
      let both : (name ++ 61 ∷ word) ∷ r ≡ (name ++ 61 ∷ word') ∷ r' = sym is ∙ is' in
      let heads : name ++ 61 ∷ word ≡ name ++ 61 ∷ word' = cc in
      let tails : 61 ∷ word ≡ 61 ∷ word' = append_cancel_left name (61 ∷ word) (61 ∷ word') heads in
      let same : word ≡ word' = cc in
      let rest : r ≡ r' = cc in
      (g ∙ ap Some (same_number same n n') ∙ sym g', rest)

  -- ---- where no option stands

  pub no_joined : (first : Text) (words tail : List Text) → words ≡ first ∷ tail → (first ≡ name → ⊥)
      → ((word : Text) (n : ℕ) → first ≡ name ++ 61 ∷ word → IsNumber word 1 most n → ⊥) → (given : Option ℕ) (rest : List Text)
      → OptionThen name most words given rest → ⊥
  no_joined first words tail is other none given rest (none_then b g r) = omega (arith, ap length (sym is ∙ b))
  no_joined first words tail is other none given rest (apart_then b n g) = other (ap (λ l. get_or l 0 []) (sym is ∙ b))
  no_joined first words tail is other none given rest (joined_then {word} {number} b n g) = none word number (ap (λ l. get_or l 0 []) (sym is ∙ b)) n

  pub no_apart : (first : Text) (words tail : List Text) → words ≡ first ∷ tail → first ≡ name
      → ((word : Text) (rest : List Text) (n : ℕ) → tail ≡ word ∷ rest → IsNumber word 1 most n → ⊥) → (given : Option ℕ) (rest : List Text)
      → OptionThen name most words given rest → ⊥
  no_apart first words tail is same none given rest (none_then b g r) = omega (arith, ap length (sym is ∙ b))
  no_apart first words tail is same none given rest (apart_then {word} {number} b n g) = none word rest number (ap (drop 1) (sym is ∙ b)) n
  no_apart first words tail is same none given rest (joined_then {word} b n g) = longer name word (sym same ∙ ap (λ l. get_or l 0 []) (sym is ∙ b))

  -- ---- from what is found to what the words are

  -- what is found behind positional words, and then positional words
  pub words_from : (words before behind after : List Text) (given : Option ℕ) → words ≡ before ++ behind → OptionThen name most behind given after
      → list_all is_positional before ≡ true → list_all is_positional after ≡ true → AreWords name most words (before ++ after) given
  words_from words before behind after given is (none_then b g r) h k = record {
    before = before;
    option = [];
    after = after;
    is = is ∙ ap (λ l. before ++ l) (b ∙ sym r);
    are = refl;
    all = all_both before after h k;
    is_option = absent refl g;
  }
  words_from words before behind after given is (apart_then {word} b n g) h k = record {
    before = before;
    option = name ∷ word ∷ [];
    after = after;
    is = is ∙ ap (λ l. before ++ l) b;
    are = refl;
    all = all_both before after h k;
    is_option = apart refl n g;
  }
  words_from words before behind after given is (joined_then {word} b n g) h k = record {
    before = before;
    option = (name ++ 61 ∷ word) ∷ [];
    after = after;
    is = is ∙ ap (λ l. before ++ l) b;
    are = refl;
    all = all_both before after h k;
    is_option = joined refl n g;
  }

-- ---- and back

module _ (name : Text) (most : ℕ) where
  -- what the words are, behind the positional words at their front
  pub record Found (before behind positional : List Text) (given : Option ℕ) : Type 0 where
    pub after : List Text
    pub option_then : OptionThen name most behind given after
    pub are : positional ≡ before ++ after
    pub all : list_all is_positional after ≡ true

  module _ (dash : (word : Text) → is_positional (name ++ word) ≡ false) where
    name_dash : is_positional name ≡ false
    name_dash = subst (λ w. is_positional w ≡ false) (append-nil name) (dash [])

    pub found_in : (words before behind positional : List Text) (given : Option ℕ) → words ≡ before ++ behind → list_all is_positional before ≡ true
        → ends_positional behind ≡ true → AreWords name most words positional given → Found before behind positional given
    found_in words before behind positional given is h end a = by a.is_option
      where
        by : IsOption name most a.option given → Found before behind positional given
        by (absent none g) =
            let whole : words ≡ positional = a.is ∙ ap (λ o. a.before ++ (o ++ a.after)) none ∙ sym a.are in
            let nothing : behind ≡ [] = no_more before behind (ap (list_all is_positional) (sym is ∙ whole) ∙ a.all) end in
            record {
              after = [];
              option_then = none_then nothing g refl;
              are = sym whole ∙ is ∙ ap (λ l. before ++ l) nothing;
              all = refl;
            }
        by (apart {word} o n g) =
            let all = sym (ap (list_all is_positional) a.are) ∙ a.all in
            let at = cut before a.before behind name (word ∷ a.after) (sym is ∙ a.is ∙ ap (λ l. a.before ++ (l ++ a.after)) o) h
            (all_left a.before a.after all) end name_dash in
            record {
              after = a.after;
              option_then = apart_then at.1 n g;
              are = a.are ∙ ap (λ l. l ++ a.after) (sym at.0);
              all = all_right a.before a.after all;
            }
        by (joined {word} o n g) =
            let all = sym (ap (list_all is_positional) a.are) ∙ a.all in
            let at = cut before a.before behind (name ++ 61 ∷ word) a.after (sym is ∙ a.is ∙ ap (λ l. a.before ++ (l ++ a.after)) o) h
            (all_left a.before a.after all) end (dash (61 ∷ word)) in
            record {
              after = a.after;
              option_then = joined_then at.1 n g;
              are = a.are ∙ ap (λ l. l ++ a.after) (sym at.0);
              all = all_right a.before a.after all;
            }

    module _ {A : Type 0} (f : A → Text) (words before behind : List A) (n : ℕ) (len : n ≡ names_len f words) (front : before ≡ take n words)
        (back : behind ≡ drop n words) where
      whole : map f words ≡ map f before ++ map f behind
      whole =
          ap (map f) (sym (take-append-drop n words)) ∙ map-append f (take n words) (drop n words)
          ∙ sym (λ i. map f (front i) ++ map f (back i))

      at_front : list_all is_positional (map f before) ≡ true
      at_front = subst (λ l. list_all is_positional (map f l) ≡ true) (ap (λ k. take k words) (sym len) ∙ sym front) (names_parts f words).0

      at_back : ends_positional (map f behind) ≡ true
      at_back = subst (λ l. ends_positional (map f l) ≡ true) (ap (λ k. drop k words) (sym len) ∙ sym back) (names_parts f words).1

      pub found_at : (files : List Text) (given : Option ℕ) → AreWords name most (map f words) files given → Found (map f before) (map f behind) files given
      found_at files given = found_in (map f words) (map f before) (map f behind) files given whole at_front at_back

      -- where positional words follow to the end, the words are these and the option
      module _ (after : List A) (given : Option ℕ) (then : OptionThen name most (map f behind) given (map f after)) where
        pub files_at : length after ≤ names_len f after → (files : List Text) → map f before ++ map f after ≡ files → AreWords name most (map f words) files given
        files_at rest files is =
            subst (λ l. AreWords name most (map f words) l given) is
            (words_from (map f words) (map f before) (map f behind) (map f after) given whole then at_front (all_from_len f after rest))

        -- and else there are none, or not so many
        pub no_files_at : (files : List Text) (also : Option ℕ) → AreWords name most (map f words) files also
            → (names_len f after ≡ length after) × (length files ≡ length before + length after)
        no_files_at files also are =
            let found = found_at files also are in
            let same : map f after ≡ found.after = (OptionThen-unique then found.option_then).1 in (
              len_from_all f after (subst (λ l. list_all is_positional l ≡ true) (sym same) found.all),
              ap length (found.are ∙ ap (λ l. map f before ++ l) (sym same))
                  ∙ length-append (map f before) (map f after) ∙ (λ i. length-map before f i + length-map after f i),
            )

    -- words are one list of positional ones, with one option at most
    pub AreWords-unique : (words : List Text) {positional other : List Text} {given also : Option ℕ} → AreWords name most words positional given
        → AreWords name most words other also → (positional ≡ other) × (given ≡ also)
    AreWords-unique words {positional} {other} {given} {also} one two =
        let n = names_len (λ w. w) words in
        let parts = names_parts (λ w. w) words in
        let is : words ≡ take n words ++ drop n words = sym (take-append-drop n words) in
        let all : list_all is_positional (take n words) ≡ true = subst (λ l. list_all is_positional l ≡ true) (map-same (take n words)) parts.0 in
        let end : ends_positional (drop n words) ≡ true = subst (λ l. ends_positional l ≡ true) (map-same (drop n words)) parts.1 in
        let first = found_in words (take n words) (drop n words) positional given is all end one in
        let second = found_in words (take n words) (drop n words) other also is all end two in
        let same = OptionThen-unique first.option_then second.option_then in
        (first.are ∙ ap (λ l. take n words ++ l) same.1 ∙ sym second.are, same.0)
      where
        map-same : (xs : List Text) → map (λ w. w) xs ≡ xs
        map-same [] = refl
        map-same (x ∷ xs) = ap (λ l. x ∷ l) (map-same xs)
