-- Texts printed one after another.
use Rattle.std.proofs.Common.{◌≡◌, ℕ, zero, suc, ◌+◌, ◌<◌, ◌≤◌, List, [], ◌∷◌, ◌++◌, length, get_or, take, drop, Option, Result, Ok, Err, IsErr, sym, ap, subst, ◌∙◌, refl, arith, append_assoc, take_all}
use Rattle.std.specs.List.{flat_map}
use Rattle.std.proofs.lemmas.List.{append-nil}
use Rattle.dl_io.specs.declared.devices.Failed.{Failed}
use Rattle.dl_io.specs.Lending.{Lender}
use Rattle.dl_io.specs.Printing.{Prints}
use Rattle.dl_io.proofs.Got.{Gets-nil, Gets-append, GetsPrefix-front, GetsPrefix-append}
use Rattle.dl_io.proofs.Lent.{StaysLent-same, StaysLent-trans}

-- a text was printed, and no write failed
abbrev pub Printed : {S : Type 0} (got : S → Option (List ℕ)) (faults : S → ℕ) (lender : S → Option Lender) (before now : S) (text : List ℕ) → Type 0
Printed got faults lender before now text = Prints {A = Unit {0}} {E = Failed} got faults lender (Ok tt) before now text

module _ {S : Type 0} {got : S → Option (List ℕ)} {faults : S → ℕ} {lender : S → Option Lender} where
  -- a sink that stays as it was
  pub prints_none : (sink : S) → Printed got faults lender sink sink []
  prints_none sink = record {
    all = Gets-nil (got sink);
    prefix = tt;
    count = omega arith;
    failed = tt;
    lent = StaysLent-same (lender sink);
  }

  -- the same text, written in another way
  pub prints_as : {A E : Type 0} {result : Result A E} {before now : S} {one two : List ℕ}
      → one ≡ two → Prints got faults lender result before now one → Prints got faults lender result before now two
  prints_as {result = result} {before = before} {now = now} same prints =
      subst (Prints got faults lender result before now) same prints

  -- the same, with whatever stands in its `Ok`
  pub prints_done : {A B E F : Type 0} {value : A} {done : B} {before now : S} {text : List ℕ}
      → Prints {A = A} {E = E} got faults lender (Ok value) before now text → Prints {A = B} {E = F} got faults lender (Ok done) before now text
  prints_done prints = record { all = prints.all; prefix = tt; count = prints.count; failed = tt; lent = prints.lent }

  module _ {A B E F : Type 0} {value : A} {before between now : S} {first more : List ℕ}
      (printed : Prints {A = A} {E = E} got faults lender (Ok value) before between first) where
    -- a text that was printed, and then what the next call prints
    pub prints_then : {result : Result B F} → Prints got faults lender result between now more
        → Prints got faults lender result before now (first ++ more)
    prints_then {result = Ok done} prints = record {
      all = Gets-append (got before) (got between) (got now) first more printed.all prints.all;
      prefix = tt;
      count = omega (arith, printed.count, prints.count);
      failed = tt;
      lent = StaysLent-trans (lender before) (lender between) (lender now) printed.lent prints.lent;
    }
    prints_then {result = Err error} prints = record {
      all = tt;
      prefix = GetsPrefix-append (got before) (got between) (got now) first more printed.all prints.prefix;
      count = omega (arith, printed.count, prints.count);
      failed = omega (arith, printed.count, prints.failed);
      lent = StaysLent-trans (lender before) (lender between) (lender now) printed.lent prints.lent;
    }

  -- a first part that failed, and the error handed on
  pub prints_failed : {A B E F : Type 0} {error : E} {result : Result B F} {before now : S} {first : List ℕ} (more : List ℕ)
      → IsErr result → Prints {A = A} {E = E} got faults lender (Err error) before now first → Prints got faults lender result before now (first ++ more)
  prints_failed {result = Ok value} more failed prints = cc
  prints_failed {result = Err handed} {before = before} {now = now} {first = first} more failed prints = record {
    all = tt;
    prefix = GetsPrefix-front (got before) (got now) first more prints.prefix;
    count = prints.count;
    failed = prints.failed;
    lent = prints.lent;
  }

-- ---- a loop

-- the texts of the first i items, and one more
texts_next : {X : Type 0} (f : X → List ℕ) (xs : List X) (i : ℕ) (d : X) → i < length xs
    → flat_map f (take i xs) ++ f (get_or xs i d) ≡ flat_map f (take (i + 1) xs)
texts_next f [] i d h = absurd (omega arith)
texts_next f (x ∷ xs) zero d h = sym (append-nil (f x))
texts_next f (x ∷ xs) (suc i) d h =
    let more : suc i + 1 ≡ suc (i + 1) = omega arith in
    append_assoc (f x) (flat_map f (take i xs)) (f (get_or xs i d))
    ∙ ap (λ rest. f x ++ rest) (texts_next f xs i d (omega arith))
    ∙ ap (λ k. flat_map f (take k (x ∷ xs))) (sym more)

-- and the rest
texts_rest : {X : Type 0} (f : X → List ℕ) (xs : List X) (i : ℕ) → flat_map f (take i xs) ++ flat_map f (drop i xs) ≡ flat_map f xs
texts_rest f xs zero = refl
texts_rest f [] (suc i) = refl
texts_rest f (x ∷ xs) (suc i) = append_assoc (f x) (flat_map f (take i xs)) (flat_map f (drop i xs)) ∙ ap (λ rest. f x ++ rest) (texts_rest f xs i)

module _ {S : Type 0} {got : S → Option (List ℕ)} {faults : S → ℕ} {lender : S → Option Lender} {X : Type 0} (f : X → List ℕ) (xs : List X) (i : ℕ) where
  module _ (d : X) where
    -- one item more is printed
    pub prints_next : {A E : Type 0} {value : A} {before between now : S} {text : List ℕ} → i < length xs
        → text ≡ f (get_or xs i d) → Printed got faults lender before between (flat_map f (take i xs))
        → Prints {A = A} {E = E} got faults lender (Ok value) between now text
        → Printed got faults lender before now (flat_map f (take (i + 1) xs))
    prints_next within is so_far prints = prints_as (texts_next f xs i d within) (prints_then so_far (prints_done (prints_as is prints)))

    -- the next item failed
    pub prints_next_failed : {B E F : Type 0} {error : E} {result : Result B F} {before between now : S} {text : List ℕ} → i < length xs → IsErr result
        → text ≡ f (get_or xs i d) → Printed got faults lender before between (flat_map f (take i xs))
        → Prints {A = Unit {0}} {E = E} got faults lender (Err error) between now text
        → Prints got faults lender result before now (flat_map f xs)
    prints_next_failed within failed is so_far prints =
        let rest = flat_map f (drop (i + 1) xs) in
        prints_as
        (sym (append_assoc (flat_map f (take i xs)) (f (get_or xs i d)) rest)
        ∙ ap (λ l. l ++ rest) (texts_next f xs i d within)
        ∙ texts_rest f xs (i + 1))
        (prints_then so_far (prints_failed rest failed (prints_as is prints)))

  -- all items are printed
  pub prints_whole : {A E : Type 0} {result : Result A E} {before now : S} → length xs ≤ i
      → Prints got faults lender result before now (flat_map f (take i xs)) → Prints got faults lender result before now (flat_map f xs)
  prints_whole all prints = prints_as (ap (flat_map f) (take_all i xs all)) prints
