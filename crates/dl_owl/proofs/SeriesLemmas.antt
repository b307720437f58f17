-- Items that are read one after another, up to a parenthesis.
use Rattle.std.proofs.Common.{◌≡◌, ℕ, suc, zero, Result, Ok, Err, IsErrAnd, List, [], ◌∷◌, ◌++◌, refl, sym, ap, ◌∙◌, subst, slice_range}
use Rattle.std.proofs.lemmas.Result.{err_from_is_err_and}
use Rattle.std.proofs.lemmas.List.{append-nil, append_assoc}
use Rattle.dl_lex.specs.declared.token.TokenKind.{TokenKind}
use Rattle.dl_lex.specs.declared.token.TokenKind.TheVariants.{Close}
use Rattle.dl_terms.specs.declared.role.Role.{Role}
use Rattle.dl_terms.specs.declared.role.Basic.{Basic}
use Rattle.dl_terms.specs.declared.axiom.Part.{Part}
use Rattle.dl_owl.specs.declared.fault.OwlFault.{OwlFault}
use Rattle.dl_owl.specs.Symbols.{Symbol, symbol_of}
use Rattle.dl_owl.specs.Prefixes.{Prefixes}
use Rattle.dl_owl.specs.Expected.{Expected, open_then, close_then, role_then, sub_then, sup_then, roles_close, subs_close, sups_close}
use Rattle.dl_owl.specs.Steps.{move_of}
use Rattle.dl_owl.specs.Walk.{symbol_at, Here, Goes, Faults, Reads, Passes}
use Rattle.dl_owl.specs.Series.{ReadsOne, Appends}
use Rattle.dl_owl.proofs.WalkLemmas.{goes-then, goes-faults, goes_alike, faults_alike, goes_as}

-- the exit of a `?`, for any contract
pub exit_by : {V : Type 0} (P : Result V OwlFault → Type 0) (r : Result V OwlFault) (fault : OwlFault)
    → IsErrAnd r (λ y. y ≡ fault)
    → P (Err fault) → P r
exit_by P r fault is h =
    let found = err_from_is_err_and r is in
    subst P (sym found.1) (subst (λ f. P (Err f)) (sym found.2) h)

-- an item that is read behind what was passed over
pub one_behind : {V : Type 0} (e : (List V → Expected) → Expected) (f : (V → Expected) → Expected) (a b c : Here)
    (r : Result V OwlFault)
    → ((k : List V → Expected) → Goes (e k) a (f (λ v. k (v ∷ []))) b) → Reads f b c r → ReadsOne e a c r
one_behind e f a b c (Ok v) first h = λ k. goes-then (e k) a (f (λ x. k (x ∷ []))) b (k (v ∷ [])) c (first k)
    (h (λ x. k (x ∷ [])))
one_behind e f a b c (Err fault) first h = λ k. goes-faults (e k) a (f (λ x. k (x ∷ []))) b fault (first k)
    (h (λ x. k (x ∷ [])))

-- items that are read behind what was passed over
pub appends_behind : {V : Type 0} (e f : (List V → Expected) → Expected) (a b c : Here) (before after : List V)
    (r : Result (Unit {0}) OwlFault)
    → ((k : List V → Expected) → Goes (e k) a (f k) b) → Appends f b c before after r → Appends e a c before after r
appends_behind e f a b c before after (Ok v) first h = (
  h.0,
  h.1,
  λ k. goes-then (e k) a (f k) b (k h.0) c (first k)
      (h.2 k),
)
appends_behind e f a b c before after (Err fault) first h = λ k. goes-faults (e k) a (f k) b fault (first k) (h k)

-- all the items of a list that was empty
pub reads_all : {V : Type 0} (e : (List V → Expected) → Expected) (a b : Here) (before after : List V) → before ≡ []
    → Appends e a b before after (Ok tt) → (k : List V → Expected) → Goes (e k) a (k after) b
reads_all e a b before after none h k =
    subst (λ l. Goes (e k) a (k l) b) (sym (h.1 ∙ ap (λ l. l ++ h.0) none)) (h.2 k)

-- what is expected, where so many more items are at least, goes on as one item or as the parenthesis does
pub record IsSeries (V : Type 0) (c : ℕ → List V → (List V → Expected) → Expected) (e : (List V → Expected)
    → Expected)
    : Type 0 where
  pub more : (p : Prefixes) (n : ℕ) (before : List V) (k : List V → Expected) (s : Symbol)
      → move_of p (c (suc n) before k) s ≡ move_of p (e (λ items. c n (before ++ items) k)) s
  pub other : (p : Prefixes) (before : List V) (k : List V → Expected) (kind : TokenKind) (text : List ℕ)
      → (kind ≡ Close → ⊥)
      → move_of p (c zero before k) (symbol_of kind text) ≡ move_of p (e (λ items. c zero (before ++ items) k))
      (symbol_of kind text)
  pub ends : (p : Prefixes) (before : List V) (k : List V → Expected) (kind : TokenKind) (text : List ℕ)
      → kind ≡ Close
      → move_of p (c zero before k) (symbol_of kind text) ≡ move_of p (close_then (k before)) (symbol_of kind text)

-- so many more are expected now, behind those that the list has gained
pub record Series (V : Type 0) (E : (List V → Expected) → Expected) (c : ℕ → List V → (List V → Expected) → Expected)
    (n : ℕ)
    (outer now : List V) (a b : Here) : Type 0 where
  pub inner : List V
  pub is : now ≡ outer ++ inner
  pub on : (k : List V → Expected) → Goes (E k) a (c n inner k) b

module _ (V : Type 0) (c : ℕ → List V → (List V → Expected) → Expected) (e : (List V → Expected) → Expected)
    (series : IsSeries V c e) where
  -- the first of two at least
  pub series_first : (a b : Here) (before after : List V) → Appends e a b before after (Ok tt) → Series V (c 2 []) c 1
      before after a b
  series_first a b before after h = record {
    inner = h.0;
    is = h.1;
    on = λ k.
        goes_alike (c 2 [] k) (e (λ items. c 1 items k)) a (c 1 h.0 k) b (series.more a.prefixes 1 [] k
        (symbol_at a.spot))
        (h.2 (λ items. c 1 items k));
  }

  pub series_first_faults : (a b : Here) (before after : List V) (fault : OwlFault) → Appends e a b before after
      (Err fault)
      → (k : List V → Expected) → Faults (c 2 [] k) a b.names fault
  series_first_faults a b before after fault h k =
      faults_alike (c 2 [] k) (e (λ items. c 1 items k)) a fault (series.more a.prefixes 1 [] k (symbol_at a.spot))
      (h (λ items. c 1 items k))

  module _ (E : (List V → Expected) → Expected) where
    pub series_start : (n : ℕ) (outer : List V) (a b : Here) → ((k : List V → Expected) → Goes (E k) a (c n [] k) b)
        → Series V E c n outer outer a b
    series_start n outer a b h = record { inner = []; is = sym (append-nil outer); on = h }

    module _ (outer now after : List V) (a b d : Here) where
      -- one of those that are still to come
      next_on : (n : ℕ) (s : Series V E c (suc n) outer now a b) (k : List V → Expected)
          → Goes (E k) a (e (λ items. c n (s.inner ++ items) k)) b
      next_on n s k =
          goes_as (E k) a (c (suc n) s.inner k) (e (λ items. c n (s.inner ++ items) k)) b
          (series.more b.prefixes n s.inner k (symbol_at b.spot)) (s.on k)

      pub series_next : (n : ℕ) → Series V E c (suc n) outer now a b → Appends e b d now after (Ok tt)
          → Series V E c n outer after a d
      series_next n s h = record {
        inner = s.inner ++ h.0;
        is = h.1 ∙ ap (λ l. l ++ h.0) s.is ∙ append_assoc outer s.inner h.0;
        on = λ k.
            goes-then (E k) a (e (λ items. c n (s.inner ++ items) k)) b (c n (s.inner ++ h.0) k) d (next_on n s k)
            (h.2 (λ items. c n (s.inner ++ items) k));
      }

      pub series_next_faults : (n : ℕ) (fault : OwlFault) → Series V E c (suc n) outer now a b → Appends e b d now
          after (Err fault)
          → (k : List V → Expected) → Faults (E k) a d.names fault
      series_next_faults n fault s h k =
          goes-faults (E k) a (e (λ items. c n (s.inner ++ items) k)) b fault (next_on n s k)
          (h (λ items. c n (s.inner ++ items) k))

      -- one more, where there is no parenthesis
      again_on : (s : Series V E c zero outer now a b) → (b.spot.token.kind ≡ Close → ⊥) → (k : List V → Expected)
          → Goes (E k) a (e (λ items. c zero (s.inner ++ items) k)) b
      again_on s not k =
          goes_as (E k) a (c zero s.inner k) (e (λ items. c zero (s.inner ++ items) k)) b
          (series.other b.prefixes s.inner k b.spot.token.kind (slice_range b.spot.bytes b.spot.token.start
          b.spot.token.end) not)
          (s.on k)

      pub series_again : Series V E c zero outer now a b → (b.spot.token.kind ≡ Close → ⊥) → Appends e b d now after
          (Ok tt)
          → Series V E c zero outer after a d
      series_again s not h = record {
        inner = s.inner ++ h.0;
        is = h.1 ∙ ap (λ l. l ++ h.0) s.is ∙ append_assoc outer s.inner h.0;
        on = λ k.
            goes-then (E k) a (e (λ items. c zero (s.inner ++ items) k)) b (c zero (s.inner ++ h.0) k) d
            (again_on s not k)
            (h.2 (λ items. c zero (s.inner ++ items) k));
      }

      pub series_again_faults : (fault : OwlFault) → Series V E c zero outer now a b → (b.spot.token.kind ≡ Close → ⊥)
          → Appends e b d now after (Err fault) → (k : List V → Expected) → Faults (E k) a d.names fault
      series_again_faults fault s not h k =
          goes-faults (E k) a (e (λ items. c zero (s.inner ++ items) k)) b fault (again_on s not k)
          (h (λ items. c zero (s.inner ++ items) k))

    -- the parenthesis behind them
    pub series_closes : (outer now : List V) (a b d : Here) (r : Result (Unit {0}) OwlFault) → Series V E c zero outer
        now a b
        → b.spot.token.kind ≡ Close → Passes close_then b d r → Appends E a d outer now r
    series_closes outer now a b d (Ok u) s is h = (
      s.inner,
      s.is,
      λ k.
          goes-then (E k) a (close_then (k s.inner)) b (k s.inner) d
          (goes_as (E k) a (c zero s.inner k) (close_then (k s.inner)) b
          (series.ends b.prefixes s.inner k b.spot.token.kind (slice_range b.spot.bytes b.spot.token.start
          b.spot.token.end) is) (s.on k))
          (h (k s.inner)),
    )
    series_closes outer now a b d (Err fault) s is h =
        λ k.
        goes-faults (E k) a (close_then (k s.inner)) b fault
        (goes_as (E k) a (c zero s.inner k) (close_then (k s.inner)) b
        (series.ends b.prefixes s.inner k b.spot.token.kind (slice_range b.spot.bytes b.spot.token.start
        b.spot.token.end) is) (s.on k))
        (h (k s.inner))

-- ---- roles, and class expressions of left and right sides

abbrev pub one_role : (List Role → Expected) → Expected
one_role k = role_then (λ r. k (r ∷ []))

abbrev pub one_sub : (List Basic → Expected) → Expected
one_sub k = sub_then (λ b. k (b ∷ []))

roles_other : (p : Prefixes) (before : List Role) (k : List Role → Expected) (kind : TokenKind) (text : List ℕ)
    → (kind ≡ Close → ⊥)
    → move_of p (roles_close zero before k) (symbol_of kind text) ≡ move_of p
    (one_role (λ items. roles_close zero (before ++ items) k)) (symbol_of kind text)
roles_other p before k Close text not = absurd (not refl)
roles_other p before k kind text not = refl

roles_end : (p : Prefixes) (before : List Role) (k : List Role → Expected) (kind : TokenKind) (text : List ℕ)
    → kind ≡ Close
    → move_of p (roles_close zero before k) (symbol_of kind text) ≡ move_of p (close_then (k before))
    (symbol_of kind text)
roles_end p before k Close text is = refl
roles_end p before k kind text is = absurd (cc)

pub roles_series : IsSeries Role roles_close one_role
roles_series = record { more = λ p n before k s. refl; other = roles_other; ends = roles_end }

subs_other : (p : Prefixes) (before : List Basic) (k : List Basic → Expected) (kind : TokenKind) (text : List ℕ)
    → (kind ≡ Close → ⊥)
    → move_of p (subs_close zero before k) (symbol_of kind text) ≡ move_of p
    (one_sub (λ items. subs_close zero (before ++ items) k)) (symbol_of kind text)
subs_other p before k Close text not = absurd (not refl)
subs_other p before k kind text not = refl

subs_end : (p : Prefixes) (before : List Basic) (k : List Basic → Expected) (kind : TokenKind) (text : List ℕ)
    → kind ≡ Close
    → move_of p (subs_close zero before k) (symbol_of kind text) ≡ move_of p (close_then (k before))
    (symbol_of kind text)
subs_end p before k Close text is = refl
subs_end p before k kind text is = absurd (cc)

pub subs_series : IsSeries Basic subs_close one_sub
subs_series = record { more = λ p n before k s. refl; other = subs_other; ends = subs_end }

sups_other : (p : Prefixes) (before : List Part) (k : List Part → Expected) (kind : TokenKind) (text : List ℕ)
    → (kind ≡ Close → ⊥)
    → move_of p (sups_close zero before k) (symbol_of kind text) ≡ move_of p
    (sup_then (λ items. sups_close zero (before ++ items) k)) (symbol_of kind text)
sups_other p before k Close text not = absurd (not refl)
sups_other p before k kind text not = refl

sups_end : (p : Prefixes) (before : List Part) (k : List Part → Expected) (kind : TokenKind) (text : List ℕ)
    → kind ≡ Close
    → move_of p (sups_close zero before k) (symbol_of kind text) ≡ move_of p (close_then (k before))
    (symbol_of kind text)
sups_end p before k Close text is = refl
sups_end p before k kind text is = absurd (cc)

pub sups_series : IsSeries Part sups_close sup_then
sups_series = record { more = λ p n before k s. refl; other = sups_other; ends = sups_end }

-- behind the keyword of an intersection
abbrev pub parts_behind : (List Part → Expected) → Expected
parts_behind k = open_then (sups_close 2 [] k)

-- what is read where something else goes on alike
pub reads_alike : {V : Type 0} (e f : (V → Expected) → Expected) (a b : Here) (r : Result V OwlFault)
    → ((k : V → Expected) → move_of a.prefixes (e k) (symbol_at a.spot) ≡ move_of a.prefixes (f k) (symbol_at a.spot))
    → Reads f a b r → Reads e a b r
reads_alike e f a b (Ok v) is h = λ k. goes_alike (e k) (f k) a (k v) b (is k) (h k)
reads_alike e f a b (Err fault) is h = λ k. faults_alike (e k) (f k) a fault (is k) (h k)
