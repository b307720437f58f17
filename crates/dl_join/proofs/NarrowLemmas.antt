-- What needs ask of other variables at a name for theirs.
use Rattle.std.proofs.Common.{◌≡◌, ℕ, ◌+◌, ◌<◌, ◌≤◌, List, [], ◌∷◌, ◌++◌, Some, None, length, take, sym, ap, ◌∙◌, arith, rules, append_assoc}
use Rattle.std.specs.List.{Any, AllWithin}
use Rattle.std.proofs.lemmas.List.Elements.{All-push, All-weaker, All-nil}
use Rattle.dl_join.specs.declared.need.Need.{Need}
use Rattle.dl_join.specs.declared.need.Column.TheVariants.{First, Second}
use Rattle.dl_join.specs.Needs.{in_column, Stands, IsNarrowed, AddsNarrowed}
use Rattle.dl_join.proofs.ListLemmas.{Any-append_left, Any-append_right, Any-first}
use Rattle.dl_join.proofs.PairLemmas.{in_take, kept_take, ceiling_take, ascending_run}

-- a need of nothing, as reads past the end of a list have it
abbrev pub no_need : Need
no_need = record { at = 0; other = None; column = First; pairs = record { ref_ptr = (0, 0); now = [] } }

-- the run of a name is what a need asks of its other variable there
pub narrowed_need : (name k other : ℕ) (a n : Need) → Stands name name a → a.other ≡ Some other
    → AllWithin (λ p. in_column a.column p < name + 1) a.pairs.now 0 k → AllWithin (λ p. name + 1 ≤ in_column a.column p) a.pairs.now k (length a.pairs.now)
    → n.at ≡ other → n.other ≡ None → n.column ≡ Second → n.pairs.now ≡ take k a.pairs.now → IsNarrowed name a n
narrowed_need name k other a n s is below above at none second run =
    let col = in_column a.column in
    let pairs = a.pairs.now in
    record {
      at = is ∙ ap Some (sym at);
      other = none;
      column = second;
      ascending = rw (second, run) (ascending_run a.column pairs k name s.ascending s.floor below);
      pairs = λ p. rw run (
        λ w. (
          in_take col pairs k p w,
          (
              let least = s.floor p (in_take col pairs k p w) in
              let most = ceiling_take col pairs k (name + 1) p below w in
              omega arith),
        ),
        λ w. (let here = w.1 in kept_take col pairs k (name + 1) p above (omega arith) w.0),
      );
    }

pub AddsNarrowed-none : (name : ℕ) (old : List Need) → AddsNarrowed name [] old old
AddsNarrowed-none name old = record {
  added = [];
  is = search rules;
  narrowed = record { from = All-nil _; to = All-nil _ };
}

-- a need without another variable asks nothing more
pub AddsNarrowed-skip : (name : ℕ) (wide old new : List Need) (a : Need) → ((v : ℕ) → a.other ≡ Some v → ⊥) → AddsNarrowed name wide old new → AddsNarrowed name (wide ++ a ∷ []) old new
AddsNarrowed-skip name wide old new a none w = record {
  added = w.added;
  is = w.is;
  narrowed = record {
    from = All-weaker (λ n. Any (λ b. IsNarrowed name b n) wide) (λ n. Any (λ b. IsNarrowed name b n) (wide ++ a ∷ []))
        (λ n any. Any-append_left (λ b. IsNarrowed name b n) wide (a ∷ []) any) w.added w.narrowed.from;
    to = All-push (λ b. (v : ℕ) → b.other ≡ Some v → Any (λ n. IsNarrowed name b n) w.added) wide a w.narrowed.to (λ v some. absurd (none v some));
  };
}

-- a need with another variable asks this of it
pub AddsNarrowed-push : (name : ℕ) (wide old new : List Need) (a n : Need) → IsNarrowed name a n → AddsNarrowed name wide old new
    → AddsNarrowed name (wide ++ a ∷ []) old (new ++ n ∷ [])
AddsNarrowed-push name wide old new a n is w = record {
  added = w.added ++ n ∷ [];
  is = rw w.is (append_assoc old w.added (n ∷ []));
  narrowed = record {
    from = All-push (λ m. Any (λ b. IsNarrowed name b m) (wide ++ a ∷ [])) w.added n
        (All-weaker (λ m. Any (λ b. IsNarrowed name b m) wide) (λ m. Any (λ b. IsNarrowed name b m) (wide ++ a ∷ []))
        (λ m any. Any-append_left (λ b. IsNarrowed name b m) wide (a ∷ []) any) w.added w.narrowed.from)
        (Any-append_right (λ b. IsNarrowed name b n) wide (a ∷ []) (Any-first (λ b. IsNarrowed name b n) a [] is));
    to = All-push (λ b. (v : ℕ) → b.other ≡ Some v → Any (λ m. IsNarrowed name b m) (w.added ++ n ∷ [])) wide a
        (All-weaker (λ b. (v : ℕ) → b.other ≡ Some v → Any (λ m. IsNarrowed name b m) w.added)
        (λ b. (v : ℕ) → b.other ≡ Some v → Any (λ m. IsNarrowed name b m) (w.added ++ n ∷ []))
        (λ b all v some. Any-append_left (λ m. IsNarrowed name b m) w.added (n ∷ []) (all v some)) wide w.narrowed.to)
        (λ v some. Any-append_right (λ m. IsNarrowed name a m) w.added (n ∷ []) (Any-first (λ m. IsNarrowed name a m) n [] is));
  };
}
