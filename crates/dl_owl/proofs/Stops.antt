-- Reading all tokens of a text comes to a result: at the end of the text, and where no token begins, it goes on nowhere.
use Rattle.std.proofs.Common.{◌≡◌, ℕ, suc, zero, Bool, true, false, cond, List, [], sym, ap, ◌∙◌, subst, true≢false, slice_range}
use Rattle.dl_owl.specs.Symbols.{ending, no_token, Placed, placed, symbol_of, AreTokens, nothing, fault, last, token}
use Rattle.dl_owl.specs.Prefixes.{Prefixes}
use Rattle.dl_owl.specs.Expected.{Expected, prologue, prefix_name, prefix_equals, prefix_iri, title, annotations_first, items, lone_axiom, finish, done, open_then, close_then, annotations_then, iri_then, subject_then, value_then, value_end, property_then, role_then, first_role, second_role, sub_then, sup_then, thing_then, filler_then, roles_close, subs_close, sups_close, individual_then, unnamed_then, different_close, class_then, declared_class, entity_then, Move, goes, refuses}
use Rattle.dl_owl.specs.Causes.{too_deep}
use Rattle.dl_owl.specs.Steps.{move_of}
use Rattle.dl_owl.specs.Reading.{Met, fails, unfinished, is_too_deep, outcome_of, last_outcome, outcome}
use Rattle.dl_owl.proofs.Turns.{IsEndAt, deeper, Turn, onward, stops, turn}

-- it ends with a value or a fault
abbrev IsLast : Move → Type 0
IsLast (goes (done d)) = Unit {0}
IsLast (goes e) = ⊥
IsLast (refuses cause) = Unit {0}
IsLast m = ⊥

at_ending : (p : Prefixes) (e : Expected) → IsLast (move_of p e ending)
at_ending p prologue = tt
at_ending p prefix_name = tt
at_ending p (prefix_equals name) = tt
at_ending p (prefix_iri name) = tt
at_ending p (title zero) = tt
at_ending p (title (suc n)) = tt
at_ending p annotations_first = tt
at_ending p (items d) = tt
at_ending p lone_axiom = tt
at_ending p (finish d) = tt
at_ending p (done d) = tt
at_ending p (open_then e) = tt
at_ending p (close_then e) = tt
at_ending p (annotations_then e) = at_ending p e
at_ending p (iri_then e) = tt
at_ending p (subject_then e) = tt
at_ending p (value_then e) = tt
at_ending p (value_end e) = tt
at_ending p (property_then k) = tt
at_ending p (role_then k) = tt
at_ending p (first_role k) = tt
at_ending p (second_role k e) = tt
at_ending p (sub_then k) = tt
at_ending p (sup_then k) = tt
at_ending p (thing_then e) = tt
at_ending p (filler_then r k) = tt
at_ending p (roles_close zero before k) = tt
at_ending p (roles_close (suc n) before k) = tt
at_ending p (subs_close zero before k) = tt
at_ending p (subs_close (suc n) before k) = tt
at_ending p (sups_close zero before k) = tt
at_ending p (sups_close (suc n) before k) = tt
at_ending p (individual_then k) = tt
at_ending p (unnamed_then e) = tt
at_ending p (different_close zero before e) = tt
at_ending p (different_close (suc n) before e) = tt
at_ending p (class_then k) = tt
at_ending p (declared_class k) = tt
at_ending p (entity_then k) = tt

at_no_token : (p : Prefixes) (e : Expected) → IsLast (move_of p e no_token)
at_no_token p prologue = tt
at_no_token p prefix_name = tt
at_no_token p (prefix_equals name) = tt
at_no_token p (prefix_iri name) = tt
at_no_token p (title zero) = tt
at_no_token p (title (suc n)) = tt
at_no_token p annotations_first = tt
at_no_token p (items d) = tt
at_no_token p lone_axiom = tt
at_no_token p (finish d) = tt
at_no_token p (done d) = tt
at_no_token p (open_then e) = tt
at_no_token p (close_then e) = tt
at_no_token p (annotations_then e) = at_no_token p e
at_no_token p (iri_then e) = tt
at_no_token p (subject_then e) = tt
at_no_token p (value_then e) = tt
at_no_token p (value_end e) = tt
at_no_token p (property_then k) = tt
at_no_token p (role_then k) = tt
at_no_token p (first_role k) = tt
at_no_token p (second_role k e) = tt
at_no_token p (sub_then k) = tt
at_no_token p (sup_then k) = tt
at_no_token p (thing_then e) = tt
at_no_token p (filler_then r k) = tt
at_no_token p (roles_close zero before k) = tt
at_no_token p (roles_close (suc n) before k) = tt
at_no_token p (subs_close zero before k) = tt
at_no_token p (subs_close (suc n) before k) = tt
at_no_token p (sups_close zero before k) = tt
at_no_token p (sups_close (suc n) before k) = tt
at_no_token p (individual_then k) = tt
at_no_token p (unnamed_then e) = tt
at_no_token p (different_close zero before e) = tt
at_no_token p (different_close (suc n) before e) = tt
at_no_token p (class_then k) = tt
at_no_token p (declared_class k) = tt
at_no_token p (entity_then k) = tt

ends_there : (met : Met) (t : Placed) (m : Move) → IsLast m → outcome_of met t (λ next later. outcome next later []) m ≡ unfinished → ⊥
ends_there met t (goes (done d)) is h = by (is_too_deep t.symbol met.depth) h
  where
    by : (b : Bool) → cond b (fails too_deep t.at) (last_outcome (done d) (deeper met t)) ≡ unfinished → ⊥
    by true g = cc
    by false g = cc
ends_there met t (goes e) is h = absurd is
ends_there met t (refuses cause) is h = cc
ends_there met t m is h = absurd is

pub comes_to_an_end : (bytes : List ℕ) (place : ℕ) (tokens : List Placed) → AreTokens bytes true place tokens
    → (e : Expected) (met : Met) → outcome e met tokens ≡ unfinished → ⊥
comes_to_an_end bytes place tokens (nothing some) e met h = true≢false some
comes_to_an_end bytes place tokens (fault at none) e met h =
    ends_there met (record { symbol = no_token; at = at }) (move_of met.prefixes e no_token) (at_no_token met.prefixes e) h
comes_to_an_end bytes place tokens (last t next end) e met h =
    let is : symbol_of t.kind (slice_range bytes t.start t.end) ≡ ending = ap (λ kind. symbol_of kind (slice_range bytes t.start t.end)) end in
    ends_there met (placed bytes t) (move_of met.prefixes e (placed bytes t).symbol)
    (subst (λ s. IsLast (move_of met.prefixes e s)) (sym is) (at_ending met.prefixes e)) h
comes_to_an_end bytes place tokens (token {more = more} t next not them) e met h =
    by (turn met (placed bytes t) (move_of met.prefixes e (placed bytes t).symbol)) (comes_to_an_end bytes t.end more them)
  where
    by : Turn met (placed bytes t) (move_of met.prefixes e (placed bytes t).symbol)
        → ((e : Expected) (met : Met) → outcome e met more ≡ unfinished → ⊥) → ⊥
    by (onward next later is) hyp = hyp next later (sym (is (λ e met. outcome e met more)) ∙ h)
    by (stops o end is) hyp = subst (IsEndAt (placed bytes t)) (sym (is (λ e met. outcome e met more)) ∙ h) end
