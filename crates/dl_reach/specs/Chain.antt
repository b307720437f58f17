-- Chains of steps: the reflexive and transitive closure of a relation (Baader, Nipkow: Term Rewriting and All That,
-- 1998).

-- steps lead from one to the other; the empty chain counts
pub data Chain {A : Type 0} (Step : A → A → Type 0) : A → A → Type 0 where
  empty : {a : A} → Chain Step a a
  step : {a b c : A} → Step a b → Chain Step b c → Chain Step a c
