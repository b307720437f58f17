-- Laws of chains, over any relation.
use Rattle.dl_reach.specs.Chain.{Chain, empty, step}

-- the empty chain
pub Chain-refl : {A : Type 0} (Step : A → A → Type 0) (a : A) → Chain Step a a
Chain-refl Step a = empty

-- a step in front of a chain
pub Chain-cons : {A : Type 0} (Step : A → A → Type 0) (a b c : A) → Step a b → Chain Step b c → Chain Step a c
Chain-cons Step a b c s h = step s h

-- a step is a chain
pub Chain-step : {A : Type 0} (Step : A → A → Type 0) (a b : A) → Step a b → Chain Step a b
Chain-step Step a b s = Chain-cons Step a b b s (Chain-refl Step b)

-- chains are the least relation that has the empty chain and takes steps in front: an induction on chains
pub Chain-least : {A : Type 0} (Step R : A → A → Type 0) → ((a : A) → R a a) → ((a b c : A) → Step a b → R b c → R a c) → (a b : A) → Chain Step a b → R a b
Chain-least Step R nothing more a b empty = nothing a
Chain-least Step R nothing more a c (step {b = b} s h) = more a b c s (Chain-least Step R nothing more b c h)

-- chains join
pub Chain-trans : {A : Type 0} (Step : A → A → Type 0) (a b c : A) → Chain Step a b → Chain Step b c → Chain Step a c
Chain-trans {A} Step a b c h k =
    Chain-least Step (λ x y. (z : A) → Chain Step y z → Chain Step x z) (λ x z r. r) (λ x y z s r w t. Chain-cons Step x y w s (r w t)) a b h c k

-- a step at the end of a chain
pub Chain-snoc : {A : Type 0} (Step : A → A → Type 0) (a b c : A) → Chain Step a b → Step b c → Chain Step a c
Chain-snoc Step a b c h s = Chain-trans Step a b c h (Chain-step Step b c s)

-- a fact that each step keeps is kept by a chain
pub Chain-keeps : {A : Type 0} (Step : A → A → Type 0) (P : A → Type 0) → ((a b : A) → Step a b → P a → P b) → (a b : A) → Chain Step a b → P a → P b
Chain-keeps Step P keeps a b h = Chain-least Step (λ x y. P x → P y) (λ x p. p) (λ x y z s r p. r (keeps x y s p)) a b h

-- a map that takes each step to a chain takes chains to chains
pub Chain-map : {A B : Type 0} (Step : A → A → Type 0) (Step' : B → B → Type 0) (f : A → B) → ((a b : A) → Step a b → Chain Step' (f a) (f b)) → (a b : A) → Chain Step a b → Chain Step' (f a) (f b)
Chain-map Step Step' f each a b h =
    Chain-least Step (λ x y. Chain Step' (f x) (f y)) (λ x. Chain-refl Step' (f x)) (λ x y z s r. Chain-trans Step' (f x) (f y) (f z) (each x y s) r) a b h

-- the same where each step becomes one step
pub Chain-map_step : {A B : Type 0} (Step : A → A → Type 0) (Step' : B → B → Type 0) (f : A → B) → ((a b : A) → Step a b → Step' (f a) (f b)) → (a b : A) → Chain Step a b → Chain Step' (f a) (f b)
Chain-map_step Step Step' f each a b h = Chain-map Step Step' f (λ x y s. Chain-step Step' (f x) (f y) (each x y s)) a b h

-- a relation whose steps are chains of another has no more chains
pub Chain-mono : {A : Type 0} (Step Step' : A → A → Type 0) → ((a b : A) → Step a b → Chain Step' a b) → (a b : A) → Chain Step a b → Chain Step' a b
Chain-mono {A} Step Step' each a b h = Chain-map {A = A} {B = A} Step Step' (λ x. x) each a b h
