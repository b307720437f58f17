-- The worked examples of replies.
use Rattle.std.proofs.Common.{ℕ, [], ◌∷◌, Some, None, arith}
use Rattle.std.proofs.lemmas.List.Elements.{All-nil}
use Rattle.dl_terms.specs.Broken.{IsMet}
use Rattle.dl_terms.specs.Reply.{IsReply, found, too_many, inconsistent}
use Rattle.dl_terms.specs.Reply.IsReply.{is_inconsistent, is_too_many, is_found}
use Rattle.dl_examples.specs.Examples.{name_a, name_c, a_is_an_a, a_and_c_are_as, a_has_a_p, a_auxiliary_in_c_and_d, c_and_d_are_disjoint, share_a_p}
use Rattle.dl_terms.specs.declared.query.Query.{Query}
use Rattle.dl_examples.proofs.AnswerExampleLemmas.{not_shared}
use Rattle.dl_examples.proofs.BrokenExampleLemmas.{broken_at_an_unnamed}

pub as_many_as_the_limit : IsReply (a_has_a_p ∷ []) a_and_c_are_as None share_a_p 2 (found ((name_a ∷ name_a ∷ []) ∷ (name_c ∷ name_c ∷ []) ∷ []))
as_many_as_the_limit = is_found (All-nil (λ n. ¬ IsMet (a_has_a_p ∷ []) a_and_c_are_as n.1)) not_shared (omega arith)

pub one_over_the_limit : IsReply (a_has_a_p ∷ []) a_and_c_are_as None share_a_p 1 too_many
one_over_the_limit = is_too_many (All-nil (λ n. ¬ IsMet (a_has_a_p ∷ []) a_and_c_are_as n.1)) not_shared (omega arith)

pub broken_reply : (q : Query) (limit : ℕ) → IsReply a_auxiliary_in_c_and_d (a_is_an_a ∷ []) None q limit (inconsistent (Some c_and_d_are_disjoint))
broken_reply q limit = is_inconsistent broken_at_an_unnamed
