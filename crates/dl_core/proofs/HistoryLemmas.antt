-- A history that grows by one entry.
use Rattle.std.proofs.Common.{◌≡◌, ℕ, ◌+◌, ◌-◌, ◌≤◌, cond, ◌==◌, List, [], ◌∷◌, ◌++◌, length, take, Some, None, refl, sym, ap, ◌∙◌, arith, append-nil, length-append, take_all}
use Rattle.std.specs.List.{cons_option}
use Rattle.std.proofs.lemmas.List.{take-append-le}
use Rattle.std.proofs.lemmas.List.Elements.{filter_map-append}
use Rattle.std.proofs.lemmas.List.Sums.{fold-append}
use Rattle.dl_core.specs.History.{Entry, accepted, commits, version_of, after_commits, commits_to, pinned_by, pin_of}
use Rattle.dl_event.specs.declared.event.Edit.{Edit}

pub commits-push : (history : List Entry) (e : Entry) → commits (history ++ e ∷ []) ≡ commits history ++ cons_option (accepted e.event e.reply) []
commits-push history e = filter_map-append (λ e. accepted e.event e.reply) history (e ∷ [])

pub commits-silent : (history : List Entry) (e : Entry) → accepted e.event e.reply ≡ None → commits (history ++ e ∷ []) ≡ commits history
commits-silent history e h = commits-push history e ∙ ap (λ o. commits history ++ cons_option o []) h ∙ append-nil (commits history)

pub commits-commit : (history : List Entry) (e : Entry) (edits : List Edit) → accepted e.event e.reply ≡ Some edits
    → commits (history ++ e ∷ []) ≡ commits history ++ edits ∷ []
commits-commit history e edits h = commits-push history e ∙ ap (λ o. commits history ++ cons_option o []) h

pub version-commit : (history : List Entry) (e : Entry) (edits : List Edit) → accepted e.event e.reply ≡ Some edits
    → version_of (history ++ e ∷ []) ≡ version_of history + 1
version-commit history e edits h =
    let a = ap length (commits-commit history e edits h) in
    let b = length-append (commits history) (edits ∷ []) in
    omega (arith, a, b)

-- earlier versions have the commits that they had
pub commits_to-earlier : (history : List Entry) (e : Entry) (edits : List Edit) (v : ℕ) → accepted e.event e.reply ≡ Some edits
    → v ≤ version_of history → commits_to (history ++ e ∷ []) v ≡ commits_to history v
commits_to-earlier history e edits v h below =
    ap (take (v - 1)) (commits-commit history e edits h) ∙ take-append-le (v - 1) (commits history) (edits ∷ []) (omega (arith, below))

pub commits_to-now : (history : List Entry) → commits_to history (version_of history) ≡ commits history
commits_to-now history = take_all (version_of history - 1) (commits history) (omega arith)

pub commits_to-new : (history : List Entry) (e : Entry) (edits : List Edit) → accepted e.event e.reply ≡ Some edits
    → commits_to (history ++ e ∷ []) (version_of history + 1) ≡ commits history ++ edits ∷ []
commits_to-new history e edits h =
    ap (λ v. commits_to (history ++ e ∷ []) v) (sym (version-commit history e edits h)) ∙ commits_to-now (history ++ e ∷ [])
    ∙ commits-commit history e edits h

pub after_commits-push : {A : Type 0} (by : List Edit → A → A) (cs : List (List Edit)) (edits : List Edit) (x : A)
    → after_commits by (cs ++ edits ∷ []) x ≡ by edits (after_commits by cs x)
after_commits-push by [] edits x = refl
after_commits-push by (c ∷ cs) edits x = after_commits-push by cs edits (by c x)

-- at the new version, the edits of the commit after what was there
pub new_version : {A : Type 0} (by : List Edit → A → A) (history : List Entry) (e : Entry) (edits : List Edit) (x : A) → accepted e.event e.reply ≡ Some edits
    → after_commits by (commits_to (history ++ e ∷ []) (version_of history + 1)) x ≡ by edits (after_commits by (commits_to history (version_of history)) x)
new_version by history e edits x h =
    ap (λ cs. after_commits by cs x) (commits_to-new history e edits h) ∙ after_commits-push by (commits history) edits x
    ∙ ap (λ cs. by edits (after_commits by cs x)) (sym (commits_to-now history))

pub pin-push : (history : List Entry) (e : Entry) (stream : ℕ)
    → pin_of (history ++ e ∷ []) stream ≡ cond (e.stream == stream) (pinned_by e.reply (pin_of history stream)) (pin_of history stream)
pin-push history e stream = fold-append (λ pin d. cond (d.stream == stream) (pinned_by d.reply pin) pin) None history (e ∷ [])
