-- What a domain's commands and replies are once its front has grown.
use Rattle.std.proofs.Common.{◌≡◌, ◌∙◌, ℕ, true, List, [], ◌∷◌, ◌++◌, append-nil, ap, refl, eq-eqb}
use Rattle.std.specs.Prelude.{cond}
use Rattle.model_core.specs.declared.entry.Entry.{Entry}
use Rattle.model_core.specs.declared.entry.Entry.TheVariants.{End, Ran}
use Rattle.model_core.specs.declared.reply.Reply.{Reply}
use Rattle.model_core.specs.declared.reply.Applied.{Applied}
use Rattle.model_core.specs.declared.reply.Applied.TheVariants.{Replied, Silent}
use Rattle.model_core.specs.declared.state.Sizes.{Sizes}
use Rattle.model_core.specs.Domains.{opening}
use Rattle.model_core.specs.Entries.{reply as reply_to}
use Rattle.model_core.specs.Fronts.{IsFrontOf, NoneOf}
use Rattle.model_core.specs.History.{commands, command_of, is_entry_of, replies, reply_list, state_after}
use Rattle.model_core.proofs.Histories.HistoryLemmas.{commands-append, commands-others, commands-push, replies_from-append, replies_from-others, replies-push}
use Rattle.run_turns.specs.Runs.{Appended}

-- entries of others add none
pub others_commands : (d : ℕ) (old between : List Entry) → NoneOf d between → commands (old ++ between) d ≡ commands old d
others_commands d old between none = commands-append old between d ∙ ap (λ t. commands old d ++ t) (commands-others between d none) ∙ append-nil (commands old d)

pub others_replies : (z : Sizes) (d : ℕ) (old between : List Entry) → NoneOf d between → replies z (old ++ between) d ≡ replies z old d
others_replies z d old between none = replies_from-append (opening z) old between d ∙ ap (λ t. replies z old d ++ t) (replies_from-others (state_after (opening z) old) between d none) ∙ append-nil (replies z old d)

-- an entry of the domain adds its own
pub entry_commands : (z : Sizes) (d : ℕ) (old new : List Entry) (e : Entry) (a : Applied) → Appended z d old new e a → commands new d ≡ commands old d ++ command_of d e
entry_commands z d old new e a x = ap (λ h. commands h d) x.appends ∙ commands-push (old ++ x.between) e d ∙ ap (λ t. t ++ command_of d e) (others_commands d old x.between x.others)

pub entry_replies : (z : Sizes) (d : ℕ) (old new : List Entry) (e : Entry) (a : Applied) → is_entry_of d e ≡ true → Appended z d old new e a → replies z new d ≡ replies z old d ++ reply_list a
entry_replies z d old new e a own x =
    let last : cond (is_entry_of d e) (reply_list (reply_to (state_after (opening z) (old ++ x.between)) e)) [] ≡ reply_list a = rw own (ap reply_list x.replies) in
    ap (λ h. replies z h d) x.appends ∙ replies-push z (old ++ x.between) e d ∙ ap (λ t. replies z (old ++ x.between) d ++ t) last ∙ ap (λ t. t ++ reply_list a) (others_replies z d old x.between x.others)

pub end_commands : (z : Sizes) (d : ℕ) (old new : List Entry) → Appended z d old new (End d) Silent → commands new d ≡ commands old d
end_commands z d old new x = entry_commands z d old new (End d) Silent x ∙ append-nil (commands old d)

pub end_replies : (z : Sizes) (d : ℕ) (old new : List Entry) → Appended z d old new (End d) Silent → replies z new d ≡ replies z old d
end_replies z d old new x = entry_replies z d old new (End d) Silent (eq-eqb d d refl) x ∙ append-nil (replies z old d)

-- a front that begins the history has all of the domain's
pub front_commands : (d : ℕ) (history front : List Entry) → IsFrontOf d history front → commands history d ≡ commands front d
front_commands d history front f = ap (λ h. commands h d) f.appends ∙ others_commands d front f.rest f.others

pub front_replies : (z : Sizes) (d : ℕ) (history front : List Entry) → IsFrontOf d history front → replies z history d ≡ replies z front d
front_replies z d history front f = ap (λ h. replies z h d) f.appends ∙ others_replies z d front f.rest f.others

-- a run of a finaliser adds no command, and its own reply
pub ran_commands : (z : Sizes) (d : ℕ) (old new : List Entry) (a : Applied) → Appended z d old new (Ran d) a → commands new d ≡ commands old d
ran_commands z d old new a x = entry_commands z d old new (Ran d) a x ∙ append-nil (commands old d)

pub ran_replies : (z : Sizes) (d : ℕ) (old new : List Entry) (r : Reply) → Appended z d old new (Ran d) (Replied r) → replies z new d ≡ replies z old d ++ r ∷ []
ran_replies z d old new r x = entry_replies z d old new (Ran d) (Replied r) (eq-eqb d d refl) x
