-- What a call of a running domain leaves: its own entry comes last in its front.
use Rattle.std.proofs.Common.{◌≡◌, ◌∙◌, ℕ, Bool, true, false, List, [], ◌++◌, refl, ap, append-nil}
use Rattle.std.specs.Prelude.{cond}
use Rattle.model_core.specs.declared.command.Command.{Command}
use Rattle.model_core.specs.declared.entry.Entry.{Entry}
use Rattle.model_core.specs.declared.entry.Entry.TheVariants.{Command as CommandOf}
use Rattle.model_core.specs.declared.reply.Applied.{Applied}
use Rattle.model_core.specs.declared.state.Sizes.{Sizes}
use Rattle.model_core.specs.declared.state.State.{State}
use Rattle.model_core.specs.Domains.{domain_at, opening}
use Rattle.model_core.specs.Entries.{next, reply}
use Rattle.model_core.specs.History.{state_after, commands, command_of, replies, reply_list, is_entry_of}
use Rattle.model_core.specs.Fronts.{Answers, IsFrontOf}
use Rattle.model_core.proofs.Commands.FrameLemmas.{frame_command}
use Rattle.model_core.proofs.Histories.FrontLemmas.{keeps_front}
use Rattle.model_core.proofs.Histories.HistoryLemmas.{state_after-push, commands-append, commands-push, commands-others, replies_from-append, replies_from-others, replies-push}

-- the front as it was, before the entries of others that the call brought
pub before_entry : (z : Sizes) (d : ℕ) (old new : List Entry) (e : Entry) (a : Applied) (x : Answers z d old new e a) → IsFrontOf d (old ++ x.between) old
before_entry z d old new e a x = record { rest = x.between; appends = refl; others = x.others }

-- a domain that makes the entry of a command goes on
pub acts_after : (z : Sizes) (d : ℕ) (old new : List Entry) (c : Command) (full : Bool) (a : Applied) → Answers z d old new (CommandOf d c full) a → (domain_at (state_after (opening z) old) d).ended ≡ false
    → (domain_at (state_after (opening z) new) d).ended ≡ false
acts_after z d old new c full a x running =
    let s = state_after (opening z) (old ++ x.between) in
    let here : state_after (opening z) new ≡ next s (CommandOf d c full) = ap (state_after (opening z)) x.appends ∙ state_after-push (opening z) (old ++ x.between) _ in
    ap (λ (t : State). (domain_at t d).ended) here ∙ (frame_command s d c full).ended ∙ (keeps_front (opening z) d (old ++ x.between) old (before_entry z d old new _ a x)).ended ∙ running

-- the domain's commands have this one more
pub commands_after : (z : Sizes) (d : ℕ) (old new : List Entry) (e : Entry) (a : Applied) → Answers z d old new e a → commands new d ≡ commands old d ++ command_of d e
commands_after z d old new e a x =
    let others : commands (old ++ x.between) d ≡ commands old d = commands-append old x.between d ∙ ap (λ t. commands old d ++ t) (commands-others x.between d x.others) ∙ append-nil (commands old d) in
    ap (λ h. commands h d) x.appends ∙ commands-push (old ++ x.between) e d ∙ ap (λ t. t ++ command_of d e) others

-- the domain's replies have this one more
pub replies_after : (z : Sizes) (d : ℕ) (old new : List Entry) (e : Entry) (a : Applied) → is_entry_of d e ≡ true → Answers z d old new e a → replies z new d ≡ replies z old d ++ reply_list a
replies_after z d old new e a own x =
    let others : replies z (old ++ x.between) d ≡ replies z old d =
    replies_from-append (opening z) old x.between d ∙ ap (λ t. replies z old d ++ t) (replies_from-others (state_after (opening z) old) x.between d x.others) ∙ append-nil (replies z old d) in
    let last : cond (is_entry_of d e) (reply_list (reply (state_after (opening z) (old ++ x.between)) e)) [] ≡ reply_list a = rw own (ap reply_list x.replies) in
    ap (λ h. replies z h d) x.appends ∙ replies-push z (old ++ x.between) e d ∙ ap (λ t. replies z (old ++ x.between) d ++ t) last ∙ ap (λ t. t ++ reply_list a) others
