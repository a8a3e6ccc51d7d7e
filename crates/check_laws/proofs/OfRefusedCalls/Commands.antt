-- What the clauses of commands refuse.
use Rattle.std.proofs.Common.{◌≡◌, ◌∙◌, ℕ, List, [], ◌∷◌, ◌++◌, sym, ap}
use Rattle.std.proofs.lemmas.List.{append_cancel_right}
use Rattle.model_core.specs.declared.command.Command.{Command}
use Rattle.model_core.specs.declared.entry.Entry.{Entry}
use Rattle.model_core.specs.declared.reply.Applied.{Applied}
use Rattle.model_core.specs.declared.reply.Applied.TheVariants.{Replied}
use Rattle.model_core.specs.declared.reply.Reply.{Reply}
use Rattle.model_core.specs.declared.state.Sizes.{Sizes}
use Rattle.model_core.specs.Entries.{reply}
use Rattle.model_core.specs.Domains.{opening}
use Rattle.model_core.specs.Fronts.{Answers}
use Rattle.model_core.specs.History.{state_after}
use Rattle.heap_rule.specs.Limits.{sizes_in}
use Rattle.heap_rule.specs.Running.{Did, own_entry}
use Rattle.heap_rule.specs.Token.{Token, SharedHeap}

-- an entry has one answer: what the definition says where it stands
pub an_entry_has_one_answer : (z : Sizes) (d : ℕ) (old new : List Entry) (e : Entry) (a b : Applied) → Answers z d old new e a → Answers z d old new e b → a ≡ b
an_entry_has_one_answer z d old new e a b p q =
    let before : old ++ p.between ≡ old ++ q.between = append_cancel_right (old ++ p.between) (old ++ q.between) (e ∷ []) (sym p.appends ∙ q.appends) in
    sym p.replies ∙ (ap (λ (h : List Entry). reply (state_after (opening z) h) e) before ∙ q.replies)

-- so a command that was made has one reply: no other is let through, an opening integer, another field's, or an `ok` for what was refused
pub a_command_has_one_reply : (h : SharedHeap) (old new : Token) (c : Command) (r q : Reply) → Did h old new c r → Did h old new c q → r ≡ q
a_command_has_one_reply h old new c r q did other =
    let e : Replied r ≡ Replied q = an_entry_has_one_answer (sizes_in old.config) old.view.own.number old.view.seen.front new.view.seen.front (own_entry old c) (Replied r) (Replied q) did.answers other.answers in cc
