-- A front that grew by runs of finalisers, and then by more of them.
use Rattle.std.specs.Prelude.{◌||◌, ◌&&◌}
use Rattle.std.proofs.lemmas.List.Folds.{list_all-append}
use Rattle.std.proofs.Common.{◌≡◌, ◌∙◌, ℕ, not, List, ◌++◌, sym, ap, append_assoc}
use Rattle.model_core.specs.declared.entry.Entry.{Entry}
use Rattle.model_core.specs.declared.reply.Reply.{Reply}
use Rattle.model_core.specs.declared.state.Sizes.{Sizes}
use Rattle.model_core.specs.declared.state.State.{State}
use Rattle.model_core.specs.Domains.{opening}
use Rattle.model_core.specs.History.{is_entry_of, replies_from, state_after}
use Rattle.model_core.proofs.Histories.HistoryLemmas.{replies_from-append, state_after-append}
use Rattle.run_turns.specs.Handed.{Finalised, OnlyRuns}
use Rattle.run_turns.specs.Kept.{is_run_of}

both_runs : (d : ℕ) (g h : List Entry) → OnlyRuns d g → OnlyRuns d h → OnlyRuns d (g ++ h)
both_runs d g h a b = list_all-append (λ e. not (is_entry_of d e) || is_run_of d e) g h ∙ (λ i. a i && b i)

-- the replies of both, in order
pub finalised_on : (z : Sizes) (d : ℕ) (a b c : List Entry) (ran more : List Reply) → Finalised z d a b ran → Finalised z d b c more → Finalised z d a c (ran ++ more)
finalised_on z d a b c ran more f g =
    let s : State = state_after (opening z) a in
    let there : state_after s f.rest ≡ state_after (opening z) b = sym (state_after-append (opening z) a f.rest) ∙ ap (state_after (opening z)) (sym f.appends) in
    record {
      rest = f.rest ++ g.rest;
      appends = g.appends ∙ (ap (λ (h : List Entry). h ++ g.rest) f.appends ∙ append_assoc a f.rest g.rest);
      runs = both_runs d f.rest g.rest f.runs g.runs;
      ran_are = replies_from-append s f.rest g.rest d ∙ (λ i. f.ran_are i ++ (ap (λ (u : State). replies_from u g.rest d) there ∙ g.ran_are) i);
    }
