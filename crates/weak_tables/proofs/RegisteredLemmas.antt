-- A history that registers no finaliser, and goes on by a command that doesn't.
use Rattle.std.proofs.Common.{◌≡◌, ◌∙◌, Bool, true, false, IsTrue, List, [], ◌∷◌, ◌++◌, refl, ap, sym, append_assoc}
use Rattle.model_core.specs.declared.command.Command as declared_command
use Rattle.model_core.specs.declared.entry.Entry.{Entry}
use Rattle.model_core.specs.declared.entry.Entry.TheVariants.{Command}
use Rattle.model_core.specs.declared.reply.Reply.{Reply}
use Rattle.model_core.specs.declared.state.Pending.{Pending}
use Rattle.model_core.specs.declared.state.Sizes.{Sizes}
use Rattle.model_core.specs.declared.state.State.{State}
use Rattle.model_core.specs.Domains.{opening}
use Rattle.model_core.specs.Entries.{next}
use Rattle.model_core.specs.History.{state_after}
use Rattle.model_core.specs.Registrations.{all_registered, registered, registered_by}
use Rattle.model_core.proofs.Reach.ReachLemmas.{and_left, and_right}
use Rattle.weak_laws.specs.Tables.Thinning.{AllCollector, is_collector}
use Rattle.weak_laws.specs.Tables.Performing.{Performed}
use Rattle.weak_laws.proofs.OfTables.CollectorLemmas.{collector_cases}

registered-append : (s : State) (h k : List Entry) → all_registered 0 s (h ++ k) ≡ all_registered 0 s h ++ all_registered 0 (state_after s h) k
registered-append s [] k = refl
registered-append s (e ∷ h) k = ap (λ (rs : List Pending). registered 0 s e ++ rs) (registered-append (next s e) h k) ∙ sym (append_assoc (registered 0 s e) (all_registered 0 (next s e) h) (all_registered 0 (state_after (next s e) h) k))

-- the collector registers none
collector_none : (s : State) (h : List Entry) → AllCollector h → all_registered 0 s h ≡ []
collector_none s [] mine = refl
collector_none s (e ∷ h) mine =
    let here : registered 0 s e ≡ [] = collector_cases (λ (e : Entry). registered 0 s e ≡ []) refl (λ d places. refl) refl (λ l keys. refl) (λ d place. refl) refl refl e (and_left (is_collector e) _ mine) in
    λ i. here i ++ collector_none (next s e) h (and_right (is_collector e) _ mine) i

-- so there are none after a stretch of it
pub none_between : (z : Sizes) (old between : List Entry) → AllCollector between → all_registered 0 (opening z) old ≡ [] → all_registered 0 (opening z) (old ++ between) ≡ []
none_between z old between mine none = registered-append (opening z) old between ∙ (λ i. none i ++ collector_none (state_after (opening z) old) between mine i)

-- nor after a command that registers none
pub none_performed : (z : Sizes) (old new : List Entry) (c : declared_command.Command) (r : Reply) → ((s : State) → registered_by s 0 c ≡ []) → Performed z old new c r → all_registered 0 (opening z) old ≡ [] → all_registered 0 (opening z) new ≡ []
none_performed z old new c r quiet p none =
    let s : State = state_after (opening z) (old ++ p.between) in
    ap (all_registered 0 (opening z)) p.appends ∙ (registered-append (opening z) (old ++ p.between) (Command 0 c p.full ∷ [])
    ∙ (λ i. none_between z old p.between p.collector none i ++ (last s p.full i ++ [])))
  where
    last : (s : State) (full : Bool) → registered 0 s (Command 0 c full) ≡ []
    last s true = refl
    last s false = quiet s
