-- What every entry of a run with the hidden block keeps: the block is there with its fields, each running domain has it in the register that is kept for it, and nothing else names it.
use Rattle.std.proofs.Common.{◌≡◌, ◌≢◌, ℕ, zero, suc, ◌<◌, Bool, true, false, not, eqb, eqb-true, nat_lt, IsTrue, List, [], ◌∷◌, reverse, length, get_or, set, replicate, Option, Some, None, refl, ap, sym, ◌∙◌, subst, get_or-set_same, get_or-set_other, length-set}
use Rattle.std.specs.List.{list_all}
use Rattle.model_core.specs.declared.label.Label.{Label}
use Rattle.model_core.specs.declared.command.Command.{Command}
use Rattle.model_core.specs.declared.entry.Entry.{Entry}
use Rattle.model_core.specs.declared.entry.Entry.TheVariants.{Command as CommandOf, End, Cut, Queue, Seal, Wipe, Last as LastOf, Collected, Done, Ran}
use Rattle.model_core.specs.declared.graph.Value.{Value}
use Rattle.model_core.specs.declared.graph.Value.TheVariants.{Block, Nothing}
use Rattle.model_core.specs.declared.graph.Node.{Node}
use Rattle.model_core.specs.declared.graph.Node.TheVariants.{Plain, Raw, Ephe}
use Rattle.model_core.specs.declared.state.Pending.{Pending}
use Rattle.model_core.specs.declared.state.Pending.TheVariants.{Fin, Last}
use Rattle.model_core.specs.declared.state.DomainState.{DomainState}
use Rattle.model_core.specs.declared.state.State.{State}
use Rattle.model_core.specs.Graph.{same_label, node_at}
use Rattle.model_core.specs.Domains.{domain_at, with_domain, register, no_domain}
use Rattle.model_core.specs.Commands.{outcome, after_command}
use Rattle.model_core.specs.Entries.{wiped, wiped_keys, with_wiped, with_queued, with_last_queued, with_finals_open, with_lasts_open, freshened, at_places, queued_final, queued_last, without_first, after_run, ended, next}
use Rattle.model_core.specs.History.{is_entry_of}
use Rattle.model_core.proofs.Graphs.GraphLemmas.{and_parts}
use Rattle.model_core.proofs.Reach.ReachLemmas.{and_both}
use Rattle.model_core.proofs.Commands.FrameLemmas.{part_set, keeps_next, frame_command, inside_running}
use Rattle.model_traces.specs.Spawns.Hidden.{hidden, scratch}
use Rattle.model_traces.proofs.OfSpawns.Hiding.{is_other, is_other_key, final_hides, pending_hides, DomainHides, Hides, each_map, all_without, all_found, all_append, all_map, all_wiped, next_label, hides_with_domain, hides_with_register, hides_with_block, is_discreet, hides_outcome, hidden_stays}

-- a command of the entry may stand in such a run
abbrev pub FitsRun : Entry → Type 0
FitsRun (CommandOf d c full) = IsTrue (is_discreet c)
FitsRun _ = Unit {0}

nothing_at : (n r : ℕ) → get_or (replicate n Nothing) r Nothing ≡ Nothing
nothing_at zero r = refl
nothing_at (suc n) zero = refl
nothing_at (suc n) (suc r) = nothing_at n r

all_true : {A : Type 0} (xs : List A) → IsTrue (list_all (λ x. true) xs)
all_true [] = refl
all_true (x ∷ xs) = all_true xs

module _ (h : Label) (s : State) (hides : Hides h s) where
  hides_after_command : (d : ℕ) → Hides h (after_command s d)
  hides_after_command d = hides_with_domain h s hides d _ (record { registers = (hides.domains d).registers; finals = (hides.domains d).finals; queue = (hides.domains d).queue })

  hides_ended : (d : ℕ) → Hides h (with_domain s d (ended (domain_at s d)))
  hides_ended d = hides_with_domain h s hides d _ (record {
    registers = λ r other. subst (λ (v : Value). IsTrue (is_other h v)) (sym (nothing_at (length (domain_at s d).registers) r)) refl;
    finals = refl;
    queue = (hides.domains d).queue;
  })

  hides_queued : (d : ℕ) (places : List ℕ) → Hides h (with_domain s d (with_queued (domain_at s d) places))
  hides_queued d places = hides_with_domain h s hides d _ (record {
    registers = (hides.domains d).registers;
    finals = all_without (final_hides h) places (domain_at s d).finals (hides.domains d).finals;
    queue = all_append (pending_hides h) (domain_at s d).queue _ (hides.domains d).queue
        (all_map (pending_hides h) queued_final (final_hides h) (λ f is. is) (at_places (reverse places) (domain_at s d).finals)
        (all_found (final_hides h) (domain_at s d).finals (hides.domains d).finals (reverse places)));
  })

  hides_last_queued : (d place : ℕ) → Hides h (with_domain s d (with_last_queued (domain_at s d) place))
  hides_last_queued d place = hides_with_domain h s hides d _ (record {
    registers = (hides.domains d).registers;
    finals = (hides.domains d).finals;
    queue = all_append (pending_hides h) (domain_at s d).queue _ (hides.domains d).queue
        (all_map (pending_hides h) queued_last (λ f. true) (λ f is. refl) (at_places (place ∷ []) (domain_at s d).lasts)
        (all_found (λ f. true) (domain_at s d).lasts (all_true (domain_at s d).lasts) (place ∷ [])));
  })

  hides_wiped : (l : Label) (places : List ℕ) (o : Option Node) → node_at s.graph l ≡ o → Hides h (with_wiped s l (wiped places o))
  hides_wiped l places None at = hides
  hides_wiped l places (Some (Plain tag fields)) at = hides_with_block h s hides l _ (hides.nodes l _ at)
  hides_wiped l places (Some (Raw tag fields)) at = hides_with_block h s hides l _ (hides.nodes l _ at)
  hides_wiped l places (Some (Ephe keys datum)) at =
      let both = and_parts (list_all (is_other_key h) keys) (is_other h datum) (hides.nodes l _ at) in
      hides_with_block h s hides l _ (and_both (list_all (is_other_key h) (wiped_keys places keys)) true (all_wiped h places keys both.0) refl)

  hides_without_first : (d : ℕ) (p : Pending) (rest : List Pending) → (domain_at s d).queue ≡ p ∷ rest → Hides h (with_domain s d (without_first (domain_at s d) rest))
  hides_without_first d p rest e = hides_with_domain h s hides d _ (record {
    registers = (hides.domains d).registers;
    finals = (hides.domains d).finals;
    queue = (and_parts (pending_hides h p) (list_all (pending_hides h) rest) (subst (λ q. IsTrue (list_all (pending_hides h) q)) e (hides.domains d).queue)).1;
  })

  first_hides : (d : ℕ) (p : Pending) (rest : List Pending) → (domain_at s d).queue ≡ p ∷ rest → IsTrue (pending_hides h p)
  first_hides d p rest e = (and_parts (pending_hides h p) (list_all (pending_hides h) rest) (subst (λ q. IsTrue (list_all (pending_hides h) q)) e (hides.domains d).queue)).0

  hides_run : (d : ℕ) (queue : List Pending) → (domain_at s d).queue ≡ queue → Hides h (after_run s d queue)
  hides_run d [] e = hides
  hides_run d (Fin number l r ∷ rest) e =
      hides_with_register h _ (hides_without_first d (Fin number l r) rest e) d r (Block l) (and_parts (nat_lt r scratch) (not (same_label l h)) (first_hides d (Fin number l r) rest e)).1
  hides_run d (Last number ∷ rest) e = hides_without_first d (Last number) rest e

-- every entry keeps the block hidden
pub hides_next : (h : Label) (s : State) (e : Entry) → Hides h s → ((d : ℕ) → IsTrue (not (same_label (next_label s d) h))) → FitsRun e → Hides h (next s e)
hides_next h s (CommandOf d c true) hides new fits = hides_after_command h s hides d
hides_next h s (CommandOf d c false) hides new fits = hides_after_command h (outcome s d c).state (hides_outcome h s hides d (new d) c fits) d
hides_next h s (End d) hides new fits = hides_ended h s hides d
hides_next h s Cut hides new fits = record { domains = each_map (DomainHides h) with_finals_open (λ x was. record { registers = was.registers; finals = was.finals; queue = was.queue }) s.domains hides.domains; nodes = hides.nodes }
hides_next h s (Queue d places) hides new fits = hides_queued h s hides d places
hides_next h s Seal hides new fits = record { domains = each_map (DomainHides h) with_lasts_open (λ x was. record { registers = was.registers; finals = was.finals; queue = was.queue }) s.domains hides.domains; nodes = hides.nodes }
hides_next h s (Wipe l keys) hides new fits = let w = hides_wiped h s hides l keys (node_at s.graph l) refl in record { domains = w.domains; nodes = w.nodes }
hides_next h s (LastOf d place) hides new fits = let q = hides_last_queued h s hides d place in record { domains = q.domains; nodes = q.nodes }
hides_next h s Collected hides new fits = record { domains = each_map (DomainHides h) freshened (λ x was. record { registers = was.registers; finals = was.finals; queue = was.queue }) s.domains hides.domains; nodes = hides.nodes }
hides_next h s Done hides new fits = record { domains = hides.domains; nodes = hides.nodes }
hides_next h s (Ran d) hides new fits = hides_run h s hides d (domain_at s d).queue refl

-- a register that no finaliser is given stays as it is where a finaliser runs
run_register : (h : Label) (s : State) → Hides h s → (d : ℕ) (queue : List Pending) → (domain_at s d).queue ≡ queue → (r : ℕ) → IsTrue (not (nat_lt r scratch)) → register (after_run s d queue) d r ≡ register s d r
run_register h s hides d [] e r kept = refl
run_register h s hides d (Fin number l k ∷ rest) e r kept =
    let ran : State = with_domain s d (without_first (domain_at s d) rest) in
    let below = (and_parts (nat_lt k scratch) (not (same_label l h)) (first_hides h s hides d (Fin number l k) rest e)).0 in
    let other : r ≢ k = λ same. absurd (let clash : IsTrue (not true) = subst (λ b. IsTrue (not b)) below (subst (λ j. IsTrue (not (nat_lt j scratch))) same kept) in let twice : false ≡ true = clash in cc) in
    part_set (λ y. get_or y.registers r Nothing) ran.domains d (record (domain_at ran d) { registers = set (domain_at ran d).registers k (Block l) }) (get_or-set_other (domain_at ran d).registers k r (Block l) Nothing other) d
    ∙ part_set (λ y. get_or y.registers r Nothing) s.domains d (without_first (domain_at s d) rest) refl d
run_register h s hides d (Last number ∷ rest) e r kept = part_set (λ y. get_or y.registers r Nothing) s.domains d (without_first (domain_at s d) rest) refl d

run_ended : (s : State) (d : ℕ) (queue : List Pending) → (domain_at (after_run s d queue) d).ended ≡ (domain_at s d).ended
run_ended s d [] = refl
run_ended s d (Fin number l k ∷ rest) =
    let ran : State = with_domain s d (without_first (domain_at s d) rest) in
    part_set (λ y. y.ended) ran.domains d (record (domain_at ran d) { registers = set (domain_at ran d).registers k (Block l) }) refl d ∙ part_set (λ y. y.ended) s.domains d (without_first (domain_at s d) rest) refl d
run_ended s d (Last number ∷ rest) = part_set (λ y. y.ended) s.domains d (without_first (domain_at s d) rest) refl d

-- a domain doesn't run on from its end
end_ends : (s : State) (d : ℕ) → (domain_at (with_domain s d (ended (domain_at s d))) d).ended ≡ false → ⊥
end_ends s d running =
    let inside : d < length s.domains = subst (λ n. d < n) (length-set s.domains d (ended (domain_at s d))) (inside_running (set s.domains d (ended (domain_at s d))) d running) in
    let stands : (domain_at (with_domain s d (ended (domain_at s d))) d).ended ≡ true = ap (λ (x : DomainState). x.ended) (get_or-set_same s.domains d (ended (domain_at s d)) no_domain inside) in
    let clash : true ≡ false = sym stands ∙ running in
    cc

-- what an entry leaves of a domain that runs on
pub record RunsOn (s t : State) (d r : ℕ) : Type 0 where
  pub was : (domain_at s d).ended ≡ false
  pub same : register t d r ≡ register s d r

-- an entry of another domain, or of the collector, and a finaliser, leave the two registers of the expansions
pub silent_next : (h : Label) (s : State) (e : Entry) (d r : ℕ) → Hides h s → ((c : Command) (full : Bool) → e ≢ CommandOf d c full) → IsTrue (not (nat_lt r scratch)) → (domain_at (next s e) d).ended ≡ false → RunsOn s (next s e) d r
silent_next h s e d r hides silent kept running = go (is_entry_of d e) refl
  where
    other : is_entry_of d e ≡ false → RunsOn s (next s e) d r
    other differs = let keeps = keeps_next s e d differs in record { was = sym keeps.ended ∙ running; same = ap (λ (rs : List Value). get_or rs r Nothing) keeps.registers }

    own : (x : Entry) → x ≡ e → is_entry_of d x ≡ true → RunsOn s (next s x) d r
    own (CommandOf k c full) is here = absurd (silent c full (sym is ∙ ap (λ (n : ℕ). CommandOf n c full) (eqb-true k d here)))
    own (End k) is here =
        absurd (end_ends s d (subst (λ (n : ℕ). (domain_at (next s (End n)) d).ended ≡ false) (eqb-true k d here) (subst (λ (x : Entry). (domain_at (next s x) d).ended ≡ false) (sym is) running)))
    own Cut is here = cc
    own (Queue k places) is here = cc
    own Seal is here = cc
    own (Wipe l keys) is here = cc
    own (LastOf k place) is here = cc
    own Collected is here = cc
    own Done is here = cc
    own (Ran k) is here = subst (λ (n : ℕ). RunsOn s (next s (Ran n)) d r) (sym (eqb-true k d here)) (record {
      was = sym (run_ended s d (domain_at s d).queue) ∙ subst (λ (n : ℕ). (domain_at (next s (Ran n)) d).ended ≡ false) (eqb-true k d here) (subst (λ (x : Entry). (domain_at (next s x) d).ended ≡ false) (sym is) running);
      same = run_register h s hides d (domain_at s d).queue refl r kept;
    })

    go : (b : Bool) → is_entry_of d e ≡ b → RunsOn s (next s e) d r
    go true same = own e refl same
    go false differs = other differs

-- the register that is kept for the block stays as it is at every entry of the run
command_register : (h : Label) (s : State) → Hides h s → (d : ℕ) (c : Command) (full : Bool) → IsTrue (is_discreet c) → register (next s (CommandOf d c full)) d hidden ≡ register s d hidden
command_register h s hides d c true fits = part_set (λ y. get_or y.registers hidden Nothing) s.domains d (record (domain_at s d) { fresh = false; due = length (domain_at s d).queue }) refl d
command_register h s hides d c false fits =
    let t : State = (outcome s d c).state in
    part_set (λ y. get_or y.registers hidden Nothing) t.domains d (record (domain_at t d) { fresh = false; due = length (domain_at t d).queue }) refl d ∙ hidden_stays h s hides d c fits

pub hidden_next : (h : Label) (s : State) (e : Entry) (d : ℕ) → Hides h s → FitsRun e → (domain_at (next s e) d).ended ≡ false → RunsOn s (next s e) d hidden
hidden_next h s e d hides fits running = go (is_entry_of d e) refl
  where
    own : (x : Entry) → x ≡ e → FitsRun x → RunsOn s (next s x) d hidden
    own (CommandOf k c full) is fit = by (eqb k d) refl
      where
        by : (b : Bool) → eqb k d ≡ b → RunsOn s (next s (CommandOf k c full)) d hidden
        by true here = subst (λ (n : ℕ). RunsOn s (next s (CommandOf n c full)) d hidden) (sym (eqb-true k d here)) (record {
          was = sym (frame_command s d c full).ended ∙ subst (λ (n : ℕ). (domain_at (next s (CommandOf n c full)) d).ended ≡ false) (eqb-true k d here) (subst (λ (x : Entry). (domain_at (next s x) d).ended ≡ false) (sym is) running);
          same = command_register h s hides d c full fit;
        })
        by false differs = let keeps = keeps_next s (CommandOf k c full) d differs in record {
          was = sym keeps.ended ∙ subst (λ (x : Entry). (domain_at (next s x) d).ended ≡ false) (sym is) running;
          same = ap (λ (rs : List Value). get_or rs hidden Nothing) keeps.registers;
        }
    own x is fit = silent_next h s x d hidden hides (λ c full same. cc) refl (subst (λ (y : Entry). (domain_at (next s y) d).ended ≡ false) (sym is) running)

    go : (b : Bool) → is_entry_of d e ≡ b → RunsOn s (next s e) d hidden
    go b same = own e refl fits
