-- What holds of each domain of a heap that has just started.
use Rattle.std.proofs.Common.{◌≡◌, ℕ, zero, suc, ◌+◌, ◌<◌, ◌≤◌, false, List, ◌∷◌, replicate, refl, sym, ap, ◌∙◌, subst, arith}
use Rattle.std.specs.Prelude.{slice_index_or}
use Rattle.std.specs.List.{All, AllByRecursion}
use Rattle.std.proofs.lemmas.List.Elements.{All-from_recursion}
use Rattle.model_core.specs.Domains.{opening_domain, no_domain}
use Rattle.heap_rule.specs.declared.config.Config.{Config}
use Rattle.heap_rule.specs.Opening.{opening_token, opening_tokens}
use Rattle.heap_rule.specs.Running.{Runs, RemembersAll}
use Rattle.heap_rule.specs.Standing.{Acts}
use Rattle.heap_rule.specs.Token.{Token, SharedHeap, IsIn}
use Rattle.heap_rule.specs.declared.phase.Note.{Note}
use Rattle.heap_rule.specs.declared.view.DomainView.{DomainView}
use Rattle.test_heap.specs.Calls.Fresh.{IsFresh}

not_ended : (n d : ℕ) → d < n → (slice_index_or (replicate n opening_domain) d no_domain).ended ≡ false
not_ended zero d h = absurd (omega arith)
not_ended (suc n) zero h = refl
not_ended (suc n) (suc d) h = not_ended n d (omega arith)

is_fresh : (h : SharedHeap) (d : ℕ) → d < h.config.domains → IsFresh h (opening_token h.table h.config d)
is_fresh h d inside =
    let acts : Acts h.config (opening_token h.table h.config d).view = record { goes_on = not_ended h.config.domains d inside; runs = refl; unqueued = refl; paid = refl } in
    record {
      runs = record { here = (refl, refl); acts = acts; idle = refl; at_rest = refl; remembers = refl };
      unlabelled = refl;
      nowhere = refl;
    }

those_from : (h : SharedHeap) (from n : ℕ) → from + n ≤ h.config.domains → AllByRecursion (IsFresh h) (opening_tokens h.table h.config from n)
those_from h from zero few = tt
those_from h from (suc n) few = (is_fresh h from (omega arith), those_from h (from + 1) n (omega arith))

-- all domains of a heap that has just started are fresh
pub all_fresh : (h : SharedHeap) (k : Config) (domains : List Token) → h.config ≡ k → domains ≡ opening_tokens h.table k 0 k.domains → All (IsFresh h) domains
all_fresh h k domains config are =
    let same : domains ≡ opening_tokens h.table h.config 0 h.config.domains = subst (λ (c : Config). domains ≡ opening_tokens h.table c 0 c.domains) (sym config) are in
    subst (All (IsFresh h)) (sym same) (All-from_recursion (IsFresh h) (opening_tokens h.table h.config 0 h.config.domains) (those_from h 0 h.config.domains (omega arith)))

-- a domain that has noted something runs on
pub noted_runs : (h : SharedHeap) (t u : Token) (notes : List Note) → Runs h t → IsIn u h → u.view ≡ record t.view { seen = record t.view.seen { notes = notes } } → Runs h u
noted_runs h t u notes r here is =
    let same : t.config ≡ u.config = r.here.1 ∙ sym here.1 in
    let acts : Acts t.config u.view = subst (Acts t.config) (sym is) (record { goes_on = r.acts.goes_on; runs = r.acts.runs; unqueued = r.acts.unqueued; paid = r.acts.paid }) in
    record {
      here = here;
      acts = subst (λ (k : Config). Acts k u.view) same acts;
      idle = ap (λ (x : DomainView). x.seen.made) is ∙ r.idle;
      at_rest = ap (λ (x : DomainView). x.seen.hunt) is ∙ r.at_rest;
      remembers = subst RemembersAll (sym is) r.remembers;
    }
