-- A command is answered `full` only where so many blocks were made that the pools may be used up.
use Rattle.std.proofs.Common.{◌≡◌, ◌≢◌, ℕ, zero, suc, ◌+◌, ◌*◌, ◌<◌, ◌≤◌, true, false, List, [], ◌∷◌, ◌++◌, length, Option, Some, None, refl, ap, sym, ◌∙◌, subst, arith, length-append, append_assoc}
use Rattle.model_core.specs.declared.label.Label.{Label}
use Rattle.model_core.specs.declared.command.Command.{Command}
use Rattle.model_core.specs.declared.entry.Entry.{Entry}
use Rattle.model_core.specs.declared.entry.Entry.TheVariants.{Command as CommandOf, End, Cut, Queue, Seal, Wipe, Last as LastOf, Collected, Done, Ran}
use Rattle.model_core.specs.declared.graph.Node.{Node}
use Rattle.model_core.specs.declared.graph.Node.TheVariants.{Plain, Raw, Ephe}
use Rattle.model_core.specs.declared.state.Pending.{Pending}
use Rattle.model_core.specs.declared.state.Pending.TheVariants.{Fin, Last}
use Rattle.model_core.specs.declared.state.Sizes.{Sizes}
use Rattle.model_core.specs.declared.state.State.{State}
use Rattle.model_core.specs.Graph.{node_at}
use Rattle.model_core.specs.Domains.{IsWithinLimits, domain_at, with_block, opening, reserve}
use Rattle.model_core.specs.Commands.{MayBeFull, outcome}
use Rattle.model_core.specs.Entries.{Allowed, wiped, with_wiped, after_run, next}
use Rattle.model_core.specs.History.{IsPrefix, state_after, LegalFrom, Legal}
use Rattle.model_core.proofs.Commands.MoveLemmas.{moved}
use Rattle.model_core.proofs.Commands.ShapeLemmas.{length-with_node}
use Rattle.model_core.proofs.Histories.HistoryLemmas.{state_after-append}
use Rattle.model_core.proofs.Histories.ShapeAfterLemmas.{shaped-history}
use Rattle.weak_laws.specs.Tables.Thinning.{state_of}
use Rattle.weak_laws.specs.Tables.Performing.{refused, refusals}
use Rattle.weak_laws.proofs.OfTables.RefusalLemmas.{refusals-append}
use Rattle.weak_laws.proofs.OfTables.SizeLemmas.{blocks_counted}
use Rattle.weak_laws.proofs.OfTables.StepLemmas.{legal_parts}

-- the sizes stay, and no block is taken from the graph
pub record Grown (s t : State) : Type 0 where
  pub sizes : t.sizes ≡ s.sizes
  pub blocks : length s.graph ≤ length t.graph

grown_same : (s t : State) → t.sizes ≡ s.sizes → length t.graph ≡ length s.graph → Grown s t
grown_same s t sizes same = record { sizes = sizes; blocks = omega arith }

grown_twice : (s t u : State) → Grown s t → Grown t u → Grown s u
grown_twice s t u a b = record { sizes = b.sizes ∙ a.sizes; blocks = let x = a.blocks in let y = b.blocks in omega (arith, x, y) }

grown_outcome : (s : State) (d : ℕ) (c : Command) → Grown s (outcome s d c).state
grown_outcome s d c = moved (Grown s) s d c (record {
  same = grown_same s s refl refl;
  held = λ r v named. grown_same s _ refl refl;
  written = λ l old new at found same named full. grown_same s (with_block s l new) refl (length-with_node s.graph l new);
  made = λ is dst n named full. record { sizes = refl; blocks = (let sum = length-append s.graph ((record { domain = d; serial = (domain_at s d).serial + 1 }, n) ∷ []) in omega (arith, sum)) };
  registered = λ is f named. grown_same s _ refl refl;
  registered_last = λ is f named. grown_same s _ refl refl;
})

grown_wiped : (s : State) (l : Label) (places : List ℕ) (o : Option Node) → Grown s (with_wiped s l (wiped places o))
grown_wiped s l places None = grown_same s s refl refl
grown_wiped s l places (Some (Plain tag fields)) = grown_same s (with_block s l (Plain tag fields)) refl (length-with_node s.graph l (Plain tag fields))
grown_wiped s l places (Some (Raw tag fields)) = grown_same s (with_block s l (Raw tag fields)) refl (length-with_node s.graph l (Raw tag fields))
grown_wiped s l places (Some (Ephe keys datum)) = grown_same s (with_wiped s l (wiped places (Some (Ephe keys datum)))) refl (length-with_node s.graph l _)

grown_run : (s : State) (d : ℕ) (queue : List Pending) → Grown s (after_run s d queue)
grown_run s d [] = grown_same s s refl refl
grown_run s d (Fin number l r ∷ rest) = grown_same s _ refl refl
grown_run s d (Last number ∷ rest) = grown_same s _ refl refl

grown_next : (s : State) (e : Entry) → Grown s (next s e)
grown_next s (CommandOf d c true) = grown_same s _ refl refl
grown_next s (CommandOf d c false) = grown_twice s (outcome s d c).state _ (grown_outcome s d c) (grown_same _ _ refl refl)
grown_next s (End d) = grown_same s _ refl refl
grown_next s Cut = grown_same s _ refl refl
grown_next s (Queue d places) = grown_same s _ refl refl
grown_next s Seal = grown_same s _ refl refl
grown_next s (Wipe l keys) = let w = grown_wiped s l keys (node_at s.graph l) in record { sizes = w.sizes; blocks = w.blocks }
grown_next s (LastOf d place) = grown_same s _ refl refl
grown_next s Collected = grown_same s _ refl refl
grown_next s Done = grown_same s _ refl refl
grown_next s (Ran d) = grown_run s d (domain_at s d).queue

pub grown_after : (s : State) (h : List Entry) → Grown s (state_after s h)
grown_after s [] = grown_same s s refl refl
grown_after s (e ∷ h) = grown_twice s (next s e) _ (grown_next s e) (grown_after (next s e) h)

-- so many blocks were made that the pools may be used up
abbrev pub IsUsedUp : Sizes → ℕ → Type 0
IsUsedUp z blocks = z.pools ≤ blocks + reserve z + z.classes * z.domains

module _ (z : Sizes) (limits : IsWithinLimits z) where
  -- at a command that is answered `full`
  used_here : (old : List Entry) (d : ℕ) (c : Command) → MayBeFull (state_of z old) d c → IsUsedUp z (length (state_of z old).graph)
  used_here old d c may =
      let sizes : (state_of z old).sizes ≡ z = (grown_after (opening z) old).sizes in
      let few = (shaped-history z old limits).kept_bound in
      let enough : z.pools ≤ (state_of z old).kept + reserve z + z.classes * z.domains = subst (λ (y : Sizes). y.pools ≤ (state_of z old).kept + reserve y + y.classes * y.domains) sizes may.kept_enough in
      omega (arith, few, enough)

  -- at one of some entries
  used_along : (old more : List Entry) → LegalFrom (state_of z old) more → 0 < refusals more → IsUsedUp z (length (state_of z (old ++ more)).graph)
  used_along old [] legal some = absurd (omega arith)
  used_along old (e ∷ more) legal some = go (refused e) refl (λ on more_left. used_along (old ++ e ∷ []) more on more_left)
    where
      whole : (old ++ e ∷ []) ++ more ≡ old ++ e ∷ more
      whole = append_assoc old (e ∷ []) more

      there : state_of z (old ++ e ∷ []) ≡ next (state_of z old) e
      there = state_after-append (opening z) old (e ∷ [])

      grown : length (state_of z old).graph ≤ length (state_of z (old ++ e ∷ more)).graph
      grown = let g = (grown_after (state_of z old) (e ∷ more)).blocks in let same : length (state_of z (old ++ e ∷ more)).graph ≡ length (state_after (state_of z old) (e ∷ more)).graph = ap (λ (t : State). length t.graph) (state_after-append (opening z) old (e ∷ more)) in omega (arith, g, same)

      here : (x : Entry) → e ≡ x → refused x ≢ 0 → IsUsedUp z (length (state_of z old).graph)
      here (CommandOf d c true) is one = let allowed = legal.0 in used_here old d c (subst (λ (y : Entry). Allowed (state_of z old) y) is allowed).full_fits
      here (CommandOf d c false) is one = absurd (one refl)
      here (End d) is one = absurd (one refl)
      here Cut is one = absurd (one refl)
      here (Queue d places) is one = absurd (one refl)
      here Seal is one = absurd (one refl)
      here (Wipe l keys) is one = absurd (one refl)
      here (LastOf d place) is one = absurd (one refl)
      here Collected is one = absurd (one refl)
      here Done is one = absurd (one refl)
      here (Ran d) is one = absurd (one refl)

      go : (n : ℕ) → refused e ≡ n → (LegalFrom (state_of z (old ++ e ∷ [])) more → 0 < refusals more → IsUsedUp z (length (state_of z ((old ++ e ∷ []) ++ more)).graph)) → IsUsedUp z (length (state_of z (old ++ e ∷ more)).graph)
      go zero is rest =
          let later = rest (subst (λ (t : State). LegalFrom t more) (sym there) legal.1) (omega (arith, some, is)) in
          subst (λ (h : List Entry). IsUsedUp z (length (state_of z h).graph)) whole later
      go (suc n) is rest = let used = here e refl (λ none. absurd (omega (arith, is, none))) in omega (arith, used, grown)

  -- and so at the end of a call in which one came: with one domain there are no more blocks than labels were given out, and one
  pub used_up : (old new : List Entry) → z.domains ≡ 1 → Legal z new → IsPrefix old new → refusals old < refusals new → z.pools ≤ (domain_at (state_of z new) 0).serial + 1 + reserve z + z.classes
  used_up old new one legal grows more =
      let parts = legal_parts (opening z) old grows.rest (subst (Legal z) grows.appends legal) in
      let counted : refusals new ≡ refusals old + refusals grows.rest = ap refusals grows.appends ∙ refusals-append old grows.rest in
      let used : IsUsedUp z (length (state_of z new).graph) = subst (λ (h : List Entry). IsUsedUp z (length (state_of z h).graph)) (sym grows.appends) (used_along old grows.rest parts.1 (omega (arith, counted, more))) in
      let blocks = blocks_counted z new one legal in
      let classes : z.classes * z.domains ≡ z.classes = ap (λ (n : ℕ). z.classes * n) one ∙ mul_one z.classes in
      omega (arith, used, blocks, classes)
    where
      mul_one : (n : ℕ) → n * 1 ≡ n
      mul_one n = omega arith
