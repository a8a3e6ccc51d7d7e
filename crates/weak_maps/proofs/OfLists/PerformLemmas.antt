-- What a machine of one domain performs is performed by domain 0.
use Rattle.std.proofs.Common.{◌≡◌, ℕ, true, false, List, [], ◌∷◌, refl}
use Rattle.model_core.specs.declared.command.Command as model
use Rattle.model_core.specs.declared.entry.Entry.{Entry}
use Rattle.model_core.specs.declared.entry.Entry.TheVariants.{Command, End, Ran}
use Rattle.model_core.specs.declared.reply.Reply.{Reply}
use Rattle.model_core.specs.declared.state.Sizes.{Sizes}
use Rattle.model_core.specs.Fronts.{NoneOf}
use Rattle.model_core.specs.History.{is_entry_of}
use Rattle.model_core.proofs.Graphs.GraphLemmas.{and_parts}
use Rattle.weak_laws.specs.Tables.Performing.{Performed}
use Rattle.weak_laws.specs.Tables.Thinning.{AllCollector, is_collector}
use Rattle.weak_laws.specs.Maps.Calls.{PerformedBy}

-- an entry of the collector is no domain's
collectors_entry : (d : ℕ) (e : Entry) → is_collector e ≡ true → is_entry_of d e ≡ false
collectors_entry d (Command k c full) is = let clash : false ≡ true = is in cc
collectors_entry d (End k) is = let clash : false ≡ true = is in cc
collectors_entry d (Ran k) is = let clash : false ≡ true = is in cc
collectors_entry d _ is = refl

pub others : (d : ℕ) (h : List Entry) → AllCollector h → NoneOf d h
others d [] all = refl
others d (e ∷ h) all =
    let parts = and_parts (is_collector e) _ all in
    let other : is_entry_of d e ≡ false = collectors_entry d e parts.0 in
    rw other (others d h parts.1)

pub performs : (z : Sizes) (old new : List Entry) (c : model.Command) (r : Reply) → Performed z old new c r → PerformedBy z 0 old new c r
performs z old new c r p = record {
  between = p.between;
  others = others 0 p.between p.collector;
  full = p.full;
  appends = p.appends;
  legal = p.legal;
  replies = p.replies;
}
