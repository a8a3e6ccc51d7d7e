-- Loads of the words of an ephemeron that was found.
use Rattle.std.proofs.Common.{◌≡◌, ◌∙◌, ℕ, ◌+◌, ◌<◌, ◌≤◌, ◌^◌, Bool, false, List, [], ◌∷◌, Option, Some, None, refl, length, set, length-set, get_or-set_same, sym, ap, subst, arith}
use Rattle.model_core.specs.declared.command.Command.{Command}
use Rattle.model_core.specs.declared.command.Command.TheVariants.{GetKey, CheckKey, GetData, CheckData}
use Rattle.model_core.specs.declared.graph.Value as model
use Rattle.model_core.specs.declared.reply.Reply.{Reply}
use Rattle.model_core.specs.declared.reply.Applied.TheVariants.{Replied}
use Rattle.model_core.specs.Commands.{shown}
use Rattle.model_core.specs.Domains.{register, IsWithinLimits}
use Rattle.model_core.specs.Fronts.{EpheShape, HoldsShape}
use Rattle.heap_words.specs.declared.value.Value.{Value}
use Rattle.heap_words.specs.declared.value.Value.TheVariants.{Nothing}
use Rattle.heap_rule.specs.declared.change.Change.{Change}
use Rattle.heap_rule.specs.declared.change.Change.TheVariants.{Read}
use Rattle.heap_rule.specs.declared.config.Config.{Config}
use Rattle.heap_rule.specs.declared.view.DomainView.{DomainView}
use Rattle.heap_rule.specs.declared.view.Own.{Own}
use Rattle.heap_rule.specs.Changes.{value_at, FitChanges}
use Rattle.heap_rule.specs.Layout.{heap_words}
use Rattle.heap_rule.specs.Limits.{sizes_in}
use Rattle.heap_rule.specs.Rule.{state_of}
use Rattle.heap_rule.specs.Running.{Runs, Did, Stays, own_entry}
use Rattle.heap_rule.specs.Standing.{Acts, Entered, IsInHeap, with_front, with_registers}
use Rattle.heap_rule.specs.Token.{Token, SharedHeap, IsIn}
use Rattle.heap_rule.proofs.Acting.{looked_acts}
use Rattle.heap_rule.proofs.Plain.{entered_rest}
use Rattle.heap_rule.proofs.Sizes.{heap_small}
use Rattle.step_ephemerons.specs.Commands.Heads.{ephemeron_in, key_in, HasKey}
use Rattle.step_ephemerons.specs.Commands.Loads.{word_of, IsLook, KnowsArmed, Puts, WeakMay, WeakLoadMay, WeakRead, Gets, full_reply, look_reply, owing_after, target_in, weak_on}
use Rattle.do_fields.specs.Fields.Registers.{LoadsInto}
use Rattle.do_fields.proofs.OfFields.Doing.{looked_did}
use Rattle.model_core.specs.declared.entry.Entry.{Entry}
use Rattle.model_core.specs.declared.entry.Entry.TheVariants.{Command as CommandOf}
use Rattle.model_core.specs.Fronts.{Answers}
use Rattle.model_core.proofs.Histories.FrontLemmas.{answers_after}
use Rattle.heap_rule.proofs.Calls.{answered_did, look_stays, stays_trans}
use Rattle.heap_rule.specs.declared.phase.Kind.TheVariants.{Run}
use Rattle.heap_rule.specs.declared.phase.Stage.TheVariants.{In}
use Rattle.step_marks.specs.Marking.Arming.{knowing_armed}
use Rattle.do_fields.specs.Darkening.Aware.{Learnt, aware_as}
use Rattle.do_fields.proofs.OfFields.FieldLoads.{shown_into}
use Rattle.do_ephemerons.specs.Found.{Found}

-- what it answers, by whether it puts the word into a register
get_reply : (c : Command) (held : model.Value) (dst : ℕ) → IsLook c → target_in c ≡ Some dst → look_reply c held ≡ shown held
get_reply (GetKey dst ephe i) held r looks into = refl
get_reply (CheckKey ephe i) held r looks into = cc
get_reply (GetData dst ephe) held r looks into = refl
get_reply (CheckData ephe) held r looks into = cc
get_reply _ held r looks into = absurd looks

check_reply : (c : Command) (held : model.Value) → IsLook c → target_in c ≡ None → look_reply c held ≡ full_reply held
check_reply (GetKey dst ephe i) held looks into = cc
check_reply (CheckKey ephe i) held looks into = refl
check_reply (GetData dst ephe) held looks into = cc
check_reply (CheckData ephe) held looks into = refl
check_reply _ held looks into = absurd looks

-- the words of an ephemeron whose keys lie in the heap lie there too
word_inside : (k : Config) (a keys : ℕ) (key : Option ℕ) → a + keys + 2 ≤ heap_words k → HasKey key keys → IsInHeap k (word_of key a)
word_inside k a keys None inside has = let w : ℕ = heap_words k in let i : a + keys + 2 ≤ w = inside in (omega arith, omega arith)
word_inside k a keys (Some n) inside has = let w : ℕ = heap_words k in let i : a + keys + 2 ≤ w = inside in let below : n < keys = has in (omega arith, omega arith)

module _ (h : SharedHeap) (old y : Token) (c : Command) (a : ℕ) (runs : Runs h old) (f : Found h old y c a) where
  -- the look has left what the domain owns
  pub found_own : y.view.own ≡ old.view.own
  found_own = ap (λ (x : DomainView). x.own) f.counted.looked.view

  found_number : y.view.own.number ≡ old.view.own.number
  found_number = ap (λ (o : Own). o.number) found_own

  pub found_entry : own_entry y c ≡ own_entry old c
  found_entry = ap (λ (n : ℕ). own_entry (record y { view = record y.view { own = record y.view.own { number = n } } }) c) found_number

  pub found_acts : Acts h.config y.view
  found_acts = looked_acts h.config old.view y.view f.counted.looked (subst (λ (k : Config). Acts k old.view) runs.here.1 runs.acts)

  -- the word that the command names lies in the heap
  pub found_inside : IsInHeap h.config (word_of (key_in c) a)
  found_inside = word_inside h.config a f.keys (key_in c) f.counted.inside f.has

  pub found_small : IsWithinLimits (sizes_in h.config) → a < 2 ^ 24
  found_small limits = let w : ℕ = heap_words h.config in let s : w < 2 ^ 24 = heap_small h.config limits in let i : a + f.keys + 2 ≤ w = f.counted.inside in omega arith

  pub found_may : WeakMay h.config y.view (word_of (key_in c) a) (ephemeron_in c) (key_in c)
  found_may = record {
    address = a;
    keys = f.keys;
    block = record { few = f.block.few; holds = ap (λ (o : Own). value_at o.registers (ephemeron_in c)) found_own ∙ f.block.holds };
    word = refl;
    known = subst (λ (n : ℕ). HoldsShape (state_of h.config y.view.seen.front) n (ephemeron_in c) (EpheShape f.keys)) (sym found_number) f.counted.knows;
    inside = f.has;
  }

  -- a load of it may be made, where the domain knows whether a cycle goes on, if it must
  pub weak_may : (at : ℕ) (changes : List Change) → at ≡ word_of (key_in c) a → IsLook c → target_in c ≡ None → Puts y.view changes (target_in c) → FitChanges changes → IsInHeap h.config at × WeakLoadMay h.config y.view at changes y.view.own.number c
  weak_may at changes is looks into puts fits =
      let may : WeakLoadMay h.config y.view (word_of (key_in c) a) changes y.view.own.number c = record { own = refl; acts = found_acts; looks = looks; reads = found_may; puts = puts; armed = false; known_armed = subst (λ (t : Option ℕ). KnowsArmed y.view t false) (sym into) tt; fits = fits } in
      subst (λ (n : ℕ). IsInHeap h.config n × WeakLoadMay h.config y.view n changes y.view.own.number c) (sym is) (found_inside, may)

  pub armed_may : (x : DomainView) (armed : Bool) (at : ℕ) (changes : List Change) (dst : ℕ) → x ≡ knowing_armed y.view armed → at ≡ word_of (key_in c) a → IsLook c → target_in c ≡ Some dst → Puts y.view changes (target_in c) → FitChanges changes → IsInHeap h.config at × WeakLoadMay h.config x at changes x.own.number c
  armed_may x armed at changes dst knows is looks into puts fits =
      let z : DomainView = knowing_armed y.view armed in
      let acts = found_acts in
      let reads = found_may in
      let may : WeakLoadMay h.config z (word_of (key_in c) a) changes y.view.own.number c = record {
        own = refl;
        acts = record { goes_on = acts.goes_on; runs = acts.runs; paid = acts.paid; unqueued = acts.unqueued };
        looks = looks;
        reads = record { address = reads.address; keys = reads.keys; block = record { few = reads.block.few; holds = reads.block.holds }; word = reads.word; known = reads.known; inside = reads.inside };
        puts = subst (λ (t : Option ℕ). Puts z changes t) (sym into) (subst (λ (t : Option ℕ). Puts y.view changes t) into puts);
        armed = armed;
        known_armed = subst (λ (t : Option ℕ). KnowsArmed z t armed) (sym into) refl;
        fits = fits;
      } in
      subst (λ (m : DomainView × ℕ). IsInHeap h.config m.1 × WeakLoadMay h.config m.0 m.1 changes m.0.own.number c) (λ i. (sym knows i, sym is i)) (found_inside, may)

  -- a command that checks answers whether the word is full
  pub check_did : (w : Token) (found : ℕ) (r : Reply) → IsIn w h → IsLook c → target_in c ≡ None → (read : WeakRead h.config (own_entry y c) [] y.view found w.view) → r ≡ full_reply read.held → Did h old w c r
  check_did w found r here looks into read reply =
      let entered : Entered h.config (own_entry y c) (Replied (look_reply c read.held)) read.value [] y.view w.view = subst (λ (t : Option ℕ). Entered h.config (own_entry y c) (Replied (look_reply c read.held)) read.value [] (owing_after h.config t read.value y.view) w.view) into read.entered in
      subst (λ (q : Reply). Did h old w c q) (check_reply c read.held looks into ∙ sym reply)
      (looked_did h old w y.view c (own_entry y c) (look_reply c read.held) read.value [] found_entry runs here f.counted.looked entered)

  module _ (dst : ℕ) (goes : dst < 16) (looks : IsLook c) (into : target_in c ≡ Some dst) (x : DomainView) (armed : Bool) (knows : x ≡ knowing_armed y.view armed) (z : DomainView) (found : ℕ) (read : WeakRead h.config (CommandOf x.own.number c false) (Read dst ∷ []) x found z) where
    abbrev owing : DomainView
    owing = owing_after h.config (Some dst) read.value (knowing_armed y.view armed)

    entered : Entered h.config (own_entry y c) (Replied (look_reply c read.held)) read.value (Read dst ∷ []) owing z
    entered = subst (λ (m : Option ℕ × DomainView). Entered h.config (CommandOf m.1.own.number c false) (Replied (look_reply c read.held)) read.value (Read dst ∷ []) (owing_after h.config m.0 read.value m.1) z) (λ i. (into i, knows i)) read.entered

    rest : z ≡ with_front (with_registers owing (set y.view.own.registers dst read.value)) z.seen.front
    rest = entered_rest _ _ _ _ _ _ _ entered

    held_after : register (state_of h.config z.seen.front) z.own.number dst ≡ read.held
    held_after =
        let held : register (state_of h.config z.seen.front) x.own.number dst ≡ read.held = subst (λ (t : Option ℕ). Gets (state_of h.config z.seen.front) x.own.number t read.held) into read.register_is in
        ap (λ (n : ℕ). register (state_of h.config z.seen.front) n dst) (ap (λ (v : DomainView). v.own.number) rest ∙ sym (ap (λ (v : DomainView). v.own.number) knows)) ∙ held

    pub value_after : value_at z.own.registers dst ≡ read.value
    value_after =
        let wide : length (set y.view.own.registers dst read.value) ≡ 16 = ap (λ (v : DomainView). length v.own.registers) (sym rest) ∙ entered.holds.wide in
        let inside : dst < length y.view.own.registers = omega (arith, goes, wide, length-set {A = Value}) in
        ap (λ (v : DomainView). value_at v.own.registers dst) rest ∙ get_or-set_same y.view.own.registers dst read.value Nothing inside

    -- it runs on, knows whether a cycle goes on, and owes what the word asks
    pub runs_on : z.seen.stage ≡ In Run
    runs_on = ap (λ (v : DomainView). v.seen.stage) rest ∙ found_acts.runs

    pub armed_after : z.seen.share.armed ≡ Some armed
    armed_after = ap (λ (v : DomainView). v.seen.share.armed) rest

    pub owes_after : z.seen.share.weak ≡ weak_on h.config armed dst (value_at z.own.registers dst)
    owes_after = ap (λ (v : DomainView). v.seen.share.weak) rest ∙ ap (weak_on h.config armed dst) (sym value_after)

    module _ (u : DomainView) (learnt : Learnt z u) (paid : u.seen.share.weak ≡ None) (w : Token) (r : Reply) (same : w.view ≡ u) (reply : r ≡ shown (register (state_of h.config u.seen.front) u.own.number dst)) where
      replies : r ≡ shown read.held
      replies = reply ∙ ap (λ (v : DomainView). shown (register (state_of h.config v.seen.front) v.own.number dst)) learnt.view ∙ ap shown held_after

      abbrev last : DomainView
      last = with_front (with_registers owing (set y.view.own.registers dst read.value)) z.seen.front

      path : w.view ≡ aware_as last u
      path = same ∙ learnt.view ∙ ap (λ (v : DomainView). aware_as v u) rest

      stays : Stays y.view w.view
      stays = record {
        arrivals = ap (λ (v : DomainView). v.own.arrivals) path;
        stage = ap (λ (v : DomainView). v.seen.stage) path;
        notes = ap (λ (v : DomainView). v.seen.notes) path;
        copying = ap (λ (v : DomainView). v.seen.copying) path;
        queue = ap (λ (v : DomainView). v.own.finalisers.queue) path;
        weak = ap (λ (v : DomainView). v.seen.share.weak) same ∙ (paid ∙ sym found_acts.paid);
        progress = ap (λ (v : DomainView). v.seen.share.progress) path;
        remembers = λ all. ap (λ (v : DomainView). v.seen.remembered) path ∙ (all ∙ ap (λ (v : DomainView). v.own.remembered.items) (sym path));
      }

      -- a command that gets a word shows it
      pub get_did : IsIn w h → Did h old w c r
      get_did here =
          let front : w.view.seen.front ≡ z.seen.front = ap (λ (v : DomainView). v.seen.front) path in
          let look = f.counted.looked in
          let answers : Answers (sizes_in h.config) old.view.own.number y.view.seen.front w.view.seen.front (own_entry old c) (Replied (look_reply c read.held)) =
          subst (λ (m : ℕ × Entry × List Entry). Answers (sizes_in h.config) m.0 y.view.seen.front m.2 m.1 (Replied (look_reply c read.held))) (λ i. (found_number i, found_entry i, sym front i)) entered.answers in
          subst (λ (q : Reply). Did h old w c q) (get_reply c read.held dst looks into ∙ sym replies)
          (answered_did h old w c (look_reply c read.held) runs here (ap (λ (v : DomainView). v.own.number) path ∙ found_number)
          (ap (λ (v : DomainView). v.seen.hunt) path ∙ ap (λ (v : DomainView). v.seen.hunt) look.view ∙ runs.at_rest)
          (ap (λ (v : DomainView). v.seen.made) path ∙ ap (λ (v : DomainView). v.seen.made) look.view ∙ runs.idle)
          (stays_trans old.view y.view w.view (look_stays old.view y.view _ look.view) stays)
          (answers_after (sizes_in h.config) old.view.own.number old.view.seen.front y.view.seen.front w.view.seen.front _ _ look.seen (λ _. look.calls) answers))

      pub get_into : LoadsInto h.config dst r old.view.own.registers w.view.own.registers
      get_into =
          let written : w.view.own.registers ≡ set old.view.own.registers dst read.value =
          ap (λ (v : DomainView). v.own.registers) path ∙ ap (λ (o : Own). set o.registers dst read.value) found_own in
          subst (λ (q : Reply). LoadsInto h.config dst q old.view.own.registers w.view.own.registers) (sym replies)
          (shown_into h.config dst old.view.own.registers w.view.own.registers read.value read.held read.shows (λ b is_at. entered.holds.inside dst b goes (value_after ∙ is_at)) written)
