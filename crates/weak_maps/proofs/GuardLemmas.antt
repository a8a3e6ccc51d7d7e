-- Entries that respect a map as long as the others' do, and commands that change no block.
use Rattle.std.proofs.Common.{◌≡◌, ⊎_elim, ℕ, true, false, List, [], ◌∷◌, ◌++◌, Option, Some, None, refl, ap, sym, ◌∙◌, subst, eq-eqb}
use Rattle.model_core.specs.declared.label.Label.{Label}
use Rattle.model_core.specs.declared.command.Command.{Command}
use Rattle.model_core.specs.declared.command.Command.TheVariants.{Forget}
use Rattle.model_core.specs.declared.entry.Entry.{Entry}
use Rattle.model_core.specs.declared.entry.Entry.TheVariants.{Command as CommandOf}
use Rattle.model_core.specs.declared.reply.Reply.{Reply}
use Rattle.model_core.specs.declared.state.Sizes.{Sizes}
use Rattle.model_core.specs.declared.state.State.{State}
use Rattle.model_core.specs.Commands.{is_allocation, outcome}
use Rattle.model_core.specs.Entries.{next}
use Rattle.model_core.specs.History.{IsPrefix, is_entry_of}
use Rattle.model_core.specs.Laws.{written_by}
use Rattle.model_core.proofs.Commands.MoveLemmas.{moved}
use Rattle.weak_laws.specs.Tables.Thinning.{state_of}
use Rattle.weak_laws.specs.Tables.Stages.{graph_of}
use Rattle.weak_laws.specs.Maps.Steps.{OthersRespect, OwnRespect}
use Rattle.weak_laws.specs.Maps.Calls.{PerformedBy}
use Rattle.weak_laws.proofs.OfMaps.FrontLemmas.{before_or_behind, last_or_before, prefix_trans}
use Rattle.weak_laws.proofs.OfMaps.OwnLemmas.{at_the_end}
use Rattle.weak_maps.specs.Fields.{Cleared}
use Rattle.weak_maps.specs.Guards.{Guards, LeafGuards, SettleGuards}
use Rattle.weak_maps.specs.Walks.{Emptied, OwnQuiet}
use Rattle.weak_maps.proofs.BesideLemmas.{left_is}
use Rattle.weak_maps.proofs.CountLemmas.{not_refused}
use Rattle.weak_maps.proofs.GetLemmas.{grows_by}
use Rattle.weak_maps.proofs.StayLemmas.{no_entry, prefix_same, quiet_looks, quiet_on, respects_within}

-- a command that writes no block and makes none leaves the graph
quiet_outcome : (s : State) (d : ℕ) (c : Command) → written_by s d c ≡ None → is_allocation c ≡ false → (outcome s d c).state.graph ≡ s.graph
quiet_outcome s d c writes makes = moved (λ (t : State). t.graph ≡ s.graph) s d c (record {
  same = refl;
  held = λ r v named. refl;
  written = λ l old new is at shape named full. let clash : None ≡ Some l = sym writes ∙ is in cc;
  made = λ is dst n named full. let clash : false ≡ true = sym makes ∙ is in cc;
  registered = λ is f named. refl;
  registered_last = λ is f named. refl;
})

pub quiet_step : (z : Sizes) (d : ℕ) (now new : List Entry) (c : Command) (r : Reply) (p : PerformedBy z d now new c r) → ((s : State) → written_by s d c ≡ None) → is_allocation c ≡ false → graph_of z new ≡ graph_of z (now ++ p.between)
quiet_step z d now new c r p writes makes =
    let s : State = state_of z (now ++ p.between) in
    let here : state_of z new ≡ next s (CommandOf d c false) = left_is z d now new c r p ∙ ap (λ b. next s (CommandOf d c b)) (not_refused z d now new c r p makes) in
    ap (λ (t : State). t.graph) here ∙ quiet_outcome s d c (writes s) makes

-- a label, where none matters
abbrev no_root : Label
no_root = record { domain = 0; serial = 0 }

module _ (z : Sizes) (d : ℕ) where
  pub quiet_none : (old : List Entry) → OwnQuiet z d old old
  quiet_none old front e since until own = absurd (no_entry old front e since until)

  pub quiet_same : (old new : List Entry) → new ≡ old → OwnQuiet z d old new
  quiet_same old new is = subst (OwnQuiet z d old) (sym is) (quiet_none old)

  pub quiet_twice : (old now new : List Entry) → IsPrefix now new → OwnQuiet z d old now → OwnQuiet z d now new → OwnQuiet z d old new
  quiet_twice old now new grows first last front e since until own = ⊎_elim (λ early. first front e since early own) (λ late. last front e late until own) (before_or_behind now new front e grows until)

  pub quiet_by : (now new : List Entry) (c : Command) (r : Reply) → PerformedBy z d now new c r → ((s : State) → written_by s d c ≡ None) → is_allocation c ≡ false → OwnQuiet z d now new
  quiet_by now new c r p writes makes = quiet_on z no_root d now now new c r p (quiet_step z d now new c r p writes makes) (quiet_none now)

  -- where registers are emptied
  pub quiet_forget : (now new : List Entry) (dst : ℕ) (r : Reply) → PerformedBy z d now new (Forget dst) r → OwnQuiet z d now new
  quiet_forget now new dst r p = quiet_by now new (Forget dst) r p (λ s. refl) refl

  pub quiet_emptied : (old new : List Entry) (dst : ℕ) → Emptied z d old new dst → OwnQuiet z d old new
  quiet_emptied old new dst x = quiet_twice old x.between new (grows_by z d x.between new (Forget 8) x.second x.clears) (quiet_forget old x.between dst x.first x.empties) (quiet_forget x.between new 8 x.second x.clears)

  pub quiet_cleared : (old new : List Entry) → Cleared z d old new → OwnQuiet z d old new
  quiet_cleared old new x =
      let g3 = grows_by z d x.third new (Forget 11) x.eleven_reply x.eleven in
      let g2 = prefix_trans x.second x.third new (grows_by z d x.second x.third (Forget 10) x.ten_reply x.ten) g3 in
      let g1 = prefix_trans x.first x.second new (grows_by z d x.first x.second (Forget 9) x.nine_reply x.nine) g2 in
      quiet_twice old x.first new g1 (quiet_forget old x.first 8 x.eight_reply x.eight)
      (quiet_twice x.first x.second new g2 (quiet_forget x.first x.second 9 x.nine_reply x.nine)
      (quiet_twice x.second x.third new g3 (quiet_forget x.second x.third 10 x.ten_reply x.ten) (quiet_forget x.third new 11 x.eleven_reply x.eleven)))

pub quiet_at : (z now : Sizes) (d e : ℕ) (old new : List Entry) → now ≡ z → e ≡ d → OwnQuiet now e old new → OwnQuiet z d old new
quiet_at z now d e old new sizes domain x = subst (λ (w : Sizes × ℕ). OwnQuiet w.0 w.1 old new) (λ i. (sizes i, domain i)) x

pub quiet_from : (z now : Sizes) (d e : ℕ) (old first new : List Entry) → now ≡ z → e ≡ d → first ≡ old → OwnQuiet now e first new → OwnQuiet z d old new
quiet_from z now d e old first new sizes domain front x = subst (λ (w : Sizes × ℕ × List Entry). OwnQuiet w.0 w.1 w.2 new) (λ i. (sizes i, domain i, front i)) x

module _ (z : Sizes) (root : Label) (d : ℕ) where
  -- one entry of the domain's own more asks nothing of others
  others_push : (first mid new : List Entry) (e : Entry) → new ≡ mid ++ e ∷ [] → is_entry_of d e ≡ true → OthersRespect z root d first mid → OthersRespect z root d first new
  others_push first mid new e whole own others front x since until other =
      ⊎_elim (λ early. others front x since early other) (λ is. let clash : true ≡ false = sym own ∙ (ap (is_entry_of d) (sym is.1) ∙ other) in cc)
      (last_or_before mid e front x (subst (IsPrefix (front ++ x ∷ [])) whole until))

  -- so a command's entry is guarded where it respects the map, if others do
  pub guards_by : (first now new : List Entry) (c : Command) (r : Reply) → PerformedBy z d now new c r → (OthersRespect z root d first new → OwnRespect z root d now new) → Guards z root d first now new
  guards_by first now new c r p then front e since until own others =
      let end = at_the_end z root d now new c r p front e since until own in
      then (others_push first (now ++ p.between) new (CommandOf d c p.full) p.appends (eq-eqb d d refl) (subst (OthersRespect z root d first) end.0 others)) front e since until own

  pub guards_since : (first now new : List Entry) (c : Command) (r : Reply) → PerformedBy z d now new c r → IsPrefix first now → (OthersRespect z root d first new → OwnRespect z root d first new) → Guards z root d first now new
  guards_since first now new c r p grows then = guards_by first now new c r p (λ others front e since until own. then others front e (prefix_trans first now front grows since) until own)

  pub guards_quiet : (first old new : List Entry) → OwnQuiet z d old new → Guards z root d first old new
  guards_quiet first old new quiet front e since until own others = (quiet_looks z root d old new quiet).respects front e since until own

  pub guards_same : (first old new : List Entry) → new ≡ old → Guards z root d first old new
  guards_same first old new is = guards_quiet first old new (quiet_same z d old new is)

  pub guards_twice : (first old now new : List Entry) → IsPrefix now new → Guards z root d first old now → Guards z root d first now new → Guards z root d first old new
  guards_twice first old now new grows before behind front e since until own others =
      ⊎_elim (λ early. before front e since early own others) (λ late. behind front e late until own others) (before_or_behind now new front e grows until)

  -- what needs the others' entries before it only
  pub guards_then : (first now new : List Entry) → (OthersRespect z root d first now → Guards z root d first now new) → Guards z root d first now new
  guards_then first now new then front e since until own others = then (respects_within z root d first front first now (prefix_same first) since others) front e since until own others

  pub guards_later : (first later old new : List Entry) → IsPrefix first later → Guards z root d later old new → Guards z root d first old new
  guards_later first later old new grows guards front e since until own others = guards front e since until own (λ f x a b other. others f x (prefix_trans first later f grows a) b other)

pub leaf_guards_at : (z now : Sizes) (d e : ℕ) (old first new : List Entry) (key item : ℕ) → now ≡ z → e ≡ d → first ≡ old → LeafGuards now e first new key item → LeafGuards z d old new key item
leaf_guards_at z now d e old first new key item sizes domain front x = subst (λ (w : Sizes × ℕ × List Entry). LeafGuards w.0 w.1 w.2 new key item) (λ i. (sizes i, domain i, front i)) x

pub settle_guards_at : (z now : Sizes) (d e : ℕ) (old new : List Entry) (k : Label) (i rest level : ℕ) (other : Option Label) → now ≡ z → e ≡ d → SettleGuards now e old new k i rest level other → SettleGuards z d old new k i rest level other
settle_guards_at z now d e old new k i rest level other sizes domain x = subst (λ (w : Sizes × ℕ). SettleGuards w.0 w.1 old new k i rest level other) (λ j. (sizes j, domain j)) x
