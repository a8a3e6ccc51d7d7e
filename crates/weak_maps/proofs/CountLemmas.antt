-- How many entries of a domain are refused, and how many write, once one command more is made.
use Rattle.std.proofs.Common.{◌≡◌, ℕ, ◌+◌, Bool, true, false, cond, ◌==◌, eq-eqb, List, [], ◌∷◌, ◌++◌, refl, ap, sym, subst, ◌∙◌, arith}
use Rattle.model_core.specs.declared.command.Command as declared_command
use Rattle.model_core.specs.declared.entry.Entry.{Entry}
use Rattle.model_core.specs.declared.entry.Entry.TheVariants.{Command}
use Rattle.model_core.specs.declared.reply.Reply.{Reply}
use Rattle.model_core.specs.declared.reply.Reply.TheVariants as reply
use Rattle.model_core.specs.declared.reply.Applied.TheVariants.{Replied}
use Rattle.model_core.specs.declared.state.Sizes.{Sizes}
use Rattle.model_core.specs.declared.state.State.{State}
use Rattle.model_core.specs.Commands.{is_allocation, outcome, FullOnlyWhereAllowed, MayBeFull}
use Rattle.model_core.specs.Domains.{opening}
use Rattle.model_core.specs.Entries.{reply as reply_of}
use Rattle.model_core.specs.Fronts.{NoneOf}
use Rattle.model_core.specs.History.{Legal, LegalFrom, is_entry_of}
use Rattle.model_core.proofs.Histories.FrontLemmas.{none_cons}
use Rattle.model_core.specs.Counts.Counts.{blocks_of, labels_given, labels_of}
use Rattle.weak_laws.specs.Tables.Thinning.{state_of}
use Rattle.weak_laws.specs.Tables.Performing.{refused, written, writes, full_of}
use Rattle.weak_laws.proofs.OfTables.StepLemmas.{legal_parts}
use Rattle.weak_laws.proofs.OfTables.RefusalLemmas.{outcome_given, full_none, block_reply}
use Rattle.weak_laws.specs.Maps.Calls.{PerformedBy}
use Rattle.weak_maps.specs.Beside.{refusals_by, writings_by}

mine : (d : ℕ) → (d == d) ≡ true
mine d = eq-eqb d d refl

pub refusals_append : (d : ℕ) (h k : List Entry) → refusals_by d (h ++ k) ≡ refusals_by d h + refusals_by d k
refusals_append d [] k = omega arith
refusals_append d (e ∷ h) k = let rest = refusals_append d h k in omega (arith, rest)

pub writings_append : (d : ℕ) (h k : List Entry) → writings_by d (h ++ k) ≡ writings_by d h + writings_by d k
writings_append d [] k = omega arith
writings_append d (e ∷ h) k = let rest = writings_append d h k in omega (arith, rest)

-- others' entries are none of the domain's
pub refusals_none : (d : ℕ) (h : List Entry) → NoneOf d h → refusals_by d h ≡ 0
refusals_none d [] none = refl
refusals_none d (e ∷ h) none =
    let parts = none_cons d e h none in
    let here : cond (is_entry_of d e) (refused e) 0 ≡ 0 = ap (λ b. cond b (refused e) 0) parts.0 in
    let rest = refusals_none d h parts.1 in
    omega (arith, here, rest)

pub writings_none : (d : ℕ) (h : List Entry) → NoneOf d h → writings_by d h ≡ 0
writings_none d [] none = refl
writings_none d (e ∷ h) none =
    let parts = none_cons d e h none in
    let here : cond (is_entry_of d e) (written e) 0 ≡ 0 = ap (λ b. cond b (written e) 0) parts.0 in
    let rest = writings_none d h parts.1 in
    omega (arith, here, rest)

module _ (z : Sizes) (d : ℕ) (old new : List Entry) (c : declared_command.Command) (r : Reply) (p : PerformedBy z d old new c r) where
  abbrev s : State
  s = state_of z (old ++ p.between)

  pub writes_one : writings_by d new ≡ writings_by d old + writes c
  writes_one =
      let whole : writings_by d new ≡ writings_by d (old ++ p.between) + writings_by d (Command d c p.full ∷ []) = ap (writings_by d) p.appends ∙ writings_append d (old ++ p.between) (Command d c p.full ∷ []) in
      let parts = writings_append d old p.between in
      let none = writings_none d p.between p.others in
      let last : cond (d == d) (writes c) 0 ≡ writes c = ap (λ b. cond b (writes c) 0) (mine d) in
      omega (arith, whole, parts, none, last)

  answered_full : p.full ≡ true → r ≡ reply.Full
  answered_full e = let is : Replied r ≡ Replied reply.Full = sym p.replies ∙ ap (λ b. reply_of s (Command d c b)) e in cc

  answered : p.full ≡ false → r ≡ (outcome s d c).reply
  answered e = let is : Replied r ≡ Replied (outcome s d c).reply = sym p.replies ∙ ap (λ b. reply_of s (Command d c b)) e in cc

  pub refuses_one : refusals_by d new ≡ refusals_by d old + full_of r
  refuses_one =
      let whole : refusals_by d new ≡ refusals_by d (old ++ p.between) + refusals_by d (Command d c p.full ∷ []) = ap (refusals_by d) p.appends ∙ refusals_append d (old ++ p.between) (Command d c p.full ∷ []) in
      let parts = refusals_append d old p.between in
      let none = refusals_none d p.between p.others in
      let last : cond (d == d) (refused (Command d c p.full)) 0 ≡ refused (Command d c p.full) = ap (λ b. cond b (refused (Command d c p.full)) 0) (mine d) in
      let same = go p.full refl in
      omega (arith, whole, parts, none, last, same)
    where
      go : (b : Bool) → p.full ≡ b → refused (Command d c p.full) ≡ full_of r
      go true e = ap (λ b. refused (Command d c b)) e ∙ sym (ap full_of (answered_full e))
      go false e = ap (λ b. refused (Command d c b)) e ∙ sym (full_none r (λ full. outcome_given s d c (sym (answered e) ∙ full)))

  pub legal_both : LegalFrom (opening z) (old ++ p.between) × LegalFrom s (Command d c p.full ∷ [])
  legal_both = legal_parts (opening z) (old ++ p.between) (Command d c p.full ∷ []) (subst (Legal z) p.appends p.legal)

  pub not_refused : is_allocation c ≡ false → p.full ≡ false
  not_refused none = go p.full refl
    where
      go : (b : Bool) → p.full ≡ b → b ≡ false
      go false e = refl
      go true e = let may : MayBeFull s d c = subst (FullOnlyWhereAllowed s d c) e legal_both.1.0.full_fits in let clash : true ≡ false = sym may.allocates ∙ none in cc

  -- an allocation gives out a label or is answered `full`, and no other command does either
  pub gives_one : labels_given c r + full_of r ≡ labels_of c
  gives_one = go (is_allocation c) refl
    where
      one : (b : Bool) → p.full ≡ b → is_allocation c ≡ true → blocks_of r + full_of r ≡ 1
      one true e is = ap (λ a. blocks_of a + full_of a) (answered_full e)
      one false e is = let made = block_reply s d c is in ap (λ a. blocks_of a + full_of a) (answered e ∙ made.1)

      go : (b : Bool) → is_allocation c ≡ b → cond (is_allocation c) (blocks_of r) 0 + full_of r ≡ cond (is_allocation c) 1 0
      go true e = subst (λ (a : Bool). cond a (blocks_of r) 0 + full_of r ≡ cond a 1 0) (sym e) (one p.full refl e)
      go false e =
          let none : full_of r ≡ 0 = full_none r (λ full. outcome_given s d c (sym (answered (not_refused e)) ∙ full)) in
          subst (λ (a : Bool). cond a (blocks_of r) 0 + full_of r ≡ cond a 1 0) (sym e) (omega (arith, none))
