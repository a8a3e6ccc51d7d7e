-- `lend` lends the domain of a handle, and the handle follows it.
use Rattle.std.proofs.Common.{◌≡◌, ℕ, Bool, true, List, [], ◌∷◌, refl, sym, subst}
use base.Fraction.{full_share}
use mir.Syntax.{named}
use mir.Raw.{raw as bare}
use mir.Val.{Val, vptr}
use base.Fml.{Fml, GName, Lft, Share, ftrue, fsep, flft}
use base.Logic.{SProp, ent, sep, never, fst∗}
use types.Logic.{Logic, sem}
use seplogic.Ra.Ura.{Ura}
use types.Kit.{‵, raw, ◌⊛◌, some, later, at_ret, ◌$◌, ◌∵◌, !, qed, move, keep, split, split3, join, fsplit, fsplit3, fjoin, fpack, pick, group, suffices, frame, use1, await, rewrite, done}
use types.Run.{stop, fld, load, addr, of_opd, first, blocks, exec, returns, enter}
use types.ByLocal.{alloc_all, pass_all, free_all, look_at, get, through, sets, sets_last, env}
use types.Part.{sub, whole, look_in}
use contract.Monad.{fact}
use contract.Running.{tables}
use denote.Builtin.{RefMutOf}
use denote.Exit.{no}
use denote.Follow.{follows, lends_Part}
use denote.Memory.{lone, cell_at, part_at, part_of, mem}
use denote.RattleType.{RattleType, owns}
use denote.RawPtr.{Ptr, block_ptr, null_ptr, ptr_val, in_a_block}
use denote.Ref.{MutRef, mut_vals, mut_Tells}
use denote.Signature.{types_at, plain}
use denote.Steps.{heard, opens, nothing}
use denote.Triple.Walked.{says, Stays, stay_dropped, walk_of, ends_at, Goes-spent_ref}
use Rattle.core.proofs.alloc.Shapes.{after}
use Rattle.std.specs.contracts.impls.GlobalAllocator.TheImpl.{ghosts}
use Rattle.std_alloc.specs.Box.Ownership.{box_owns}
use Rattle.std.proofs.raw_atomic.Walks.{proved}
use Rattle.run_seats.specs.contracts.shared.shared.SharedRun.{the_row as run_row}
use Rattle.camlheap_c.specs.contracts.handle.CamlheapDomain as handle
use Rattle.camlheap_c.specs.Lent.{handle_with}
use Rattle.camlheap_c.proofs.Values.{Heap, word, held, handle_out, handle_in}
use Rattle.camlheap_c.specs.contracts.handle.CamlheapDomain.lend.{ended, clauses}
use Rattle.camlheap_c.specs.contracts.handle.CamlheapDomain.lend.Key.{name as #self}
use Rattle.camlheap_c.proofs.handle.CamlheapDomain.lend.Statement.{statement}
use Rattle.camlheap_c.proofs.handle.CamlheapDomain.lend.Code as code

module _ {M : Type 1} {𝓤 : Ura M} (𝓛 : Logic 𝓤) (rb ro b o : ℕ) (h : Val) (d : (handle.the_row).Denot) where
  -- the right to free the domain's block
  abbrev Token : Fml
  Token = ghosts.dealloc_token d.alloc (bare (lone run_row.mir)) (block_ptr b o)

  -- all of the handle but the domain
  abbrev Rest : Fml
  Rest = fsep (fsep Token (Heap.own_val d.alloc (h ∷ []))) (cell_at full_share (handle.the_row).mir (word (vptr b o) h true ∷ []) rb ro)

  back : d.at ≡ block_ptr b o → d.full ≡ true → (w : run_row.Denot) → ent 𝓤 (sep 𝓤 (sem 𝓛 ((mem run_row).own_at w b o)) (sem 𝓛 Rest)) (sem 𝓛 ((mem handle.the_row).own_at (handle_with d w) rb ro))
  unfolding part_of
  back at_b full w =
      let made : (handle.the_row).Denot = record { at = block_ptr b o; alloc = d.alloc; full = true; value = w } in
      let same : made ≡ handle_with d w = λ i. record { at = sym at_b i; alloc = d.alloc; full = sym full i; value = w } in
      qed 𝓛 (‵ (part_at run_row full_share w b o) ∷ ‵ Rest ∷ []) ∵ move ! (1 ∷ []) $ fsplit ! $ fsplit ! $ move ! (3 ∷ 0 ∷ []) $ fjoin ! $
      handle_in ! (block_ptr b o) h true d.alloc w $ rewrite ! 0 (λ (x : (handle.the_row).Denot). ‵ ((handle.the_row).own_val x (word (vptr b o) h true ∷ []))) same refl $ move ! (1 ∷ 0 ∷ []) $ fjoin ! $
      fpack ! (List Val) (λ us. fsep (cell_at full_share (handle.the_row).mir us rb ro) ((handle.the_row).own_val (handle_with d w) us)) (word (vptr b o) h true ∷ []) $ done !

pub lend_spec : {M : Type 1} → statement M
lend_spec 𝓤 𝓛 𝓜 𝓡 wired =
    let H = 𝓛.H in let 𝓣 = tables 𝓤 H 𝓜 𝓡 𝓡.env in let R : RattleType = run_row in let En = ended in let c = clauses 𝓛 𝓜.mem 𝓡.returns in
    let fn = code.function in let Hd : RattleType = handle.the_row in let hs : Stays En.signature.params En.kept = (stay_dropped (RefMutOf (0 ∷ []) tt (plain (λ _. Hd)) (λ _. tt)) no, tt) in
    proved 𝓛 En hs c 𝓜 𝓡 (Goes-spent_ref 𝓛 1 (0 ∷ []) tt (plain (λ _. Hd)), tt) #self fn (code.unfolded 𝓤 H 𝓜 𝓡 wired) (λ κs. (mut_vals, tt)) (λ κs. (mut_Tells (named 0) κs.0 Hd, tt)) (λ κs qs bounds a gh are.
    let rb : ℕ = a.0.ref_ptr.0 in let ro : ℕ = a.0.ref_ptr.1 in let γ : GName = a.0.ghost_name in let d : Hd.Denot = a.0.now in let κ : Lft = κs.0 in let q : Share = qs.0 in
    let y : (walk_of 𝓛 En hs c).Ghost = ((κs, qs, bounds, a, (vptr rb ro ∷ [], tt)), gh) in let Post : Val → SProp 𝓤 = (walk_of 𝓛 En hs c).post y in
    qed 𝓛 (((‵ (flft κ q) ⊛ ‵ ftrue) ⊛ ‵ (owns (types_at En.signature.params κs) a y.0.4)) ∷ raw (fact 𝓤 (d.full ≡ true)) ∷ []) ∵ move ! (1 ∷ []) $ heard ! (d.full ≡ true) (λ full.
    split ! $ split ! $ move ! (2 ∷ []) $ fsplit ! $ fsplit3 ! $ keep ! (1 ∷ 2 ∷ 4 ∷ []) $
    enter ! 𝓣.C 𝓣.Λ fn (vptr rb ro ∷ []) Post $ alloc_all ! (λ l. pass_all ! refl ((tt, tt), tt) $ let Ev = env fn.locals l in
    opens ! tt Hd {h = d} rb ro (λ vs. move ! (1 ∷ []) $ handle_out ! d vs (λ h ws fits.
    rewrite ! 0 (λ (t : Bool). ‵ (held t d.alloc d.at d.value)) full refl $
    in_a_block ! d.at (λ p. box_owns (ghosts.dealloc_token d.alloc) R p d.value) (fst∗ 𝓤 (never 𝓤) (sem 𝓛 (ghosts.dealloc_token d.alloc (bare (lone R.mir)) null_ptr))) (λ b o at_b.
    let val : Val = vptr b o in let us : List Val = word val h true ∷ [] in let F : R.Denot → Hd.Denot = handle_with d in let Left : SProp 𝓤 = sem 𝓛 (Rest 𝓛 rb ro b o h d) in
    let ev : vs ≡ us = subst (λ (p : Ptr). vs ≡ word (ptr_val p) h true ∷ []) at_b (subst (λ (t : Bool). vs ≡ word (ptr_val d.at) h t ∷ []) full ws) in
    -- [the domain; the right to free its block, with the handle of the heap; the word; the open borrow; obs; auth]
    fsplit ! $ move ! (1 ∷ 2 ∷ []) $ fjoin ! $ move ! (1 ∷ []) $ rewrite ! 2 (λ (xs : List Val). ‵ (cell_at full_share Hd.mir xs rb ro)) ev refl $
    first ! $ blocks ! $ sets ! (of_opd ! (load ! (through ! refl (fld ! refl (stop !))) (look_in ! 2 (sub ! 0 refl (whole !))))) refl (tt, tt) $
    sets ! (of_opd ! (get ! refl)) refl (tt, tt) $ sets_last ! (addr ! (through ! refl (stop !))) refl (tt, tt) $ exec ! 𝓣.C 𝓣.Λ Ev (after 1 fn.body) (at_ret Ev Post) $ sets ! (of_opd ! (get ! refl)) refl (tt, tt) $
    move ! (1 ∷ 2 ∷ []) $ fjoin ! $ move ! (2 ∷ 3 ∷ 4 ∷ 1 ∷ 0 ∷ []) $ group ! 5 $
    use1 𝓛 (later (some (λ (γ' : GName). ‵ ((MutRef (named 0) κ R).own_val (record { ref_ptr = (b, o); ghost_name = γ'; now = d.value }) (val ∷ [])) ⊛ ‵ (flft κ q) ⊛ ‵ (follows Hd R γ γ' F))))
    (lends_Part 𝓛 Hd R F (named 0) κ q rb ro b o γ Left (back 𝓛 rb ro b o h d at_b full) (Hd.coded.code d) (Hd.coded.code d) d.value) $ await ! tt $ pick ! (λ γ'. split3 ! $
    returns ! (look_at ! 0 refl) $ free_all ! refl $ keep ! (0 ∷ 1 ∷ 2 ∷ []) $
    suffices ! _ (ends_at 𝓛 En hs c y val (record { ref_ptr = (b, o); ghost_name = γ'; now = d.value }) (tt, tt) (tt, tt)) $
    nothing ! $ nothing ! $ fjoin ! $ join ! $ nothing ! $ move ! (2 ∷ 0 ∷ []) $ join ! $ join ! $ frame ! $ says ! refl $ done !)))))))
