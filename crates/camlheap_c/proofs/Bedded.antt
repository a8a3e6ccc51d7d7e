-- The machine values of a handle of a bed. Assumes `Logic`.
use Rattle.std.proofs.Common.{◌≡◌, List, [], ◌∷◌, ◌++◌, refl, lit<}
use mathlib.Core.Bool.{Bool, true}
use mathlib.Core.Path.{◌∙◌}
use seplogic.Ra.Ura.{Ura}
use mir.Val.{Val, vbool, vstruct, of_list, has_ty}
use base.Fml.{ftrue}
use types.Logic.{Logic}
use types.Kit.{Item, Goal, Seq, Step, step, ‵, ◌$◌, move, drop, fsplit, fjoin, fpick, fpack, feq_i, feq_l}
use denote.RattleType.{Valss}
use denote.Builtin.{RawPtr, bool}
use denote.RawPtr.{Ptr, block_ptr, null_ptr, ptr_val}
use denote.Steps.{nothing}
use denote.Param.{layout}
use denote.Struct.Struct.{within}
use denote.Struct.Owning.{shape}
use Rattle.core.proofs.alloc.Calls.{handle_tells}
use Rattle.core.proofs.cell.Inside.{Good}
use Rattle.std_alloc.specs.Box.Ownership.{box_owns}
use Rattle.std.specs.Prelude.{cond}
use Rattle.std.specs.contracts.alloc.Global as heap
use Rattle.std.specs.contracts.impls.GlobalAllocator.TheImpl.{ghosts}
use Rattle.run_seats.specs.contracts.shared.bed.RunBed.{the_row as bed_row}
use Rattle.camlheap_c.specs.contracts.bed.CamlheapBed as handle
use Rattle.camlheap_c.proofs.Values.{Heap, al_heap, three_tt, word}

-- what it owns besides its fields
abbrev pub held : (t : Bool) → Heap.Denot → Ptr → bed_row.Denot → base.Fml.Fml
held t a p x = cond t (box_owns (ghosts.dealloc_token a) bed_row p x) ftrue

pub word_good : (p : Ptr) (h : Val) (t : Bool) → Good (layout Heap) h → Good (layout handle.the_row) (word (ptr_val p) h t)
word_good null_ptr h t fits = (three_tt true (has_ty (layout Heap) h) true tt fits.0 tt, (record { fits = lit< tt }, (fits.1, (tt, tt))))
word_good (block_ptr b o) h t fits = (three_tt true (has_ty (layout Heap) h) true tt fits.0 tt, (tt, (fits.1, (tt, tt))))

module _ {M : Type 1} {𝓤 : Ura M} {𝓛 : Logic 𝓤} {K : Type 0} {Γ : List (Item 𝓤)} {G : Goal 𝓤 𝓛.H} where
  pub handle_out : K → (d : (handle.the_row).Denot) (vs : List Val)
      → ((h : Val) → vs ≡ word (ptr_val d.at) h d.full ∷ [] → Good (layout Heap) h → Seq K 𝓛 (‵ (held d.full d.alloc d.at d.value) ∷ ‵ (Heap.own_val d.alloc (h ∷ [])) ∷ Γ) G)
      → Seq K 𝓛 (‵ ((handle.the_row).own_val d vs) ∷ Γ) G
  handle_out t d vs k =
      fsplit t $ fpick t (λ vss. fsplit t $ feq_l t (λ ev. fsplit t $ feq_l t (λ ep. fsplit t $ handle_tells al_heap t d.alloc vss.1.0 (λ h ea fits. move t (1 ∷ []) $ fsplit t $ feq_l t (λ eb. drop t $ move t (1 ∷ []) $
      k h (ev ∙ (λ j. vstruct (of_list (ep j ++ (ea j ++ (eb j ++ [])))) ∷ [])) fits)))))

  pub handle_in : K → (p : Ptr) (h : Val) (u : Bool) (a : Heap.Denot) (x : bed_row.Denot)
      → Step K 𝓛 (‵ ((handle.the_row).own_val (record { at = p; alloc = a; full = u; value = x }) (word (ptr_val p) h u ∷ [])) ∷ Γ) G (‵ (held u a p x) ∷ ‵ (Heap.own_val a (h ∷ [])) ∷ Γ) G
  handle_in t p h u a x = step (λ s. let v : Val = word (ptr_val p) h u in
      nothing t $ feq_i t (List Val) (vbool u ∷ []) (vbool u ∷ []) refl $ fjoin t $ move t (2 ∷ 0 ∷ []) $ fjoin t $ feq_i t (List Val) (ptr_val p ∷ []) (ptr_val p ∷ []) refl $ fjoin t $ feq_i t (List Val) (v ∷ []) (v ∷ []) refl $ fjoin t $
      fpack t (Valss (RawPtr ∷ (heap.the_field).row ∷ bool ∷ [])) (within (shape handle.the_type) (p, ((heap.the_field).into a, (u, tt))) (v ∷ [])) (ptr_val p ∷ [], (h ∷ [], (vbool u ∷ [], tt))) $ fjoin t $ s)
