-- `is_full` reads whether there is a domain in a handle.
use Rattle.std.proofs.Common.{ℕ, List, [], ◌∷◌, refl}
use base.Fraction.{full_share}
use mir.Syntax.{named}
use mir.Val.{Val, vptr, vbool}
use base.Fml.{Lft, Share, ftrue, flft}
use base.Logic.{SProp}
use types.Kit.{‵, ◌⊛◌, raw, ◌$◌, ◌∵◌, !, qed, move, keep, split, join, fsplit, fsplit3, fjoin, fjoin3, suffices, frame, rewrite, feq_i, done}
use types.Run.{stop, fld, load, of_opd, returns, enter}
use types.ByLocal.{alloc_all, pass_all, free_all, look_at, through, sets}
use types.Part.{sub, whole, look_in}
use contract.Running.{tables}
use denote.Memory.{cell_at}
use denote.RattleType.{RattleType, owns}
use denote.RawPtr.{ptr_val}
use denote.Ref.{mut_vals, mut_Tells}
use denote.Signature.{types_at, plain}
use denote.Steps.{opens, closes, nothing}
use denote.Triple.Walked.{says, Stays, stay_ref, walk_of, ends_at, Goes-ref}
use Rattle.std.proofs.raw_atomic.Walks.{proved}
use Rattle.camlheap_c.specs.contracts.handle.CamlheapDomain as handle
use Rattle.camlheap_c.proofs.Values.{word, handle_out, handle_in}
use Rattle.camlheap_c.specs.contracts.handle.CamlheapDomain.is_full.{ended, clauses}
use Rattle.camlheap_c.specs.contracts.handle.CamlheapDomain.is_full.Key.{name as #self}
use Rattle.camlheap_c.proofs.handle.CamlheapDomain.is_full.Statement.{statement}
use Rattle.camlheap_c.proofs.handle.CamlheapDomain.is_full.Code as code

pub is_full_spec : {M : Type 1} → statement M
is_full_spec 𝓤 𝓛 𝓜 𝓡 wired =
    let H = 𝓛.H in let 𝓣 = tables 𝓤 H 𝓜 𝓡 𝓡.env in let En = ended in let c = clauses 𝓛 𝓜.mem 𝓡.returns in
    let fn = code.function in let Hd : RattleType = handle.the_row in let hs : Stays En.signature.params En.kept = (stay_ref (0 ∷ []) tt (plain (λ _. Hd)), tt) in
    proved 𝓛 En hs c 𝓜 𝓡 (Goes-ref 𝓛 1 0 tt (plain (λ _. Hd)), tt) #self fn (code.unfolded 𝓤 H 𝓜 𝓡 wired) (λ κs. (mut_vals, tt)) (λ κs. (mut_Tells (named 0) κs.0 Hd, tt)) (λ κs qs bounds a gh are.
    let rb : ℕ = a.0.ref_ptr.0 in let ro : ℕ = a.0.ref_ptr.1 in let d : Hd.Denot = a.0.now in let κ : Lft = κs.0 in let q : Share = qs.0 in
    let y : (walk_of 𝓛 En hs c).Ghost = ((κs, qs, bounds, a, (vptr rb ro ∷ [], tt)), gh) in let Post : Val → SProp 𝓤 = (walk_of 𝓛 En hs c).post y in
    qed 𝓛 (((‵ (flft κ q) ⊛ ‵ ftrue) ⊛ ‵ (owns (types_at En.signature.params κs) a y.0.4)) ∷ raw ((c κs a).requires gh) ∷ []) ∵
    split ! $ split ! $ move ! (2 ∷ []) $ fsplit ! $ fsplit3 ! $ keep ! (1 ∷ 2 ∷ 4 ∷ []) $
    enter ! 𝓣.C 𝓣.Λ fn (vptr rb ro ∷ []) Post $ alloc_all ! (λ l. pass_all ! refl ((tt, tt), tt) $
    opens ! tt Hd {h = d} rb ro (λ vs. move ! (1 ∷ []) $ handle_out ! d vs (λ h ws fits.
    let w : Val = word (ptr_val d.at) h d.full in
    -- [the box, where there is one; the handle of the heap; the word; the open borrow; obs; auth]
    rewrite ! 2 (λ (xs : List Val). ‵ (cell_at full_share Hd.mir xs rb ro)) ws refl $
    sets ! (of_opd ! (load ! (through ! refl (fld ! refl (stop !))) (look_in ! 2 (sub ! 2 refl (whole !))))) refl (tt, tt) $
    handle_in ! d.at h d.full d.alloc d.value $ move ! (1 ∷ 0 ∷ []) $ closes ! tt Hd d (w ∷ []) rb ro $
    returns ! (look_at ! 0 refl) $ free_all ! refl $ keep ! (0 ∷ 1 ∷ 2 ∷ []) $
    suffices ! _ (ends_at 𝓛 En hs c y (vbool d.full) d.full (d, tt) (tt, tt)) $ says ! (refl, refl) $
    nothing ! $ move ! (3 ∷ 0 ∷ []) $ join ! $ frame ! $ feq_i ! (List Val) (vptr rb ro ∷ []) (vptr rb ro ∷ []) refl $ fjoin3 ! $ nothing ! $ move ! (1 ∷ 0 ∷ []) $ fjoin ! $
    feq_i ! (List Val) (vbool d.full ∷ []) (vbool d.full ∷ []) refl $ move ! (1 ∷ 0 ∷ []) $ done !))))
