use Rattle.std.proofs.Common.{◌≡◌, ◌<◌, ◌∙◌, List, length, get_or, ap, sym, arith}
use Rattle.camlheap_c.specs.declared.handle.CamlheapDomain.{CamlheapDomain}
use Rattle.camlheap_c.proofs.Handing.{found_at, still_none}
use Rattle.camlheap_c.proofs.starting.is_any_full.Goals as goal

pub handles-preserved : goal.handles-preserved
handles-preserved c =
    let below = c.handles-test.true in
    let few = c.requires.room in
    let same = ap (λ (hs : List CamlheapDomain). length hs) c.handles.invariant.same in
    let room : c.handles.at < length c.handles.handles = omega (arith, below, few, same) in
    let d : CamlheapDomain = get_or c.handles.handles c.handles.at c.index-handles-at.result in
    let there = found_at c.handles.handles c.handles.at c.index-handles-at.result room in
    let kept = still_none c.handles.handles c.handles.at d c.is_full.new.self there c.is_full.ensures.1 (sym c.is_full.ensures.0 ∙ c.if-is_full.false) c.handles.invariant.none in
    record { same = kept.0 ∙ c.handles.invariant.same; none = kept.1 }
