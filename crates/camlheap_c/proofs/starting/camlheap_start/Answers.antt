use Rattle.std.proofs.Common.{◌≡◌, ℕ, ◌+◌, ◌<◌, ◌≤◌, ◌∙◌, List, length, Err, Some, sym, ap, subst, arith}
use Rattle.std.proofs.lemmas.List.{length-map}
use Rattle.run_seats.specs.Shared.Sharing.{SharedView}
use Rattle.camlheap_c.specs.Exported.{config_of}
use Rattle.camlheap_c.proofs.Handing.{outside_few, shared_count}
use Rattle.camlheap_c.proofs.starting.camlheap_start.Goals as goal

-- the field that was found outside
pub outside_code-requires : goal.outside_code-requires
outside_code-requires c =
    let k = c.in-Err-Config.field in
    let is = (c.make_all.ensures.outside k).0 (c.in-Err-Config.is ∙ ap Err c.in-Err-Config.field-0-is) in
    subst (λ (n : ℕ). n < 6) (sym c.in-Err-Config.field-is) (outside_few (config_of c.args.config.now) k is).1

pub returns-in-Err-Config-clause-outside : goal.returns-in-Err-Config-clause-outside
returns-in-Err-Config-clause-outside c room other k =
    let f = c.in-Err-Config.field in
    let is = (c.make_all.ensures.outside f).0 (c.in-Err-Config.is ∙ ap Err c.in-Err-Config.field-0-is) in
    let told = c.outside_code.ensures ∙ ap (λ (n : ℕ). 32 + n) c.in-Err-Config.field-is in (
      λ this. (let same : f ≡ k = (let a = sym told ∙ this in omega (arith, a)) in is ∙ ap Some same),
      λ that. (let both : Some f ≡ Some k = sym is ∙ that in let same : f ≡ k = cc in told ∙ ap (λ (n : ℕ). 32 + n) same),
    )

pub returns-in-Err-Config-clause-told : goal.returns-in-Err-Config-clause-told
returns-in-Err-Config-clause-told c a b d e =
    let f = c.in-Err-Config.field in
    let is = (c.make_all.ensures.outside f).0 (c.in-Err-Config.is ∙ ap Err c.in-Err-Config.field-0-is) in
    let told : c.outside_code.result ≡ 32 + f = c.outside_code.ensures ∙ ap (λ (n : ℕ). 32 + n) c.in-Err-Config.field-is in
    let low : 1 ≤ f = (outside_few (config_of c.args.config.now) f is).0 in
    omega (arith, told, low)

pub returns-in-Err-Memory-clause-outside : goal.returns-in-Err-Memory-clause-outside
returns-in-Err-Memory-clause-outside c room other k =
    let o = c.make_all.ensures.outside k in
    (λ told. absurd (omega (arith, told)), λ is. let q = o.1 is in let r = c.in-Err-Memory.is in let s = c.in-Err-Memory.field-0-is in cc)

pub returns-in_default-clause-outside : goal.returns-in_default-clause-outside
returns-in_default-clause-outside c room other k =
    let o = c.make_all.ensures.outside k in
    (λ told. absurd (omega (arith, told)), λ is. let q = o.1 is in let r = c.in-Ok.is in cc)

pub hand_out-requires : goal.hand_out-requires
hand_out-requires c =
    let made = c.in-Ok.ensures.shared in
    let first = length-map c.in-Ok-boxed.boxes.items (λ b. b.value) in
    let same = ap (λ (xs : List SharedView). length xs) (c.in-Ok-boxed.ensures ∙ made.runs) in
    let count = shared_count made.heap made.heap.config 0 made.heap.config.domains in
    let size : made.heap.config.domains ≡ c.args.config.now.domains = ap (λ k. k.domains) made.size in
    let room = c.if-handles-config.false in
    record { room = omega (arith, first, same, count, size, room) }

pub returns-clause-outside : goal.returns-clause-outside
returns-clause-outside c room other k =
    let o = c.make_all.ensures.outside k in
    (λ told. absurd (omega (arith, told)), λ is. let q = o.1 is in let r = c.in-Ok.is in cc)
