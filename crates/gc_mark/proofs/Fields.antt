-- The scan of fields.
use Rattle.std.proofs.Common.{◌≡◌, ℕ, ◌+◌, ◌<◌, Bool, cond, true, Some, ⊎_elim, sym, refl, ap, subst, ◌∙◌}
use Rattle.heap_words.specs.declared.colours.Colours.{Colours}
use Rattle.heap_words.specs.declared.value.Value.{Value}
use Rattle.heap_words.specs.declared.value.Value.TheVariants.{Int, Ref, Nothing}
use Rattle.heap_words.specs.Values.{IsPackable, value_word}
use Rattle.heap_words.proofs.WordLemmas.{value_word-injective}
use Rattle.heap_rule.specs.declared.config.Config.{Config}
use Rattle.heap_rule.specs.declared.phase.Kind.{Kind}
use Rattle.heap_rule.specs.declared.phase.Kind.TheVariants.{Mark, Rounds}
use Rattle.heap_rule.specs.declared.phase.Stage.{Stage}
use Rattle.heap_rule.specs.declared.phase.Stage.TheVariants.{In}
use Rattle.heap_rule.specs.declared.view.DomainView.{DomainView}
use Rattle.heap_rule.specs.declared.view.Scan.{Scan}
use Rattle.heap_rule.specs.declared.view.Scan.TheVariants.{Holds, Reads}
use Rattle.heap_rule.specs.Token.{IsAddress}
use Rattle.step_marks.specs.Marking.Looks.{with_share}
use Rattle.step_marks.specs.Marking.Marking.{Field, IsDarkening, IsScanning, ScanMay, ScanTold, scanned_on}
use Rattle.gc_mark.specs.Shares.{Darkens, ScansBlocks, darkened, field_on, fields_to, owes_after, scanning}

-- in a phase in which blocks are scanned they are darkened too, and whoever darkens one owes a store of the changed word
pub scanning_kind : (stage : Stage) → ScansBlocks stage → (kind : Kind) × (stage ≡ In kind) × IsScanning kind × IsDarkening kind
scanning_kind stage is = ⊎_elim (λ (e : stage ≡ In Mark). (Mark, e, tt, tt)) (λ (e : stage ≡ In Rounds). (Rounds, e, tt, tt)) is

owes_scanning : (stage : Stage) (won owes : Bool) → ScansBlocks stage → owes_after stage won owes ≡ cond won true owes
owes_scanning stage won owes is = ⊎_elim (λ (e : stage ≡ In Mark). ap (λ (s : Stage). owes_after s won owes) e) (λ (e : stage ≡ In Rounds). ap (λ (s : Stage). owes_after s won owes) e) is

-- the value that was read is the one that was told
pub value_is : (k : Config) (x y : DomainView) (word : ℕ) (v : Value) → ScanTold k x word y → IsPackable v × (value_word v ≡ word) → (u : Value) × (u ≡ v) × (y ≡ with_share x (record x.seen.share { scan = scanned_on x.seen.share.scan u })) × ((a : ℕ) → u ≡ Ref a → IsAddress k a)
value_is k x y word v t r = (t.value, value_word-injective t.value v t.packable r.0 (sym t.word ∙ sym r.1), t.view, t.inside)

-- the field refers to a block, which is to be marked
pub field_darkens : (k : Config) (x y : DomainView) (at word a : ℕ) (v : Value) (colours : Colours) → ScansBlocks x.seen.stage → ScanMay x at → x.seen.share.colours ≡ Some colours → ScanTold k x word y → IsPackable v × (value_word v ≡ word) → v ≡ Ref a → IsAddress k a × Darkens colours a Field y
field_darkens k x y at word a v colours phase may known t r is =
    let n = scanning_kind x.seen.stage phase in
    let u = value_is k x y word v t r in
    let e : u.0 ≡ Ref a = u.1 ∙ is in
    let s : scanned_on x.seen.share.scan u.0 ≡ Holds may.block may.done may.size may.head a = (λ i. scanned_on (may.scan i) (e i)) in (
      u.3 a e,
      subst (Darkens colours a Field) (sym u.2) record { kind = n.0; stage = n.1; darkening = n.3; known = known; reason_is = (may.block, may.done, may.size, may.head, s) },
    )

-- and once it is, the field is done
pub field_darkened : (k : Config) (x y z : DomainView) (at word a : ℕ) (v : Value) (won : Bool) → ScansBlocks x.seen.stage → ScanMay x at → ScanTold k x word y → IsPackable v × (value_word v ≡ word) → v ≡ Ref a → z ≡ darkened Field a won y → z ≡ with_share x (scanning x.seen.share z.seen.share (field_on x.seen.share.scan) won)
field_darkened k x y z at word a v won phase may t r is marks =
    let u = value_is k x y word v t r in
    let s : scanned_on x.seen.share.scan u.0 ≡ Holds may.block may.done may.size may.head a = (λ i. scanned_on (may.scan i) ((u.1 ∙ is) i)) in
    let held : DomainView = with_share x (record x.seen.share { scan = Holds may.block may.done may.size may.head a }) in
    let d : DomainView = darkened Field a won held in
    let e : y ≡ held = u.2 ∙ ap (λ (n : Scan). with_share x (record x.seen.share { scan = n })) s in
    let path : z ≡ with_share x (scanning x.seen.share d.seen.share (field_on x.seen.share.scan) won) = marks ∙ ap (darkened Field a won) e
    ∙ ap (λ (o : Bool). with_share x (record (scanning x.seen.share d.seen.share (field_on (Reads may.block may.done may.size may.head)) won) { owes = o })) (owes_scanning x.seen.stage won x.seen.share.owes phase)
    ∙ ap (λ (n : Scan). with_share x (scanning x.seen.share d.seen.share (field_on n) won)) (sym may.scan) in
    subst (λ (v : DomainView). v ≡ with_share x (scanning x.seen.share v.seen.share (field_on x.seen.share.scan) won)) (sym path) refl

-- the next field may be loaded
pub fields_may : (x v : DomainView) (won : Bool) (i block size head : ℕ) → ScansBlocks x.seen.stage → x.seen.share.scan ≡ Reads block 0 size head → v ≡ with_share x (scanning x.seen.share v.seen.share (fields_to i x.seen.share.scan) won) → i < size → ScanMay v (block + 2 + i)
fields_may x v won i block size head phase begun view more = let n = scanning_kind x.seen.stage phase in record { kind = n.0; stage = ap (λ (z : DomainView). z.seen.stage) view ∙ n.1; scanning = n.2; block = block; done = i; size = size; head = head; scan = ap (λ (z : DomainView). z.seen.share.scan) view ∙ ap (fields_to i) begun; more = more; word = refl }

passed_on : (x : DomainView) (at : ℕ) (v : Value) → ScanMay x at → ((a : ℕ) → v ≡ Ref a → ⊥) → scanned_on x.seen.share.scan v ≡ field_on x.seen.share.scan
passed_on x at (Ref a) may other = absurd (other a refl)
passed_on x at (Int z) may other = (λ i. scanned_on (may.scan i) (Int z)) ∙ sym (ap field_on may.scan)
passed_on x at Nothing may other = (λ i. scanned_on (may.scan i) Nothing) ∙ sym (ap field_on may.scan)

-- the field refers to no block, and is done
pub field_passed : (k : Config) (x y : DomainView) (at word : ℕ) (v : Value) → ScanMay x at → ScanTold k x word y → IsPackable v × (value_word v ≡ word) → ((a : ℕ) → v ≡ Ref a → ⊥) → y ≡ with_share x (record x.seen.share { scan = field_on x.seen.share.scan })
field_passed k x y at word v may t r other =
    let u = value_is k x y word v t r in
    u.2 ∙ ap (λ (s : Scan). with_share x (record x.seen.share { scan = s })) (ap (scanned_on x.seen.share.scan) u.1 ∙ passed_on x at v may other)
