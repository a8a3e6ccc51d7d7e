-- The claim of a young block: where its head is found as it was met, the prepared place is its copy.
use Rattle.std.proofs.Common.{rules, nat_le, ◌≡◌, ◌≢◌, ℕ, zero, suc, ◌+◌, ◌-◌, ◌*◌, ◌^◌, ◌/◌, ◌<◌, ◌≤◌, ◌⊎◌, Bool, true, false, eqb, eq-eqb, ne_eqb, if◌then◌else◌, List, [], ◌∷◌, ◌++◌, length, get_or, set, slice_get, Option, Some, None, unwrap_or, sym, refl, ap, ◌∙◌, subst, inl, inr, ⊎_elim, arith, lt_of_not-le, length-set, get_or-set_same, get_or-set_other, suc-mul, IsTrue}
use Rattle.std.proofs.Math.Nat.{mul-le-mul_left}
use mathlib.Core.Logic.{dite}
use native.Mathlib.Decide.{ℕ_discrete, dec_le}
use mathlib.Core.Option.{some}
use lib.ListN.{get_elem?}
use lib.Seq.{set-get_or}
use prog.Atomic.{either}
use Rattle.atomic_table.specs.Table.{keeps}
use Rattle.heap_words.specs.declared.classes.TheConstants.{SIZES}
use Rattle.heap_words.specs.Classes.Table.{IsLeastFor}
use Rattle.model_core.specs.declared.entry.Entry.{Entry}
use Rattle.model_core.specs.declared.label.Label.{Label}
use Rattle.model_core.specs.Domains.{class_count, reserve}
use Rattle.model_core.specs.Fronts.{Shape, PlainShape, RawShape, EpheShape}
use Rattle.model_core.specs.Graph.{Graph}
use Rattle.heap_words.specs.declared.head.Head.TheVariants.{Forward}
use Rattle.heap_words.specs.Heads.{head_word}
use Rattle.heap_words.specs.Labels.{label_word}
use Rattle.heap_rule.specs.declared.config.Config.{Config}
use Rattle.heap_rule.specs.declared.view.Copied.{Copied}
use Rattle.heap_rule.specs.declared.view.Hunt.TheVariants.{Rests, Heads}
use Rattle.heap_rule.specs.declared.view.Met.{Met}
use Rattle.heap_rule.specs.declared.view.Owing.{Owing}
use Rattle.heap_rule.specs.declared.view.DomainView.{DomainView}
use Rattle.heap_rule.specs.Copies.{met_place, known, debt_of, HasCopy, IsCopied, IsOwed, IsField, Owes, Copies, Leads, Promoting, Cleared}
use Rattle.heap_rule.specs.Layout.{heap_words, before_heap, base_of, at_address}
use Rattle.heap_rule.specs.Limits.{sizes_in}
use Rattle.heap_rule.specs.Phases.{sum_of}
use Rattle.heap_rule.specs.Places.{Debt, Place, Live, extent, span, class_words, least_size, HeadIs, IsNewHead, colour_in, new_colour, Found, Fits, Placed, Spread, Lasts, More, head_of}
use Rattle.heap_rule.specs.Pools.{Stock, limit_of, owned, drawn_in, Tenancy, Hunts, Hunter, OwnPlace, Lot, Grid, Latest, DrawsFor, Drawers, IsCopying, place_in, size_of, blocks_of, prepared_at}
use Rattle.heap_rule.specs.Raw.{MayStep, Closes}
use Rattle.heap_rule.specs.Room.{count, drawn_in_all, copied_words, Room, Opened}
use Rattle.heap_rule.specs.Rule.{state_of, AllFound, Area, Making, Rule}
use Rattle.heap_rule.specs.Ephemerons.{IsEpheAt}
use Rattle.heap_rule.specs.Token.{OwnFits}
use Rattle.heap_rule.specs.Views.{one}
use Rattle.step_promote.specs.Claims.{preparing, pushed, ClaimMay, ClaimTold}
use Rattle.step_promote.specs.Promotion.{met_of, Knows}
use Rattle.step_promote.specs.Writes.{CanClaim, Claims}
use Rattle.heap_rule.proofs.Fits.{fits_with}
use Rattle.heap_rule.proofs.Again.{met_fits}
use Rattle.heap_rule.proofs.Beside.{found_beside, making_beside, live_word_far}
use Rattle.heap_rule.proofs.Classes.{size_least}
use Rattle.heap_rule.proofs.Counting.{joined_with, joined_cases, claim_counts, claim_few, sum_le, sum_times}
use Rattle.heap_rule.proofs.Drops.{debt_cases}
use Rattle.heap_rule.proofs.Holders.{SameFor, agrees_same, hunter_agree}
use Rattle.heap_rule.proofs.Garbage.{KeepsGarbage}
use Rattle.heap_rule.proofs.Keeps.{Words, mine, my_good, control_set, pools_same, opened_words, more_same, stands_more, hunter_as}
use Rattle.heap_rule.proofs.PauseFacts.{promote_now, promote_here}
use Rattle.heap_rule.proofs.Lots.{area_beside, hunter_beside, number_cases, place_low}
use Rattle.heap_rule.proofs.Update.{over, over_here, over_else}
use Rattle.heap_rule.proofs.Values.{extent_large}
use Rattle.step_promote.proofs.Meets.{form_shape, knows_more, known_more}
use Rattle.step_promote.proofs.OwnPlaces as places
use Rattle.step_promote.proofs.OwnPlaces.{place_sole, same_prepared, spare_clean}
use Rattle.step_promote.proofs.Preparing.{prepared_here, prepared_else}
use Rattle.step_promote.proofs.Registers.{promote_once}
use Rattle.step_promote.proofs.Remaking.{keeps_words, promotes_again, stood_same, young_colour}
use Rattle.heap_rule.proofs.HeadLemmas.{head_at}
use Rattle.heap_rule.proofs.FullnessLemmas.{full_filled}
use Rattle.heap_rule.specs.Fullness.{Homes, Fullness}
use Rattle.model_cycle.specs.Pools.{with_pool}
use Rattle.std.proofs.lemmas.Option.{none-some, same_Some}

-- lists that grow at their end
got_front : {A : Type 0} (l : List A) (v a : A) (i : ℕ) → slice_get l i ≡ Some a → slice_get (l ++ v ∷ []) i ≡ Some a
got_front [] v a i e = cc
got_front (x ∷ l) v a zero e = e
got_front (x ∷ l) v a (suc i) e = got_front l v a i e

got_end : {A : Type 0} (l : List A) (v : A) → slice_get (l ++ v ∷ []) (length l) ≡ Some v
got_end [] v = refl
got_end (x ∷ l) v = got_end l v

got_either : {A : Type 0} (l : List A) (v a : A) (i : ℕ) → slice_get (l ++ v ∷ []) i ≡ Some a → (slice_get l i ≡ Some a) ⊎ ((i ≡ length l) × (Some v ≡ Some a))
got_either [] v a zero e = inr (refl, e)
got_either [] v a (suc i) e = cc
got_either (x ∷ l) v a zero e = inl e
got_either (x ∷ l) v a (suc i) e = ⊎_elim (λ (h : slice_get l i ≡ Some a). inl h) (λ (h : (i ≡ length l) × (Some v ≡ Some a)). inr (ap suc h.0, h.1)) (got_either l v a i e)

longer : {A : Type 0} (l : List A) (v : A) → length (l ++ v ∷ []) ≡ length l + 1
longer [] v = refl
longer (x ∷ l) v = let h : length (l ++ v ∷ []) ≡ length l + 1 = longer l v in omega arith

-- where one number is more by so much, so is the sum
pub sum_more : (f g : ℕ → ℕ) (j e n : ℕ) → j < n → g j ≡ f j + e → ((i : ℕ) → i ≢ j → g i ≡ f i) → sum_of g n ≡ sum_of f n + e
sum_more f g j e zero below more same = absurd (omega arith)
sum_more f g j e (suc n) below more same = dite (ℕ_discrete n j)
    (λ here.
    let a : sum_of g n ≡ sum_of f n = sum_past n (let h : n ≡ j = here in omega arith) in
    let b : g n ≡ f n + e = ap g here ∙ (more ∙ ap (λ (i : ℕ). f i + e) (sym here)) in
    let x : ℕ = sum_of f n in let y : ℕ = f n in let h : x + (y + e) ≡ x + y + e = omega arith in (λ i. a i + b i) ∙ h)
    (λ other.
    let a : sum_of g n ≡ sum_of f n + e = sum_more f g j e n (let h : n ≢ j = other in omega arith) more same in
    let b : g n ≡ f n = same n other in
    let x : ℕ = sum_of f n in let y : ℕ = f n in let h : x + e + y ≡ x + y + e = omega arith in (λ i. a i + b i) ∙ h)
  where
    sum_past : (m : ℕ) → m ≤ j → sum_of g m ≡ sum_of f m
    sum_past zero h = refl
    sum_past (suc m) h = let a = sum_past m (omega arith) in let b = same m (λ e. omega arith) in λ i. a i + b i

one_of : (f : ℕ → ℕ) (j n : ℕ) → j < n → f j ≤ sum_of f n
one_of f j zero below = absurd (omega arith)
one_of f j (suc n) below = dite (ℕ_discrete j n)
    (λ here. let x : ℕ = sum_of f n in let y : ℕ = f n in let z : ℕ = f j in let e : z ≡ y = ap f here in let g : z ≤ x + y = omega arith in g)
    (λ other. let x : ℕ = sum_of f n in let y : ℕ = f n in let z : ℕ = f j in let h : z ≤ x = one_of f j n (let o : j ≢ n = other in omega arith) in let g : z ≤ x + y = omega arith in g)

-- the head of a block isn't one that forwards
abbrev IsHeadWord : Shape → ℕ → Type 0
IsHeadWord shape word = (colour : ℕ) × (scanned : Bool) × HeadIs None shape colour scanned word

forwards_not : (shape : Shape) (word copy : ℕ) → IsHeadWord shape word → word ≡ head_word (Forward copy) → ⊥
forwards_not shape word copy h e = coloured shape h.0 h.1 (sym h.2 ∙ e) where
  coloured : (shape : Shape) (colour : ℕ) (scanned : Bool) → head_word (head_of None shape colour scanned) ≡ 3 + 2 ^ 32 * copy → ⊥
  coloured (PlainShape size tag) colour true e = let f : 1 + 8 * colour + 32 * 1 + 256 * tag + 65536 * size ≡ 3 + 2 ^ 32 * copy = e in omega arith
  coloured (PlainShape size tag) colour false e = let f : 1 + 8 * colour + 32 * 0 + 256 * tag + 65536 * size ≡ 3 + 2 ^ 32 * copy = e in omega arith
  coloured (RawShape size tag) colour true e = let f : 1 + 8 * colour + 32 * 1 + 256 * tag + 65536 * size ≡ 3 + 2 ^ 32 * copy = e in omega arith
  coloured (RawShape size tag) colour false e = let f : 1 + 8 * colour + 32 * 0 + 256 * tag + 65536 * size ≡ 3 + 2 ^ 32 * copy = e in omega arith
  coloured (EpheShape keys) colour true e = let f : 2 + 8 * colour + 32 * 1 + 256 * 0 + 65536 * keys ≡ 3 + 2 ^ 32 * copy = e in omega arith
  coloured (EpheShape keys) colour false e = let f : 2 + 8 * colour + 32 * 0 + 256 * 0 + 65536 * keys ≡ 3 + 2 ^ 32 * copy = e in omega arith

-- the least class for so many words has the words that a block of them takes
least_is : (sizes : List ℕ) (words c : ℕ) → c < length sizes → words ≤ get_or sizes c 0 → ((j : ℕ) → j < c → get_or sizes j 0 < words) → least_size sizes words ≡ get_or sizes c 0
least_is [] words c inside fits least = absurd (omega arith)
least_is (z ∷ zs) words zero inside fits least = ap (λ (b : Bool). if b then z else least_size zs words) (le_true words z fits)
  where
    le_true : (a b : ℕ) → a ≤ b → nat_le a b ≡ true
    le_true a b h = search (rules, arith)
least_is (z ∷ zs) words (suc c) inside fits least =
    ap (λ (b : Bool). if b then z else least_size zs words) (le_false words z (least 0 (omega arith)))
    ∙ least_is zs words c (omega arith) fits (λ j h. least (suc j) (omega arith))
  where
    le_false : (a b : ℕ) → b < a → nat_le a b ≡ false
    le_false a b h = search (rules, arith)

pub span_is : (shape : Shape) (class : ℕ) → IsLeastFor SIZES (extent shape) class → span shape ≡ size_of class
unfolding class_words size_of
span_is shape class l = least_is SIZES (extent shape) class l.inside l.fits l.least

module _ (k : Config) (s : Words) (r : Rule k s) (id : ℕ) (hist : List Entry) (x : DomainView) (at : get_elem? s.views id ≡ some (one k hist x)) (fits : OwnFits k x.own)
    (a old new class c : ℕ) (may : ClaimMay k x a old new class c) where
  open r.account use {tenancy as t, live}
  open x use {own.{number as me}}

  abbrev graph : Graph
  graph = (state_of k r.account.log).graph

  H : Hunter k t s.words x
  H = (my_good k s r id hist x at).hunter

  inside : me < k.domains
  inside = (mine k s r id hist x at).inside

  abbrev lasts : Lasts live a may.place
  lasts = (my_good k s r id hist x at).owes.knows a may.place may.met

  abbrev p : Place
  p = lasts.place

  lives : live a ≡ Some p
  lives = lasts.lives

  f0 : Found k r.account.cycling.paint live graph s.words a p
  f0 = r.whole.found a p lives

  ours : Hunts k t s.words me (Heads c may.label old)
  ours = subst (Hunts k t s.words me) may.hunt (my_good k s r id hist x at).hunter.hunt

  mine_is : t.prepared c ≡ Some me
  mine_is = ours.0

  abbrev o : OwnPlace t.holder c me
  o = ours.1

  empty : live c ≡ None
  empty = (r.whole.grid.spares c me mine_is).empty

  -- the place as the list of prepared ones has it
  own_place : OwnPlace t.holder c me
  own_place = let u = (H.holds class c may.of_class may.prepared).1 in record { pool = u.0; class = class; slot = u.1; owned_is = u.2; inside = u.3; begins = u.4 }

  class_is : o.class ≡ class
  class_is = let u = (H.holds class c may.of_class may.prepared).1 in (place_sole k t s.words o.pool me o.class o.slot u.0 me class u.1 r.whole.pools o.owned_is o.inside u.2 u.3 (sym o.begins ∙ u.4)).2

  shape_is : p.shape ≡ may.place.shape
  shape_is = lasts.shape

  old_head : IsNewHead x.seen.share.colours x.seen.share.armed false p.shape old
  old_head = subst (λ (z : Shape). IsNewHead x.seen.share.colours x.seen.share.armed false z old) (sym shape_is) may.head

  -- the block has the colour of a new one, and so has its copy
  colour_is : colour_in r.account.cycling.paint p.label ≡ new_colour old_head.beside old_head.colours
  colour_is = young_colour k s r id hist x at may.stage a p lives may.young old_head.colours old_head.known_is old_head.beside old_head.armed_is

  old_packs : HeadIs None p.shape (colour_in r.account.cycling.paint p.label) false old
  old_packs = subst (λ (n : ℕ). HeadIs None p.shape n false old) (sym colour_is) old_head.packs

  old_at : at_address k s.words c ≡ old
  old_at = ours.3

  label_at : at_address k s.words (c + 1) ≡ label_word p.label.domain p.label.serial
  label_at = ours.2 ∙ (may.label_is ∙ ap (λ (z : Label). label_word z.domain z.serial) (sym lasts.label))

  size_fits : extent p.shape ≤ size_of class
  unfolding size_of
  size_fits = subst (λ (z : Shape). extent z ≤ get_or SIZES class 0) (sym shape_is) may.least.fits

  span_class : span p.shape ≡ size_of class
  span_class = ap span shape_is ∙ span_is may.place.shape class may.least

  -- the place lies in the pools
  c_top : c + size_of class ≤ k.pools * 4096 + 1
  c_top = subst (λ (z : ℕ). c + size_of z ≤ k.pools * 4096 + 1) class_is (places.below_areas k s r id hist x at c o empty)

  c_large : 4 ≤ size_of class
  c_large = size_least class may.of_class

  c_old : c ≤ k.pools * 4096
  c_old = let y : ℕ = size_of class in let h : c + y ≤ k.pools * 4096 + 1 = c_top in let l : 4 ≤ y = c_large in omega arith

  c_low : 1 ≤ c
  c_low = places.low k s r id hist x at c o empty

  differ : a ≢ c
  differ e = let y : k.pools * 4096 < a = may.young in let h : c ≤ k.pools * 4096 = c_old in omega arith

  c_apart : (b : ℕ) (q : Place) → live b ≡ Some q → (b + extent q.shape ≤ c) ⊎ (c + size_of class ≤ b)
  c_apart b q e = subst (λ (z : ℕ). (b + extent q.shape ≤ c) ⊎ (c + size_of z ≤ b)) class_is (places.apart k s r id hist x at c o empty b q e)

  not_there : (b : ℕ) (q : Place) → live b ≡ Some q → b ≢ c
  not_there b q e same = none-some q (sym empty ∙ (ap live (sym same) ∙ e))

  -- a block of a minor area is owed nothing
  paid : p.owed ≡ None
  paid = ⊎_elim (λ (e : p.owed ≡ None). e) (λ (d : (d : Debt) × (p.owed ≡ Some d)). absurd (let l : a ≤ k.pools * 4096 = (r.whole.copies.pends a p d.0 lives d.1).old in let y : k.pools * 4096 < a = may.young in omega arith)) (debt_cases p.owed)

  promoting : Promoting r.account.pause
  promoting = promote_now r.account.pause x may.stage (my_good k s r id hist x at).staged

  here_now : x.own.arrivals ≡ r.account.pause.phase
  here_now = promote_here r.account.pause x may.stage (my_good k s r id hist x at).staged

  -- the block was claimed before: its head forwards, and nothing changes but what the domain has met
  module _ (c2 : ℕ) (forward : p.forward ≡ Some c2) where
    found_forward : at_address k s.words a ≡ head_word (Forward c2)
    found_forward = subst (λ (z : Option ℕ). HeadIs z p.shape (colour_in r.account.cycling.paint p.label) f0.head.scanned (at_address k s.words a)) forward f0.head.packs

    lead : Leads k live a p c2
    lead = r.whole.copies.leads a p c2 lives forward

    abbrev met1 : List Met
    met1 = met_of c2 may.place ∷ x.seen.copying.met

    its : Lasts live c2 (met_place (met_of c2 may.place))
    its = record { place = lead.place; lives = lead.lives; label = lead.label ∙ lasts.label; shape = lead.shape ∙ (shape_is ∙ sym (form_shape may.place.shape)) }

    abbrev lost_view : DomainView
    lost_view = record x { seen = record x.seen { hunt = Rests; copying = record x.seen.copying { met = met1; copied = record { copy = c2; source = a } ∷ x.seen.copying.copied } } }

    lost_rule : Rule k record { words = s.words; homes = s.homes; views = set s.views id (one k hist lost_view) }
    lost_rule =
        let G = my_good k s r id hist x at in
        let w = G.owes in
        let h = hunter_as k t s.words x x refl refl refl refl refl refl refl G.hunter in
        keeps_words k s r id hist x at may.stage x.own.registers x.own.finalisers x.own.prepared x.own.looked Rests lost_view.seen.copying
        (stood_same k s r id hist x at may.stage lost_view refl refl refl refl live (more_same live))
        record {
          hunt = tt;
          drawn_alone = λ q e. absurd (none-some q (ap drawn_in (sym may.hunt) ∙ h.drawn_alone q e));
          taken = h.taken;
          free = h.free;
          spare = h.spare;
          holds = h.holds;
          prepared = h.prepared;
          claims = h.claims;
          supply = λ d few some. inr (⊎_elim (λ (e : DrawsFor d x.seen.hunt). absurd (subst (DrawsFor d) may.hunt e)) (λ (l : Latest k t s.words me d). l) (h.supply d few some));
        }
        record {
          quiet = inr may.stage;
          knows = knows_more live (met_of c2 may.place) x.seen.copying.met w.knows its;
          copied = λ b d. ⊎_elim (λ (h : (a ≡ b) × (c2 ≡ d)). record { place = p; lives = ap live (sym h.0) ∙ lives; forwards = forward ∙ ap Some h.1 }) (λ (h : HasCopy x b d). w.copied b d h);
          owed = λ i v got. let z = w.owed i v got in record { place = z.place; lives = z.lives; debt = z.debt };
          once = w.once;
          listed = w.listed;
          recalled = w.recalled;
          fields = w.fields;
        }

    lost_told : ClaimTold k a old class c x (at_address k s.words a) lost_view
    lost_told = record {
      place = may.place;
      met = may.met;
      won = λ e. absurd (forwards_not p.shape old c2 (new_colour old_head.beside old_head.colours, false, old_head.packs) (sym e ∙ found_forward));
      lost = λ _. record {
        copy = c2;
        word = found_forward;
        old = lead.old;
        inside = (let l = (r.whole.placed.fits c2 lead.place lead.lives).low in l, (let h : c2 ≤ k.pools * 4096 = lead.old in let n : ℕ = k.domains * k.minor_words in let g : c2 ≤ k.pools * 4096 + n = omega arith in g));
        view = refl;
      };
      more = known_more live (met_of c2 may.place) x.seen.copying.met (my_good k s r id hist x at).owes.knows its;
      fit = met_fits k (known met1) live (knows_more live (met_of c2 may.place) x.seen.copying.met (my_good k s r id hist x at).owes.knows its) r.whole.placed;
    }

  -- the claim is won. `used2` says how many places of the pool drawn last are used then
  module _ (bare : p.forward ≡ None) (used2 : ℕ)
      (latest2 : Latest k t s.words me class → (used2 ≤ blocks_of class) × (used2 ≤ t.stock.used me class + 1) × ((j : ℕ) → used2 ≤ j → j < blocks_of class → at_address k s.words (place_in (t.stock.latest me class) class j) ≡ 0)) where
    abbrev p2 : Place
    p2 = record p { forward = Some c }

    abbrev debt : Debt
    debt = record { source = a; domain = me; filled = 0 }

    abbrev pc : Place
    pc = record { label = p.label; shape = p.shape; forward = None; owed = Some debt; named = λ _. None }

    abbrev live1 : Live
    live1 = over c (Some pc) live

    abbrev live2 : Live
    live2 = over a (Some p2) live1

    here_a : live2 a ≡ Some p2
    here_a = over_here a (Some p2) live1

    here_c : live2 c ≡ Some pc
    here_c = over_else a (Some p2) live1 c (λ e. differ (sym e)) ∙ over_here c (Some pc) live

    elsewhere : (b : ℕ) → b ≢ a → b ≢ c → live2 b ≡ live b
    elsewhere b na nc = over_else a (Some p2) live1 b na ∙ over_else c (Some pc) live b nc

    is_a : (b : ℕ) (q : Place) → b ≡ a → live2 b ≡ Some q → p2 ≡ q
    is_a b q same e = ap (λ (z : Option Place). unwrap_or z p2) (sym here_a ∙ (ap live2 (sym same) ∙ e))

    is_c : (b : ℕ) (q : Place) → b ≡ c → live2 b ≡ Some q → pc ≡ q
    is_c b q same e = ap (λ (z : Option Place). unwrap_or z pc) (sym here_c ∙ (ap live2 (sym same) ∙ e))

    was : (b : ℕ) (q : Place) → b ≢ a → b ≢ c → live2 b ≡ Some q → live b ≡ Some q
    was b q na nc e = sym (elsewhere b na nc) ∙ e

    was_a : (b : ℕ) (q : Place) → b ≡ a → live b ≡ Some q → p ≡ q
    was_a b q same e = same_Some p q (sym lives ∙ (ap live (sym same) ∙ e))

    -- what lives at an address in the end: the block, its copy, or what lived there
    cases : {A : Type 0} (b : ℕ) (q : Place) → live2 b ≡ Some q → (b ≡ a → p2 ≡ q → A) → (b ≡ c → pc ≡ q → A) → (b ≢ a → b ≢ c → live b ≡ Some q → A) → A
    cases b q e at_a at_c other = dite (ℕ_discrete b a)
        (λ same. at_a same (is_a b q same e))
        (λ na. dite (ℕ_discrete b c)
        (λ same. at_c same (is_c b q same e))
        (λ nc. other na nc (was b q na nc e)))

    more2 : More live live2
    more2 b q e = dite (ℕ_discrete b a)
        (λ same. let i = was_a b q same e in record { place = p2; lives = ap live2 same ∙ here_a; label = ap (λ (z : Place). z.label) i; shape = ap (λ (z : Place). z.shape) i })
        (λ na. record { place = q; lives = elsewhere b na (not_there b q e) ∙ e; label = refl; shape = refl })

    -- blocks of minor areas lived there before
    young_was : (b : ℕ) (q : Place) → k.pools * 4096 < b → live2 b ≡ Some q → (z : Place) × (live b ≡ Some z) × (z.label ≡ q.label) × (z.shape ≡ q.shape)
    young_was b q young e = cases b q e
        (λ same i. (p, ap live same ∙ lives, ap (λ (z : Place). z.label) i, ap (λ (z : Place). z.shape) i))
        (λ same i. absurd (let h : c ≤ k.pools * 4096 = c_old in let m : b ≡ c = same in omega arith))
        (λ na nc l. (q, l, refl, refl))

    abbrev ws : List ℕ
    ws = set s.words (before_heap k + a) new

    low_a : 1 ≤ a
    low_a = (r.whole.placed.fits a p lives).low

    spot : before_heap k + a < length s.words
    spot = let fs = r.whole.placed.fits a p lives in let n : ℕ = extent p.shape in let l : 3 ≤ n = extent_large p.shape fs.head in let w : ℕ = heap_words k in let h : a + n ≤ w + 1 = fs.high in let wide : length s.words ≡ 1 + before_heap k + w = r.whole.wide in let b : ℕ = before_heap k in omega arith

    stays : (b : ℕ) → b ≢ a → at_address k ws b ≡ at_address k s.words b
    stays b other = get_or-set_other s.words (before_heap k + a) (before_heap k + b) new 0 (λ e. other (omega arith))

    now_at : at_address k ws a ≡ new
    now_at = get_or-set_same s.words (before_heap k + a) new 0 spot

    c_word : (i : ℕ) → i < 2 → at_address k ws (c + i) ≡ at_address k s.words (c + i)
    c_word i h = stays (c + i) (λ e. let y : k.pools * 4096 < a = may.young in let z : ℕ = size_of class in let u : c + z ≤ k.pools * 4096 + 1 = c_top in let l : 4 ≤ z = c_large in let same : c + i ≡ a = e in omega arith)

    found_c : Found k r.account.cycling.paint live2 graph ws c pc
    found_c = record {
      node = f0.node;
      there = f0.there;
      shape = f0.shape;
      head = head_at r.account.cycling.paint pc (stays c (λ e. differ (sym e)) ∙ old_at) record { scanned = false; packs = old_packs; tells = λ _ is. absurd (let e : false ≡ true = is in cc) };
      blank = λ young. absurd (let h : c ≤ k.pools * 4096 = c_old in let y : k.pools * 4096 < c = young in omega arith);
      label = c_word 1 (omega arith) ∙ label_at;
      values = λ i v has got. absurd (let h : i < 0 = has in omega arith);
      old = λ low i within has none. absurd (let h : i < 0 = has in omega arith);
    }

    found_a : Found k r.account.cycling.paint live2 graph ws a p2
    found_a = record {
      node = f0.node;
      there = f0.there;
      shape = f0.shape;
      head = record { scanned = false; packs = now_at ∙ may.word; tells = λ _ is. absurd (let e : false ≡ true = is in cc) };
      blank = λ _. refl;
      label = stays (a + 1) (λ e. omega arith) ∙ f0.label;
      values = λ i v has got. let w = f0.values i v has got in record { value = w.value; packs = stays (a + 2 + i) (λ e. omega arith) ∙ w.packs; stands = stands_more live live2 w.value v more2 w.stands };
      old = λ low i within has none. absurd (let y : k.pools * 4096 < a = may.young in let h : a ≤ k.pools * 4096 = low in omega arith);
    }

    found2 : AllFound k r.account.cycling.paint live2 graph ws
    found2 b q e = cases b q e
        (λ same i. subst (λ (z : ℕ × Place). Found k r.account.cycling.paint live2 graph ws z.0 z.1) (λ j. (sym same j, i j)) found_a)
        (λ same i. subst (λ (z : ℕ × Place). Found k r.account.cycling.paint live2 graph ws z.0 z.1) (λ j. (sym same j, i j)) found_c)
        (λ na nc l. let fb = r.whole.found b q l in found_beside k r.account.cycling.paint live live2 graph graph s.words a new b q more2 fb fb.there
        (λ z within clash. let m : ℕ = extent q.shape in let n : ℕ = extent p.shape in let big : 3 ≤ n = extent_large p.shape (r.whole.placed.fits a p lives).head in let i : z < m = within in let h : b + z ≡ a = clash in
        ⊎_elim (λ (u : b + m ≤ a). omega arith) (λ (u : a + n ≤ b). omega arith) (r.whole.placed.apart b a q p l lives na)))

    fits_c : Fits k c pc
    fits_c = let fs = r.whole.placed.fits a p lives in record {
      classed = fs.classed;
      low = c_low;
      high = (let n : ℕ = extent p.shape in let y : ℕ = size_of class in let h : n ≤ y = size_fits in let u : c + y ≤ k.pools * 4096 + 1 = c_top in let m : ℕ = k.domains * k.minor_words in let g : c + n ≤ k.pools * 4096 + m + 1 = omega arith in g);
      head = fs.head;
      label = fs.label;
      pooled = λ _ _. c_old;
    }

    -- a young block is no ephemeron, so its copy is none
    no_more2 : (b : ℕ) → IsEpheAt live2 b → IsEpheAt live b
    no_more2 b o = cases b o.place o.lives
        (λ same i. record { place = p; lives = ap live same ∙ lives; keys = o.keys; shape = ap (λ (z : Place). z.shape) i ∙ o.shape })
        (λ same i. absurd (let h : a ≤ k.pools * 4096 = (r.whole.placed.fits a p lives).pooled o.keys (ap (λ (z : Place). z.shape) i ∙ o.shape) in let y : k.pools * 4096 < a = may.young in omega arith))
        (λ na nc l. record { place = o.place; lives = l; keys = o.keys; shape = o.shape })

    -- the copy keeps off every other block
    apart_c : (b : ℕ) (q : Place) → live b ≡ Some q → (c + extent p.shape ≤ b) ⊎ (b + extent q.shape ≤ c)
    apart_c b q e = let n : ℕ = extent p.shape in let y : ℕ = size_of class in let h : n ≤ y = size_fits in let m : ℕ = extent q.shape in
        ⊎_elim (λ (u : b + m ≤ c). inr u) (λ (u : c + y ≤ b). inl (let g : c + n ≤ b = omega arith in g)) (c_apart b q e)

    flip : (u v : Type 0) → u ⊎ v → v ⊎ u
    flip u v z = ⊎_elim (λ (h : u). inr h) (λ (h : v). inl h) z

    placed2 : Placed k live2
    placed2 = record {
      fits = λ b q e. cases b q e
          (λ same i. subst (λ (z : ℕ × Place). Fits k z.0 z.1) (λ j. (sym same j, i j)) (let fs = r.whole.placed.fits a p lives in record { classed = fs.classed; low = fs.low; high = fs.high; head = fs.head; label = fs.label; pooled = fs.pooled }))
          (λ same i. subst (λ (z : ℕ × Place). Fits k z.0 z.1) (λ j. (sym same j, i j)) fits_c)
          (λ na nc l. r.whole.placed.fits b q l);
      once = λ b d q u e g labels none_b none_d. cases b q e
          (λ same i. absurd (none-some c (sym none_b ∙ ap (λ (z : Place). z.forward) (sym i))))
          (λ same i. cases d u g
          (λ same' i'. absurd (none-some c (sym none_d ∙ ap (λ (z : Place). z.forward) (sym i'))))
          (λ same' i'. same ∙ sym same')
          (λ na nc l. absurd (na (sym (r.whole.placed.once a d p u lives l (ap (λ (z : Place). z.label) i ∙ labels) bare none_d)))))
          (λ na nc l. cases d u g
          (λ same' i'. absurd (none-some c (sym none_d ∙ ap (λ (z : Place). z.forward) (sym i'))))
          (λ same' i'. absurd (na (r.whole.placed.once b a q p l lives (labels ∙ ap (λ (z : Place). z.label) (sym i')) none_b bare)))
          (λ na' nc' l'. r.whole.placed.once b d q u l l' labels none_b none_d));
      apart = λ b d q u e g ne. cases b q e
          (λ same i. cases d u g
          (λ same' i'. absurd (ne (same ∙ sym same')))
          (λ same' i'. subst (λ (z : ℕ × Place × ℕ × Place). (z.0 + extent z.1.shape ≤ z.2) ⊎ (z.2 + extent z.3.shape ≤ z.0)) (λ j. (sym same j, i j, sym same' j, i' j)) (flip (c + extent p.shape ≤ a) (a + extent p.shape ≤ c) (apart_c a p lives)))
          (λ na nc l. subst (λ (z : ℕ × Place). (z.0 + extent z.1.shape ≤ d) ⊎ (d + extent u.shape ≤ z.0)) (λ j. (sym same j, i j)) (r.whole.placed.apart a d p u lives l (λ h. na (sym h)))))
          (λ same i. cases d u g
          (λ same' i'. subst (λ (z : ℕ × Place × ℕ × Place). (z.0 + extent z.1.shape ≤ z.2) ⊎ (z.2 + extent z.3.shape ≤ z.0)) (λ j. (sym same j, i j, sym same' j, i' j)) (apart_c a p lives))
          (λ same' i'. absurd (ne (same ∙ sym same')))
          (λ na nc l. subst (λ (z : ℕ × Place). (z.0 + extent z.1.shape ≤ d) ⊎ (d + extent u.shape ≤ z.0)) (λ j. (sym same j, i j)) (apart_c d u l)))
          (λ na nc l. cases d u g
          (λ same' i'. subst (λ (z : ℕ × Place). (b + extent q.shape ≤ z.0) ⊎ (z.0 + extent z.1.shape ≤ b)) (λ j. (sym same' j, i' j)) (r.whole.placed.apart b a q p l lives na))
          (λ same' i'. subst (λ (z : ℕ × Place). (b + extent q.shape ≤ z.0) ⊎ (z.0 + extent z.1.shape ≤ b)) (λ j. (sym same' j, i' j)) (flip (c + extent p.shape ≤ b) (b + extent q.shape ≤ c) (apart_c b q l)))
          (λ na' nc' l'. r.whole.placed.apart b d q u l l' ne));
    }

    spread2 : Spread k live2
    spread2 = record {
      apart = λ b d q u e g young below.
          let v = young_was b q young e in
          let w = young_was d u (let y : k.pools * 4096 < b = young in omega arith) g in
          subst (λ (z : Shape). b + span z ≤ d) v.3 (r.whole.spread.apart b d v.0 w.0 v.1 w.1 young below);
      inside = λ b q e young. let v = young_was b q young e in subst (λ (z : Shape). b + span z ≤ heap_words k + 1) v.3 (r.whole.spread.inside b v.0 v.1 young);
    }

    opened2 : Opened k live2 ws
    opened2 = opened_words k live2 s.words ws (λ _ _ _ _. control_set k s.words a new low_a 6 (omega arith)) (λ b q e young. let v = young_was b q young e in r.whole.opened b v.0 v.1 young)

    -- where old blocks forward to
    target : (b : ℕ) (q : Place) (d : ℕ) → live b ≡ Some q → q.forward ≡ Some d → live2 d ≡ live d
    target b q d e forwards = let l = r.whole.copies.leads b q d e forwards in elsewhere d (λ same. let y : k.pools * 4096 < a = may.young in let z : d ≤ k.pools * 4096 = l.old in let i : d ≡ a = same in omega arith) (not_there d l.place l.lives)

    copies2 : Copies k live2
    copies2 = record {
      leads = λ b q d e forwards. cases b q e
          (λ same i.
          let d_is : c ≡ d = same_Some c d (ap (λ (z : Place). z.forward) i ∙ forwards) in record {
            young = subst (λ (n : ℕ). k.pools * 4096 < n) (sym same) may.young;
            old = subst (λ (n : ℕ). n ≤ k.pools * 4096) d_is c_old;
            filled = ap (λ (z : Place). z.owed) (sym i) ∙ paid;
            place = pc;
            lives = ap live2 (sym d_is) ∙ here_c;
            label = ap (λ (z : Place). z.label) i;
            shape = ap (λ (z : Place). z.shape) i;
            plain = refl;
          })
          (λ same i. absurd (none-some d (ap (λ (z : Place). z.forward) i ∙ forwards)))
          (λ na nc l. let m = r.whole.copies.leads b q d l forwards in record {
            young = m.young;
            old = m.old;
            filled = m.filled;
            place = m.place;
            lives = target b q d l forwards ∙ m.lives;
            label = m.label;
            shape = m.shape;
            plain = m.plain;
          });
      pends = λ b q d e owed. cases b q e
          (λ same i. absurd (none-some d (sym paid ∙ (ap (λ (z : Place). z.owed) i ∙ owed))))
          (λ same i.
          let d_is : debt ≡ d = same_Some debt d (ap (λ (z : Place). z.owed) i ∙ owed) in record {
            inside = subst (λ (z : Debt). z.domain < k.domains) d_is inside;
            old = subst (λ (n : ℕ). n ≤ k.pools * 4096) (sym same) c_old;
            plain = ap (λ (z : Place). z.forward) (sym i);
            place = p2;
            lives = ap (λ (z : Debt). live2 z.source) (sym d_is) ∙ here_a;
            forwards = ap Some (sym same);
          })
          (λ na nc l. let m = r.whole.copies.pends b q d l owed in record {
            inside = m.inside;
            old = m.old;
            plain = m.plain;
            place = m.place;
            lives = elsewhere d.source (λ same. none-some b (sym bare ∙ (ap (λ (z : Place). z.forward) (was_a d.source m.place same m.lives) ∙ m.forwards))) (not_there d.source m.place m.lives) ∙ m.lives;
            forwards = m.forwards;
          });
      naming = λ b q i d e named. cases b q e
          (λ same j. subst (λ (z : Shape). (d < k.domains) × (i + 2 < extent z)) (ap (λ (z : Place). z.shape) j) (r.whole.copies.naming a p i d lives (ap (λ (z : Place). z.named i) j ∙ named)))
          (λ same j. absurd (none-some d (ap (λ (z : Place). z.named i) j ∙ named)))
          (λ na nc l. r.whole.copies.naming b q i d l named);
    }

    cleared2 : Promoting r.account.pause → (d : ℕ) → d < k.domains → r.account.pause.arrived d ≡ r.account.pause.phase + 1 → Cleared live2 d
    cleared2 h d below up = let cl = r.whole.cleared h d below up in record {
      no_debt = λ b q w e owed. cases b q e
          (λ same i. absurd (none-some w (sym paid ∙ (ap (λ (z : Place). z.owed) i ∙ owed))))
          (λ same i. λ mine_too.
          let w_is : me ≡ d = ap (λ (z : Debt). z.domain) (same_Some debt w (ap (λ (z : Place). z.owed) i ∙ owed)) ∙ mine_too in
          let up' : x.own.arrivals ≡ r.account.pause.phase + 1 = (my_good k s r id hist x at).staged.arrivals ∙ (ap r.account.pause.arrived w_is ∙ up) in
          let e' : x.own.arrivals ≡ r.account.pause.phase = here_now in omega arith)
          (λ na nc l. cl.no_debt b q w l owed);
      no_field = λ b q i e named. cases b q e
          (λ same j. cl.no_field a p i lives (ap (λ (z : Place). z.named i) j ∙ named))
          (λ same j. none-some d (ap (λ (z : Place). z.named i) j ∙ named))
          (λ na nc l. cl.no_field b q i l named);
    }

    -- what copying has used then
    abbrev copies' : ℕ → ℕ → ℕ
    copies' = over me (over class (t.stock.copies me class + 1) (t.stock.copies me)) t.stock.copies

    abbrev stock' : Stock
    stock' = record {
      drawn = t.stock.drawn;
      copies = copies';
      latest = t.stock.latest;
      used = over me (over class used2 (t.stock.used me)) t.stock.used;
      claims = over me (t.stock.claims me + 1) t.stock.claims;
      claimed = joined_with t.stock.claimed a (span p.shape);
    }

    abbrev prepared' : ℕ → Option ℕ
    prepared' = over c None t.prepared

    abbrev t' : Tenancy
    t' = record t { prepared = prepared'; stock = stock' }

    copies_mine : copies' me ≡ over class (t.stock.copies me class + 1) (t.stock.copies me)
    copies_mine = over_here me (over class (t.stock.copies me class + 1) (t.stock.copies me)) t.stock.copies

    copies_else : (d : ℕ) → d ≢ me → copies' d ≡ t.stock.copies d
    copies_else d other = over_else me (over class (t.stock.copies me class + 1) (t.stock.copies me)) t.stock.copies d other

    copies_one : copies' me class ≡ t.stock.copies me class + 1
    copies_one = ap (λ (g : ℕ → ℕ). g class) copies_mine ∙ over_here class (t.stock.copies me class + 1) (t.stock.copies me)

    copies_same : (d : ℕ) → d ≢ class → copies' me d ≡ t.stock.copies me d
    copies_same d other = ap (λ (g : ℕ → ℕ). g d) copies_mine ∙ over_else class (t.stock.copies me class + 1) (t.stock.copies me) d other

    copies_grow : (d e : ℕ) → t.stock.copies d e ≤ copies' d e
    copies_grow d e = dite (ℕ_discrete d me)
        (λ same. subst (λ (n : ℕ). t.stock.copies n e ≤ copies' n e) (sym same) (dite (ℕ_discrete e class)
        (λ eq. subst (λ (n : ℕ). t.stock.copies me n ≤ copies' me n) (sym eq) (let m : ℕ = t.stock.copies me class in let n : ℕ = copies' me class in let h : n ≡ m + 1 = copies_one in let g : m ≤ n = omega arith in g))
        (λ ne. let m : ℕ = t.stock.copies me e in let n : ℕ = copies' me e in let h : n ≡ m = copies_same e ne in let g : m ≤ n = omega arith in g)))
        (λ other. let m : ℕ = t.stock.copies d e in let n : ℕ = copies' d e in let h : n ≡ m = ap (λ (g : ℕ → ℕ). g e) (copies_else d other) in let g : m ≤ n = omega arith in g)

    was_prepared : (b d : ℕ) → prepared' b ≡ Some d → (b ≢ c) × (t.prepared b ≡ Some d)
    was_prepared b d is = dite (ℕ_discrete b c)
        (λ same. absurd (none-some d (sym (over_here c None t.prepared) ∙ (ap prepared' (sym same) ∙ is))))
        (λ other. (other, sym (over_else c None t.prepared b other) ∙ is))

    -- the places of pools keep their heads
    place_not : (q d e j : ℕ) → t.holder q ≡ owned d e → j < blocks_of e → place_in q e j ≢ a
    place_not q d e j owned_is below same =
        let low : place_in q e j ≤ k.pools * 4096 = place_low k t s.words (place_in q e j) d r.whole.pools (record { pool = q; class = e; slot = j; owned_is = owned_is; inside = below; begins = refl }) in
        let y : k.pools * 4096 < a = may.young in let z : ℕ = place_in q e j in let h : z ≡ a = same in let u : z ≤ k.pools * 4096 = low in omega arith

    place_stays : (q d e j : ℕ) → t.holder q ≡ owned d e → j < blocks_of e → at_address k ws (place_in q e j) ≡ at_address k s.words (place_in q e j)
    place_stays q d e j owned_is below = stays (place_in q e j) (place_not q d e j owned_is below)

    grid2 : Grid k t' live2 ws
    unfolding own_place
    grid2 = record {
      lots = λ b q e low. cases b q e
          (λ same i. absurd (let y : k.pools * 4096 < a = may.young in let z : b ≤ k.pools * 4096 = low in let m : b ≡ a = same in omega arith))
          (λ same i. subst (λ (z : ℕ × Place). Lot t.holder z.0 z.1) (λ j. (sym same j, i j))
          record { pool = own_place.pool; domain = me; class = class; slot = own_place.slot; owned_is = own_place.owned_is; inside = own_place.inside; begins = own_place.begins; fits = size_fits })
          (λ na nc l. r.whole.grid.lots b q l low);
      places = λ q d e j owned_is below. dite (ℕ_discrete (place_in q e j) c)
          (λ same. inr (inl (pc, ap live2 same ∙ here_c)))
          (λ other. ⊎_elim (λ (z : at_address k s.words (place_in q e j) ≡ 0). inl (place_stays q d e j owned_is below ∙ z))
          (λ z. inr (⊎_elim (λ (v : (u : Place) × (live (place_in q e j) ≡ Some u)). inl (let m = more2 (place_in q e j) v.0 v.1 in (m.place, m.lives))) (λ v. inr (⊎_elim (λ (h : t.prepared (place_in q e j) ≡ Some d). inl (over_else c None t.prepared (place_in q e j) other ∙ h)) (λ (h : IsTrue (t.garbage (place_in q e j))). inr h) v)) z))
          (r.whole.grid.places q d e j owned_is below));
      spares = λ b d is.
          let u = was_prepared b d is in
          let sp = r.whole.grid.spares b d u.1 in
          let own = sp.own in record {
            own = own;
            head = λ e. sp.head (ap (at_address k s.words) own.begins ∙ (sym (place_stays own.pool d own.class own.slot own.owned_is own.inside) ∙ (ap (at_address k ws) (sym own.begins) ∙ e)));
            empty = elsewhere b (λ same. none-some p (sym sp.empty ∙ (ap live same ∙ lives))) u.0 ∙ sp.empty;
          };
    }

    -- garbage lies neither where the block does nor where its copy does
    garbage2 : KeepsGarbage k live2 t t' s.words ws
    garbage2 = record {
      same = λ b. refl;
      dead = λ b is. elsewhere b (away b is) (off b is) ∙ r.whole.cycle.leaves.dead b is;
      unprepared = λ b is. over_else c None t.prepared b (off b is) ∙ r.whole.cycle.leaves.unprepared b is;
      heads = λ b is. stays b (away b is);
      held = λ q d e is. is;
    } where
      off : (b : ℕ) → IsTrue (t.garbage b) → b ≢ c
      off = spare_clean k s r c me mine_is

      away : (b : ℕ) → IsTrue (t.garbage b) → b ≢ a
      away b is same = none-some p (sym (r.whole.cycle.leaves.dead b is) ∙ (ap live same ∙ lives))

    same_for : (d : ℕ) → d ≢ me → SameFor t t' d
    same_for d other = same_prepared t prepared' stock' d (λ b e. over_else c None t.prepared b (λ same. other (same_Some d me (sym e ∙ (ap t.prepared same ∙ mine_is)))) ∙ e) (λ b e. (was_prepared b d e).1) record {
      drawn = refl;
      copies = copies_else d other;
      latest = refl;
      used = over_else me (over class used2 (t.stock.used me)) t.stock.used d other;
      claims = over_else me (t.stock.claims me + 1) t.stock.claims d other;
    }

    hunters2 : (z : DomainView) → z.own.number ≢ me → Hunter k t s.words z → Hunter k t' ws z
    hunters2 z other h = hunter_agree k t t' ws ws (agrees_same k ws) z (omega arith) (same_for z.own.number other)
        (hunter_beside k t s.words a new r.whole.pools z (area_beside k t s.words a new r.whole.pools may.young z.own.number) h)

    drawers2 : Drawers r.account.pause t'
    drawers2 = record {
      drawn = r.whole.drawers.drawn;
      prepared = λ b d is. r.whole.drawers.prepared b d (was_prepared b d is).1;
      claims = λ d some. dite (ℕ_discrete d me)
          (λ same. subst (IsCopying r.account.pause) (sym same) (sym (my_good k s r id hist x at).staged.arrivals ∙ here_now, promoting))
          (λ other. r.whole.drawers.claims d (subst (λ (n : ℕ). 0 < n) (over_else me (t.stock.claims me + 1) t.stock.claims d other) some));
    }

    copied_mine : copied_words stock' me ≡ copied_words t.stock me + span p.shape
    copied_mine = sum_more (λ d. t.stock.copies me d * size_of d) (λ d. copies' me d * size_of d) class (span p.shape) class_count may.of_class
        (let m : ℕ = t.stock.copies me class in let z : ℕ = size_of class in
        ap (λ (n : ℕ). n * size_of class) copies_one ∙ ((let h : (m + 1) * z ≡ m * z + z = one_more m z in h) ∙ ap (λ (n : ℕ). m * size_of class + n) (sym span_class)))
        (λ d other. ap (λ (n : ℕ). n * size_of d) (copies_same d other))
      where
        one_more : (m z : ℕ) → (m + 1) * z ≡ m * z + z
        one_more m z = (let e : m + 1 ≡ suc m = omega arith in ap (λ (n : ℕ). n * z) e) ∙ suc-mul m z

    copied_all : sum_of (copied_words stock') k.domains ≡ sum_of (copied_words t.stock) k.domains + span p.shape
    copied_all = sum_more (copied_words t.stock) (copied_words stock') me (span p.shape) k.domains inside copied_mine
        (λ d other. ap (λ (g : ℕ → ℕ). sum_of (λ e. g e * size_of e) class_count) (copies_else d other))

    room2 : Room k live2 r.account.pause stock' ws
    room2 = record {
      fills = λ d e. let m : ℕ = t.stock.copies d e in let n : ℕ = copies' d e in let h : m ≤ n = copies_grow d e in let b : ℕ = blocks_of e in let y : ℕ = t.stock.drawn d e * blocks_of e in let z : y ≤ m + b = r.whole.room.fills d e in let g : y ≤ n + b = omega arith in g;
      fit = let u : ℕ = sum_of (copied_words t.stock) k.domains in let v : ℕ = count t.stock.claimed (heap_words k + 1) in let h : u ≤ v = r.whole.room.fit in let z : ℕ = span p.shape in
          subst (λ (n : ℕ × ℕ). n.0 ≤ n.1) (λ i. (sym copied_all i, sym (claim_counts k live r.account.pause t.stock s.words r.whole.room r.whole.spread a p lives bare may.young) i)) (let g : u + z ≤ v + z = omega arith in g);
      claims = λ y e. joined_cases t.stock.claimed a (span p.shape) y e
          (λ old_one. let u = r.whole.room.claims y old_one in record {
            block = u.block;
            copy = u.copy;
            place = u.place;
            lives = elsewhere u.block (λ same. none-some u.copy (sym bare ∙ (ap (λ (z : Place). z.forward) (was_a u.block u.place same u.lives) ∙ u.forwards))) (not_there u.block u.place u.lives) ∙ u.lives;
            forwards = u.forwards;
            young = u.young;
            from = u.from;
            to = u.to;
          })
          (λ from to. record { block = a; copy = c; place = p2; lives = here_a; forwards = refl; young = may.young; from = from; to = to });
      listed_copies = λ d. dite (ℕ_discrete d me)
          (λ same. subst (λ (n : ℕ). stock'.claims n ≤ sum_of (copies' n) class_count) (sym same)
          (subst (λ (n : ℕ × ℕ). n.0 ≤ n.1) (λ i. (sym (over_here me (t.stock.claims me + 1) t.stock.claims) i, sym (sum_more (t.stock.copies me) (copies' me) class 1 class_count may.of_class copies_one copies_same) i))
          (let u : ℕ = t.stock.claims me in let v : ℕ = sum_of (t.stock.copies me) class_count in let h : u ≤ v = r.whole.room.listed_copies me in let g : u + 1 ≤ v + 1 = omega arith in g)))
          (λ other. subst (λ (n : ℕ × (ℕ → ℕ)). n.0 ≤ sum_of n.1 class_count) (λ i. (sym (over_else me (t.stock.claims me + 1) t.stock.claims d other) i, sym (copies_else d other) i)) (r.whole.room.listed_copies d));
      left = λ h b q e young. let v = young_was b q young e in
          subst (λ (n : ℕ × ℕ). n.0 + reserve (sizes_in k) ≤ n.1 + drawn_in_all k t.stock) (λ i. (sym (control_set k s.words a new low_a 7 (omega arith)) i, sym (control_set k s.words a new low_a 6 (omega arith)) i)) (r.whole.room.left h b v.0 v.1 young);
    }

    abbrev owing : Owing
    owing = record { copy = c; source = a; filled = 0 }

    abbrev copied : Copied
    copied = record { copy = c; source = a }

    -- the copy's pool is the home of the block, which is kept and had none
    abbrev homes2 : Homes
    homes2 = with_pool r.account.homes p.label own_place.pool

    full2 : Fullness k r.account.log live2 t'.holder t'.fresh t'.garbage homes2 r.account.cycling.kind
    full2 =
        let f = r.whole.full in
        full_filled k t s.words r.account.log live live2 r.account.homes r.account.cycling.kind c p.label r.whole.pools (me, own_place)
        (λ b q nc e. dite (ℕ_discrete b a)
        (λ same. record { place = p; lives = ap live same ∙ lives; label = ap (λ (z : Place). z.label) (is_a b q same e); bare = λ _. bare })
        (λ na. record { place = q; lives = was b q na nc e; label = refl; bare = λ h. h }))
        (λ q e. ap (λ (z : Place). z.label) (sym (is_c c q refl e)))
        (λ b q nc e none same. dite (ℕ_discrete b a)
        (λ here. absurd (let h : ◌≡◌ {A = Option ℕ} (Some c) None = ap (λ (z : Place). z.forward) (is_a b q here e) ∙ none in cc))
        (λ na. na (r.whole.placed.once b a q p (was b q na nc e) lives same none bare)))
        (λ b q e low. cases b q e
        (λ same _. absurd (let y : k.pools * 4096 < a = may.young in let h : b ≤ k.pools * 4096 = low in let m : b ≡ a = same in omega arith))
        (λ _ i. ap (λ (z : Place). z.forward) (sym i))
        (λ _ _ l. ⊎_elim (λ (n : q.forward ≡ None). n) (λ (n : (m : ℕ) × (q.forward ≡ Some m)). absurd (let y = (r.whole.copies.leads b q n.0 l n.1).young in let h : b ≤ k.pools * 4096 = low in omega arith)) (number_cases q.forward)))
        (f.young a p lives may.young bare) f0.node f0.there (f.kept a p lives) f

    abbrev won_view : DomainView
    won_view = record {
      own = preparing (pushed x.own c a) class None;
      seen = record x.seen { hunt = Rests; copying = record { met = met_of c may.place ∷ x.seen.copying.met; pending = x.seen.copying.pending ++ owing ∷ []; copied = copied ∷ x.seen.copying.copied } };
    }

    -- of the pool drawn last one place more is used, if the copy is there
    latest_class : Latest k t s.words me class → Latest k t' ws me class
    latest_class l =
        let u = latest2 l in
        let used_is : stock'.used me class ≡ used2 = ap (λ (g : ℕ → ℕ). g class) (over_here me (over class used2 (t.stock.used me)) t.stock.used) ∙ over_here class used2 (t.stock.used me) in record {
          own_is = l.own_is;
          few = subst (λ (n : ℕ). n ≤ blocks_of class) (sym used_is) u.0;
          enough = subst (λ (n : ℕ × ℕ). t.stock.drawn me class * blocks_of class + n.0 ≤ n.1 + blocks_of class) (λ i. (sym used_is i, sym copies_one i))
              (let m : ℕ = t.stock.copies me class in let n : ℕ = t.stock.used me class in let y : ℕ = t.stock.drawn me class * blocks_of class in let b : ℕ = blocks_of class in let h : y + n ≤ m + b = l.enough in let v : used2 ≤ n + 1 = u.1 in let g : y + used2 ≤ m + 1 + b = omega arith in g);
          rest = λ j from below. inl (place_stays (t.stock.latest me class) me class j l.own_is below ∙ u.2 j (subst (λ (n : ℕ). n ≤ j) used_is from) below);
        }

    -- of other classes nothing changes
    latest_else : (d : ℕ) → d ≢ class → Latest k t s.words me d → Latest k t' ws me d
    latest_else d other l =
        let used_is : stock'.used me d ≡ t.stock.used me d = ap (λ (g : ℕ → ℕ). g d) (over_here me (over class used2 (t.stock.used me)) t.stock.used) ∙ over_else class used2 (t.stock.used me) d other in record {
          own_is = l.own_is;
          few = subst (λ (n : ℕ). n ≤ blocks_of d) (sym used_is) l.few;
          enough = subst (λ (n : ℕ × ℕ). t.stock.drawn me d * blocks_of d + n.0 ≤ n.1 + blocks_of d) (λ i. (sym used_is i, sym (copies_same d other) i)) l.enough;
          rest = λ j from below.
              let differs : place_in (t.stock.latest me d) d j ≢ c = (λ same. other ((place_sole k t s.words (t.stock.latest me d) me d j o.pool me o.class o.slot r.whole.pools l.own_is below o.owned_is o.inside (same ∙ o.begins)).2 ∙ class_is)) in
              ⊎_elim (λ (z : at_address k s.words (place_in (t.stock.latest me d) d j) ≡ 0). inl (place_stays (t.stock.latest me d) me d j l.own_is below ∙ z))
              (λ (z : (j ≡ t.stock.used me d) × (t.prepared (place_in (t.stock.latest me d) d j) ≡ Some me)). inr (z.0 ∙ sym used_is, over_else c None t.prepared (place_in (t.stock.latest me d) d j) differs ∙ z.1))
              (l.rest j (subst (λ (n : ℕ). n ≤ j) used_is from) below);
        }

    hunter_mine : Hunter k t' ws won_view
    hunter_mine = record {
      hunt = tt;
      drawn_alone = λ q e. absurd (none-some q (ap drawn_in (sym may.hunt) ∙ H.drawn_alone q e));
      taken = λ q d j owned_is below low e. H.taken q d j owned_is below low (sym (place_stays q me d j owned_is below) ∙ e);
      spare = λ u e. let f = H.spare u e in record { own_is = f.own_is; inside = f.inside; free = place_stays u.pool me u.class u.slot f.own_is f.inside ∙ f.free };
      free = λ n e. subst (λ (m : ℕ × ℕ). (m.0 ≤ n + m.1) × (m.0 ≤ n + limit_of k m.0) × (n ≤ m.0)) (λ i. (sym (control_set k s.words a new low_a 6 (omega arith)) i, sym (control_set k s.words a new low_a 7 (omega arith)) i)) (H.free n e);
      holds = λ d b few e. dite (ℕ_discrete d class)
          (λ same. absurd (none-some b (sym (prepared_here x.own.prepared class None fits.prepared may.of_class) ∙ (ap (prepared_at (set x.own.prepared class None)) (sym same) ∙ e))))
          (λ other.
          let u = H.holds d b few (sym (prepared_else x.own.prepared class d None other) ∙ e) in
          let differs : b ≢ c = (λ same. other ((place_sole k t s.words u.1.0 me d u.1.1 o.pool me o.class o.slot r.whole.pools u.1.2 u.1.3 o.owned_is o.inside (sym u.1.4 ∙ (same ∙ o.begins))).2 ∙ class_is)) in
          (over_else c None t.prepared b differs ∙ u.0, u.1));
      prepared = λ q d j owned_is below e.
          let u = was_prepared (place_in q d j) me e in
          let was_there = H.prepared q d j owned_is below u.1 in
          prepared_else x.own.prepared class d None (λ same. u.0 (same_Some (place_in q d j) c (sym was_there ∙ (ap (prepared_at x.own.prepared) same ∙ may.prepared)))) ∙ was_there;
      claims = longer x.own.pending.items copied ∙ (ap (λ (n : ℕ). n + 1) H.claims ∙ sym (over_here me (t.stock.claims me + 1) t.stock.claims));
      supply = λ d few some. inr (
          let l : Latest k t s.words me d = ⊎_elim (λ (h : DrawsFor d x.seen.hunt). absurd (subst (DrawsFor d) may.hunt h)) (λ (l : Latest k t s.words me d). l) (H.supply d few some) in
          dite (ℕ_discrete d class)
          (λ same. subst (Latest k t' ws me) (sym same) (latest_class (subst (Latest k t s.words me) same l)))
          (λ other. latest_else d other l));
    }

    -- what is known of other blocks and fields stays
    knows_again : (g : Live) → More g live → More g live2
    knows_again g known_there b q e = let l = known_there b q e in let m = more2 b l.place l.lives in record { place = m.place; lives = m.lives; label = m.label ∙ l.label; shape = m.shape ∙ l.shape }

    copied_again : (b d : ℕ) → IsCopied live b d → IsCopied live2 b d
    copied_again b d u = record { place = u.place; lives = elsewhere b (λ same. none-some d (sym bare ∙ (ap (λ (z : Place). z.forward) (was_a b u.place same u.lives) ∙ u.forwards))) (not_there b u.place u.lives) ∙ u.lives; forwards = u.forwards }

    field2 : (at : ℕ) → IsField k live at → IsField k live2 at
    field2 spot_at_field fl = record {
      block = fl.block;
      place = fl.place;
      index = fl.index;
      lives = elsewhere fl.block (λ same. let y : k.pools * 4096 < a = may.young in let z : fl.block ≤ k.pools * 4096 = fl.old in let m : fl.block ≡ a = same in omega arith) (not_there fl.block fl.place fl.lives) ∙ fl.lives;
      is = fl.is;
      inside = fl.inside;
      old = fl.old;
      filled = fl.filled;
    }

    -- a copy that is owed something is another
    owed_else : (z : DomainView) (v : Owing) → IsOwed live z v → IsOwed live2 z v
    owed_else z v u = record {
      place = u.place;
      lives = elsewhere v.copy (λ same. none-some (debt_of z v) (sym paid ∙ (ap (λ (q : Place). q.owed) (was_a v.copy u.place same u.lives) ∙ u.debt))) (not_there v.copy u.place u.lives) ∙ u.lives;
      debt = u.debt;
    }

    named_was : (b : ℕ) (q : Place) (i d : ℕ) → live2 b ≡ Some q → q.named i ≡ Some d → (u : Place) × (live b ≡ Some u) × (u.named i ≡ Some d)
    named_was b q i d e named = cases b q e
        (λ same j. (p, ap live same ∙ lives, ap (λ (z : Place). z.named i) j ∙ named))
        (λ same j. absurd (none-some d (ap (λ (z : Place). z.named i) j ∙ named)))
        (λ na nc l. (q, l, named))

    owe2 : (z : DomainView) → z.own.number ≢ me → Owes k live z → Owes k live2 z
    owe2 z other w = record {
      quiet = w.quiet;
      knows = knows_again (known z.seen.copying.met) w.knows;
      copied = λ b d has. copied_again b d (w.copied b d has);
      owed = λ i v got. owed_else z v (w.owed i v got);
      once = w.once;
      listed = λ b q d e owed its. cases b q e
          (λ same i. absurd (none-some d (sym paid ∙ (ap (λ (u : Place). u.owed) i ∙ owed))))
          (λ same i. absurd (other (sym its ∙ sym (ap (λ (u : Debt). u.domain) (same_Some debt d (ap (λ (u : Place). u.owed) i ∙ owed))))))
          (λ na nc l. w.listed b q d l owed its);
      recalled = λ b q i e named. let u = named_was b q i z.own.number e named in w.recalled b u.0 i u.1 u.2;
      fields = λ j at_field got. field2 at_field (w.fields j at_field got);
    }

    met_lasts : Lasts live2 c (met_place (met_of c may.place))
    met_lasts = record { place = pc; lives = here_c; label = lasts.label; shape = shape_is ∙ sym (form_shape may.place.shape) }

    owes2 : Owes k live2 won_view
    owes2 = let w = (my_good k s r id hist x at).owes in let l : List Owing = x.seen.copying.pending in record {
      quiet = inr may.stage;
      knows = knows_more live2 (met_of c may.place) x.seen.copying.met (knows_again (known x.seen.copying.met) w.knows) met_lasts;
      copied = λ b d. ⊎_elim (λ (h : (a ≡ b) × (c ≡ d)). record { place = p2; lives = ap live2 (sym h.0) ∙ here_a; forwards = ap Some h.1 }) (λ (h : HasCopy x b d). copied_again b d (w.copied b d h));
      owed = λ i v got. ⊎_elim
          (λ (h : slice_get l i ≡ Some v). let u = owed_else x v (w.owed i v h) in record { place = u.place; lives = u.lives; debt = u.debt })
          (λ (h : (i ≡ length l) × (Some owing ≡ Some v)). let v_is = same_Some owing v h.1 in record { place = pc; lives = ap (λ (u : Owing). live2 u.copy) (sym v_is) ∙ here_c; debt = ap (λ (u : Owing). Some (record { source = u.source; domain = me; filled = u.filled })) v_is })
          (got_either l owing v i got);
      once = λ i j v u got got' same. ⊎_elim
          (λ (h : slice_get l i ≡ Some v). ⊎_elim
          (λ (h' : slice_get l j ≡ Some u). w.once i j v u h h' same)
          (λ (h' : (j ≡ length l) × (Some owing ≡ Some u)). let z = w.owed i v h in absurd (not_there v.copy z.place z.lives (same ∙ ap (λ (y : Owing). y.copy) (sym (same_Some owing u h'.1)))))
          (got_either l owing u j got'))
          (λ (h : (i ≡ length l) × (Some owing ≡ Some v)). ⊎_elim
          (λ (h' : slice_get l j ≡ Some u). let z = w.owed j u h' in absurd (not_there u.copy z.place z.lives (sym same ∙ ap (λ (y : Owing). y.copy) (sym (same_Some owing v h.1)))))
          (λ (h' : (j ≡ length l) × (Some owing ≡ Some u)). h.0 ∙ sym h'.0)
          (got_either l owing u j got'))
          (got_either l owing v i got);
      listed = λ b q d e owed its. cases b q e
          (λ same i. absurd (none-some d (sym paid ∙ (ap (λ (u : Place). u.owed) i ∙ owed))))
          (λ same i. let d_is = same_Some debt d (ap (λ (u : Place). u.owed) i ∙ owed) in (length l, got_end l owing ∙ (λ j. Some (record { copy = sym same j; source = (d_is j).source; filled = (d_is j).filled }))))
          (λ na nc e'. let u = w.listed b q d e' owed its in (u.0, got_front l owing (record { copy = b; source = d.source; filled = d.filled }) u.0 u.1));
      recalled = λ b q i e named. let u = named_was b q i me e named in w.recalled b u.0 i u.1 u.2;
      fields = λ j at_field got. field2 at_field (w.fields j at_field got);
    }

    known_two : More (Knows x) (Knows won_view)
    known_two = known_more live2 (met_of c may.place) x.seen.copying.met (knows_again (known x.seen.copying.met) (my_good k s r id hist x at).owes.knows) met_lasts

    fit_two : (b : ℕ) (q : Place) → Knows won_view b ≡ Some q → Fits k b q
    fit_two = met_fits k (Knows won_view) live2 (knows_more live2 (met_of c may.place) x.seen.copying.met (knows_again (known x.seen.copying.met) (my_good k s r id hist x at).owes.knows) met_lasts) placed2

    area2 : (z : DomainView) → Area k live z → Area k live2 z
    area2 z g = record {
      room = g.room;
      free = λ b q e. cases b q e
          (λ same i. subst (λ (u : ℕ × Place). (u.0 + extent u.1.shape ≤ base_of k z.own.number + z.own.used) ⊎ (base_of k z.own.number + k.minor_words ≤ u.0)) (λ j. (sym same j, i j)) (g.free a p lives))
          (λ same i. subst (λ (u : ℕ × Place). (u.0 + extent u.1.shape ≤ base_of k z.own.number + z.own.used) ⊎ (base_of k z.own.number + k.minor_words ≤ u.0)) (λ j. (sym same j, i j))
          (inl (let n : ℕ = extent p.shape in let y : ℕ = size_of class in let h : n ≤ y = size_fits in let u : c + y ≤ k.pools * 4096 + 1 = c_top in let m : ℕ = z.own.number * k.minor_words in let v : c + n ≤ k.pools * 4096 + m + 1 + z.own.used = omega arith in v)))
          (λ na nc l. g.free b q l);
      classes = λ b q e young. let v = young_was b q young e in subst (λ (u : Shape). (b + span u ≤ base_of k z.own.number + z.own.used) ⊎ (base_of k z.own.number + k.minor_words ≤ b)) v.3 (g.classes b v.0 v.1 young);
    }

    makings2 : (z : DomainView) → Area k live z → Making k s.words z → Making k ws z
    makings2 z area m = making_beside k s.words a new z (λ j fit same. live_word_far k live a 0 p z lives (let n : ℕ = extent p.shape in let l : 3 ≤ n = extent_large p.shape (r.whole.placed.fits a p lives).head in let h : 0 < n = omega arith in h) area j fit (same ∙ (let h : a ≡ a + 0 = omega arith in h))) m

    won_rule : Rule k record { words = ws; homes = s.homes; views = set s.views id (one k hist won_view) }
    won_rule =
        let G = my_good k s r id hist x at in
        let area = area2 x G.area in
        let making = makings2 x G.area G.making in
        let control = control_set k s.words a new low_a in
        let pools = pools_same k t s.words ws control r.whole.pools in
        promotes_again k s r id hist x at may.stage won_view ws live2 t' homes2 record {
          same = refl;
          full = full2;
          garbage = garbage2;
          holders = λ q. refl;
          no_more = no_more2;
          wide = length-set s.words (before_heap k + a) new;
          control = control;
          found = found2;
          placed = placed2;
          spread = spread2;
          more = more2;
          young = λ b q e young. let v = young_was b q young e in (v.0, v.1, v.2);
          copies = copies2;
          cleared = cleared2;
          pools = record { few = pools.few; inside = pools.inside; once = pools.once; untaken = pools.untaken; owners = pools.owners; owned_by = pools.owned_by; drawn_by = pools.drawn_by; one_each = pools.one_each; asked = pools.asked };
          grid = grid2;
          drawers = drawers2;
          room = room2;
          opened = opened2;
          stood = stood_same k s r id hist x at may.stage won_view refl refl refl refl live2 more2;
          area = record { room = area.room; free = area.free; classes = area.classes };
          making = record { fits = making.fits; written = making.written };
          hunter = hunter_mine;
          owes = owes2;
          areas = λ z _ g. area2 z g;
          makings = λ z _ g m. makings2 z g m;
          hunters = hunters2;
          owe = owe2;
        }

  -- there is room for it in the list: a block has four words at least
  room_for_it : p.forward ≡ None → 1 ≤ x.own.pending.room
  room_for_it bare =
      let few4 : sum_of (λ e. t.stock.copies me e * 4) class_count ≤ copied_words t.stock me = sum_le (λ e. t.stock.copies me e * 4) (λ e. t.stock.copies me e * size_of e) class_count (λ e below. mul-le-mul_left (t.stock.copies me e) (size_least e below)) in
      let all : copied_words t.stock me ≤ sum_of (copied_words t.stock) k.domains = one_of (copied_words t.stock) me k.domains inside in
      let fit = claim_few k live r.account.pause t.stock s.words r.whole.room r.whole.spread a p lives bare may.young in
      let u : ℕ = sum_of (t.stock.copies me) class_count in
      let four : sum_of (λ e. t.stock.copies me e * 4) class_count ≡ u * 4 = sum_times (t.stock.copies me) 4 class_count in
      let n : ℕ = length x.own.pending.items in
      let claims : n ≡ t.stock.claims me = H.claims in
      let m : ℕ = t.stock.claims me in
      let listed : m ≤ u = r.whole.room.listed_copies me in
      let v : ℕ = copied_words t.stock me in
      let w : ℕ = sum_of (copied_words t.stock) k.domains in
      let z : ℕ = span p.shape in
      let y : ℕ = k.domains * k.minor_words in
      let large : 4 ≤ z = subst (λ (e : ℕ). 4 ≤ e) (sym span_class) c_large in
      let f4 : ℕ = sum_of (λ e. t.stock.copies me e * 4) class_count in
      let f4_is : f4 ≡ u * 4 = four in
      let a1 : f4 ≤ v = few4 in
      let a2 : v ≤ w = all in
      let a3 : w + z ≤ y = fit in
      let cap : x.own.pending.room + n ≡ y / 4 = fits.pending in
      let e : ℕ = x.own.pending.room in
      omega arith

  abbrev last : ℕ
  last = t.stock.latest me class

  abbrev used1 : ℕ
  used1 = t.stock.used me class

  -- the copy is at the first free place of the pool drawn last
  next_used : place_in last class used1 ≡ c → used1 < blocks_of class → Latest k t s.words me class → (used1 + 1 ≤ blocks_of class) × (used1 + 1 ≤ used1 + 1) × ((j : ℕ) → used1 + 1 ≤ j → j < blocks_of class → at_address k s.words (place_in last class j) ≡ 0)
  next_used same below l = (
    (let h : used1 < blocks_of class = below in let u : ℕ = used1 in let g : u + 1 ≤ blocks_of class = omega arith in g),
    (let u : ℕ = used1 in let g : u + 1 ≤ u + 1 = omega arith in g),
    (λ j from under. ⊎_elim (λ (z : at_address k s.words (place_in last class j) ≡ 0). z) (λ (z : (j ≡ used1) × (t.prepared (place_in last class j) ≡ Some me)). absurd (let u : ℕ = used1 in let e : j ≡ u = z.0 in let f : u + 1 ≤ j = from in omega arith))
        (l.rest j (let u : ℕ = used1 in let f : u + 1 ≤ j = from in let g : u ≤ j = omega arith in g) under)),
  )

  -- or elsewhere
  same_used : (place_in last class used1 ≡ c → used1 < blocks_of class → ⊥) → Latest k t s.words me class → (used1 ≤ blocks_of class) × (used1 ≤ used1 + 1) × ((j : ℕ) → used1 ≤ j → j < blocks_of class → at_address k s.words (place_in last class j) ≡ 0)
  same_used other l = (
    l.few,
    (let u : ℕ = used1 in let g : u ≤ u + 1 = omega arith in g),
    (λ j from under. ⊎_elim (λ (z : at_address k s.words (place_in last class j) ≡ 0). z)
        (λ (z : (j ≡ used1) × (t.prepared (place_in last class j) ≡ Some me)).
        let is : place_in last class j ≡ c = same_Some (place_in last class j) c (sym (H.prepared last class j l.own_is under z.1) ∙ may.prepared) in
        absurd (other (subst (λ (n : ℕ). place_in last class n ≡ c) z.0 is) (subst (λ (n : ℕ). n < blocks_of class) z.0 under)))
        (l.rest j from under)),
  )

  head_is_old : p.forward ≡ None → at_address k s.words a ≡ old
  head_is_old bare = subst (λ (m : Option ℕ × Bool). HeadIs m.0 p.shape (colour_in r.account.cycling.paint p.label) m.1 (at_address k s.words a)) (λ i. (bare i, f0.blank may.young i)) f0.head.packs ∙ sym old_packs

  pub record Outcome (found : ℕ) : Type 0 where
    pub after : DomainView
    pub rule : Rule k record { words = set s.words (before_heap k + a) (either (eqb found old) new found); homes = s.homes; views = set s.views id (one k hist after) }
    pub told : ClaimTold k a old class c x found after

  -- the claim is won, with so many places used of the pool drawn last
  won_outcome : (bare : p.forward ≡ None) (used2 : ℕ) → (Latest k t s.words me class → (used2 ≤ blocks_of class) × (used2 ≤ t.stock.used me class + 1) × ((j : ℕ) → used2 ≤ j → j < blocks_of class → at_address k s.words (place_in (t.stock.latest me class) class j) ≡ 0)) → Outcome (at_address k s.words a)
  won_outcome bare used2 latest2 =
      let found : ℕ = at_address k s.words a in
      let same : found ≡ old = head_is_old bare in
      let word : either (eqb found old) new found ≡ new = ap (λ (b : Bool). either b new found) (eq-eqb found old same) in
      let after : DomainView = won_view bare used2 latest2 in record {
        after = after;
        rule = subst (λ (n : ℕ). Rule k record { words = set s.words (before_heap k + a) n; homes = s.homes; views = set s.views id (one k hist after) }) (sym word) (won_rule bare used2 latest2);
        told = record {
          place = may.place;
          met = may.met;
          won = λ _. record { room = room_for_it bare; view = refl };
          lost = λ differs. absurd (differs same);
          more = known_two bare used2 latest2;
          fit = fit_two bare used2 latest2;
        };
      }

  pub outcome : Outcome (at_address k s.words a)
  outcome = ⊎_elim
      (λ (bare : p.forward ≡ None). dite (ℕ_discrete (place_in last class used1) c)
      (λ here. dite (dec_le (blocks_of class) used1)
      (λ full. won_outcome bare used1 (same_used (λ _ below. let h : blocks_of class ≤ used1 = full in let g : used1 < blocks_of class = below in omega arith)))
      (λ room. won_outcome bare (used1 + 1) (next_used here (lt_of_not-le room))))
      (λ other. won_outcome bare used1 (same_used (λ same_place _. other same_place))))
      (λ (t2 : (c2 : ℕ) × (p.forward ≡ Some c2)).
      let found : ℕ = at_address k s.words a in
      let differs : found ≢ old = (λ e. forwards_not p.shape old t2.0 (new_colour old_head.beside old_head.colours, false, old_head.packs) (sym e ∙ found_forward t2.0 t2.1)) in
      let word : either (eqb found old) new found ≡ found = ap (λ (b : Bool). either b new found) (ne_eqb found old differs) in record {
        after = lost_view t2.0 t2.1;
        rule = subst (λ (ws : List ℕ). Rule k record { words = ws; homes = s.homes; views = set s.views id (one k hist (lost_view t2.0 t2.1)) }) (sym (set-get_or s.words (before_heap k + a) 0) ∙ ap (set s.words (before_heap k + a)) (sym word)) (lost_rule t2.0 t2.1);
        told = lost_told t2.0 t2.1;
      })
      (number_cases p.forward)

pub claim_may : (k : Config) (x : DomainView) (word a old new class c : ℕ) → word ≡ before_heap k + a → ClaimMay k x a old new class c → MayStep k x word (λ n. either (eqb n old) new n) (ClaimTold k a old class c)
claim_may k x word a old new class c place may fits slots id hist s r _ at _ =
    let o = outcome k s r id hist x at fits a old new class c may in (
      one k hist o.after,
      keeps,
      tt,
      subst (λ (n : ℕ). Rule k record { words = set s.words n (either (eqb (get_or s.words n 0) old) new (get_or s.words n 0)); homes = s.homes; views = set s.views id (one k hist o.after) }) (sym place) o.rule,
      (subst (λ (n : ℕ). ClaimTold k a old class c x (get_or s.words n 0) o.after) (sym place) o.told, refl),
    )

-- it closes where a won claim was written into the token's lists
pub claim_closes : (k : Config) (x : DomainView) (found a old new class c : ℕ) → ClaimMay k x a old new class c → Closes k x found (ClaimTold k a old class c) (CanClaim class old found) (Claims class c a old found)
claim_closes k x found a old new class c may y fits told = dite (ℕ_discrete found old)
    (λ same.
    let w = told.won same in
    let own : y.own ≡ preparing (pushed x.own c a) class None = ap (λ (z : DomainView). z.own) w.view in record {
      can_write = (may.of_class, λ _. w.room);
      written = λ after wrote. own ∙ sym (wrote.won same);
      fits = subst (OwnFits k) (sym own) (fits_with k x.own x.own.looked (set x.own.prepared class None) (pushed x.own c a).pending x.own.ephemerons x.own.swept fits.looked (length-set x.own.prepared class None ∙ fits.prepared)
          (let n : ℕ = length x.own.pending.items in let e : ℕ = x.own.pending.room in let h : 1 ≤ e = w.room in
          ap (λ (m : ℕ). e - 1 + m) (longer x.own.pending.items (record { copy = c; source = a })) ∙ ((let g : e - 1 + (n + 1) ≡ e + n = omega arith in g) ∙ fits.pending)) fits.ephemerons fits.swept fits);
      once = promote_once k x y may.stage;
    })
    (λ differs.
    let w = told.lost differs in
    let own : y.own ≡ x.own = ap (λ (z : DomainView). z.own) w.view in record {
      can_write = (may.of_class, λ same. absurd (differs same));
      written = λ after wrote. own ∙ sym (wrote.lost differs);
      fits = subst (OwnFits k) (sym own) fits;
      once = promote_once k x y may.stage;
    })
