-- A remembered field gets a word that is no address of a minor area, and nobody remembers it any more.
use Rattle.heap_rule.specs.declared.phase.Kind.TheVariants.{Promote}
use Rattle.heap_rule.specs.Places.{without_keys}
use Rattle.heap_rule.proofs.Keeps.{whole_here}
use Rattle.std.proofs.Common.{◌≡◌, ◌≢◌, ℕ, zero, suc, ◌+◌, ◌<◌, ◌≤◌, List, ◌∷◌, length, get_or, set, slice_get, Option, Some, None, sym, refl, ap, ◌∙◌, subst, ⊎_elim, arith, length-set, get_or-set_same, get_or-set_other}
use mathlib.Core.Logic.{dite}
use native.Mathlib.Decide.{ℕ_discrete}
use mathlib.Core.Option.{some}
use lib.ListN.{get_elem?}
use Rattle.atomic_table.specs.Table.{keeps}
use Rattle.model_core.specs.declared.entry.Entry.{Entry}
use Rattle.model_core.specs.declared.graph.Value as graph_value
use Rattle.model_core.specs.declared.graph.Node.{Node}
use Rattle.model_core.specs.Graph.{Graph, node_at}
use Rattle.model_core.specs.Fronts.{Shape}
use Rattle.heap_rule.specs.declared.config.Config.{Config}
use Rattle.heap_rule.specs.declared.view.DomainView.{DomainView}
use Rattle.heap_rule.specs.Layout.{heap_words, before_heap}
use Rattle.heap_rule.specs.Places.{Debt, Place, Live, extent, values_of, Stands, Found, IsOldWord, Lasts, More}
use Rattle.heap_rule.specs.Phases.{IsInPause}
use Rattle.heap_rule.specs.Copies.{IsCopied, known, debt_of, Owes, IsField, Copies, Promoting, Cleared}
use Rattle.heap_rule.specs.Raw.{MayStore}
use Rattle.heap_rule.specs.Rule.{state_of, AllFound, Area, Making, Rule}
use Rattle.heap_rule.specs.Views.{one}
use Rattle.step_promote.specs.Promotion.{HasValueAt, recalling, RewriteMay, RewriteTold}
use Rattle.heap_rule.proofs.Update.{over, over_here, over_else}
use Rattle.heap_rule.proofs.Again.{Was}
use Rattle.heap_rule.proofs.Beside.{found_beside, making_beside, live_word_far}
use Rattle.heap_rule.proofs.Lots.{Beside, garbage_beside, head_full, live_beside, grid_beside, hunter_beside}
use Rattle.heap_rule.proofs.Keeps.{Words, my_good, more_same, stands_more, control_set}
use Rattle.step_promote.proofs.Places as places
use Rattle.step_promote.proofs.Places.{changes_again}
use Rattle.std.proofs.lemmas.Option.{none-some, same_Some}

some_value : (u v : graph_value.Value) → Some u ≡ Some v → u ≡ v
some_value u v e = cc

module _ (k : Config) (s : Words) (r : Rule k s) (id : ℕ) (hist : List Entry) (x : DomainView) (at : get_elem? s.views id ≡ some (one k hist x)) (a new : ℕ) (may : RewriteMay k x a new) where
  open may use {block as c, index as i0}

  abbrev lasts : Lasts r.account.live c may.place
  lasts = let l = may.here in let m = (my_good k s r id hist x at).owes.knows c l.place l.lives in record { place = m.place; lives = m.lives; label = m.label ∙ l.label; shape = m.shape ∙ l.shape }

  open lasts use {place as p}

  lives : r.account.live c ≡ Some p
  lives = lasts.lives

  abbrev named2 : ℕ → Option ℕ
  named2 = over i0 None p.named

  abbrev p2 : Place
  p2 = record p { named = named2 }

  abbrev live2 : Live
  live2 = places.live2 r.account.live c p p2 lives refl refl refl

  here2 : live2 c ≡ Some p2
  here2 = places.here2 r.account.live c p p2 lives refl refl refl

  was : (b : ℕ) (q : Place) → b ≢ c → live2 b ≡ Some q → r.account.live b ≡ Some q
  was = places.was r.account.live c p p2 lives refl refl refl

  is2 : (b : ℕ) (q : Place) → b ≡ c → live2 b ≡ Some q → p2 ≡ q
  is2 = places.is2 r.account.live c p p2 lives refl refl refl

  is1 : (b : ℕ) (q : Place) → b ≡ c → r.account.live b ≡ Some q → p ≡ q
  is1 = places.is1 r.account.live c p p2 lives refl refl refl

  forth : (b : ℕ) (q : Place) → r.account.live b ≡ Some q → Was live2 b q
  forth = places.forth r.account.live c p p2 lives refl refl refl

  copied_again : (b d : ℕ) → IsCopied r.account.live b d → IsCopied live2 b d
  copied_again = places.copied_again r.account.live c p p2 lives refl refl refl

  more : More r.account.live live2
  more = places.more r.account.live c p p2 lives refl refl refl

  -- the block that lives there in the end lived there before, and is owed the same
  record Before (b : ℕ) (q : Place) : Type 0 where
    place : Place
    lived : r.account.live b ≡ Some place
    shape : place.shape ≡ q.shape
    forward : place.forward ≡ q.forward
    owed : place.owed ≡ q.owed
    label : place.label ≡ q.label
    named : (i d : ℕ) → q.named i ≡ Some d → (place.named i ≡ Some d) × (((b ≡ c) × (i ≡ i0)) → ⊥)

  before : (b : ℕ) (q : Place) → live2 b ≡ Some q → Before b q
  before b q e = dite (ℕ_discrete b c)
      (λ same. let i = is2 b q same e in record {
        place = p;
        lived = ap r.account.live same ∙ lives;
        shape = ap (λ (z : Place). z.shape) i;
        forward = ap (λ (z : Place). z.forward) i;
        owed = ap (λ (z : Place). z.owed) i;
        label = ap (λ (z : Place). z.label) i;
        named = λ j d h.
            let n : named2 j ≡ Some d = ap (λ (z : Place). z.named j) i ∙ h in
            let differs : j ≢ i0 = (λ eq. none-some d (sym (over_here i0 None p.named) ∙ (ap named2 (sym eq) ∙ n))) in
            (sym (over_else i0 None p.named j differs) ∙ n, (λ t. differs t.1));
      })
      (λ other. record { place = q; lived = was b q other e; shape = refl; forward = refl; owed = refl; label = refl; named = λ j d h. (h, (λ t. other t.0)) })

  owed_again : (b : ℕ) (q : Place) (o : Option Debt) → r.account.live b ≡ Some q → q.owed ≡ o → (t : Place) × (live2 b ≡ Some t) × (t.owed ≡ o) × (t.shape ≡ q.shape)
  owed_again b q o e is = dite (ℕ_discrete b c)
      (λ same. let i = is1 b q same e in (p2, ap live2 same ∙ here2, ap (λ (z : Place). z.owed) i ∙ is, ap (λ (z : Place). z.shape) i))
      (λ other. (q, over_else c (Some p2) r.account.live b other ∙ e, is, refl))

  copies2 : Copies k live2
  copies2 = record {
    leads = λ b q t e f. let w = before b q e in let l = r.whole.copies.leads b w.place t w.lived (w.forward ∙ f) in let v = forth t l.place l.lives in record {
      young = l.young;
      old = l.old;
      filled = sym w.owed ∙ l.filled;
      place = v.place;
      lives = v.lives;
      label = v.label ∙ (l.label ∙ w.label);
      shape = v.shape ∙ (l.shape ∙ w.shape);
      plain = v.forward ∙ l.plain;
    };
    pends = λ b q d e owed. let w = before b q e in let t = r.whole.copies.pends b w.place d w.lived (w.owed ∙ owed) in let v = forth d.source t.place t.lives in record {
      inside = t.inside;
      old = t.old;
      plain = sym w.forward ∙ t.plain;
      place = v.place;
      lives = v.lives;
      forwards = v.forward ∙ t.forwards;
    };
    naming = λ b q i d e named. let w = before b q e in let t = r.whole.copies.naming b w.place i d w.lived (w.named i d named).0 in (t.0, subst (λ (z : Shape). i + 2 < extent z) w.shape t.1);
  }

  cleared2 : Promoting r.account.pause → (d : ℕ) → d < k.domains → r.account.pause.arrived d ≡ r.account.pause.phase + 1 → Cleared live2 d
  cleared2 h d below up = let cl = r.whole.cleared h d below up in record {
    no_debt = λ b q o e owed. let w = before b q e in cl.no_debt b w.place o w.lived (w.owed ∙ owed);
    no_field = λ b q i e named. let w = before b q e in cl.no_field b w.place i w.lived (w.named i d named).0;
  }

  field2 : (spot : ℕ) → IsField k r.account.live spot → IsField k live2 spot
  field2 spot f = let t = owed_again f.block f.place None f.lives f.filled in
      record { block = f.block; place = t.0; index = f.index; lives = t.1; is = f.is; inside = subst (λ (z : Shape). f.index + 2 < extent z) (sym t.3) f.inside; old = f.old; filled = t.2 }

  owes2 : (z : DomainView) → Owes k r.account.live z → (remembered : List ℕ) → ((b i : ℕ) (q : Place) → r.account.live b ≡ Some q → q.named i ≡ Some z.own.number → (((b ≡ c) × (i ≡ i0)) → ⊥) → (j : ℕ) × (slice_get remembered j ≡ Some (b + 2 + i)))
      → ((j spot : ℕ) → slice_get remembered j ≡ Some spot → IsField k r.account.live spot) → Owes k live2 (recalling z remembered)
  owes2 z w remembered recalled fields = record {
    quiet = w.quiet;
    knows = λ b q e. let l = w.knows b q e in let m = more b l.place l.lives in record { place = m.place; lives = m.lives; label = m.label ∙ l.label; shape = m.shape ∙ l.shape };
    copied = λ b d has. copied_again b d (w.copied b d has);
    owed = λ i v got. let t = w.owed i v got in let u = owed_again v.copy t.place (Some (debt_of z v)) t.lives t.debt in record { place = u.0; lives = u.1; debt = u.2 };
    once = w.once;
    listed = λ b q d e owed its. let y = before b q e in w.listed b y.place d y.lived (y.owed ∙ owed) its;
    recalled = λ b q i e named. let y = before b q e in let n = y.named i z.own.number named in recalled b i y.place y.lived n.0 n.1;
    fields = λ j spot got. field2 spot (fields j spot got);
  }

  shape_is : p.shape ≡ may.place.shape
  shape_is = lasts.shape

  abbrev ext : ℕ
  ext = extent p.shape

  inside : i0 + 2 < extent p.shape
  inside = subst (λ (z : Shape). i0 + 2 < extent z) (sym shape_is) may.inside

  -- a field of another place isn't at this address
  sole : (b i : ℕ) (q : Place) → r.account.live b ≡ Some q → i + 2 < extent q.shape → b + 2 + i ≡ a → (b ≡ c) × (i ≡ i0)
  sole b i q e below is =
      let word : a ≡ c + 2 + i0 = may.is in
      let m : ℕ = extent q.shape in
      let z : i + 2 < m = below in
      let n : ℕ = ext in
      let y : i0 + 2 < n = inside in
      let f : b + 2 + i ≡ a = is in
      dite (ℕ_discrete b c)
      (λ same. let g : b ≡ c = same in (same, (let h : i ≡ i0 = omega arith in h)))
      (λ other. absurd (⊎_elim (λ (t : b + m ≤ c). omega arith) (λ (t : c + n ≤ b). omega arith) (r.whole.placed.apart b c q p e lives other)))

  abbrev graph : Graph
  graph = (state_of k r.account.log).graph

  abbrev A : ℕ
  A = c + 2 + i0

  abbrev ws : List ℕ
  ws = set s.words (before_heap k + A) new

  spot : before_heap k + A < length s.words
  spot = let fits = r.whole.placed.fits c p lives in let n : ℕ = ext in let y : i0 + 2 < n = inside in let w : ℕ = heap_words k in let h : c + n ≤ w + 1 = fits.high in let wide : length s.words ≡ 1 + before_heap k + w = r.whole.wide in let b : ℕ = before_heap k in omega arith

  f0 : Found k r.account.cycling.paint r.account.live graph s.words c p
  f0 = r.whole.found c p lives

  has_it : HasValueAt (state_of k r.account.log) may.place.label i0 may.held
  has_it = subst (λ (log : List Entry). HasValueAt (state_of k log) may.place.label i0 may.held) ((my_good k s r id hist x at).still.0 (subst IsInPause (sym may.stage) tt)) may.has

  node_is : f0.node ≡ has_it.node
  node_is = same_Some f0.node has_it.node (sym f0.there ∙ (ap (node_at graph) lasts.label ∙ has_it.there))

  found_here : Found k r.account.cycling.paint live2 graph ws c p2
  found_here = record {
    node = f0.node;
    there = f0.there;
    shape = f0.shape;
    head = let h = f0.head in record { scanned = h.scanned; packs = get_or-set_other s.words (before_heap k + A) (before_heap k + c) new 0 (λ e. omega arith) ∙ h.packs; tells = h.tells };
    blank = f0.blank;
    label = get_or-set_other s.words (before_heap k + A) (before_heap k + (c + 1)) new 0 (λ e. omega arith) ∙ f0.label;
    values = λ i v has got. dite (ℕ_discrete i i0)
        (λ same. record {
          value = may.value;
          packs = ap (λ (m : ℕ). get_or ws (before_heap k + (c + 2 + m)) 0) same ∙ (get_or-set_same s.words (before_heap k + A) new 0 spot ∙ may.packs);
          stands = subst (Stands live2 may.value) (some_value may.held v (sym has_it.is ∙ (ap (λ (z : Node). slice_get (values_of z) i0) (sym node_is) ∙ (ap (slice_get (values_of f0.node)) (sym same) ∙ (ap (λ (keys : List ℕ). slice_get (values_of (without_keys keys f0.node)) i) (sym (whole_here k s r id hist x at Promote tt may.stage p2.label)) ∙ got)))))
              (stands_more r.account.live live2 may.value may.held more (stands_more (known x.seen.copying.met) r.account.live may.value may.held (my_good k s r id hist x at).owes.knows may.stands));
        })
        (λ other. let differ : i ≢ i0 = other in let w = f0.values i v has got in record {
          value = w.value;
          packs = get_or-set_other s.words (before_heap k + A) (before_heap k + (c + 2 + i)) new 0 (λ e. differ (omega arith)) ∙ w.packs;
          stands = stands_more r.account.live live2 w.value v more w.stands;
        });
    old = λ under i within has none. dite (ℕ_discrete i i0)
        (λ same. subst (IsOldWord k) (sym (ap (λ (m : ℕ). get_or ws (before_heap k + (c + 2 + m)) 0) same ∙ get_or-set_same s.words (before_heap k + A) new 0 spot)) may.old)
        (λ other. let differ : i ≢ i0 = other in subst (IsOldWord k) (sym (get_or-set_other s.words (before_heap k + A) (before_heap k + (c + 2 + i)) new 0 (λ e. differ (omega arith)))) (f0.old under i within has (sym (over_else i0 None p.named i other) ∙ none)));
  }

  found2 : AllFound k r.account.cycling.paint live2 graph ws
  found2 b q e = dite (ℕ_discrete b c)
      (λ same. subst (λ (z : ℕ × Place). Found k r.account.cycling.paint live2 graph ws z.0 z.1) (λ i. (sym same i, is2 b q same e i)) found_here)
      (λ other. let fb = r.whole.found b q (was b q other e) in found_beside k r.account.cycling.paint r.account.live live2 graph graph s.words A new b q more fb fb.there
      (λ z within clash. let m : ℕ = extent q.shape in let i : z < m = within in let h : b + z ≡ A = clash in let n : ℕ = ext in let y : i0 + 2 < n = inside in
      ⊎_elim (λ (t : b + m ≤ c). omega arith) (λ (t : c + n ≤ b). omega arith) (r.whole.placed.apart b c q p (was b q other e) lives other)))

  beside : (m : ℕ) → Beside k r.account.tenancy s.words m A
  beside m = subst (Beside k r.account.tenancy s.words m) (let h : c + (2 + i0) ≡ A = omega arith in h)
      (live_beside k r.account.tenancy r.account.live s.words c (2 + i0) p r.whole.pools r.whole.grid (r.whole.placed.fits c p lives).low lives (omega arith) (let n : ℕ = ext in let y : i0 + 2 < n = inside in let g : 2 + i0 < n = omega arith in g) (head_full k r.account.cycling.paint r.account.live graph s.words c p f0) m)

  makings2 : (z : DomainView) → Area k r.account.live z → Making k s.words z → Making k ws z
  makings2 z area making = making_beside k s.words A new z (λ j fit same. live_word_far k r.account.live c (2 + i0) p z lives (let n : ℕ = ext in let y : i0 + 2 < n = inside in let g : 2 + i0 < n = omega arith in g) area j fit (same ∙ (let h : A ≡ c + (2 + i0) = omega arith in h))) making

  -- the list without its first has what is still remembered
  rest_has : (b i : ℕ) (q : Place) → r.account.live b ≡ Some q → q.named i ≡ Some x.own.number → (((b ≡ c) × (i ≡ i0)) → ⊥) → (j : ℕ) × (slice_get may.rest j ≡ Some (b + 2 + i))
  rest_has b i q e named differs =
      let t = (my_good k s r id hist x at).owes.recalled b q i e named in
      behind t.0 (ap (λ (l : List ℕ). slice_get l t.0) (sym may.first) ∙ t.1) where
        behind : (j : ℕ) → slice_get (a ∷ may.rest) j ≡ Some (b + 2 + i) → (j : ℕ) × (slice_get may.rest j ≡ Some (b + 2 + i))
        behind zero g = absurd (differs (sole b i q e (r.whole.copies.naming b q i x.own.number e named).1 (sym (same_Some a (b + 2 + i) g))))
        behind (suc j) g = (j, g)

  rewrite_rule : Rule k record { words = ws; homes = s.homes; views = set s.views id (one k hist (recalling x may.rest)) }
  rewrite_rule =
      let g = my_good k s r id hist x at in
      changes_again k s r id hist x at may.stage c p p2 lives refl refl refl (recalling x may.rest) ws record {
        same = refl;
        wide = length-set s.words (before_heap k + A) new;
        control = control_set k s.words A new (omega arith);
        found = found2;
        copies = copies2;
        cleared = cleared2;
        grid = grid_beside k r.account.tenancy s.words A new r.account.live r.account.live r.whole.pools beside (more_same r.account.live) (λ b q h _. h) r.whole.grid;
        heads = garbage_beside k r.account.live r.account.tenancy r.account.cycling s.words r.whole.cycle.leaves A new r.whole.pools beside;
        makings = makings2;
        hunters = λ z h. hunter_beside k r.account.tenancy s.words A new r.whole.pools z (beside z.own.number) h;
        owes = owes2 x g.owes may.rest rest_has (λ j where_is got. g.owes.fields (suc j) where_is (ap (λ (l : List ℕ). slice_get l (suc j)) may.first ∙ got));
        owe = λ z _ w. owes2 z w z.seen.remembered (λ b i q e named _. w.recalled b q i e named) w.fields;
      }

pub rewrite_may : (k : Config) (x : DomainView) (word a new : ℕ) → word ≡ before_heap k + a → RewriteMay k x a new → MayStore k x word new (RewriteTold a)
rewrite_may k x word a new place may fits slots id hist s r _ at _ =
    let y : DomainView = recalling x may.rest in (
      one k hist y,
      keeps,
      tt,
      subst (λ (m : ℕ). Rule k record { words = set s.words m new; homes = s.homes; views = set s.views id (one k hist y) }) (sym (place ∙ ap (λ (m : ℕ). before_heap k + m) may.is)) (rewrite_rule k s r id hist x at a new may),
      (record { rest = may.rest; first = may.first; view = refl }, refl),
    )
