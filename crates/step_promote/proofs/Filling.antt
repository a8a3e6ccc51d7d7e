-- The values of a copy are stored, one after the other, and then it is owed nothing more.
use Rattle.heap_rule.specs.Places.{without_keys}
use Rattle.heap_rule.proofs.Keeps.{whole_here}
use Rattle.std.proofs.Common.{◌≡◌, ◌≢◌, ℕ, zero, suc, ◌+◌, ◌*◌, ◌<◌, ◌≤◌, IsTrue, List, ◌∷◌, length, get_or, set, slice_get, Option, Some, None, unwrap_or, sym, refl, ap, ◌∙◌, subst, inr, ⊎_elim, arith, length-set, get_or-set_same, get_or-set_other}
use mathlib.Core.Logic.{dite}
use native.Mathlib.Decide.{ℕ_discrete}
use mathlib.Core.Option.{some}
use lib.ListN.{get_elem?}
use Rattle.atomic_table.specs.Table.{keeps}
use Rattle.model_core.specs.declared.entry.Entry.{Entry}
use Rattle.model_core.specs.declared.graph.Value as graph_value
use Rattle.model_core.specs.declared.graph.Node.{Node}
use Rattle.model_core.specs.Graph.{Graph, node_at}
use Rattle.model_core.specs.Fronts.{Shape}
use Rattle.heap_rule.specs.declared.config.Config.{Config}
use Rattle.heap_rule.specs.declared.view.Owing.{Owing}
use Rattle.heap_rule.specs.declared.view.DomainView.{DomainView}
use Rattle.heap_rule.specs.declared.phase.Kind.TheVariants.{Promote}
use Rattle.heap_rule.specs.declared.phase.Stage.TheVariants.{In}
use Rattle.heap_rule.specs.Layout.{heap_words, before_heap, at_address}
use Rattle.heap_rule.specs.Places.{Debt, Place, Live, extent, values_of, HasValue, Stands, Found, IsOldWord, More}
use Rattle.heap_rule.specs.Phases.{IsInPause}
use Rattle.heap_rule.specs.Pools.{Grid, Hunter}
use Rattle.heap_rule.specs.Copies.{IsCopied, known, debt_of, IsOwed, Owes, IsField, Copies, Pends, Promoting, Cleared}
use Rattle.heap_rule.specs.Raw.{MayStep, MayStore}
use Rattle.heap_rule.specs.Rule.{state_of, AllFound, Area, Making, Rule}
use Rattle.heap_rule.specs.Views.{one}
use Rattle.step_promote.specs.Promotion.{with_pending, HasValueAt, FillMay, FillTold, FilledMay, FilledTold}
use Rattle.heap_rule.proofs.Again.{Was, Back}
use Rattle.heap_rule.proofs.Beside.{extent_of, found_beside, making_beside, live_word_far}
use Rattle.heap_rule.proofs.Lots.{Beside, garbage_beside, head_full, live_beside, grid_beside, hunter_beside}
use Rattle.heap_rule.proofs.Lists.{got_below}
use Rattle.heap_rule.proofs.Keeps.{Words, Control, mine, my_good, more_same, stands_more, unmoved, control_same, control_set}
use Rattle.heap_rule.proofs.Update.{over_else}
use Rattle.step_promote.proofs.Places as places
use Rattle.step_promote.proofs.Places.{changes_again}
use Rattle.std.proofs.lemmas.Option.{none-some, same_Some}

module _ (k : Config) (s : Words) (r : Rule k s) (id : ℕ) (hist : List Entry) (x : DomainView) (at : get_elem? s.views id ≡ some (one k hist x)) (promotes : x.seen.stage ≡ In Promote)
    (o : Owing) (rest : List Owing) (first : x.seen.copying.pending ≡ o ∷ rest) (owed2 : Option Debt) (of : (b : Debt) → owed2 ≡ Some b → (b.domain ≡ x.own.number) × (b.source ≡ o.source)) where
  pub mine_is : IsOwed r.account.live x o
  mine_is = (my_good k s r id hist x at).owes.owed 0 o (ap (λ (l : List Owing). slice_get l 0) first)

  abbrev pub c : ℕ
  c = o.copy

  abbrev pub p : Place
  p = mine_is.place

  pub lives : r.account.live c ≡ Some p
  lives = mine_is.lives

  pub debt : p.owed ≡ Some (debt_of x o)
  debt = mine_is.debt

  abbrev pub p2 : Place
  p2 = record p { owed = owed2 }

  abbrev pub live2 : Live
  live2 = places.live2 r.account.live c p p2 lives refl refl refl

  pub here2 : live2 c ≡ Some p2
  here2 = places.here2 r.account.live c p p2 lives refl refl refl

  pub was : (b : ℕ) (q : Place) → b ≢ c → live2 b ≡ Some q → r.account.live b ≡ Some q
  was = places.was r.account.live c p p2 lives refl refl refl

  pub is2 : (b : ℕ) (q : Place) → b ≡ c → live2 b ≡ Some q → p2 ≡ q
  is2 = places.is2 r.account.live c p p2 lives refl refl refl

  pub is1 : (b : ℕ) (q : Place) → b ≡ c → r.account.live b ≡ Some q → p ≡ q
  is1 = places.is1 r.account.live c p p2 lives refl refl refl

  pub forth : (b : ℕ) (q : Place) → r.account.live b ≡ Some q → Was live2 b q
  forth = places.forth r.account.live c p p2 lives refl refl refl

  pub copied_again : (a d : ℕ) → IsCopied r.account.live a d → IsCopied live2 a d
  copied_again = places.copied_again r.account.live c p p2 lives refl refl refl

  pub back : Back r.account.live live2
  back = places.back r.account.live c p p2 lives refl refl refl

  pub more : More r.account.live live2
  more = places.more r.account.live c p p2 lives refl refl refl

  pends : Pends k r.account.live c p (debt_of x o)
  pends = r.whole.copies.pends c p (debt_of x o) lives debt

  pub copies2 : Copies k live2
  copies2 = record {
    leads = λ a q t e f. let b = back a q e in let l = r.whole.copies.leads a b.place t b.lives (b.forward ∙ f) in let w = forth t l.place l.lives in record {
      young = l.young;
      old = l.old;
      filled = dite (ℕ_discrete a c)
          (λ same. absurd (let y : k.pools * 4096 < a = l.young in let z : c ≤ k.pools * 4096 = pends.old in let i : a ≡ c = same in omega arith))
          (λ other. let same_place : b.place ≡ q = ap (λ (z : Option Place). unwrap_or z q) (sym b.lives ∙ was a q other e) in ap (λ (z : Place). z.owed) (sym same_place) ∙ l.filled);
      place = w.place;
      lives = w.lives;
      label = w.label ∙ (l.label ∙ b.label);
      shape = w.shape ∙ (l.shape ∙ b.shape);
      plain = w.forward ∙ l.plain;
    };
    pends = λ b q d e owed. dite (ℕ_discrete b c)
        (λ same.
        let i = is2 b q same e in
        let its = of d (ap (λ (z : Place). z.owed) i ∙ owed) in
        let w = forth o.source pends.place pends.lives in record {
          inside = subst (λ (n : ℕ). n < k.domains) (sym its.0) (mine k s r id hist x at).inside;
          old = subst (λ (n : ℕ). n ≤ k.pools * 4096) (sym same) pends.old;
          plain = ap (λ (z : Place). z.forward) (sym i) ∙ pends.plain;
          place = w.place;
          lives = ap live2 its.1 ∙ w.lives;
          forwards = w.forward ∙ (pends.forwards ∙ ap Some (sym same));
        })
        (λ other. let t = r.whole.copies.pends b q d (was b q other e) owed in let w = forth d.source t.place t.lives in record {
          inside = t.inside;
          old = t.old;
          plain = t.plain;
          place = w.place;
          lives = w.lives;
          forwards = w.forward ∙ t.forwards;
        });
    naming = λ b q i d e named. dite (ℕ_discrete b c)
        (λ same. let j = is2 b q same e in subst (λ (z : Shape). (d < k.domains) × (i + 2 < extent z)) (ap (λ (z : Place). z.shape) j) (r.whole.copies.naming c p i d lives (ap (λ (z : Place). z.named i) j ∙ named)))
        (λ other. r.whole.copies.naming b q i d (was b q other e) named);
  }

  pub cleared2 : Promoting r.account.pause → (d : ℕ) → d < k.domains → r.account.pause.arrived d ≡ r.account.pause.phase + 1 → Cleared live2 d
  cleared2 h d below up = let cl = r.whole.cleared h d below up in record {
    no_debt = λ b q w e owed. dite (ℕ_discrete b c)
        (λ same. let its = of w (ap (λ (z : Place). z.owed) (is2 b q same e) ∙ owed) in λ i. cl.no_debt c p (debt_of x o) lives debt (sym its.0 ∙ i))
        (λ other. cl.no_debt b q w (was b q other e) owed);
    no_field = λ b q i e. dite (ℕ_discrete b c)
        (λ same. let j = is2 b q same e in λ named. cl.no_field c p i lives (ap (λ (z : Place). z.named i) j ∙ named))
        (λ other. cl.no_field b q i (was b q other e));
  }

  field2 : (spot : ℕ) → IsField k r.account.live spot → IsField k live2 spot
  field2 spot f = record {
    block = f.block;
    place = f.place;
    index = f.index;
    lives = over_else c (Some p2) r.account.live f.block (λ same. none-some (debt_of x o) (sym f.filled ∙ (ap (λ (z : Place). z.owed) (sym (is1 f.block f.place same f.lives)) ∙ debt))) ∙ f.lives;
    is = f.is;
    inside = f.inside;
    old = f.old;
    filled = f.filled;
  }

  -- what the others owe they owe again
  pub all_owe2 : (z : DomainView) → z.own.number ≢ x.own.number → Owes k r.account.live z → Owes k live2 z
  all_owe2 z differs w = record {
    quiet = w.quiet;
    knows = λ a q e. let l = w.knows a q e in let m = more a l.place l.lives in record { place = m.place; lives = m.lives; label = m.label ∙ l.label; shape = m.shape ∙ l.shape };
    copied = λ a d has. copied_again a d (w.copied a d has);
    owed = λ i v got. let t = w.owed i v got in record {
      place = t.place;
      lives = over_else c (Some p2) r.account.live v.copy (λ same. differs (ap (λ (b : Debt). b.domain) (same_Some (debt_of z v) (debt_of x o) (sym t.debt ∙ (ap (λ (y : Place). y.owed) (sym (is1 v.copy t.place same t.lives)) ∙ debt))))) ∙ t.lives;
      debt = t.debt;
    };
    once = w.once;
    listed = λ b q d e owed its. dite (ℕ_discrete b c)
        (λ same. absurd (differs (sym its ∙ (of d (ap (λ (y : Place). y.owed) (is2 b q same e) ∙ owed)).0)))
        (λ other. w.listed b q d (was b q other e) owed its);
    recalled = λ b q i e named. dite (ℕ_discrete b c)
        (λ same. let u = w.recalled c p i lives (ap (λ (y : Place). y.named i) (is2 b q same e) ∙ named) in (u.0, u.1 ∙ ap (λ (n : ℕ). Some (n + 2 + i)) (sym same)))
        (λ other. w.recalled b q i (was b q other e) named);
    fields = λ j spot got. field2 spot (w.fields j spot got);
  }

  -- the others in the own list are at other places
  pub rest_apart : (i : ℕ) (v : Owing) → slice_get rest i ≡ Some v → v.copy ≢ c
  rest_apart i v got same = let e : suc i ≡ 0 = (my_good k s r id hist x at).owes.once (suc i) 0 v o (ap (λ (l : List Owing). slice_get l (suc i)) first ∙ got) (ap (λ (l : List Owing). slice_get l 0) first) same in omega arith

  pub rest_owed : (i : ℕ) (v : Owing) → slice_get rest i ≡ Some v → IsOwed live2 x v
  rest_owed i v got = let t = (my_good k s r id hist x at).owes.owed (suc i) v (ap (λ (l : List Owing). slice_get l (suc i)) first ∙ got) in
      record { place = t.place; lives = over_else c (Some p2) r.account.live v.copy (rest_apart i v got) ∙ t.lives; debt = t.debt }

  pub rest_once : (i j : ℕ) (v w : Owing) → slice_get rest i ≡ Some v → slice_get rest j ≡ Some w → v.copy ≡ w.copy → i ≡ j
  rest_once i j v w f g same = let e : suc i ≡ suc j = (my_good k s r id hist x at).owes.once (suc i) (suc j) v w (ap (λ (l : List Owing). slice_get l (suc i)) first ∙ f) (ap (λ (l : List Owing). slice_get l (suc j)) first ∙ g) same in omega arith

  pub rest_listed : (b : ℕ) (q : Place) (d : Debt) → b ≢ c → live2 b ≡ Some q → q.owed ≡ Some d → d.domain ≡ x.own.number → (i : ℕ) × (slice_get rest i ≡ Some (record { copy = b; source = d.source; filled = d.filled }))
  rest_listed b q d other e owed its =
      let t = (my_good k s r id hist x at).owes.listed b q d (was b q other e) owed its in
      behind t.0 (ap (λ (l : List Owing). slice_get l t.0) (sym first) ∙ t.1) where
        behind : (i : ℕ) → slice_get (o ∷ rest) i ≡ Some (record { copy = b; source = d.source; filled = d.filled }) → (j : ℕ) × (slice_get rest j ≡ Some (record { copy = b; source = d.source; filled = d.filled }))
        behind zero g = absurd (other (sym (ap (λ (v : Owing). v.copy) (owing_same o (record { copy = b; source = d.source; filled = d.filled }) g)))) where
          owing_same : (u v : Owing) → Some u ≡ Some v → u ≡ v
          owing_same u v e = cc
        behind (suc i) g = (i, g)

  -- the rule with what the domain is still to fill
  pub fills_again : (pending2 : List Owing) (words' : List ℕ) → length words' ≡ length s.words → Control k s.words words' → AllFound k r.account.cycling.paint live2 (state_of k r.account.log).graph words' → Grid k r.account.tenancy r.account.live words'
      → ((b : ℕ) → IsTrue (r.account.tenancy.garbage b) → at_address k words' b ≡ at_address k s.words b)
      → ((z : DomainView) → Area k r.account.live z → Making k s.words z → Making k words' z) → ((z : DomainView) → Hunter k r.account.tenancy s.words z → Hunter k r.account.tenancy words' z)
      → ((i : ℕ) (v : Owing) → slice_get pending2 i ≡ Some v → IsOwed live2 x v)
      → ((i j : ℕ) (v w : Owing) → slice_get pending2 i ≡ Some v → slice_get pending2 j ≡ Some w → v.copy ≡ w.copy → i ≡ j)
      → ((b : ℕ) (q : Place) (d : Debt) → live2 b ≡ Some q → q.owed ≡ Some d → d.domain ≡ x.own.number → (i : ℕ) × (slice_get pending2 i ≡ Some (record { copy = b; source = d.source; filled = d.filled })))
      → Rule k record { words = words'; homes = s.homes; views = set s.views id (one k hist (with_pending x pending2)) }
  fills_again pending2 words' wide control found grid heads makings hunters owed once listed =
      let y : DomainView = with_pending x pending2 in
      let w = (my_good k s r id hist x at).owes in
      changes_again k s r id hist x at promotes c p p2 lives refl refl refl y words' record {
        same = refl;
        wide = wide;
        control = control;
        found = found;
        copies = copies2;
        cleared = cleared2;
        grid = grid;
        heads = heads;
        makings = makings;
        hunters = hunters;
        owes = record {
          quiet = inr promotes;
          knows = λ a q e. let l = w.knows a q e in let m = more a l.place l.lives in record { place = m.place; lives = m.lives; label = m.label ∙ l.label; shape = m.shape ∙ l.shape };
          copied = λ a d has. copied_again a d (w.copied a d has);
          owed = λ i v got. let t = owed i v got in record { place = t.place; lives = t.lives; debt = t.debt };
          once = once;
          listed = listed;
          recalled = λ b q i e named. dite (ℕ_discrete b c)
              (λ same. let u = w.recalled c p i lives (ap (λ (z : Place). z.named i) (is2 b q same e) ∙ named) in (u.0, u.1 ∙ ap (λ (n : ℕ). Some (n + 2 + i)) (sym same)))
              (λ other. w.recalled b q i (was b q other e) named);
          fields = λ j spot got. field2 spot (w.fields j spot got);
        };
        owe = all_owe2;
      }

-- the first copy is filled: it is owed nothing more
pub end_may : (k : Config) (x : DomainView) (word a : ℕ) → FilledMay x a → MayStep k x word (λ n. n) FilledTold
end_may k x word a may fits slots id hist s r _ at _ =
    let o : Owing = may.first in
    let rest : List Owing = may.rest in
    let of : (b : Debt) → None ≡ Some b → (b.domain ≡ x.own.number) × (b.source ≡ o.source) = (λ b e. absurd (none-some b e)) in
    let graph : Graph = (state_of k r.account.log).graph in
    let live1 : Live = live2 k s r id hist x at may.stage o rest may.pending None of in
    let grows : More r.account.live live1 = more k s r id hist x at may.stage o rest may.pending None of in
    let p1 : Place = p k s r id hist x at may.stage o rest may.pending None of in
    let lives1 : r.account.live o.copy ≡ Some p1 = lives k s r id hist x at may.stage o rest may.pending None of in
    let debt1 : p1.owed ≡ Some (debt_of x o) = debt k s r id hist x at may.stage o rest may.pending None of in
    let again : (b : ℕ) (q : Place) → b ≡ o.copy → live1 b ≡ Some q → record p1 { owed = None } ≡ q = is2 k s r id hist x at may.stage o rest may.pending None of in
    let before : (b : ℕ) (q : Place) → b ≢ o.copy → live1 b ≡ Some q → r.account.live b ≡ Some q = was k s r id hist x at may.stage o rest may.pending None of in
    let l = (my_good k s r id hist x at).owes.knows o.copy may.place may.met in
    let same_shape : p1.shape ≡ may.place.shape = ap (λ (z : Place). z.shape) (ap (λ (z : Option Place). unwrap_or z p1) (sym lives1 ∙ l.lives)) ∙ l.shape in
    let full : extent p1.shape ≤ o.filled + 2 = subst (λ (z : Shape). extent z ≤ o.filled + 2) (sym same_shape) may.full in
    let found : AllFound k r.account.cycling.paint live1 graph s.words = (λ b q e. dite (ℕ_discrete b o.copy)
    (λ same.
    let f = r.whole.found o.copy p1 lives1 in
    let n : ℕ = length (values_of f.node) in
    let size : extent p1.shape ≡ n + 2 = ap extent (sym f.shape) ∙ extent_of f.node in
    let has : (i : ℕ) → i + 2 < extent p1.shape → HasValue p1.owed i = (λ i h. subst (λ (z : Option Debt). HasValue z i) (sym debt1) (let y : ℕ = extent p1.shape in let u : y ≤ o.filled + 2 = full in let v : i + 2 < y = h in let w : i < o.filled = omega arith in w)) in
    subst (λ (z : ℕ × Place). Found k r.account.cycling.paint live1 graph s.words z.0 z.1) (λ i. (sym same i, again b q same e i)) record {
      node = f.node;
      there = f.there;
      shape = f.shape;
      head = let h = f.head in record { scanned = h.scanned; packs = h.packs; tells = h.tells };
      blank = f.blank;
      label = f.label;
      values = λ i v _ got. let there = ap (λ (keys : List ℕ). slice_get (values_of (without_keys keys f.node)) i) (sym (whole_here k s r id hist x at Promote tt may.stage p1.label)) ∙ got in let w = f.values i v (has i (let y : ℕ = extent p1.shape in let u : y ≡ n + 2 = size in let t : i < n = got_below (values_of f.node) i v there in let w : i + 2 < y = omega arith in w)) got in
          record { value = w.value; packs = w.packs; stands = stands_more r.account.live live1 w.value v grows w.stands };
      old = λ low i inside _ none. f.old low i inside (has i inside) none;
    })
    (λ other. let f = r.whole.found b q (before b q other e) in record {
      node = f.node;
      there = f.there;
      shape = f.shape;
      head = f.head;
      blank = f.blank;
      label = f.label;
      values = λ i v h got. let w = f.values i v h got in record { value = w.value; packs = w.packs; stands = stands_more r.account.live live1 w.value v grows w.stands };
      old = f.old;
    })) in
    let y : DomainView = with_pending x rest in
    let rule : Rule k record { words = s.words; homes = s.homes; views = set s.views id (one k hist y) } =
    fills_again k s r id hist x at may.stage o rest may.pending None of rest s.words refl (control_same k s.words) found r.whole.grid (λ b _. refl) (λ z _ h. h) (λ z h. h)
    (rest_owed k s r id hist x at may.stage o rest may.pending None of)
    (rest_once k s r id hist x at may.stage o rest may.pending None of)
    (λ b q d e owed its. dite (ℕ_discrete b o.copy)
    (λ same. absurd (none-some d (ap (λ (z : Place). z.owed) (again b q same e) ∙ owed)))
    (λ other. rest_listed k s r id hist x at may.stage o rest may.pending None of b q d other e owed its)) in (
      one k hist y,
      keeps,
      tt,
      unmoved k s word (set s.views id (one k hist y)) rule,
      (record { first = o; rest = rest; pending = may.pending; view = refl }, refl),
    )

some_value : (u v : graph_value.Value) → Some u ≡ Some v → u ≡ v
some_value u v e = cc

abbrev next_debt : DomainView → Owing → Debt
next_debt x o = record { source = o.source; domain = x.own.number; filled = o.filled + 1 }

-- the next value of the first copy
pub fill_may : (k : Config) (x : DomainView) (word a new : ℕ) → word ≡ before_heap k + a → FillMay k x a new → MayStore k x word new FillTold
fill_may k x word a new place may fits slots id hist s r _ at _ =
    let o : Owing = may.first in
    let rest : List Owing = may.rest in
    let n : ℕ = o.filled in
    let d2 : Debt = next_debt x o in
    let of : (b : Debt) → Some d2 ≡ Some b → (b.domain ≡ x.own.number) × (b.source ≡ o.source) = (λ b e. let i = same_Some d2 b e in (sym (ap (λ (z : Debt). z.domain) i), sym (ap (λ (z : Debt). z.source) i))) in
    let graph : Graph = (state_of k r.account.log).graph in
    let live1 : Live = live2 k s r id hist x at may.stage o rest may.pending (Some d2) of in
    let grows : More r.account.live live1 = more k s r id hist x at may.stage o rest may.pending (Some d2) of in
    let p1 : Place = p k s r id hist x at may.stage o rest may.pending (Some d2) of in
    let lives1 : r.account.live o.copy ≡ Some p1 = lives k s r id hist x at may.stage o rest may.pending (Some d2) of in
    let debt1 : p1.owed ≡ Some (debt_of x o) = debt k s r id hist x at may.stage o rest may.pending (Some d2) of in
    let again : (b : ℕ) (q : Place) → b ≡ o.copy → live1 b ≡ Some q → record p1 { owed = Some d2 } ≡ q = is2 k s r id hist x at may.stage o rest may.pending (Some d2) of in
    let before : (b : ℕ) (q : Place) → b ≢ o.copy → live1 b ≡ Some q → r.account.live b ≡ Some q = was k s r id hist x at may.stage o rest may.pending (Some d2) of in
    let g = my_good k s r id hist x at in
    let l = g.owes.knows o.copy may.place may.met in
    let p_is : p1 ≡ l.place = ap (λ (z : Option Place). unwrap_or z p1) (sym lives1 ∙ l.lives) in
    let label1 : p1.label ≡ may.place.label = ap (λ (z : Place). z.label) p_is ∙ l.label in
    let inside : n + 2 < extent p1.shape = subst (λ (z : Shape). n + 2 < extent z) (sym (ap (λ (z : Place). z.shape) p_is ∙ l.shape)) may.below in
    let f = r.whole.found o.copy p1 lives1 in
    let c0 : ℕ = o.copy in
    let A : ℕ = c0 + 2 + n in
    let ws : List ℕ = set s.words (before_heap k + A) new in
    let fits = r.whole.placed.fits c0 p1 lives1 in
    let low : 1 ≤ c0 = fits.low in
    let ext : ℕ = extent p1.shape in
    let ins : n + 2 < ext = inside in
    let spot : before_heap k + A < length s.words = (let w : ℕ = heap_words k in let h : c0 + ext ≤ w + 1 = fits.high in let wide : length s.words ≡ 1 + before_heap k + w = r.whole.wide in let b : ℕ = before_heap k in omega arith) in
    let front : x.seen.front ≡ r.account.log = g.still.0 (subst IsInPause (sym may.stage) tt) in
    let has_it = subst (λ (log : List Entry). HasValueAt (state_of k log) may.place.label n may.held) front may.has in
    let node_is : f.node ≡ has_it.node = same_Some f.node has_it.node (sym f.there ∙ (ap (node_at graph) label1 ∙ has_it.there)) in
    let earlier : (i : ℕ) → i < n → HasValue p1.owed i = (λ i h. subst (λ (z : Option Debt). HasValue z i) (sym debt1) h) in
    let here : Found k r.account.cycling.paint live1 graph ws c0 (record p1 { owed = Some d2 }) = record {
      node = f.node;
      there = f.there;
      shape = f.shape;
      head = let h = f.head in record { scanned = h.scanned; packs = get_or-set_other s.words (before_heap k + A) (before_heap k + c0) new 0 (λ e. omega arith) ∙ h.packs; tells = h.tells };
      blank = f.blank;
      label = get_or-set_other s.words (before_heap k + A) (before_heap k + (c0 + 1)) new 0 (λ e. omega arith) ∙ f.label;
      values = λ i v has got. dite (ℕ_discrete i n)
          (λ same. record {
            value = may.value;
            packs = ap (λ (m : ℕ). get_or ws (before_heap k + (c0 + 2 + m)) 0) same ∙ (get_or-set_same s.words (before_heap k + A) new 0 spot ∙ may.packs);
            stands = subst (Stands live1 may.value) (some_value may.held v (sym has_it.is ∙ (ap (λ (z : Node). slice_get (values_of z) n) (sym node_is) ∙ (ap (slice_get (values_of f.node)) (sym same) ∙ (ap (λ (keys : List ℕ). slice_get (values_of (without_keys keys f.node)) i) (sym (whole_here k s r id hist x at Promote tt may.stage p1.label)) ∙ got)))))
                (stands_more r.account.live live1 may.value may.held grows (stands_more (known x.seen.copying.met) r.account.live may.value may.held g.owes.knows may.stands));
          })
          (λ other. let differ : i ≢ n = other in let h : i < n + 1 = has in let w = f.values i v (earlier i (omega arith)) got in record {
            value = w.value;
            packs = get_or-set_other s.words (before_heap k + A) (before_heap k + (c0 + 2 + i)) new 0 (λ e. differ (omega arith)) ∙ w.packs;
            stands = stands_more r.account.live live1 w.value v grows w.stands;
          });
      old = λ under i within has none. dite (ℕ_discrete i n)
          (λ same. subst (IsOldWord k) (sym (ap (λ (m : ℕ). get_or ws (before_heap k + (c0 + 2 + m)) 0) same ∙ get_or-set_same s.words (before_heap k + A) new 0 spot)) may.old)
          (λ other. let differ : i ≢ n = other in let h : i < n + 1 = has in subst (IsOldWord k) (sym (get_or-set_other s.words (before_heap k + A) (before_heap k + (c0 + 2 + i)) new 0 (λ e. differ (omega arith)))) (f.old under i within (earlier i (omega arith)) none));
    } in
    let found : AllFound k r.account.cycling.paint live1 graph ws = (λ b q e. dite (ℕ_discrete b c0)
    (λ same. subst (λ (z : ℕ × Place). Found k r.account.cycling.paint live1 graph ws z.0 z.1) (λ i. (sym same i, again b q same e i)) here)
    (λ other. let fb = r.whole.found b q (before b q other e) in found_beside k r.account.cycling.paint r.account.live live1 graph graph s.words A new b q grows fb fb.there
    (λ z within clash. let m : ℕ = extent q.shape in let i : z < m = within in let h : b + z ≡ A = clash in
    ⊎_elim (λ (t : b + m ≤ c0). omega arith) (λ (t : c0 + ext ≤ b). omega arith) (r.whole.placed.apart b c0 q p1 (before b q other e) lives1 other)))) in
    let head : at_address k s.words c0 ≢ 0 = head_full k r.account.cycling.paint r.account.live graph s.words c0 p1 f in
    let beside : (m : ℕ) → Beside k r.account.tenancy s.words m A = (λ m. subst (Beside k r.account.tenancy s.words m) (let h : c0 + (2 + n) ≡ A = omega arith in h)
    (live_beside k r.account.tenancy r.account.live s.words c0 (2 + n) p1 r.whole.pools r.whole.grid low lives1 (omega arith) (omega arith) head m)) in
    let pending2 : List Owing = record o { filled = n + 1 } ∷ rest in
    let y : DomainView = with_pending x pending2 in
    let top : (v : Owing) → slice_get pending2 0 ≡ Some v → record o { filled = n + 1 } ≡ v = (λ v e. same_Some (record o { filled = n + 1 }) v e) in
    let owed1 = rest_owed k s r id hist x at may.stage o rest may.pending (Some d2) of in
    let apart1 = rest_apart k s r id hist x at may.stage o rest may.pending (Some d2) of in
    let rule : Rule k record { words = ws; homes = s.homes; views = set s.views id (one k hist y) } =
    fills_again k s r id hist x at may.stage o rest may.pending (Some d2) of pending2 ws (length-set s.words (before_heap k + A) new) (control_set k s.words A new (omega arith)) found
    (grid_beside k r.account.tenancy s.words A new r.account.live r.account.live r.whole.pools beside (more_same r.account.live) (λ b q h _. h) r.whole.grid)
    (garbage_beside k r.account.live r.account.tenancy r.account.cycling s.words r.whole.cycle.leaves A new r.whole.pools beside)
    (λ z area making. making_beside k s.words A new z (λ j fit same. live_word_far k r.account.live c0 (2 + n) p1 z lives1 (omega arith) area j fit (same ∙ (let h : A ≡ c0 + (2 + n) = omega arith in h))) making)
    (λ z h. hunter_beside k r.account.tenancy s.words A new r.whole.pools z (beside z.own.number) h)
    (owed_cases live1 x (record o { filled = n + 1 }) rest record { place = record p1 { owed = Some d2 }; lives = here2 k s r id hist x at may.stage o rest may.pending (Some d2) of; debt = refl } owed1)
    (once_cases (record o { filled = n + 1 }) rest (rest_once k s r id hist x at may.stage o rest may.pending (Some d2) of) apart1)
    (λ b q d e owed its. dite (ℕ_discrete b c0)
    (λ same. let i = same_Some d2 d (ap (λ (z : Place). z.owed) (again b q same e) ∙ owed) in (0, (λ j. Some (record { copy = sym same j; source = (i j).source; filled = (i j).filled }))))
    (λ other. let t = rest_listed k s r id hist x at may.stage o rest may.pending (Some d2) of b q d other e owed its in (suc t.0, t.1))) in (
      one k hist y,
      keeps,
      tt,
      subst (λ (m : ℕ). Rule k record { words = set s.words m new; homes = s.homes; views = set s.views id (one k hist y) }) (sym (place ∙ ap (λ (m : ℕ). before_heap k + m) may.word)) rule,
      (record { first = o; rest = rest; pending = may.pending; view = refl }, refl),
    )
  where
    owed_cases : (live : Live) (x : DomainView) (o : Owing) (rest : List Owing) → IsOwed live x o → ((i : ℕ) (v : Owing) → slice_get rest i ≡ Some v → IsOwed live x v) → (i : ℕ) (v : Owing) → slice_get (o ∷ rest) i ≡ Some v → IsOwed live x v
    owed_cases live x o rest mine others zero v e = subst (IsOwed live x) (same_Some o v e) mine
    owed_cases live x o rest mine others (suc i) v e = others i v e

    once_cases : (o : Owing) (rest : List Owing) → ((i j : ℕ) (v w : Owing) → slice_get rest i ≡ Some v → slice_get rest j ≡ Some w → v.copy ≡ w.copy → i ≡ j) → ((i : ℕ) (v : Owing) → slice_get rest i ≡ Some v → v.copy ≢ o.copy)
        → (i j : ℕ) (v w : Owing) → slice_get (o ∷ rest) i ≡ Some v → slice_get (o ∷ rest) j ≡ Some w → v.copy ≡ w.copy → i ≡ j
    once_cases o rest once apart zero zero v w e f same = refl
    once_cases o rest once apart zero (suc j) v w e f same = absurd (apart j w f (sym same ∙ ap (λ (z : Owing). z.copy) (sym (same_Some o v e))))
    once_cases o rest once apart (suc i) zero v w e f same = absurd (apart i v e (same ∙ ap (λ (z : Owing). z.copy) (sym (same_Some o w f))))
    once_cases o rest once apart (suc i) (suc j) v w e f same = ap suc (once i j v w e f same)
