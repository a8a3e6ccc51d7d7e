-- What becomes of the roots.
use Rattle.std.proofs.Common.{◌≡◌, ℕ, ◌*◌, ◌<◌, ◌≤◌, List, ◌∷◌, length, drop, set, sym, refl, ap, ◌∙◌, subst, arith, length-set, get_or-set_same, get_or-set_other}
use Rattle.model_core.specs.declared.entry.Entry.{Entry}
use Rattle.heap_words.specs.declared.value.Value.{Value}
use Rattle.heap_words.specs.declared.value.Value.TheVariants.{Ref, Nothing}
use Rattle.heap_words.specs.Values.{IsPackable, value_word}
use Rattle.heap_words.proofs.WordLemmas.{value_word-injective}
use Rattle.heap_rule.specs.declared.config.Config.{Config}
use Rattle.heap_rule.specs.declared.view.DomainView.{DomainView}
use Rattle.heap_rule.specs.Changes.{value_at}
use Rattle.heap_rule.specs.Copies.{HasCopy, IsOldValue}
use Rattle.heap_rule.specs.Places.{Stands}
use Rattle.heap_rule.specs.Rule.{state_of}
use Rattle.heap_rule.specs.Standing.{with_registers}
use Rattle.step_promote.specs.Promotion.{Knows, recalling, HasValueAt, MoveTold, Recalled, RewriteMay, RewriteTold}
use Rattle.gc_copy.specs.Working.{SameBlock, Works, Tied, with_claims, Learns, Grown, Claimed, Forwarded}
use Rattle.gc_copy.specs.Roots.{Becomes, Moved, with_rewrites, Rewritten}
use Rattle.step_promote.proofs.Meets.{lasts_more}
use Rattle.gc_copy.proofs.Meeting.{grown_met, grown_twice, same_more}
use Rattle.step_promote.proofs.Resets.{old_word}
use Rattle.gc_copy.proofs.Fills.{tied_grown}

-- what has become of a value stays so when more is known
pub becomes_on : (k : Config) (x y : DomainView) (held new : Value) → Learns x y → Becomes k x held new → Becomes k y held new
becomes_on k x y held new l b = record {
  stays = b.stays;
  moves = λ a is young. let m = b.moves a is young in record { copy = m.copy; is = m.is; old = m.old; copied = l.copies a m.copy m.copied; same = same_more (Knows x) (Knows y) a m.copy l.more m.same };
}

-- the register gets the copy's address
module _ (k : Config) (x y : DomainView) (r a c : ℕ) (w : Works k x) (t : Tied 0 x) (few : r < 16) (young : k.pools * 4096 < a) (holds : value_at x.own.registers r ≡ Ref a) (claimed : Claimed k a x y c) where
  registers_same : y.own.registers ≡ x.own.registers
  registers_same = ap (λ (z : DomainView). z.own.registers) claimed.grown.view

  pub moved : (found : ℕ) (z : DomainView) → MoveTold k r c y found z → Moved k r x z
  moved found z told =
      let R : List Value = set y.own.registers r (Ref c) in
      let q : DomainView = with_registers (with_claims x y) R in
      let e : z ≡ q = told.view ∙ ap (λ (v : DomainView). with_registers v R) claimed.grown.view in
      let long : length y.own.registers ≡ 16 = sym (length-set y.own.registers r (Ref c)) ∙ (sym (ap (λ (v : DomainView). length v.own.registers) told.view) ∙ told.holds.wide) in
      let v = claimed.grown.works in
      let n : ℕ = length y.own.registers in
      let is : value_at R r ≡ Ref c = get_or-set_same y.own.registers r (Ref c) Nothing (let h : n ≡ 16 = long in let g : r < n = omega arith in g) in
      subst (Moved k r x) (sym e) record {
        view = refl;
        learns = record { more = claimed.grown.learns.more; copies = claimed.grown.learns.copies };
        becomes = record {
          stays = λ old. absurd (let h : a ≤ k.pools * 4096 = subst (IsOldValue k) holds old in omega arith);
          moves = λ b same _. let f : Ref b ≡ Ref a = sym same ∙ holds in let g : b ≡ a = cc in record {
            copy = c;
            is = is;
            old = claimed.old;
            copied = subst (λ (n : ℕ). HasCopy y n c) (sym g) claimed.copied;
            same = subst (λ (n : ℕ). SameBlock (Knows y) n c) (sym g) claimed.same;
          };
        };
        works = record { stage = w.stage; at_rest = v.at_rest; fit = v.fit; placed = v.placed; pairs = λ j b got. let o = v.pairs j b got in record { young = o.young; old = o.old; same = o.same } };
        tied = tied_grown k 0 x y (omega arith) t claimed.grown;
        old = subst (IsOldValue k) (sym is) claimed.old;
        others = λ j other. get_or-set_other y.own.registers r j (Ref c) Nothing other ∙ ap (λ (l : List Value). value_at l j) registers_same;
      }

pub rewrites_twice : (x y z : DomainView) → y ≡ with_rewrites x y → z ≡ with_rewrites y z → z ≡ with_rewrites x z
rewrites_twice x y z a b = b ∙ ap (λ (v : DomainView). with_rewrites v z) a

-- a remembered field was loaded
module _ (k : Config) (x y : DomainView) (at word : ℕ) (w : Works k x) (t : Tied 0 x) (rest : List ℕ) (first : x.seen.remembered ≡ at ∷ rest) (told : Recalled k at x word y) where
  pub field_grown : Grown k x y
  field_grown = grown_met k x y told.view told.more told.fit w

  module _ (v : Value) (read : IsPackable v × (value_word v ≡ word)) where
    value_is : v ≡ told.value
    value_is = value_word-injective v told.value read.0 told.packable (read.1 ∙ told.word)

    as_held : Stands (Knows y) v told.held
    as_held = subst (λ (u : Value). Stands (Knows y) u told.held) (sym value_is) told.stands

    module _ (z : DomainView) (new : Value) (fw : Forwarded k v y z new) where
      remembered_same : z.seen.remembered ≡ x.seen.remembered
      remembered_same = ap (λ (u : DomainView). u.seen.remembered) fw.grown.view ∙ ap (λ (u : DomainView). u.seen.remembered) told.view

      pub rewrite_may : RewriteMay k z at (value_word new)
      rewrite_may = record {
        stage = fw.grown.works.stage;
        rest = rest;
        first = remembered_same ∙ first;
        block = told.block;
        place = told.place;
        index = told.index;
        is = told.is;
        inside = told.inside;
        here = lasts_more (Knows y) (Knows z) told.block told.place fw.grown.learns.more told.here;
        value = new;
        packs = refl;
        held = told.held;
        has = subst (λ (o : List Entry). HasValueAt (state_of k o) told.place.label told.index told.held) (sym (ap (λ (u : DomainView). u.seen.front) fw.grown.view ∙ ap (λ (u : DomainView). u.seen.front) told.view)) told.has;
        stands = fw.stands told.held as_held;
        old = old_word k new fw.packable fw.old;
      }

      pub rewritten : (u : DomainView) → RewriteTold at z (value_word new) u → Rewritten k x u
      rewritten u said =
          let g = grown_twice k x y z field_grown fw.grown in
          let L : List ℕ = drop 1 x.seen.remembered in
          let rests : said.rest ≡ L = ap (drop 1) (sym said.first ∙ remembered_same) in
          let e : u ≡ recalling (with_claims x z) L = said.view ∙ (λ i. recalling (g.view i) (rests i)) in
          let o = g.works in
          subst (Rewritten k x) (sym e) record {
            view = refl;
            works = record { stage = w.stage; at_rest = o.at_rest; fit = o.fit; placed = o.placed; pairs = λ j b got. let p = o.pairs j b got in record { young = p.young; old = p.old; same = p.same } };
            learns = record { more = g.learns.more; copies = g.learns.copies };
            tied = tied_grown k 0 x z (omega arith) t g;
            forgotten = refl;
          }
