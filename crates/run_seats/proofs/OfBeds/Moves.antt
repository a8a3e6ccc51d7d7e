-- Each step keeps the rule of a room.
use Rattle.std.proofs.Common.{◌≡◌, ℕ, zero, suc, ◌+◌, ◌<◌, ◌≤◌, true, false, List, [], ◌∷◌, ◌++◌, length, set, sym, refl, ap, ◌∙◌, subst, ⊎_elim, arith}
use Rattle.std.specs.Prelude.{Option, Some, None}
use mathlib.Core.Option.{some, some-ne-none}
use lib.ListN.{get_elem?}
use Rattle.crossbeam_queue.specs.Fifo.{Pushes, Pops, Forks}
use Rattle.crossbeam_queue.proofs.Lists.{at_snoc}
use Rattle.run_seats.specs.declared.beds.rule.Knows.{Knows}
use Rattle.run_seats.specs.declared.beds.rule.Rested.{Rested}
use Rattle.run_seats.specs.Beds.Bedding.{AllFind, Bedded, Finds, HasTaken, Meets, first_bed, holding, next_bed, one_more, putting, taking, without}
use Rattle.run_seats.proofs.Places.{all_set, at_more, only}

-- a bed that knows what another did, but for what it has taken out
record Like {T : Type 0} (o u : Knows T) : Type 0 where
  number : u.number ≡ o.number
  stamp : u.stamp ≡ o.stamp
  makes : u.makes ≡ o.makes
  rests : u.rests ≡ o.rests
  next : o.next ≤ u.next

module _ {T : Type 0} (follows : T → T → Type 0) where
  abbrev Holds : List (Rested T) → List (Knows T) → Type 0
  Holds items views = Bedded follows items views

  like_finds : (o u : Knows T) (x : Rested T) → Like o u → Finds follows o x → Finds follows u x
  like_finds o u x l f = record {
    stamp = λ e. let few = f.stamp (sym l.number ∙ e) in let same = l.stamp in omega (arith, few, same);
    last = λ e s y at. f.last (sym l.number ∙ e) (sym l.stamp ∙ s) y (sym l.rests ∙ at);
    below = λ m. let few = f.below (sym l.makes ∙ m) in let more = l.next in omega (arith, few, more);
  }

  like_meets : (i j : ℕ) (o u p w : Knows T) → Like o u → Like p w → Meets i j o p → Meets i j u w
  like_meets i j o u p w l m k = record {
    apart = λ e. k.apart (sym l.number ∙ (e ∙ m.number));
    below = λ e. let few = k.below (sym l.makes ∙ e) in let more = l.next in let same = m.number in omega (arith, few, more, same);
    one = λ a b. k.one (sym l.makes ∙ a) (sym m.makes ∙ b);
  }

  -- where one bed was changed into one like it
  abbrev WasLike : List (Knows T) → ℕ → Knows T → Type 0
  WasLike views j u = (o : Knows T) × (get_elem? views j ≡ some o) × Like o u

  like_itself : (u : Knows T) → Like u u
  like_itself u = record { number = refl; stamp = refl; makes = refl; rests = refl; next = omega arith }

  was_like : (views : List (Knows T)) (port : ℕ) (v w : Knows T) → get_elem? views port ≡ some v → Like v w → (j : ℕ) (u : Knows T) → get_elem? (set views port w) j ≡ some u → WasLike views j u
  was_like views port v w at like = all_set (WasLike views) views port w (v, at, like) (λ j u other e. (u, e, like_itself u))

  finds_like : (views : List (Knows T)) (port : ℕ) (v w : Knows T) (x : Rested T) → get_elem? views port ≡ some v → Like v w → AllFind follows views x → AllFind follows (set views port w) x
  finds_like views port v w x at like all j u e = let o = was_like views port v w at like j u e in like_finds o.0 u x o.2 (all j o.0 o.1)

  meet_like : (views : List (Knows T)) (port : ℕ) (v w : Knows T) → get_elem? views port ≡ some v → Like v w → ((i j : ℕ) (a b : Knows T) → get_elem? views i ≡ some a → get_elem? views j ≡ some b → Meets i j a b)
      → (i j : ℕ) (a b : Knows T) → get_elem? (set views port w) i ≡ some a → get_elem? (set views port w) j ≡ some b → Meets i j a b
  meet_like views port v w at like all i j a b e f =
      let o = was_like views port v w at like i a e in
      let p = was_like views port v w at like j b f in
      like_meets i j o.0 a p.0 b o.2 p.2 (all i j o.0 p.0 o.1 p.1)

  nothing_at : {A : Type 0} (i : ℕ) (x : A) → get_elem? [] i ≡ some x → ⊥
  nothing_at zero x e = some-ne-none x (sym e)
  nothing_at (suc i) x e = some-ne-none x (sym e)

  -- a room with its first bed
  pub begins : Holds [] (first_bed ∷ [])
  begins = record {
    resting = λ i x e. absurd (nothing_at i x e);
    taken = λ port v at x turns. absurd (let is = (only first_bed v port at).1 in let none : v.turns ≡ None = ap (λ (u : Knows T). u.turns) (sym is) in let clash = sym none ∙ turns in cc);
    meet = λ i j v w a b.
        let p = only first_bed v i a in
        let q = only first_bed w j b in
        record {
          apart = λ e. p.0 ∙ sym q.0;
          below = λ m. let number : w.number ≡ 0 = ap (λ (u : Knows T). u.number) (sym q.1) in let next : v.next ≡ 1 = ap (λ (u : Knows T). u.next) (sym p.1) in omega (arith, number, next);
          one = λ m n. p.0 ∙ sym q.0;
        };
  }

  -- what the bed into which a thing is put knows of it
  own_finds : (v : Knows T) (x : Rested T) → ((t : T) → follows t t) → (v.makes ≡ true → x.number < v.next) → Finds follows (putting v x) x
  own_finds v x itself below = record {
    stamp = λ e. omega arith;
    last = λ e s y at. let is : x.item ≡ y = cc in subst (λ (z : T). follows z x.item) is (itself x.item);
    below = below;
  }

  -- a thing is put to rest
  pub puts : (n port : ℕ) (v : Knows T) (x : Rested T) → ((t : T) → follows t t) → x.number ≡ v.number → x.stamp ≡ v.stamp + 1 → Pushes Holds n port v x (λ w. w ≡ putting v x)
  puts n port v x itself number stamp items views room h at =
      let w : Knows T = putting v x in
      let views' : List (Knows T) = set views port w in
      let mine : Meets port port v v = h.meet port port v v at at in
      let below : v.makes ≡ true → x.number < v.next = (λ m. let few = mine.below m in omega (arith, few, number)) in
      let was : (y : Rested T) → AllFind follows views y → AllFind follows views' y = (λ y all. all_set (λ (j : ℕ) (u : Knows T). Finds follows u y) views port w
      (let f = all port v at in record {
        stamp = λ e. let few = f.stamp e in omega (arith, few, stamp);
        last = λ e same z r. absurd (let few = f.stamp e in omega (arith, few, stamp, same));
        below = f.below;
      })
      (λ j u other e. all j u e)) in
      let is_new : AllFind follows views' x = all_set (λ (j : ℕ) (u : Knows T). Finds follows u x) views port w (own_finds v x itself below)
      (λ j u other e. let m = h.meet j port u v e at in record {
        stamp = λ same. absurd (other (m.apart (same ∙ number)));
        last = λ same st y r. absurd (other (m.apart (same ∙ number)));
        below = λ makes. let few = m.below makes in omega (arith, few, number);
      }) in
      let Pair : ℕ → Knows T → Type 0 = (λ i a. (j : ℕ) (b : Knows T) → get_elem? views' j ≡ some b → Meets i j a b) in
      let meet : (i : ℕ) (a : Knows T) → get_elem? views' i ≡ some a → Pair i a = all_set Pair views port w
      (all_set (λ (j : ℕ) (b : Knows T). Meets port j w b) views port w
      (record { apart = λ same. refl; below = mine.below; one = λ m n. refl })
      (λ j b other e. let m = h.meet port j v b at e in record { apart = m.apart; below = m.below; one = m.one }))
      (λ i a apart_i e. all_set (λ (j : ℕ) (b : Knows T). Meets i j a b) views port w
      (let m = h.meet i port a v e at in record { apart = m.apart; below = m.below; one = m.one })
      (λ j b apart_j f. h.meet i j a b e f)) in (
        w,
        record {
          resting = λ i y e. ⊎_elim (λ (old : get_elem? items i ≡ some y). was y (h.resting i y old)) (λ (is : x ≡ y). subst (λ (z : Rested T). AllFind follows views' z) is is_new) (at_snoc items x y i e);
          taken = all_set (λ (j : ℕ) (u : Knows T). (y : Rested T) → u.turns ≡ Some y → AllFind follows views' y) views port w (λ y turns. absurd (let clash : None ≡ Some y = turns in cc)) (λ j u other e y turns. was y (h.taken j u e y turns));
          meet = λ i j a b e f. meet i a e j b f;
        },
        refl,
      )

  -- a thing is taken out
  pub takes : (port : ℕ) (v : Knows T) → Pops Holds port v (λ x w. (w ≡ taking v x) × Finds follows v x)
  takes port v x items views h at =
      let w : Knows T = taking v x in
      let like : Like v w = record { number = refl; stamp = refl; makes = refl; rests = refl; next = omega arith } in
      let views' : List (Knows T) = set views port w in
      let was : (y : Rested T) → AllFind follows views y → AllFind follows views' y = (λ y all. finds_like views port v w y at like all) in (
        w,
        record {
          resting = λ i y e. was y (h.resting (suc i) y e);
          taken = all_set (λ (j : ℕ) (u : Knows T). (y : Rested T) → u.turns ≡ Some y → AllFind follows views' y) views port w
              (λ y turns. let is : x ≡ y = cc in subst (λ (z : Rested T). AllFind follows views' z) is (was x (h.resting 0 x refl)))
              (λ j u other e y turns. was y (h.taken j u e y turns));
          meet = meet_like views port v w at like h.meet;
        },
        (refl, h.resting 0 x refl port v at),
      )

  -- it is put back, maybe further on
  pub gives : (n port : ℕ) (v : Knows T) (x : Rested T) → ((t u r : T) → follows t u → follows u r → follows t r) → HasTaken follows v x → Pushes Holds n port v x (λ w. w ≡ without v)
  gives n port v x on has items views room h at =
      let w : Knows T = without v in
      let like : Like v w = record { number = refl; stamp = refl; makes = refl; rests = refl; next = omega arith } in
      let views' : List (Knows T) = set views port w in
      let was : (y : Rested T) → AllFind follows views y → AllFind follows views' y = (λ y all. finds_like views port v w y at like all) in
      let further : AllFind follows views x = (λ j u e. let f = h.taken port v at has.old has.turns j u e in record {
        stamp = λ same. let few = f.stamp (same ∙ has.number) in let st = has.stamp in omega (arith, few, st);
        last = λ same st y r. on y has.old.item x.item (f.last (same ∙ has.number) (st ∙ has.stamp) y r) has.follows_it;
        below = λ m. let few = f.below m in let nu = has.number in omega (arith, few, nu);
      }) in (
        w,
        record {
          resting = λ i y e. ⊎_elim (λ (old : get_elem? items i ≡ some y). was y (h.resting i y old)) (λ (is : x ≡ y). subst (λ (z : Rested T). AllFind follows views' z) is (was x further)) (at_snoc items x y i e);
          taken = all_set (λ (j : ℕ) (u : Knows T). (y : Rested T) → u.turns ≡ Some y → AllFind follows views' y) views port w (λ y turns. absurd (let clash : None ≡ Some y = turns in cc)) (λ j u other e y turns. was y (h.taken j u e y turns));
          meet = meet_like views port v w at like h.meet;
        },
        refl,
      )

  -- the first bed makes another
  pub forks : (port : ℕ) (v : Knows T) → v.makes ≡ true → Forks Holds port v (one_more v) (next_bed v)
  forks port v makes items views h at =
      let l : Knows T = one_more v in
      let r : Knows T = next_bed v in
      let like : Like v l = record { number = refl; stamp = refl; makes = refl; rests = refl; next = omega arith } in
      let first : List (Knows T) = set views port l in
      let views' : List (Knows T) = first ++ r ∷ [] in
      let was : (y : Rested T) → AllFind follows views y → AllFind follows views' y = (λ y all j u e. ⊎_elim
      (λ (old : get_elem? first j ≡ some u). finds_like views port v l y at like all j u old)
      (λ (is : (j ≡ length first) × (r ≡ u)). subst (λ (k : Knows T). Finds follows k y) is.1 (let f = all port v at in record {
        stamp = λ same. absurd (let few = f.below makes in omega (arith, few, same));
        last = λ same st z q. absurd (let few = f.below makes in omega (arith, few, same));
        below = λ m. absurd (let clash : false ≡ true = m in cc);
      }))
      (at_more first r u j e)) in
      let last_one : ℕ = length first in
      let with_last : (i : ℕ) (a : Knows T) → get_elem? first i ≡ some a → Meets i last_one a r = all_set (λ (i : ℕ) (a : Knows T). Meets i last_one a r) views port l
      (let m = h.meet port port v v at at in record {
        apart = λ same. absurd (let few = m.below makes in omega (arith, few, same));
        below = λ e. omega arith;
        one = λ p q. absurd (let clash : false ≡ true = q in cc);
      })
      (λ i a other e. let m = h.meet i port a v e at in let k = h.meet port i v a at e in record {
        apart = λ same. absurd (let few = k.below makes in omega (arith, few, same));
        below = λ p. absurd (other (m.one p makes));
        one = λ p q. absurd (let clash : false ≡ true = q in cc);
      }) in
      let last_with : (j : ℕ) (b : Knows T) → get_elem? first j ≡ some b → Meets last_one j r b = (λ j b e. let o = was_like views port v l at like j b e in let m = h.meet port j v o.0 at o.1 in record {
        apart = λ same. absurd (let few = m.below makes in let nu = o.2.number in omega (arith, few, same, nu));
        below = λ p. absurd (let clash : false ≡ true = p in cc);
        one = λ p q. absurd (let clash : false ≡ true = p in cc);
      }) in
      let lasts : Meets last_one last_one r r = record {
        apart = λ same. refl;
        below = λ p. absurd (let clash : false ≡ true = p in cc);
        one = λ p q. refl;
      } in
      let Pair : ℕ → Knows T → Type 0 = (λ i a. (j : ℕ) (b : Knows T) → get_elem? views' j ≡ some b → Meets i j a b) in
      let at_last : (F : ℕ → Knows T → Type 0) → ((j : ℕ) (b : Knows T) → get_elem? first j ≡ some b → F j b) → F last_one r → (j : ℕ) (b : Knows T) → get_elem? views' j ≡ some b → F j b = (λ F olds new j b e. ⊎_elim
      (λ (old : get_elem? first j ≡ some b). olds j b old)
      (λ (is : (j ≡ last_one) × (r ≡ b)). subst (λ (k : ℕ × Knows T). F k.0 k.1) (λ i. (sym is.0 i, is.1 i)) new)
      (at_more first r b j e)) in
      let meet : (i : ℕ) (a : Knows T) → get_elem? views' i ≡ some a → Pair i a = at_last Pair
      (λ i a e. at_last (λ (j : ℕ) (b : Knows T). Meets i j a b) (λ j b f. meet_like views port v l at like h.meet i j a b e f) (with_last i a e))
      (at_last (λ (j : ℕ) (b : Knows T). Meets last_one j r b) last_with lasts) in
      record {
        resting = λ i x e. was x (h.resting i x e);
        taken = at_last (λ (j : ℕ) (u : Knows T). (x : Rested T) → u.turns ≡ Some x → AllFind follows views' x)
            (all_set (λ (j : ℕ) (u : Knows T). (x : Rested T) → u.turns ≡ Some x → AllFind follows views' x) views port l (λ x turns. was x (h.taken port v at x turns)) (λ j u other e x turns. was x (h.taken j u e x turns)))
            (λ x turns. absurd (let clash : None ≡ Some x = turns in cc));
        meet = λ i j a b e f. meet i a e j b f;
      }

-- what a bed may have taken out since is what it holds
pub held : {T : Type 0} (v w : Knows T) (o : Option (Rested T)) → w ≡ holding v o → w ≡ holding v w.turns
held v w o e = e ∙ ap (holding v) (sym (ap (λ u. u.turns) e))
