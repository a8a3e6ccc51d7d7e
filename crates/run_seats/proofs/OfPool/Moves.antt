-- Each step keeps the rule of a pool.
use Rattle.std.proofs.Common.{◌≡◌, ℕ, zero, suc, ◌+◌, ◌<◌, ◌≤◌, true, false, List, [], ◌∷◌, ◌++◌, length, set, sym, refl, ap, ◌∙◌, subst, ⊎_elim, arith}
use Rattle.std.specs.Prelude.{MatchOption, Option, Some, None}
use mathlib.Core.Option.{some, some-ne-none}
use lib.ListN.{get_elem?}
use Rattle.crossbeam_queue.specs.Fifo.{Pushes, Pops, Forks}
use Rattle.crossbeam_queue.proofs.Lists.{at_snoc}
use Rattle.run_seats.specs.declared.pool.rule.Knows.{Knows}
use Rattle.run_seats.specs.declared.pool.rule.Rested.{Rested}
use Rattle.run_seats.specs.Pool.Pooling.{Akin, AllFind, Finds, Meets, Pooled, first_keeper, holding, next_keeper, one_more, putting, taking, without}
use Rattle.run_seats.specs.Pool.Keeping.{HasTaken, KeepsOf}
use Rattle.run_seats.proofs.Places.{all_set, at_more, only}

-- a keeper that knows what another did, but for what it has taken out
record Like {T : Type 0} (o u : Knows T) : Type 0 where
  number : u.number ≡ o.number
  stamp : u.stamp ≡ o.stamp
  makes : u.makes ≡ o.makes
  rests : u.rests ≡ o.rests
  next : o.next ≤ u.next

module _ {S T : Type 0} (shares : S → T → Type 0) (follows : T → T → Type 0) where
  abbrev Holds : List (Rested T) → List (Knows T) → Type 0
  Holds items views = Pooled shares follows items views

  like_finds : (o u : Knows T) (x : Rested T) → Like o u → Finds shares follows o x → Finds shares follows u x
  like_finds o u x l f = record {
    akin = λ y e. f.akin y (sym l.rests ∙ e);
    stamp = λ e. let few = f.stamp (sym l.number ∙ e) in let same = l.stamp in omega (arith, few, same);
    last = λ e s y at. f.last (sym l.number ∙ e) (sym l.stamp ∙ s) y (sym l.rests ∙ at);
    below = λ m. let few = f.below (sym l.makes ∙ m) in let more = l.next in omega (arith, few, more);
  }

  like_meets : (i j : ℕ) (o u p w : Knows T) → Like o u → Like p w → Meets shares i j o p → Meets shares i j u w
  like_meets i j o u p w l m k = record {
    akin = λ y z a b. k.akin y z (sym l.rests ∙ a) (sym m.rests ∙ b);
    apart = λ e. k.apart (sym l.number ∙ (e ∙ m.number));
    below = λ e. let few = k.below (sym l.makes ∙ e) in let more = l.next in let same = m.number in omega (arith, few, more, same);
    one = λ a b. k.one (sym l.makes ∙ a) (sym m.makes ∙ b);
  }

  -- where one keeper was changed into one like it
  abbrev WasLike : List (Knows T) → ℕ → Knows T → Type 0
  WasLike views j u = (o : Knows T) × (get_elem? views j ≡ some o) × Like o u

  like_itself : (u : Knows T) → Like u u
  like_itself u = record { number = refl; stamp = refl; makes = refl; rests = refl; next = omega arith }

  was_like : (views : List (Knows T)) (port : ℕ) (v w : Knows T) → get_elem? views port ≡ some v → Like v w → (j : ℕ) (u : Knows T) → get_elem? (set views port w) j ≡ some u → WasLike views j u
  was_like views port v w at like = all_set (WasLike views) views port w (v, at, like) (λ j u other e. (u, e, like_itself u))

  finds_like : (views : List (Knows T)) (port : ℕ) (v w : Knows T) (x : Rested T) → get_elem? views port ≡ some v → Like v w → AllFind shares follows views x → AllFind shares follows (set views port w) x
  finds_like views port v w x at like all j u e = let o = was_like views port v w at like j u e in like_finds o.0 u x o.2 (all j o.0 o.1)

  meet_like : (views : List (Knows T)) (port : ℕ) (v w : Knows T) → get_elem? views port ≡ some v → Like v w → ((i j : ℕ) (a b : Knows T) → get_elem? views i ≡ some a → get_elem? views j ≡ some b → Meets shares i j a b)
      → (i j : ℕ) (a b : Knows T) → get_elem? (set views port w) i ≡ some a → get_elem? (set views port w) j ≡ some b → Meets shares i j a b
  meet_like views port v w at like all i j a b e f =
      let o = was_like views port v w at like i a e in
      let p = was_like views port v w at like j b f in
      like_meets i j o.0 a p.0 b o.2 p.2 (all i j o.0 p.0 o.1 p.1)

  akin_itself : (x : T) → Akin shares x x
  akin_itself x s h = h

  -- what stands in a list of one stands at the one place
  same_place : (views : List (Knows T)) (i j : ℕ) (u v : Knows T) → views ≡ u ∷ [] → get_elem? views i ≡ some u → get_elem? views j ≡ some v → i ≡ j
  same_place views i j u v is a b =
      let p = only u u i (ap (λ (l : List (Knows T)). get_elem? l i) (sym is) ∙ a) in
      let q = only u v j (ap (λ (l : List (Knows T)). get_elem? l j) (sym is) ∙ b) in
      p.0 ∙ sym q.0

  nothing_at : {A : Type 0} (i : ℕ) (x : A) → get_elem? [] i ≡ some x → ⊥
  nothing_at zero x e = some-ne-none x (sym e)
  nothing_at (suc i) x e = some-ne-none x (sym e)

  -- a pool with its first keeper
  pub begins : Holds [] (first_keeper ∷ [])
  begins = record {
    resting = λ i x e. absurd (nothing_at i x e);
    taken = λ port v at x turns. absurd (let is = (only first_keeper v port at).1 in let none : v.turns ≡ None = ap (λ (u : Knows T). u.turns) (sym is) in let clash = sym none ∙ turns in cc);
    meet = λ i j v w a b.
        let p = only first_keeper v i a in
        let q = only first_keeper w j b in
        record {
          akin = λ y z e f. absurd (let none : v.rests ≡ None = ap (λ (u : Knows T). u.rests) (sym p.1) in let clash = sym none ∙ e in cc);
          apart = λ e. p.0 ∙ sym q.0;
          below = λ m. let number : w.number ≡ 0 = ap (λ (u : Knows T). u.number) (sym q.1) in let next : v.next ≡ 1 = ap (λ (u : Knows T). u.next) (sym p.1) in omega (arith, number, next);
          one = λ m n. p.0 ∙ sym q.0;
        };
    fresh = λ port v at none. let is = (only first_keeper v port at).1 in (refl, ap (λ (u : Knows T). u ∷ []) is, ap (λ (u : Knows T). u.turns) (sym is));
  }

  -- what the keeper that puts a thing to rest knows of it
  own_finds : (v : Knows T) (x : Rested T) → ((t : T) → follows t t) → (v.makes ≡ true → x.number < v.next) → Finds shares follows (putting v x) x
  own_finds v x itself below = record {
    akin = λ y e. let is : x.item ≡ y = cc in subst (λ (z : T). Akin shares z x.item) is (akin_itself x.item);
    stamp = λ e. omega arith;
    last = λ e s y at. let is : x.item ≡ y = cc in subst (λ (z : T). follows z x.item) is (itself x.item);
    below = below;
  }

  alone : (v : Knows T) (x : Rested T) → ((t : T) → follows t t) → v.number ≡ 0 → v.next ≡ 1 → x.number ≡ 0 → Holds (x ∷ []) (putting v x ∷ [])
  alone v x itself number next zeroth =
      let w : Knows T = putting v x in
      let mine : Finds shares follows w x = own_finds v x itself (λ m. omega (arith, zeroth, next)) in
      record {
        resting = λ i y e port u at. let is = (only x y i e).1 in let kept = (only w u port at).1 in subst (λ (p : Knows T × Rested T). Finds shares follows p.0 p.1) (λ k. (kept k, is k)) mine;
        taken = λ port u at y turns. absurd (let is = (only w u port at).1 in let none : u.turns ≡ None = ap (λ (a : Knows T). a.turns) (sym is) in let clash = sym none ∙ turns in cc);
        meet = λ i j a b e f.
            let p = only w a i e in
            let q = only w b j f in
            let both : Meets shares i j w w = record {
              akin = λ y z at bt. let one : x.item ≡ y = cc in let two : x.item ≡ z = cc in subst (λ (r : T × T). Akin shares r.0 r.1) (λ k. (one k, two k)) (akin_itself x.item);
              apart = λ same. p.0 ∙ sym q.0;
              below = λ m. omega (arith, number, next);
              one = λ m n. p.0 ∙ sym q.0;
            } in
            subst (λ (r : Knows T × Knows T). Meets shares i j r.0 r.1) (λ k. (p.1 k, q.1 k)) both;
        fresh = λ port u at none. absurd (let is = (only w u port at).1 in let some_rests : u.rests ≡ Some x.item = ap (λ (a : Knows T). a.rests) (sym is) in let clash = sym none ∙ some_rests in cc);
      }

  -- the first thing is put to rest
  pub puts_first : (n port : ℕ) (v : Knows T) (x : Rested T) → ((t : T) → follows t t) → v ≡ first_keeper → x.number ≡ 0 → Pushes Holds n port v x (λ w. w ≡ putting v x)
  puts_first n port v x itself first zeroth items views room h at =
      let was = h.fresh port v at (ap (λ (u : Knows T). u.rests) first) in
      let here : port ≡ 0 = (only v v port (ap (λ (l : List (Knows T)). get_elem? l port) (sym was.1) ∙ at)).0 in
      let base : Holds (x ∷ []) (putting v x ∷ []) = alone v x itself (ap (λ (u : Knows T). u.number) first) (ap (λ (u : Knows T). u.next) first) zeroth in (
        putting v x,
        subst (λ (p : List (Rested T) × (List (Knows T) × ℕ)). Holds (p.0 ++ x ∷ []) (set p.1.0 p.1.1 (putting v x))) (λ k. (sym was.0 k, (sym was.1 k, sym here k))) base,
        refl,
      )

  -- a thing is put to rest by its keeper
  pub puts : (n port : ℕ) (v : Knows T) (x : Rested T) (s : S) → ((t : T) → follows t t) → ((a b : S) (t u : T) → shares a t → shares a u → shares b t → shares b u)
      → x.number ≡ v.number → x.stamp ≡ v.stamp + 1 → shares s x.item → KeepsOf shares s v.rests → Pushes Holds n port v x (λ w. w ≡ putting v x)
  puts n port v x s itself alike number stamp here keeps items views room h at =
      let w : Knows T = putting v x in
      let y0 : T = keeps.0 in
      let rests : v.rests ≡ Some y0 = keeps.1 in
      let to : Akin shares y0 x.item = (λ z a. alike s z y0 x.item keeps.2 here a) in
      let back : Akin shares x.item y0 = (λ z a. alike s z x.item y0 here keeps.2 a) in
      let views' : List (Knows T) = set views port w in
      let mine : Meets shares port port v v = h.meet port port v v at at in
      let below : v.makes ≡ true → x.number < v.next = (λ m. let few = mine.below m in omega (arith, few, number)) in
      let was : (y : Rested T) → AllFind shares follows views y → AllFind shares follows views' y = (λ y all. all_set (λ (j : ℕ) (u : Knows T). Finds shares follows u y) views port w
      (let f = all port v at in record {
        akin = λ z e. let is : x.item ≡ z = cc in subst (λ (t : T). Akin shares t y.item) is (λ a b. f.akin y0 rests a (back a b));
        stamp = λ e. let few = f.stamp e in omega (arith, few, stamp);
        last = λ e same z r. absurd (let few = f.stamp e in omega (arith, few, stamp, same));
        below = f.below;
      })
      (λ j u other e. all j u e)) in
      let is_new : AllFind shares follows views' x = all_set (λ (j : ℕ) (u : Knows T). Finds shares follows u x) views port w (own_finds v x itself below)
      (λ j u other e. let m = h.meet j port u v e at in record {
        akin = λ y r a b. to a (m.akin y y0 r rests a b);
        stamp = λ same. absurd (other (m.apart (same ∙ number)));
        last = λ same st y r. absurd (other (m.apart (same ∙ number)));
        below = λ makes. let few = m.below makes in omega (arith, few, number);
      }) in
      let Pair : ℕ → Knows T → Type 0 = (λ i a. (j : ℕ) (b : Knows T) → get_elem? views' j ≡ some b → Meets shares i j a b) in
      let meet : (i : ℕ) (a : Knows T) → get_elem? views' i ≡ some a → Pair i a = all_set Pair views port w
      (all_set (λ (j : ℕ) (b : Knows T). Meets shares port j w b) views port w
      (record {
        akin = λ y z e f. let one : x.item ≡ y = cc in let two : x.item ≡ z = cc in subst (λ (r : T × T). Akin shares r.0 r.1) (λ k. (one k, two k)) (akin_itself x.item);
        apart = λ same. refl;
        below = mine.below;
        one = λ m n. refl;
      })
      (λ j b other e. let m = h.meet port j v b at e in record {
        akin = λ y z r q. let is : x.item ≡ y = cc in subst (λ (t : T). Akin shares t z) is (λ a k. m.akin y0 z rests q a (back a k));
        apart = m.apart;
        below = m.below;
        one = m.one;
      }))
      (λ i a apart_i e. all_set (λ (j : ℕ) (b : Knows T). Meets shares i j a b) views port w
      (let m = h.meet i port a v e at in record {
        akin = λ y z r q. let is : x.item ≡ z = cc in subst (λ (t : T). Akin shares y t) is (λ c k. to c (m.akin y y0 r rests c k));
        apart = m.apart;
        below = m.below;
        one = m.one;
      })
      (λ j b apart_j f. h.meet i j a b e f)) in (
        w,
        record {
          resting = λ i y e. ⊎_elim (λ (old : get_elem? items i ≡ some y). was y (h.resting i y old)) (λ (is : x ≡ y). subst (λ (z : Rested T). AllFind shares follows views' z) is is_new) (at_snoc items x y i e);
          taken = all_set (λ (j : ℕ) (u : Knows T). (y : Rested T) → u.turns ≡ Some y → AllFind shares follows views' y) views port w (λ y turns. absurd (let clash : None ≡ Some y = turns in cc)) (λ j u other e y turns. was y (h.taken j u e y turns));
          meet = λ i j a b e f. meet i a e j b f;
          fresh = all_set (λ (j : ℕ) (u : Knows T). u.rests ≡ None → (items ++ x ∷ [] ≡ []) × (views' ≡ u ∷ []) × (u.turns ≡ None)) views port w (λ none. absurd (let clash : Some x.item ≡ None = none in cc))
              (λ j u other e none. absurd (other (same_place views j port u v (h.fresh j u e none).1 e at)));
        },
        refl,
      )

  -- a thing is taken out
  pub takes : (port : ℕ) (v : Knows T) → Pops Holds port v (λ x w. (w ≡ taking v x) × Finds shares follows v x)
  takes port v x items views h at =
      let w : Knows T = taking v x in
      let like : Like v w = record { number = refl; stamp = refl; makes = refl; rests = refl; next = omega arith } in
      let views' : List (Knows T) = set views port w in
      let was : (y : Rested T) → AllFind shares follows views y → AllFind shares follows views' y = (λ y all. finds_like views port v w y at like all) in (
        w,
        record {
          resting = λ i y e. was y (h.resting (suc i) y e);
          taken = all_set (λ (j : ℕ) (u : Knows T). (y : Rested T) → u.turns ≡ Some y → AllFind shares follows views' y) views port w
              (λ y turns. let is : x ≡ y = cc in subst (λ (z : Rested T). AllFind shares follows views' z) is (was x (h.resting 0 x refl)))
              (λ j u other e y turns. was y (h.taken j u e y turns));
          meet = meet_like views port v w at like h.meet;
          fresh = all_set (λ (j : ℕ) (u : Knows T). u.rests ≡ None → (items ≡ []) × (views' ≡ u ∷ []) × (u.turns ≡ None)) views port w
              (λ none. absurd (let clash : x ∷ items ≡ [] = (h.fresh port v at none).0 in cc))
              (λ j u other e none. absurd (let clash : x ∷ items ≡ [] = (h.fresh j u e none).0 in cc));
        },
        (refl, h.resting 0 x refl port v at),
      )

  -- it is put back, maybe further on
  pub gives : (n port : ℕ) (v : Knows T) (x : Rested T) (s : S) → ((t u r : T) → follows t u → follows u r → follows t r) → ((a b : S) (t u : T) → shares a t → shares a u → shares b t → shares b u)
      → HasTaken shares follows s v x → Pushes Holds n port v x (λ w. w ≡ without v)
  gives n port v x s on alike has items views room h at =
      let w : Knows T = without v in
      let like : Like v w = record { number = refl; stamp = refl; makes = refl; rests = refl; next = omega arith } in
      let views' : List (Knows T) = set views port w in
      let was : (y : Rested T) → AllFind shares follows views y → AllFind shares follows views' y = (λ y all. finds_like views port v w y at like all) in
      let further : AllFind shares follows views x = (λ j u e. let f = h.taken port v at has.old has.turns j u e in record {
        akin = λ y r a b. alike s a has.old.item x.item has.was has.is (f.akin y r a b);
        stamp = λ same. let few = f.stamp (same ∙ has.number) in let st = has.stamp in omega (arith, few, st);
        last = λ same st y r. on y has.old.item x.item (f.last (same ∙ has.number) (st ∙ has.stamp) y r) has.follows_it;
        below = λ m. let few = f.below m in let nu = has.number in omega (arith, few, nu);
      }) in (
        w,
        record {
          resting = λ i y e. ⊎_elim (λ (old : get_elem? items i ≡ some y). was y (h.resting i y old)) (λ (is : x ≡ y). subst (λ (z : Rested T). AllFind shares follows views' z) is (was x further)) (at_snoc items x y i e);
          taken = all_set (λ (j : ℕ) (u : Knows T). (y : Rested T) → u.turns ≡ Some y → AllFind shares follows views' y) views port w (λ y turns. absurd (let clash : None ≡ Some y = turns in cc)) (λ j u other e y turns. was y (h.taken j u e y turns));
          meet = meet_like views port v w at like h.meet;
          fresh = all_set (λ (j : ℕ) (u : Knows T). u.rests ≡ None → (items ++ x ∷ [] ≡ []) × (views' ≡ u ∷ []) × (u.turns ≡ None)) views port w
              (λ none. absurd (let clash : None ≡ Some has.old = sym (h.fresh port v at none).2 ∙ has.turns in cc))
              (λ j u other e none. absurd (other (same_place views j port u v (h.fresh j u e none).1 e at)));
        },
        refl,
      )

  -- the first keeper makes another
  pub forks : (port : ℕ) (v : Knows T) → v.makes ≡ true → (y : T) → v.rests ≡ Some y → Forks Holds port v (one_more v) (next_keeper v)
  forks port v makes y0 rests items views h at =
      let l : Knows T = one_more v in
      let r : Knows T = next_keeper v in
      let like : Like v l = record { number = refl; stamp = refl; makes = refl; rests = refl; next = omega arith } in
      let first : List (Knows T) = set views port l in
      let views' : List (Knows T) = first ++ r ∷ [] in
      let was : (y : Rested T) → AllFind shares follows views y → AllFind shares follows views' y = (λ y all j u e. ⊎_elim
      (λ (old : get_elem? first j ≡ some u). finds_like views port v l y at like all j u old)
      (λ (is : (j ≡ length first) × (r ≡ u)). subst (λ (k : Knows T). Finds shares follows k y) is.1 (let f = all port v at in record {
        akin = f.akin;
        stamp = λ same. absurd (let few = f.below makes in omega (arith, few, same));
        last = λ same st z q. absurd (let few = f.below makes in omega (arith, few, same));
        below = λ m. absurd (let clash : false ≡ true = m in cc);
      }))
      (at_more first r u j e)) in
      let last_one : ℕ = length first in
      let with_last : (i : ℕ) (a : Knows T) → get_elem? first i ≡ some a → Meets shares i last_one a r = all_set (λ (i : ℕ) (a : Knows T). Meets shares i last_one a r) views port l
      (let m = h.meet port port v v at at in record {
        akin = m.akin;
        apart = λ same. absurd (let few = m.below makes in omega (arith, few, same));
        below = λ e. omega arith;
        one = λ p q. absurd (let clash : false ≡ true = q in cc);
      })
      (λ i a other e. let m = h.meet i port a v e at in let k = h.meet port i v a at e in record {
        akin = m.akin;
        apart = λ same. absurd (let few = k.below makes in omega (arith, few, same));
        below = λ p. absurd (other (m.one p makes));
        one = λ p q. absurd (let clash : false ≡ true = q in cc);
      }) in
      let last_with : (j : ℕ) (b : Knows T) → get_elem? first j ≡ some b → Meets shares last_one j r b = (λ j b e. let o = was_like views port v l at like j b e in let m = h.meet port j v o.0 at o.1 in record {
        akin = λ y z p q. m.akin y z p (sym o.2.rests ∙ q);
        apart = λ same. absurd (let few = m.below makes in let nu = o.2.number in omega (arith, few, same, nu));
        below = λ p. absurd (let clash : false ≡ true = p in cc);
        one = λ p q. absurd (let clash : false ≡ true = p in cc);
      }) in
      let lasts : Meets shares last_one last_one r r = record {
        akin = (h.meet port port v v at at).akin;
        apart = λ same. refl;
        below = λ p. absurd (let clash : false ≡ true = p in cc);
        one = λ p q. refl;
      } in
      let Pair : ℕ → Knows T → Type 0 = (λ i a. (j : ℕ) (b : Knows T) → get_elem? views' j ≡ some b → Meets shares i j a b) in
      let at_last : (F : ℕ → Knows T → Type 0) → ((j : ℕ) (b : Knows T) → get_elem? first j ≡ some b → F j b) → F last_one r → (j : ℕ) (b : Knows T) → get_elem? views' j ≡ some b → F j b = (λ F olds new j b e. ⊎_elim
      (λ (old : get_elem? first j ≡ some b). olds j b old)
      (λ (is : (j ≡ last_one) × (r ≡ b)). subst (λ (k : ℕ × Knows T). F k.0 k.1) (λ i. (sym is.0 i, is.1 i)) new)
      (at_more first r b j e)) in
      let meet : (i : ℕ) (a : Knows T) → get_elem? views' i ≡ some a → Pair i a = at_last Pair
      (λ i a e. at_last (λ (j : ℕ) (b : Knows T). Meets shares i j a b) (λ j b f. meet_like views port v l at like h.meet i j a b e f) (with_last i a e))
      (at_last (λ (j : ℕ) (b : Knows T). Meets shares last_one j r b) last_with lasts) in
      record {
        resting = λ i x e. was x (h.resting i x e);
        taken = at_last (λ (j : ℕ) (u : Knows T). (x : Rested T) → u.turns ≡ Some x → AllFind shares follows views' x)
            (all_set (λ (j : ℕ) (u : Knows T). (x : Rested T) → u.turns ≡ Some x → AllFind shares follows views' x) views port l (λ x turns. was x (h.taken port v at x turns)) (λ j u other e x turns. was x (h.taken j u e x turns)))
            (λ x turns. absurd (let clash : None ≡ Some x = turns in cc));
        meet = λ i j a b e f. meet i a e j b f;
        fresh = λ j u e none. absurd (at_last (λ (j : ℕ) (u : Knows T). u.rests ≡ None → ⊥)
            (all_set (λ (j : ℕ) (u : Knows T). u.rests ≡ None → ⊥) views port l (λ n. let clash = sym rests ∙ n in cc) (λ j u other e n. other (same_place views j port u v (h.fresh j u e n).1 e at)))
            (λ n. let clash = sym rests ∙ n in cc)
            j u e none);
      }

  -- what a take tells of the thing
  pub took : (v w : Knows T) (s : S) (r : Option (Rested T)) → KeepsOf shares s v.rests → MatchOption r (w ≡ v) (λ x. (w ≡ taking v x) × Finds shares follows v x)
      → MatchOption r (w ≡ v) (λ x. (w ≡ taking v x) × Finds shares follows v x × shares s x.item)
  took v w s None keeps m = m
  took v w s (Some x) keeps m = (m.0, m.1, m.1.akin keeps.0 keeps.1 s keeps.2)

-- what a keeper may have taken out since is what it holds
pub held : {T : Type 0} (v w : Knows T) (o : Option (Rested T)) → w ≡ holding v o → w ≡ holding v w.turns
held v w o e = e ∙ ap (holding v) (sym (ap (λ u. u.turns) e))
