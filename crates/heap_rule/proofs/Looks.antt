-- A domain at the start has looked at no place of the pools.
use Rattle.std.proofs.Common.{◌≡◌, ◌∙◌, ℕ, zero, suc, ◌+◌, ◌<◌, ◌≤◌, lit<, List, [], ◌∷◌, get_or, replicate, Some, zero-le, sym, refl, subst, arith}
use Rattle.atomic_table.specs.Table.{Me}
use Rattle.model_core.specs.Domains.{class_count, IsWithinLimits}
use Rattle.heap_words.specs.declared.value.Value.{Value}
use Rattle.heap_words.specs.declared.value.Value.TheVariants.{Ref, Nothing}
use Rattle.heap_words.specs.Values.{IsPackable}
use Rattle.heap_rule.specs.declared.config.Config.{Config}
use Rattle.heap_rule.specs.declared.view.Search.{Search}
use Rattle.heap_rule.specs.Pools.{blocks_of, first_search}
use Rattle.heap_rule.specs.Changes.{value_at}
use Rattle.heap_rule.specs.Layout.{heap_words}
use Rattle.heap_rule.specs.Limits.{sizes_in}
use Rattle.heap_rule.specs.Token.{IsAddress, LooksWithin, IsSeatOf}
use Rattle.heap_words.specs.Remembered.Bounded.{Bounded}
use Rattle.heap_rule.specs.declared.view.Own.{Own}
use Rattle.heap_rule.specs.Finalisers.{FinalisersFit, held_at}
use Rattle.heap_rule.specs.declared.view.Held.{Held}
use Rattle.heap_rule.specs.declared.view.Held.TheVariants.{Final, Last, Queue}
use Rattle.heap_rule.specs.declared.view.Waiting.TheVariants.{Fin}
use Rattle.heap_rule.specs.Views.{one, domain_in, no_finalisers, opening_view}
use Rattle.heap_rule.specs.declared.view.View.{View}
use Rattle.heap_rule.proofs.Classes.{some_block}
use Rattle.heap_rule.proofs.Lists.{no_item}
use Rattle.heap_rule.proofs.Sizes.{heap_large}

pub nowhere_at : (n c : ℕ) → get_or (replicate n first_search) c first_search ≡ first_search
nowhere_at zero c = refl
nowhere_at (suc n) zero = refl
nowhere_at (suc n) (suc c) = nowhere_at n c

some_pool : (k : Config) → IsWithinLimits (sizes_in k) → 1 ≤ k.pools
some_pool k limits = let p = limits.some_pools in omega arith

pub looks_first : (k : Config) → LooksWithin k (replicate class_count first_search)
looks_first k = record {
  wide = refl;
  within = λ c few. subst (λ (s : Search). (s.pool ≤ k.pools) × (s.slot < blocks_of c)) (sym (nowhere_at class_count c)) (omega arith, (some_block c few).0);
}

-- the registers at the start
nothing_at : (n r : ℕ) → value_at (replicate n Nothing) r ≡ Nothing
nothing_at zero r = refl
nothing_at (suc n) zero = refl
nothing_at (suc n) (suc r) = nothing_at n r

no_ref : (a : ℕ) → ◌≡◌ {A = Value} Nothing (Ref a) → ⊥
no_ref a e = cc

one_ref : (a : ℕ) → ◌≡◌ {A = Value} (Ref 1) (Ref a) → 1 ≡ a
one_ref a e = cc

abbrev pub first_registers : List Value
first_registers = Ref 1 ∷ replicate 15 Nothing

first_packable : (r : ℕ) → IsPackable (value_at first_registers r)
first_packable zero = (omega arith, lit< tt)
first_packable (suc r) = subst IsPackable (sym (nothing_at 15 r)) tt

first_inside : (k : Config) → IsWithinLimits (sizes_in k) → (r a : ℕ) → value_at first_registers r ≡ Ref a → IsAddress k a
first_inside k limits zero a e = subst (IsAddress k) (one_ref a e) (let h = heap_large k limits in let x : ℕ = heap_words k in let y : 4096 ≤ x = h in (let z : 1 ≤ 1 = omega arith in z, let z : 1 + 2 ≤ x = omega arith in z))
first_inside k limits (suc r) a e = absurd (no_ref a (sym (nothing_at 15 r) ∙ e))

-- an empty list with so much room
pub empty_list : {T : Type 0} (b : Bounded T) (room : ℕ) → b.items ≡ [] → b.room ≡ room → b ≡ record { items = []; room = room }
empty_list b room none free = λ i. record { items = none i; room = free i }

-- nothing is registered
none_held : (room : ℕ) (h : Held) (a : ℕ) → held_at (no_finalisers room) h ≡ Some a → ⊥
none_held room (Final i) a e = cc
none_held room (Last i) a e = cc
none_held room (Queue i) a e = cc

fit_first : (k : Config) → FinalisersFit k (no_finalisers k.finals)
fit_first k = record {
  few = zero-le;
  finals_room = omega arith;
  lasts_room = omega arith;
  queue_room = omega arith;
  inside = λ h a e. absurd (none_held k.finals h a e);
  registers = λ i r e. absurd (no_item [] i r refl e);
  queued_registers = λ i a n r e. absurd (no_item [] i (Fin a n r) refl e);
}

pub first_seat : (k : Config) (n : ℕ) (own : Own) (me : Me (Unit {0}) View) → own ≡ (opening_view k n).own → me ≡ (one k [] (opening_view k n), []) → IsWithinLimits (sizes_in k) → n < k.domains
    → IsSeatOf k (record { own = own; seen = (domain_in me.0.domains).seen }) me
first_seat k n own me is e limits inside = subst (λ (m : Own × Me (Unit {0}) View). IsSeatOf k (record { own = m.0; seen = (domain_in m.1.0.domains).seen }) m.1) (λ i. (sym is i, sym e i)) record {
  seat = refl;
  limits = limits;
  fits = record {
    number = inside;
    used = omega arith;
    registers = record { wide = refl; packable = λ r few. first_packable r; inside = λ r a few is. first_inside k limits r a is };
    looked = looks_first k;
    remembered = λ i a e. absurd (no_item [] i a refl e);
    remembered_room = (let n : ℕ = k.minor_words in let g : n + 0 ≡ n = omega arith in g);
    prepared = refl;
    pending = omega arith;
    ephemerons = λ i a e. absurd (no_item [] i a refl e);
    finalisers = fit_first k;
    swept = record { pool = (let n : ℕ = k.pools in let g : n ≤ n = omega arith in g); slot = omega arith; top = some_pool k limits };
  };
}
