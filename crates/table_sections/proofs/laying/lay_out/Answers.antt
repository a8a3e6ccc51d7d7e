use Rattle.std.proofs.Common.{◌≡◌, ℕ, List, [], ◌∷◌, refl, sym, subst, arith}
use Rattle.model_core.specs.declared.entry.Entry.{Entry}
use Rattle.model_core.specs.declared.state.Sizes.{Sizes}
use Rattle.table_sections.specs.Places.{HoldsPlaces, IsQuiet, MakesEach, publishing, sharing}
use Rattle.weak_maps.proofs.FrameLemmas.{performed_after, stays_trans}
use Rattle.table_sections.proofs.Laid.{makes_at}
use Rattle.table_sections.proofs.laying.lay_out.Goals as goal

pub make_each-requires : goal.make_each-requires
make_each-requires g c = record {
  quiet = (
    subst IsQuiet (sym c.store.ensures.command) (record { fits = (omega arith, omega arith); label = refl; room = refl }),
    (
      subst IsQuiet (sym c.store-2.ensures.command) (record { fits = (omega arith, omega arith); label = refl; room = refl }),
      (subst IsQuiet (sym c.store-3.ensures.command) (record { fits = (omega arith, omega arith); label = refl; room = refl }), tt),
    ),
  );
}

pub returns-clause-laid : goal.returns-clause-laid
returns-clause-laid g c p is =
    let z : Sizes = g.M.Machine.sizes c.args.m.now in
    let d : ℕ = g.M.Machine.domain c.args.m.now in
    let k1 = c.make_slots.ensures.stays in
    let k2 = stays_trans k1 c.make_slots-2.ensures.stays in
    let k3 = stays_trans k2 c.make_slots-3.ensures.stays in
    let k4 = stays_trans k3 c.make_each.ensures.stays in
    let k5 = stays_trans k4 c.make_map.ensures.stays in
    let k6 = stays_trans k5 c.make_each-2.ensures.stays in
    let are : c.store.result ∷ c.store-2.result ∷ c.store-3.result ∷ [] ≡ publishing = λ i. c.store.ensures.command i ∷ c.store-2.ensures.command i ∷ c.store-3.ensures.command i ∷ [] in
    let front = c.places_of.ensures.front in
    let shared : MakesEach z d (g.M.Machine.front c.make_map.new.m) sharing (g.M.Machine.front c.make_each-2.new.m) = makes_at z _ d _ _ _ sharing _ k5.sizes k5.domain refl c.make_each-2.ensures.made in
    let holds = c.places_of.ensures.holds p is in record {
      one = g.M.Machine.front c.make_slots.new.m;
      two = g.M.Machine.front c.make_slots-2.new.m;
      three = g.M.Machine.front c.make_slots-3.new.m;
      before = g.M.Machine.front c.make_each.new.m;
      base = g.M.Machine.front c.make_map.new.m;
      labels = (c.in_ok-make_slots.field-0, c.in_ok-make_slots-2.field-0, c.in_ok-make_slots-3.field-0, c.in_ok-make_map.field-0);
      first = (c.in_ok-make_slots.ensures.made c.in_ok-make_slots.field-0 refl);
      second = performed_after k1 (c.in_ok-make_slots-2.ensures.made c.in_ok-make_slots-2.field-0 refl);
      third = performed_after k2 (c.in_ok-make_slots-3.ensures.made c.in_ok-make_slots-3.field-0 refl);
      published = makes_at z _ d _ _ _ publishing _ k3.sizes k3.domain are c.make_each.ensures.made;
      map = performed_after k4 (c.in_ok-make_map.ensures.made c.in_ok-make_map.field-0 refl);
      shared = subst (λ (h : List Entry). MakesEach z d (g.M.Machine.front c.make_map.new.m) sharing h) (sym front) shared;
      holds = subst (λ (w : Sizes × ℕ × List Entry). HoldsPlaces w.0 p w.1 w.2) (λ i. (k6.sizes i, k6.domain i, sym front i)) holds;
    }
