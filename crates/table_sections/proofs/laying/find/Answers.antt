use Rattle.std.proofs.Common.{◌≡◌, ℕ, [], ◌∷◌, ◌∙◌, refl, sym, subst, arith}
use Rattle.model_core.specs.declared.command.Command.TheVariants as command
use Rattle.model_core.specs.declared.state.Sizes.{Sizes}
use Rattle.table_sections.specs.Places.{IsQuiet, loading}
use Rattle.table_sections.proofs.Laid.{found_by, places_same}
use Rattle.table_sections.proofs.laying.find.Goals as goal

pub make_each-requires : goal.make_each-requires
make_each-requires g c = record {
  quiet = (
    subst IsQuiet (sym c.load.ensures.command) (record { fits = (omega arith, omega arith); label = refl; room = refl }),
    (
      subst IsQuiet (sym c.load-2.ensures.command) (record { fits = (omega arith, omega arith); label = refl; room = refl }),
      (
        subst IsQuiet (sym c.load-3.ensures.command) (record { fits = (omega arith, omega arith); label = refl; room = refl }),
        (record { fits = (omega arith, omega arith); label = refl; room = refl }, tt),
      ),
    ),
  );
}

pub returns-clause-found : goal.returns-clause-found
returns-clause-found g c same =
    let z : Sizes = g.M.Machine.sizes c.args.m.now in
    let d : ℕ = g.M.Machine.domain c.args.m.now in
    let are : c.load.result ∷ c.load-2.result ∷ c.load-3.result ∷ command.GetKey 6 7 7 ∷ [] ≡ loading = λ i. c.load.ensures.command i ∷ c.load-2.ensures.command i ∷ c.load-3.ensures.command i ∷ command.GetKey 6 7 7 ∷ [] in
    found_by z _ d _ _ _ _ _ c.args.places c.places_of.result c.make_each.ensures.stays.sizes c.make_each.ensures.stays.domain c.places_of.ensures.front are c.make_each.ensures.made c.places_of.ensures.holds (places_same c.places_of.result c.args.places (sym c.eq.ensures ∙ same))
