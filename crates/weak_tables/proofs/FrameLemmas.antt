-- What calls leave of a machine one after another.
use Rattle.std.proofs.Common.{◌≡◌, ℕ, ◌+◌, ◌≤◌, List, refl, ◌∙◌, arith}
use Rattle.model_core.specs.declared.entry.Entry.{Entry}
use Rattle.model_core.specs.declared.state.Sizes.{Sizes}
use Rattle.weak_tables.specs.Frames.{Keeps, Passes, Spends}

module _ {M : Type 0} {z : M → Sizes} {labels_left ephes_room : M → ℕ} where
  pub keeps_all : (a : M) → Keeps z labels_left ephes_room a a
  keeps_all a = record { sizes = refl; labels = refl; room = omega arith }

  pub keeps_on : {a b c : M} → Keeps z labels_left ephes_room a b → Keeps z labels_left ephes_room b c → Keeps z labels_left ephes_room a c
  keeps_on x y = record { sizes = y.sizes ∙ x.sizes; labels = y.labels ∙ x.labels; room = (let r = x.room in let s = y.room in omega (arith, r, s)) }

  -- a command that may make a block, and is answered that it is made or is refused
  pub spends_one : {a b : M} (blocks ephes given full : ℕ) → z b ≡ z a → labels_left a ≡ labels_left b + given → given + full ≡ blocks → ephes_room a ≤ ephes_room b + ephes → Spends z labels_left ephes_room blocks ephes a b
  spends_one blocks ephes given full sizes labels made room = record { sizes = sizes; labels = omega (arith, labels, made); room = room }

  pub keeps_spends : {a b : M} (blocks ephes : ℕ) → Keeps z labels_left ephes_room a b → Spends z labels_left ephes_room blocks ephes a b
  keeps_spends blocks ephes x = record { sizes = x.sizes; labels = (let l = x.labels in omega (arith, l)); room = (let r = x.room in omega (arith, r)) }

  pub spends_more : {blocks ephes more most : ℕ} {a b : M} → blocks ≤ more → ephes ≤ most → Spends z labels_left ephes_room blocks ephes a b → Spends z labels_left ephes_room more most a b
  spends_more few less x = record { sizes = x.sizes; labels = (let l = x.labels in omega (arith, l, few)); room = (let r = x.room in omega (arith, r, less)) }

  -- one call after another
  pub spends_both : {n m j k : ℕ} {a b c : M} → Spends z labels_left ephes_room n j a b → Spends z labels_left ephes_room m k b c → Spends z labels_left ephes_room (n + m) (j + k) a c
  spends_both x y = record { sizes = y.sizes ∙ x.sizes; labels = (let l = x.labels in let m = y.labels in omega (arith, l, m)); room = (let r = x.room in let s = y.room in omega (arith, r, s)) }

  pub spends_on : {blocks ephes : ℕ} {a b c : M} → Spends z labels_left ephes_room blocks ephes a b → Keeps z labels_left ephes_room b c → Spends z labels_left ephes_room blocks ephes a c
  spends_on x y = record { sizes = y.sizes ∙ x.sizes; labels = (let l = x.labels in let m = y.labels in omega (arith, l, m)); room = (let r = x.room in let s = y.room in omega (arith, r, s)) }

  pub spends_behind : {blocks ephes : ℕ} {a b c : M} → Keeps z labels_left ephes_room a b → Spends z labels_left ephes_room blocks ephes b c → Spends z labels_left ephes_room blocks ephes a c
  spends_behind x y = record { sizes = y.sizes ∙ x.sizes; labels = (let l = x.labels in let m = y.labels in omega (arith, l, m)); room = (let r = x.room in let s = y.room in omega (arith, r, s)) }

  module _ {front : M → List Entry} where
    pub passes_all : (a : M) → Passes z front labels_left ephes_room a a
    passes_all a = record { keeps = keeps_all a; given = refl; written = refl }

    pub passes_on : {a b c : M} → Passes z front labels_left ephes_room a b → Passes z front labels_left ephes_room b c → Passes z front labels_left ephes_room a c
    passes_on x y = record { keeps = keeps_on x.keeps y.keeps; given = y.given ∙ x.given; written = y.written ∙ x.written }
