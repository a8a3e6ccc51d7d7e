-- What a collection empties of an ephemeron is all that is gone of its keys, and the datum with them, however it is cut into entries.
use Rattle.std.proofs.Common.{◌≡◌, ℕ, zero, suc, ◌⊎◌, inl, inr, ⊎_elim, Bool, true, false, cond, not, List, [], ◌∷◌, map, refl, sym, ap, ◌∙◌, None, Some}
use Rattle.std.specs.Prelude.{Option, ◌||◌, slice_get, slice_set}
use Rattle.std.specs.List.{list_all, list_any}
use Rattle.std.proofs.lemmas.Bool.{and_parts}
use Rattle.model_core.specs.declared.label.Label.{Label}
use Rattle.model_core.specs.declared.graph.Node.{Node}
use Rattle.model_core.specs.declared.graph.Node.TheVariants.{Ephe}
use Rattle.model_core.specs.declared.graph.Value.{Value}
use Rattle.model_core.specs.declared.graph.Value.TheVariants.{Nothing}
use Rattle.model_core.specs.Entries.{is_rising, is_some_and, wiped_keys, has_keys}

module _ (gone : Label → Bool) where
  -- whether a key is full, and gone
  abbrev pub is_gone_key : Option Label → Bool
  is_gone_key k = is_some_and gone k

  -- of these keys some that are gone were emptied
  abbrev Emptied : List (Option Label) → List (Option Label) → Type 0
  Emptied [] [] = Unit {0}
  Emptied (k ∷ ks) (n ∷ ns) = ((n ≡ k) ⊎ ((n ≡ None) × (is_gone_key k ≡ true))) × Emptied ks ns
  Emptied _ _ = ⊥

  -- all that are
  abbrev pub all_emptied : List (Option Label) → List (Option Label)
  all_emptied ks = map (λ k. cond (is_gone_key k) None k) ks

  none_emptied : (ks : List (Option Label)) → Emptied ks ks
  none_emptied [] = tt
  none_emptied (k ∷ ks) = (inl refl, none_emptied ks)

  -- what is gone now was there at the start
  first_gone : (k n : Option Label) → (n ≡ k) ⊎ ((n ≡ None) × (is_gone_key k ≡ true)) → is_gone_key n ≡ true → is_gone_key k ≡ true
  first_gone k n (inl same) e = sym (ap is_gone_key same) ∙ e
  first_gone k n (inr emptied) e = emptied.1

  gone_before : (ks ns : List (Option Label)) (p : ℕ) → Emptied ks ns → is_some_and is_gone_key (slice_get ns p) ≡ true → is_some_and is_gone_key (slice_get ks p) ≡ true
  gone_before [] [] p m e = e
  gone_before [] (n ∷ ns) p m e = absurd m
  gone_before (k ∷ ks) [] p m e = absurd m
  gone_before (k ∷ ks) (n ∷ ns) zero m e = first_gone k n m.0 e
  gone_before (k ∷ ks) (n ∷ ns) (suc p) m e = gone_before ks ns p m.1 e

  -- one more is emptied
  one_emptied : (ks ns : List (Option Label)) (p : ℕ) → Emptied ks ns → is_some_and is_gone_key (slice_get ks p) ≡ true → Emptied ks (slice_set ns p None)
  one_emptied [] [] p m e = m
  one_emptied [] (n ∷ ns) p m e = absurd m
  one_emptied (k ∷ ks) [] p m e = absurd m
  one_emptied (k ∷ ks) (n ∷ ns) zero m e = (inr (refl, e), m.1)
  one_emptied (k ∷ ks) (n ∷ ns) (suc p) m e = (m.0, one_emptied ks ns p m.1 e)

  -- those at some places are
  places_emptied : (ks ns : List (Option Label)) (places : List ℕ) → Emptied ks ns → list_all (λ p. is_some_and is_gone_key (slice_get ns p)) places ≡ true → Emptied ks (wiped_keys places ns)
  places_emptied ks ns [] m e = m
  places_emptied ks ns (p ∷ ps) m e =
      let parts = and_parts (is_some_and is_gone_key (slice_get ns p)) (list_all (λ q. is_some_and is_gone_key (slice_get ns q)) ps) e in
      one_emptied ks (wiped_keys ps ns) p (places_emptied ks ns ps m parts.1) (gone_before ks ns p m parts.0)

  settled_key : (t : Bool) (k n : Option Label) → is_gone_key k ≡ t → (n ≡ k) ⊎ ((n ≡ None) × (is_gone_key k ≡ true)) → not (is_gone_key n) ≡ true → n ≡ cond t None k
  settled_key true k n is (inl same) e = absurd (let clash : false ≡ true = sym (ap not (ap is_gone_key same ∙ is)) ∙ e in cc)
  settled_key true k n is (inr emptied) e = emptied.0
  settled_key false k n is (inl same) e = same
  settled_key false k n is (inr emptied) e = absurd (let clash : false ≡ true = sym is ∙ emptied.1 in cc)

  -- once none is left that is gone, all of them were
  keys_known : (ks ns : List (Option Label)) → Emptied ks ns → list_all (λ k. not (is_gone_key k)) ns ≡ true → ns ≡ all_emptied ks
  keys_known [] [] m e = refl
  keys_known [] (n ∷ ns) m e = absurd m
  keys_known (k ∷ ks) [] m e = absurd m
  keys_known (k ∷ ks) (n ∷ ns) m e =
      let parts = and_parts (not (is_gone_key n)) (list_all (λ l. not (is_gone_key l)) ns) e in
      ap (λ l. l ∷ ns) (settled_key (is_gone_key k) k n refl m.0 parts.0) ∙ ap (λ (ls : List (Option Label)). cond (is_gone_key k) None k ∷ ls) (keys_known ks ns m.1 parts.1)

  any_of : (a b : Bool) → a ≡ true → (a || b) ≡ true
  any_of true b e = refl
  any_of false b e = cc

  or_later : (a b : Bool) → b ≡ true → (a || b) ≡ true
  or_later true b e = refl
  or_later false b e = e

  -- a place with a key that is gone
  some_gone : (ks : List (Option Label)) (p : ℕ) → is_some_and is_gone_key (slice_get ks p) ≡ true → list_any is_gone_key ks ≡ true
  some_gone [] p e = cc
  some_gone (k ∷ ks) zero e = any_of (is_gone_key k) (list_any is_gone_key ks) e
  some_gone (k ∷ ks) (suc p) e = or_later (is_gone_key k) (list_any is_gone_key ks) (some_gone ks p e)

  none_of : (ks : List (Option Label)) → list_all (λ k. not (is_gone_key k)) ks ≡ true → list_any is_gone_key ks ≡ false
  none_of [] e = refl
  none_of (k ∷ ks) e =
      let parts = and_parts (not (is_gone_key k)) (list_all (λ l. not (is_gone_key l)) ks) e in
      neither (is_gone_key k) (list_any is_gone_key ks) parts.0 (none_of ks parts.1)
    where
      neither : (a b : Bool) → not a ≡ true → b ≡ false → (a || b) ≡ false
      neither true b e f = cc
      neither false b e f = f

  -- an ephemeron after some entries: as it was, or with some of its gone keys emptied, of which there is one, and with no datum
  pub record IsWiped (keys : List (Option Label)) (datum : Value) (now : List (Option Label)) (left : Value) : Type 0 where
    pub emptied : Emptied keys now
    pub or_else : ((now ≡ keys) × (left ≡ datum)) ⊎ ((left ≡ Nothing) × (list_any is_gone_key keys ≡ true))

  -- what a whole collection makes of it
  abbrev pub emptied_node : Node → Node
  emptied_node (Ephe keys datum) = cond (list_any is_gone_key keys) (Ephe (all_emptied keys) Nothing) (Ephe keys datum)
  emptied_node n = n

  pub unwiped : (keys : List (Option Label)) (datum : Value) → IsWiped keys datum keys datum
  unwiped keys datum = record { emptied = none_emptied keys; or_else = inl (refl, refl) }

  -- one entry
  pub wiped_once : (keys : List (Option Label)) (datum : Value) (now : List (Option Label)) (left : Value) (places : List ℕ) → IsWiped keys datum now left → is_rising places ≡ true → has_keys gone places (Some (Ephe now left)) ≡ true
      → IsWiped keys datum (wiped_keys places now) Nothing
  wiped_once keys datum now left [] w rises has = let clash : false ≡ true = rises in cc
  wiped_once keys datum now left (p ∷ ps) w rises has =
      let parts = and_parts (is_some_and is_gone_key (slice_get now p)) (list_all (λ q. is_some_and is_gone_key (slice_get now q)) ps) has in record {
        emptied = places_emptied keys now (p ∷ ps) w.emptied has;
        or_else = inr (refl, some_gone keys p (gone_before keys now p w.emptied parts.0));
      }

  chosen : (t : Bool) (a b : Node) → t ≡ true → a ≡ cond t a b
  chosen true a b e = refl
  chosen false a b e = cc

  passed : (t : Bool) (a b : Node) → t ≡ false → b ≡ cond t a b
  passed true a b e = cc
  passed false a b e = refl

  -- once no key is left that is gone, the node is known
  pub node_known : (keys : List (Option Label)) (datum : Value) (now : List (Option Label)) (left : Value) → IsWiped keys datum now left → list_all (λ k. not (is_gone_key k)) now ≡ true → Ephe now left ≡ emptied_node (Ephe keys datum)
  node_known keys datum now left w none = ⊎_elim
      (λ (same : (now ≡ keys) × (left ≡ datum)).
      let kept : list_all (λ k. not (is_gone_key k)) keys ≡ true = sym (ap (list_all (λ k. not (is_gone_key k))) same.0) ∙ none in
      ap (λ (ks : List (Option Label)). Ephe ks left) same.0 ∙ ap (Ephe keys) same.1 ∙ passed (list_any is_gone_key keys) (Ephe (all_emptied keys) Nothing) (Ephe keys datum) (none_of keys kept))
      (λ (gone_some : (left ≡ Nothing) × (list_any is_gone_key keys ≡ true)).
      ap (λ (ks : List (Option Label)). Ephe ks left) (keys_known keys now w.emptied none) ∙ ap (Ephe (all_emptied keys)) gone_some.0 ∙ chosen (list_any is_gone_key keys) (Ephe (all_emptied keys) Nothing) (Ephe keys datum) gone_some.1)
      w.or_else
