-- A domain's front that grows by entries that are none of its own, and none by which domain 0 leads.
use Rattle.std.proofs.Common.{◌≡◌, ◌∙◌, ◌++◌, ◌∷◌, ℕ, List, [], Option, Some, None, not, append-nil, append_assoc, ap, drop, length, refl, sym, subst}
use Rattle.std.specs.List.{list_all}
use Rattle.std.proofs.Math.Seq.{drop-append_seam}
use Rattle.std.proofs.lemmas.List.Folds.{list_all-append}
use Rattle.model_core.specs.declared.entry.Entry.{Entry}
use Rattle.model_core.specs.Fronts.{AreNotControls, IsFrontOf, is_control, unseen}
use Rattle.model_core.proofs.Graphs.GraphLemmas.{and_parts}
use Rattle.model_core.proofs.Histories.FrontLemmas.{front_trans, front_whole, unseen_rest}
use Rattle.model_core.specs.Controls.Led.{IsLed}
use Rattle.model_core.proofs.OfControls.Led.{led_trans, led_whole}
use Rattle.run_replay.specs.Gathered.{Steps}
use Rattle.run_replay.specs.Walk.{controls_of}

-- the front grew by others' entries alone
abbrev pub Grown : ℕ → List Entry → List Entry → Type 0
Grown d new old = IsFrontOf d new old × IsLed d new old

pub grown_same : (d : ℕ) (new old : List Entry) → new ≡ old → Grown d new old
grown_same d new old same = (subst (λ (h : List Entry). IsFrontOf d h old) (sym same) (front_whole d old), led_whole d new old (sym same))

pub grown_twice : (d : ℕ) (new mid old : List Entry) → Grown d new mid → Grown d mid old → Grown d new old
grown_twice d new mid old f g = (front_trans d new mid old f.0 g.0, led_trans d new mid old f.0 g.0 f.1 g.1)

-- without the last entry it grew so too
pub led_before : (d : ℕ) (mid old : List Entry) (e : Entry) → IsFrontOf d mid old → IsLed d (mid ++ e ∷ []) old → IsLed d mid old
led_before d mid old e f led first =
    let grew : mid ++ e ∷ [] ≡ old ++ (f.rest ++ e ∷ []) = ap (λ (h : List Entry). h ++ e ∷ []) f.appends ∙ append_assoc old f.rest (e ∷ []) in
    let behind : unseen (mid ++ e ∷ []) old ≡ f.rest ++ e ∷ [] = ap (drop (length old)) grew ∙ drop-append_seam old (f.rest ++ e ∷ []) in
    let all : AreNotControls (f.rest ++ e ∷ []) = subst AreNotControls behind (led first) in
    subst AreNotControls (sym (unseen_rest d mid old f)) (and_parts (list_all (λ c. not (is_control c)) f.rest) (list_all (λ c. not (is_control c)) (e ∷ [])) (sym (list_all-append (λ c. not (is_control c)) f.rest (e ∷ [])) ∙ all)).0

-- no entry is of the domain
pub steps_none : (d : ℕ) (new old : List Entry) → Grown d new old → Steps d old new []
steps_none d new old g = record {
  before = g.0.rest;
  after = [];
  others_before = g.0.others;
  others_after = refl;
  led_before = λ first. subst AreNotControls (unseen_rest d new old g.0) (g.1 first);
  led_after = λ _. refl;
  appends = g.0.appends ∙ ap (λ (h : List Entry). old ++ h) (sym (append-nil g.0.rest));
}

-- or the last one is
pub steps_one : (d : ℕ) (new mid old : List Entry) (e : Entry) → Grown d mid old → new ≡ mid ++ e ∷ [] → Steps d old new (e ∷ [])
steps_one d new mid old e g is = record {
  before = g.0.rest;
  after = [];
  others_before = g.0.others;
  others_after = refl;
  led_before = λ first. subst AreNotControls (unseen_rest d mid old g.0) (g.1 first);
  led_after = λ _. refl;
  appends = is ∙ (ap (λ (h : List Entry). h ++ e ∷ []) g.0.appends ∙ append_assoc old g.0.rest (e ∷ []));
}

-- by whether one of the collector stands
pub steps_control : (d : ℕ) (new old : List Entry) (o : Option Entry) → (o ≡ None → Grown d new old) → ((e : Entry) → o ≡ Some e → (mid : List Entry) × (Grown d mid old × (new ≡ mid ++ e ∷ []))) → Steps d old new (controls_of o ++ [])
steps_control d new old None none some = steps_none d new old (none refl)
steps_control d new old (Some e) none some = let m = some e refl in steps_one d new m.0 old e m.1.0 m.1.1
