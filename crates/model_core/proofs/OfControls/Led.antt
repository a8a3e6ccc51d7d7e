-- Fronts that grow, of which domain 0 knows the entries by which collections go on.
use Rattle.std.proofs.Common.{◌≡◌, ◌∙◌, ◌++◌, ◌∷◌, ◌&&◌, ℕ, List, [], IsTrue, append_assoc, ap, drop, length, not, sym, subst}
use Rattle.std.proofs.Math.Seq.{drop-append_seam}
use Rattle.std.proofs.lemmas.List.Folds.{list_all-append}
use Rattle.model_core.specs.declared.entry.Entry.{Entry}
use Rattle.model_core.specs.Fronts.{AreNotControls, IsFrontOf, is_control, unseen}
use Rattle.model_core.proofs.Histories.FrontLemmas.{unseen_push, unseen_rest, unseen_whole}
use Rattle.model_core.specs.Controls.Led.{IsLed}

-- a front that is the whole history
pub led_whole : (d : ℕ) (history front : List Entry) → front ≡ history → IsLed d history front
led_whole d history front whole _ = unseen_whole (λ e. not (is_control e)) history front whole

-- one entry more, which is none of these
pub led_push : (d : ℕ) (history front : List Entry) (e : Entry) → IsTrue (not (is_control e)) → IsLed d history front → IsLed d (history ++ e ∷ []) front
led_push d history front e other led first = unseen_push (λ f. not (is_control f)) history front e (led first) other

-- a front that grew twice
pub led_trans : (d : ℕ) (new mid old : List Entry) → IsFrontOf d new mid → IsFrontOf d mid old → IsLed d new mid → IsLed d mid old → IsLed d new old
led_trans d new mid old f g later earlier first =
    let grew : new ≡ old ++ (g.rest ++ f.rest) = f.appends ∙ (ap (λ (h : List Entry). h ++ f.rest) g.appends ∙ append_assoc old g.rest f.rest) in
    let behind : unseen new old ≡ g.rest ++ f.rest = ap (drop (length old)) grew ∙ drop-append_seam old (g.rest ++ f.rest) in
    let past : AreNotControls g.rest = subst AreNotControls (unseen_rest d mid old g) (earlier first) in
    let last : AreNotControls f.rest = subst AreNotControls (unseen_rest d new mid f) (later first) in
    subst AreNotControls (sym behind) (list_all-append (λ e. not (is_control e)) g.rest f.rest ∙ λ i. past i && last i)
