-- What the load of a head tells, by the number of keys.
use Rattle.std.proofs.Common.{◌≡◌, ◌∙◌, ℕ, [], Option, Some, None, sym, subst}
use Rattle.model_core.specs.declared.entry.Entry.{Entry}
use Rattle.model_core.specs.declared.reply.Applied.TheVariants.{Replied}
use Rattle.model_core.specs.declared.reply.Reply.TheVariants.{BadType}
use Rattle.model_core.specs.Fronts.{Shape, PlainShape, RawShape, EpheShape}
use Rattle.heap_words.specs.declared.value.Value.TheVariants.{Nothing}
use Rattle.heap_rule.specs.declared.config.Config.{Config}
use Rattle.heap_rule.specs.declared.view.DomainView.{DomainView}
use Rattle.heap_rule.specs.Standing.{Entered}
use Rattle.step_ephemerons.specs.Commands.Heads.{EpheHeadCase, EpheHeadTold, KeysTold, key_of, subject}
use Rattle.do_ephemerons.specs.Found.{keys_of}

no_keys : (k : Config) (a : ℕ) (e : Entry) (s : Shape) (x y : DomainView) → EpheHeadCase k a e s x y → keys_of s ≡ None → Entered k e (Replied BadType) Nothing [] x y
no_keys k a e (PlainShape size tag) x y told is = told
no_keys k a e (RawShape size tag) x y told is = told
no_keys k a e (EpheShape keys) x y told is = cc

-- the block is no ephemeron: the entry stands there, and answers `type`
pub no_ephemeron : (k : Config) (a : ℕ) (e : Entry) (x y : DomainView) (found : ℕ) (r : Option ℕ) (t : EpheHeadTold k a e x found y) → r ≡ keys_of t.shape → r ≡ None → Entered k e (Replied BadType) Nothing [] x y
no_ephemeron k a e x y found r t keys none = no_keys k a e t.shape x y t.told (sym keys ∙ none)

some_keys : (k : Config) (a : ℕ) (e : Entry) (s : Shape) (x y : DomainView) (n : ℕ) → EpheHeadCase k a e s x y → keys_of s ≡ Some n → KeysTold k a e (subject e) (key_of e) n x y
some_keys k a e (PlainShape size tag) x y n told is = cc
some_keys k a e (RawShape size tag) x y n told is = cc
some_keys k a e (EpheShape keys) x y n told is = let same : keys ≡ n = cc in subst (λ (m : ℕ). KeysTold k a e (subject e) (key_of e) m x y) same told

-- the block is an ephemeron with so many keys
pub keys_told : (k : Config) (a : ℕ) (e : Entry) (x y : DomainView) (found : ℕ) (r : Option ℕ) (n : ℕ) (t : EpheHeadTold k a e x found y) → r ≡ keys_of t.shape → r ≡ Some n → KeysTold k a e (subject e) (key_of e) n x y
keys_told k a e x y found r n t keys some = some_keys k a e t.shape x y n t.told (sym keys ∙ some)
