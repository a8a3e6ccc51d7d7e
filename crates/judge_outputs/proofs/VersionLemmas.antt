-- What a history explains, by the number of a script's version.
use Rattle.std.proofs.Common.{◌≡◌, ◌≢◌, ℕ, List, Bool, IsTrue, refl, arith, Result, Ok, Err}
use Rattle.std.specs.Prelude.{IfOk}
use Rattle.model_core.specs.declared.entry.Entry.{Entry}
use Rattle.model_core.specs.declared.state.Sizes.{Sizes}
use Rattle.text_script.specs.Forms.{version_number}
use Rattle.text_script.specs.Script.{Scripted}
use Rattle.text_script.specs.declared.version.Version.{Version}
use Rattle.text_script.specs.declared.version.Version.TheVariants.{One, Two, Three}
use Rattle.judge_plain.specs.History.Explains.{Explains}
use Rattle.judge_plain.specs.Spawned.Explains.{ExplainsSpawning}
use Rattle.judge_outputs.specs.Answer.{ExplainsScript, explains_by}

third : (v : Version) (z : Sizes) (script : Scripted) (bytes : List ℕ) (h : List Entry) → version_number v ≡ 3 → ExplainsSpawning z script.sections bytes h → explains_by v z script.sections bytes h
third One z script bytes h is explains = absurd (omega (arith, is))
third Two z script bytes h is explains = absurd (omega (arith, is))
third Three z script bytes h is explains = explains

older : (v : Version) (z : Sizes) (script : Scripted) (bytes : List ℕ) (h : List Entry) → version_number v ≢ 3 → Explains z script.sections bytes h → explains_by v z script.sections bytes h
older One z script bytes h other explains = explains
older Two z script bytes h other explains = explains
older Three z script bytes h other explains = absurd (other refl)

pub by_third : {E : Type 0} (r : Result Bool E) (z : Sizes) (script : Scripted) (bytes : List ℕ) (h : List Entry) → version_number script.version ≡ 3 → IfOk r (λ yes. IsTrue yes → ExplainsSpawning z script.sections bytes h)
    → IfOk r (λ yes. IsTrue yes → ExplainsScript z script bytes h)
by_third (Ok found) z script bytes h is sound = λ t. third script.version z script bytes h is (sound t)
by_third (Err e) z script bytes h is sound = tt

pub by_older : {E : Type 0} (r : Result Bool E) (z : Sizes) (script : Scripted) (bytes : List ℕ) (h : List Entry) → version_number script.version ≢ 3 → IfOk r (λ yes. IsTrue yes → Explains z script.sections bytes h)
    → IfOk r (λ yes. IsTrue yes → ExplainsScript z script bytes h)
by_older (Ok found) z script bytes h other sound = λ t. older script.version z script bytes h other (sound t)
by_older (Err e) z script bytes h other sound = tt
